-- What a drain shows, and what it keeps.
use Rattle.std.specs.Prelude.{◌≡◌, ℕ, Bool, true, List, Option, Result, Vec, IfSome, IfNone}
use Rattle.std.specs.Borrow.{MutBor, Fml, RestsIfErr}
use Rattle.std.specs.declared.alloc.Global.{Global}
use denote.RattleType.{RattleType}
use Rattle.rstar_base.specs.Envelopes.{Boxes}
use Rattle.rstar_base.specs.Elements.{Objects}
use Rattle.rstar_base.specs.Selections.{IsLawful}
use Rattle.rstar.specs.declared.rtree.RTree.{RTree}
use Rattle.rstar.specs.declared.iterators.drain.DrainIterator.{DrainIterator}
use Rattle.rstar.specs.contracts.rtree.RTree.{the_row as tree_row}
use Rattle.rstar.specs.Nodes.{children_of}
use Rattle.rstar.specs.Trees.{root_of, elements_in, IsWholeTree}
use Rattle.rstar.specs.Lists.{NoneSelected}
use Rattle.rstar.specs.inside.Removals.{IsWithout}
use Rattle.rstar.specs.inside.Taking.{IsPast, IsRestAt}

-- ---- what it shows: the tree that it drains, the tree's elements, and its question

-- the tree that a drain removes from
abbrev pub drained : {T F D Q E P S X : Type 0} → DrainIterator T F D Q E P S X → RTree T D E P S X
drained it = it.tree.now

-- the elements that are left in the tree of a drain
abbrev pub left_in_tree : {T F D Q E P S X : Type 0} → DrainIterator T F D Q E P S X → List T
left_in_tree it = elements_in (drained it)

-- the selection function of a drain
abbrev pub drain_question : {T F D Q E P S X : Type 0} → DrainIterator T F D Q E P S X → F
drain_question it = it.func

module _ (T D E P S X : RattleType) where
  -- a refused drain leaves the tree as it was
  abbrev pub LeavesRefused : {F Q A : Type 0} → MutBor (RTree T.Denot D.Denot E.Denot P.Denot S.Denot X.Denot)
      → Result (DrainIterator T.Denot F D.Denot Q E.Denot P.Denot S.Denot X.Denot) A → Fml
  LeavesRefused tree r =
      RestsIfErr (tree_row T D E P S X) tree (λ it. it.tree.ghost_name) r (λ n. n ≡ tree.now)

-- a drain whose selection function is lawful and selects by the test `asked`
pub record DrainsBy {T F D E P S X : Type 0} (v : Boxes E) (o : Objects T E) (accepts : F → E → Bool)
    (selects : F → T → Bool) (asked : T → Bool) (it : DrainIterator T F D (Vec ℕ Global) E P S X) : Type 0 where
  pub lawful : IsLawful v o (accepts (drain_question it)) (selects (drain_question it))
  pub asks : selects (drain_question it) ≡ asked

module _ {T F D E P S X : Type 0} (v : Boxes E) (o : Objects T E) (max : ℕ) (accepts : F → E → Bool)
    (selects : F → T → Bool) where
  -- a whole tree, with nothing that is selected right of the place from which the drain goes on, and what is kept there
  abbrev pub HasItsPlace : DrainIterator T F D (Vec ℕ Global) E P S X → Type 0
  HasItsPlace it = IsWholeTree v o max (drained it)
      × IsRestAt v o it.rest it.path.items (children_of (root_of (drained it)))
      × (IsLawful v o (accepts (drain_question it)) (selects (drain_question it))
      → IsPast (selects (drain_question it)) it.path.items (children_of (root_of (drained it))))

  -- what a drain keeps between calls of `next`
  unfoldable pub IsDraining : DrainIterator T F D (Vec ℕ Global) E P S X → Type 0
  IsDraining it = HasItsPlace it

  -- a call of `next`: it removes a selected element from the tree, which stays whole; at `None` none is left, and the
  -- tree is as it was
  pub record TakesNext (old : DrainIterator T F D (Vec ℕ Global) E P S X) (r : Option T)
      (new : DrainIterator T F D (Vec ℕ Global) E P S X) : Type 0 where
    pub taken : IsWithout (left_in_tree old) r (left_in_tree new)
    pub selected : IfSome r (λ x. selects (drain_question old) x ≡ true)
    pub ended : IfNone r (IsLawful v o (accepts (drain_question old)) (selects (drain_question old))
        → NoneSelected (selects (drain_question old)) (left_in_tree old))
    pub kept : IfNone r (drained new ≡ drained old)
    pub whole : IsWholeTree v o max (drained new)
    pub question : drain_question new ≡ drain_question old
    pub draining : IsDraining new
