-- What a selection gives, and what it counts.
-- the word for lawful selection functions
pub use Rattle.rstar_base.specs.Selections.{IsLawful}
use Rattle.std.specs.Prelude.{◌≡◌, ℕ, ◌≤◌, min, Bool, List, [], ◌∷◌, ◌⊎◌, Option, IfNone}
use Rattle.std.specs.Borrow.{Bor}
use Rattle.std.specs.Iterator.{YieldsFirstRef}
use Rattle.rstar.specs.declared.node.ParentNode.{ParentNode}
use Rattle.rstar.specs.declared.iterators.selection.SelectionIterator.{SelectionIterator}
use Rattle.rstar.specs.Nodes.{reach_of}
use Rattle.rstar_base.specs.Counts.{usize_max}
use Rattle.rstar.specs.inside.Traversals.{given_by, HasItsWay}

-- xs is ys with some items left out
abbrev pub IsPartOf : {A : Type 0} → List A → List A → Type 0
IsPartOf xs [] = xs ≡ []
IsPartOf {A} xs (y ∷ ys) = IsPartOf xs ys ⊎ ((rest : List A) × (xs ≡ y ∷ rest) × IsPartOf rest ys)

-- ---- what an iterator shows

-- the root of a selection iterator
abbrev pub root_walked : {T F E : Type 0} → SelectionIterator T F E → ParentNode T E
root_walked it = it.root.now

-- the selection function of an iterator
abbrev pub question_of : {T F E : Type 0} → SelectionIterator T F E → F
question_of it = it.func

-- how many parents an iterator has visited
abbrev pub opened_by : {T F E : Type 0} → SelectionIterator T F E → ℕ
opened_by it = it.opened

-- how many parents of its root an iterator visits in all
abbrev pub reach_by : {T F E : Type 0} → (F → E → Bool) → SelectionIterator T F E → ℕ
reach_by accepts it = reach_of (accepts (question_of it)) (root_walked it)

-- the elements that an iterator still yields, in order
unfoldable pub to_come : {T F E : Type 0}
    → (F → E → Bool) → (F → T → Bool) → SelectionIterator T F E → List T
to_come accepts selects it = given_by accepts selects it

-- what a selection iterator keeps between calls of `next`
unfoldable pub IsWalking : {T F E : Type 0} → (F → E → Bool) → SelectionIterator T F E → Type 0
IsWalking accepts it = HasItsWay accepts it

-- a selection iterator at its start: over this root, accepting these envelopes, with at most one parent visited
pub record IsMade {T F E : Type 0} (accepts : F → E → Bool) (over : ParentNode T E) (asked : E → Bool)
    (it : SelectionIterator T F E) : Type 0 where
  pub root : root_walked it ≡ over
  pub question : accepts (question_of it) ≡ asked
  pub opened : opened_by it ≤ 1
  pub at_most : opened_by it ≤ reach_of asked over

-- a call of `next`: the first element that is to come; at the end it has visited `reach_by` parents, and never more
pub record GivesNext {T F E : Type 0} (accepts : F → E → Bool) (selects : F → T → Bool)
    (old : SelectionIterator T F E) (r : Option (Bor T)) (new : SelectionIterator T F E) : Type 0 where
  pub gives : YieldsFirstRef (to_come accepts selects) old r new
  pub root : root_walked new ≡ root_walked old
  pub question : question_of new ≡ question_of old
  pub walking : IsWalking accepts new
  pub ended : IfNone r (opened_by new ≡ min (reach_by accepts old) usize_max)
  pub at_most : opened_by new ≤ reach_by accepts old
