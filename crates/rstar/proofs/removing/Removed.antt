-- What a removal leaves of a tree, and one call of a drain's `next`.
use Rattle.std.proofs.Common.{◌≡◌, ◌≢◌, ℕ, ℤ, ◌+◌, ◌<◌, ◌^◌, ◌-◌, ◌==◌, Bool, true, false, List, [], ◌∷◌, refl, sym, ◌∙◌, ap, subst, arith, length, length-append, Option, Some, None, IfSome, IfNone, is_some, if◌then◌else◌, IsPermutation, filter, ◌⊎◌, inl, inr, Vec, Global, vec_len}
use Rattle.std.specs.Borrow.{Bor}
use Rattle.std.specs.Iterator.{MakesProgress, item_count}
use Rattle.std.specs.List.{list_any}
use Rattle.std.proofs.lemmas.Bool.{cond-true, cond-false, cond_both, eq-eqb, ne_eqb}
use Rattle.std.proofs.lemmas.List.Sorted.{IsPermutation-middle}
use Rattle.rstar_base.specs.Envelopes.{Boxes, EnvelopeLaws}
use Rattle.rstar_base.specs.Elements.{Objects, ObjectLaws}
use Rattle.rstar_base.specs.Selections.{IsLawful}
use Rattle.rstar.specs.declared.algorithm.removal.Rest.{Rest}
use Rattle.rstar.specs.declared.node.ParentNode.{ParentNode}
use Rattle.rstar.specs.declared.node.RTreeNode.{RTreeNode}
use Rattle.rstar.specs.declared.rtree.RTree.{RTree}
use Rattle.rstar.specs.declared.iterators.drain.DrainIterator.{DrainIterator}
use Rattle.rstar.specs.Drains.{drained, drain_question, left_in_tree, IsDraining, TakesNext}
use Rattle.rstar.specs.Nodes.{children_of, IsElement, envelope_of, all_elements}
use Rattle.rstar.specs.inside.ParentBounds.{IsKept, IsKeptInner, AreKept}
use Rattle.rstar.specs.Trees.{root_of, elements_in, IsWholeTree}
use Rattle.rstar.specs.Heights.{levels_below}
use Rattle.rstar.specs.Lists.{NoneSelected}
use Rattle.rstar.specs.inside.Removals.{IsWithout}
use Rattle.rstar.specs.Visits.{IsOneOf}
use Rattle.rstar.specs.inside.Taking.{IsRestAt, Takes, Removes}
use Rattle.rstar.proofs.trees.Heights.{levels_are}
use Rattle.rstar.proofs.inserting.Insertion.{whole_of_kept}
use Rattle.rstar.proofs.trees.WholeTrees.{all_kept, tree_kept, narrow_of}
use Rattle.rstar.proofs.removing.Scans.{if_none, none_gives, some_one, refused}
use Rattle.rstar.proofs.visiting.FoundElements.{full, any-filter}

pub one_less : {T : Type 0} (xs ys : List T) (r : Option T) → is_some r ≡ true → IsWithout xs r ys → length xs ≡ length ys + 1
one_less xs ys None some out = cc
one_less xs ys (Some x) some out =
    let e1 = ap length out.was in let e2 = ap length out.is in let e3 = length-append out.before (x ∷ out.after) in let e4 = length-append out.before out.after in omega arith

-- what is counted goes down by one
pub counted_down : {T : Type 0} (xs ys : List T) (n m : ℕ) (r : Option T) → n ≡ length xs → m ≡ length ys → IsWithout xs r ys → IfSome r (λ x. n ≡ m + 1)
counted_down xs ys n m None old new out = tt
counted_down xs ys n m (Some x) old new out = let e = one_less xs ys (Some x) refl out in omega arith

-- as bags
pub bag_without : {T : Type 0} (xs ys : List T) (r : Option T) → IsWithout xs r ys → IfSome r (λ x. IsPermutation xs (x ∷ ys))
bag_without xs ys None out = tt
bag_without xs ys (Some x) out = rw (out.was, out.is) (IsPermutation-middle out.before x out.after)

module _ {T E : Type 0} (v : Boxes E) (o : Objects T E) where
  -- the levels of what is left of a list: those that there were, or none
  levels_left : (w h : ℕ) (old new : List (RTreeNode T E)) (levels levels' : ℕ) → levels ≡ levels_below old → old ≢ [] → AreKept v o w h old → AreKept v o w h new
      → levels' ≡ (if length new == 0 then 0 else levels) → levels' ≡ levels_below new
  levels_left w h old [] levels levels' is some k k' left = left ∙ cond-true _ 0 levels (eq-eqb _ 0 refl)
  levels_left w h old (n ∷ ns) levels levels' is some k k' left =
      left ∙ cond-false _ 0 levels (ne_eqb _ 0 (λ e. omega (arith, e))) ∙ is ∙ levels_kept h old some k ∙ sym (levels_kept h (n ∷ ns) (λ none. cc) k') where
        levels_kept : (h : ℕ) (l : List (RTreeNode T E)) → l ≢ [] → AreKept v o w h l → levels_below l ≡ h
        levels_kept h l full kept = levels_are (IsKeptInner v o w) (IsElement v o) (λ q one none. let long = ap length none in absurd (omega (arith, long, one.1))) h l full kept

module _ {T D E : Type 0} where
  -- where the root is as it was, so is the tree
  pub same_tree : {P S X : Type 0} (tree : RTree T D E P S X) (root : ParentNode T E) (r : Option T) → IfNone r (root ≡ tree.root)
      → IfNone r (record { root = root; size = tree.size; levels = tree.levels; reserve = tree.reserve; params = tree.params } ≡ tree)
  same_tree tree root None e = ap (λ (p : ParentNode T E). record { root = p; size = tree.size; levels = tree.levels; reserve = tree.reserve; params = tree.params }) e
  same_tree tree root (Some x) e = tt

module _ {T E : Type 0} {IsPoint : List ℤ → Type 0} {v : Boxes E} {o : Objects T E} (laws : EnvelopeLaws IsPoint v) (ok : ObjectLaws v o) (max : ℕ) {D P S X : Type 0} where
  -- the root of a whole tree with children, and what is below it, are kept
  pub kept_of : (tree : RTree T D E P S X) → IsWholeTree v o max tree → children_of (root_of tree) ≢ []
      → (h : ℕ) × IsKept v o tree.reserve.widest (root_of tree) × AreKept v o tree.reserve.widest h (children_of (root_of tree))
  unfolding IsWholeTree
  kept_of tree whole some =
      let h = whole.root_whole.height in (
        h,
        record { tight = whole.root_whole.tight; narrow = whole.narrow },
        all_kept v o tree.reserve.widest h (tree_kept v o tree.reserve.widest h) (children_of (root_of tree)) whole.root_whole.below whole.narrow_below,
      )

  -- where they still are, the tree is whole
  pub whole_still : (old new : RTree T D E P S X) → IsWholeTree v o max old → children_of (root_of old) ≢ [] → (h : ℕ) → AreKept v o old.reserve.widest h (children_of (root_of old))
      → IsKept v o old.reserve.widest (root_of new) → AreKept v o old.reserve.widest h (children_of (root_of new))
      → new.reserve ≡ old.reserve → new.size ≡ length (elements_in new) → new.levels ≡ (if vec_len (root_of new).children == 0 then 0 else old.levels) → IsWholeTree v o max new
  unfolding IsWholeTree
  whole_still old new whole some h below root' below' same_reserve counted left = record {
    root_whole = record { height = h; tight = root'.tight; below = whole_of_kept laws ok old.reserve.widest h (children_of (root_of new)) below' };
    counted = counted;
    leveled = levels_left v o old.reserve.widest h (children_of (root_of old)) (children_of (root_of new)) old.levels new.levels whole.leveled some below below'
        (subst (λ (k : ℕ). new.levels ≡ (if k == 0 then 0 else old.levels)) (root_of new).children.ok.0 left);
    low = subst (λ (k : ℕ). k < 2 ^ 64) (sym left) (cond_both (vec_len (root_of new).children == 0) 0 old.levels (λ k. k < 2 ^ 64) (λ none. omega arith) (λ some. whole.low));
    wide = rw same_reserve whole.wide;
    wide_fits = rw same_reserve whole.wide_fits;
    narrow = rw same_reserve root'.narrow;
    narrow_below = rw same_reserve (narrow_of v o old.reserve.widest h (children_of (root_of new)) below');
    spares = rw same_reserve whole.spares;
    none_over = rw same_reserve whole.none_over;
  }

module _ {T E : Type 0} {IsPoint : List ℤ → Type 0} {v : Boxes E} {o : Objects T E} (laws : EnvelopeLaws IsPoint v) (ok : ObjectLaws v o) (max : ℕ)
    (accepts : E → Bool) (selects : T → Bool) {D P S X : Type 0} where
  -- a removal below a root with children: what is left of the tree
  module _ (old : RTree T D E P S X) (root : ParentNode T E) (path path' : List ℕ) (rest rest' : Option (Rest E)) (r : Option T) (whole : IsWholeTree v o max old) (some : children_of (root_of old) ≢ [])
      (takes : Takes v o accepts selects (children_of (root_of old)) path rest r (children_of root) path' rest')
      (kept : (w h : ℕ) → IsKept v o w (root_of old) → AreKept v o w h (children_of (root_of old)) → IsRestAt v o rest path (children_of (root_of old)) → IsKept v o w root) where
    abbrev left_of : ℕ → ℕ → RTree T D E P S X
    left_of size levels = record { root = root; size = size; levels = levels; reserve = old.reserve; params = old.params }

    removes : (size levels : ℕ) → (IsRestAt v o rest path (children_of (root_of old)) → IsWholeTree v o max (left_of size levels)) → IfNone r (left_of size levels ≡ old)
        → Removes v o max accepts selects old path rest r (left_of size levels) path' rest'
    removes size levels still same =
        let before = kept_of laws ok max old whole some in let w = old.reserve.widest in
        record {
          whole = still;
          rests = λ spot. takes.rests w before.0 before.2 spot;
          taken = takes.taken;
          selected = takes.selected;
          kept = same;
          past = λ lawful past. takes.past lawful w before.0 before.2 past;
          missed = if_none r takes.missed (λ missed lawful past. missed lawful w before.0 before.2 past);
        }

    pub removes_one : (levels : ℕ) → is_some r ≡ true → levels ≡ (if vec_len root.children == 0 then 0 else old.levels) → Removes v o max accepts selects old path rest r (left_of (old.size - 1) levels) path' rest'
    unfolding IsWholeTree
    removes_one levels one left =
        let before = kept_of laws ok max old whole some in
        let less = one_less _ _ r one takes.taken in let all = whole.counted in
        let counted : old.size - 1 ≡ length (elements_in (left_of (old.size - 1) levels)) = omega arith in
        removes (old.size - 1) levels (λ spot. whole_still laws ok max old (left_of (old.size - 1) levels) whole some before.0 before.2
        (kept old.reserve.widest before.0 before.1 before.2 spot) (takes.whole old.reserve.widest before.0 before.2 spot) refl counted left) (some_one _ r one)

    pub removes_none : is_some r ≡ false → IfNone r (root ≡ root_of old) → Removes v o max accepts selects old path rest r (left_of old.size old.levels) path' rest'
    removes_none none same =
        let kept_tree = same_tree old root r same in
        removes old.size old.levels (λ spot. subst (IsWholeTree v o max) (sym (none_gives r none kept_tree)) whole) kept_tree

  -- nothing is selected below a root that is not entered
  pub root_refused : (tree : RTree T D E P S X) → IsWholeTree v o max tree → (children_of (root_of tree) ≡ []) ⊎ (accepts (envelope_of (root_of tree)) ≡ false)
      → IsLawful v o accepts selects → NoneSelected selects (elements_in tree)
  unfolding IsWholeTree
  root_refused tree whole (inl none) lawful = subst (λ (ns : List (RTreeNode T E)). NoneSelected selects (all_elements ns)) (sym none) tt
  root_refused tree whole (inr no_entry) lawful = refused laws ok accepts selects lawful whole.root_whole.height tree.root whole.root_whole.tight whole.root_whole.below no_entry

  -- so it is left as it is
  pub leaves : (tree : RTree T D E P S X) (path : List ℕ) (rest : Option (Rest E)) → IsWholeTree v o max tree → (children_of (root_of tree) ≡ []) ⊎ (accepts (envelope_of (root_of tree)) ≡ false)
      → Removes v o max accepts selects tree path rest None tree path rest
  leaves tree path rest whole not_entered = search (root_refused tree whole not_entered)

-- from the first element on, nothing lies left of the place
pub none_from_start : {A : Type 0} (Lawful Nothing : Type 0) (r : Option A) → IfNone r (Lawful → Unit {0} → Nothing) → IfNone r (Lawful → Nothing)
none_from_start Lawful Nothing r missed = if_none r missed (λ f lawful. f lawful tt)

-- what a lawful removal tells, its question by another name
pub some_asked : {T : Type 0} {asked selects : T → Bool} (r : Option T) → asked ≡ selects → IfSome r (λ x. asked x ≡ true) → IfSome r (λ x. selects x ≡ true)
some_asked r same = subst (λ s. IfSome r (λ x. s x ≡ true)) same

pub none_asked : {Lawful T : Type 0} {asked selects : T → Bool} (ts : List T) (r : Option T) → Lawful → asked ≡ selects → IfNone r (Lawful → NoneSelected asked ts) → IfNone r (NoneSelected selects ts)
none_asked {Lawful} ts r lawful same missed = subst (λ s. IfNone r (NoneSelected s ts)) same (if_none r missed (λ f. f lawful))

-- the one that a filter gives is there just where one passes
pub any_one : {T : Type 0} (p : T → Bool) (ys : List T) (r : Option (Bor T)) → IsOneOf (filter p ys) r → is_some r ≡ list_any p ys
any_one {T} p ys r one = by_list (filter p ys) r one ∙ any-filter p ys where
  by_list : (xs : List T) (r : Option (Bor T)) → IsOneOf xs r → is_some r ≡ full xs
  by_list [] None one = refl
  by_list [] (Some x) one = absurd (omega (arith, one.1))
  by_list (z ∷ zs) None one = cc
  by_list (z ∷ zs) (Some x) one = refl

-- ---- one call of a drain's `next`

module _ {T F D E P S X : Type 0} (v : Boxes E) (o : Objects T E) (max : ℕ) (accepts : F → E → Bool) (selects : F → T → Bool) where
  pub takes_next : (old new : DrainIterator T F D (Vec ℕ Global) E P S X) (r : Option T) → IsDraining v o max accepts selects old → drain_question new ≡ drain_question old
      → Removes v o max (accepts (drain_question old)) (selects (drain_question old)) (drained old) old.path.items old.rest r (drained new) new.path.items new.rest
      → TakesNext v o max accepts selects old r new
  unfolding IsDraining
  takes_next old new r is question removes = record {
    taken = removes.taken;
    selected = removes.selected;
    ended = if_none r removes.missed (λ missed lawful. missed lawful (is.2 lawful));
    kept = removes.kept;
    whole = removes.whole is.1;
    question = question;
    draining = (removes.whole is.1, removes.rests is.1, λ lawful. rw question (removes.past (rw question at lawful) (is.2 (rw question at lawful))));
  }

  pub goes_on : (old new : DrainIterator T F D (Vec ℕ Global) E P S X) (r : Option T) → TakesNext v o max accepts selects old r new
      → MakesProgress (IsDraining v o max accepts selects) (item_count left_in_tree) old r new
  goes_on old new None next = record { on = λ finite. tt; keeps = tt; rests = λ finite. tt }
  goes_on old new (Some x) next =
      let less = one_less (left_in_tree old) (left_in_tree new) (Some x) refl next.taken in
      record { on = λ finite. (next.draining, tt, omega arith); keeps = next.draining; rests = λ finite. tt }
