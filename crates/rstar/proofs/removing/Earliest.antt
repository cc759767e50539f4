-- The earliest of a list and of what is given below some nodes, and its removal.
use Rattle.std.proofs.Common.{◌≡◌, ◌≢◌, ℕ, ℤ, ◌+◌, ◌-◌, ◌<◌, Bool, true, false, List, [], ◌∷◌, ◌++◌, refl, sym, ◌∙◌, ap, subst, arith, length, get_or, take, Option, Some, None, option_map, is_some, filter, if◌then◌else◌, length-append, append-nil, inl, inr}
use Rattle.std.specs.Bool.{then_some}
use Rattle.std.specs.Borrow.{Bor}
use Rattle.std.specs.Cmp.{IsTotalOrder, IsStrictWeakOrder}
use Rattle.std.specs.List.{AllByRecursion}
use Rattle.std.specs.Ordering.{is_lt}
use Rattle.std.specs.declared.cmp.Ordering.{Ordering}
use Rattle.std.proofs.Math.ListN.{get_or-append}
use Rattle.std.proofs.Math.Seq.{get_or-append_seam}
use Rattle.std.proofs.lemmas.Bool.{both_ways, cases_Bool, cond_both, true_from_ne_false}
use Rattle.std.proofs.lemmas.Cmp.{tied_itself}
use Rattle.std.proofs.lemmas.List.{get_or_read, take_more, length-take-le}
use Rattle.std.proofs.lemmas.List.Concat.{flat_map-append}
use Rattle.std.proofs.lemmas.List.Elements.{Contains-append_right}
use Rattle.std.proofs.lemmas.List.MinMax.{ranks_by}
use Rattle.rstar_base.proofs.Lists.{all_map}
use Rattle.rstar_base.specs.Envelopes.{Boxes, EnvelopeLaws}
use Rattle.rstar_base.specs.Elements.{Objects, ObjectLaws}
use Rattle.rstar_base.specs.Selections.{SelectsBy}
use Rattle.rstar.specs.declared.node.RTreeNode.{RTreeNode, Leaf, Parent}
use Rattle.rstar.specs.declared.node.ParentNode.{ParentNode}
use Rattle.rstar.specs.inside.Earliest.{earlier, earliest, lent, earlier_at, IsGivenAt, IsEarliestAt, IsEarliestOf}
use Rattle.rstar.specs.inside.Taking.{Takes, TakesBelow, TakesInside}
use Rattle.rstar.specs.Lists.{IsLeast, IsNotAfter}
use Rattle.rstar.specs.Nodes.{given, all_given, given_of, all_elements, children_of, elements_of, IsWhole}
use Rattle.rstar.proofs.inserting.Insertion.{whole_of_kept}
use Rattle.rstar.proofs.selecting.Complete.{all-each, all-node, all-root}
use Rattle.rstar.proofs.trees.ByChildren.{given-Leaf, given-Parent}
use Rattle.rstar.proofs.removing.Scans.{entered, filter_none, finishes, nowhere}

-- ---- of a list

abbrev one_of : {T : Type 0} → Bool → T → T → Option T
one_of b x y = if b then Some y else Some x

module _ {T : Type 0} (R : T → T → Ordering) where
  earlier-none : (a : Option T) → earlier R a None ≡ a
  earlier-none None = refl
  earlier-none (Some x) = refl

  one_stays : (x : T) (a : Option T) → is_some (earlier R (Some x) a) ≡ true
  one_stays x None = refl
  one_stays x (Some y) = cond_both (is_lt (R y x)) (Some y) (Some x) (λ r. is_some r ≡ true) (λ sooner. refl) (λ later. refl)

  pub earliest-none : (xs : List T) → earliest R xs ≡ None → xs ≡ []
  earliest-none [] e = refl
  earliest-none (x ∷ xs) e = absurd (both_ways _ (ap is_some e) (one_stays x (earliest R xs)))

  -- of a list with an item there is one
  pub earliest-some : (xs : List T) (r : Option T) → r ≡ earliest R xs → xs ≢ [] → is_some r ≡ true
  earliest-some xs None e some = absurd (some (earliest-none xs (sym e)))
  earliest-some xs (Some x) e some = refl

module _ {T : Type 0} {R : T → T → Ordering} (o : IsTotalOrder R) where
  ranks : IsStrictWeakOrder (λ x y. is_lt (R x y))
  ranks = ranks_by o (λ (x : T). x)

  -- the earlier of x and y and then of z, by the answers of the three tests
  of_three : (x y z : T) (a b c : Bool) → is_lt (R y x) ≡ a → is_lt (R z y) ≡ b → is_lt (R z x) ≡ c
      → earlier R (one_of a x y) (Some z) ≡ earlier R (Some x) (one_of b y z)
  of_three x y z true true true p q r = ap (λ v. one_of v y z) q ∙ sym (ap (λ v. one_of v x z) r)
  of_three x y z true true false p q r = let no = ranks.chain z x y r (ranks.one_way y x p) in cc
  of_three x y z true false c p q r = ap (λ v. one_of v y z) q ∙ sym (ap (λ v. one_of v x y) p)
  of_three x y z false true c p q r = refl
  of_three x y z false false true p q r = let no = ranks.chain z y x q p in cc
  of_three x y z false false false p q r = ap (λ v. one_of v x z) r ∙ sym (ap (λ v. one_of v x y) p)

  earlier-assoc : (a b c : Option T) → earlier R (earlier R a b) c ≡ earlier R a (earlier R b c)
  earlier-assoc None b c = refl
  earlier-assoc (Some x) None c = refl
  earlier-assoc (Some x) (Some y) None = earlier-none R (one_of (is_lt (R y x)) x y)
  earlier-assoc (Some x) (Some y) (Some z) = of_three x y z (is_lt (R y x)) (is_lt (R z y)) (is_lt (R z x)) refl refl refl

  pub earliest-append : (xs ys : List T) → earliest R (xs ++ ys) ≡ earlier R (earliest R xs) (earliest R ys)
  earliest-append [] ys = refl
  earliest-append (x ∷ xs) ys = ap (earlier R (Some x)) (earliest-append xs ys) ∙ sym (earlier-assoc (Some x) (earliest R xs) (earliest R ys))

  -- none comes before it
  pub earliest-first : (xs : List T) (t : T) → earliest R xs ≡ Some t → IsLeast (IsNotAfter R) xs t
  earliest-first [] t e = cc
  earliest-first (x ∷ xs) t e = by_rest (earliest R xs) refl e (earliest-first xs) where
    put_front : x ≡ t → AllByRecursion (IsNotAfter R x) xs → IsLeast (IsNotAfter R) (x ∷ xs) t
    put_front same rest = subst (IsLeast (IsNotAfter R) (x ∷ xs)) same (record { member = (0, omega arith, refl); least = (ap is_lt (tied_itself o x), rest) })

    by_rest : (r : Option T) → earliest R xs ≡ r → earlier R (Some x) r ≡ Some t → ((c : T) → earliest R xs ≡ Some c → IsLeast (IsNotAfter R) xs c) → IsLeast (IsNotAfter R) (x ∷ xs) t
    by_rest None is e below = put_front (cc) (rw (earliest-none R xs is) tt)
    by_rest (Some c) is e below = let first = below c is in elim (cases_Bool (is_lt (R c x))) [
      | inl sooner ↦
          let here = rw sooner at e in let same : c ≡ t = cc in
          subst (IsLeast (IsNotAfter R) (x ∷ xs)) same (record { member = Contains-append_right (x ∷ []) xs c first.member; least = (ranks.one_way c x sooner, first.least) })
      | inr later ↦ put_front (let here = rw later at e in cc) (all_map (IsNotAfter R c) (IsNotAfter R x) (λ u h. ranks.chain u c x h later) xs first.least)
    ]

-- ---- of what is given below some nodes

module _ {T E : Type 0} (accepts : E → Bool) (selects : T → Bool) {R : T → T → Ordering} (o : IsTotalOrder R) where
  abbrev below : RTreeNode T E → List T
  below n = given accepts selects n

  abbrev all_below : List (RTreeNode T E) → List T
  all_below ns = all_given accepts selects ns

  module _ (ns : List (RTreeNode T E)) (n : RTreeNode T E) where
    below-push : all_below (ns ++ n ∷ []) ≡ all_below ns ++ below n
    below-push = flat_map-append (given accepts selects) ns (n ∷ []) ∙ ap (λ (l : List T). all_below ns ++ l) (append-nil (below n))

    earliest-push : (a b : Option T) → earliest R (all_below ns) ≡ a → earliest R (below n) ≡ b → earliest R (all_below (ns ++ n ∷ [])) ≡ earlier R a b
    earliest-push a b front back = ap (earliest R) below-push ∙ earliest-append o (all_below ns) (below n) ∙ ap (λ (r : Option T). earlier R r (earliest R (below n))) front ∙ ap (earlier R a) back

    -- the one that was found stays
    stays : (i : ℕ) (t : T) → IsEarliestAt accepts selects R ns i t → earliest R (all_below (ns ++ n ∷ [])) ≡ Some t → IsEarliestAt accepts selects R (ns ++ n ∷ []) i t
    stays i t found all =
        let inside = found.within in
        record {
          within = omega (arith, length-append ns (n ∷ []));
          here = λ d. ap (λ m. earliest R (below m)) (get_or-append ns (n ∷ []) d i inside) ∙ found.here d;
          all = all;
        }

    -- the next one is taken
    moves : (t : T) → earliest R (below n) ≡ Some t → earliest R (all_below (ns ++ n ∷ [])) ≡ Some t → IsEarliestAt accepts selects R (ns ++ n ∷ []) (length ns) t
    moves t here all = record {
      within = omega (arith, length-append ns (n ∷ []));
      here = λ d. ap (λ m. earliest R (below m)) (get_or-append_seam ns n [] d) ∙ here;
      all = all;
    }

    pushed : (found : Option (ℕ × Bor T)) (next : Option (Bor T)) → IsEarliestOf accepts selects R ns found → lent next ≡ earliest R (below n)
        → IsEarliestOf accepts selects R (ns ++ n ∷ []) (earlier_at R found (length ns) next)
    pushed None None none here = below-push ∙ ap (λ (l : List T). l ++ below n) none ∙ earliest-none R (below n) (sym here)
    pushed (Some found) None at here = stays found.0 found.1.now at (earliest-push (Some found.1.now) None at.all (sym here))
    pushed None (Some next) none here = moves next.now (sym here) (earliest-push None (Some next.now) (ap (earliest R) none) (sym here))
    pushed (Some found) (Some next) spot here =
        let all = earliest-push (Some found.1.now) (Some next.now) spot.all (sym here) in elim (cases_Bool (is_lt (R next.now found.1.now))) [
          | inl sooner ↦ rw sooner (moves next.now (sym here) (rw sooner at all))
          | inr later ↦ rw later (stays found.0 found.1.now spot (rw later at all))
        ]

  -- one node more
  pub one_more : (ns : List (RTreeNode T E)) (i : ℕ) (n : RTreeNode T E) (found : Option (ℕ × Bor T)) (next : Option (Bor T)) → i < length ns → n ≡ get_or ns i n
      → IsEarliestOf accepts selects R (take i ns) found → lent next ≡ earliest R (below n) → IsEarliestOf accepts selects R (take (i + 1) ns) (earlier_at R found i next)
  one_more ns i n found next within is at here =
      subst (λ (l : List (RTreeNode T E)). IsEarliestOf accepts selects R l (earlier_at R found i next)) (ap (λ m. take i ns ++ m ∷ []) is ∙ sym (take_more ns i n within))
      (subst (λ (k : ℕ). IsEarliestOf accepts selects R (take i ns ++ n ∷ []) (earlier_at R found k next)) (length-take-le i ns (omega arith))
      (pushed (take i ns) n found next at here))

  -- of one node
  pub earliest-leaf : {A : Type 0} (f : A → T) (n : RTreeNode T E) (x : A) (b : Bool) → n ≡ Leaf (f x) → b ≡ selects (f x) → option_map f (then_some b x) ≡ earliest R (below n)
  earliest-leaf f n x true is chosen = rw (is, given-Leaf T E accepts selects (f x), sym chosen)
  earliest-leaf f n x false is chosen = rw (is, given-Leaf T E accepts selects (f x), sym chosen)

  pub earliest-shut : (n : RTreeNode T E) (p : ParentNode T E) → n ≡ Parent p → accepts p.envelope ≡ false → earliest R (below n) ≡ None
  earliest-shut n p is shut = rw (is, given-Parent accepts selects p, shut)

  pub earliest-opened : (n : RTreeNode T E) (p : ParentNode T E) (ns : List (RTreeNode T E)) (r : Option T) → n ≡ Parent p → accepts p.envelope ≡ true → ns ≡ children_of p → earliest R (all_below ns) ≡ r → earliest R (below n) ≡ r
  earliest-opened n p ns r is opened same all = rw (is, given-Parent accepts selects p, opened) (rw same at all)

  -- what is the earliest at the place that was found is the earliest of all
  pub earliest-there : (ns read : List (RTreeNode T E)) (i : ℕ) (t : T) (r : Option T) (d : RTreeNode T E) → read ≡ ns → IsEarliestAt accepts selects R read i t → r ≡ earliest R (below (get_or ns i d))
      → (r ≡ earliest R (all_below ns)) × (is_some r ≡ true)
  earliest-there ns read i t r d same at first =
      let there = subst (λ (l : List (RTreeNode T E)). IsEarliestAt accepts selects R l i t) same at in
      let is : r ≡ Some t = first ∙ there.here d in
      (is ∙ sym there.all, ap is_some is)

-- ---- of a root

-- what a lawful function selects below a whole root is given
module _ {T E : Type 0} {IsPoint : List ℤ → Type 0} {v : Boxes E} {o : Objects T E} (laws : EnvelopeLaws IsPoint v) (ok : ObjectLaws v o) (R : T → T → Ordering) where
  pub earliest-selected : {accepts : E → Bool} {selects : T → Bool} {opens : E → Bool} {asks : T → Bool} → SelectsBy v o accepts selects opens asks → (root : ParentNode T E) → IsWhole v o root
      → (r : Option T) → r ≡ earliest R (given_of accepts selects root) → r ≡ earliest R (filter asks (elements_of root))
  earliest-selected {accepts} {selects} by root whole r is =
      is ∙ ap (earliest R) (all-root laws ok accepts selects by.lawful root whole ∙ ap (λ s. filter s (elements_of root)) by.selects)

-- ---- its removal

module _ {T E : Type 0} (accepts : E → Bool) (selects : T → Bool) where
  -- a leaf below which something is given is selected, and a parent is accepted
  pub leaf_selected : (n : RTreeNode T E) (t : T) → n ≡ Leaf t → given accepts selects n ≢ [] → selects t ≡ true
  leaf_selected n t leaf some = true_from_ne_false (selects t) (λ passed. some (rw (leaf, given-Leaf T E accepts selects t, passed)))

  pub given_below : (p : ParentNode T E) → given accepts selects (Parent p) ≢ [] → given accepts selects (Parent p) ≡ all_given accepts selects (children_of p)
  given_below p some =
      let opened = true_from_ne_false (accepts p.envelope) (λ shut. some (rw (given-Parent accepts selects p, shut))) in rw (given-Parent accepts selects p, opened)

  -- what is taken below a parent is the earliest of what is given at its place
  pub taken_inside : {v : Boxes E} {o : Objects T E} {changed : Bool} (R : T → T → Ordering) (ns : List (RTreeNode T E)) (i : ℕ) (p q : ParentNode T E) (r : Option T) → IsGivenAt accepts selects ns i → Parent p ≡ get_or ns i (Parent p)
      → TakesBelow v o accepts selects p [] None r q [] None changed → r ≡ earliest R (all_given accepts selects (children_of p))
      → TakesInside v o accepts selects (Parent p) [] None r (Parent q) [] None × (is_some r ≡ true) × ((d : RTreeNode T E) → r ≡ earliest R (given accepts selects (get_or ns i d)))
  taken_inside {v} {o} R ns i p q r at here below first =
      let some = λ (none : given accepts selects (Parent p) ≡ []). at.some (Parent p) (ap (given accepts selects) (sym here) ∙ none) in
      let is = first ∙ sym (ap (earliest R) (given_below p some)) in
      (entered v o accepts selects p q [] [] None None r below.takes below.kept below.same, earliest-some R (given accepts selects (Parent p)) r is some, λ d. is ∙ ap (λ n. earliest R (given accepts selects n)) (get_or_read ns i (Parent p) at.within here d))

  -- where nothing is given, nothing is taken
  pub takes_nothing : {IsPoint : List ℤ → Type 0} {v : Boxes E} {o : Objects T E} (laws : EnvelopeLaws IsPoint v) (ok : ObjectLaws v o) (ns : List (RTreeNode T E))
      → all_given accepts selects ns ≡ [] → Takes v o accepts selects ns [] None None ns [] None
  takes_nothing {v} {o} laws ok ns nothing = finishes v o accepts selects ns [] None [] None (length ns) (nowhere v o accepts selects ns (length ns)) (omega arith) (length ns) refl
      (λ lawful w h k past.
      let all_behind : length ns - length ns ≡ 0 = omega arith in rw all_behind (filter_none selects (all_elements ns)
      (sym (all-each laws ok accepts selects lawful h (all-node laws ok accepts selects lawful h) ns (whole_of_kept laws ok w h ns k)) ∙ nothing)))
