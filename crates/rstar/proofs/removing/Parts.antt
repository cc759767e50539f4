-- Lists in parts, and places in a tree.
use borrow.Rule.Slice.PartMut.{post_of}
use Rattle.std.proofs.Math.ListN.{drop_of_length-le}
use Rattle.std.proofs.Math.Nat.{ℕ_set}
use Rattle.std.specs.Vec.{with_item}
use Rattle.std.specs.declared.alloc.Global.{Global}
use Rattle.std.proofs.Common.{◌≡◌, ℕ, zero, suc, ◌<◌, ◌≤◌, Bool, List, [], ◌∷◌, ◌++◌, refl, sym, ◌∙◌, ap, subst, arith, length, get_or, set, min, ◌-◌, take, drop, replicate, append_assoc, length-append, Option, Some, None, Vec, length-set}
use Rattle.std.specs.List.{remove}
use Rattle.std.proofs.lemmas.List.{append-nil, take_all, set_split, set-get_or, get_or_read, drop_all, take-set, take-append-le, drop-set-lt}
use Rattle.rstar_base.specs.Elements.{Objects}
use Rattle.rstar_base.specs.Envelopes.{Boxes}
use Rattle.rstar.specs.declared.algorithm.removal.Rest.{Rest}
use Rattle.rstar.specs.declared.node.RTreeNode.{RTreeNode}
use Rattle.rstar.specs.Nodes.{all_elements}
use Rattle.rstar.specs.Lists.{NoneSelected}
use Rattle.rstar.specs.inside.Removals.{IsWithout}
use Rattle.rstar.specs.inside.Taking.{IsPast, IsRest, IsRestAt, first_children, with_first, first_number, lower_numbers}

module _ {A : Type 0} where
  pub split_at : (l : List A) (i : ℕ) (a : A) → i < length l → a ≡ get_or l i a → l ≡ take i l ++ a ∷ drop (suc i) l
  split_at l i a within read = sym (set-get_or l i a) ∙ ap (set l i) (sym read) ∙ set_split l i a within

  pub remove_set : (l : List A) (i : ℕ) (a : A) → remove (set l i a) i ≡ remove l i
  remove_set l i a = ap (λ z. z ++ drop (suc i) (set l i a)) (take-set l i a) ∙ ap (λ z. take i l ++ z) (drop-set-lt (suc i) l i a (omega arith))

  pub same_read : (l : List A) (i : ℕ) (a b : A) → i < length l → a ≡ get_or l i a → b ≡ get_or l i b → a ≡ b
  same_read l i a b within here here' = get_or_read l i a within here b ∙ sym here'

  pub without_middle : (front ys ys' back : List A) (r : Option A) → IsWithout ys r ys' → IsWithout (front ++ (ys ++ back)) r (front ++ (ys' ++ back))
  without_middle front ys ys' back None same = ap (λ z. front ++ (z ++ back)) same
  without_middle front ys ys' back (Some x) out = record {
    before = front ++ out.before;
    after = out.after ++ back;
    was = ap (λ z. front ++ (z ++ back)) out.was ∙ ap (λ z. front ++ z) (append_assoc out.before (x ∷ out.after) back) ∙ sym (append_assoc front out.before (x ∷ (out.after ++ back)));
    is = ap (λ z. front ++ (z ++ back)) out.is ∙ ap (λ z. front ++ z) (append_assoc out.before out.after back) ∙ sym (append_assoc front out.before (out.after ++ back));
  }

-- the children of the node with so many behind it
abbrev pub children_at : {T E : Type 0} → List (RTreeNode T E) → ℕ → List (RTreeNode T E)
children_at ns i = first_children (drop (length ns - suc i) ns)

-- ---- no element right of a place is selected

pub past_nothing : {T : Type 0} (E : Type 0) (selects : T → Bool) (path : List ℕ) → IsPast {T = T} {E = E} selects path []
past_nothing E selects [] = tt
past_nothing {T} E selects (i ∷ path) = (
  rw (drop_all {X = RTreeNode T E} (0 - i) [] (omega arith)) tt,
  subst (λ (ns : List (RTreeNode T E)). IsPast selects path (first_children ns)) (sym (drop_all (0 - suc i) [] (omega arith))) (past_nothing E selects path),
)

module _ {T E : Type 0} (selects : T → Bool) where
  none_last : (ns : List (RTreeNode T E)) → NoneSelected selects (all_elements (drop (length ns - 0) ns))
  none_last ns = rw (drop_all (length ns - 0) ns (omega arith)) tt

  pub past_parts : (path : List ℕ) (ns : List (RTreeNode T E)) → IsPast selects path ns
      → NoneSelected selects (all_elements (drop (length ns - first_number path) ns)) × IsPast selects (lower_numbers path) (children_at ns (first_number path))
  past_parts [] ns past = (none_last ns, tt)
  past_parts (i ∷ path) ns past = past

  pub past_made : (path : List ℕ) (i : ℕ) (ns : List (RTreeNode T E)) → (0 < length path → NoneSelected selects (all_elements (drop (length ns - i) ns)))
      → IsPast selects (lower_numbers path) (children_at ns i) → IsPast selects (with_first path i) ns
  past_made [] i ns behind below = tt
  past_made (j ∷ path) i ns behind below = (behind (omega arith), below)

  pub past_zeros : (n : ℕ) (ns : List (RTreeNode T E)) → IsPast selects (replicate n 0) ns
  past_zeros zero ns = tt
  past_zeros (suc n) ns = (none_last ns, past_zeros n (children_at ns 0))

-- ---- an envelope that is kept at a place

module _ {T E : Type 0} (v : Boxes E) (o : Objects T E) where
  -- none is
  pub rest_none : (path : List ℕ) (ns : List (RTreeNode T E)) → IsRestAt v o None path ns
  rest_none [] ns = tt
  rest_none (i ∷ path) ns = (λ last. tt, rest_none path (children_at ns i))

  -- where all nodes were passed over
  pub rest_past : (rest : Option (Rest E)) (e : ℕ) (ns : List (RTreeNode T E)) → length ns ≤ e → IsRest v o rest e ns
  rest_past None e ns over = tt
  rest_past (Some r) e ns over = λ within. absurd (omega (arith, within, over))

  pub rest_nothing : (rest : Option (Rest E)) (path : List ℕ) → IsRestAt v o rest path []
  rest_nothing rest [] = tt
  rest_nothing rest (i ∷ path) = (
    λ last. rest_past rest i [] (omega arith),
    subst (λ (ns : List (RTreeNode T E)). IsRestAt v o rest path (first_children ns)) (sym (drop_all (0 - suc i) [] (omega arith))) (rest_nothing rest path),
  )

  -- at a place of one level
  pub rest_alone : (rest : Option (Rest E)) (path : List ℕ) (ns : List (RTreeNode T E)) → length path ≡ 1 → IsRest v o rest (first_number path) ns → IsRestAt v o rest path ns
  rest_alone rest [] ns one is = tt
  rest_alone rest (i ∷ []) ns one is = (λ last. is, tt)
  rest_alone rest (i ∷ j ∷ path) ns one is = absurd (omega (arith, one))

  -- one at the first number, or below
  pub rest_parts : (rest : Option (Rest E)) (path : List ℕ) (ns : List (RTreeNode T E)) → IsRestAt v o rest path ns
      → (length path ≡ 1 → IsRest v o rest (first_number path) ns) × IsRestAt v o rest (lower_numbers path) (children_at ns (first_number path))
  rest_parts rest [] ns spot = (λ one. absurd (omega (arith, one)), tt)
  rest_parts rest (i ∷ path) ns spot = (λ one. spot.0 (omega (arith, one)), spot.1)

  pub rest_made : (rest : Option (Rest E)) (path : List ℕ) (i : ℕ) (ns : List (RTreeNode T E)) → (length path ≡ 1 → IsRest v o rest i ns)
      → IsRestAt v o rest (lower_numbers path) (children_at ns i) → IsRestAt v o rest (with_first path i) ns
  rest_made rest [] i ns here below = tt
  rest_made rest (j ∷ path) i ns here below = (λ last. here (omega (arith, last)), below)

  -- it stays where more nodes were passed over, and where the nodes in front stay
  pub rest_later : (rest : Option (Rest E)) (i j : ℕ) (ns : List (RTreeNode T E)) → i ≤ j → IsRest v o rest i ns → IsRest v o rest j ns
  rest_later None i j ns on kept = tt
  rest_later (Some r) i j ns on kept = λ within. kept (omega (arith, within))

  pub rest_stays : (rest : Option (Rest E)) (front back back' : List (RTreeNode T E)) (i : ℕ) → i < length back → length back' ≤ suc i → IsRest v o rest i (front ++ back) → IsRest v o rest i (front ++ back')
  rest_stays None front back back' i more few kept = tt
  rest_stays (Some r) front back back' i more few kept = λ within.
      let long' = length-append front back' in let inside : r.count ≤ length front = omega (arith, within) in
      let before = kept (omega (arith, length-append front back)) in
      let same : take r.count (front ++ back') ≡ take r.count (front ++ back) = take-append-le r.count front back' inside ∙ sym (take-append-le r.count front back inside) in
      record { values = rw same before.values; merged = rw same before.merged }

pub lower_length : (path : List ℕ) → length (lower_numbers path) ≡ length path - 1
lower_length [] = refl
lower_length (i ∷ path) = omega arith

-- the lower levels of a place, as the part of it that a call is lent
pub lower_lent : (p : List ℕ) (n : ℕ) → n ≡ min (length p) 1 → take (length p - n) (drop n p) ≡ lower_numbers p
lower_lent [] n e = let none_taken : n ≡ 0 = omega arith in rw none_taken refl
lower_lent (x ∷ p) n e = let one : n ≡ 1 = omega arith in rw one (take_all (suc (length p) - 1) p (omega arith))

pub lower_left : (p r : List ℕ) (n : ℕ) → n ≡ min (length p) 1 → length r ≡ length (take (length p - n) (drop n p))
    → lower_numbers (take n p ++ (r ++ post_of n (length p - n) p)) ≡ r
lower_left [] [] n e l = let none_taken : n ≡ 0 = omega arith in rw none_taken refl
lower_left [] (y ∷ r) n e l = let none_taken : n ≡ 0 = omega arith in let longer = rw none_taken at l in absurd (omega (arith, longer))
lower_left (x ∷ p) r n e l =
    let one : n ≡ 1 = omega arith in
    rw one (ap (λ z. r ++ z) (drop_of_length-le p {i = suc (length p) - 1} (omega arith)) ∙ append-nil r)

-- a vector with an item written to where it stood
abbrev holding : {A : Type 0} (v : Vec A Global) (ys : List A) → v.len ≡ length ys → Vec A Global
holding v ys ok = record { ptr = v.ptr; len = v.len; cap = v.cap; alloc = v.alloc; items = ys; ok = (ok, v.ok.1); small = v.small }

pub same_item : {A : Type 0} (v : Vec A Global) (i : ℕ) (w d : A) → w ≡ get_or v.items i d → with_item v i w ≡ v
same_item {A} v i w d e =
    subst (λ (ys : List A). (ok : v.len ≡ length ys) → holding v ys ok ≡ v) (sym (ap (set v.items i) e ∙ set-get_or v.items i d))
    (λ ok. ap (holding v v.items) (ℕ_set _ _ ok v.ok.0)) (v.ok.0 ∙ sym (length-set v.items i w))
