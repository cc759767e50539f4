-- What a walk along a ring of corners tells of a point.
use Rattle.std.proofs.Common.{◌≡◌, ◌∙◌, ◌∷◌, ◌&&◌, ◌||◌, ◌<ℤ◌, ◌≤ℤ◌, ◌+◌, ◌-◌, ◌<◌, ℕ, ℤ, Bool, true, false, List, [], suc, length, get_or, drop, add-one, not, pos, cond, refl, sym, ap, ap₂, int_lt, int_le, count_by, arith}
use Rattle.std.proofs.Math.Seq.{drop-cons}
use mathlib.Core.Bool.{beq}
use Rattle.std.specs.Int.{int_min, int_max}
use Rattle.std.specs.Ordering.{int_eq}
use Rattle.std.specs.List.{list_any, AllByRecursion}
use Rattle.std.proofs.lemmas.List.Sums.{sum_by-cons}
use Rattle.std.proofs.lemmas.Int.{ints, by_lt_z}
use Rattle.std.proofs.lemmas.Bool.Decides.{nat_tests}
use Rattle.rstar_uses.specs.Polygons.{x_of, y_of, side, is_on_edge, is_crossed, is_odd, edges_along, last_of, is_between, contains}
use Rattle.rstar_uses.proofs.Sides.{left_of_both, left_of_none, up, up-too, down, less}

-- whether one of two holds, and not both
abbrev pub differ : Bool → Bool → Bool
differ true b = not b
differ false b = b

not-same : (a b : Bool) → not (beq a b) ≡ differ a b
not-same true true = refl
not-same true false = refl
not-same false true = refl
not-same false false = refl

differ-assoc : (a b c : Bool) → differ a (differ b c) ≡ differ (differ a b) c
differ-assoc true true true = refl
differ-assoc true true false = refl
differ-assoc true false c = refl
differ-assoc false b c = refl

differ-between : (a b c : Bool) → differ (differ a b) (differ b c) ≡ differ a c
differ-between true true c = refl
differ-between true false c = refl
differ-between false true true = refl
differ-between false true false = refl
differ-between false false c = refl

differ-itself : (a : Bool) → differ a a ≡ false
differ-itself true = refl
differ-itself false = refl

odd-one : (n : ℕ) → is_odd (1 + n) ≡ not (is_odd n)
odd-one n = grind (arith, nat_tests)

odd-more : {A : Type 0} (f : A → Bool) (x : A) (xs : List A) → is_odd (count_by f (x ∷ xs)) ≡ differ (f x) (is_odd (count_by f xs))
odd-more {A} f x xs = ap is_odd (sum_by-cons (λ y. cond (f y) 1 0) x xs) ∙ by (f x)
  where
    by : (b : Bool) → is_odd (cond b 1 0 + count_by f xs) ≡ differ b (is_odd (count_by f xs))
    by true = odd-one (count_by f xs)
    by false = ap is_odd (omega arith)

-- ---- a walk from corner to corner

-- what the rest of a walk says, after so many crossings
abbrev pub rest_contains : List ℤ → List ℤ → Bool → List (List ℤ) → Bool
rest_contains p from inside rest = list_any (is_on_edge p) (edges_along from rest) || differ inside (is_odd (count_by (is_crossed p) (edges_along from rest)))

pub walk-on : (p from to : List ℤ) (inside : Bool) (rest : List (List ℤ)) → is_on_edge p (from, to) ≡ true → rest_contains p from inside (to ∷ rest) ≡ true
walk-on p from to inside rest on =
    ap (λ b. (b || list_any (is_on_edge p) (edges_along to rest)) || differ inside (is_odd (count_by (is_crossed p) (edges_along from (to ∷ rest))))) on

pub walk-goes : (p from to : List ℤ) (inside : Bool) (rest : List (List ℤ)) → is_on_edge p (from, to) ≡ false
    → rest_contains p from inside (to ∷ rest) ≡ rest_contains p to (differ inside (is_crossed p (from, to))) rest
walk-goes p from to inside rest off =
    ap₂ (λ b c. (b || list_any (is_on_edge p) (edges_along to rest)) || c) off
    (ap (differ inside) (odd-more (is_crossed p) (from, to) (edges_along to rest)) ∙ differ-assoc inside (is_crossed p (from, to)) (is_odd (count_by (is_crossed p) (edges_along to rest))))

last-is : (a : List ℤ) (corners : List (List ℤ)) (d : List ℤ) → get_or (a ∷ corners) (length corners) d ≡ last_of a corners
last-is a [] d = refl
last-is a (b ∷ corners) d = last-is b corners d

pub walk-begun : (p last : List ℤ) (corners : List (List ℤ)) → 0 < length corners → last ≡ get_or corners (length corners - 1) [] → rest_contains p last false corners ≡ contains p corners
walk-begun p last [] some e = absurd (omega arith)
walk-begun p last (a ∷ corners) some e =
    ap (λ l. rest_contains p l false (a ∷ corners)) (e ∙ ap (λ n. get_or (a ∷ corners) n []) (omega arith) ∙ last-is a corners [])

-- at one place of a list of corners
module _ (p from : List ℤ) (inside : Bool) (corners : List (List ℤ)) (i : ℕ) (more : i < length corners) (b : Bool) (kept : rest_contains p from inside (drop i corners) ≡ b) where
  abbrev to : List ℤ
  to = get_or corners i []

  now : rest_contains p from inside (to ∷ drop (suc i) corners) ≡ b
  now = ap (rest_contains p from inside) (sym (drop-cons corners i [] more)) ∙ kept

  pub on-edge : true ≡ is_on_edge p (from, to) → true ≡ b
  on-edge on = sym (walk-on p from to inside (drop (suc i) corners) (sym on)) ∙ now

  pub goes-on : (crossed : Bool) → false ≡ is_on_edge p (from, to) → crossed ≡ is_crossed p (from, to) → rest_contains p to (not (beq inside crossed)) (drop (i + 1) corners) ≡ b
  goes-on crossed off is =
      ap₂ (λ t n. rest_contains p to t (drop n corners)) (ap (λ t. not (beq inside t)) is ∙ not-same inside (is_crossed p (from, to))) (add-one i)
      ∙ sym (walk-goes p from to inside (drop (suc i) corners) (sym off)) ∙ now

-- ---- a closed walk on one side of a point

module _ (p : List ℤ) (Q : List ℤ → Type 0) (mark : List ℤ → Bool)
    (off : (a b : List ℤ) → Q a → Q b → is_on_edge p (a, b) ≡ false)
    (crossed : (a b : List ℤ) → Q a → Q b → is_crossed p (a, b) ≡ differ (mark a) (mark b)) where
  last-too : (a : List ℤ) (corners : List (List ℤ)) → Q a → AllByRecursion Q corners → Q (last_of a corners)
  last-too a [] h all = h
  last-too a (b ∷ corners) h all = last-too b corners all.0 all.1

  none-on : (a : List ℤ) (corners : List (List ℤ)) → Q a → AllByRecursion Q corners → list_any (is_on_edge p) (edges_along a corners) ≡ false
  none-on a [] h all = refl
  none-on a (b ∷ corners) h all = ap₂ (λ x y. x || y) (off a b h all.0) (none-on b corners all.0 all.1)

  -- an edge is crossed where the mark changes
  parity : (a : List ℤ) (corners : List (List ℤ)) → Q a → AllByRecursion Q corners
      → is_odd (count_by (is_crossed p) (edges_along a corners)) ≡ differ (mark a) (mark (last_of a corners))
  parity a [] h all = sym (differ-itself (mark a))
  parity a (b ∷ corners) h all =
      odd-more (is_crossed p) (a, b) (edges_along b corners) ∙ ap₂ differ (crossed a b h all.0) (parity b corners all.0 all.1)
      ∙ differ-between (mark a) (mark b) (mark (last_of b corners))

  -- a closed walk comes back to its mark
  pub outside : (corners : List (List ℤ)) → AllByRecursion Q corners → contains p corners ≡ false
  outside [] all = refl
  outside (a ∷ corners) all =
      let last = last-too a corners all.0 all.1 in
      ap₂ (λ x y. x || y) (none-on (last_of a corners) (a ∷ corners) last all)
      (parity (last_of a corners) (a ∷ corners) last all ∙ differ-itself (mark (last_of a corners)))

-- ---- the four sides

tested : (ay by py : ℤ) (s t : Bool) → (py <ℤ by → ay ≤ℤ py → s ≡ true) → (py <ℤ ay → by ≤ℤ py → t ≡ true)
    → ((int_le ay py && int_lt py by) && s || (int_le by py && int_lt py ay) && t) ≡ differ (int_lt py ay) (int_lt py by)
tested ay by py s t h k =
    by_lt_z py ay (λ l. by_lt_z py by (λ m. grind (arith, ints)) (λ m. let e = k l m in grind (arith, ints)))
    (λ l. by_lt_z py by (λ m. let e = h m l in grind (arith, ints)) (λ m. grind (arith, ints)))

tested-none : (ay by py : ℤ) (s t : Bool) → (py <ℤ by → ay ≤ℤ py → s ≡ false) → (py <ℤ ay → by ≤ℤ py → t ≡ false)
    → ((int_le ay py && int_lt py by) && s || (int_le by py && int_lt py ay) && t) ≡ false
tested-none ay by py s t h k =
    by_lt_z py ay (λ l. by_lt_z py by (λ m. grind (arith, ints)) (λ m. let e = k l m in grind (arith, ints)))
    (λ l. by_lt_z py by (λ m. let e = h m l in grind (arith, ints)) (λ m. grind (arith, ints)))

apart : (a b z : ℤ) → z <ℤ a → z <ℤ b → is_between a b z ≡ false
apart a b z h k = grind (arith, ints)

apart-too : (a b z : ℤ) → a <ℤ z → b <ℤ z → is_between a b z ≡ false
apart-too a b z h k = grind (arith, ints)

not-both : (a b : Bool) → b ≡ false → (a && b) ≡ false
not-both true b e = e
not-both false b e = refl

module _ (p : List ℤ) where
  pub right_of : (corners : List (List ℤ)) → AllByRecursion (λ c. x_of p <ℤ x_of c) corners → contains p corners ≡ false
  right_of = outside p (λ c. x_of p <ℤ x_of c) (λ c. int_lt (y_of p) (y_of c))
      (λ a b h k. ap (λ t. (t && is_between (y_of a) (y_of b) (y_of p)) && int_eq (side p a b) (pos 0)) (apart (x_of a) (x_of b) (x_of p) h k))
      (λ a b h k. tested (y_of a) (y_of b) (y_of p) (int_lt (pos 0) (side p a b)) (int_lt (pos 0) (side p b a))
      (λ l m. left_of_both _ _ _ _ (up _ _ h) (up _ _ l) (up-too _ _ (less _ _ k)) (down _ _ m))
      (λ l m. left_of_both _ _ _ _ (up _ _ k) (up _ _ l) (up-too _ _ (less _ _ h)) (down _ _ m)))

  pub left_of : (corners : List (List ℤ)) → AllByRecursion (λ c. x_of c <ℤ x_of p) corners → contains p corners ≡ false
  left_of = outside p (λ c. x_of c <ℤ x_of p) (λ _. false)
      (λ a b h k. ap (λ t. (t && is_between (y_of a) (y_of b) (y_of p)) && int_eq (side p a b) (pos 0)) (apart-too (x_of a) (x_of b) (x_of p) h k))
      (λ a b h k. tested-none (y_of a) (y_of b) (y_of p) (int_lt (pos 0) (side p a b)) (int_lt (pos 0) (side p b a))
      (λ l m. left_of_none _ _ _ _ (down _ _ (less _ _ h)) (up _ _ l) (down _ _ (less _ _ k)) (down _ _ m))
      (λ l m. left_of_none _ _ _ _ (down _ _ (less _ _ k)) (up _ _ l) (down _ _ (less _ _ h)) (down _ _ m)))

  pub above : (corners : List (List ℤ)) → AllByRecursion (λ c. y_of p <ℤ y_of c) corners → contains p corners ≡ false
  above = outside p (λ c. y_of p <ℤ y_of c) (λ _. false)
      (λ a b h k. ap (λ t. t && int_eq (side p a b) (pos 0)) (not-both (is_between (x_of a) (x_of b) (x_of p)) _ (apart (y_of a) (y_of b) (y_of p) h k)))
      (λ a b h k. tested-none (y_of a) (y_of b) (y_of p) (int_lt (pos 0) (side p a b)) (int_lt (pos 0) (side p b a))
      (λ l m. absurd (omega (arith, ints, h, m))) (λ l m. absurd (omega (arith, ints, k, m))))

  pub below : (corners : List (List ℤ)) → AllByRecursion (λ c. y_of c <ℤ y_of p) corners → contains p corners ≡ false
  below = outside p (λ c. y_of c <ℤ y_of p) (λ _. false)
      (λ a b h k. ap (λ t. t && int_eq (side p a b) (pos 0)) (not-both (is_between (x_of a) (x_of b) (x_of p)) _ (apart-too (y_of a) (y_of b) (y_of p) h k)))
      (λ a b h k. tested-none (y_of a) (y_of b) (y_of p) (int_lt (pos 0) (side p a b)) (int_lt (pos 0) (side p b a))
      (λ l m. absurd (omega (arith, ints, k, l))) (λ l m. absurd (omega (arith, ints, h, l))))

-- ---- the bounding box

-- the least and the greatest of a list's numbers, or a bound
abbrev pub least : (List ℤ → ℤ) → ℤ → List (List ℤ) → ℤ
least f high [] = high
least f high (c ∷ corners) = int_min (f c) (least f high corners)

abbrev pub greatest : (List ℤ → ℤ) → ℤ → List (List ℤ) → ℤ
greatest f low [] = low
greatest f low (c ∷ corners) = int_max (f c) (greatest f low corners)

under-least : (f : List ℤ → ℤ) (high z : ℤ) (corners : List (List ℤ)) → z <ℤ least f high corners → AllByRecursion (λ c. z <ℤ f c) corners
under-least f high z [] h = tt
under-least f high z (c ∷ corners) h = (first (f c) (least f high corners) h, under-least f high z corners (rest (f c) (least f high corners) h))
  where
    first : (a b : ℤ) → z <ℤ int_min a b → z <ℤ a
    first a b h = grind (arith, ints)

    rest : (a b : ℤ) → z <ℤ int_min a b → z <ℤ b
    rest a b h = grind (arith, ints)

over-greatest : (f : List ℤ → ℤ) (low z : ℤ) (corners : List (List ℤ)) → greatest f low corners <ℤ z → AllByRecursion (λ c. f c <ℤ z) corners
over-greatest f low z [] h = tt
over-greatest f low z (c ∷ corners) h = (first (f c) (greatest f low corners) h, over-greatest f low z corners (rest (f c) (greatest f low corners) h))
  where
    first : (a b : ℤ) → int_max a b <ℤ z → a <ℤ z
    first a b h = grind (arith, ints)

    rest : (a b : ℤ) → int_max a b <ℤ z → b <ℤ z
    rest a b h = grind (arith, ints)

reached : (a b : ℤ) (t : Bool) → t ≡ true → (a <ℤ b → t ≡ false) → int_le b a ≡ true
reached a b t h k = by_lt_z a b (λ l. let e = h in let e' = k l in cc) (λ l. grind (arith, ints))

-- a polygon that contains a point has it between its bounds
pub within_bounds : (low high : ℤ) (p : List ℤ) (corners : List (List ℤ)) → contains p corners ≡ true
    → ((int_le (least x_of high corners) (x_of p) && int_le (x_of p) (greatest x_of low corners))
    && (int_le (least y_of high corners) (y_of p) && int_le (y_of p) (greatest y_of low corners))) ≡ true
within_bounds low high p corners h =
    all (reached _ _ _ h (λ l. right_of p corners (under-least x_of high _ corners l))) (reached _ _ _ h (λ l. left_of p corners (over-greatest x_of low _ corners l)))
    (reached _ _ _ h (λ l. above p corners (under-least y_of high _ corners l))) (reached _ _ _ h (λ l. below p corners (over-greatest y_of low _ corners l)))
  where
    all : {a b c d : Bool} → a ≡ true → b ≡ true → c ≡ true → d ≡ true → ((a && b) && (c && d)) ≡ true
    all h k l m = cc
