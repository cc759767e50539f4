-- Slabs of a list of elements.
use Rattle.std.proofs.Common.{◌≡◌, ◌≢◌, ◌≤◌, ◌<◌, ◌+◌, ◌*◌, ℕ, ℤ, List, [], ◌∷◌, length, take, drop, min, max, arith, sym, subst, refl, inl, inr}
use Rattle.std.specs.Int.{div_ceil}
use Rattle.std.specs.List.Sorted.{IsPermutation}
use Rattle.std.proofs.Math.Nat.{mul-le-mul, lt_of_mul-lt-mul_left}
use Rattle.std.proofs.lemmas.Bool.{cases_lt}
use Rattle.std.proofs.lemmas.Grind.{div_ceil_times}
use Rattle.std.proofs.lemmas.List.{take-append-drop, length-drop, length-append}
use Rattle.std.proofs.lemmas.List.Sorted.{length_permutation, IsPermutation-refl}
use Rattle.rstar_base.specs.Orders.{IsSplitAt}
use Rattle.rstar_base.specs.Slabs.{IsSlabOf}
use Rattle.rstar_base.proofs.Around.{parts_of_split}
use Rattle.rstar_base.proofs.Powers.{ceil_small}

module _ {T : Type 0} (key : T → ℤ) where
  -- the elements from place k on, where k leaves s of them
  pub slab_from_split : (s k : ℕ) (xs ys slab rest : List T) → k + s ≡ length xs → 0 < s → IsPermutation xs ys → IsSplitAt key k ys → rest ≡ take k ys → slab ≡ drop k ys → IsSlabOf key s xs slab rest
  slab_from_split s k xs ys slab rest fits some same split front back =
      let long = length_permutation xs ys same in
      rw (front, back) (record {
        same = subst (IsPermutation xs) (sym (take-append-drop k ys)) same;
        size = omega (arith, length-drop k ys);
        parted = parts_of_split key k ys (omega arith) split;
      })

  -- a list of at most s elements is its own last slab
  pub slab_of_all : (s : ℕ) (xs slab rest : List T) → length xs ≤ s → slab ≡ xs → rest ≡ [] → IsSlabOf key s xs slab rest
  slab_of_all s xs slab rest few all none = rw (all, none) (record {
    same = IsPermutation-refl xs;
    size = omega arith;
    parted = λ i d p. absurd (omega arith);
  })

  -- how many elements a slab leaves
  length-left : (s : ℕ) (xs slab rest : List T) → IsSlabOf key s xs slab rest → length rest + min s (length xs) ≡ length xs
  length-left s xs slab rest cut = omega (arith, length_permutation _ _ cut.same, length-append rest slab, cut.size)

positive_part : (n c q : ℕ) → 0 < n → n ≤ q * c → 0 < q
positive_part n c q some h = grind arith

some_length : {X : Type 0} (xs : List X) → xs ≢ [] → 0 < length xs
some_length [] some = absurd (some refl)
some_length (x ∷ xs) some = omega arith

-- fewer elements by a slab make fewer slabs
fewer_parts : (n m s : ℕ) → 0 < s → 0 < n → m + min s n ≡ n → div_ceil m s < div_ceil n s
fewer_parts n m s some held left =
    let low = (div_ceil_times m s some).1 in
    let high = (div_ceil_times n s some).0 in
    let one : 1 ≤ div_ceil n s = omega (arith, positive_part n s (div_ceil n s) held high) in
    let room : 1 * s ≤ div_ceil n s * s = mul-le-mul one (omega arith) in
    lt_of_mul-lt-mul_left s (elim (cases_lt n s) [
      | inl short ↦ omega (arith, low, room)
      | inr long ↦ omega (arith, low, high)
    ])

-- a slab makes the slabs that are left fewer
pub fewer_slabs : {T : Type 0} (key : T → ℤ) (s : ℕ) (xs slab rest : List T) → 0 < s → xs ≢ [] → IsSlabOf key s xs slab rest → div_ceil (length rest) s < div_ceil (length xs) s
fewer_slabs key s xs slab rest some full cut = fewer_parts _ _ s some (some_length xs full) (length-left key s xs slab rest cut)

-- no elements make no slabs
pub no_slabs : {T : Type 0} (s : ℕ) (xs rest : List T) → 0 < s → xs ≢ [] → rest ≡ [] → div_ceil (length rest) s < div_ceil (length xs) s
no_slabs s xs rest some full none =
    let held = some_length xs full in
    rw none (fewer_to_none (length xs) s some held)
  where
    fewer_to_none : (n s : ℕ) → 0 < s → 0 < n → div_ceil 0 s < div_ceil n s
    fewer_to_none n s some held =
        let none : div_ceil 0 s ≤ 0 = ceil_small 0 s 0 some (omega arith) in
        omega (arith, none, positive_part n s (div_ceil n s) held (div_ceil_times n s some).0)

-- the slabs of some elements are not empty
pub slab_size-is : {X : Type 0} (xs : List X) (n c q r : ℕ) → 0 < c → n ≡ length xs → q ≡ div_ceil n c → r ≡ max q 1 → xs ≢ [] → r ≡ div_ceil (length xs) c
slab_size-is xs n c q r some long is most full =
    let held = some_length xs full in
    rw (← long) (omega (arith, positive_part n c (div_ceil n c) (omega arith) (div_ceil_times n c some).0))

-- slabs of a c-th part of the elements, rounded up, are at most c
pub few_slabs : {X : Type 0} (xs : List X) (n c q r : ℕ) → 0 < c → n ≡ length xs → q ≡ div_ceil n c → r ≡ max q 1 → div_ceil (length xs) r ≤ c
few_slabs xs n c q r some long is most =
    let wide : div_ceil n c * c ≤ r * c = mul-le-mul (omega arith) (omega arith) in
    ceil_small (length xs) r c (omega arith) (omega (arith, (div_ceil_times n c some).0, wide))
