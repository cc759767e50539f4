-- A number, a coordinate and a point that are read are those that were written, and what was written is read again.
use Rattle.std.proofs.Common.{◌≡◌, ℕ, ℤ, ◌+◌, ◌^◌, ◌<◌, ◌≤◌, Bool, true, false, cond, ltb, List, [], ◌∷◌, ◌++◌, length, get_or, take, drop, Result, Ok, Err, refl, sym, ap, subst, ◌∙◌, append_assoc, append-nil, arith, inl, inr}
use Rattle.std.specs.Prelude.{FitsSigned, MatchResult}
use Rattle.std.specs.Int.{w64, from_le_bytes, cast_signed, cast_unsigned}
use Rattle.std.proofs.lemmas.Bool.{cases_lt, ltb-true, ltb-false, le-ltb}
use Rattle.std.proofs.lemmas.Int.{of_z-to_z, to_z-of_z}
use Rattle.std.proofs.Math.Facts.{sfits_to_z, Fits-of_z, Fits-of_lt, Fits-lt-pow}
use Rattle.std.proofs.Math.Seq.{take-append_seam, drop-append_seam}
use Rattle.std.proofs.lemmas.List.{take_at, drop_at, take-append-drop, length-append, length-take, get_or-drop, get_or-take, get_or_past}
use Rattle.std.proofs.lemmas.List.Elements.{All-from_recursion, recursion_from_All}
use Rattle.std.proofs.lemmas.Nat.{le_bytes_8, from_le_bytes-to_le_bytes_8}
use Rattle.num_traits.specs.Ints.{signed-bounds}
use Rattle.rstar_base.specs.Points.{IsPoint}
use Rattle.rstar_base.specs.Scalars.{InRange}
use Rattle.rstar.specs.declared.stored.StoredError.{StoredError}
use Rattle.rstar.specs.declared.stored.StoredError.TheVariants.{Truncated}
use Rattle.rstar.specs.Stored.{Place, low, high, number, point}
use Rattle.rstar.specs.StoredReading.{◌>>=◌, number_at, coordinate_at, point_at}

-- ---- bytes

abbrev pub IsBytes : List ℕ → Type 0
IsBytes bytes = (i : ℕ) → get_or bytes i 0 < 256

pub IsBytes-drop : (n : ℕ) (bytes : List ℕ) → IsBytes bytes → IsBytes (drop n bytes)
IsBytes-drop n bytes h i = rw get_or-drop (h (n + i))

IsBytes-take : (n : ℕ) (bytes : List ℕ) → IsBytes bytes → IsBytes (take n bytes)
IsBytes-take n bytes h i =
    elim (cases_lt i n) [
      | inl lt ↦ rw (get_or-take n bytes i 0 lt) (h i)
      | inr le ↦ rw (get_or_past (take n bytes) i 0 (omega (arith, length-take n bytes))) (omega arith)
    ]

pub IsBytes-front : (a b : List ℕ) → IsBytes (a ++ b) → IsBytes a
IsBytes-front a b h = subst IsBytes (take-append_seam a b) (IsBytes-take (length a) (a ++ b) h)

pub IsBytes-back : (a b : List ℕ) → IsBytes (a ++ b) → IsBytes b
IsBytes-back a b h = subst IsBytes (drop-append_seam a b) (IsBytes-drop (length a) (a ++ b) h)

-- what a reader took from the front
pub record Takes (bytes text rest : List ℕ) : Type 0 where
  pub parts : bytes ≡ text ++ rest
  pub rest_fits : IsBytes rest

pub Takes-then : {a x b y c : List ℕ} → Takes a x b → Takes b y c → Takes a (x ++ y) c
Takes-then {x = x} {y = y} {c = c} p q = record { parts = p.parts ∙ ap (λ (t : List ℕ). x ++ t) q.parts ∙ sym (append_assoc x y c); rest_fits = q.rest_fits }

pub Takes-long : {bytes text rest : List ℕ} → Takes bytes text rest → length bytes ≡ length text + length rest
Takes-long {text = text} {rest = rest} t = ap length t.parts ∙ length-append text rest

-- ---- the steps of a reader

-- what an answer tells: this of a value, that of a refusal
pub record Tells {A : Type 0} (answer : Result A StoredError) (Good : A → Type 0) (Bad : StoredError → Type 0) : Type 0 where
  pub told : MatchResult answer Good Bad

module _ {A : Type 0} {Good : A → Type 0} {Bad : StoredError → Type 0} where
  -- a value goes on to the next step, and a refusal is handed on
  pub tells_then : {B : Type 0} {Next : B → Type 0} {Worse : StoredError → Type 0} (r : Result A StoredError) (f : A → Result B StoredError)
      → Tells r Good Bad → ((x : A) → Good x → Tells (f x) Next Worse) → ((e : StoredError) → Bad e → Worse e) → Tells (r >>= f) Next Worse
  tells_then (Ok x) f t next worse = next x t.told
  tells_then (Err e) f t next worse = record { told = worse e t.told }

  -- a test, at which a reader may refuse
  pub refused_if : (b : Bool) (d : StoredError) (r : Result A StoredError) → (b ≡ true → Bad d) → (b ≡ false → Tells r Good Bad) → Tells (cond b (Err d) r) Good Bad
  refused_if true d r bad good = record { told = bad refl }
  refused_if false d r bad good = good refl

  pub refused_unless : (b : Bool) (d : StoredError) (r : Result A StoredError) → (b ≡ false → Bad d) → (b ≡ true → Tells r Good Bad) → Tells (cond b r (Err d)) Good Bad
  refused_unless true d r bad good = good refl
  refused_unless false d r bad good = record { told = bad refl }

  -- an answer that cannot be a refusal, or no value
  pub must_give : (r : Result A StoredError) → Tells r Good Bad → ((e : StoredError) → Bad e → ⊥) → (x : A) × (r ≡ Ok x) × Good x
  must_give (Ok x) t none = (x, refl, t.told)
  must_give (Err e) t none = absurd (none e t.told)

  pub must_refuse : (r : Result A StoredError) → Tells r Good Bad → ((x : A) → Good x → ⊥) → (e : StoredError) × (r ≡ Err e) × Bad e
  must_refuse (Ok x) t none = absurd (none x t.told)
  must_refuse (Err e) t none = (e, refl, t.told)

abbrev done : {A : Type 0} → A → Result A StoredError
done x = Ok x

pub ok_is : {A : Type 0} (x y : A) → done x ≡ done y → x ≡ y
ok_is x y e = cc

-- ---- numbers

pub number_long : (n : ℕ) → length (number n) ≡ 8
unfolding number
number_long n = refl

below : (bytes : List ℕ) → IsBytes bytes → from_le_bytes w64 bytes < 2 ^ 64
below bytes fits = omega (arith, fits 0, fits 1, fits 2, fits 3, fits 4, fits 5, fits 6, fits 7)

number_back : (bytes : List ℕ) → length bytes ≡ 8 → IsBytes bytes → number (from_le_bytes w64 bytes) ≡ bytes
unfolding number
number_back bytes len fits = le_bytes_8 bytes _ len fits refl

number_forth : (n : ℕ) → n < 2 ^ 64 → from_le_bytes w64 (number n) ≡ n
unfolding number
number_forth n lt = from_le_bytes-to_le_bytes_8 n lt

pub number_tells : (bytes : List ℕ) → IsBytes bytes → Tells (number_at bytes) (λ x. Takes bytes (number x.0) x.1 × (x.0 < 2 ^ 64)) (λ e. (e ≡ Truncated) × (length bytes < 8))
unfolding number_at
number_tells bytes fits = refused_if (ltb (length bytes) 8) Truncated _
    (λ few. (refl, ltb-true (length bytes) 8 few))
    (λ enough.
    let long : 8 ≤ length bytes = ltb-false (length bytes) 8 enough in
    let fit = IsBytes-take 8 bytes fits in
    let front : number (from_le_bytes w64 (take 8 bytes)) ≡ take 8 bytes = number_back (take 8 bytes) (omega (arith, long, length-take 8 bytes)) fit in
    record {
      told = (record { parts = sym (take-append-drop 8 bytes) ∙ ap (λ (t : List ℕ). t ++ drop 8 bytes) (sym front); rest_fits = IsBytes-drop 8 bytes fits }, below (take 8 bytes) fit);
    })

pub number_again : (n : ℕ) (rest : List ℕ) → n < 2 ^ 64 → number_at (number n ++ rest) ≡ Ok (n, rest)
unfolding number_at
number_again n rest lt =
    let len = number_long n in
    let long : ltb (length (number n ++ rest)) 8 ≡ false = le-ltb _ _ (omega (arith, len, length-append (number n) rest)) in
    rw (long, take_at (number n) rest 8 len, drop_at (number n) rest 8 len, number_forth n lt) refl

-- ---- coordinates

abbrev pub bytes_of : ℤ → List ℕ
bytes_of z = number (cast_unsigned w64 z)

coordinate_tells : (bytes : List ℕ) → IsBytes bytes → Tells (coordinate_at bytes) (λ x. Takes bytes (bytes_of x.0) x.1 × InRange low high x.0) (λ e. (e ≡ Truncated) × (length bytes < 8))
unfolding coordinate_at
coordinate_tells bytes fits = tells_then (number_at bytes) _ (number_tells bytes fits)
    (λ n t.
    let in_type : FitsSigned w64 (cast_signed w64 n.0) = sfits_to_z {w = w64} {n = n.0} (Fits-of_lt {w = w64} {n = n.0} t.1) in
    let ends = (signed-bounds w64 (cast_signed w64 n.0)).0 in_type in
    record { told = (subst (λ (k : ℕ). Takes bytes (number k) n.1) (sym (of_z-to_z w64 n.0 t.1)) t.0, record { above = ends.0; below = ends.1 }) })
    (λ e few. few)

coordinate_again : (z : ℤ) (rest : List ℕ) → InRange low high z → coordinate_at (bytes_of z ++ rest) ≡ Ok (z, rest)
unfolding coordinate_at
coordinate_again z rest r =
    let in_type : FitsSigned w64 z = (signed-bounds w64 z).1 (r.above, r.below) in
    rw (number_again (cast_unsigned w64 z) rest (Fits-lt-pow {w = w64} {n = cast_unsigned w64 z} (Fits-of_z {w = w64} {z = z} in_type)), to_z-of_z w64 z in_type) refl

-- ---- points

pub two_of : (p : Place) → length p ≡ 2 → (x y : ℤ) × (p ≡ x ∷ y ∷ [])
two_of [] long = absurd (omega (arith, long))
two_of (x ∷ []) long = absurd (omega (arith, long))
two_of (x ∷ y ∷ []) long = (x, y, refl)
two_of (x ∷ y ∷ z ∷ p) long = absurd (omega (arith, long))

-- the two coordinates of a point
pub coordinates_of : (p : Place) → IsPoint low high 2 p → (x y : ℤ) × (p ≡ x ∷ y ∷ []) × InRange low high x × InRange low high y
coordinates_of p is =
    let (x, y, two) = two_of p is.long in
    let each = recursion_from_All (λ z. InRange low high z) (x ∷ y ∷ []) (rw two at is.ranged) in
    (x, y, two, each.0, each.1.0)

two_ranged : (x y : ℤ) → InRange low high x → InRange low high y → IsPoint low high 2 (x ∷ y ∷ [])
two_ranged x y a b = record { long = refl; ranged = All-from_recursion (λ z. InRange low high z) (x ∷ y ∷ []) (a, (b, tt)) }

pub point_two : (x y : ℤ) → point (x ∷ y ∷ []) ≡ bytes_of x ++ bytes_of y
unfolding point
point_two x y = ap (λ (t : List ℕ). bytes_of x ++ t) (append-nil (bytes_of y))

pub point_tells : (bytes : List ℕ) → IsBytes bytes → Tells (point_at bytes) (λ p. Takes bytes (point p.0) p.1 × IsPoint low high 2 p.0) (λ e. (e ≡ Truncated) × (length bytes < 16))
unfolding point_at
point_tells bytes fits = tells_then (coordinate_at bytes) _ (coordinate_tells bytes fits)
    (λ x t. tells_then (coordinate_at x.1) _ (coordinate_tells x.1 t.0.rest_fits)
    (λ y u. record { told = (rw (point_two x.0 y.0) (Takes-then t.0 u.0), two_ranged x.0 y.0 t.1 u.1) })
    (λ e few. (few.0, omega (arith, few.1, Takes-long t.0, number_long (cast_unsigned w64 x.0)))))
    (λ e few. (few.0, omega (arith, few.1)))

pub point_again : (p : Place) (rest : List ℕ) → IsPoint low high 2 p → point_at (point p ++ rest) ≡ Ok (p, rest)
unfolding point_at
point_again p rest is =
    let (x, y, two, in_x, in_y) = coordinates_of p is in
    let parts : point (x ∷ y ∷ []) ++ rest ≡ bytes_of x ++ (bytes_of y ++ rest) = rw (point_two x y) (append_assoc (bytes_of x) (bytes_of y) rest) in
    rw two (ap point_at parts ∙ rw (coordinate_again x (bytes_of y ++ rest) in_x, coordinate_again y rest in_y) refl)

pub point_long : (p : Place) → IsPoint low high 2 p → length (point p) ≡ 16
unfolding point number
point_long p is = rw (two_of p is.long).2 refl
