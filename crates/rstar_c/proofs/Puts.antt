-- Lists written over lists.
use Rattle.std.proofs.Common.{◌≡◌, ◌∙◌, ◌+◌, ◌<◌, ◌≤◌, ℕ, zero, suc, List, [], ◌∷◌, ◌++◌, map, min, length, set, refl, sym, ap, ap₂, zero-add, arith, take, get_or, Bool, true, false, ◌^◌}
use Rattle.std.proofs.lemmas.List.{length-map, length_push, map-append, length-append, take_all}
use Rattle.std.proofs.lemmas.Bool.{ltb-true, ltb-false}
use Rattle.std.proofs.lemmas.Grind.{flat_map-append}
use Rattle.std.proofs.Math.Dec.{ltb}
use Rattle.std.specs.List.{flat_map}
use Rattle.std.proofs.Math.Seq.{take-suc}
use Rattle.rstar_base.specs.Counts.{usize_max}
use Rattle.rstar_c.specs.Put.{over, put_from, offsets_of, ArePut}

over_none : {X : Type 0} (xs : List X) (x : X) → over (xs ++ x ∷ []) [] ≡ []
over_none [] x = refl
over_none (y ∷ xs) x = refl

over_empty : {X : Type 0} (xs : List X) → over xs [] ≡ []
over_empty [] = refl
over_empty (x ∷ xs) = refl

over_room : {X : Type 0} (xs ys : List X) (x : X) → length xs < length ys → set (over xs ys) (length xs) x ≡ over (xs ++ x ∷ []) ys
over_room xs [] x lt = absurd (omega arith)
over_room [] (y ∷ ys) x lt = refl
over_room (z ∷ xs) (y ∷ ys) x lt = ap (λ zs. z ∷ zs) (over_room xs ys x (omega arith))

over_full : {X : Type 0} (xs ys : List X) (x : X) → length ys ≤ length xs → over xs ys ≡ over (xs ++ x ∷ []) ys
over_full xs [] x le = over_empty xs ∙ sym (over_none xs x)
over_full [] (y ∷ ys) x le = absurd (omega arith)
over_full (z ∷ xs) (y ∷ ys) x le = ap (λ zs. z ∷ zs) (over_full xs ys x (omega arith))

-- one more is written
pub put_room : {X : Type 0} (n : ℕ) (xs ys : List X) (x : X) → n + length xs < length ys → set (put_from n xs ys) (n + length xs) x ≡ put_from n (xs ++ x ∷ []) ys
put_room zero xs ys x lt = ap (λ k. set (over xs ys) k x) (zero-add (length xs)) ∙ over_room xs ys x (omega arith)
put_room (suc n) xs [] x lt = absurd (omega arith)
put_room (suc n) xs (y ∷ ys) x lt = ap (λ k. set (y ∷ put_from n xs ys) k x) (suc-add n (length xs)) ∙ ap (λ zs. y ∷ zs) (put_room n xs ys x (omega arith))
  where
    suc-add : (a b : ℕ) → suc a + b ≡ suc (a + b)
    suc-add a b = omega arith

-- or there is no room
pub put_full : {X : Type 0} (n : ℕ) (xs ys : List X) (x : X) → length ys ≤ n + length xs → put_from n xs ys ≡ put_from n (xs ++ x ∷ []) ys
put_full zero xs ys x le = over_full xs ys x (omega arith)
put_full (suc n) xs [] x le = refl
put_full (suc n) xs (y ∷ ys) x le = ap (λ zs. y ∷ zs) (put_full n xs ys x (omega arith))

over_nil : {X : Type 0} (ys : List X) → over [] ys ≡ ys
over_nil ys = refl

-- nothing is written
pub put_none : {X : Type 0} (n : ℕ) (ys : List X) → put_from n [] ys ≡ ys
put_none zero ys = refl
put_none (suc n) [] = refl
put_none (suc n) (y ∷ ys) = ap (λ zs. y ∷ zs) (put_none n ys)

-- a turn of a loop that writes
pub one-more-put : {A X : Type 0} (number : A → X) (from : ℕ) (items : List A) (item : A) (old out : List X) (n room : ℕ) → n ≡ min (from + length items) usize_max
    → out ≡ put_from from (map number items) old → room ≡ length old → room ≤ usize_max → n < room → set out n (number item) ≡ put_from from (map number (items ++ item ∷ [])) old
one-more-put number from items item old out n room count written is fits lt =
    let counted = length-map items number in
    let e : n ≡ from + length (map number items) = omega arith in
    let low : from + length (map number items) < length old = omega arith in
    ap₂ (λ xs k. set xs k (number item)) written e ∙ put_room from (map number items) old (number item) low ∙ ap (λ xs. put_from from xs old) (sym (map-append number items (item ∷ [])))

pub no-more-put : {A X : Type 0} (number : A → X) (from : ℕ) (items : List A) (item : A) (old out : List X) (n room : ℕ) → n ≡ min (from + length items) usize_max
    → out ≡ put_from from (map number items) old → room ≡ length old → room ≤ usize_max → room ≤ n → out ≡ put_from from (map number (items ++ item ∷ [])) old
no-more-put number from items item old out n room count written is fits le =
    let counted = length-map items number in
    let high : length old ≤ from + length (map number items) = omega arith in
    written ∙ put_full from (map number items) old (number item) high ∙ ap (λ xs. put_from from xs old) (sym (map-append number items (item ∷ [])))

pub low-min : (n : ℕ) → n < 2 ^ 64 → n ≡ min (n + 0) usize_max
low-min n lt = omega arith

pub below-top : (n : ℕ) → n < 2 ^ 64 → n ≤ usize_max
below-top n lt = omega arith

pub one-more-counted : {A : Type 0} (from : ℕ) (xs : List A) (x : A) (n m : ℕ) → n ≡ min (from + length xs) usize_max → m ≡ min (n + 1) usize_max → m ≡ min (from + length (xs ++ x ∷ [])) usize_max
one-more-counted from xs x n m before more = let longer = length_push xs x in omega arith

-- ---- one list after another
over_append : {X : Type 0} (xs ys o : List X) (k : ℕ) → k ≡ length xs → put_from k ys (over xs o) ≡ over (xs ++ ys) o
over_append [] ys o zero e = refl
over_append [] ys o (suc k) e = absurd (omega (arith, e))
over_append (x ∷ xs) ys o zero e = absurd (omega (arith, e))
over_append (x ∷ xs) ys [] (suc k) e = refl
over_append (x ∷ xs) ys (y ∷ o) (suc k) e = ap (λ zs. x ∷ zs) (over_append xs ys o k (omega (arith, e)))

over_more_full : {X : Type 0} (xs ys o : List X) → length o ≤ length xs → over xs o ≡ over (xs ++ ys) o
over_more_full [] ys [] le = sym (over_empty ys)
over_more_full [] ys (y ∷ o) le = absurd (omega arith)
over_more_full (x ∷ xs) ys [] le = refl
over_more_full (x ∷ xs) ys (y ∷ o) le = ap (λ zs. x ∷ zs) (over_more_full xs ys o (omega arith))

put_full_all : {X : Type 0} (n : ℕ) (xs o : List X) → length o ≤ n → put_from n xs o ≡ o
put_full_all zero xs [] le = over_empty xs
put_full_all zero xs (y ∷ o) le = absurd (omega arith)
put_full_all (suc n) xs [] le = refl
put_full_all (suc n) xs (y ∷ o) le = ap (λ zs. y ∷ zs) (put_full_all n xs o (omega arith))

length-over : {X : Type 0} (xs o : List X) → length (over xs o) ≡ length o
length-over [] o = refl
length-over (x ∷ xs) [] = refl
length-over (x ∷ xs) (y ∷ o) = let e = length-over xs o in omega (arith, e)

put_append : {X : Type 0} (n : ℕ) (xs ys o : List X) (k : ℕ) → k ≡ n + length xs → put_from k ys (put_from n xs o) ≡ put_from n (xs ++ ys) o
put_append zero xs ys o k e = over_append xs ys o k (e ∙ zero-add (length xs))
put_append (suc n) xs ys o zero e = absurd (omega (arith, e))
put_append (suc n) xs ys [] (suc k) e = refl
put_append (suc n) xs ys (y ∷ o) (suc k) e = ap (λ zs. y ∷ zs) (put_append n xs ys o k (omega (arith, e)))

put_more_full : {X : Type 0} (n : ℕ) (xs ys o : List X) → length o ≤ n + length xs → put_from n xs o ≡ put_from n (xs ++ ys) o
put_more_full zero xs ys o le = over_more_full xs ys o (omega arith)
put_more_full (suc n) xs ys [] le = refl
put_more_full (suc n) xs ys (y ∷ o) le = ap (λ zs. y ∷ zs) (put_more_full n xs ys o (omega arith))

length-put : {X : Type 0} (n : ℕ) (xs o : List X) → length (put_from n xs o) ≡ length o
length-put zero xs o = length-over xs o
length-put (suc n) xs [] = refl
length-put (suc n) xs (y ∷ o) = let e = length-put n xs o in omega (arith, e)

-- one list behind another
pub put-both : {X : Type 0} (xs ys o out more : List X) (from next last room : ℕ) → room ≡ length o → room < 2 ^ 64 → ArePut xs from o out next → ArePut ys next out more last → ArePut (xs ++ ys) from o more last
put-both xs ys o out more from next last room is fits first then =
    let both = length-append xs ys in let count = first.counted in let more_is = then.counted in
    record { counted = omega arith; written = by (ltb usize_max (from + length xs)) refl }
  where
    by : (b : Bool) → ltb usize_max (from + length xs) ≡ b → more ≡ put_from from (xs ++ ys) o
    by true t =
        let high : usize_max < from + length xs = ltb-true _ _ t in let count = first.counted in let e = length-put from xs o in
        let full : length (put_from from xs o) ≤ next = omega (arith, e) in let le : length o ≤ from + length xs = omega arith in
        then.written ∙ ap (put_from next ys) first.written ∙ put_full_all next ys (put_from from xs o) full ∙ put_more_full from xs ys o le
    by false f =
        let low : from + length xs ≤ usize_max = ltb-false _ _ f in let count = first.counted in let e : next ≡ from + length xs = omega arith in
        then.written ∙ ap (put_from next ys) first.written ∙ put_append from xs ys o next e

-- none, and one
pub put-nothing : {X : Type 0} (n : ℕ) (out : List X) → n < 2 ^ 64 → ArePut [] n out out n
put-nothing n out fits = record { counted = low-min n fits; written = sym (put_none n out) }

pub put-one : {X : Type 0} (n : ℕ) (x : X) (out : List X) → n < length out → set out n x ≡ put_from n (x ∷ []) out
put-one n x [] lt = absurd (omega arith)
put-one zero x (y ∷ ys) lt = refl
put-one (suc n) x (y ∷ ys) lt = ap (λ zs. y ∷ zs) (put-one n x ys (omega arith))

pub put-past : {X : Type 0} (n : ℕ) (x : X) (out : List X) → length out ≤ n → out ≡ put_from n (x ∷ []) out
put-past n x out le = sym (put_full_all n (x ∷ []) out le)

-- a turn of a loop over boxes
pub each-put : {X : Type 0} (ys xs o out more : List X) (next room : ℕ) → next ≡ min (length ys) usize_max → out ≡ put_from 0 ys o → room ≡ length o → room < 2 ^ 64
    → more ≡ put_from next xs out → more ≡ put_from 0 (ys ++ xs) o
each-put ys xs o out more next room count written is fits now =
    (put-both ys xs o out more 0 next (min (next + length xs) usize_max) room is fits (record { counted = omega arith; written = written }) (record { counted = refl; written = now })).written

pub each-counted : {X : Type 0} (ys xs : List X) (k next more : ℕ) → next ≡ min (length ys) usize_max → k ≡ length xs → more ≡ min (next + k) usize_max → more ≡ min (length (ys ++ xs)) usize_max
each-counted ys xs k next more before is now = let both = length-append ys xs in omega arith

pub flat-more : {A B : Type 0} (f : A → List B) (xs : List A) (i : ℕ) (d : A) → i < length xs → flat_map f (take i xs) ++ f (get_or xs i d) ≡ flat_map f (take (i + 1) xs)
flat-more f xs i d lt =
    let next : i + 1 ≡ suc i = omega arith in
    sym (ap (flat_map f) (ap (λ k. take k xs) next ∙ take-suc xs i d lt) ∙ flat_map-append f (take i xs) (get_or xs i d ∷ []) ∙ ap (λ ys. flat_map f (take i xs) ++ ys) (append-nil (f (get_or xs i d))))
  where
    append-nil : {B : Type 0} (ys : List B) → ys ++ [] ≡ ys
    append-nil [] = refl
    append-nil (y ∷ ys) = ap (λ zs. y ∷ zs) (append-nil ys)

-- ---- where each of many answers begins

pub length-offsets : {A : Type 0} (count : A → ℕ) (from : ℕ) (shapes : List A) → length (offsets_of count from shapes) ≡ length shapes + 1
length-offsets count from [] = refl
length-offsets count from (a ∷ more) = let e = length-offsets count (from + count a) more in omega (arith, e)

offset-next : {A X : Type 0} (count : A → ℕ) (f : A → List X) → ((a : A) → count a ≡ length (f a)) → (from : ℕ) (shapes : List A) (i : ℕ) → i ≤ length shapes
    → take (i + 1) (offsets_of count from shapes) ≡ take i (offsets_of count from shapes) ++ min (from + length (flat_map f (take i shapes))) usize_max ∷ []
offset-next count f same from [] zero le = ap (λ n. min n usize_max ∷ []) (omega arith)
offset-next count f same from [] (suc i) le = absurd (omega arith)
offset-next count f same from (a ∷ more) zero le = ap (λ n. min n usize_max ∷ []) (omega arith)
offset-next {A} {X} count f same from (a ∷ more) (suc i) le =
    ap (λ k. take k (offsets_of count from (a ∷ more))) (next i)
    ∙ ap (λ ns. min from usize_max ∷ ns) (offset-next count f same (from + count a) more i (omega arith)
    ∙ ap (λ n. take i (offsets_of count (from + count a) more) ++ min n usize_max ∷ []) sums)
  where
    next : (k : ℕ) → suc k + 1 ≡ suc (k + 1)
    next k = omega arith

    sums : (from + count a) + length (flat_map f (take i more)) ≡ from + length (f a ++ flat_map f (take i more))
    sums = let e = length-append (f a) (flat_map f (take i more)) in let s = same a in omega (arith, e, s)

length-take : {X : Type 0} (i : ℕ) (xs : List X) → i ≤ length xs → length (take i xs) ≡ i
length-take zero xs le = refl
length-take (suc i) [] le = absurd (omega arith)
length-take (suc i) (x ∷ xs) le = let e = length-take i xs (omega arith) in omega (arith, e)

-- one place more is written
pub offset-put : {A X : Type 0} (count : A → ℕ) (f : A → List X) → ((a : A) → count a ≡ length (f a)) → (shapes : List A) (i n : ℕ) (old : List ℕ)
    → i ≤ length shapes → length old ≡ length shapes + 1 → n ≡ min (length (flat_map f (take i shapes))) usize_max
    → set (over (take i (offsets_of count 0 shapes)) old) i n ≡ over (take (i + 1) (offsets_of count 0 shapes)) old
offset-put count f same shapes i n old le long is =
    let all = length-offsets count 0 shapes in
    let so_far = length-take i (offsets_of count 0 shapes) (omega arith) in
    let room : length (take i (offsets_of count 0 shapes)) < length old = omega arith in
    ap₂ (λ k m. set (over (take i (offsets_of count 0 shapes)) old) k m) (sym so_far) (is ∙ ap (λ k. min k usize_max) (sym (zero-add (length (flat_map f (take i shapes))))))
    ∙ over_room (take i (offsets_of count 0 shapes)) old (min (0 + length (flat_map f (take i shapes))) usize_max) room
    ∙ ap (λ ns. over ns old) (sym (offset-next count f same 0 shapes i le))

over-all : {X : Type 0} (xs ys : List X) → length xs ≡ length ys → over xs ys ≡ xs
over-all [] [] e = refl
over-all [] (y ∷ ys) e = absurd (omega (arith, e))
over-all (x ∷ xs) [] e = absurd (omega (arith, e))
over-all (x ∷ xs) (y ∷ ys) e = ap (λ zs. x ∷ zs) (over-all xs ys (omega (arith, e)))

-- at the end all are written
pub offsets-put : {A X : Type 0} (count : A → ℕ) (f : A → List X) → ((a : A) → count a ≡ length (f a)) → (shapes : List A) (n : ℕ) (old : List ℕ)
    → length old ≡ length shapes + 1 → n ≡ min (length (flat_map f shapes)) usize_max
    → set (over (take (length shapes) (offsets_of count 0 shapes)) old) (length shapes) n ≡ offsets_of count 0 shapes
offsets-put count f same shapes n old long is =
    let all = length-offsets count 0 shapes in
    offset-put count f same shapes (length shapes) n old (omega arith) long (is ∙ ap (λ ys. min (length (flat_map f ys)) usize_max) (sym (take_all (length shapes) shapes (omega arith))))
    ∙ ap (λ ns. over ns old) (take_all (length shapes + 1) (offsets_of count 0 shapes) (omega arith))
    ∙ over-all (offsets_of count 0 shapes) old (all ∙ sym long)

-- one item more of a list is read
pub one-more-taken : {X : Type 0} (xs : List X) (i : ℕ) (x d : X) → i < length xs → x ≡ get_or xs i d → take i xs ++ x ∷ [] ≡ take (i + 1) xs
one-more-taken xs i x d lt is =
    let next : i + 1 ≡ suc i = omega arith in
    ap (λ y. take i xs ++ y ∷ []) is ∙ sym (take-suc xs i d lt) ∙ ap (λ k. take k xs) (sym next)
