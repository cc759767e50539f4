-- Rows of neighbours, one behind the other.
use Rattle.std.proofs.Common.{◌≡◌, ◌∙◌, ◌+◌, ◌<◌, ◌^◌, ◌++◌, ℕ, ℤ, List, [], ◌∷◌, get_or, length, map, min, pos, take, refl, sym, ap, ap₂, arith}
use Rattle.std.proofs.lemmas.List.{length-map, length-append, map-append}
use Rattle.std.proofs.lemmas.List.Elements.{All-from_recursion, All-push}
use Rattle.std.proofs.lemmas.List.Sorted.{IsPermutation-refl}
use Rattle.rstar.specs.Lists.{AreFirstOf}
use Rattle.rstar_base.specs.Counts.{usize_max}
use Rattle.rstar_c.specs.Answers.{AreNearestEach, AreNearestPut}
use Rattle.rstar_c.specs.Put.{over}
use Rattle.rstar_c.proofs.Puts.{each-put, each-counted, one-more-taken}
use Rattle.std.proofs.lemmas.Grind.{flat_map-append}
use Rattle.std.specs.Borrow.{Bor}
use Rattle.std.specs.List.{flat_map, AllByRecursion}
use Rattle.rstar_c.specs.declared.items.Place.{Place}
use Rattle.rstar_c.specs.Items.{Item, distance_to, IsBefore, number}

-- what stands beside the items are their distances
pub told-distances : (distance : Item → ℕ) (ns : List (Bor Item × ℤ)) → AllByRecursion (λ n. n.1 ≡ pos (distance n.0.now)) ns
    → map (λ n. n.1) ns ≡ map (λ item. pos (distance item)) (map (λ n. n.0.now) ns)
told-distances distance [] all = refl
told-distances distance (n ∷ ns) all = ap₂ (λ (d : ℤ) ds. d ∷ ds) all.0 (told-distances distance ns all.1)

-- a row has as many numbers as distances
pub same-long : (rows : List (Place × List Item)) → length (flat_map (λ r. map number r.1) rows) ≡ length (flat_map (λ r. map (λ item. pos (distance_to r.0 item)) r.1) rows)
same-long [] = refl
same-long (r ∷ rows) =
    let before = same-long rows in
    let ids = length-append (map number r.1) (flat_map (λ r. map number r.1) rows) in
    let away = length-append (map (λ item. pos (distance_to r.0 item)) r.1) (flat_map (λ r. map (λ item. pos (distance_to r.0 item)) r.1) rows) in
    let here = length-map r.1 number in
    let there = length-map r.1 (λ item. pos (distance_to r.0 item)) in
    omega (arith, before, ids, away, here, there)

-- one row more
pub flat-row : {A B : Type 0} (f : A → List B) (rows : List A) (row : A) → flat_map f rows ++ f row ≡ flat_map f (rows ++ row ∷ [])
flat-row f rows row = sym (flat_map-append f rows (row ∷ []) ∙ ap (λ ys. flat_map f rows ++ ys) (append-nil (f row)))
  where
    append-nil : {B : Type 0} (ys : List B) → ys ++ [] ≡ ys
    append-nil [] = refl
    append-nil (y ∷ ys) = ap (λ zs. y ∷ zs) (append-nil ys)

-- the rows of one point more
pub one-more-row : (place d : Place) (places : List Place) (i most : ℕ) (items : List Item) (ids_old ids_new ids_more : List ℕ) (away_old away_new away_more : List ℤ) (next more room other_room : ℕ)
    → AreNearestEach (take i places) most items ids_old ids_new away_old away_new next → AreNearestPut place most items next ids_new ids_more away_new away_more more
    → place ≡ get_or places i d → i < length places → room ≡ length ids_old → room < 2 ^ 64 → other_room ≡ length away_old → other_room < 2 ^ 64
    → AreNearestEach (take (i + 1) places) most items ids_old ids_more away_old away_more more
one-more-row place d places i most items ids_old ids_new ids_more away_old away_new away_more next more room other_room before put is lt long fits far fit =
    let row : Place × List Item = (place, put.row) in
    let numbers : Place × List Item → List ℕ = λ r. map number r.1 in
    let away : Place × List Item → List ℤ = λ r. map (λ item. pos (distance_to r.0 item)) r.1 in
    record {
      rows = before.rows ++ row ∷ [];
      asked = map-append (λ r. r.0) before.rows (row ∷ []) ∙ ap (λ ps. ps ++ place ∷ []) before.asked ∙ one-more-taken places i place d lt is;
      first = All-push (λ r. AreFirstOf (IsBefore r.0) items most r.1) before.rows row before.first put.first;
      ids = each-put (flat_map numbers before.rows) (numbers row) ids_old ids_new ids_more next room before.counted before.ids long fits put.ids
          ∙ ap (λ all. over all ids_old) (flat-row numbers before.rows row);
      distances = each-put (flat_map away before.rows) (away row) away_old away_new away_more next other_room (before.counted ∙ ap (λ n. min n usize_max) (same-long before.rows)) before.distances far fit put.distances
          ∙ ap (λ all. over all away_old) (flat-row away before.rows row);
      counted = each-counted (flat_map numbers before.rows) (numbers row) (length put.row) next more before.counted (sym (length-map put.row number)) put.counted
          ∙ ap (λ all. min (length all) usize_max) (flat-row numbers before.rows row);
    }

-- no items: the row of each point is empty, and nothing is written
abbrev none_at : Place → Place × List Item
none_at place = (place, [])

none-asked : (places : List Place) → map (λ r. r.0) (map none_at places) ≡ places
none-asked [] = refl
none-asked (place ∷ places) = ap (λ ps. place ∷ ps) (none-asked places)

none-first : (places : List Place) (most : ℕ) → AllByRecursion (λ r. AreFirstOf (IsBefore r.0) [] most r.1) (map none_at places)
none-first [] most = tt
none-first (place ∷ places) most = (
  record {
    left = [];
    first = record { bag = IsPermutation-refl []; order = tt; least = tt };
    few = omega arith;
    enough = λ less. refl;
  },
  none-first places most,
)

none-told : {A : Type 0} (told : Place → Item → A) (places : List Place) → flat_map (λ r. map (told r.0) r.1) (map none_at places) ≡ []
none-told told [] = refl
none-told told (place ∷ places) = none-told told places

pub no-rows : (places : List Place) (most : ℕ) (ids : List ℕ) (distances : List ℤ) → AreNearestEach places most [] ids ids distances distances 0
no-rows places most ids distances =
    let numbers = none-told (λ place. number) places in
    record {
      rows = map none_at places;
      asked = none-asked places;
      first = All-from_recursion (λ r. AreFirstOf (IsBefore r.0) [] most r.1) (map none_at places) (none-first places most);
      ids = ap (λ all. over all ids) (sym numbers);
      distances = ap (λ all. over all distances) (sym (none-told (λ place item. pos (distance_to place item)) places));
      counted = ap (λ (all : List ℕ). min (length all) usize_max) (sym numbers);
    }
