-- What stands in the caller's lists after a call.
use Rattle.std.specs.Prelude.{◌≡◌, ◌+◌, ℕ, ℤ, Bool, true, List, ◌++◌, pos, map, filter, min, length}
use Rattle.std.specs.List.{flat_map, All, AllByRecursion}
use Rattle.std.specs.List.Sorted.{IsPermutation}
use Rattle.rstar.specs.Lists.{AreFirstOf}
use Rattle.rstar_base.specs.Counts.{usize_max}
use Rattle.rstar_c.specs.declared.items.Place.{Place}
use Rattle.rstar_c.specs.Items.{Item, number, distance_to, IsBefore}
use Rattle.rstar_c.specs.Put.{over, put_from, offsets_of}

-- the numbers of these elements, in their order, over what stood there, and how many elements they are
pub record IsFound {T : Type 0} (told : T → ℕ) (chosen : List T) (old new : List ℕ) (found : ℕ) : Type 0 where
  pub counted : found ≡ length chosen
  pub written : new ≡ over (map told chosen) old

-- the same for many questions: the numbers for one behind those for the other, and where those for each begin
pub record AreFound {A T : Type 0} (told : T → ℕ) (chosen : A → List T) (shapes : List A) (offsets old new : List ℕ)
    : Type 0 where
  pub begun : offsets ≡ offsets_of (λ a. length (chosen a)) 0 shapes
  pub written : new ≡ over (flat_map (λ a. map told (chosen a)) shapes) old

-- the IDs and the distances of the first items in the order of neighbours, from a place in both lists on, and the place
-- behind them
pub record AreNearestPut (place : Place) (most : ℕ) (items : List Item) (from : ℕ) (ids_old ids_new : List ℕ)
    (distances_old distances_new : List ℤ) (next : ℕ) : Type 0 where
  pub row : List Item
  pub first : AreFirstOf (IsBefore place) items most row
  pub ids : ids_new ≡ put_from from (map number row) ids_old
  pub distances : distances_new ≡ put_from from (map (λ item. pos (distance_to place item)) row) distances_old
  pub counted : next ≡ min (from + length row) usize_max

-- the same for many points: for each a row of its first items, all rows one behind the other
pub record AreNearestEach (places : List Place) (most : ℕ) (items : List Item) (ids_old ids_new : List ℕ)
    (distances_old distances_new : List ℤ) (written : ℕ) : Type 0 where
  pub rows : List (Place × List Item)
  pub asked : map (λ r. r.0) rows ≡ places
  pub first : All (λ r. AreFirstOf (IsBefore r.0) items most r.1) rows
  pub ids : ids_new ≡ over (flat_map (λ r. map number r.1) rows) ids_old
  pub distances : distances_new ≡ over (flat_map (λ r. map (λ item. pos (distance_to r.0 item)) r.1) rows) distances_old
  pub counted : written ≡ min (length (flat_map (λ r. map number r.1) rows)) usize_max

-- the chosen items are taken out: their IDs, in some order, over what stood there, and how many they are
pub record IsDrained (chosen : Item → Bool) (before after : List Item) (old new : List ℕ) (found : ℕ) : Type 0 where
  pub taken : List Item
  pub bag : IsPermutation before (taken ++ after)
  pub selected : AllByRecursion (λ item. chosen item ≡ true) taken
  pub counted : found ≡ length taken
  pub all : length taken ≡ length (filter chosen before)
  pub written : new ≡ over (map number taken) old

-- these pairs, in some order: the numbers of their first and of their second items over two lists, and how many pairs there
-- are
pub record ArePairsGiven {T : Type 0} (told : T → ℕ) (all : List (T × T)) (first_old first_new second_old second_new : List ℕ)
    (found : ℕ) : Type 0 where
  pub pairs : List (T × T)
  pub bag : IsPermutation pairs all
  pub first : first_new ≡ over (map (λ p. told p.0) pairs) first_old
  pub second : second_new ≡ over (map (λ p. told p.1) pairs) second_old
  pub counted : found ≡ min (length pairs) usize_max
