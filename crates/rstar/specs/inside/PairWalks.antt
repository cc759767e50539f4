-- The inside of a join: the nodes that are still to be paired, and one step.
use Rattle.std.specs.Prelude.{◌≡◌, ℕ, zero, suc, ◌+◌, ◌*◌, ◌/◌, ◌%◌, ◌<◌, ◌≤◌, nat_le, min, max, Bool, true, List, [], ◌∷◌, ◌++◌, map, flat_map, sum_by, length, take, drop, ⊤, Option, MatchOption, ◌==◌, if◌then◌else◌}
use Rattle.std.specs.List.{AllByRecursion}
use Rattle.std.specs.Borrow.{Bor}
use Rattle.rstar.specs.declared.node.RTreeNode.{RTreeNode}
use Rattle.rstar.specs.declared.iterators.joins.walk.PairWalk.{PairWalk}
use Rattle.rstar.specs.declared.iterators.joins.walk.Frame.{Frame as Kept}
use Rattle.rstar.specs.declared.iterators.joins.walk.PairStep.{PairStep}
use Rattle.rstar.specs.declared.iterators.joins.walk.PairStep.TheVariants.{Found, Passed, Ended}
use Rattle.rstar.specs.Nodes.{fold_tree, node_box, total}
use Rattle.rstar.specs.Lists.{product}
use Rattle.rstar.specs.Meets.{opened_to, pairs_at, opens_at, all_pairs, all_opens}
use Rattle.rstar_base.specs.Counts.{usize_max}
use Rattle.rstar.specs.inside.Traversals.{IsLevel}

-- ---- marks: the binary digits of a number, the lowest for the first item

-- the items that are marked
abbrev pub marked_items : {A : Type 0} → ℕ → List A → List A
marked_items marks [] = []
marked_items marks (x ∷ xs) = if marks % 2 == 1 then x ∷ marked_items (marks / 2) xs else marked_items (marks / 2) xs

-- the first pair that is marked, as the items from each of the two on, and marks for the others
pub record IsFirstPair {A B : Type 0} (lefts : List A) (rights : List B) (marks : ℕ) (from : List A) (beside : List B)
    (others : ℕ) : Type 0 where
  pub left : 0 < length from
  pub right : 0 < length beside
  pub all : (l : A) (ls : List A) (r : B) (rs : List B) → from ≡ l ∷ ls → beside ≡ r ∷ rs
      → marked_items marks (product lefts rights) ≡ (l, r) ∷ marked_items others (product lefts rights)

-- marks with one for each of these tests in front of them
abbrev pub with_marks : List Bool → ℕ → ℕ
with_marks [] marks = marks
with_marks (b ∷ bs) marks = (if b then 1 else 0) + 2 * with_marks bs marks

-- ---- frames, the last of them read first

-- nodes on the left, and those on the right; of the pairs of the first on the left, so many as are asked together, with
-- those on the right, some were asked, with marks for those that meet and are still to be read, and some are asked later
abbrev pub Frame : (T E U F : Type 0) → Type 0
Frame T E U F = Kept (Bor (List (RTreeNode T E))) (Bor (List (RTreeNode U F)))

abbrev pub frame_of : {L R : Type 0} → L → R → ℕ → R → R → Kept L R
frame_of lefts asked marks later rights =
    record { lefts = lefts; asked = asked; marks = marks; later = later; rights = rights }

-- how many on the left are asked together: eight where those on the right are no more than that, and else one
abbrev pub rows_beside : {A : Type 0} → List A → ℕ
rows_beside rights = if nat_le (length rights) 8 then 8 else 1

-- the list has one item
abbrev pub IsSingle : {A : Type 0} → List A → Type 0
IsSingle xs = length xs ≡ 1

module _ {T E U F : Type 0} where
  -- the pairs that meet and are still to be read, and those that are asked later
  abbrev pub met_of : Frame T E U F → List (RTreeNode T E × RTreeNode U F)
  met_of frame = marked_items frame.marks (product (take (rows_beside frame.rights.now) frame.lefts.now) frame.asked.now)

  abbrev pub unasked_of : Frame T E U F → List (RTreeNode T E × RTreeNode U F)
  unasked_of frame = product (take (rows_beside frame.rights.now) frame.lefts.now) frame.later.now
      ++ product (drop (rows_beside frame.rights.now) frame.lefts.now) frame.rights.now

  -- the frames of a walk: those that are left, and behind them the one that is being read
  abbrev pub frames_of : PairWalk T U E F → List (Frame T E U F)
  frames_of walk = walk.path.items ++ walk.frame ∷ []

  -- nothing is left to read
  pub record IsIdle (walk : PairWalk T U E F) : Type 0 where
    pub nothing : walk.frame.lefts.now ≡ []
    pub bare : walk.path.items ≡ []

-- two lists of nodes, each on one level, of which neither is higher than there is room for
pub record AreJoinable {T E U F : Type 0} (room : ℕ) (lefts : List (RTreeNode T E)) (rights : List (RTreeNode U F)) : Type 0 where
  pub left_height : ℕ
  pub right_height : ℕ
  pub left : AllByRecursion (IsLevel left_height) lefts
  pub right : AllByRecursion (IsLevel right_height) rights
  pub fits : max left_height right_height ≤ room

module _ {T E U F : Type 0} (meets : E → F → Bool) (left_box : T → E) (right_box : U → F) where
  -- two nodes on these levels that meet
  pub record IsMetPair (left_height right_height : ℕ) (p : RTreeNode T E × RTreeNode U F) : Type 0 where
    pub left : IsLevel left_height p.0
    pub right : IsLevel right_height p.1
    pub meeting : meets (node_box left_box p.0) (node_box right_box p.1) ≡ true

  -- no more than `room` frames come after a frame, one for each level of the higher side
  pub record IsFrame (room : ℕ) (frame : Frame T E U F) : Type 0 where
    pub left_height : ℕ
    pub right_height : ℕ
    pub lefts : AllByRecursion (IsLevel left_height) frame.lefts.now
    pub met : AllByRecursion (IsMetPair left_height right_height) (met_of frame)
    pub later : AllByRecursion (IsLevel right_height) frame.later.now
    pub rights : AllByRecursion (IsLevel right_height) frame.rights.now
    pub no_more : length frame.later.now ≤ length frame.rights.now
    pub fits : max left_height right_height ≤ room

  -- each frame has the room that those before it leave
  abbrev pub AreFrames : ℕ → List (Frame T E U F) → Type 0
  AreFrames n [] = ⊤
  AreFrames zero (frame ∷ frames) = ⊥
  AreFrames (suc n) (frame ∷ frames) = IsFrame n frame × AreFrames n frames

  -- what pairs of nodes give, and how many pairs are opened from there
  abbrev pub pairs_below : List (RTreeNode T E × RTreeNode U F) → List (T × U)
  pairs_below ps = flat_map (λ p. pairs_at meets left_box right_box p.0 p.1) ps

  abbrev pub opens_below : List (RTreeNode T E × RTreeNode U F) → ℕ
  opens_below ps = sum_by (λ p. opens_at meets left_box right_box p.0 p.1) ps

  -- the same of frames, the last frame first
  abbrev pub pairs_from_frames : List (Frame T E U F) → List (T × U)
  pairs_from_frames [] = []
  pairs_from_frames (frame ∷ frames) = pairs_from_frames frames ++ pairs_below (met_of frame ++ unasked_of frame)

  abbrev pub opens_from_frames : List (Frame T E U F) → ℕ
  opens_from_frames [] = 0
  opens_from_frames (frame ∷ frames) = opens_from_frames frames + opens_below (met_of frame ++ unasked_of frame)

  -- room for all frames that may come
  abbrev pub IsWalk : PairWalk T U E F → Type 0
  IsWalk walk = AreFrames (walk.path.capacity + 1) (frames_of walk)

  -- the pairs that it still gives, in order, and how many it still opens
  abbrev pub pairs_by : PairWalk T U E F → List (T × U)
  pairs_by walk = pairs_from_frames (frames_of walk)

  abbrev pub opens_by : PairWalk T U E F → ℕ
  opens_by walk = opens_from_frames (frames_of walk)

  -- the pairs opened and those still to be opened are so many
  pub record CountsPairs (all : ℕ) (walk : PairWalk T U E F) : Type 0 where
    pub count : ℕ
    pub counted : walk.opened ≡ min count usize_max
    pub whole : count + opens_by walk ≡ all

  -- a walk that begins with the pairs of two lists
  pub record Begins (old : PairWalk T U E F) (lefts : List (RTreeNode T E)) (rights : List (RTreeNode U F)) (new : PairWalk T U E F)
      : Type 0 where
    pub walk : IsWalk new
    pub pairs : pairs_by new ≡ all_pairs meets left_box right_box lefts rights
    pub opens : opens_by new ≡ all_opens meets left_box right_box lefts rights
    pub opened : new.opened ≡ old.opened
    pub room : new.path.capacity ≡ old.path.capacity

-- ---- steps

-- how many steps a pair of lists takes where each pair of items takes so many: one for each pair that is asked, one for
-- each row's end, and one for the list's
abbrev pub row_steps : {A B : Type 0} → (A → B → ℕ) → A → List B → ℕ
row_steps f a bs = 1 + total (map (λ b. 1 + f a b) bs)

abbrev pub all_steps : {A B : Type 0} → (A → B → ℕ) → List A → List B → ℕ
all_steps f as' bs = 1 + total (map (λ a. row_steps f a bs) as')

-- how many steps a leaf beside a node takes
unfoldable pub steps_beside : {U F : Type 0} → RTreeNode U F → ℕ
steps_beside r = fold_tree (λ u. 1) (λ e below. 3 + total (map (λ n. 1 + n) below)) r

-- how many steps a pair of nodes takes: one, and those of what comes after it
unfoldable pub steps_at : {T E U F : Type 0} → RTreeNode T E → RTreeNode U F → ℕ
steps_at {U = U} {F = F} l r = fold_tree {A = RTreeNode U F → ℕ} (λ t r. steps_beside r)
    (λ e below r. 1 + all_steps (λ b n. b n) below (opened_to r)) l r

-- how many steps frames take: those of the pairs that are to be read, and of those that are to be asked one more for each
-- pair and one for each row
abbrev pub steps_of_pair : {T E U F : Type 0} → RTreeNode T E × RTreeNode U F → ℕ
steps_of_pair p = steps_at p.0 p.1

abbrev pub steps_of_frame : {T E U F : Type 0} → Frame T E U F → ℕ
steps_of_frame frame = 1 + length frame.lefts.now + sum_by steps_of_pair (met_of frame)
    + sum_by (λ p. 1 + steps_of_pair p) (unasked_of frame)

abbrev pub steps_of_frames : {T E U F : Type 0} → List (Frame T E U F) → ℕ
steps_of_frames [] = 0
steps_of_frames (frame ∷ frames) = steps_of_frames frames + steps_of_frame frame

-- what a step did to the pairs that are to come
abbrev pub IsGivenPair : {T U : Type 0} → List (T × U) → PairStep T U → List (T × U) → Type 0
IsGivenPair old (Found t u) new = old ≡ (t.now, u.now) ∷ new
IsGivenPair old Passed new = old ≡ new
IsGivenPair old Ended new = old ≡ []

-- what it did to the steps that are to come
abbrev pub IsNearerPair : {T U : Type 0} → ℕ → PairStep T U → ℕ → Type 0
IsNearerPair old (Found t u) new = Unit {0}
IsNearerPair old Passed new = new < old
IsNearerPair old Ended new = Unit {0}

-- at the end nothing is left to read
abbrev pub IsOverAfter : {T E U F : Type 0} → PairStep T U → PairWalk T U E F → Type 0
IsOverAfter (Found t u) new = Unit {0}
IsOverAfter Passed new = Unit {0}
IsOverAfter Ended new = IsIdle new

module _ {T E U F : Type 0} (meets : E → F → Bool) (left_box : T → E) (right_box : U → F) where
  -- a walk goes on in its room, and what it opens is counted
  pub record GoesOn (old new : PairWalk T U E F) : Type 0 where
    pub walk : IsWalk meets left_box right_box new
    pub room : new.path.capacity ≡ old.path.capacity
    pub count : (all : ℕ) → CountsPairs meets left_box right_box all old → CountsPairs meets left_box right_box all new

  -- so it does in a step
  pub record IsPairStep (old : PairWalk T U E F) (r : PairStep T U) (new : PairWalk T U E F) : Type 0 where
    pub on : GoesOn old new
    pub given : IsGivenPair (pairs_by meets left_box right_box old) r (pairs_by meets left_box right_box new)
    pub nearer : IsNearerPair (steps_of_frames (frames_of old)) r (steps_of_frames (frames_of new))
    pub over : IsOverAfter r new

  -- and in a call that gives the first pair that is to come, or is at the end
  pub record IsNextPair (old : PairWalk T U E F) (r : Option (Bor T × Bor U)) (new : PairWalk T U E F) : Type 0 where
    pub on : GoesOn old new
    pub given : MatchOption r ((pairs_by meets left_box right_box old ≡ []) × IsIdle new)
        (λ p. pairs_by meets left_box right_box old ≡ (p.0.now, p.1.now) ∷ pairs_by meets left_box right_box new)
