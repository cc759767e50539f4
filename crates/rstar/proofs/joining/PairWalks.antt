-- One step of a join over frames.
use Rattle.std.proofs.Common.{◌≡◌, ◌≢◌, ℕ, zero, suc, ◌+◌, ◌*◌, ◌<◌, ◌≤◌, List, [], ◌∷◌, ◌++◌, length, map, filter, sum_by, take, drop, refl, ap, ◌∙◌, sym, subst, arith, Bool, append_assoc, append-nil, length-append, if◌then◌else◌, true, false, min, max, inl, inr, ◌⊎◌}
use Rattle.std.specs.Prelude.{nat_le, ⊤}
use Rattle.std.proofs.lemmas.List.{take-append-drop, length-drop, length-take, map-append, take_all, take_min, drop_all, drop_min, nil_from_length}
use Rattle.std.proofs.lemmas.Nat.{mul-le}
use Rattle.std.proofs.lemmas.Bool.{true≢false}
use Rattle.std.proofs.lemmas.Bool.Decides.{nat_tests}
use Rattle.std.proofs.lemmas.List.Sums.{sum_by-cons, sum_by-append}
use Rattle.std.proofs.lemmas.List.Concat.{flat_map-append}
use Rattle.std.specs.List.{AllByRecursion}
use Rattle.std.specs.Borrow.{Bor}
use Rattle.rstar.specs.declared.node.RTreeNode.{RTreeNode}
use Rattle.rstar.specs.declared.iterators.joins.walk.PairWalk.{PairWalk}
use Rattle.rstar.specs.Nodes.{children_of}
use Rattle.rstar_base.specs.Counts.{usize_max}
use Rattle.rstar.specs.inside.Traversals.{IsLevel}
use Rattle.rstar.specs.Lists.{product}
use Rattle.rstar.specs.Meets.{opened_to, both_leaves, pairs_at, opens_at, all_pairs, all_opens}
use Rattle.rstar.specs.inside.PairWalks.{frame_of, marked_items, rows_beside, Frame, IsMetPair, IsFrame, AreFrames, AreJoinable, met_of, unasked_of, frames_of, pairs_below, opens_below, pairs_by, opens_by, pairs_from_frames, opens_from_frames, IsIdle, IsWalk, CountsPairs, GoesOn, all_steps, steps_at, steps_of_pair, steps_of_frame, steps_of_frames, IsPairStep}
use Rattle.rstar.proofs.trees.ByChildren.{is_leaf, total-map}
use Rattle.rstar.proofs.joining.PairsByChildren.{the_pair, each-product, product-none, product-rows, sum_by-map, whole-opened, does_meet, AreLeaves, IsOpened, leaves, opened, passed}
use Rattle.rstar.proofs.joining.MarkedPairs.{marked-zero}
use Rattle.rstar_base.proofs.Lists.{all_first, all_second}
use Rattle.rstar.specs.declared.iterators.joins.walk.PairStep.TheVariants.{Passed, Found}

steps-after : {T E U F : Type 0} (xs ys : List (Frame T E U F)) → steps_of_frames (xs ++ ys) ≡ steps_of_frames xs + steps_of_frames ys
steps-after [] ys = omega arith
steps-after (x ∷ xs) ys = omega (arith, steps-after xs ys)

-- ---- products

product-parts : {A B : Type 0} (k : ℕ) (xs : List A) (ys : List B) → product (take k xs) ys ++ product (drop k xs) ys ≡ product xs ys
product-parts k xs ys = sym (product-rows (take k xs) (drop k xs) ys) ∙ ap (λ l. product l ys) (take-append-drop k xs)

-- of one row, or where nothing comes behind
product-columns : {A B : Type 0} (xs : List A) (ys zs : List B) → (zs ≡ []) ⊎ (length xs ≤ 1) → product xs (ys ++ zs) ≡ product xs ys ++ product xs zs
product-columns xs ys zs (inl none) = rw (none, append-nil ys, product-none xs, append-nil (product xs ys))
product-columns [] ys zs (inr one) = refl
product-columns (x ∷ []) ys zs (inr one) = simp (append-nil, map-append)
product-columns (x ∷ x' ∷ xs) ys zs (inr one) = absurd (omega (arith, one))

product-some : {A B : Type 0} (xs : List A) (ys : List B) → 0 < length xs → 0 < length ys → 0 < length (product xs ys)
product-some [] ys some some' = absurd (omega (arith, some))
product-some (x ∷ xs) [] some some' = absurd (omega (arith, some'))
product-some (x ∷ xs) (y ∷ ys) some some' = omega arith

-- a list that is cut at no more than its length
pub cut-at : {A : Type 0} (k n : ℕ) (xs : List A) → n ≡ min (length xs) k → (take n xs ≡ take k xs) × (drop n xs ≡ drop k xs)
cut-at k n xs is = let same : n ≡ min k (length xs) = omega arith in (ap (λ m. take m xs) same ∙ take_min k xs, ap (λ m. drop m xs) same ∙ drop_min k xs)

rows-positive : {A : Type 0} (rights : List A) → 1 ≤ rows_beside rights
rows-positive rights = elim (nat_le (length rights) 8) as (λ b. 1 ≤ (if b then 8 else 1)) [ true ↦ omega arith | false ↦ omega arith ]

-- so many pairs are asked together that 64 marks are enough, and either one row alone or all of the rows
pub block-fits : {A B : Type 0} (rights later chunk rest : List B) (xs : List A) → length later ≤ length rights → later ≡ chunk ++ rest → length chunk ≡ min (length later) 64
    → (length (take (rows_beside rights) xs) * length chunk ≤ 64) × ((rest ≡ []) ⊎ (length (take (rows_beside rights) xs) ≤ 1))
block-fits rights later chunk rest xs fewer split long = by_test (nat_le (length rights) 8) refl where
  by_test : (b : Bool) → nat_le (length rights) 8 ≡ b
      → (length (take (if b then 8 else 1) xs) * length chunk ≤ 64) × ((rest ≡ []) ⊎ (length (take (if b then 8 else 1) xs) ≤ 1))
  by_test true is =
      let few : length rights ≤ 8 = grind (arith, nat_tests, is) in (
        mul-le (length (take 8 xs)) (length chunk) 8 8 (omega (arith, length-take 8 xs)) (omega (arith, few, fewer, long)),
        inl (nil_from_length rest (omega (arith, ap length split, length-append chunk rest, few, fewer, long))),
      )
  by_test false is = (mul-le (length (take 1 xs)) (length chunk) 1 64 (omega (arith, length-take 1 xs)) (omega (arith, long)), inr (omega (arith, length-take 1 xs)))

pub block-some : {A B : Type 0} (rights : List B) (xs : List A) → 0 < length xs → 0 < length (take (rows_beside rights) xs)
block-some rights xs some = let t = length-take (rows_beside rights) xs in let p = rows-positive rights in omega (arith, t, p, some)

-- the steps of all pairs of two lists, and one for each row
steps-listed : {A B : Type 0} (f : A → B → ℕ) (xs : List A) (ys : List B) → all_steps f xs ys ≡ 1 + length xs + sum_by (λ (p : A × B). 1 + f p.0 p.1) (product xs ys)
steps-listed f [] ys = omega arith
steps-listed {A} {B} f (x ∷ xs) ys =
    omega (arith, total-map (λ y. 1 + f x y) ys ∙ sym (sum_by-map (λ y. the_pair x y) (λ (p : A × B). 1 + f p.0 p.1) ys), sum_by-append (λ (p : A × B). 1 + f p.0 p.1) (map (λ y. the_pair x y) ys) (product xs ys), steps-listed f xs ys)

module _ {T E U F : Type 0} (meets : E → F → Bool) (left_box : T → E) (right_box : U → F) where
  -- ---- frames at the end

  pub frames-along : (n m : ℕ) → n ≡ m → (xs ys : List (Frame T E U F)) → xs ≡ ys → AreFrames meets left_box right_box n xs → AreFrames meets left_box right_box m ys
  frames-along n m same xs ys is at = subst (λ k. AreFrames meets left_box right_box k ys) same (subst (AreFrames meets left_box right_box n) is at)

  -- the last frame has the room that is left, and others with that room may take its place
  frames-last : (n : ℕ) (xs : List (Frame T E U F)) (x : Frame T E U F) → AreFrames meets left_box right_box n (xs ++ x ∷ [])
      → (k : ℕ) × (k + 1 + length xs ≡ n) × IsFrame meets left_box right_box k x
      × ((news : List (Frame T E U F)) → AreFrames meets left_box right_box (suc k) news → AreFrames meets left_box right_box n (xs ++ news))
  frames-last zero [] x is = absurd is
  frames-last zero (y ∷ xs) x is = absurd is
  frames-last (suc n) [] x is = (n, omega arith, is.0, λ news more. more)
  frames-last (suc n) (y ∷ xs) x is = let r = frames-last n xs x is.1 in (r.0, omega (arith, r.1), r.2, λ news more. (is.0, r.3 news more))

  pairs-after : (xs ys : List (Frame T E U F)) → pairs_from_frames meets left_box right_box (xs ++ ys) ≡ pairs_from_frames meets left_box right_box ys ++ pairs_from_frames meets left_box right_box xs
  pairs-after [] ys = sym (append-nil _)
  pairs-after (x ∷ xs) ys =
      let here = pairs_below meets left_box right_box (met_of x ++ unasked_of x) in
      ap (λ l. l ++ here) (pairs-after xs ys) ∙ append_assoc (pairs_from_frames meets left_box right_box ys) (pairs_from_frames meets left_box right_box xs) here

  opens-after : (xs ys : List (Frame T E U F)) → opens_from_frames meets left_box right_box (xs ++ ys) ≡ opens_from_frames meets left_box right_box xs + opens_from_frames meets left_box right_box ys
  opens-after [] ys = omega arith
  opens-after (x ∷ xs) ys = omega (arith, opens-after xs ys)

  -- the last frame is replaced by others, which give the same but for what was given, and open the same but for what was opened
  pub record IsMove (frame : Frame T E U F) (news : List (Frame T E U F)) (gives : List (T × U)) (opens : ℕ) : Type 0 where
    pub pairs : pairs_below meets left_box right_box (met_of frame ++ unasked_of frame) ≡ gives ++ pairs_from_frames meets left_box right_box news
    pub opened : opens_below meets left_box right_box (met_of frame ++ unasked_of frame) ≡ opens + opens_from_frames meets left_box right_box news
    pub room : (k : ℕ) → IsFrame meets left_box right_box k frame → AreFrames meets left_box right_box (suc k) news
    pub nearer : steps_of_frames news < steps_of_frame frame

  module _ {frame : Frame T E U F} {news : List (Frame T E U F)} {gives : List (T × U)} {opens : ℕ} (move : IsMove frame news gives opens) (left : List (Frame T E U F)) (w w' : PairWalk T U E F)
      (was : frames_of w ≡ left ++ frame ∷ []) (is : frames_of w' ≡ left ++ news) (room : w'.path.capacity ≡ w.path.capacity)
      (more : (n : ℕ) → w.opened ≡ min n usize_max → w'.opened ≡ min (n + opens) usize_max) (walk : IsWalk meets left_box right_box w) where
    move-pairs : pairs_by meets left_box right_box w ≡ gives ++ pairs_by meets left_box right_box w'
    move-pairs =
        ap (pairs_from_frames meets left_box right_box) was ∙ pairs-after left (frame ∷ [])
        ∙ ap (λ l. l ++ pairs_from_frames meets left_box right_box left) move.pairs
        ∙ append_assoc gives (pairs_from_frames meets left_box right_box news) (pairs_from_frames meets left_box right_box left)
        ∙ ap (λ l. gives ++ l) (sym (ap (pairs_from_frames meets left_box right_box) is ∙ pairs-after left news))

    move-on : GoesOn meets left_box right_box w w'
    move-on = record {
      walk = let last = frames-last (w.path.capacity + 1) left frame (subst (AreFrames meets left_box right_box (w.path.capacity + 1)) was walk) in
          frames-along (w.path.capacity + 1) (w'.path.capacity + 1) (ap (λ k. k + 1) (sym room)) (left ++ news) (frames_of w') (sym is) (last.3 news (move.room last.0 last.2));
      room = room;
      count = λ all h. record {
        count = h.count + opens;
        counted = more h.count h.counted;
        whole = omega (
          arith,
          ap (opens_from_frames meets left_box right_box) was,
          ap (opens_from_frames meets left_box right_box) is,
          opens-after left (frame ∷ []),
          opens-after left news,
          move.opened,
          h.whole,
        );
      };
    }

    -- a move that gives a pair is a step that finds it, and one that gives nothing passes
    pub finds : {t : Bor T} {u : Bor U} → gives ≡ the_pair t.now u.now ∷ [] → IsPairStep meets left_box right_box w (Found t u) w'
    finds one = record { on = move-on; given = move-pairs ∙ ap (λ l. l ++ pairs_by meets left_box right_box w') one; nearer = tt; over = tt }

    pub passes : gives ≡ [] → IsPairStep meets left_box right_box w Passed w'
    passes none = record {
      on = move-on;
      given = move-pairs ∙ ap (λ l. l ++ pairs_by meets left_box right_box w') none;
      nearer = omega (arith, ap steps_of_frames was, ap steps_of_frames is, steps-after left (frame ∷ []), steps-after left news, move.nearer);
      over = tt;
    }

  -- ---- pairs of nodes

  abbrev pairs_of : RTreeNode T E × RTreeNode U F → List (T × U)
  pairs_of p = pairs_at meets left_box right_box p.0 p.1

  abbrev opens_of : RTreeNode T E × RTreeNode U F → ℕ
  opens_of p = opens_at meets left_box right_box p.0 p.1

  abbrev asked_step : RTreeNode T E × RTreeNode U F → ℕ
  asked_step p = 1 + steps_of_pair p

  abbrev pub meets_pair : RTreeNode T E × RTreeNode U F → Bool
  meets_pair p = does_meet meets left_box right_box p.0 p.1

  -- of pairs those that meet are kept: the others give nothing, and each pair that was asked is a step
  record IsKeptOf (ps kept : List (RTreeNode T E × RTreeNode U F)) : Type 0 where
    pub pairs : pairs_below meets left_box right_box ps ≡ pairs_below meets left_box right_box kept
    pub opens : opens_below meets left_box right_box ps ≡ opens_below meets left_box right_box kept
    pub steps : sum_by steps_of_pair kept + length ps ≤ sum_by asked_step ps
    pub met : (h k : ℕ) → AllByRecursion (λ p. IsLevel h p.0 × IsLevel k p.1) ps → AllByRecursion (IsMetPair meets left_box right_box h k) kept

  kept-those : (ps : List (RTreeNode T E × RTreeNode U F)) → IsKeptOf ps (filter meets_pair ps)
  kept-those [] = record { pairs = refl; opens = refl; steps = omega arith; met = λ h k all. tt }
  kept-those (p ∷ ps) = by_test (meets_pair p) refl (filter meets_pair ps) (kept-those ps) where
    by_test : (b : Bool) → meets_pair p ≡ b → (kept : List (RTreeNode T E × RTreeNode U F)) → IsKeptOf ps kept → IsKeptOf (p ∷ ps) (if b then p ∷ kept else kept)
    by_test true is kept rest = record {
      pairs = ap (λ w. pairs_of p ++ w) rest.pairs;
      opens = omega (arith, sum_by-cons opens_of p ps, sum_by-cons opens_of p kept, rest.opens);
      steps = omega (arith, sum_by-cons steps_of_pair p kept, sum_by-cons asked_step p ps, rest.steps);
      met = λ h k all. (record { left = all.0.0; right = all.0.1; meeting = is }, rest.met h k all.1);
    }
    by_test false is kept rest =
        let none = passed meets left_box right_box p.0 p.1 is in
        record {
          pairs = ap (λ w. w ++ pairs_below meets left_box right_box ps) none.0 ∙ rest.pairs;
          opens = omega (arith, sum_by-cons opens_of p ps, none.1, rest.opens);
          steps = omega (arith, sum_by-cons asked_step p ps, rest.steps);
          met = λ h k all. rest.met h k all.1;
        }

  -- a frame with the nodes of another on the left, and on the right
  same-sides : (old : Frame T E U F) (asked later : Bor (List (RTreeNode U F))) (marks k : ℕ) (at : IsFrame meets left_box right_box k old)
      → AllByRecursion (IsMetPair meets left_box right_box at.left_height at.right_height) (met_of (frame_of old.lefts asked marks later old.rights))
      → AllByRecursion (IsLevel at.right_height) later.now → length later.now ≤ length old.rights.now → IsFrame meets left_box right_box k (frame_of old.lefts asked marks later old.rights)
  same-sides old asked later marks k at met levels no_more = search

  -- ---- a frame of which nothing was asked

  module _ (ls : Bor (List (RTreeNode T E))) (asked rights : Bor (List (RTreeNode U F))) where
    fresh-met : met_of (frame_of ls asked 0 rights rights) ≡ []
    fresh-met = marked-zero (product (take (rows_beside rights.now) ls.now) asked.now)

    fresh-unasked : unasked_of (frame_of ls asked 0 rights rights) ≡ product ls.now rights.now
    fresh-unasked = product-parts (rows_beside rights.now) ls.now rights.now

    pub fresh : met_of (frame_of ls asked 0 rights rights) ++ unasked_of (frame_of ls asked 0 rights rights) ≡ product ls.now rights.now
    fresh = ap (λ m. m ++ unasked_of (frame_of ls asked 0 rights rights)) fresh-met ∙ fresh-unasked

    fresh-steps : steps_of_frame (frame_of ls asked 0 rights rights) ≡ all_steps steps_at ls.now rights.now
    fresh-steps = omega (arith, ap (sum_by steps_of_pair) fresh-met, ap (sum_by asked_step) fresh-unasked, steps-listed steps_at ls.now rights.now)

    fresh-frame : (n h k : ℕ) → AllByRecursion (IsLevel h) ls.now → AllByRecursion (IsLevel k) rights.now → max h k ≤ n → IsFrame meets left_box right_box n (frame_of ls asked 0 rights rights)
    fresh-frame n h k left right fits = let met = subst (AllByRecursion (IsMetPair meets left_box right_box h k)) (sym fresh-met) tt in search arith

  -- ---- the moves of a step

  -- a frame with nothing left on the left
  pub move-drop : (frame : Frame T E U F) → frame.lefts.now ≡ [] → IsMove frame [] [] 0
  move-drop frame none =
      let k = rows_beside frame.rights.now in
      let block : take k frame.lefts.now ≡ [] = ap (take k) none ∙ take_all k [] (omega arith) in
      let others : drop k frame.lefts.now ≡ [] = ap (drop k) none ∙ drop_all k [] (omega arith) in
      let both : met_of frame ++ unasked_of frame ≡ [] =
      λ i. marked_items frame.marks (product (block i) frame.asked.now) ++ (product (block i) frame.later.now ++ product (others i) frame.rights.now) in
      record { pairs = ap (pairs_below meets left_box right_box) both; opened = ap (opens_below meets left_box right_box) both; room = λ k at. tt; nearer = omega arith }

  -- those that were asked together are read
  pub move-row : (frame : Frame T E U F) (more : Bor (List (RTreeNode T E))) → more.now ≡ drop (rows_beside frame.rights.now) frame.lefts.now → 0 < length frame.lefts.now
      → met_of frame ≡ [] → frame.later.now ≡ [] → IsMove frame (frame_of more frame.asked 0 frame.rights frame.rights ∷ []) [] 0
  move-row frame more is some none over =
      let lefts = frame.lefts.now in let k = rows_beside frame.rights.now in
      let unasked : unasked_of frame ≡ product more.now frame.rights.now =
      (λ i. product (take k lefts) (over i) ++ product (sym is i) frame.rights.now) ∙ ap (λ x. x ++ product more.now frame.rights.now) (product-none (take k lefts)) in
      let both : met_of frame ++ unasked_of frame ≡ product more.now frame.rights.now = λ i. none i ++ unasked i in
      let same = both ∙ sym (fresh more frame.asked frame.rights) in
      record {
        pairs = ap (pairs_below meets left_box right_box) same;
        opened = omega (arith, ap (opens_below meets left_box right_box) same);
        room = λ n at. (
          fresh-frame more frame.asked frame.rights n at.left_height at.right_height
              (rw is (all_second (IsLevel at.left_height) (take k lefts) (drop k lefts) (rw (take-append-drop k lefts) at.lefts))) at.rights at.fits,
          tt,
        );
        nearer = omega (
          arith,
          ap (sum_by steps_of_pair) none,
          ap (sum_by asked_step) unasked,
          ap (sum_by steps_of_pair) (fresh-met more frame.asked frame.rights),
          ap (sum_by asked_step) (fresh-unasked more frame.asked frame.rights),
          ap length is,
          length-drop k lefts,
          rows-positive frame.rights.now,
          some,
        );
      }

  -- the next nodes on the right are asked
  pub move-ask : (frame : Frame T E U F) (chunk rest : Bor (List (RTreeNode U F))) (more : ℕ) → met_of frame ≡ []
      → frame.later.now ≡ chunk.now ++ rest.now → 0 < length chunk.now → 0 < length (take (rows_beside frame.rights.now) frame.lefts.now)
      → (rest.now ≡ []) ⊎ (length (take (rows_beside frame.rights.now) frame.lefts.now) ≤ 1)
      → marked_items more (product (take (rows_beside frame.rights.now) frame.lefts.now) chunk.now) ≡ filter meets_pair (product (take (rows_beside frame.rights.now) frame.lefts.now) chunk.now)
      → IsMove frame (frame_of frame.lefts chunk more rest frame.rights ∷ []) [] 0
  move-ask frame chunk rest more none split some some' narrow made =
      let k = rows_beside frame.rights.now in let block = take k frame.lefts.now in
      let asked = product block chunk.now in let behind = product (drop k frame.lefts.now) frame.rights.now in
      let new = frame_of frame.lefts chunk more rest frame.rights in
      let unasked : unasked_of frame ≡ asked ++ unasked_of new =
      ap (λ x. product block x ++ behind) split ∙ ap (λ x. x ++ behind) (product-columns block chunk.now rest.now narrow) ∙ append_assoc asked (product block rest.now) behind in
      let both : met_of frame ++ unasked_of frame ≡ asked ++ unasked_of new = (λ i. none i ++ unasked i) in
      let those = kept-those asked in
      record {
        pairs = ap (pairs_below meets left_box right_box) both ∙ flat_map-append pairs_of asked (unasked_of new)
            ∙ ap (λ x. x ++ pairs_below meets left_box right_box (unasked_of new)) those.pairs
            ∙ sym (flat_map-append pairs_of (filter meets_pair asked) (unasked_of new))
            ∙ ap (λ m. pairs_below meets left_box right_box (m ++ unasked_of new)) (sym made);
        opened = omega (
          arith,
          ap (opens_below meets left_box right_box) both,
          sum_by-append opens_of asked (unasked_of new),
          those.opens,
          sum_by-append opens_of (filter meets_pair asked) (unasked_of new),
          ap (λ m. opens_below meets left_box right_box (m ++ unasked_of new)) made,
        );
        room = λ n at.
            let parts = subst (AllByRecursion (IsLevel at.right_height)) split at.later in
            let lefts = all_first (IsLevel at.left_height) block (drop k frame.lefts.now) (rw (take-append-drop k frame.lefts.now) at.lefts) in
            let chunks = all_first (IsLevel at.right_height) chunk.now rest.now parts in
            let levels = each-product (IsLevel at.left_height) (IsLevel at.right_height) (λ (p : RTreeNode T E × RTreeNode U F). IsLevel at.left_height p.0 × IsLevel at.right_height p.1)
            (λ x y q r. (q, r)) block chunk.now lefts chunks in
            let met = subst (AllByRecursion (IsMetPair meets left_box right_box at.left_height at.right_height)) (sym made) (those.met at.left_height at.right_height levels) in
            (same-sides frame chunk rest more n at met (all_second (IsLevel at.right_height) chunk.now rest.now parts) (omega (arith, ap length split, length-append chunk.now rest.now, at.no_more)), tt);
        nearer = omega (
          arith,
          ap (sum_by steps_of_pair) none,
          ap (sum_by asked_step) unasked,
          sum_by-append asked_step asked (unasked_of new),
          those.steps,
          ap (sum_by steps_of_pair) made,
          product-some block chunk.now some' some,
        );
      }

  -- ---- a pair that is read

  module _ (frame : Frame T E U F) (more : ℕ) (l : RTreeNode T E) (r : RTreeNode U F) (first : met_of frame ≡ the_pair l r ∷ met_of (record frame { marks = more })) where
    abbrev behind : Frame T E U F
    behind = record frame { marks = more }

    read-met : {k : ℕ} (at : IsFrame meets left_box right_box k frame) → AllByRecursion (IsMetPair meets left_box right_box at.left_height at.right_height) (the_pair l r ∷ met_of behind)
    read-met at = subst (AllByRecursion (IsMetPair meets left_box right_box at.left_height at.right_height)) first at.met

    -- it meets
    pub read-meets : {k : ℕ} → IsFrame meets left_box right_box k frame → does_meet meets left_box right_box l r ≡ true
    read-meets at = (read-met at).0.meeting

    read-frame : (k : ℕ) → IsFrame meets left_box right_box k frame → IsFrame meets left_box right_box k behind
    read-frame k at = same-sides frame frame.asked frame.later more k at (read-met at).1 at.later at.no_more

    read-pairs : pairs_below meets left_box right_box (met_of frame ++ unasked_of frame) ≡ pairs_at meets left_box right_box l r ++ pairs_below meets left_box right_box (met_of behind ++ unasked_of behind)
    read-pairs = ap (λ m. pairs_below meets left_box right_box (m ++ unasked_of frame)) first

    read-opens : opens_below meets left_box right_box (met_of frame ++ unasked_of frame) ≡ opens_at meets left_box right_box l r + opens_below meets left_box right_box (met_of behind ++ unasked_of behind)
    read-opens = ap (λ m. opens_below meets left_box right_box (m ++ unasked_of frame)) first ∙ sum_by-cons opens_of (the_pair l r) (met_of behind ++ unasked_of behind)

    read-steps : steps_of_frame frame ≡ steps_at l r + steps_of_frame behind
    read-steps = omega (arith, ap (sum_by steps_of_pair) first ∙ sum_by-cons steps_of_pair (the_pair l r) (met_of behind))

    -- two leaves that meet
    pub move-read : (t : T) (u : U) → AreLeaves meets left_box right_box t u l r → does_meet meets left_box right_box l r ≡ true → IsMove frame (behind ∷ []) (the_pair t u ∷ []) 0
    move-read t u two meeting =
        let given = two.pairs ∙ ap (λ (b : Bool). if b then the_pair t u ∷ [] else []) (sym two.meeting ∙ meeting) in
        record {
          pairs = read-pairs ∙ ap (λ g. g ++ pairs_below meets left_box right_box (met_of behind ++ unasked_of behind)) given;
          opened = omega (arith, read-opens, two.opens);
          room = λ k at. (read-frame k at, tt);
          nearer = omega (arith, read-steps, two.steps);
        }

    -- a pair that is not of two leaves has room below it
    pub open-room : both_leaves l r ≡ false → (k : ℕ) → IsFrame meets left_box right_box k frame → 1 ≤ k
    open-room inner zero at =
        let met = (read-met at).0 in
        let low : at.left_height ≡ 0 = omega (arith, at.fits) in let low' : at.right_height ≡ 0 = omega (arith, at.fits) in
        let a = is_leaf (λ t. ⊤) l (subst (λ h. IsLevel h l) low met.left) in let b = is_leaf (λ u. ⊤) r (subst (λ h. IsLevel h r) low' met.right) in
        absurd (true≢false (sym (leaves meets left_box right_box l r a.0 b.0 a.1 b.1).both ∙ inner))
    open-room inner (suc k) at = omega arith

    -- a pair that is opened
    module _ (ls' : Bor (List (RTreeNode T E))) (rs' : Bor (List (RTreeNode U F))) (inner : both_leaves l r ≡ false) (down : ls'.now ≡ opened_to l) (down' : rs'.now ≡ opened_to r) where
      abbrev below : Frame T E U F
      below = frame_of ls' frame.asked 0 rs' rs'

      open-frames : (k : ℕ) → IsFrame meets left_box right_box k frame → AreFrames meets left_box right_box (suc k) (behind ∷ below ∷ [])
      open-frames zero at = absurd (omega (arith, open-room inner zero at))
      open-frames (suc k) at =
          let met = (read-met at).0 in
          let a = whole-opened (λ p. children_of p ≢ []) (λ t. ⊤) k at.left_height l (omega (arith, at.fits)) met.left in
          let b = whole-opened (λ q. children_of q ≢ []) (λ u. ⊤) k at.right_height r (omega (arith, at.fits)) met.right in
          (read-frame (suc k) at, (fresh-frame ls' frame.asked rs' k a.0 b.0 (rw down a.2) (rw down' b.2) (omega (arith, a.1, b.1)), tt))

      pub move-open : does_meet meets left_box right_box l r ≡ true → IsMove frame (behind ∷ below ∷ []) [] 1
      move-open meeting =
          let gone : IsOpened meets left_box right_box true ls'.now rs'.now l r = rw (down, down') (opened meets left_box right_box true l r inner meeting) in
          let pairs = gone.pairs ∙ ap (pairs_below meets left_box right_box) (sym (fresh ls' frame.asked rs')) in
          record {
            pairs = read-pairs ∙ ap (λ g. g ++ pairs_below meets left_box right_box (met_of behind ++ unasked_of behind)) pairs;
            opened = omega (arith, read-opens, gone.opens, ap (opens_below meets left_box right_box) (fresh ls' frame.asked rs'));
            room = open-frames;
            nearer = omega (arith, read-steps, gone.steps, fresh-steps ls' frame.asked rs');
          }

  -- room for a push, where the frame that is read wants some
  pub path-room : (w : PairWalk T U E F) → IsWalk meets left_box right_box w → ((k : ℕ) → IsFrame meets left_box right_box k w.frame → 1 ≤ k) → length w.path.items < w.path.capacity
  path-room w walk wants = let last = frames-last (w.path.capacity + 1) w.path.items w.frame walk in let k = wants last.0 last.2 in omega (arith, last.1, k)

  -- the frame that is read is one
  pub last-frame : (w : PairWalk T U E F) → IsWalk meets left_box right_box w → (k : ℕ) × IsFrame meets left_box right_box k w.frame
  last-frame w walk = let last = frames-last (w.path.capacity + 1) w.path.items w.frame walk in (last.0, last.2)

  -- one step after another
  pub goes-on : {old mid new : PairWalk T U E F} → GoesOn meets left_box right_box old mid → GoesOn meets left_box right_box mid new → GoesOn meets left_box right_box old new
  goes-on a b = record { walk = b.walk; room = b.room ∙ a.room; count = λ all h. b.count all (a.count all h) }

  -- ---- a walk with nothing to read, and one that begins

  module _ (w : PairWalk T U E F) (idle : IsIdle w) where
    alone : frames_of w ≡ w.frame ∷ []
    alone = ap (λ l. l ++ w.frame ∷ []) idle.bare

    pub idle-pairs : pairs_by meets left_box right_box w ≡ []
    idle-pairs = ap (pairs_from_frames meets left_box right_box) alone ∙ (move-drop w.frame idle.nothing).pairs

    pub idle-opens : opens_by meets left_box right_box w ≡ 0
    idle-opens = omega (arith, ap (opens_from_frames meets left_box right_box) alone, (move-drop w.frame idle.nothing).opened)

    -- all was opened that there was to open
    pub idle-count : (all : ℕ) → CountsPairs meets left_box right_box all w → w.opened ≡ min all usize_max
    idle-count all h = omega (arith, h.whole, h.counted, idle-opens)

  pub at_most : (all : ℕ) (w : PairWalk T U E F) → CountsPairs meets left_box right_box all w → w.opened ≤ all
  at_most all w h = omega (arith, h.whole, h.counted)

  module _ (w : PairWalk T U E F) (bare : w.path.items ≡ []) (fresh-hand : w.frame ≡ frame_of w.frame.lefts w.frame.asked 0 w.frame.rights w.frame.rights) where
    begun : frames_of w ≡ frame_of w.frame.lefts w.frame.asked 0 w.frame.rights w.frame.rights ∷ []
    begun = λ i. bare i ++ fresh-hand i ∷ []

    pub begins : AreJoinable w.path.capacity w.frame.lefts.now w.frame.rights.now → IsWalk meets left_box right_box w
    begins at =
        let one : suc w.path.capacity ≡ w.path.capacity + 1 = omega arith in
        let hand = fresh-frame w.frame.lefts w.frame.asked w.frame.rights w.path.capacity at.left_height at.right_height at.left at.right at.fits in
        frames-along _ _ one (frame_of w.frame.lefts w.frame.asked 0 w.frame.rights w.frame.rights ∷ []) (frames_of w) (sym begun) (hand, tt)

    pub begins-pairs : pairs_by meets left_box right_box w ≡ all_pairs meets left_box right_box w.frame.lefts.now w.frame.rights.now
    begins-pairs = ap (pairs_from_frames meets left_box right_box) begun ∙ ap (pairs_below meets left_box right_box) (fresh w.frame.lefts w.frame.asked w.frame.rights)

    pub begins-opens : opens_by meets left_box right_box w ≡ all_opens meets left_box right_box w.frame.lefts.now w.frame.rights.now
    begins-opens = omega (arith, ap (opens_from_frames meets left_box right_box) begun, ap (opens_below meets left_box right_box) (fresh w.frame.lefts w.frame.asked w.frame.rights))
