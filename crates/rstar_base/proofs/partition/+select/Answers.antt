use Rattle.std.proofs.Common.{IsPermutation, ◌≡◌, ◌<◌, ◌≤◌, ◌+◌, ◌-◌, ◌++◌, ℕ, ap, arith, length, sym, subst, ◌∙◌}
use Rattle.std.proofs.lemmas.List.Sorted.{IsPermutation-append_left, IsPermutation-append_right, IsPermutation-refl, IsPermutation-trans, length_permutation}
use Rattle.rstar_base.proofs.Around.{found_front, found_back}
use Rattle.rstar_base.proofs.Splits.{split_from_sorted}
use Rattle.rstar_base.proofs.partition.+select.Goals as goal

up_to : (low high n m : ℕ) → low ≤ high → high ≤ n → m ≡ n → low ≤ m
up_to low high n m h k e = omega arith

behind : (k high n m : ℕ) → high ≤ k → k < n → m + high ≡ n → k - high < m
behind k high n m h l e = omega arith

pub select-returns-then-turns-eq0-clause-split : goal.select-returns-then-turns-eq0-clause-split
select-returns-then-turns-eq0-clause-split g t c =
    split_from_sorted _ _ _ (subst (λ n. c.args.k < n) (sym (length_permutation c.args.list.now c.sort_envelopes.new.list c.sort_envelopes.ensures.same)) c.requires.place) c.sort_envelopes.ensures.rises

pub select-split_at_mut-front-requires : goal.select-split_at_mut-front-requires
select-split_at_mut-front-requires g t c = up_to c.split_around-from.result.0 c.split_around-from.result.1 (length c.pivot_for-pivot.new.list) (length c.split_around-from.new.list) c.split_around-from.ensures.order c.split_around-from.ensures.within (length_permutation c.pivot_for-pivot.new.list c.split_around-from.new.list c.split_around-from.ensures.same)

pub select-split_at_mut-back-requires : goal.select-split_at_mut-back-requires
select-split_at_mut-back-requires g t c = subst (λ n. c.split_around-from.result.1 ≤ n) (sym (length_permutation c.pivot_for-pivot.new.list c.split_around-from.new.list c.split_around-from.ensures.same)) c.split_around-from.ensures.within

pub select-select-requires : goal.select-select-requires
select-select-requires g t c = λ κs w. (omega (arith, c.decreases, c.if-turns-eq0.false), (w.0, (w.1.0, (w.1.1.0, (w.1.1.1.0, (w.1.1.1.1, (c.requires.axis, subst (λ n. c.args.k < n) (sym c.split_at_mut-front.ensures.front_len) c.if-k-from.true)))))))

pub select-select-requires-then-to-k : goal.select-select-requires-then-to-k
select-select-requires-then-to-k g t c =
    let same = IsPermutation-trans c.args.list.now c.pivot_for-pivot.new.list c.split_around-from.new.list c.pivot_for-pivot.ensures.same c.split_around-from.ensures.same in
    λ κs w. (omega (arith, c.decreases, c.if-turns-eq0.false), (w.0, (w.1.0, (w.1.1.0, (w.1.1.1.0, (w.1.1.1.1, (c.requires.axis, behind c.args.k c.split_around-from.result.1 (length c.split_around-from.new.list) (length c.split_at_mut-back.result.1.now) c.if-to-k.true (subst (λ n. c.args.k < n) (sym (length_permutation c.args.list.now c.split_around-from.new.list same)) c.requires.place) c.split_at_mut-back.ensures.back_len)))))))

pub select-returns-then-k-from : goal.select-returns-then-k-from
select-returns-then-k-from g t c =
    let found = found_front (λ t. g.T.Envelope.Envelope.boxes.axis_key (g.T.RTreeObject.object.box_of t) c.args.axis) (g.T.Envelope.Point.Scalar.Number.value c.pivot_for-pivot.result) c.split_around-from.result.0 c.split_around-from.result.1 c.args.k c.split_around-from.new.list c.split_at_mut-front.result.0.now c.split_at_mut-front.result.1.now c.select.new.list c.split_around-from.ensures.around c.split_around-from.ensures.order (subst (λ n. c.split_around-from.result.1 ≤ n) (sym (length_permutation c.pivot_for-pivot.new.list c.split_around-from.new.list c.split_around-from.ensures.same)) c.split_around-from.ensures.within) c.if-k-from.true c.split_at_mut-front.ensures.front c.split_at_mut-front.ensures.back c.select.ensures.same c.select.ensures.split in
    let same = IsPermutation-trans c.args.list.now c.pivot_for-pivot.new.list c.split_around-from.new.list c.pivot_for-pivot.ensures.same c.split_around-from.ensures.same in
    record { same = IsPermutation-trans c.args.list.now c.split_around-from.new.list _ same found.0; split = found.1 }

pub select-returns-then-to-k : goal.select-returns-then-to-k
select-returns-then-to-k g t c =
    let same = IsPermutation-trans c.args.list.now c.pivot_for-pivot.new.list c.split_around-from.new.list c.pivot_for-pivot.ensures.same c.split_around-from.ensures.same in
    let found = found_back (λ t. g.T.Envelope.Envelope.boxes.axis_key (g.T.RTreeObject.object.box_of t) c.args.axis) (g.T.Envelope.Point.Scalar.Number.value c.pivot_for-pivot.result) c.split_around-from.result.0 c.split_around-from.result.1 c.args.k c.split_around-from.new.list c.split_at_mut-back.result.0.now c.split_at_mut-back.result.1.now c.select-then-to-k.new.list c.split_around-from.ensures.around c.split_around-from.ensures.order c.if-to-k.true (subst (λ n. c.args.k < n) (sym (length_permutation c.args.list.now c.split_around-from.new.list same)) c.requires.place) c.split_at_mut-back.ensures.front c.split_at_mut-back.ensures.back c.select-then-to-k.ensures.same c.select-then-to-k.ensures.split in
    record { same = IsPermutation-trans c.args.list.now c.split_around-from.new.list _ same found.0; split = found.1 }

pub select-returns-else-to-k-clause-same : goal.select-returns-else-to-k-clause-same
select-returns-else-to-k-clause-same g t c =
    IsPermutation-trans c.args.list.now c.pivot_for-pivot.new.list c.split_around-from.new.list c.pivot_for-pivot.ensures.same c.split_around-from.ensures.same

pub pivot_for-returns-then-list-lt-LONG : goal.pivot_for-returns-then-list-lt-LONG
pivot_for-returns-then-list-lt-LONG g t c = record { same = IsPermutation-refl _ }

pub pivot_for-returns : goal.pivot_for-returns
pivot_for-returns g t c =
    let front = c.split_at_mut-rest.result.0.now in
    let sample = c.split_at_mut-sample.result.0.now in
    let back = c.split_at_mut-sample.result.1.now in
    record {
      same = subst (λ zs. IsPermutation zs (front ++ (c.select.new.list ++ back)))
          (sym (c.split_at_mut-rest.ensures.value ∙ ap (λ zs. front ++ zs) c.split_at_mut-sample.ensures.value))
          (IsPermutation-append_right front (sample ++ back) (c.select.new.list ++ back)
          (IsPermutation-append_left back sample c.select.new.list c.select.ensures.same));
    }
