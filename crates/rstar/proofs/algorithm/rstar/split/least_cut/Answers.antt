use Rattle.std.proofs.Common.{◌≡◌, ◌∙◌, ◌||◌, ◌&&◌, ◌+◌, ◌<◌, ◌≤◌, not, true, false, ℕ, ℤ, pos, int_lt, sym, arith, unsigned_abs}
use Rattle.std.proofs.lemmas.Int.{ints}
use Rattle.rstar.specs.Cuts.{IsPairAtMost, overlap_at, areas_at}
use Rattle.rstar.proofs.algorithm.rstar.split.least_cut.Goals as goal
use Rattle.rstar.proofs.algorithm.rstar.split.least_cut.Goals.{then-is_below, else-is_below}

-- the least cut so far, after the test of `is_below`
module _ (o a : ℕ → ℕ) (min k best : ℕ) {x y p q : ℤ} (x_is : x ≡ pos (o k)) (y_is : y ≡ pos (a k)) (p_is : p ≡ pos (o best)) (q_is : q ≡ pos (a best))
    (least : (j : ℕ) → min ≤ j → j < k → IsPairAtMost (o best) (a best) (o j) (a j)) where
  least_new : (int_lt x p || (not (int_lt p x) && int_lt y q)) ≡ true → (j : ℕ) → min ≤ j → j < k + 1 → IsPairAtMost (o k) (a k) (o j) (a j)
  least_new h j low high = grind (arith, ints, least j low)

  least_old : (int_lt x p || (not (int_lt p x) && int_lt y q)) ≡ false → (j : ℕ) → min ≤ j → j < k + 1 → IsPairAtMost (o best) (a best) (o j) (a j)
  least_old h j low high = grind (arith, ints, least j low)

pub loop-k-preserved : goal.loop-k-preserved
loop-k-preserved g c =
    let overlap : ℕ → ℕ = overlap_at g.T.Envelope.Envelope.boxes g.T.RTreeObject.object.box_of c.args.list.now in
    let areas : ℕ → ℕ = areas_at g.T.Envelope.Envelope.boxes g.T.RTreeObject.object.box_of (unsigned_abs g.T.Envelope.Point.Scalar.Bounded.high) c.args.list.now in
    let so_far = c.loop-k.invariant in
    let here = c.measures_at-here.ensures in
    elim c.if-is_below.branch [
      | then-is_below w ↦ rw (w.best-is, w.least-is)
          (search (arith, least_new overlap areas g.Params.RTreeParams.MIN_SIZE c.loop-k.k c.loop-k.best here.overlap here.areas so_far.first so_far.second so_far.least (sym c.is_below.ensures ∙ w.if-is_below.true)))
      | else-is_below w ↦ rw (w.best-is, w.least-is)
          (search (arith, least_old overlap areas g.Params.RTreeParams.MIN_SIZE c.loop-k.k c.loop-k.best here.overlap here.areas so_far.first so_far.second so_far.least (sym c.is_below.ensures ∙ w.if-is_below.false)))
    ]
