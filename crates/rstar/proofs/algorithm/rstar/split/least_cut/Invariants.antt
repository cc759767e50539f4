use Rattle.std.proofs.Common.{◌≡◌, ℕ, ◌<◌, ◌≤◌, pos, unsigned_abs}
use Rattle.rstar.specs.Cuts.{IsAllowedCut, IsPairAtMost, overlap_at, areas_at}
use Rattle.rstar.proofs.algorithm.rstar.split.least_cut.Given as goal

-- the least of the cuts so far, with its measures
abbrev pub invariant-loop-k : goal.invariant-loop-k
invariant-loop-k g l =
    let overlap : ℕ → ℕ = overlap_at g.T.Envelope.Envelope.boxes g.T.RTreeObject.object.box_of l.list in
    let areas : ℕ → ℕ = areas_at g.T.Envelope.Envelope.boxes g.T.RTreeObject.object.box_of (unsigned_abs g.T.Envelope.Point.Scalar.Bounded.high) l.list in
    record {
      allowed : IsAllowedCut g.Params.RTreeParams.MIN_SIZE l.list l.best;
      first : g.T.Envelope.Point.Scalar.Number.value l.least.0 ≡ pos (overlap l.best);
      second : g.T.Envelope.Point.Scalar.Number.value l.least.1 ≡ pos (areas l.best);
      least : (j : ℕ) → g.Params.RTreeParams.MIN_SIZE ≤ j → j < l.k → IsPairAtMost (overlap l.best) (areas l.best) (overlap j) (areas j);
    }
