use Rattle.std.proofs.Common.{take}
use Rattle.std.specs.List.{AllByRecursion}
use Rattle.rstar.specs.Steps.{questions_of, IsFit}
use Rattle.rstar.proofs.replay.fits.all_fit.Given as goal

-- those so far are fit
abbrev pub invariant-loop-command : goal.invariant-loop-command
invariant-loop-command g l = AllByRecursion (IsFit (questions_of g.T.Envelope.Envelope.boxes g.T.RTreeObject.object g.T.PointDistance.distances g.T.Envelope.Point.Point.DIMENSIONS g.T.Envelope.Point.Point.coord g.T.Envelope.Point.Scalar.Number.value g.T.PartialEq.eq) g.T.Envelope.Point.Point.DIMENSIONS) (take l.command-index l.commands)
