use Rattle.std.proofs.Common.{◌≡◌, ◌≤◌, ◌++◌, length, vec_len, vec_capacity}
use Rattle.std.specs.List.{AllByRecursion}
use Rattle.std.specs.Vec.Iter.{into_iter_items}
use Rattle.rstar.specs.Trees.{IsWholeTree}
use Rattle.rstar.specs.Steps.{questions_of, IsFit, StepByOrder}
use Rattle.rstar.specs.StepsOfTrees.{StepOfTree}
use Rattle.rstar.proofs.commands.Replays.{RunsTo}
use Rattle.rstar.proofs.replay.replay_in.Given as goal

-- the replies so far are those of a run of the commands so far
abbrev pub invariant-loop-command : goal.invariant-loop-command
invariant-loop-command g l = record {
  steps : RunsTo (StepOfTree g.T.Envelope.Envelope.boxes g.T.RTreeObject.object g.Params.RTreeParams.MAX_SIZE g.Params.RTreeParams.REINSERTION_COUNT (StepByOrder (questions_of g.T.Envelope.Envelope.boxes g.T.RTreeObject.object g.T.PointDistance.distances g.T.Envelope.Point.Point.DIMENSIONS g.T.Envelope.Point.Point.coord g.T.Envelope.Point.Scalar.Number.value g.T.PartialEq.eq) g.O.TieOrder.order)) l.initial.tree l.yielded l.replies.items l.tree;
  whole : IsWholeTree g.T.Envelope.Envelope.boxes g.T.RTreeObject.object g.Params.RTreeParams.MAX_SIZE l.tree;
  fit : AllByRecursion (IsFit (questions_of g.T.Envelope.Envelope.boxes g.T.RTreeObject.object g.T.PointDistance.distances g.T.Envelope.Point.Point.DIMENSIONS g.T.Envelope.Point.Point.coord g.T.Envelope.Point.Scalar.Number.value g.T.PartialEq.eq) g.T.Envelope.Point.Point.DIMENSIONS) (into_iter_items l.command-iterator);
  all : l.yielded ++ into_iter_items l.command-iterator ≡ l.fn.commands.items;
  replies : vec_len l.replies ≡ length l.yielded;
  room : vec_len l.fn.commands ≤ vec_capacity l.replies;
}
