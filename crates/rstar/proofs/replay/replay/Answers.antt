use Rattle.std.proofs.lemmas.Result.{IfOk-weaker}
use Rattle.rstar.specs.Steps.{questions_of, Step}
use Rattle.rstar.specs.inside.Searches.{any_first}
use Rattle.rstar.proofs.commands.Replays.{run_listed}
use Rattle.rstar.proofs.commands.StepsByOrder.{first_reading-trees}
use Rattle.rstar.proofs.replay.replay.Goals as goal

pub returns-clause-steps : goal.returns-clause-steps
returns-clause-steps g c =
    let q = questions_of g.T.Envelope.Envelope.boxes g.T.RTreeObject.object g.T.PointDistance.distances g.T.Envelope.Point.Point.DIMENSIONS g.T.Envelope.Point.Point.coord g.T.Envelope.Point.Scalar.Number.value g.T.PartialEq.eq in
    IfOk-weaker c.replay_in.result _ _ (λ replies. first_reading-trees q any_first g.T.Envelope.Envelope.boxes g.T.RTreeObject.object g.Params.RTreeParams.MAX_SIZE g.Params.RTreeParams.REINSERTION_COUNT c.args.tree.now c.args.commands.items replies.items c.replay_in.new.tree) c.replay_in.ensures.steps

pub returns-clause-run : goal.returns-clause-run
returns-clause-run g c =
    let q = questions_of g.T.Envelope.Envelope.boxes g.T.RTreeObject.object g.T.PointDistance.distances g.T.Envelope.Point.Point.DIMENSIONS g.T.Envelope.Point.Point.coord g.T.Envelope.Point.Scalar.Number.value g.T.PartialEq.eq in
    IfOk-weaker c.replay_in.result _ _ (λ replies. run_listed g.T.Envelope.Envelope.boxes g.T.RTreeObject.object g.Params.RTreeParams.MAX_SIZE g.Params.RTreeParams.REINSERTION_COUNT (Step q) c.args.tree.now c.args.commands.items replies.items c.replay_in.new.tree) (returns-clause-steps g c)
