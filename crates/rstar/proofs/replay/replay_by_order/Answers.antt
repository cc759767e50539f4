use Rattle.std.proofs.lemmas.Result.{IfOk-weaker}
use Rattle.rstar.specs.Steps.{questions_of, Step, StepByOrder}
use Rattle.rstar.proofs.commands.Replays.{run_listed}
use Rattle.rstar.proofs.commands.StepsByOrder.{first_reading-trees}
use Rattle.rstar.proofs.replay.replay_by_order.Goals as goal

pub returns-clause-run : goal.returns-clause-run
returns-clause-run g c =
    let q = questions_of g.T.Envelope.Envelope.boxes g.T.RTreeObject.object g.T.PointDistance.distances g.T.Envelope.Point.Point.DIMENSIONS g.T.Envelope.Point.Point.coord g.T.Envelope.Point.Scalar.Number.value g.T.PartialEq.eq in
    IfOk-weaker c.replay_in.result _ _ (λ replies. run_listed g.T.Envelope.Envelope.boxes g.T.RTreeObject.object g.Params.RTreeParams.MAX_SIZE g.Params.RTreeParams.REINSERTION_COUNT (StepByOrder q g.T.Ord.cmp) c.args.tree.now c.args.commands.items replies.items c.replay_in.new.tree) c.replay_in.ensures.steps

pub returns-clause-first_reading : goal.returns-clause-first_reading
returns-clause-first_reading g c =
    let q = questions_of g.T.Envelope.Envelope.boxes g.T.RTreeObject.object g.T.PointDistance.distances g.T.Envelope.Point.Point.DIMENSIONS g.T.Envelope.Point.Point.coord g.T.Envelope.Point.Scalar.Number.value g.T.PartialEq.eq in
    IfOk-weaker c.replay_in.result _ _
    (λ replies run. run_listed g.T.Envelope.Envelope.boxes g.T.RTreeObject.object g.Params.RTreeParams.MAX_SIZE g.Params.RTreeParams.REINSERTION_COUNT (Step q) c.args.tree.now c.args.commands.items replies.items c.replay_in.new.tree (first_reading-trees q g.T.Ord.cmp g.T.Envelope.Envelope.boxes g.T.RTreeObject.object g.Params.RTreeParams.MAX_SIZE g.Params.RTreeParams.REINSERTION_COUNT c.args.tree.now c.args.commands.items replies.items c.replay_in.new.tree run)) c.replay_in.ensures.steps
