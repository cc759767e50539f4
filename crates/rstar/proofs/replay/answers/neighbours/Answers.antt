use Rattle.std.proofs.Common.{ℕ}
use Rattle.std.proofs.lemmas.List.Sorted.{IsPermutation-refl}
use Rattle.rstar_base.specs.Points.{table}
use Rattle.rstar.specs.Lists.{IsNotLater}
use Rattle.rstar.specs.Trees.{elements_in}
use Rattle.rstar.proofs.commands.Firsts.{stated_ranks, first-clones}
use Rattle.rstar.proofs.replay.answers.neighbours.Goals as goal

pub returns-in-Ok-clones_of_lent : goal.returns-in-Ok-clones_of_lent
returns-in-Ok-clones_of_lent g c =
    let distance : g.row.T.Denot → ℕ = λ t. g.T.PointDistance.distances.distance_2 t (table g.T.Envelope.Point.Point.DIMENSIONS (g.T.Envelope.Point.Point.coord c.args.point)) in (
      first-clones (IsNotLater distance g.O.TieOrder.order) (stated_ranks distance g.met.O.TieOrder.total) distance g.T.Envelope.Point.Scalar.Number.value (elements_in c.args.tree.now) c.args.most c.in-Ok.lent.items
          c.in-Ok-clones_of_lent.found.items c.in-Ok-clones_of_lent.ensures (rw c.root.ensures.shown at c.in-Ok.ensures.first) c.in-Ok.ensures.distances,
      IsPermutation-refl _,
    )
