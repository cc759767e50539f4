use Rattle.std.proofs.Common.{◌≡◌, ℕ, arith}
use Rattle.std.proofs.lemmas.List.Sorted.{IsPermutation-refl}
use Rattle.rstar_base.specs.Points.{table}
use Rattle.rstar.specs.Lists.{IsNotLater}
use Rattle.rstar.specs.Trees.{elements_in}
use Rattle.rstar.proofs.commands.Firsts.{stated_ranks, first-one, first-none}
use Rattle.rstar.proofs.replay.answers.nearest.Goals as goal

pub returns-in_default-first : goal.returns-in_default-first
returns-in_default-first g c = (first-none _ (elements_in c.args.tree.now) 1 c.in-Ok.lent.items (omega arith) (rw c.root.ensures.shown at c.in-Ok.ensures.first) (rw c.deref.ensures.value at c.in_default-first.ensures.value), IsPermutation-refl _)

pub returns-in-Ok-clone : goal.returns-in-Ok-clone
returns-in-Ok-clone g c =
    let same : c.in-Ok-clone.element ≡ c.in-Some.near.now.0.now = c.requires.clones _ _ c.in-Ok-clone.ensures.cases in
    let distance : g.row.T.Denot → ℕ = λ t. g.T.PointDistance.distances.distance_2 t (table g.T.Envelope.Point.Point.DIMENSIONS (g.T.Envelope.Point.Point.coord c.args.point)) in (
      rw same (first-one (IsNotLater distance g.O.TieOrder.order) (stated_ranks distance g.met.O.TieOrder.total) distance g.T.Envelope.Point.Scalar.Number.value (elements_in c.args.tree.now) 1 c.in-Ok.lent.items
          c.in-Some.near.now (rw c.root.ensures.shown at c.in-Ok.ensures.first) c.in-Ok.ensures.distances (rw c.deref.ensures.value at c.in-Some.ensures.value)),
      IsPermutation-refl _,
    )
