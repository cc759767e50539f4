use Rattle.std.proofs.Common.{◌∙◌, ap, min, refl}
use Rattle.rstar_base.specs.Counts.{usize_max}
use Rattle.rstar.specs.SelfJoins.{own_meet}
use Rattle.rstar.proofs.selecting.Chains.{own_end}
use Rattle.rstar_vectors.proofs.Callers.{listed}
use Rattle.rstar_vectors.proofs.Drained.{own-opened}
use Rattle.rstar_vectors.proofs.pairs.paired.Goals as goal

pub returns-in-Ok-drained-clause-all : goal.returns-in-Ok-drained-clause-all
returns-in-Ok-drained-clause-all g c = let run = c.in-Ok-drained.ensures in listed (own_end _ _ refl _ _ run.1 _ run.2) c.in-Ok.ensures.all

pub returns-in-Ok-drained-clause-opened : goal.returns-in-Ok-drained-clause-opened
returns-in-Ok-drained-clause-opened g c =
    c.opened.ensures ∙ own-opened _ _ _ c.in-Ok-drained.ensures
    ∙ ap (λ root. min (own_meet g.T.Envelope.Envelope.boxes.intersects g.T.RTreeObject.object.box_of root) usize_max) c.in-Ok.ensures.made.over
