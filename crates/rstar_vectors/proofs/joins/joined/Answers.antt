use Rattle.std.proofs.Common.{◌∙◌, ap, min, refl}
use Rattle.rstar_base.specs.Counts.{usize_max}
use Rattle.rstar.proofs.selecting.Chains.{pairs_end}
use Rattle.rstar_vectors.proofs.Callers.{met, listed}
use Rattle.rstar_vectors.proofs.Drained.{all-opened}
use Rattle.rstar_vectors.proofs.joins.joined.Goals as goal

pub returns-in-Ok-drained-clause-all : goal.returns-in-Ok-drained-clause-all
returns-in-Ok-drained-clause-all g c = let run = c.in-Ok-drained.ensures in listed (pairs_end _ _ refl _ _ run.1 _ run.2) c.in-Ok.ensures.all

pub returns-in-Ok-drained-clause-opened : goal.returns-in-Ok-drained-clause-opened
returns-in-Ok-drained-clause-opened g c =
    c.opened.ensures ∙ all-opened _ _ _ _ _ _ c.in-Ok-drained.ensures ∙ ap (λ n. min n usize_max) (met c.in-Ok.ensures.made)
