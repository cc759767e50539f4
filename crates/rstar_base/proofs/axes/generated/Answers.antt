use Rattle.std.proofs.Common.{◌≡◌}
use Rattle.rstar_base.specs.Scalars.{InRange}
use Rattle.rstar_base.specs.laws.PointLemmas.{callable, made_holds}
use Rattle.rstar_base.proofs.axes.generated.Goals as goal

pub generate-requires : goal.generate-requires
generate-requires g c = callable _ _ _ _ c.requires (λ k y q l s. g.met.F.Fn.1.step_stays _ _ _ _ s)

pub returns-clause-coords : goal.returns-clause-coords
returns-clause-coords g c = λ to h i l.
    made_holds _ _ _ (λ k z. z ≡ to k) _ _ c.generate.ensures.made (λ k y q l s. (h k y l ((g.met.F.FnMut.1.post_iff _ _ _).1 (q, s)), g.met.F.Fn.1.step_stays _ _ _ _ s)) i l

pub returns-clause-range : goal.returns-clause-range
returns-clause-range g c = λ h i l.
    made_holds _ _ _ (λ k z. InRange g.P.Scalar.Bounded.low g.P.Scalar.Bounded.high z) _ _ c.generate.ensures.made (λ k y q l s. (h k y l ((g.met.F.FnMut.1.post_iff _ _ _).1 (q, s)), g.met.F.Fn.1.step_stays _ _ _ _ s)) i l
