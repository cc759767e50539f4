use Rattle.std.proofs.Common.{rules, tests, ◌%◌, ◌==◌, [], ◌∷◌, pos, refl, to_z-of_z}
use Rattle.std.proofs.lemmas.Result.{IfOk-weaker}
use Rattle.rstar_uses.proofs.Able.{begun-at}
use Rattle.rstar_uses.proofs.Vehicles.{far}
use Rattle.rstar_uses.proofs.dispatch.tests.nearest_odd.Goals as goal

pub returns : goal.returns
returns c =
    IfOk-weaker c.nearest_able.result _ _ (λ found first.
    begun-at far (λ t. t.1 % 2 == 1) _ c.args.limit (pos 0 ∷ pos 0 ∷ []) (pos 0 ∷ pos 0 ∷ []) c.args.dispatch.now c.args.dispatch.now _ _ (to_z-of_z c.ranges.limit) refl refl (first (λ t. t.1 % 2 == 1) (λ t answer says. search (rules, tests))))
    c.nearest_able.ensures.first
