use Rattle.std.proofs.Common.{◌∷◌, subst}
use Rattle.std.specs.List.Sorted.{IsPermutation}
use Rattle.std.proofs.lemmas.Result.{on_ok_weaker}
use Rattle.rstar.specs.Trees.{elements_in}
use Rattle.rstar_c.specs.Items.{Item}
use Rattle.rstar_c.proofs.store.Store.insert.Goals as goal

pub returns-clause-added : goal.returns-clause-added
returns-clause-added c =
    on_ok_weaker c.insert.result (λ added. subst (λ (t : Item). IsPermutation (t ∷ c.args.self.now) (elements_in c.insert.new.self)) c.item.ensures.is
    (subst (λ old. IsPermutation (c.item.result ∷ old) (elements_in c.insert.new.self)) c.self.view_is added)) c.insert.ensures.added
