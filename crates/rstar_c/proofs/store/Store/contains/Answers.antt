use Rattle.std.proofs.Common.{◌∙◌, subst, sym}
use Rattle.std.specs.List.{Contains}
use Rattle.std.proofs.lemmas.Bool.{true≢false}
use Rattle.rstar.specs.Trees.{elements_in}
use Rattle.rstar_c.specs.Items.{item_of}
use Rattle.rstar_c.proofs.Equal.{any-there, any-not}
use Rattle.rstar_c.proofs.store.Store.contains.Goals as goal

pub returns-clause-there : goal.returns-clause-there
returns-clause-there c = λ yes.
    subst (λ all. Contains all (item_of c.args.id c.args.corners.now)) c.self.view_is (subst (Contains (elements_in c.self.inside.tree)) c.item.ensures.is
    (any-there (elements_in c.self.inside.tree) c.item.result (sym c.contains.ensures ∙ yes)))

pub returns-clause-none : goal.returns-clause-none
returns-clause-none c = λ no there. true≢false (any-not (elements_in c.self.inside.tree) c.item.result (sym c.contains.ensures ∙ no)
    (subst (Contains (elements_in c.self.inside.tree)) (sym c.item.ensures.is) (subst (λ all. Contains all (item_of c.args.id c.args.corners.now)) (sym c.self.view_is) there)))
