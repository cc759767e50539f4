use Rattle.std.proofs.Common.{◌∷◌, ◌∙◌, subst, sym}
use Rattle.std.specs.List.{Contains}
use Rattle.std.specs.List.Sorted.{IsPermutation}
use Rattle.std.proofs.lemmas.Bool.{true≢false}
use Rattle.rstar.specs.Trees.{elements_in}
use Rattle.rstar_c.specs.Items.{Item, item_of}
use Rattle.rstar_c.proofs.Equal.{same-one, none-there}
use Rattle.rstar_c.proofs.store.Store.remove.Goals as goal

pub returns-clause-taken : goal.returns-clause-taken
returns-clause-taken c = λ yes.
    let taken = c.taken_out.ensures.taken yes in
    subst (λ old. IsPermutation old (item_of c.args.id c.args.corners.now ∷ elements_in c.taken_out.new.tree)) c.self.view_is
    (subst (λ (t : Item). IsPermutation (elements_in c.self.inside.tree) (t ∷ elements_in c.taken_out.new.tree)) (same-one taken.0 c.item.result taken.1 ∙ c.item.ensures.is) taken.2)

pub returns-clause-none : goal.returns-clause-none
returns-clause-none c = λ no there. true≢false (none-there (elements_in c.self.inside.tree) c.item.result (c.taken_out.ensures.none no)
    (subst (Contains (elements_in c.self.inside.tree)) (sym c.item.ensures.is) (subst (λ all. Contains all (item_of c.args.id c.args.corners.now)) (sym c.self.view_is) there)))
