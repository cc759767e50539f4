use Rattle.std.proofs.Common.{◌∷◌, [], ◌∙◌, ap, sym}
use Rattle.rstar.proofs.joining.PairsByChildren.{opened-single, opened_to-Leaf, opened_to-Parent}
use Rattle.rstar.specs.Meets.{opened_to}
use Rattle.rstar.proofs.iterators.joins.walk.opened_nodes.Goals as goal

pub returns-in-Leaf : goal.returns-in-Leaf
returns-in-Leaf g c =
    let single = opened-single c.args.nodes.now c.in-Some._rest.now c.in-Some.first.now c.in-Some.ensures.cases.0 c.requires in
    single.0 ∙ ap (λ n. n ∷ []) c.in-Leaf.is ∙ sym (single.1 ∙ ap opened_to c.in-Leaf.is ∙ opened_to-Leaf _ _ c.in-Leaf.field-0)

pub returns-in-Parent : goal.returns-in-Parent
returns-in-Parent g c =
    let single = opened-single c.args.nodes.now c.in-Some._rest.now c.in-Some.first.now c.in-Some.ensures.cases.0 c.requires in
    c.as_slice.ensures.value ∙ sym (single.1 ∙ ap opened_to c.in-Parent.is ∙ opened_to-Parent c.in-Parent.parent)
