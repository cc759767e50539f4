use Rattle.std.proofs.Common.{◌∙◌, refl}
use Rattle.std.proofs.lemmas.List.{get_or_default}
use Rattle.rstar.specs.declared.node.RTreeNode.{Parent}
use Rattle.rstar.proofs.payloads.child_of.Goals as goal

pub returns : goal.returns
returns g c = (
  (refl, λ w. refl),
  record {
    writes_back = tt;
    value = c.index_mut.ensures.value ∙ get_or_default c.args.parent.now.children.items c.args.index c.index_mut.result.now (Parent c.args.parent.now) c.requires;
  },
)
