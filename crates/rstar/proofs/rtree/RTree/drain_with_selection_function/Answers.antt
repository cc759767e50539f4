use Rattle.std.proofs.Common.{◌≡◌, refl, replicate, rules}
use Rattle.rstar.specs.Nodes.{children_of}
use Rattle.rstar.specs.Drains.{IsDraining}
use Rattle.rstar.proofs.removing.Parts.{past_zeros, rest_none}
use Rattle.rstar.proofs.rtree.RTree.drain_with_selection_function.Goals as goal

pub returns : goal.returns
unfolding IsDraining
returns g c =
    let zeros : c.in_ok-path.path.items ≡ replicate c.saturating_add.result 0 = search rules in (
      (cc, λ w. refl, tt),
      record {
        refused = tt;
        same = (refl, refl);
        question = refl;
        draining = rw zeros
            (c.requires, rest_none g.T.Envelope.Envelope.boxes g.T.RTreeObject.object (replicate c.saturating_add.result 0) (children_of c.args.self.now.root), λ lawful. past_zeros (g.R.SelectionFunction.selects c.args.func) c.saturating_add.result (children_of c.args.self.now.root));
      },
    )
