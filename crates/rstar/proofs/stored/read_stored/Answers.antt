use Rattle.std.proofs.Common.{arith}
use Rattle.rstar.specs.Shown.{shown_root}
use Rattle.rstar.specs.Trees.{root_of}
use Rattle.rstar.proofs.storing.Faults.{answer_told}
use Rattle.rstar.proofs.stored.read_stored.Goals as goal

pub returns : goal.returns
returns g c =
    let a = answer_told c.args.bytes.now (λ tree. shown_root (root_of tree)) c.tree_of.result (λ i. omega (arith, c.type_inv.bytes i)) c.tree_of.ensures.read in
    record { first = c.tree_of.ensures.read; spelled = a.0; one_tree = a.1; whole = c.tree_of.ensures.whole; none = a.2; fault = a.3; one_fault = a.4 }
