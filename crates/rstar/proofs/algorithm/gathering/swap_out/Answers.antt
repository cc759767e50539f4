use Rattle.rstar.proofs.removing.Gathered.{swapped_out}
use Rattle.rstar.proofs.algorithm.gathering.swap_out.Goals as goal

pub returns : goal.returns
returns g c =
    let removed = c.swap_remove.ensures in
    record { out = swapped_out c.args.children.now.items c.swap_remove.new.self.items c.args.index _ _ c.swap_remove.result c.args.children.now.ok.0 c.swap_remove.new.self.ok.0 c.requires removed.value removed.items removed.len removed.by_index }
