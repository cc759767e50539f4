use Rattle.rstar.proofs.rtree.RTree.locate_at_point_int.Goals as goal

pub returns : goal.returns
returns g c = rw c.new.ensures.selects at (c.locate_first.ensures c.new.ensures.lawful)
