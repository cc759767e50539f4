use Rattle.std.proofs.Common.{map, take}
use Rattle.std.specs.List.{flat_map}
use Rattle.rstar_c.specs.Put.{ArePut}
use Rattle.rstar.specs.Nodes.{total}
use Rattle.rstar_c.proofs.walk.+put_below.Given as goal

abbrev pub decreases-put_below : goal.decreases-put_below
decreases-put_below g l = total (map g.N.Node.size l.nodes.now)

-- the numbers below the nodes read so far stand in the list
abbrev pub invariant-loop-node : goal.invariant-loop-node
invariant-loop-node g l = ArePut (flat_map (g.N.Node.numbers l.question) (take l.node-index l.nodes)) l.initial.next l.initial.out l.out l.next
