use Rattle.std.proofs.Common.{◌≡◌, ◌+◌, ◌≤◌, length, map}
use Rattle.rstar_base.specs.Points.{table}
use Rattle.rstar.specs.Nodes.{total}
use Rattle.rstar.specs.inside.Traversals.{steps}
use Rattle.rstar.specs.inside.WaysDown.{first_at}
use Rattle.rstar.proofs.payloads.+finding.Given as goal

abbrev pub decreases-finds : goal.decreases-finds
decreases-finds g l = steps l.node.now

abbrev pub decreases-first_finding : goal.decreases-first_finding
decreases-first_finding g l = 1 + total (map steps l.nodes.now)

-- the nodes before were read in vain
abbrev pub invariant-first_finding-loop-first : goal.invariant-first_finding-loop-first
invariant-first_finding-loop-first g l = record {
  long : l.index + length l.rest ≡ length l.nodes;
  first : first_at g.T.Envelope.Envelope.boxes g.T.PointDistance.distances (table g.T.Envelope.Point.Point.DIMENSIONS (g.T.Envelope.Point.Point.coord l.point)) l.nodes
      ≡ l.index + first_at g.T.Envelope.Envelope.boxes g.T.PointDistance.distances (table g.T.Envelope.Point.Point.DIMENSIONS (g.T.Envelope.Point.Point.coord l.point)) l.rest;
  less : total (map steps l.rest) ≤ total (map steps l.nodes);
}

abbrev pub decreases-first_finding-loop-first : goal.decreases-first_finding-loop-first
decreases-first_finding-loop-first g l = length l.rest
