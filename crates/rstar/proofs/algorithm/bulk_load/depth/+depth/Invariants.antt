use Rattle.std.proofs.Common.{◌+◌, ◌*◌}
use Rattle.rstar.specs.inside.Loads.{part_bound}
use Rattle.rstar.proofs.algorithm.bulk_load.depth.+depth.Given as goal

abbrev pub decreases-load_depth : goal.decreases-load_depth
decreases-load_depth g l = l.n * (g.T.InSlabs.axes + 2)

abbrev pub decreases-least_depth_of_parts : goal.decreases-least_depth_of_parts
decreases-least_depth_of_parts g l = part_bound l.axes l.clusters l.n * (g.T.InSlabs.axes + 2) + l.axes + 1
