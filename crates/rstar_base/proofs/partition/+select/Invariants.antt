use Rattle.std.proofs.Common.{◌+◌, ◌*◌}
use Rattle.rstar_base.proofs.partition.+select.Given as goal

abbrev pub decreases-select : goal.decreases-select
decreases-select g l = 2 * l.turns

abbrev pub decreases-pivot_for : goal.decreases-pivot_for
decreases-pivot_for g l = 2 * l.turns + 1
