use Rattle.std.proofs.Common.{◌≡◌, ◌^◌, ◌<◌, ◌≤◌}
use Rattle.rstar_base.proofs.clusters.is_power_within.Given as goal

abbrev pub invariant-loop-turn : goal.invariant-loop-turn
invariant-loop-turn l = (l.power ≡ l.base ^ l.turn) × (0 < l.power) × (l.power ≤ l.limit)
