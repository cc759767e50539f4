-- How a run ended, as a status.
use Rattle.std.specs.Prelude.{ℕ, Result, Ok, Err}
use Rattle.rstar_run.specs.declared.stops.Stop.{Stop}
use Rattle.rstar_run.specs.declared.stops.Stop.TheVariants.{Line, Memory, Input, Output}

-- 0 at the end of the input, 2 after a bad line, 3 where memory was refused, 4 after a failed read or write
abbrev pub status_of : Result (Unit {0}) Stop → ℕ
status_of (Ok _) = 0
status_of (Err (Line _)) = 2
status_of (Err Memory) = 3
status_of (Err Input) = 4
status_of (Err Output) = 4
