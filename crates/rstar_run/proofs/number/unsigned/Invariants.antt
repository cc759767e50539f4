use Rattle.std.proofs.Common.{◌≡◌, ◌<◌, ◌^◌, take, true}
use Rattle.std.specs.Str.{all_ascii_digits}
use Rattle.std.specs.Str.Parse.{digits_value}
use Rattle.rstar_run.proofs.number.unsigned.Given as goal

-- the bytes so far are digits, and spell the value
abbrev pub invariant-loop-byte : goal.invariant-loop-byte
invariant-loop-byte l = (digits_value 10 (take l.byte-index l.word) ≡ l.value) × (all_ascii_digits (take l.byte-index l.word) ≡ true) × (l.value < 2 ^ 64)
