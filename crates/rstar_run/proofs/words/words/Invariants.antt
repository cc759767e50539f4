use Rattle.std.proofs.Common.{◌≡◌, map, length}
use Rattle.std.specs.Prelude.{filter, not, ◌==◌}
use Rattle.rstar_run.proofs.words.words.Given as goal

-- the words are those of the pieces so far
abbrev pub invariant-loop-word : goal.invariant-loop-word
invariant-loop-word l = map (λ word. word.now) l.words.items ≡ filter (λ word. not (length word == 0)) (map (λ piece. piece.now) l.yielded)
