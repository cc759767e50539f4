use Rattle.std.proofs.Common.{[], refl, sym, ap, ◌∙◌, arith, ◌-◌, ◌++◌, ℕ, List, length, take-append-drop, drop, take}
use Rattle.std.proofs.lemmas.List.{take_rest}
use Rattle.std.proofs.lemmas.Grind.{common_steps}
use Rattle.rstar_run.proofs.Prints.{holds, front_of_printed, write_more, write_kept, write_end}
use Rattle.rstar_run.proofs.print.write_out.Goals.{in-Ok, in-Err+else-ne}
use Rattle.rstar_run.proofs.print.write_out.Goals as goal

pub loop-init : goal.loop-init
loop-init g c = holds _ [] c.args.text.now _ refl

pub loop-preserved : goal.loop-preserved
loop-preserved g c =
    let rest = c.loop.rest.now in
    elim c.match-write.branch [
      | in-Ok w ↦
          let n = w.in-Ok.count in
          let split = sym (take-append-drop n rest) ∙ ap (λ (l : List ℕ). take n rest ++ l) (sym (take_rest rest n)) in
          rw w.rest-is (write_more _ (take n rest) (take (length rest - n) (drop n rest)) c.loop.invariant split w.in-Ok.ensures.bytes)
      | in-Err+else-ne w ↦ rw w.rest-is (write_kept _ c.loop.invariant w.in-Err.ensures.bytes)
    ]

pub returns-then-is_empty-clause-all : goal.returns-then-is_empty-clause-all
returns-then-is_empty-clause-all g c = write_end c.loop.invariant (grind (arith, common_steps))

pub returns-then-is_empty-clause-front : goal.returns-then-is_empty-clause-front
returns-then-is_empty-clause-front g c = front_of_printed c.loop.invariant

pub returns-in-Ok-eq0-clause-front : goal.returns-in-Ok-eq0-clause-front
returns-in-Ok-eq0-clause-front g c =
    let rest = c.loop.rest.now in
    let n = c.in-Ok-eq0.field-0 in
    front_of_printed (write_more _ (take n rest) (drop n rest) c.loop.invariant (sym (take-append-drop n rest)) c.in-Ok-eq0.ensures.bytes)

pub returns-then-ne-clause-front : goal.returns-then-ne-clause-front
returns-then-ne-clause-front g c = front_of_printed (write_kept _ c.loop.invariant c.in-Err.ensures.bytes)

pub returns-clause-front : goal.returns-clause-front
returns-clause-front g c = front_of_printed c.loop.invariant
