use Rattle.rstar_run.proofs.Digits.{no_digit, digit_taken, digits_end, first_no_digit, none_left}
use Rattle.rstar_run.proofs.number.take_digits.Goals as goal

pub loop-rest-init : goal.loop-rest-init
loop-rest-init c = no_digit c.args.text.now

pub loop-rest-preserved : goal.loop-rest-preserved
loop-rest-preserved c =
    digit_taken c.args.text.now c.loop-rest.rest.now c.loop-rest.value c.from.result c.from-in-len1-up.result c.loop-rest.invariant c.in-len1-up.len_at_least
    c.from.ensures c.from-in-len1-up.ensures c.from.type_inv c.if-digit-gt9.false

pub returns : goal.returns
returns c =
    let end = digits_end c.args.text.now c.loop-rest.rest.now c.loop-rest.value c.loop-rest.invariant (none_left c.loop-rest.rest.now c.in_default.len_below) in
    record { value = end.0; rest = end.1 }

pub returns-then-digit-gt9 : goal.returns-then-digit-gt9
returns-then-digit-gt9 c =
    let end = digits_end c.args.text.now c.loop-rest.rest.now c.loop-rest.value c.loop-rest.invariant (first_no_digit c.loop-rest.rest.now c.from.result c.from-in-len1-up.result c.from.ensures c.from-in-len1-up.ensures c.if-digit-gt9.true) in
    record { value = end.0; rest = end.1 }
