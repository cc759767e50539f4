use Rattle.std.proofs.Common.{arith, ◌∙◌, ◌+◌, sym}
use Rattle.std.proofs.lemmas.Bool.Decides.{nat_tests}
use Rattle.rstar_run.proofs.Numerals.{none-by_byte, none-by_size, digits-more, value-more, some-value}
use Rattle.rstar_run.proofs.number.unsigned.Goals as goal

pub returns-then-not-is_ascii_digit : goal.returns-then-not-is_ascii_digit
returns-then-not-is_ascii_digit c =
    none-by_byte c.args.word.now c.loop-byte.byte-index c.loop-byte-test.true (sym c.is_ascii_digit.ensures.value ∙ c.if-not-is_ascii_digit.true)

pub returns-in_err-checked_mul : goal.returns-in_err-checked_mul
returns-in_err-checked_mul c =
    let digit = sym c.is_ascii_digit.ensures.value ∙ c.if-not-is_ascii_digit.false in
    let more = value-more c.args.word.now c.loop-byte.byte-index c.loop-byte.value c.loop-byte-test.true c.loop-byte.invariant.0 digit in
    c.from_residual.ensures ∙ none-by_size c.args.word.now (c.loop-byte.byte-index + 1) (omega (arith, c.in_err-checked_mul.ensures))

pub returns-in_err-value : goal.returns-in_err-value
returns-in_err-value c =
    let digit = sym c.is_ascii_digit.ensures.value ∙ c.if-not-is_ascii_digit.false in
    let more = value-more c.args.word.now c.loop-byte.byte-index c.loop-byte.value c.loop-byte-test.true c.loop-byte.invariant.0 digit in
    c.from_residual-in_err-value.ensures ∙ none-by_size c.args.word.now (c.loop-byte.byte-index + 1) (omega (arith, c.in_err-value.ensures, c.in_ok-checked_mul.ensures))

pub loop-byte-preserved : goal.loop-byte-preserved
loop-byte-preserved c =
    let digit = sym c.is_ascii_digit.ensures.value ∙ c.if-not-is_ascii_digit.false in
    let more = value-more c.args.word.now c.loop-byte.byte-index c.loop-byte.value c.loop-byte-test.true c.loop-byte.invariant.0 digit in
    (omega (arith, c.in_ok-value.ensures, c.in_ok-checked_mul.ensures), digits-more c.args.word.now c.loop-byte.byte-index c.loop-byte-test.true c.loop-byte.invariant.1 digit, omega (arith, c.in_ok-value.ensures, c.in_ok-checked_mul.ensures))

pub returns : goal.returns
returns c = some-value c.args.word.now c.loop-byte.byte-index c.loop-byte.value (omega arith) (grind (arith, nat_tests)) c.loop-byte.invariant.0 c.loop-byte.invariant.1 (omega arith)
