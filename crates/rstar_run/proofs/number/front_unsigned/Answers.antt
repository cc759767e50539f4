use Rattle.std.proofs.Common.{refl, ap, ◌∙◌, arith}
use Rattle.std.proofs.lemmas.Bool.{false≢true}
use Rattle.std.specs.Option.{option_map}
use Rattle.rstar_run.specs.Numerals.{unsigned_of}
use Rattle.rstar_run.proofs.Digits.{word_goes_on, word_taken, rest_behind, few_digits}
use Rattle.rstar_run.proofs.number.front_unsigned.Goals as goal

pub returns-then-not-is_word_end-clause-number : goal.returns-then-not-is_word_end-clause-number
returns-then-not-is_word_end-clause-number c = word_goes_on _ _ c.take_digits-value.ensures.rest (λ ends. false≢true (c.if-not-is_word_end.ensures.1 ends))

pub returns-in-1-to-19-clause-number : goal.returns-in-1-to-19-clause-number
returns-in-1-to-19-clause-number c =
    few_digits _ _ c.take_digits-value.ensures.rest (c.if-not-is_word_end.ensures.0 refl) _ c.take_digits-value.ensures.value (omega arith) (omega arith)

pub returns-in-1-to-19-clause-rest : goal.returns-in-1-to-19-clause-rest
returns-in-1-to-19-clause-rest c = rest_behind _ _ c.take_digits-value.ensures.rest (c.if-not-is_word_end.ensures.0 refl)

pub returns-in_err-unsigned-in_default-clause-number : goal.returns-in_err-unsigned-in_default-clause-number
returns-in_err-unsigned-in_default-clause-number c =
    ap (option_map (λ taken. taken.0)) c.from_residual.ensures ∙ c.in_err-unsigned-in_default.ensures
    ∙ ap unsigned_of (word_taken _ _ c.take_digits-value.ensures.rest (c.if-not-is_word_end.ensures.0 refl))

pub returns-in_ok-unsigned-in_default-clause-number : goal.returns-in_ok-unsigned-in_default-clause-number
returns-in_ok-unsigned-in_default-clause-number c =
    c.in_ok-unsigned-in_default.ensures ∙ ap unsigned_of (word_taken _ _ c.take_digits-value.ensures.rest (c.if-not-is_word_end.ensures.0 refl))

pub returns-in_ok-unsigned-in_default-clause-rest : goal.returns-in_ok-unsigned-in_default-clause-rest
returns-in_ok-unsigned-in_default-clause-rest c = rest_behind _ _ c.take_digits-value.ensures.rest (c.if-not-is_word_end.ensures.0 refl)
