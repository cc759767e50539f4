use Rattle.std.proofs.Common.{◌≡◌, ◌++◌, [], refl, codes, decimal}
use Rattle.std.proofs.lemmas.Result.{on_ok_weaker}
use Rattle.rstar_run.proofs.Prints.{at_first, more, last, some_more, printed_some, printed_front}
use Rattle.rstar_run.proofs.answers.print_number.Goals as goal

pub returns-in_err-put_number-clause-printed : goal.returns-in_err-put_number-clause-printed
returns-in_err-put_number-clause-printed g c =
    let text = decimal c.args.number ++ codes "\n" in
    printed_front _ _ _ _ (λ text. text ≡ decimal c.args.number ++ codes "\n") text refl (some_more _ (codes "\n") (at_first _ _ text) refl c.put_number.ensures.front)
    c.in_err-put_number.field-0.0 c.in_err-put_number.ensures.stop c.from_residual.result c.from_residual.ensures.1

pub returns-clause-printed : goal.returns-clause-printed
returns-clause-printed g c =
    let text = decimal c.args.number ++ codes "\n" in
    let spelled = more (codes "\n") (at_first _ _ text) refl c.in_ok-put_number.ensures.all in
    printed_some _ _ _ _ (λ text. text ≡ decimal c.args.number ++ codes "\n") text refl c.put.result (on_ok_weaker c.put.result (λ p. last spelled refl p) c.put.ensures.all)
    (some_more (codes "\n") [] spelled refl c.put.ensures.front) c.put.ensures.stop
