use Rattle.std.proofs.Common.{[], refl, ap, ◌++◌}
use Rattle.std.specs.Prelude.{codes, decimal}
use Rattle.std.proofs.lemmas.Result.{on_ok_weaker}
use Rattle.rstar_run.specs.Texts.{stop_text}
use Rattle.rstar_run.proofs.Prints.{at_first, more, last, some_more}
use Rattle.rstar_run.proofs.answers.print_stop.Goals as goal

pub returns-in_err-put-in-Line-clause-front : goal.returns-in_err-put-in-Line-clause-front
returns-in_err-put-in-Line-clause-front g c =
    some_more (codes "error: line ") (decimal c.in-Line.line ++ codes "\n") (at_first _ _ _) (ap stop_text c.in-Line.is) c.put.ensures.front

pub returns-in_err-put_number-in-Line-clause-front : goal.returns-in_err-put_number-in-Line-clause-front
returns-in_err-put_number-in-Line-clause-front g c =
    let begun = more (decimal c.in-Line.line ++ codes "\n") (at_first _ _ _) (ap stop_text c.in-Line.is) c.in_ok-put-in-Line.ensures.all in
    some_more _ _ begun refl c.put_number.ensures.front

pub returns-in_ok-put_number-in-Line-clause-all : goal.returns-in_ok-put_number-in-Line-clause-all
returns-in_ok-put_number-in-Line-clause-all g c =
    let begun = more (decimal c.in-Line.line ++ codes "\n") (at_first _ _ _) (ap stop_text c.in-Line.is) c.in_ok-put-in-Line.ensures.all in
    let spelled = more (codes "\n") begun refl c.in_ok-put_number-in-Line.ensures.all in
    on_ok_weaker c.put-in-Line.result (λ p. last spelled refl p) c.put-in-Line.ensures.all

pub returns-in_ok-put_number-in-Line-clause-front : goal.returns-in_ok-put_number-in-Line-clause-front
returns-in_ok-put_number-in-Line-clause-front g c =
    let begun = more (decimal c.in-Line.line ++ codes "\n") (at_first _ _ _) (ap stop_text c.in-Line.is) c.in_ok-put-in-Line.ensures.all in
    let spelled = more (codes "\n") begun refl c.in_ok-put_number-in-Line.ensures.all in
    some_more (codes "\n") [] spelled refl c.put-in-Line.ensures.front

pub returns-in-Input-clause-all : goal.returns-in-Input-clause-all
returns-in-Input-clause-all g c =
    on_ok_weaker c.put-in-Input.result (λ p. last (at_first _ _ _) (ap stop_text c.in-Input.is) p) c.put-in-Input.ensures.all

pub returns-in-Input-clause-front : goal.returns-in-Input-clause-front
returns-in-Input-clause-front g c = some_more (codes "error: input\n") [] (at_first _ _ _) (ap stop_text c.in-Input.is) c.put-in-Input.ensures.front
