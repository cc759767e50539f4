use Rattle.std.proofs.Common.{◌≡◌, ◌∙◌, [], refl, ap, sym, codes, append-nil, rules}
use Rattle.std.specs.Prelude.{decimal, unsigned_abs}
use Rattle.std.proofs.lemmas.Result.{on_ok_weaker}
use Rattle.rstar_run.specs.Texts.{neighbour_text}
use Rattle.rstar_run.proofs.Prints.{at_first, more, last, some_more}
use Rattle.rstar_run.proofs.answers.Tuple2ItemI64Listed.print.Goals as goal

pub returns-in_err-put-clause-front : goal.returns-in_err-put-clause-front
returns-in_err-put-clause-front g c =
    let spelled = more _ (at_first _ _ (neighbour_text c.args.self.now)) refl c.in_ok-print.ensures.all in
    some_more (codes ":") _ spelled refl c.put.ensures.front

pub returns-clause-all : goal.returns-clause-all
returns-clause-all g c =
    let digits = decimal (unsigned_abs c.args.self.now.1) in
    let size : c.unsigned_abs.result ≡ unsigned_abs c.args.self.now.1 = search rules in
    let same : digits ≡ decimal c.unsigned_abs.result = ap (λ n. decimal n) (sym size) in
    let spelled = more _ (at_first _ _ (neighbour_text c.args.self.now)) refl c.in_ok-print.ensures.all in
    let parted = more digits spelled refl c.in_ok-put.ensures.all in
    on_ok_weaker c.put_number.result (λ p. last {left = digits} {piece = decimal c.unsigned_abs.result} parted same p) c.put_number.ensures.all

pub returns-clause-front : goal.returns-clause-front
returns-clause-front g c =
    let digits = decimal (unsigned_abs c.args.self.now.1) in
    let size : c.unsigned_abs.result ≡ unsigned_abs c.args.self.now.1 = search rules in
    let same : digits ≡ decimal c.unsigned_abs.result = ap (λ n. decimal n) (sym size) in
    let spelled = more _ (at_first _ _ (neighbour_text c.args.self.now)) refl c.in_ok-print.ensures.all in
    let parted = more digits spelled refl c.in_ok-put.ensures.all in
    some_more (decimal c.unsigned_abs.result) [] parted (same ∙ sym (append-nil (decimal c.unsigned_abs.result))) c.put_number.ensures.front
