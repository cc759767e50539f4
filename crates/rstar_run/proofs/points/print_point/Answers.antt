use Rattle.std.proofs.Common.{◌≡◌, ◌∙◌, [], refl, codes, rules}
use Rattle.std.specs.Int.{w64, cast_signed, cast_unsigned}
use Rattle.std.proofs.lemmas.Result.{on_ok_weaker}
use Rattle.rstar_run.specs.Points.{point_text}
use Rattle.rstar_run.proofs.PointLines.{first_spelled, second_spelled}
use Rattle.rstar_run.proofs.Prints.{at_first, more, last, some_more}
use Rattle.rstar_run.proofs.points.print_point.Goals as goal

pub returns-in_err-put_signed-clause-front : goal.returns-in_err-put_signed-clause-front
returns-in_err-put_signed-clause-front g c =
    let x : cast_signed w64 (cast_unsigned w64 c.nth-x.result) ≡ c.nth-x.result = search rules in
    some_more _ _ (at_first _ _ (point_text c.args.point.now)) (first_spelled c.args.point.now _ (x ∙ c.nth-x.ensures.value)) c.put_signed.ensures.front

pub returns-in_err-put-clause-front : goal.returns-in_err-put-clause-front
returns-in_err-put-clause-front g c =
    let x : cast_signed w64 (cast_unsigned w64 c.nth-x.result) ≡ c.nth-x.result = search rules in
    let begun = more _ (at_first _ _ (point_text c.args.point.now)) (first_spelled c.args.point.now _ (x ∙ c.nth-x.ensures.value)) c.in_ok-put_signed.ensures.all in
    some_more (codes " ") _ begun refl c.put.ensures.front

pub returns-in_err-put_signed-2-clause-front : goal.returns-in_err-put_signed-2-clause-front
returns-in_err-put_signed-2-clause-front g c =
    let x : cast_signed w64 (cast_unsigned w64 c.nth-x.result) ≡ c.nth-x.result = search rules in
    let y : cast_signed w64 (cast_unsigned w64 c.nth-y.result) ≡ c.nth-y.result = search rules in
    let begun = more _ (at_first _ _ (point_text c.args.point.now)) (first_spelled c.args.point.now _ (x ∙ c.nth-x.ensures.value)) c.in_ok-put_signed.ensures.all in
    let parted = more _ begun refl c.in_ok-put.ensures.all in
    some_more _ (codes "\n") parted (second_spelled c.args.point.now _ (y ∙ c.nth-y.ensures.value)) c.put_signed-2.ensures.front

pub returns-clause-all : goal.returns-clause-all
returns-clause-all g c =
    let x : cast_signed w64 (cast_unsigned w64 c.nth-x.result) ≡ c.nth-x.result = search rules in
    let y : cast_signed w64 (cast_unsigned w64 c.nth-y.result) ≡ c.nth-y.result = search rules in
    let begun = more _ (at_first _ _ (point_text c.args.point.now)) (first_spelled c.args.point.now _ (x ∙ c.nth-x.ensures.value)) c.in_ok-put_signed.ensures.all in
    let parted = more _ begun refl c.in_ok-put.ensures.all in
    let spelled = more (codes "\n") parted (second_spelled c.args.point.now _ (y ∙ c.nth-y.ensures.value)) c.in_ok-put_signed-2.ensures.all in
    on_ok_weaker c.put-2.result (λ p. last spelled refl p) c.put-2.ensures.all

pub returns-clause-front : goal.returns-clause-front
returns-clause-front g c =
    let x : cast_signed w64 (cast_unsigned w64 c.nth-x.result) ≡ c.nth-x.result = search rules in
    let y : cast_signed w64 (cast_unsigned w64 c.nth-y.result) ≡ c.nth-y.result = search rules in
    let begun = more _ (at_first _ _ (point_text c.args.point.now)) (first_spelled c.args.point.now _ (x ∙ c.nth-x.ensures.value)) c.in_ok-put_signed.ensures.all in
    let parted = more _ begun refl c.in_ok-put.ensures.all in
    let spelled = more (codes "\n") parted (second_spelled c.args.point.now _ (y ∙ c.nth-y.ensures.value)) c.in_ok-put_signed-2.ensures.all in
    some_more (codes "\n") [] spelled refl c.put-2.ensures.front
