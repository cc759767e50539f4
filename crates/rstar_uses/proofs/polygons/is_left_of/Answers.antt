use Rattle.std.proofs.Common.{◌∙◌, nat_lt, rules, ap₂}
use Rattle.rstar_uses.specs.Polygons.{x_of}
use Rattle.rstar_uses.proofs.Sides.{is_less, is_not_less, both_right, none_right, first_right, second_right}
use Rattle.rstar_uses.proofs.polygons.is_left_of.Goals as goal

pub returns-in-true-true : goal.returns-in-true-true
returns-in-true-true c = both_right c.args.point c.args.a c.args.b c.requires.begins c.requires.ends
    (is_less (x_of c.args.point) (x_of c.args.a) (search rules) (search rules) c.in-true-true.is-0)
    (is_less (x_of c.args.point) (x_of c.args.b) (search rules) (search rules) c.in-true-true.is-1)

pub returns-in-true-false : goal.returns-in-true-false
returns-in-true-false c = ap₂ nat_lt c.area.ensures c.area-in-true-false.ensures ∙ first_right c.args.point c.args.a c.args.b c.requires.begins c.requires.ends
    (is_less (x_of c.args.point) (x_of c.args.a) (search rules) (search rules) c.in-true-false.is-0)
    (is_not_less (x_of c.args.point) (x_of c.args.b) (search rules) (search rules) c.in-true-false.is-1)

pub returns-in-false-true : goal.returns-in-false-true
returns-in-false-true c = ap₂ nat_lt c.area-in-false-true.ensures c.area-in-false-true-2.ensures ∙ second_right c.args.point c.args.a c.args.b c.requires.begins c.requires.ends
    (is_not_less (x_of c.args.point) (x_of c.args.a) (search rules) (search rules) c.in-false-true.is-0)
    (is_less (x_of c.args.point) (x_of c.args.b) (search rules) (search rules) c.in-false-true.is-1)

pub returns-in-false-false : goal.returns-in-false-false
returns-in-false-false c = none_right c.args.point c.args.a c.args.b c.requires.begins c.requires.ends
    (is_not_less (x_of c.args.point) (x_of c.args.a) (search rules) (search rules) c.in-false-false.is-0)
    (is_not_less (x_of c.args.point) (x_of c.args.b) (search rules) (search rules) c.in-false-false.is-1)
