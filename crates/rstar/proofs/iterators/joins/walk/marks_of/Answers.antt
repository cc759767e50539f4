use Rattle.std.proofs.Common.{◌∙◌, ap, refl, map}
use Rattle.rstar.specs.Lists.{product}
use Rattle.rstar.specs.Joins.{meets_by}
use Rattle.rstar.specs.inside.PairWalks.{marked_items, with_marks}
use Rattle.rstar.specs.Nodes.{node_box}
use Rattle.rstar.proofs.joining.MarkedPairs.{mark-first, mark-more, mark-all, marked-filter, row-tests, rows-fit}
use Rattle.rstar.proofs.iterators.joins.walk.marks_of.Goals as goal

pub loop-left-init : goal.loop-left-init
loop-left-init g c = λ few. mark-first _ c.args.lefts.now 0 refl

pub loop-left-preserved : goal.loop-left-preserved
loop-left-preserved g c = λ few.
    let lefts = c.args.lefts.now in let rights = c.args.rights.now in let behind = c.loop-left.invariant few in
    let cut = c.in-Some.ensures.cases.0 in
    let fits = rows-fit _ lefts c.loop-left.rest.now c.in-Some.before.now rights c.in-Some.left.now c.loop-left.marks behind cut few in
    let row = map (λ n. meets_by g.T.Cover.Merges.boxes g.U.Meets.seen (node_box g.T.Covered.object.box_of c.in-Some.left.now) (node_box g.U.Covered.object.box_of n)) rights in
    let made = c.row_marks-marks.ensures fits.0 fits.1 ∙ ap (λ e. with_marks (map (λ n. meets_by g.T.Cover.Merges.boxes g.U.Meets.seen e (node_box g.U.Covered.object.box_of n)) rights) c.loop-left.marks) c.cover.ensures.value in
    mark-more _ lefts 0 c.loop-left.rest.now c.in-Some.before.now c.in-Some.left.now row c.loop-left.marks c.row_marks-marks.result behind cut made (row-tests _ c.in-Some.left.now rights)

pub returns : goal.returns
returns g c = λ few.
    let pairs = product c.args.lefts.now c.args.rights.now in
    ap (λ m. marked_items m pairs) (mark-all _ c.args.lefts.now 0 c.loop-left.rest.now c.loop-left.marks (c.loop-left.invariant few) c.in_default.ensures.cases) ∙ marked-filter _ pairs
