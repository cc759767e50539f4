use Rattle.std.proofs.Common.{◌∙◌, ◌≡◌, ◌<◌, ap, arith, refl, length}
use Rattle.std.proofs.lemmas.Bool.Decides.{nat_tests}
use Rattle.rstar.specs.inside.PairWalks.{marked_items}
use Rattle.rstar.specs.Lists.{product}
use Rattle.rstar.proofs.joining.PairsByChildren.{product-none}
use Rattle.rstar.proofs.selecting.Traversals.{no-items}
use Rattle.rstar.proofs.joining.MarkedPairs.{marked-zero, lowest-pair, pairs-none}
use Rattle.rstar.proofs.iterators.joins.walk.first_marked.Goals as goal

pub returns-then-marks-eq0-clause-none : goal.returns-then-marks-eq0-clause-none
returns-then-marks-eq0-clause-none g c =
    let none : c.args.marks ≡ 0 = grind (arith, nat_tests, c.if-marks-eq0.true) in
    ap (λ m. marked_items m (product c.args.lefts.now c.args.rights.now)) none ∙ marked-zero (product c.args.lefts.now c.args.rights.now)

pub returns-then-is_empty-clause-none : goal.returns-then-is_empty-clause-none
returns-then-is_empty-clause-none g c =
    let empty = no-items c.args.rights.now _ _ c.is_empty.ensures c.if-is_empty.true refl in
    ap (λ l. marked_items c.args.marks (product c.args.lefts.now l)) empty ∙ ap (marked_items c.args.marks) (product-none c.args.lefts.now)

pub returns-then-lefts-row-clause-none : goal.returns-then-lefts-row-clause-none
returns-then-lefts-row-clause-none g c = pairs-none c.args.marks c.args.lefts.now c.args.rights.now (grind (arith, nat_tests, c.if-lefts-row.true))

pub returns-clause-some : goal.returns-clause-some
returns-clause-some g c =
    let some : 0 < length c.args.rights.now = grind (arith, nat_tests, c.is_empty.ensures, c.if-is_empty.false) in
    lowest-pair c.args.marks c.args.lefts.now _ c.args.rights.now _ _ (grind (arith, nat_tests, c.if-marks-eq0.false)) c.ranges.marks.fits some
    (grind (arith, nat_tests, c.if-lefts-row.false)) refl refl refl
