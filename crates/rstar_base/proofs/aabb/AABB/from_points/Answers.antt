use Rattle.std.proofs.Common.{◌≡◌, ◌∙◌, sym, ap, subst, List, [], ◌∷◌, ℤ}
use Rattle.std.specs.Borrow.{Bor}
use Rattle.std.specs.Iterator.{EndsFrom}
use Rattle.std.proofs.iter.Next as it
use Rattle.rstar_base.specs.Boxes.{between_corners, merge_boxes, IsBox}
use Rattle.rstar_base.specs.laws.BoxLaws.{corners-same}
use Rattle.rstar_base.specs.laws.BoxEnvelopes.{box_laws}
use Rattle.rstar_base.proofs.Lists.{all-append}
use Rattle.rstar_base.proofs.Hulls.{hull-push}
use Rattle.rstar_base.proofs.aabb.AABB.from_points.Goals as goal

pub loop-p-init : goal.loop-p-init
loop-p-init g c =
    let asked : (s : g.row.I-IntoIter.Denot) → g.I.IntoIterator.into_iter_gives c.args.i s → g.I.IntoIter.Iterator.can_next s × EndsFrom g.I.IntoIter.Iterator.remaining s = search tt in
    let made = asked c.into_iter-rest.result c.into_iter-rest.ensures.into_iter_gives in
    it.begun made.0 made.1 (tt, c.new_empty-hull.ensures)

pub loop-p-smaller : goal.loop-p-smaller
loop-p-smaller g c = it.less c.loop-p.invariant c.in-Some.p c.in-Some.is c.next.ensures.goes

pub loop-p-preserved : goal.loop-p-preserved
loop-p-preserved g c =
    let low = g.P.Scalar.Bounded.low in
    let high = g.P.Scalar.Bounded.high in
    let n = g.P.Point.DIMENSIONS in
    let inv = c.loop-p.invariant in
    let x = c.in-Some.p in
    let box : Bor g.row.P.Denot → List (ℤ × ℤ) = λ p. between_corners n (g.P.Point.coord p.now) (g.P.Point.coord p.now) in
    let same : c.from_point.result ≡ box x = c.from_point.ensures ∙ corners-same n _ _ _ _ c.copied_point.ensures.coords c.copied_point.ensures.coords in
    let value : IsBox low high n (box x) = subst (λ b. IsBox low high n b) same c.merge-in-Some.ensures.own.1 in
    let next : c.merge-in-Some.new.self ≡ merge_boxes c.loop-p.hull (box x) = c.merge-in-Some.ensures.merged ∙ ap (λ b. merge_boxes c.loop-p.hull b) same in
    it.again inv x c.in-Some.is (c.next.ensures.steps, c.next.ensures.goes) (
      all-append _ inv.seen (x ∷ []) inv.holds.0 (value, tt),
      next ∙ ap (λ b. merge_boxes b (box x)) inv.holds.1
          ∙ sym (hull-push (box_laws low high n g.met.P.Scalar.RTreeNum.low_law g.met.P.Scalar.RTreeNum.high_law) box inv.seen x inv.holds.0 value),
    )

pub returns : goal.returns
returns g c = (c.into_iter-rest.result, c.loop-p.invariant.seen, c.into_iter-rest.ensures.into_iter_gives, it.drained c.loop-p.invariant c.in_default.is c.next.ensures.steps, c.loop-p.invariant.holds.1)
