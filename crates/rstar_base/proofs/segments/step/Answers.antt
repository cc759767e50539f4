use Rattle.std.proofs.Common.{◌∙◌, sym, ap, subst, ◌≡◌, ◌*ℤ◌, ◌+ℤ◌, ◌<ℤ◌, pos, ℤ}
use Rattle.std.specs.Prelude.{int_div}
use Rattle.num_traits.specs.Laws.{between}
use Rattle.rstar_base.proofs.SegmentLemmas.{exact, fits_within, after_both}
use Rattle.rstar_base.proofs.segments.step.Goals as goal

pub div-requires : goal.div-requires
div-requires g c =
    let value = g.S.Number.value in
    let e = g.met.S.Integral.exact_law in
    let product : value c.clamped_mul.result ≡ (value c.args.dir *ℤ value c.args.t) = c.clamped_mul.ensures ∙ exact _ _ _ c.requires.fits in
    let len : value c.args.len ≡ value c.ord-len.result = ap value (sym c.ord-len.ensures.same) in
    g.met.S.Num.can_div_law _ _ (λ h. g.met.S.Num.positive_divisor_law _ _ h
    (subst g.S.Number.fits (sym product) ((g.met.S.Bounded.bounds_law _ e).1 (fits_within _ _ _ c.requires.fits)))
    (subst g.S.Number.fits len ((g.met.S.Bounded.bounds_law _ e).1 (c.ord-len.ensures.range.above, c.ord-len.ensures.range.below)))
    (subst (λ (z : ℤ). pos 0 <ℤ z) len (after_both _ _ c.requires.after c.requires.before)))

pub returns : goal.returns
returns g c =
    let value = g.S.Number.value in
    let e = g.met.S.Integral.exact_law in
    let product : value c.clamped_mul.result ≡ (value c.args.dir *ℤ value c.args.t) = c.clamped_mul.ensures ∙ exact _ _ _ c.requires.fits in
    let len : value c.ord-len.result ≡ value c.args.len = ap value c.ord-len.ensures.same in
    let q : value c.div.result ≡ int_div (value c.args.dir *ℤ value c.args.t) (value c.args.len) =
    g.met.S.Num.div_law _ _ _ c.div.ensures e ∙ ap (λ z. int_div z (value c.ord-len.result)) product ∙ ap (λ z. int_div (value c.args.dir *ℤ value c.args.t) z) len in
    c.clamped_add.ensures ∙ ap (λ z. between (value c.args.from +ℤ z) g.S.Bounded.low g.S.Bounded.high) q
