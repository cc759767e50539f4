use Rattle.std.proofs.Common.{◌∙◌, sym}
use Rattle.rstar_base.proofs.SegmentLemmas.{no_direction, no_offset, no_offset_product, no_length, not_inside, no_multiple, all_fit, stepped-interior, inside_parts}
use Rattle.rstar_base.proofs.segments.interior_point.Goals as goal

pub returns-in_err-dir : goal.returns-in_err-dir
returns-in_err-dir g c = rw c.from_residual.ensures (no_direction _ _ _ _ _ _ c.in_err-dir.ensures)

pub returns-in_err-offset : goal.returns-in_err-offset
returns-in_err-offset g c = rw c.from_residual-in_err-offset.ensures (no_offset _ _ _ _ _ _ c.in_err-offset.ensures)

pub returns-in_err-t : goal.returns-in_err-t
returns-in_err-t g c = rw c.from_residual-in_err-t.ensures (no_offset_product _ _ _ _ _ c.in_ok-dir.ensures.1 c.in_ok-offset.ensures.1 c.in_err-t.ensures)

pub returns-in_err-len : goal.returns-in_err-len
returns-in_err-len g c = rw c.from_residual-in_err-len.ensures (no_length _ _ _ _ _ c.in_ok-dir.ensures.1 c.in_ok-offset.ensures.1 c.in_err-len.ensures)

pub returns-then-not-is_inside : goal.returns-then-not-is_inside
returns-then-not-is_inside g c =
    not_inside _ _ _ _ _ c.in_ok-dir.ensures.1 c.in_ok-offset.ensures.1 _ _ c.in_ok-t.ensures.1 c.in_ok-len.ensures.1
    (sym c.is_inside.ensures ∙ c.if-not-is_inside.true)

pub returns-then-not-multiple_fits : goal.returns-then-not-multiple_fits
returns-then-not-multiple_fits g c =
    no_multiple _ _ _ _ _ c.in_ok-dir.ensures.1 c.in_ok-offset.ensures.1 _ c.in_ok-t.ensures.1
    (sym c.multiple_fits.ensures ∙ c.if-not-multiple_fits.true)

pub stepped-requires : goal.stepped-requires
stepped-requires g c =
    let p = inside_parts _ _ (sym c.is_inside.ensures ∙ c.if-not-is_inside.false) in
    record { after = p.0; before = p.1; fits = sym c.multiple_fits.ensures ∙ c.if-not-multiple_fits.false }

pub returns : goal.returns
returns g c =
    let inside = sym c.is_inside.ensures ∙ c.if-not-is_inside.false in
    let p = inside_parts _ _ inside in (
      all_fit _ _ _ _ _ c.in_ok-dir.ensures.1 c.in_ok-offset.ensures.1 _ _ c.in_ok-t.ensures.1 c.in_ok-len.ensures.1
          c.in_ok-dir.ensures.0 c.in_ok-offset.ensures.0 c.in_ok-t.ensures.0 c.in_ok-len.ensures.0 inside (sym c.multiple_fits.ensures ∙ c.if-not-multiple_fits.false),
      λ i l. c.stepped.ensures i l
          ∙ stepped-interior _ _ _ _ _ c.in_ok-dir.ensures.1 c.in_ok-offset.ensures.1 _ _ c.in_ok-t.ensures.1 c.in_ok-len.ensures.1 p.0 p.1 c.known.ensures.range c.known-2.ensures.range i l,
    )
