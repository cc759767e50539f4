use Rattle.std.proofs.Common.{ℤ, ◌≡◌, ◌-◌, ◌++◌, length, length-append, arith, ap, sym, subst}
use Rattle.std.proofs.lemmas.List.Sorted.{length_permutation}
use Rattle.rstar_base.proofs.Present.{refill-same}
use Rattle.rstar.specs.inside.Loads.{CutsSlab}
use Rattle.rstar.proofs.loading.Loads.{cut_none, cut_parted}
use Rattle.rstar.proofs.bounds.slabs.AnyInSlabs.cut_slab.Goals as goal

pub returns-then-rest-size : goal.returns-then-rest-size
returns-then-rest-size g c = cut_none (λ t. g.T.Envelope.Envelope.boxes.axis_key (g.T.RTreeObject.object.box_of t) c.args.axis) c.args.size c.args.rest c.args.list.now.items c.requires.within c.if-rest-size.true

pub returns : goal.returns
returns g c =
    let key : g.row.T.Denot → ℤ = λ t. g.T.Envelope.Envelope.boxes.axis_key (g.T.RTreeObject.object.box_of t) c.args.axis in
    let items = c.args.list.now.items in
    let long = c.args.list.now.ok.0 in
    let cut = c.split_at_mut-last.ensures in
    let front = c.split_at_mut-last.result.0.now in
    let last = c.split_at_mut-last.result.1.now in
    let parted = c.partition_envelopes.new.list in
    let first : c.len.result - c.args.rest ≡ length items - c.args.rest = omega (arith, c.len.ensures, long) in
    let written = refill-same c.args.list.now.len items (front ++ parted) (omega (arith, long, ap length c.as_mut_slice.ensures.value, cut.front_len, cut.back_len, length-append front parted, length_permutation last parted c.partition_envelopes.ensures.same)) in
    subst (CutsSlab key c.args.size c.args.rest items c.args.size) (sym written)
    (cut_parted key c.args.size c.args.rest items front last parted c.requires.within (omega (arith, c.if-rest-size.false)) c.requires.some (rw (c.as_mut_slice.ensures.value, first) at cut.front) (rw (c.as_mut_slice.ensures.value, first) at cut.back)
    c.partition_envelopes.ensures.same c.partition_envelopes.ensures.split)
