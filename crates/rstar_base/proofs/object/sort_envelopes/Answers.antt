use Rattle.std.proofs.Common.{◌≡◌, rules, ap}
use Rattle.std.specs.Ordering.{is_lt, int_cmp}
use Rattle.std.proofs.lemmas.Fn.{always_returns_same}
use Rattle.std.proofs.lemmas.Cmp.{int_cmp_total}
use Rattle.std.proofs.lemmas.List.Sorted.{ranks_by}
use Rattle.rstar_base.proofs.object.sort_envelopes.Goals as goal

pub returns-clause-rises : goal.returns-clause-rises
returns-clause-rises g c =
    let key = λ (t : _). g.T.Envelope.Envelope.boxes.axis_key (g.T.RTreeObject.object.box_of t) c.args.axis in
    c.sort_unstable_by.ensures.sorted (λ x y. is_lt (int_cmp (key x) (key y))) (ranks_by int_cmp_total key) (always_returns_same _ _ _ (λ a r f' h.
    let e : r ≡ int_cmp (key a.0.now) (key a.1.0.now) = search rules in (ap is_lt e, search rules)))
