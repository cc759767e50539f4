use Rattle.std.proofs.Common.{◌≡◌, [], pos, length, arith, refl, ap}
use Rattle.std.proofs.lemmas.Result.{on_ok_weaker}
use Rattle.std.proofs.lemmas.List.Sorted.{IsPermutation-middle, IsPermutation-append_left}
use Rattle.std.proofs.lemmas.List.Sums.{sum_by-cons}
use Rattle.rstar_base.specs.SmallHeaps.{items_of}
use Rattle.rstar_base.proofs.Lists.{all_along}
use Rattle.rstar.specs.inside.Few.{waiting_parents}
use Rattle.rstar.specs.declared.node.RTreeNode.{Parent}
use Rattle.rstar.specs.Nodes.{parents}
use Rattle.rstar.proofs.searching.Few as few
use Rattle.rstar.proofs.selecting.Progress.{ok-unrefused, taken}
use Rattle.rstar.proofs.searching.SearchTurns.{measured-by, order_of}
use Rattle.rstar.proofs.searching.Seeking as seeking
use Rattle.rstar.proofs.trees.ByChildren.{node_box-Parent, node_distance-Leaf, parents-Parent}
use Rattle.rstar.proofs.algorithm.nearest_neighbor.few.offer.Goals as goal

pub returns-in_default : goal.returns-in_default
returns-in_default g c =
    let law = measured-by g.met.T.Cover.Merges.merge_laws g.met.T.Covered.cover_law g.met.T.Measured.distance_laws c.requires.point in
    record {
      order = record { ordered = c.requires.ordered; falls = c.requires.best.falls; same = refl };
      visits = record {
        ordered = c.requires.ordered;
        best = c.requires.best;
        same = refl;
        waiting = λ before. before;
        fewer = omega arith;
        first = λ all rest s. seeking.seek-cut law c.args.best.now.bound c.in_default.ensures.above (seeking.seek-same (IsPermutation-middle (waiting_parents (items_of c.args.heap.now)) c.args.node.now rest) s);
      };
      refused = λ _. tt;
    }

pub returns-in-Leaf : goal.returns-in-Leaf
returns-in-Leaf g c = record {
  order = record { ordered = c.requires.ordered; falls = c.take_in.ensures.falls; same = c.take_in.ensures.same };
  visits = on_ok_weaker c.take_in.result (λ taken.
      let law = measured-by g.met.T.Cover.Merges.merge_laws g.met.T.Covered.cover_law g.met.T.Measured.distance_laws c.requires.point in
      let order = order_of g.T.Distance.SquaredDistance.number g.T.Distance.Ord.cmp _ g.met.T.Distance.Ord.matches_partial_cmp g.met.T.Distance.SquaredDistance.number_order in
      let lies : g.T.Distance.SquaredDistance.number c.in-Some.distance ≡ pos (g.T.Measured.distances.distance_2 c.in-Leaf.t (g.T.Measured.at c.args.point.now)) = rw (c.in-Leaf.is, node_distance-Leaf) at c.in-Some.ensures.at in
      record {
        ordered = c.requires.ordered;
        best = taken.best;
        same = c.take_in.ensures.same;
        waiting = λ before. before;
        fewer = omega arith;
        first = λ all rest s.
            let front = rw c.in-Leaf.is at (seeking.seek-same (IsPermutation-middle (waiting_parents (items_of c.args.heap.now)) c.args.node.now rest) s) in
            seeking.seek-tightened law c.args.best.now.bound taken.tightened
            (seeking.seek-step (λ left. few.so-far-leaf order g.met.T.Distance.Ord.total g.met.E.TieOrder.total _ lies taken.keeps taken.best.falls) front);
      }) c.take_in.ensures.takes;
  refused = λ one. ok-unrefused c.take_in.result _ (c.take_in.ensures.one one);
}

pub returns-in-Ok : goal.returns-in-Ok
returns-in-Ok g c =
    let law = measured-by g.met.T.Cover.Merges.merge_laws g.met.T.Covered.cover_law g.met.T.Measured.distance_laws c.requires.point in
    record {
      order = record { ordered = c.push.ensures.ordered; falls = c.requires.best.falls; same = refl };
      visits = record {
        ordered = c.push.ensures.ordered;
        best = record { kept = c.bound_with-best.ensures.kept c.args.most c.requires.best.kept; falls = c.requires.best.falls };
        same = refl;
        waiting = λ before. all_along _ _ _ c.in-Ok.ensures.ok ((rw c.in-Parent.is at c.in-Some.ensures.at), before);
        fewer = omega (arith, few.pushed-parents c.in-Ok.ensures.ok, ap parents c.in-Parent.is, sum_by-cons parents c.args.node.now []);
        first = λ all rest s.
            let front = rw c.in-Parent.is at (seeking.seek-same (IsPermutation-middle (waiting_parents (items_of c.args.heap.now)) c.args.node.now rest) s) in
            seeking.seek-same (IsPermutation-append_left rest _ _ (few.pushed-nodes c.in-Ok.ensures.ok))
            (seeking.seek-lowered law {n = Parent c.in-Parent.parent} c.args.best.now.bound (rw (node_box-Parent g.T.Covered.object.box_of c.in-Parent.parent) c.bound_with-best.ensures.lowered) front);
      };
      refused = λ _. tt;
    }

pub returns-in-Err-clause-refused : goal.returns-in-Err-clause-refused
returns-in-Err-clause-refused g c =
    let full = taken c.push.result c.in-Err.is (length (items_of c.args.heap.now)) c.push.ensures.inline in
    λ _. omega (arith, full, few.no-more-waiting (items_of c.args.heap.now), ap parents c.in-Parent.is, sum_by-cons parents c.args.node.now [], parents-Parent c.in-Parent.parent)
