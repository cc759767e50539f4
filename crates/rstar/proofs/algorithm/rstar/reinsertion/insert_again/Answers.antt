use Rattle.std.proofs.Common.{◌≡◌, ◌+◌, ◌∙◌, arith, rules, vec_len}
use Rattle.std.proofs.lemmas.List.Sorted.{IsPermutation-refl}
use Rattle.rstar.proofs.trees.ByChildren.{is_leaf, leaf_of}
use Rattle.rstar.proofs.inserting.Insertion.{taken_again, leaf_taken, ready_again, spends_none, spends_next, one_less}
use Rattle.rstar.proofs.algorithm.rstar.reinsertion.insert_again.Goals as goal

pub loop-leaf-init : goal.loop-leaf-init
loop-leaf-init g c = search (rules, IsPermutation-refl, spends_none, c.requires.ready)

pub unreachable-requires : goal.unreachable-requires
unreachable-requires g c =
    let last = is_leaf _ c.in-Some.leaf (leaf_taken g.T.Cover.Merges.boxes g.T.Covered.object c.loop-leaf.reserve.widest _ c.pop.new.self.items c.in-Some.leaf c.in-Some.ensures.items c.loop-leaf.invariant.leaves).1 in
    c.in_default-leaf.not-Leaf last.0 last.1

pub insert_at_root-current-requires-clause-place : goal.insert_at_root-current-requires-clause-place
insert_at_root-current-requires-clause-place g c =
    let kept = c.loop-leaf.invariant.kept in
    let last = leaf_taken g.T.Cover.Merges.boxes g.T.Covered.object c.loop-leaf.reserve.widest _ c.pop.new.self.items c.in-Some.leaf c.in-Some.ensures.items c.loop-leaf.invariant.leaves in
    record { node = kept.0.0; below = kept.1; some = λ _. omega (arith, kept.0.1, c.loop-leaf.root.children.ok.0); element = (leaf_of _ _ _ c.in-Leaf.t (rw c.in-Leaf.is at last.1)).1 }

pub loop-leaf-preserved : goal.loop-leaf-preserved
loop-leaf-preserved g c =
    let so_far = c.loop-leaf.invariant in
    let step = c.insert_at_root-current.ensures in
    let same = step.root.spends.widest in
    let len : vec_len c.pop.new.self + 1 ≡ vec_len c.loop-leaf.handed = omega (arith, c.in-Some.ensures.len) in
    record {
      bag = taken_again _ _ c.pop.new.self.items c.in-Leaf.t _ _ (rw c.in-Leaf.is at c.in-Some.ensures.items) so_far.bag step.root.bag;
      kept = rw same step.root.kept;
      leaves = rw same (leaf_taken g.T.Cover.Merges.boxes g.T.Covered.object c.loop-leaf.reserve.widest _ c.pop.new.self.items c.in-Some.leaf c.in-Some.ensures.items so_far.leaves).0;
      sized = λ sized. step.root.sized (so_far.sized sized);
      grown = omega (arith, so_far.grown, len, step.grown);
      ready = ready_again so_far.ready step.root.spends (one_less (vec_len c.pop.new.self) (vec_len c.loop-leaf.handed) (c.args.levels + vec_len c.args.handed.now + 1)
          (vec_len c.loop-leaf.reserve.spares) (vec_len c.insert_at_root-current.new.reserve.spares) len so_far.ready.enough (omega (arith, so_far.grown, step.grown, step.used, len)));
      spends = spends_next so_far.spends step.root.spends;
      capacity = c.in-Some.ensures.capacity ∙ so_far.capacity;
    }

pub returns-clause-root : goal.returns-clause-root
returns-clause-root g c = record { bag = search rules; kept = rw c.loop-leaf.invariant.spends.widest at c.loop-leaf.invariant.kept; sized = c.loop-leaf.invariant.sized; spends = c.loop-leaf.invariant.spends }
