use Rattle.std.proofs.Common.{arith, ◌∙◌, Ok}
use Rattle.std.proofs.lemmas.List.Sorted.{length_permutation, IsPermutation-refl}
use Rattle.rstar.specs.Nodes.{elements_of}
use Rattle.rstar.proofs.lists.Items.{some_item}
use Rattle.rstar.proofs.loading.Loads.{last_itself, whole_load}
use Rattle.rstar.proofs.trees.WholeTrees.{all_kept, tree_kept}
use Rattle.rstar.proofs.selecting.Traversals.{no-items}
use Rattle.rstar.proofs.rtree.RTree.bulk_load_with_params.Goals as goal

pub from_root-requires : goal.from_root-requires
from_root-requires g c =
    let fresh = c.in_ok-root.ensures.fresh in
    let kept = all_kept g.T.Envelope.Envelope.boxes g.T.RTreeObject.object c.load_node.new.widest c.load_depth-levels.result (tree_kept g.T.Envelope.Envelope.boxes g.T.RTreeObject.object c.load_node.new.widest c.load_depth-levels.result) _ fresh.whole.1 fresh.narrow.1 in
    let is = c.len-size.ensures ∙ c.args.elements.ok.0 in
    let long = length_permutation c.args.elements.items (elements_of c.in_ok-root.root) (rw (is, last_itself c.args.elements.items) at c.in_ok-root.ensures.same) in
    record {
      kept = ((record { tight = fresh.whole.0.0; narrow = fresh.narrow.0 }, some_item _ fresh.whole.0.1), kept);
      counted = omega (arith, long, is);
      wide = omega (arith, c.MAX_SIZE-widest.ensures, c.in_ok-root.ensures.wider.0);
      fits = c.in_ok-root.ensures.wider.1;
    }

pub returns-clause-same : goal.returns-clause-same
returns-clause-same g c = rw c.from_root.ensures.root (rw (c.len-size.ensures ∙ c.args.elements.ok.0, last_itself c.args.elements.items) at c.in_ok-root.ensures.same)

pub returns-clause-loaded : goal.returns-clause-loaded
returns-clause-loaded g c = λ some. let is = c.len-size.ensures ∙ c.args.elements.ok.0 in rw c.from_root.ensures.root
    (whole_load {X = Unit {0}} _ _ _ _ _ _ c.args.elements.items (Ok c.in_ok-root.root) (rw is at c.load_depth-levels.ensures.depth) (rw (is, last_itself c.args.elements.items) at c.in_ok-root.ensures.same) c.in_ok-root.ensures.fresh)

pub returns-then-is_empty-clause-same : goal.returns-then-is_empty-clause-same
returns-then-is_empty-clause-same g c = rw (no-items _ _ _ c.is_empty.ensures c.if-is_empty.true c.args.elements.ok.0, c.default.ensures.none) (IsPermutation-refl _)

pub returns-then-is_empty-clause-loaded : goal.returns-then-is_empty-clause-loaded
returns-then-is_empty-clause-loaded g c = λ some. absurd (some (no-items _ _ _ c.is_empty.ensures c.if-is_empty.true c.args.elements.ok.0))
