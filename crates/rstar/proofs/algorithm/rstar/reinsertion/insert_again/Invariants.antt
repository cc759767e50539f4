use Rattle.std.proofs.Common.{◌≡◌, ◌+◌, ◌*◌, ◌≤◌, ◌++◌, vec_len, vec_capacity}
use Rattle.std.specs.List.Sorted.{IsPermutation}
use Rattle.rstar.specs.Nodes.{all_elements}
use Rattle.rstar.specs.Shapes.{IsSizedTree}
use Rattle.rstar.specs.inside.ParentBounds.{AreKept, IsKeptTree, roomy_of}
use Rattle.rstar.specs.inside.Reserves.{IsReady, Spends}
use Rattle.rstar.proofs.algorithm.rstar.reinsertion.insert_again.Given as goal

abbrev pub invariant-loop-leaf : goal.invariant-loop-leaf
invariant-loop-leaf g l = record {
  bag : IsPermutation (all_elements l.initial.root.children.items ++ all_elements l.initial.handed.items) (all_elements l.root.children.items ++ all_elements l.handed.items);
  kept : IsKeptTree g.T.Cover.Merges.boxes g.T.Covered.object l.reserve.widest l.current l.root;
  leaves : AreKept g.T.Cover.Merges.boxes g.T.Covered.object l.reserve.widest 0 l.handed.items;
  sized : IsSizedTree g.Params.RTreeParams.MIN_SIZE g.Params.RTreeParams.MAX_SIZE l.levels l.initial.root
      → IsSizedTree g.Params.RTreeParams.MIN_SIZE g.Params.RTreeParams.MAX_SIZE l.current l.root;
  -- the root grew at most once for each leaf that went in
  grown : l.current + vec_len l.handed ≤ l.levels + vec_len l.initial.handed;
  ready : IsReady g.Params.RTreeParams.MAX_SIZE (vec_len l.handed * (l.levels + vec_len l.initial.handed + 1)) l.reserve;
  spends : Spends (λ n. roomy_of n l.levels l.initial.root) (λ n. roomy_of n l.current l.root) l.initial.reserve l.reserve;
  capacity : vec_capacity l.handed ≡ vec_capacity l.initial.handed;
}

abbrev pub decreases-loop-leaf : goal.decreases-loop-leaf
decreases-loop-leaf g l = vec_len l.handed
