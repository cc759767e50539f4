use Rattle.std.proofs.Common.{◌≡◌}
use Rattle.rstar.specs.Joins.{meets_by}
use Rattle.rstar.specs.SelfJoins.{own_pairs, own_root, weight_of, HasItsLists}
use Rattle.rstar.proofs.iterators.joins.selves.SelfIntersectionIteratorIterator.next.Given as goal

-- the same join, with the same to come
abbrev pub invariant-loop-pair : goal.invariant-loop-pair
invariant-loop-pair g l =
    let meets = meets_by g.T.Cover.Merges.boxes g.T.Meets.seen in let o = g.T.Covered.object in
    record {
      lists : HasItsLists g.T.Cover.Merges.boxes o meets l.self;
      root : own_root l.self ≡ own_root l.initial.self;
      same : own_pairs meets o.box_of l.initial.self ≡ own_pairs meets o.box_of l.self;
    }

abbrev pub decreases-loop-pair : goal.decreases-loop-pair
decreases-loop-pair g l = weight_of l.self.lists.items
