use Rattle.std.proofs.Common.{append-nil, ◌+◌, ◌≤◌, ◌∷◌, [], arith, vec_len, vec_capacity}
use Rattle.std.proofs.lemmas.List.Sorted.{IsPermutation-trans}
use Rattle.rstar.specs.inside.ParentBounds.{IsSpare}
use Rattle.rstar_base.proofs.Lists.{all-append}
use Rattle.rstar.proofs.inserting.Insertion.{room_one, room_none, room_same, last_spare, enough_again, some_spare}
use Rattle.rstar.proofs.algorithm.rstar.reinsertion.insert_with_reinsertion.Goals as goal

pub take_last-handed-requires : goal.take_last-handed-requires
take_last-handed-requires g c = some_spare g.Params.RTreeParams.REINSERTION_COUNT (1 + c.args.levels) (vec_len c.args.reserve.now.spares) c.requires.ready.enough

pub insert_first-requires-clause-lists : goal.insert_first-requires-clause-lists
insert_first-requires-clause-lists g c = record {
  wide = c.requires.ready.wide;
  reinserts = omega arith;
  spare = (last_spare c.requires.ready _ c.take_last-handed.result c.take_last-handed.ensures.items).1;
  overfull = c.requires.ready.overfull;
}

pub insert_again-grown-requires-clause-ready : goal.insert_again-grown-requires-clause-ready
insert_again-grown-requires-clause-ready g c = record {
  wide = c.requires.ready.wide;
  spares = (last_spare c.requires.ready _ c.take_last-handed.result c.take_last-handed.ensures.items).0;
  enough = enough_again g.Params.RTreeParams.REINSERTION_COUNT c.args.levels (vec_len c.insert_first.new.handed) (vec_len c.take_last-handed.new.self)
      (omega arith) c.insert_first.ensures.count (rw (← c.take_last-handed.ensures.len) at c.requires.ready.enough);
  overfull = c.insert_first.ensures.overfull;
}

pub push_reserved-requires : goal.push_reserved-requires
push_reserved-requires g c =
    let again = c.insert_again-grown.ensures.root.spends in
    omega (arith, c.take_last-handed.ensures.len, c.take_last-handed.ensures.capacity, again.fewer, again.places, c.args.reserve.now.spares.ok)

pub returns-then-reserve-capacity : goal.returns-then-reserve-capacity
returns-then-reserve-capacity g c =
    let taken = c.take_last-handed.ensures in
    let first = c.insert_first.ensures in
    let again = c.insert_again-grown.ensures in
    let handed = c.insert_again-grown.new.handed in
    let held = room_same c.args.reserve.now.widest handed c.insert_first.new.handed again.capacity in
    let fits : c.insert_again-grown.new.reserve.widest ≤ vec_capacity handed = omega (arith, c.capacity.ensures, c.if-reserve-capacity.true) in
    record {
      bag = IsPermutation-trans _ _ _ (rw append-nil at first.tree.bag) again.root.bag;
      kept = again.root.kept;
      sized = λ sized. let after = first.tree.sized sized in again.root.sized (after.below, omega (arith, after.most, c.insert_first.new.node.children.ok.0));
      spends =
          let own = room_one c.args.reserve.now.widest handed (omega (arith, fits, again.root.spends.widest)) in
          let spares = rw (← c.push_reserved.ensures.items) at (all-append (IsSpare c.insert_again-grown.new.reserve.widest) _ (handed ∷ []) again.root.spends.spares ((again.none, fits), tt)) in
          search (arith, held, c.push_reserved.ensures);
    }

pub returns-else-reserve-capacity : goal.returns-else-reserve-capacity
returns-else-reserve-capacity g c =
    let taken = c.take_last-handed.ensures in
    let first = c.insert_first.ensures in
    let again = c.insert_again-grown.ensures in
    let handed = c.insert_again-grown.new.handed in
    let held = room_same c.args.reserve.now.widest handed c.insert_first.new.handed again.capacity in
    record {
      bag = IsPermutation-trans _ _ _ (rw append-nil at first.tree.bag) again.root.bag;
      kept = again.root.kept;
      sized = λ sized. let after = first.tree.sized sized in again.root.sized (after.below, omega (arith, after.most, c.insert_first.new.node.children.ok.0));
      spends = let none = room_none c.args.reserve.now.widest handed (omega (arith, c.capacity.ensures, c.if-reserve-capacity.false, again.root.spends.widest)) in search (arith, held);
    }
