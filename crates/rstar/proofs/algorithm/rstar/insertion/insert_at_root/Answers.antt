use Rattle.std.proofs.Common.{◌+◌, ◌∙◌, ◌≡◌, [], ◌∷◌, ap, append-nil, arith, length, refl, vec_capacity, vec_len}
use Rattle.rstar.specs.declared.node.RTreeNode.{Parent}
use Rattle.rstar.specs.Nodes.{all_elements}
use Rattle.rstar.specs.inside.ParentBounds.{all_roomy, has_room}
use Rattle.rstar.proofs.inserting.Insertion.{all_elements-append, two_parents, two_roomy, room_one, root_grown, sized_above, last_spare, ready_again, spends_both, spends_one, spends_as}
use Rattle.rstar.proofs.algorithm.rstar.insertion.insert_at_root.Goals as goal

pub push_reserved-requires : goal.push_reserved-requires
push_reserved-requires g c =
    let ready = ready_again {least' = 1} c.requires.ready c.in-Some.ensures.spends (omega (arith, c.requires.ready.enough, c.in-Some.ensures.used)) in
    let spare = (last_spare ready _ c.take_last-children.result c.take_last-children.ensures.items).1 in
    omega (arith, spare.1, ap length spare.0, c.take_last-children.result.ok.0, ap (λ n. vec_capacity n.children) c.replace-old.ensures.after, ap (λ n. vec_len n.children) c.replace-old.ensures.after, ready.wide, g.Params.RTreeParams.max_at_least_four)

pub push_reserved-requires-2 : goal.push_reserved-requires-2
push_reserved-requires-2 g c =
    let ready = ready_again {least' = 1} c.requires.ready c.in-Some.ensures.spends (omega (arith, c.requires.ready.enough, c.in-Some.ensures.used)) in
    let spare = (last_spare ready _ c.take_last-children.result c.take_last-children.ensures.items).1 in
    omega (arith, spare.1, ap length spare.0, c.take_last-children.result.ok.0, ap (λ n. vec_capacity n.children) c.replace-old.ensures.after, ap (λ n. vec_len n.children) c.replace-old.ensures.after, c.push_reserved.ensures.len, c.push_reserved.ensures.capacity, ready.wide, g.Params.RTreeParams.max_at_least_four)

pub returns-clause-root : goal.returns-clause-root
returns-clause-root g c =
    let node = c.insert_below.new.node in
    let second = c.in-Some.second in
    let ends = c.in-Some.ensures in
    let taken = c.take_last-children.ensures in
    let ready = ready_again {least' = 1} c.requires.ready ends.spends (omega (arith, c.requires.ready.enough, ends.used)) in
    let spare = (last_spare ready _ c.take_last-children.result taken.items).1 in
    let two : c.push_reserved-2.new.self.items ≡ Parent node ∷ Parent second ∷ [] = rw (c.push_reserved-2.ensures.items, c.push_reserved.ensures.items, c.replace-old.ensures.after, spare.0, c.replace-old.ensures.value) refl in
    let room = ap (λ n. vec_capacity n.children) c.replace-old.ensures.after in
    let own = room_one c.insert_below.new.reserve.widest c.push_reserved-2.new.self (omega (arith, spare.1, room, c.push_reserved.ensures.capacity, c.push_reserved-2.ensures.capacity)) in
    record {
      bag = rw (ap all_elements two ∙ two_parents node second, ← all_elements-append node.children.items second.children.items) (rw append-nil at ends.tree.bag);
      kept = root_grown g.met.T.Cover.Merges.merge_laws g.met.T.Covered.cover_law c.args.reserve.now.widest c.args.levels node second _ ends.tree.first ends.tree.second_kept two (ap (λ n. n.envelope) c.replace-old.ensures.after ∙ c.merged-envelope.ensures.merged) (omega (arith, c.requires.ready.wide, g.Params.RTreeParams.max_at_least_four));
      sized = λ sized. sized_above g.Params.RTreeParams.MIN_SIZE g.Params.RTreeParams.MAX_SIZE c.args.levels _ node second (record { children = c.push_reserved-2.new.self; envelope = c.replace-old.new.dest.envelope }) (ends.tree.sized sized) two (omega (arith, g.Params.RTreeParams.max_at_least_four));
      spends = spends_as (spends_both ends.spends (spends_one {before = λ n. 0} {after = λ n. has_room n c.push_reserved-2.new.self} ready c.take_last-children.result taken.items taken.len taken.capacity refl ready.overfull (omega (arith, own)) (omega (arith, room_one 0 c.push_reserved-2.new.self (omega arith)))))
          (λ n few. omega (arith, ap (all_roomy n (c.args.levels + 1)) two, two_roomy n c.args.levels node second));
    }
