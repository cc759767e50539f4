use Rattle.std.proofs.Common.{◌∷◌, ◌++◌, [], ◌∙◌, ap, refl, arith, append-nil, append_assoc, take, flat_map}
use Rattle.rstar.specs.inside.PairWalks.{frame_of}
use Rattle.rstar.specs.Joins.{meets_by}
use Rattle.rstar.specs.Meets.{opened_to}
use Rattle.rstar.proofs.joining.PairsByChildren.{leaves}
use Rattle.rstar.proofs.joining.PairWalks.{read-meets, move-read, move-open, open-room, passes, path-room, last-frame, finds}
use Rattle.rstar.proofs.iterators.joins.walk.PairWalk.read.Goals as goal

pub returns-in-Some-two_leaves : goal.returns-in-Some-two_leaves
returns-in-Some-two_leaves g c =
    let meets = meets_by g.T.Cover.Merges.boxes g.U.Meets.seen in let left_box = g.T.Covered.object.box_of in
    let right_box = g.U.Covered.object.box_of in let self = c.args.self.now in
    let all = c.requires.met.all _ _ _ _ c.in-Some.ensures.cases.0 c.in-Some-split_first.ensures.cases.0 in
    let found = c.in-Some-two_leaves.ensures.some in
    let two = leaves meets left_box right_box _ _ _ _ found.0 found.1 in
    let meeting = read-meets meets left_box right_box self.frame c.args.marks _ _ all (last-frame meets left_box right_box self c.requires.walk).1 in
    let move = move-read meets left_box right_box self.frame c.args.marks _ _ all _ _ two meeting in
    finds meets left_box right_box move self.path.items self _ refl refl refl (λ n h. omega (arith, h)) c.requires.walk refl

pub push_reserved-requires : goal.push_reserved-requires
push_reserved-requires g c =
    let self = c.args.self.now in
    let all = c.requires.met.all _ _ _ _ c.in-Some.ensures.cases.0 c.in-Some-split_first.ensures.cases.0 in
    path-room _ _ _ self c.requires.walk (open-room _ _ _ self.frame c.args.marks _ _ all c.in_default-two_leaves.ensures.none)

pub returns : goal.returns
returns g c =
    let meets = meets_by g.T.Cover.Merges.boxes g.U.Meets.seen in let left_box = g.T.Covered.object.box_of in
    let right_box = g.U.Covered.object.box_of in let self = c.args.self.now in let above = self.path.items in
    let ls = c.opened_nodes-self.result in let rs = c.opened_nodes-self-2.result in
    let all = c.requires.met.all _ _ _ _ c.in-Some.ensures.cases.0 c.in-Some-split_first.ensures.cases.0 in
    let meeting = read-meets meets left_box right_box self.frame c.args.marks _ _ all (last-frame meets left_box right_box self c.requires.walk).1 in
    let down = c.opened_nodes-self.ensures ∙ ap (flat_map opened_to) (ap (take 1) c.in-Some.ensures.cases.0) ∙ append-nil _ in
    let down' = c.opened_nodes-self-2.ensures ∙ ap (flat_map opened_to) (ap (take 1) c.in-Some-split_first.ensures.cases.0) ∙ append-nil _ in
    let move = move-open meets left_box right_box self.frame c.args.marks _ _ all ls rs c.in_default-two_leaves.ensures.none down down' meeting in
    let below = frame_of ls self.frame.asked 0 rs rs in
    let is-new = ap (λ f. f ++ below ∷ []) c.push_reserved.ensures.items ∙ append_assoc above (record self.frame { marks = c.args.marks } ∷ []) (below ∷ []) in
    passes meets left_box right_box move above self _ refl is-new c.push_reserved.ensures.capacity (λ n h. omega (arith, h, c.saturating_add-self.ensures)) c.requires.walk refl
