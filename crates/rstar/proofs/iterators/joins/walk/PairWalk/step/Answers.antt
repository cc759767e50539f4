use Rattle.std.proofs.Common.{◌≡◌, ◌<◌, ◌∙◌, ◌*◌, ◌≤◌, ap, sym, refl, arith, subst, length, min, filter}
use Rattle.std.proofs.lemmas.Bool.Decides.{nat_tests}
use Rattle.rstar.specs.Lists.{product}
use Rattle.rstar.specs.inside.PairWalks.{marked_items, rows_beside, IsFirstPair}
use Rattle.rstar.specs.Joins.{meets_by}
use Rattle.rstar.proofs.selecting.Traversals.{no-items}
use Rattle.rstar.proofs.joining.PairWalks.{cut-at, block-fits, block-some, last-frame, meets_pair, move-row, move-ask, passes}
use Rattle.rstar.proofs.iterators.joins.walk.PairWalk.step.Goals as goal

pub read-requires-clause-met : goal.read-requires-clause-met
read-requires-clause-met g c =
    let self = c.args.self.now in
    let cut = cut-at (rows_beside self.frame.rights.now) _ self.frame.lefts.now (c.min-rows.ensures ∙ ap (min (length self.frame.lefts.now)) c.rows_beside.ensures) in
    subst (λ b. IsFirstPair b self.frame.asked.now self.frame.marks c.in-Some.left.now c.in-Some.right.now c.in-Some.marks) (c.split_at.ensures.front ∙ cut.0) c.in-Some.ensures.some

pub returns-then-is_empty-2 : goal.returns-then-is_empty-2
returns-then-is_empty-2 g c =
    let self = c.args.self.now in
    let cut = cut-at (rows_beside self.frame.rights.now) _ self.frame.lefts.now (c.min-rows.ensures ∙ ap (min (length self.frame.lefts.now)) c.rows_beside.ensures) in
    let none = ap (λ b. marked_items self.frame.marks (product b self.frame.asked.now)) (sym (c.split_at.ensures.front ∙ cut.0)) ∙ c.in_default.ensures.none in
    let some : 0 < length self.frame.lefts.now = grind (arith, nat_tests, c.is_empty.ensures, c.if-is_empty.false) in
    let over = no-items self.frame.later.now _ _ c.is_empty-2.ensures c.if-is_empty-2.true refl in
    let move = move-row (meets_by g.T.Cover.Merges.boxes g.U.Meets.seen) g.T.Covered.object.box_of g.U.Covered.object.box_of self.frame c.split_at.result.1 (c.split_at.ensures.back ∙ cut.1) some none over in
    passes _ _ _ move self.path.items self _ refl refl refl (λ n h. omega (arith, h)) c.requires refl

pub returns : goal.returns
returns g c =
    let meets = meets_by g.T.Cover.Merges.boxes g.U.Meets.seen in let left_box = g.T.Covered.object.box_of in
    let right_box = g.U.Covered.object.box_of in let self = c.args.self.now in let chunk = c.split_at-2.result.0 in
    let rest = c.split_at-2.result.1 in
    let cut = cut-at (rows_beside self.frame.rights.now) _ self.frame.lefts.now (c.min-rows.ensures ∙ ap (min (length self.frame.lefts.now)) c.rows_beside.ensures) in
    let block = c.split_at.ensures.front ∙ cut.0 in
    let none = ap (λ b. marked_items self.frame.marks (product b self.frame.asked.now)) (sym block) ∙ c.in_default.ensures.none in
    let split = c.split_at-2.ensures.by_index.0 in
    let fits = block-fits self.frame.rights.now self.frame.later.now chunk.now rest.now self.frame.lefts.now (last-frame meets left_box right_box self c.requires).1.no_more split (c.split_at-2.ensures.front_len ∙ c.min.ensures) in
    let lefts : 0 < length self.frame.lefts.now = grind (arith, nat_tests, c.is_empty.ensures, c.if-is_empty.false) in
    let some : 0 < length chunk.now = grind (arith, nat_tests, c.is_empty-2.ensures, c.if-is_empty-2.false, c.min.ensures, c.split_at-2.ensures.front_len) in
    let few = subst (λ b. length b * length chunk.now ≤ 64) (sym block) fits.0 in
    let made = subst (λ b. marked_items c.marks_of-self.result (product b chunk.now) ≡ filter (meets_pair meets left_box right_box) (product b chunk.now)) block (c.marks_of-self.ensures few) in
    let move = move-ask meets left_box right_box self.frame chunk rest c.marks_of-self.result none split some (block-some self.frame.rights.now self.frame.lefts.now lefts) fits.1 made in
    passes meets left_box right_box move self.path.items self _ refl refl refl (λ n h. omega (arith, h)) c.requires refl
