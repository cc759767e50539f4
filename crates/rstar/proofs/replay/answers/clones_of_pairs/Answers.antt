use Rattle.std.proofs.Common.{◌≡◌, ◌∙◌, ◌∷◌, [], ◌++◌, ap, append_assoc, sym}
use Rattle.rstar.specs.Joins.{meets_by, pairs_to_come}
use Rattle.rstar.proofs.replay.answers.clones_of_pairs.Goals as goal

pub loop-t-init : goal.loop-t-init
loop-t-init g c = record {
  joining = c.requires.joining;
  rest = ap (λ ps. ps ++ pairs_to_come (meets_by g.T.Cover.Merges.boxes g.U.Meets.seen) g.T.Covered.object.box_of g.U.Covered.object.box_of c.args.walk) c.new-pairs.ensures.items;
}

pub loop-t-preserved : goal.loop-t-preserved
loop-t-preserved g c =
    let left : c.in_ok-left.left ≡ c.in-Some.t.now = c.requires.left _ _ c.in_ok-left.ensures.cases in
    let right : c.in_ok-clone.field-0 ≡ c.in-Some.u.now = c.requires.right _ _ c.in_ok-clone.ensures.cases in
    let more = pairs_to_come (meets_by g.T.Cover.Merges.boxes g.U.Meets.seen) g.T.Covered.object.box_of g.U.Covered.object.box_of c.next.new.self in
    record {
      joining = c.in-Some.ensures.steps.joining;
      rest = ap (λ ps. ps ++ more) c.in_ok-push.ensures.items ∙ append_assoc c.loop-t.pairs.items ((c.in_ok-left.left, c.in_ok-clone.field-0) ∷ []) more
          ∙ ap (λ t. c.loop-t.pairs.items ++ (t, c.in_ok-clone.field-0) ∷ more) left ∙ ap (λ u. c.loop-t.pairs.items ++ (c.in-Some.t.now, u) ∷ more) right
          ∙ ap (λ ps. c.loop-t.pairs.items ++ ps) (sym c.in-Some.ensures.steps.gives) ∙ c.loop-t.invariant.rest;
    }
