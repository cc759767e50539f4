use Rattle.std.proofs.Common.{sym, subst}
use Rattle.std.specs.List.Sorted.{IsPermutation}
use Rattle.std.proofs.lemmas.List.Sorted.{IsPermutation-refl, IsPermutation-sym, IsPermutation-trans}
use Rattle.rstar.specs.Joins.{join}
use Rattle.rstar.specs.Trees.{elements_in}
use Rattle.rstar.proofs.commands.Replays.{join-along}
use Rattle.rstar.proofs.replay.answers.join.Goals as goal

pub returns-in-Ok-clones_of_pairs : goal.returns-in-Ok-clones_of_pairs
returns-in-Ok-clones_of_pairs g c =
    let meets = g.T.Envelope.Envelope.boxes.intersects in
    let box = g.T.RTreeObject.object.box_of in
    let old = elements_in c.args.tree.now in (
      subst (IsPermutation (join meets box box old c.args.list.items)) (sym c.in-Ok-clones_of_pairs.ensures)
          (IsPermutation-trans _ _ _ (join-along meets box box old c.args.list.items (elements_in c.in-Ok.other) c.in-Ok.ensures.same) (IsPermutation-sym _ _ c.in-Ok-intersection_candidates_with_other_tree.ensures.all)),
      IsPermutation-refl _,
    )
