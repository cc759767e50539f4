use Rattle.std.proofs.Common.{◌<◌, ◌≤◌, length, refl, arith}
use Rattle.rstar.proofs.commands.Firsts.{clone-more, clones-whole}
use Rattle.rstar.proofs.replay.answers.clones_of_lent.Goals as goal

pub loop-place-preserved : goal.loop-place-preserved
loop-place-preserved g c =
    let lent = c.args.lent.now in
    let below : c.loop-place.place < length lent.items = omega (arith, c.loop-place-test.true, c.len-place-end.ensures, lent.ok.0) in
    clone-more lent.items lent.items c.loop-place.place _ _ _ _ refl below c.index-near.ensures
    (c.requires _ _ c.in_ok-clone.ensures.cases) c.loop-place.invariant c.in_ok-push.ensures.items

pub returns : goal.returns
returns g c =
    let lent = c.args.lent.now in
    let ended : length lent.items ≤ c.loop-place.place = omega (arith, c.loop-place-test.false, c.len-place-end.ensures, lent.ok.0) in
    clones-whole lent.items lent.items c.loop-place.place _ refl ended c.loop-place.invariant
