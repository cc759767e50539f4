use Rattle.std.proofs.Common.{◌≡◌, ◌∙◌, ◌≤◌, sym, subst, false, length, arith}
use Rattle.std.specs.List.{All}
use Rattle.std.proofs.lemmas.List.{take_all}
use Rattle.std.proofs.lemmas.List.Elements.{All-push}
use Rattle.rstar_base.specs.Boxes.{is_empty_box}
use Rattle.rstar_c.specs.Items.{Item, box_of, items_of}
use Rattle.rstar_c.proofs.Listed.{made-more, items-few}
use Rattle.rstar_c.proofs.store.listed.Goals as goal

pub loop-i-preserved : goal.loop-i-preserved
loop-i-preserved c = record {
  made = made-more c.args.boxes.now c.args.ids.now c.loop-i.i _ c.loop-i.items.items _ c.item.result c.loop-i.invariant.made c.in_ok-push.ensures.items c.item.ensures.is c.requires c.loop-i-test.true;
  filled = subst (All (λ (item : Item). is_empty_box (box_of item) ≡ false)) (sym c.in_ok-push.ensures.items) (All-push (λ (item : Item). is_empty_box (box_of item) ≡ false) _ _ c.loop-i.invariant.filled c.item.ensures.filled);
}

pub returns-clause-items : goal.returns-clause-items
returns-clause-items c =
    let few = items-few c.args.boxes.now c.args.ids.now in
    let end = c.loop-i-test.false in
    let all : length (items_of c.args.boxes.now c.args.ids.now) ≤ c.loop-i.i = omega arith in
    c.loop-i.invariant.made ∙ take_all c.loop-i.i (items_of c.args.boxes.now c.args.ids.now) all
