use Rattle.std.proofs.Common.{◌≡◌, ◌∙◌, ◌≤◌, ◌++◌, Bool, List, ℕ, ap, arith, filter, length, map, min, refl, set, subst, sym, take}
use Rattle.std.specs.List.{flat_map}
use Rattle.std.proofs.lemmas.List.{length-map, take_all}
use Rattle.rstar_base.specs.Counts.{usize_max}
use Rattle.rstar_c.specs.Items.{Item, number}
use Rattle.rstar_c.specs.Put.{over, put_from, offsets_of, ArePut}
use Rattle.rstar_c.proofs.Puts.{each-put, each-counted, flat-more, offset-put, offsets-put}
use Rattle.rstar_c.proofs.questions.put_each.Goals as goal

pub loop-i-preserved : goal.loop-i-preserved
loop-i-preserved g c =
    let Shape : Type 0 = g.row.Q-Shape.Denot in
    let numbers : Shape → List ℕ = λ a. map number (filter (g.Q.Question.chosen c.args.question a) c.args.store.now) in
    let count : Shape → ℕ = λ a. length (filter (g.Q.Question.chosen c.args.question a) c.args.store.now) in
    let same : (a : Shape) → count a ≡ length (numbers a) = λ a. sym (length-map (filter (g.Q.Question.chosen c.args.question a) c.args.store.now) number) in
    let out : List ℕ → List ℕ = λ all. put_from 0 all c.args.ids.now in
    let so_far : List ℕ = flat_map numbers (take c.loop-i.i c.args.shapes.now) in
    let this : Shape = c.index-shapes-i.result in
    let next = ap (λ (a : Shape). so_far ++ numbers a) c.index-shapes-i.is ∙ flat-more numbers c.args.shapes.now c.loop-i.i this c.loop-i-test.true in
    let put = subst (λ (chosen : Item → Bool). ArePut (map number (filter chosen c.args.store.now)) c.loop-i.next c.loop-i.ids c.put_selected-next.new.ids c.put_selected-next.result) c.query.ensures c.put_selected-next.ensures in
    let lt = c.loop-i-test.true in
    let le : c.loop-i.i ≤ length c.args.shapes.now = omega (arith, lt) in
    record {
      counted = each-counted so_far (numbers this) (length (numbers this)) c.loop-i.next _ c.loop-i.invariant.counted refl put.counted ∙ ap (λ all. min (length all) usize_max) next;
      begun = ap (λ (os : List ℕ). set os c.loop-i.i c.loop-i.next) c.loop-i.invariant.begun
          ∙ offset-put count numbers same c.args.shapes.now c.loop-i.i c.loop-i.next c.args.offsets.now le c.requires c.loop-i.invariant.counted;
      written = each-put so_far (numbers this) c.args.ids.now c.loop-i.ids _ c.loop-i.next c.room_in-room.result c.loop-i.invariant.counted c.loop-i.invariant.written c.room_in-room.ensures c.room_in-room.type_inv put.written
          ∙ ap out next;
    }

pub returns : goal.returns
returns g c =
    let Shape : Type 0 = g.row.Q-Shape.Denot in
    let numbers : Shape → List ℕ = λ a. map number (filter (g.Q.Question.chosen c.args.question a) c.args.store.now) in
    let count : Shape → ℕ = λ a. length (filter (g.Q.Question.chosen c.args.question a) c.args.store.now) in
    let same : (a : Shape) → count a ≡ length (numbers a) = λ a. sym (length-map (filter (g.Q.Question.chosen c.args.question a) c.args.store.now) number) in
    let end = c.loop-i-test.false in
    let few = c.loop-i.auto.i-end in
    let all : c.loop-i.i ≡ length c.args.shapes.now = omega (arith, end, few) in
    record {
      begun = ap (λ (os : List ℕ). set os (length c.args.shapes.now) c.loop-i.next) (c.loop-i.invariant.begun ∙ ap (λ k. over (take k (offsets_of count 0 c.args.shapes.now)) c.args.offsets.now) all)
          ∙ offsets-put count numbers same c.args.shapes.now c.loop-i.next c.args.offsets.now c.requires
          (c.loop-i.invariant.counted ∙ ap (λ (shapes : List Shape). min (length (flat_map numbers shapes)) usize_max) (take_all c.loop-i.i c.args.shapes.now end));
      written = c.loop-i.invariant.written ∙ ap (λ shapes. over (flat_map (λ a. map number (filter (g.Q.Question.chosen c.args.question a) c.args.store.now)) shapes) c.args.ids.now) (take_all c.loop-i.i c.args.shapes.now c.loop-i-test.false);
    }
