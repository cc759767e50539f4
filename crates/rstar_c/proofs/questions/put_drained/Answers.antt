use Rattle.std.proofs.Common.{◌≡◌, ◌∙◌, Bool, ℕ, ap, arith, filter, length, map, min, subst}
use Rattle.rstar.specs.Steps.{TakesSome}
use Rattle.rstar_c.specs.Items.{Item, number}
use Rattle.rstar_c.specs.Put.{over}
use Rattle.rstar_c.proofs.questions.put_drained.Goals as goal

same : (n : ℕ) → min n n ≡ n
same n = omega arith

pub returns-in-Some-clause-drained : goal.returns-in-Some-clause-drained
returns-in-Some-clause-drained g c = λ ok.
    let some = subst (λ (chosen : Item → Bool). TakesSome chosen c.put_found-count.result c.args.store.now c.in-Some.taken.items c.drain.new.self) c.query.ensures c.in-Some.ensures.taken in
    let chosen : ℕ = length (filter (g.Q.Question.chosen c.args.question c.args.shape.now) c.args.store.now) in
    record {
      taken = c.in-Some.taken.items;
      bag = some.bag;
      selected = some.selected;
      counted = c.put_list.ensures.counted ∙ ap length c.deref.ensures.value;
      all = some.count ∙ ap (λ n. min n chosen) c.put_found-count.ensures.counted ∙ same chosen;
      written = c.put_list.ensures.written ∙ ap (λ items. over (map number items) c.args.ids.now) c.deref.ensures.value;
    }
