use Rattle.std.proofs.Common.{◌∙◌, ◌+◌, ◌≤◌, Bool, ap, filter, length, map, min, subst, sym}
use Rattle.rstar_base.specs.Counts.{usize_max}
use Rattle.std.proofs.lemmas.List.{length-map}
use Rattle.rstar_c.specs.Items.{Item, number}
use Rattle.rstar_c.specs.Put.{ArePut}
use Rattle.rstar_c.proofs.Listed.{exact, filter-fewer}
use Rattle.rstar_c.proofs.questions.put_found.Goals as goal

pub returns : goal.returns
returns g c =
    let chosen = g.Q.Question.chosen c.args.question c.args.shape.now in
    let put = subst (λ (chosen : Item → Bool). ArePut (map number (filter chosen c.args.store.now)) 0 c.args.ids.now c.put_selected.new.ids c.put_selected.result) c.query.ensures c.put_selected.ensures in
    record {
      counted = exact _ _ c.size-size.result (put.counted ∙ ap (λ n. min (0 + n) usize_max) (length-map (filter chosen c.args.store.now) number))
          (subst (λ k. length (filter chosen c.args.store.now) ≤ k) (sym c.size-size.ensures) (filter-fewer chosen c.args.store.now)) c.size-size.type_inv;
      written = put.written;
    }
