use Rattle.std.proofs.Common.{List, ℕ, ap, subst, sym}
use Rattle.rstar_c.specs.Answers.{AreNearestEach}
use Rattle.rstar_c.specs.Items.{Item}
use Rattle.rstar_c.specs.Owned.{first_of}
use Rattle.rstar_c.proofs.Rows.{no-rows}
use Rattle.rstar_c.proofs.exports.neighbours.rstar_index_nearest_each.Goals as goal

pub returns-in_default-clause-put : goal.returns-in_default-clause-put
returns-in_default-clause-put c = λ ok.
    subst (λ (items : List Item). (x : ℕ) × AreNearestEach c.args.places.now c.args.most items c.args.ids.now c.args.ids.now c.args.distances.now c.args.distances.now x)
    (sym (ap first_of c.in_default.ensures.none)) (0, no-rows c.args.places.now c.args.most c.args.ids.now c.args.distances.now)
