use Rattle.std.proofs.Common.{List, subst}
use Rattle.std.specs.Option.{IfSome}
use Rattle.std.specs.Result.{IfOk}
use Rattle.rstar.specs.Lists.{IsLeast}
use Rattle.rstar_c.specs.Items.{Item, IsBefore}
use Rattle.rstar_c.proofs.store.Store.pop_nearest.Goals as goal

pub returns-clause-first : goal.returns-clause-first
returns-clause-first c =
    subst (λ (items : List Item). IfOk c.pop_nearest_neighbor_by_order.result (λ r. IfSome r (λ t. IsLeast (IsBefore c.args.place.now) items t))) c.self.view_is
    c.pop_nearest_neighbor_by_order.ensures.first
