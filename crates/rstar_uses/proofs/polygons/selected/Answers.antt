use Rattle.std.proofs.lemmas.Iterator.Consumers.{map_from_collect}
use Rattle.rstar.proofs.selecting.Chains.{selection_list}
use Rattle.rstar_uses.proofs.polygons.selected.Goals as goal

pub returns-in-Ok : goal.returns-in-Ok
returns-in-Ok g c = map_from_collect _ c.collect.ensures.ran (selection_list _ (c.in-Ok.ensures.all c.requires.lawful))
