use Rattle.std.proofs.Common.{◌++◌, take, ap, sym, ◌∙◌, append_assoc}
use Rattle.rstar.specs.inside.Paths.{near_items}
use Rattle.rstar.proofs.path.Path.pop.Goals as goal

pub returns-in-Some-clause-some : goal.returns-in-Some-clause-some
returns-in-Some-clause-some g c =
    rw append_assoc (ap (λ p. p.items) (sym c.self.view_is) ∙ ap (λ l. take c.self.inside.len (near_items c.self.inside.near) ++ l) c.in-Some.ensures.items)
