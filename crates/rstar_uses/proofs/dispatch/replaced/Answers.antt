use Rattle.std.proofs.Common.{rules, ◌∙◌, ◌≡◌, true, sym}
use Rattle.std.proofs.lemmas.List.Sorted.{IsPermutation-trans}
use Rattle.rstar_uses.proofs.Lists.{is-taken}
use Rattle.rstar_uses.proofs.dispatch.replaced.Goals as goal

pub returns-clause-there : goal.returns-clause-there
returns-clause-there g c =
    let any : c.contains.result ≡ true = search rules in
    is-taken _ _ _ c.args.new _ (sym c.contains.ensures ∙ any) c.in_ok-insert.ensures.added c.taken_out.ensures.none ∙ sym any ∙ c.contains.ensures

pub returns-clause-replaced : goal.returns-clause-replaced
returns-clause-replaced g c = λ e. let taken = c.taken_out.ensures.taken e in (taken.0, taken.1, IsPermutation-trans _ _ _ c.in_ok-insert.ensures.added taken.2)

pub returns-clause-kept : goal.returns-clause-kept
returns-clause-kept g c =
    let any : c.contains.result ≡ true = search rules in
    λ e. let is = is-taken _ _ _ c.args.new _ (sym c.contains.ensures ∙ any) c.in_ok-insert.ensures.added c.taken_out.ensures.none in cc
