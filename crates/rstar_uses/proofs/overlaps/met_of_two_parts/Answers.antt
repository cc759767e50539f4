use Rattle.std.proofs.Common.{◌≡◌, ◌∙◌, ◌&&◌, Bool, List, Ok, map, filter, IsPermutation, not, ◌==◌, ap, refl, subst, sym, rules, tests}
use Rattle.std.proofs.lemmas.Iterator.Consumers.{map_from_collect}
use Rattle.std.proofs.lemmas.List.Elements.{filter_from_retain}
use Rattle.rstar.proofs.selecting.Chains.{own_list}
use Rattle.rstar.proofs.searching.Ties.{filter-along}
use Rattle.rstar.specs.SelfJoins.{pairs_behind}
use Rattle.rstar.specs.Trees.{elements_in}
use Rattle.rstar_uses.proofs.Lists.{filter-seen, filter-twice}
use Rattle.rstar_uses.proofs.overlaps.met_of_two_parts.Goals as goal

-- those kept of all that pass another test, which came in some order
kept-of : {A B : Type 0} (seen : A → B) (p q : B → Bool) (came every : List B) (old new : List A) → map seen old ≡ came → new ≡ filter (λ x. p (seen x)) old
    → IsPermutation came (filter q every) → IsPermutation (map seen new) (filter (λ x. q x && p x) every)
kept-of seen p q came every old new found kept met =
    let all = subst (IsPermutation (filter p came)) (filter-twice q p every) (filter-along p came (filter q every) met) in
    subst (λ l. IsPermutation l (filter (λ x. q x && p x) every)) (sym (ap (map seen) kept ∙ filter-seen seen p old ∙ ap (filter p) found)) all

pub returns : goal.returns
returns g c =
    kept-of _ (λ pair. not (pair.0.1 == pair.1.1)) (λ pair. g.R.Envelope.Envelope.boxes.intersects (g.R.RTreeObject.object.box_of pair.0.0) (g.R.RTreeObject.object.box_of pair.1.0)) _ (pairs_behind (elements_in c.args.tree.now)) _ _
    (map_from_collect {E = Unit {0}} (Ok c.in_ok-pairs.pairs) c.in_ok-pairs.ensures.ran (own_list _ refl))
    (filter_from_retain _ (λ pair. not (pair.0.now.1 == pair.1.now.1)) (λ p x b q r. search (rules, tests)) _ _ _ c.retain.ensures.filtered)
    c.in_ok-met.ensures.all
