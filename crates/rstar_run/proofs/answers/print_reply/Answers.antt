use Rattle.std.proofs.Common.{rules, ◌++◌, map, decimal, ap, sym, subst, codes}
use Rattle.std.proofs.lemmas.List.Sorted.{IsNonDecreasingBy-from_sort_by_key, IsPermutation-map}
use Rattle.rstar_run.specs.Texts.{list_text, id_text, AreIds, SpellsReply}
use Rattle.rstar_run.proofs.Ids.{ascending}
use Rattle.rstar_run.proofs.Prints.{printed_some, list_text-map}
use Rattle.rstar_run.proofs.answers.print_reply.Goals as goal

pub returns-in-Elements-clause-printed : goal.returns-in-Elements-clause-printed
returns-in-Elements-clause-printed g c =
    let sorted = c.sort_unstable_by_key.new.self.items in
    let up = ascending (λ item. item.1) sorted (IsNonDecreasingBy-from_sort_by_key (λ item. item.1) sorted c.sort_unstable_by_key.ensures.sorted (λ a r q k. search rules)) in
    let those = IsPermutation-map (λ item. item.1) c.in-Elements.items.items sorted c.sort_unstable_by_key.ensures.permutation in
    let ids = map (λ item. item.1) c.as_slice.result.now in
    let are = subst (λ items. AreIds c.in-Elements.items.items (map (λ item. item.1) items)) (sym c.as_slice.ensures.value) (record { just_those = those; ascending = up }) in
    let text = list_text id_text c.as_slice.result.now ++ codes "\n" in
    let spelled = ap (λ l. l ++ codes "\n") (sym (list_text-map decimal (λ item. item.1) c.as_slice.result.now)) in
    printed_some _ _ _ _ (SpellsReply c.args.reply) text (subst (λ reply. SpellsReply reply text) (sym c.in-Elements.is) (ids, are, spelled))
    c.print_list-in-Elements.result c.print_list-in-Elements.ensures.all c.print_list-in-Elements.ensures.front c.print_list-in-Elements.ensures.stop
