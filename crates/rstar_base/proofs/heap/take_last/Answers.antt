use Rattle.std.proofs.Common.{◌≡◌, ◌<◌, ◌↔◌, ◌∷◌, ◌++◌, [], List, Option, Some, None, IsSome, IfSome, IfNone, length, length-append, append-nil, arith, ap, sym, subst, ◌∙◌}
use Rattle.std.specs.Option.{option_flatten, option_to_list}
use Rattle.rstar_base.specs.SmallHeaps.{present}
use Rattle.std.proofs.lemmas.List.{nil_from_length}
use Rattle.rstar_base.proofs.HeapParts.{present-snoc}
use Rattle.rstar_base.proofs.Lists.{all_first, all_second}
use Rattle.rstar_base.proofs.Present.{AreFull}
use Rattle.rstar_base.proofs.heap.take_last.Goals as goal

-- what the last place held
last-held : {X : Type 0} (old new : List (Option X)) (taken : Option (Option X)) → old ≡ new ++ option_to_list taken → IfSome (option_flatten taken) (λ x. present old ≡ present new ++ x ∷ [])
last-held old new None e = tt
last-held old new (Some None) e = tt
last-held old new (Some (Some x)) e = ap present e ∙ present-snoc new x

-- a full list does not end in a free place
no-none : {X : Type 0} (a : List (Option X)) → AreFull (a ++ None ∷ []) → ⊥
no-none a h = let n = (all_second IsSome a (None ∷ []) h).0 in cc

none-left : {X : Type 0} (old new : List (Option X)) (taken : Option (Option X)) → old ≡ new ++ option_to_list taken → AreFull old → (IsSome taken ↔ (0 < length old)) → IfNone (option_flatten taken) (old ≡ [])
none-left old new None e f v = let no : 0 < length old → ⊥ = λ p. let n = v.1 p in cc in nil_from_length old (omega arith)
none-left old new (Some None) e f v = absurd (no-none new (subst AreFull e f))
none-left old new (Some (Some x)) e f v = tt

none-stays : {X : Type 0} (old new : List (Option X)) (taken : Option (Option X)) → old ≡ new ++ option_to_list taken → AreFull old → (IsSome taken ↔ (0 < length old)) → IfNone (option_flatten taken) (new ≡ [])
none-stays old new None e f v = sym (append-nil new) ∙ sym e ∙ none-left old new None e f v
none-stays old new (Some None) e f v = absurd (no-none new (subst AreFull e f))
none-stays old new (Some (Some x)) e f v = tt

pub returns-clause-filled : goal.returns-clause-filled
returns-clause-filled g c = record {
  full = all_first IsSome c.pop.new.self.items (option_to_list c.pop.result) (subst AreFull c.pop.ensures.items c.requires.full);
  few = omega (arith, ap length c.pop.ensures.items, length-append c.pop.new.self.items (option_to_list c.pop.result), c.requires.few);
}

pub returns-clause-none : goal.returns-clause-none
returns-clause-none g c = subst (λ r. IfNone r (c.args.inline.now.items ≡ [])) (sym c.flatten.ensures) (none-left c.args.inline.now.items c.pop.new.self.items c.pop.result c.pop.ensures.items c.requires.full c.pop.ensures.variant)

pub returns-clause-stays : goal.returns-clause-stays
returns-clause-stays g c = subst (λ r. IfNone r (c.pop.new.self.items ≡ [])) (sym c.flatten.ensures) (none-stays c.args.inline.now.items c.pop.new.self.items c.pop.result c.pop.ensures.items c.requires.full c.pop.ensures.variant)

pub returns-clause-some : goal.returns-clause-some
returns-clause-some g c = subst (λ r. IfSome r (λ x. present c.args.inline.now.items ≡ present c.pop.new.self.items ++ x ∷ [])) (sym c.flatten.ensures) (last-held c.args.inline.now.items c.pop.new.self.items c.pop.result c.pop.ensures.items)
