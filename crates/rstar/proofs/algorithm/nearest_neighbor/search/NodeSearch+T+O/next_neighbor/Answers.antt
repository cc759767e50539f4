use Rattle.std.proofs.Common.{◌≡◌, length, sym, ap, subst, refl, ◌∙◌, arith}
use Rattle.std.proofs.lemmas.List.{nil_from_length}
use Rattle.std.proofs.lemmas.List.Sorted.{IsPermutation-trans, length_permutation}
use Rattle.rstar.specs.declared.algorithm.nearest_neighbor.search.Stage.{Stage}
use Rattle.rstar.specs.declared.algorithm.nearest_neighbor.search.Stage.TheVariants.{Fresh, Running, Ended}
use Rattle.rstar.specs.inside.Searches.{IsUnrefused}
use Rattle.rstar.proofs.searching.SearchTurns.{ends-none, ends-refused, gives-one}
use Rattle.rstar.proofs.algorithm.nearest_neighbor.search.NodeSearch+T+O.next_neighbor.Goals as goal

going : (s : Stage) → (s ≡ Ended → ⊥) → IsUnrefused s
going Fresh h = tt
going Running h = tt
going Ended h = h refl

pub returns-in-Ended : goal.returns-in-Ended
returns-in-Ended g c =
    let refused : IsUnrefused c.args.self.now.stage → ⊥ = λ on. subst IsUnrefused c.in-Ended.is on in
    ends-none refl c.requires (λ on. absurd (refused on)) (λ old. old)

pub returns-in-Err : goal.returns-in-Err
returns-in-Err g c = ends-refused c.begin.ensures.root c.in-Err.ensures.refused (going _ c.in_default.not-Ended) refl

pub returns-in-Ok-Some : goal.returns-in-Ok-Some
returns-in-Ok-Some g c =
    let stage = c.advance.ensures.stage ∙ c.in_default-begin.ensures.stage in
    let given = rw c.in-Ok-Some.field-0-is at c.in-Ok-Some.ensures.gives in
    let gave = rw c.begin.ensures.root at given.gives in
    gives-one (c.advance.ensures.root ∙ c.begin.ensures.root) (rw (stage, c.advance.ensures.root) given.running)
    (rw stage record { bag = IsPermutation-trans _ _ _ c.in_default-begin.ensures.under_way.bag gave.bag; least = gave.least; still_far = gave.still_far }) given.distance (rw stage given.first) (going _ c.in_default.not-Ended) stage

pub returns-in-Ok-None : goal.returns-in-Ok-None
returns-in-Ok-None g c =
    let stage = c.advance.ensures.stage ∙ c.in_default-begin.ensures.stage in
    let given = rw c.in-Ok-None.field-0-is at c.in-Ok-None.ensures.gives in
    ends-none (c.advance.ensures.root ∙ c.begin.ensures.root) (rw (stage, c.advance.ensures.root) given.running)
    (λ on. (nil_from_length _ (sym (length_permutation _ _ c.in_default-begin.ensures.under_way.bag) ∙ ap length given.none), rw stage given.over, stage)) (λ over. absurd (over (going _ c.in_default.not-Ended)))

pub returns-in-Err-advance : goal.returns-in-Err-advance
returns-in-Err-advance g c =
    ends-refused (c.advance.ensures.root ∙ c.begin.ensures.root) (omega (arith, c.in_default-begin.ensures.under_way.fewer, c.in-Err-advance.ensures.refused.0), omega (arith, c.in-Err-advance.ensures.refused.1, length_permutation _ _ c.in_default-begin.ensures.under_way.bag)) (going _ c.in_default.not-Ended) refl
