-- Commands over a tree: what its calls give is what a step may give, and a run goes on by one step.
use Rattle.std.proofs.Common.{◌≡◌, ℕ, ◌+◌, ◌<◌, ◌≤◌, inl, inr, min, Bool, true, List, [], ◌∷◌, ◌++◌, refl, ap, sym, ◌∙◌, subst, arith, length, length-append, filter, Option, Some, None, IfSome, IfNone, append_assoc, append-nil}
use Rattle.std.proofs.lemmas.Bool.{cases_lt}
use Rattle.std.proofs.lemmas.Grind.{common_steps}
use Rattle.std.specs.List.{AllByRecursion}
use Rattle.std.specs.List.Sorted.{IsPermutation}
use Rattle.std.specs.declared.cmp.Ordering.{Ordering}
use Rattle.std.proofs.lemmas.List.Elements.{filter-append}
use Rattle.std.proofs.lemmas.List.Sums.{length-filter, count_by-le-length}
use Rattle.std.proofs.lemmas.List.Sorted.{IsPermutation-refl, IsPermutation-map, IsPermutation-append, length_permutation}
use Rattle.rstar_base.specs.Envelopes.{Boxes}
use Rattle.rstar_base.specs.Elements.{Objects}
use Rattle.rstar_base.proofs.Along.{IsPermutation-same}
use Rattle.rstar.specs.declared.replay.Command.{Command}
use Rattle.rstar.specs.declared.replay.Command.TheVariants as command
use Rattle.rstar.specs.declared.replay.Reply.{Reply}
use Rattle.rstar.specs.declared.replay.Reply.TheVariants as reply
use Rattle.rstar.specs.declared.rtree.RTree.{RTree}
use Rattle.rstar.specs.Joins.{join}
use Rattle.rstar.specs.inside.Gathering.{Gathers}
use Rattle.rstar.specs.Lists.{product, NoneSelected}
use Rattle.rstar.specs.Steps.{Questions, TakesOne, TakesSome, StepByOrder, RunBy, IsInsertion, IsQuestion, IsRefusal}
use Rattle.rstar.specs.StepsOfTrees.{StepOfTree, RunOfTree}
use Rattle.rstar.specs.Trees.{elements_in, IsUnchanged, IsWholeTree}
use Rattle.rstar.proofs.searching.Ties.{filter_nothing, filter-along}

-- ---- bags

pub same_bag : {T : Type 0} (xs ys : List T) → xs ≡ ys → IsPermutation ys xs
same_bag xs ys e = IsPermutation-same ys xs (sym e)

-- ---- what is taken out

module _ {T R : Type 0} (elements : R → List T) (old new : R) where
  pub takes_one : (test : T → Bool) (r : Option T) → IfSome r (λ x. IsPermutation (elements old) (x ∷ elements new)) → IfSome r (λ x. test x ≡ true)
      → IfNone r (NoneSelected test (elements old)) → IfNone r (new ≡ old) → TakesOne test (elements old) r (elements new)
  takes_one test None bag passes none kept = (none, IsPermutation-same (elements old) (elements new) (sym (ap elements kept)))
  takes_one test (Some x) bag passes none kept = (passes, bag)

module _ {T : Type 0} (test : T → Bool) where
  filter_every : (ts : List T) → AllByRecursion (λ t. test t ≡ true) ts → filter test ts ≡ ts
  filter_every [] h = refl
  filter_every (t ∷ ts) h = rw h.0 (ap (λ l. t ∷ l) (filter_every ts h.1))

-- what went to an empty list with room for n, or for all of a shorter list, where what is left has none if fewer went; by the names of its caller
pub gathered_some : {T : Type 0} (test : T → Bool) (most room size : ℕ) (old held new held' items : List T) → held ≡ [] → room ≡ min most size → size ≡ length old
    → Gathers test room old held new held' → (length held' < room → NoneSelected test new) → items ≡ held' → TakesSome test most old items new
gathered_some test most room size old held new held' items none is_room is_size moved ended same =
    let more = moved.more in
    let all : held' ≡ more = moved.held_more ∙ ap (λ l. l ++ more) none in
    let long = ap length all in
    let empty = ap length none in
    let few = moved.few (omega (arith, empty)) in
    let whole : length old ≡ length more + length new = sym (length_permutation _ _ moved.bag) ∙ length-append more new in
    -- so many as were selected of the old list: those taken, and those that are left
    let counted : length (filter test old) ≡ length more + length (filter test new) =
    sym (length_permutation _ _ (filter-along test old (more ++ new) moved.bag)) ∙ ap length (filter-append test more new ∙ ap (λ l. l ++ filter test new) (filter_every test more moved.selected)) ∙ length-append more (filter test new) in
    let shorter : length (filter test new) ≤ length new = rw (length-filter test new) (count_by-le-length test new) in
    subst (λ l. TakesSome test most old l new) (sym (same ∙ all)) (record {
      bag = moved.bag;
      selected = moved.selected;
      count = elim (cases_lt (length held') room) [
        | inl less ↦ let nothing = ap length (filter_nothing test new (ended less)) in omega (arith, less, nothing, few, counted, long, is_room, is_size)
        | inr full ↦ omega (arith, full, few, counted, whole, shorter, long, is_room, is_size)
      ];
    })

-- ---- pairs

product-along : {A B : Type 0} (xs : List A) (ys zs : List B) → IsPermutation ys zs → IsPermutation (product xs ys) (product xs zs)
product-along [] ys zs h = IsPermutation-refl []
product-along (x ∷ xs) ys zs h = IsPermutation-append _ _ _ _ (IsPermutation-map (λ y. (x, y)) ys zs h) (product-along xs ys zs h)

pub join-along : {T E U F : Type 0} (meets : E → F → Bool) (left_box : T → E) (right_box : U → F) (ts : List T) (us vs : List U) → IsPermutation us vs
    → IsPermutation (join meets left_box right_box ts us) (join meets left_box right_box ts vs)
join-along meets left_box right_box ts us vs h = filter-along (λ p. meets (left_box p.0) (right_box p.1)) (product ts us) (product ts vs) (product-along ts us vs h)

-- ---- steps

-- only an insertion is one too many
insertion_alone : {T E P S X : Type 0} (q : Questions T E P S) (compare : T → T → Ordering) (old new : List T) (c : Command T E P S X) → StepByOrder q compare old c reply.TooMany new → IsInsertion c
insertion_alone q compare old new (command.Insert t) step = tt
insertion_alone q compare old new c step = absurd step

-- only a removal is answered by what was found
pub no_removal : {T E P S X : Type 0} (q : Questions T E P S) (compare : T → T → Ordering) (old new : List T) (c : Command T E P S X) (r : Reply T E P S X) (A : Type 0)
    → (StepByOrder q compare old c (reply.Taken None) new → ⊥) → StepByOrder q compare old c r new → r ≡ reply.Taken None → A
no_removal q compare old new c r A never step is = absurd (never (subst (λ s. StepByOrder q compare old c s new) is step))

-- what a removal leaves where it finds none
pub none_taken : {T E P S X : Type 0} (r : Option T) (kept : Type 0) → IfNone r kept → (s : Reply T E P S X) → s ≡ reply.Taken r → s ≡ reply.Taken None → kept
none_taken None kept is s taken none = is
none_taken (Some x) kept is s taken none = absurd (cc (taken, none))

module _ {T D E P S X : Type 0} (v : Boxes E) (o : Objects T E) (max reinserted : ℕ) (q : Questions T E P S) (compare : T → T → Ordering) where
  -- what a command other than an insertion does, where a refusal leaves the very tree
  pub one_step : (old new : RTree T D E P S X) (c : Command T E P S X) (r : Reply T E P S X) → (IsInsertion c → ⊥) → StepByOrder q compare (elements_in old) c r (elements_in new) → IsWholeTree v o max new
      → (IsQuestion c → new ≡ old) → (r ≡ reply.Taken None → new ≡ old) → (IsRefusal r → new ≡ old) → StepOfTree v o max reinserted (StepByOrder q compare) old c r new
  one_step old new c r other step whole asked missed kept = record {
    answered = step;
    whole = whole;
    asked = asked;
    missed = missed;
    refused = λ is. subst (λ (tree : RTree T D E P S X). IsUnchanged old tree) (sym (kept is)) (record { shown = refl; size = refl; elements = refl; envelopes = refl });
    too_many = (λ is. absurd (other (insertion_alone q compare (elements_in old) (elements_in new) c (subst (λ s. StepByOrder q compare (elements_in old) c s (elements_in new)) is step))), λ both. absurd (other both.0));
  }

-- ---- runs

none_left : {A : Type 0} (xs ys all : List A) → xs ++ ys ≡ all → length ys ≡ 0 → xs ≡ all
none_left xs ys all are none = grind (arith, common_steps)

module _ {A C R : Type 0} (step : A → C → R → A → Type 0) where
  abbrev Runs : A → List C → List R → A → Type 0
  Runs = RunBy (λ old new. new ≡ old) step

  -- whatever follows, the run goes on to it from here
  abbrev pub RunsTo : A → List C → List R → A → Type 0
  RunsTo old cs rs mid = (more : List C) (answers : List R) (last : A) → Runs mid more answers last → Runs old (cs ++ more) (rs ++ answers) last

  -- one step more
  pub run_more : (old mid new : A) (cs : List C) (rs : List R) (c : C) (r : R) → RunsTo old cs rs mid → step mid c r new → RunsTo old (cs ++ c ∷ []) (rs ++ r ∷ []) new
  run_more old mid new cs rs c r runs one = λ more answers last run. rw (append_assoc cs (c ∷ []) more, append_assoc rs (r ∷ []) answers) (runs (c ∷ more) (r ∷ answers) last (new, one, run))

  -- at the end, where commands come from a list of which none is left
  pub run_whole : (old new : A) (cs rest all : List C) (rs : List R) → cs ++ rest ≡ all → length rest ≡ 0 → RunsTo old cs rs new → Runs old all rs new
  run_whole old new cs rest all rs are none runs = rw (append-nil cs, append-nil rs, none_left cs rest all are none) at (runs [] [] new refl)

-- a run by such steps is one by steps of another kind over what a state shows, where each of them is one
pub run_shown : {A B C R : Type 0} (show : A → B) (same : A → A → Type 0) (alike : B → B → Type 0) (step : A → C → R → A → Type 0) (other : B → C → R → B → Type 0)
    → ((old new : A) → same old new → alike (show old) (show new)) → ((old : A) (c : C) (r : R) (new : A) → step old c r new → other (show old) c r (show new))
    → (old : A) (cs : List C) (rs : List R) (new : A) → RunBy same step old cs rs new → RunBy alike other (show old) cs rs (show new)
run_shown show same alike step other none each old [] [] new run = none old new run
run_shown show same alike step other none each old (c ∷ cs) (r ∷ rs) new run =
    (show run.0, each old c r run.0 run.1, run_shown show same alike step other none each run.0 cs rs new run.2)
run_shown show same alike step other none each old [] (r ∷ rs) new run = run
run_shown show same alike step other none each old (c ∷ cs) [] new run = run

-- ---- trees

-- what a run does to a tree, over the list of its elements
pub run_listed : {T D E P S X : Type 0} (v : Boxes E) (o : Objects T E) (max reinserted : ℕ) (step : List T → Command T E P S X → Reply T E P S X → List T → Type 0)
    (old : RTree T D E P S X) (cs : List (Command T E P S X)) (rs : List (Reply T E P S X)) (new : RTree T D E P S X)
    → RunOfTree v o max reinserted step old cs rs new → RunBy IsPermutation step (elements_in old) cs rs (elements_in new)
run_listed {T} {D} {E} {P} {S} {X} v o max reinserted step =
    run_shown elements_in (λ (old new : RTree T D E P S X). new ≡ old) IsPermutation (StepOfTree v o max reinserted step) step
    (λ old new same. IsPermutation-same (elements_in old) (elements_in new) (sym (ap elements_in same))) (λ old c r new one. one.answered)
