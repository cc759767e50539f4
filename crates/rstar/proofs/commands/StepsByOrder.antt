-- What is first in an order is first in one that asks less: so each step by the stated order is one by distance.
use Rattle.std.proofs.Common.{◌≡◌, ℕ, ℤ, List, Option, Some, None}
use Rattle.std.specs.declared.cmp.Ordering.{Ordering}
use Rattle.rstar_base.specs.Envelopes.{Boxes}
use Rattle.rstar_base.specs.Elements.{Objects}
use Rattle.rstar_base.proofs.Lists.{all_map}
use Rattle.rstar.specs.declared.replay.Command.{Command}
use Rattle.rstar.specs.declared.replay.Command.TheVariants as command
use Rattle.rstar.specs.declared.replay.Reply.{Reply}
use Rattle.rstar.specs.declared.replay.Reply.TheVariants as reply
use Rattle.rstar.specs.declared.rtree.RTree.{RTree}
use Rattle.rstar.specs.Lists.{IsLeast, IsNoFarther, IsNotLater}
use Rattle.rstar.specs.Steps.{Questions, TakesFirst, IsFirstWith, AreFirstWith, StepBy, StepByOrder, Step}
use Rattle.rstar.specs.StepsOfTrees.{StepOfTree, RunOfTree}
use Rattle.rstar.specs.Trees.{elements_in}
use Rattle.rstar.proofs.searching.ByOrder.{no-nearer}
use Rattle.rstar.proofs.searching.InOrder.{ordered-by}
use Rattle.rstar.proofs.commands.Replays.{run_shown}

-- ---- an order that is finer than another

module _ {T : Type 0} (fine coarse : T → T → Type 0) (weaker : (t u : T) → fine t u → coarse t u) where
  first-coarser : (all : List T) (t : T) → IsLeast fine all t → IsLeast coarse all t
  first-coarser all t h = record { member = h.member; least = all_map (fine t) (coarse t) (weaker t) all h.least }

  taken-coarser : (old : List T) (found : Option T) (new : List T) → TakesFirst fine old found new → TakesFirst coarse old found new
  taken-coarser old None new h = h
  taken-coarser old (Some x) new h = (first-coarser old x h.0, h.1)

  module _ {S : Type 0} (distance : T → ℕ) (value : S → ℤ) where
    one-coarser : (ts : List T) (found : Option (T × S)) → IsFirstWith fine distance value ts found → IsFirstWith coarse distance value ts found
    one-coarser ts None h = h
    one-coarser ts (Some n) h = (first-coarser ts n.0 h.0, h.1)

    some-coarser : (k : ℕ) (ts : List T) (ns : List (T × S)) → AreFirstWith fine distance value k ts ns → AreFirstWith coarse distance value k ts ns
    some-coarser k ts ns h = record { order = h.order; bag = h.bag; rising = ordered-by fine coarse weaker h.order h.rising; first = h.first; distances = h.distances }

-- ---- steps and runs

module _ {T E P S X : Type 0} (q : Questions T E P S) (fine coarse : P → T → T → Type 0) (weaker : (p : P) (t u : T) → fine p t u → coarse p t u) where
  step-coarser : (old : List T) (c : Command T E P S X) (r : Reply T E P S X) (new : List T) → StepBy q fine old c r new → StepBy q coarse old c r new
  step-coarser old (command.PopNearest p) (reply.Taken found) new h = taken-coarser (fine p) (coarse p) (weaker p) old found new h
  step-coarser old (command.Nearest p) (reply.Nearest found) new h = (one-coarser (fine p) (coarse p) (weaker p) (λ x. q.distance_2 x p) q.value old found h.0, h.1)
  step-coarser old (command.Neighbours p k) (reply.Neighbours ns) new h = (some-coarser (fine p) (coarse p) (weaker p) (λ x. q.distance_2 x p) q.value k old ns.items h.0, h.1)
  step-coarser old c r new h = h

module _ {T E P S X : Type 0} (q : Questions T E P S) (compare : T → T → Ordering) where
  pub first_reading : (old : List T) (c : Command T E P S X) (r : Reply T E P S X) (new : List T) → StepByOrder q compare old c r new → Step q old c r new
  first_reading = step-coarser q (λ p. IsNotLater (λ x. q.distance_2 x p) compare) (λ p. IsNoFarther (λ x. q.distance_2 x p)) (λ p. no-nearer (λ x. q.distance_2 x p) compare)

  module _ {D : Type 0} (v : Boxes E) (o : Objects T E) (max reinserted : ℕ) where
    pub first_reading-trees : (old : RTree T D E P S X) (cs : List (Command T E P S X)) (rs : List (Reply T E P S X)) (new : RTree T D E P S X)
        → RunOfTree v o max reinserted (StepByOrder q compare) old cs rs new → RunOfTree v o max reinserted (Step q) old cs rs new
    first_reading-trees = run_shown (λ tree. tree) (λ old new. new ≡ old) (λ old new. new ≡ old) (StepOfTree v o max reinserted (StepByOrder q compare)) (StepOfTree v o max reinserted (Step q)) (λ old new same. same)
        (λ old c r new h. record { answered = first_reading (elements_in old) c r (elements_in new) h.answered; whole = h.whole; asked = h.asked; missed = h.missed; refused = h.refused; too_many = h.too_many })
