-- What a command may be answered, and which elements it leaves, over lists alone: no node, path or bound of a tree. The
-- lists are bags: every order of the elements is right.
-- T is the element's type, E its envelope's, P its point's, S its scalar's, X what a scalar's text is refused with.
use Rattle.std.specs.Prelude.{◌≡◌, ◌≤◌, ℕ, ℤ, Bool, true, false, pos, int_le, min, map, filter, length, take, List, [], ◌∷◌, ◌++◌, Option, Some, None, ⊤}
use Rattle.std.specs.List.{AllByRecursion, list_any}
use Rattle.std.specs.List.Sorted.{IsPermutation}
use Rattle.std.specs.declared.cmp.Ordering.{Ordering}
use Rattle.rstar_base.specs.Envelopes.{Boxes}
use Rattle.rstar_base.specs.Elements.{Objects, Distances}
use Rattle.rstar_base.specs.Points.{table}
use Rattle.rstar.specs.declared.replay.Query.{Query}
use Rattle.rstar.specs.declared.replay.Query.TheVariants as query
use Rattle.rstar.specs.declared.replay.Command.{Command}
use Rattle.rstar.specs.declared.replay.Command.TheVariants as command
use Rattle.rstar.specs.declared.replay.Reply.{Reply}
use Rattle.rstar.specs.declared.replay.Reply.TheVariants as reply
use Rattle.rstar.specs.Lists.{product, NoneSelected, NoneEmpty, AreOrdered, IsLeast, IsNoFarther, IsNotLater}

-- what a scan asks of elements, envelopes, points and scalars. Distances are squared.
pub record Questions (T E P S : Type 0) : Type 0 where
  pub box_of : T → E
  pub is_empty : E → Bool
  pub contains : E → E → Bool
  pub intersects : E → E → Bool
  pub contains_point : T → P → Bool
  pub distance_2 : T → P → ℕ
  pub value : S → ℤ
  pub equal : T → T → Bool

-- these questions, answered by the types of a tree
abbrev pub questions_of : {T E P S : Type 0}
    → Boxes E → Objects T E → Distances T → ℕ → (P → ℕ → ℤ) → (S → ℤ) → (T → T → Bool) → Questions T E P S
questions_of v o d axes coord value equal = record {
  box_of = o.box_of;
  is_empty = v.is_empty;
  contains = v.contains;
  intersects = v.intersects;
  contains_point = λ t p. d.contains_point t (table axes (coord p));
  distance_2 = λ t p. d.distance_2 t (table axes (coord p));
  value = value;
  equal = equal;
}

-- ---- what is taken out of a list, and what is found in it

-- one element that passes a test is removed; `None` only where none passes
abbrev pub TakesOne : {T : Type 0} → (T → Bool) → List T → Option T → List T → Type 0
TakesOne test old None new = NoneSelected test old × IsPermutation old new
TakesOne test old (Some x) new = (test x ≡ true) × IsPermutation old (x ∷ new)

-- a least element in an order is removed; `None` only from the empty list
abbrev pub TakesFirst : {T : Type 0} → (T → T → Type 0) → List T → Option T → List T → Type 0
TakesFirst before old None new = (old ≡ []) × IsPermutation old new
TakesFirst before old (Some x) new = IsLeast before old x × IsPermutation old (x ∷ new)

-- n elements that pass a test are removed, or all of them where there are fewer
pub record TakesSome {T : Type 0} (test : T → Bool) (n : ℕ) (old taken new : List T) : Type 0 where
  pub bag : IsPermutation old (taken ++ new)
  pub selected : AllByRecursion (λ x. test x ≡ true) taken
  pub count : length taken ≡ min n (length (filter test old))

-- a least element in an order, with its distance; `None` only for the empty list
abbrev pub IsFirstWith : {T S : Type 0} → (T → T → Type 0) → (T → ℕ) → (S → ℤ) → List T → Option (T × S) → Type 0
IsFirstWith before distance value ts None = ts ≡ []
IsFirstWith before distance value ts (Some n) = IsLeast before ts n.0 × (value n.1 ≡ pos (distance n.0))

-- the first k elements in an order, each with its distance; all where there are fewer
pub record AreFirstWith {T S : Type 0} (before : T → T → Type 0) (distance : T → ℕ) (value : S → ℤ) (k : ℕ)
    (ts : List T) (ns : List (T × S)) : Type 0 where
  pub order : List T
  pub bag : IsPermutation ts order
  pub rising : AreOrdered before order
  pub first : map (λ n. n.0) ns ≡ take k order
  pub distances : AllByRecursion (λ n. value n.1 ≡ pos (distance n.0)) ns

-- ---- commands and replies

-- a run: commands and their replies, step by step, from the first state, a list or a tree, to one that is the same as the last
abbrev pub RunBy : {A C R : Type 0} → (A → A → Type 0) → (A → C → R → A → Type 0) → A → List C → List R → A → Type 0
RunBy same step old [] [] new = same old new
RunBy {A} same step old (c ∷ cs) (r ∷ rs) new = (mid : A) × step old c r mid × RunBy same step mid cs rs new
RunBy same step old [] (r ∷ rs) new = ⊥
RunBy same step old (c ∷ cs) [] new = ⊥

module _ {T E P S X : Type 0} (q : Questions T E P S) where
  -- whether a query selects an element
  abbrev pub selects : Query T E P S X → T → Bool
  selects query.All t = true
  selects (query.In e) t = q.contains e (q.box_of t)
  selects (query.Hit e) t = q.intersects e (q.box_of t)
  selects (query.At p) t = q.contains_point t p
  selects (query.Within p s) t = int_le (pos (q.distance_2 t p)) (q.value s)

  -- a command on a list may have this reply, and leaves that list. Lists are bags; any choice of a scan is right.
  -- At a point p, `before p t u` says that t may stand before u.
  abbrev pub StepBy : (P → T → T → Type 0) → List T → Command T E P S X → Reply T E P S X → List T → Type 0
  StepBy before old (command.Load list) reply.Done new = IsPermutation list.items new
  StepBy before old (command.Insert t) reply.Done new = IsPermutation (t ∷ old) new
  StepBy before old (command.Remove t) (reply.Taken found) new = TakesOne (λ x. q.equal x t) old found new
  StepBy before old (command.RemoveAtPoint p) (reply.Taken found) new = TakesOne (λ x. q.contains_point x p) old found new
  StepBy before old (command.PopNearest p) (reply.Taken found) new = TakesFirst (before p) old found new
  StepBy before old (command.Drain asked n) (reply.Elements xs) new = TakesSome (selects asked) n old xs.items new
  StepBy before old (command.Ask asked) (reply.Elements xs) new =
      IsPermutation (filter (selects asked) old) xs.items × IsPermutation old new
  StepBy before old (command.Contains t) (reply.Has found) new =
      (found ≡ list_any (λ x. q.equal x t) old) × IsPermutation old new
  StepBy before old (command.Nearest p) (reply.Nearest found) new =
      IsFirstWith (before p) (λ x. q.distance_2 x p) q.value old found × IsPermutation old new
  StepBy before old (command.Neighbours p k) (reply.Neighbours ns) new =
      AreFirstWith (before p) (λ x. q.distance_2 x p) q.value k old ns.items × IsPermutation old new
  StepBy before old (command.Join list) (reply.Pairs ps) new =
      IsPermutation (filter (λ pair. q.intersects (q.box_of pair.0) (q.box_of pair.1)) (product old list.items)) ps.items
      × IsPermutation old new
  -- the commands that count or take memory can be refused, and leave the bag
  StepBy before old (command.Insert t) reply.TooMany new = IsPermutation old new
  StepBy before old (command.Load list) reply.NoMemory new = IsPermutation old new
  StepBy before old (command.Insert t) reply.NoMemory new = IsPermutation old new
  StepBy before old (command.PopNearest p) reply.NoMemory new = IsPermutation old new
  StepBy before old (command.Drain asked n) reply.NoMemory new = IsPermutation old new
  StepBy before old (command.Ask asked) reply.NoMemory new = IsPermutation old new
  StepBy before old (command.Nearest p) reply.NoMemory new = IsPermutation old new
  StepBy before old (command.Neighbours p k) reply.NoMemory new = IsPermutation old new
  StepBy before old (command.Join list) reply.NoMemory new = IsPermutation old new
  -- no other reply is given
  StepBy before old _ _ new = ⊥

  -- the first reading: neighbours by distance
  abbrev pub Step : List T → Command T E P S X → Reply T E P S X → List T → Type 0
  Step = StepBy (λ p. IsNoFarther (λ x. q.distance_2 x p))

  -- the second reading: neighbours in the stated order, by distance and then by the elements' own order, `compare`
  abbrev pub StepByOrder : (T → T → Ordering) → List T → Command T E P S X → Reply T E P S X → List T → Type 0
  StepByOrder compare = StepBy (λ p. IsNotLater (λ x. q.distance_2 x p) compare)

  -- a run by `Step`
  abbrev pub Run : List T → List (Command T E P S X) → List (Reply T E P S X) → List T → Type 0
  Run = RunBy IsPermutation Step

  -- a run by `StepByOrder`
  abbrev pub RunByOrder : (T → T → Ordering) → List T → List (Command T E P S X) → List (Reply T E P S X) → List T → Type 0
  RunByOrder compare = RunBy IsPermutation (StepByOrder compare)

  -- a command that may be run: no element in it has an empty envelope, and the points of a load or a join have at
  -- least two axes
  abbrev pub IsFit : ℕ → Command T E P S X → Type 0
  IsFit dimensions (command.Load list) = (2 ≤ dimensions) × NoneEmpty q.is_empty q.box_of list.items
  IsFit dimensions (command.Insert t) = q.is_empty (q.box_of t) ≡ false
  IsFit dimensions (command.Join list) = (2 ≤ dimensions) × NoneEmpty q.is_empty q.box_of list.items
  IsFit dimensions _ = ⊤

-- a command that is an insertion
abbrev pub IsInsertion : {T E P S X : Type 0} → Command T E P S X → Type 0
IsInsertion (command.Insert t) = ⊤
IsInsertion _ = ⊥

-- a command that asks
abbrev pub IsQuestion : {T E P S X : Type 0} → Command T E P S X → Type 0
IsQuestion (command.Ask asked) = ⊤
IsQuestion (command.Contains t) = ⊤
IsQuestion (command.Nearest p) = ⊤
IsQuestion (command.Neighbours p k) = ⊤
IsQuestion (command.Join list) = ⊤
IsQuestion _ = ⊥

-- a reply that is a refusal: `NoMemory` or `TooMany`
abbrev pub IsRefusal : {T E P S X : Type 0} → Reply T E P S X → Type 0
IsRefusal reply.NoMemory = ⊤
IsRefusal reply.TooMany = ⊤
IsRefusal _ = ⊥
