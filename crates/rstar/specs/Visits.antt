-- What a visitor is called with.
use Rattle.std.specs.Prelude.{◌≡◌, ◌<◌, Bool, true, false, if◌then◌else◌, List, [], ◌∷◌, ◌++◌, map, ◌⊎◌, Option, Some, None}
use Rattle.std.specs.Borrow.{Bor, MutBor}
use Rattle.std.specs.List.{Contains, AllByRecursion, flat_map}
use Rattle.std.specs.declared.ops.ControlFlow.{ControlFlow}
use Rattle.std.specs.declared.ops.ControlFlow.TheVariants.{Continue, Break}
use Rattle.rstar_base.specs.Elements.{Objects}
use Rattle.rstar.specs.declared.node.RTreeNode.{RTreeNode}
use Rattle.rstar.specs.declared.node.ParentNode.{ParentNode}
use Rattle.rstar.specs.declared.visits.Look.{Look}
use Rattle.rstar.specs.declared.visits.Look.TheVariants.{End, Give, Pass, Open}
use Rattle.rstar.specs.Nodes.{fold_tree, joined, total, all_given, children_of, envelope_of}
use Rattle.rstar.specs.Changes.{KeepsBox}
use Rattle.rstar.specs.Selections.{IsPartOf}
use Rattle.rstar.specs.inside.Traversals.{steps}

-- ---- look-ups

-- the first item of a list; `None` only where there is none
abbrev pub IsFirst : {T : Type 0} → List T → Option (Bor T) → Type 0
IsFirst xs None = xs ≡ []
IsFirst {T} xs (Some x) = (rest : List T) × (xs ≡ x.now ∷ rest)

-- an item of a list; `None` only where there is none
abbrev pub IsOneOf : {T : Type 0} → List T → Option (Bor T) → Type 0
IsOneOf xs None = xs ≡ []
IsOneOf xs (Some x) = Contains xs x.now

-- ---- visits

-- the visitor was called at the items in order, each call in the state that the one before left, until a call broke;
-- the break is the answer
abbrev pub Visits : {V A T B : Type 0} → (A → T) → (V → A → ControlFlow B (Unit {0}) → V → Type 0)
    → V → List T → ControlFlow B (Unit {0}) → V → Type 0
Visits now step v [] r w = (r ≡ Continue tt) × (v ≡ w)
Visits {V} {A} {T} {B} now step v (t ∷ ts) r w =
    ((x : A) × (b : B) × (now x ≡ t) × (r ≡ Break b) × step v x (Break b) w)
    ⊎ ((x : A) × (u : V) × (now x ≡ t) × step v x (Continue tt) u × Visits now step u ts r w)

-- such a visit, whatever state it leaves
pub record IsVisit {V A T B : Type 0} (now : A → T) (step : V → A → ControlFlow B (Unit {0}) → V → Type 0)
    (first : V) (xs : List T) (r : ControlFlow B (Unit {0})) : Type 0 where
  pub last : V
  pub visits : Visits now step first xs r last

-- a visit of some of the items, each at most once, and of all of them where the condition `all` holds
pub record VisitsWithin {V A T B : Type 0} (now : A → T) (step : V → A → ControlFlow B (Unit {0}) → V → Type 0)
    (all : Type 0) (first : V) (xs : List T) (r : ControlFlow B (Unit {0})) (last : V) : Type 0 where
  pub visited : List T
  pub part : IsPartOf visited xs
  pub complete : all → visited ≡ xs
  pub visits : Visits now step first visited r last

-- such a visit, whatever state it leaves
pub record IsVisitWithin {V A T B : Type 0} (now : A → T) (step : V → A → ControlFlow B (Unit {0}) → V → Type 0)
    (all : Type 0) (first : V) (xs : List T) (r : ControlFlow B (Unit {0})) : Type 0 where
  pub last : V
  pub within : VisitsWithin now step all first xs r last

-- ---- visits that write

-- an element, and whether the visitor is called at it
abbrev pub Marked : Type 0 → Type 0
Marked T = T × Bool

-- the elements, each marked where it passes the test
abbrev pub marked_by : {T : Type 0} → (T → Bool) → List T → List (Marked T)
marked_by selects ts = map (λ t. (t, selects t)) ts

-- the same elements, none of them marked
abbrev pub unmarked : {T : Type 0} → List (Marked T) → List (Marked T)
unmarked ms = map (λ m. (m.0, false)) ms

-- the elements alone
abbrev pub without_marks : {T : Type 0} → List (Marked T) → List T
without_marks ms = map (λ m. m.0) ms

-- a visit of the marked elements that writes: `us` are the elements, each visited one replaced by what its call left
abbrev pub Writes : {V T B : Type 0} → (V → MutBor T → ControlFlow B (Unit {0}) → MutBor T → V → Type 0)
    → V → List (Marked T) → ControlFlow B (Unit {0}) → V → List T → Type 0
Writes step v [] r w us = (r ≡ Continue tt) × (v ≡ w) × (us ≡ [])
Writes {V} {T} {B} step v ((t, false) ∷ ms) r w us = (rest : List T) × (us ≡ t ∷ rest) × Writes step v ms r w rest
Writes {V} {T} {B} step v ((t, true) ∷ ms) r w us =
    ((x : MutBor T) × (y : MutBor T) × (b : B) × (x.now ≡ t) × (r ≡ Break b) × step v x (Break b) y w
    × (us ≡ y.now ∷ without_marks ms))
    ⊎ ((x : MutBor T) × (y : MutBor T) × (u : V) × (rest : List T) × (x.now ≡ t) × step v x (Continue tt) y u
    × (us ≡ y.now ∷ rest) × Writes step u ms r w rest)

-- such a visit, whatever state it leaves
pub record IsWritten {V T B : Type 0} (step : V → MutBor T → ControlFlow B (Unit {0}) → MutBor T → V → Type 0)
    (first : V) (ms : List (Marked T)) (r : ControlFlow B (Unit {0})) (us : List T) : Type 0 where
  pub last : V
  pub writes : Writes step first ms r last us

-- a visit that writes some of the selected elements, and all of them where the condition `all` holds
pub record WritesWithin {V T B : Type 0} (step : V → MutBor T → ControlFlow B (Unit {0}) → MutBor T → V → Type 0)
    (all : Type 0) (first : V) (selects : T → Bool) (ts : List T) (r : ControlFlow B (Unit {0})) (us : List T) (last : V)
    : Type 0 where
  pub marks : List (Marked T)
  pub same : without_marks marks ≡ ts
  pub selected : AllByRecursion (λ m. m.1 ≡ true → selects m.0 ≡ true) marks
  pub complete : all → marks ≡ marked_by selects ts
  pub writes : Writes step first marks r last us

-- such a visit, whatever state it leaves
pub record IsWrittenWithin {V T B : Type 0} (step : V → MutBor T → ControlFlow B (Unit {0}) → MutBor T → V → Type 0)
    (all : Type 0) (first : V) (selects : T → Bool) (ts : List T) (r : ControlFlow B (Unit {0})) (us : List T)
    : Type 0 where
  pub last : V
  pub within : WritesWithin step all first selects ts r us last

-- each call of the visitor keeps the envelope of the element, and a value stays one
abbrev pub KeepsBoxes : {V T E B : Type 0} → Objects T E
    → (V → MutBor T → ControlFlow B (Unit {0}) → MutBor T → V → Type 0) → Type 0
KeepsBoxes {V} {T} {E} {B} o step = (v : V) (x : MutBor T) (r : ControlFlow B (Unit {0})) (y : MutBor T) (w : V)
    → step v x r y w → KeepsBox o x.now y.now

-- the elements below a node, each marked where a walk below the accepted parents comes to it and selects it
unfoldable pub marked : {T E : Type 0} → (E → Bool) → (T → Bool) → RTreeNode T E → List (Marked T)
marked accepts selects n = fold_tree (λ t. (t, selects t) ∷ [])
    (λ e below. if accepts e then joined below else unmarked (joined below)) n

abbrev pub all_marked : {T E : Type 0} → (E → Bool) → (T → Bool) → List (RTreeNode T E)
    → List (Marked T)
all_marked accepts selects ns = flat_map (marked accepts selects) ns

-- the same below a root
abbrev pub marked_of : {T E : Type 0} → (E → Bool) → (T → Bool) → ParentNode T E → List (Marked T)
marked_of accepts selects root =
    if accepts (envelope_of root) then all_marked accepts selects (children_of root)
    else unmarked (all_marked accepts selects (children_of root))

-- ---- the first of some nodes

-- what a walk does there, by what the nodes give
abbrev pub IsLook : {T E L N : Type 0} → (E → Bool) → (T → Bool) → (N → List (RTreeNode T E)) → (L → T)
    → N → Look L N → Type 0
IsLook accepts selects nodes element n End = nodes n ≡ []
IsLook accepts selects nodes element n (Give leaf rest) =
    (all_given accepts selects (nodes n) ≡ element leaf ∷ all_given accepts selects (nodes rest))
    × (total (map steps (nodes rest)) < total (map steps (nodes n)))
IsLook accepts selects nodes element n (Pass rest) =
    (all_given accepts selects (nodes n) ≡ all_given accepts selects (nodes rest))
    × (total (map steps (nodes rest)) < total (map steps (nodes n)))
IsLook accepts selects nodes element n (Open below rest) =
    (all_given accepts selects (nodes n)
    ≡ all_given accepts selects (nodes below) ++ all_given accepts selects (nodes rest))
    × (total (map steps (nodes rest)) < total (map steps (nodes n)))
    × (total (map steps (nodes below)) < total (map steps (nodes n)))
