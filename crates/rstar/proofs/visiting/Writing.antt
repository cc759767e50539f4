-- Visits that write, one part of a list after another.
use Rattle.std.proofs.Common.{◌≡◌, ◌<◌, ℕ, ℤ, suc, zero, ◌+◌, ◌-◌, ◌≤◌, ◌∙◌, List, [], ◌∷◌, ◌++◌, ◌⊎◌, inl, inr, ap, subst, sym, refl, Bool, true, false, if◌then◌else◌, map, arith, length, take, drop, slice_set, slice_index_or, append-nil, add-one, length-drop, drop-cons, Vec}
use Rattle.std.proofs.lemmas.Bool.{cases_Bool}
use Rattle.std.proofs.lemmas.List.{map-append, with_items_is, take-append-drop, take_more, take_more_set, take_all, drop-set-lt}
use Rattle.std.proofs.lemmas.List.Concat.{flat_map-append}
use Rattle.std.specs.Vec.{with_items}
use Rattle.std.specs.List.{AllZip, flat_map}
use Rattle.std.specs.Borrow.{MutBor}
use Rattle.std.specs.declared.alloc.Global.{Global}
use Rattle.std.specs.declared.ops.ControlFlow.{ControlFlow}
use Rattle.std.specs.declared.ops.ControlFlow.TheVariants.{Continue, Break}
use Rattle.rstar_base.specs.Envelopes.{Boxes, EnvelopeLaws}
use Rattle.rstar_base.specs.Elements.{Objects, ObjectLaws}
use Rattle.rstar_base.specs.Selections.{IsLawful}
use Rattle.rstar.specs.declared.node.RTreeNode.{RTreeNode, Leaf, Parent}
use Rattle.rstar.specs.declared.node.ParentNode.{ParentNode}
use Rattle.rstar.specs.Nodes.{total, children_of, elements, all_elements, elements_of, IsTree, IsWhole}
use Rattle.rstar.specs.Shapes.{IsAny, AreTrees}
use Rattle.rstar.specs.Changes.{KeepsBox, IsChanged}
use Rattle.rstar.specs.Visits.{Marked, marked_by, unmarked, without_marks, Writes, IsWritten, WritesWithin, IsWrittenWithin, KeepsBoxes, marked, all_marked, marked_of}
use Rattle.rstar.specs.inside.Traversals.{steps}
use Rattle.rstar.proofs.lists.Items.{all_get}
use Rattle.rstar.proofs.visiting.Changes.{AllZip-set, changed-Leaf, changed-Parent, changed-refl}
use Rattle.rstar.proofs.visiting.VisitedMarks.{all-marks, marks-root, marked-root, marked-Leaf, marked-Parent}
use Rattle.rstar.proofs.trees.ByChildren.{elements-Leaf, elements-Parent, no_leaf, no_parent, parent_of}

-- ---- a writing visit, one part of a list after another

abbrev pub Step : Type 0 → Type 0 → Type 0 → Type 1
Step V T B = V → MutBor T → ControlFlow B (Unit {0}) → MutBor T → V → Type 0

pub Writes-append : {V T B : Type 0} (step : Step V T B) (v u : V) (ms ns : List (Marked T)) (us ws : List T) (r : ControlFlow B (Unit {0})) (w : V) →
    Writes step v ms (Continue tt) u us → Writes step u ns r w ws → Writes step v (ms ++ ns) r w (us ++ ws)
Writes-append step v u [] ns us ws r w a b = subst (λ l. Writes step v ns r w (l ++ ws)) (sym a.2) (subst (λ s. Writes step s ns r w ws) (sym a.1) b)
Writes-append step v u ((t, false) ∷ ms) ns us ws r w a b = (a.0 ++ ws, ap (λ l. l ++ ws) a.1, Writes-append step v u ms ns a.0 ws r w a.2 b)
Writes-append step v u ((t, true) ∷ ms) ns us ws r w (inl a) b = cc a.4
Writes-append step v u ((t, true) ∷ ms) ns us ws r w (inr a) b = inr (a.0, a.1, a.2, a.3 ++ ws, a.4, a.5, ap (λ l. l ++ ws) a.6, Writes-append step a.2 u ms ns a.3 ws r w a.7 b)

pub Writes-break : {V T B : Type 0} (step : Step V T B) (v : V) (ms ns : List (Marked T)) (us : List T) (b : B) (w : V) →
    Writes step v ms (Break b) w us → Writes step v (ms ++ ns) (Break b) w (us ++ without_marks ns)
Writes-break step v [] ns us b w a = cc a.0
Writes-break step v ((t, false) ∷ ms) ns us b w a = (a.0 ++ without_marks ns, ap (λ l. l ++ without_marks ns) a.1, Writes-break step v ms ns a.0 b w a.2)
Writes-break step v ((t, true) ∷ ms) ns us b w (inl a) = inl (a.0, a.1, a.2, a.3, a.4, a.5, ap (λ l. l ++ without_marks ns) a.6 ∙ ap (λ l. a.1.now ∷ l) (sym (map-append (λ m. m.0) ms ns)))
Writes-break step v ((t, true) ∷ ms) ns us b w (inr a) = inr (a.0, a.1, a.2, a.3 ++ without_marks ns, a.4, a.5, ap (λ l. l ++ without_marks ns) a.6, Writes-break step a.2 ms ns a.3 b w a.7)

-- where no element is marked nothing happens
pub Writes-none : {V T B : Type 0} (step : Step V T B) (v : V) (ms : List (Marked T)) → Writes step v (unmarked ms) (Continue tt) v (without_marks ms)
Writes-none step v [] = (refl, refl, refl)
Writes-none step v (m ∷ ms) = (without_marks ms, refl, Writes-none step v ms)

-- ---- nodes, and what a visit leaves of them

steps-at : {T E : Type 0} (ns : List (RTreeNode T E)) (i : ℕ) (d : RTreeNode T E) → i < length ns → steps (slice_index_or ns i d) ≤ total (map steps ns)
steps-at [] i d lt = absurd (omega arith)
steps-at (n ∷ ns) zero d lt = omega arith
steps-at (n ∷ ns) (suc i) d lt = omega (arith, steps-at ns i d (omega arith))

module _ {V T E B : Type 0} (o : Objects T E) (accepts : E → Bool) (selects : T → Bool) (step : Step V T B) where
  -- a visit of a node, and of several
  abbrev pub WritesNode : V → RTreeNode T E → ControlFlow B (Unit {0}) → V → RTreeNode T E → Type 0
  WritesNode v n r w m = record {
    written : Writes step v (marked accepts selects n) r w (elements m);
    changed : KeepsBoxes o step → (h : ℕ) → IsTree IsAny IsAny h n → IsChanged (KeepsBox o) h n m;
  }

  abbrev pub WritesNodes : V → List (RTreeNode T E) → ControlFlow B (Unit {0}) → V → List (RTreeNode T E) → Type 0
  WritesNodes v old r w new = record {
    written : Writes step v (all_marked accepts selects old) r w (all_elements new);
    changed : KeepsBoxes o step → (h : ℕ) → AreTrees IsAny IsAny h old → AllZip (IsChanged (KeepsBox o) h) old new;
  }

  pub unchanged : (h : ℕ) (ns : List (RTreeNode T E)) → AreTrees IsAny IsAny h ns → AllZip (IsChanged (KeepsBox o) h) ns ns
  unchanged = changed-refl (KeepsBox o) (λ t. (refl, λ is. is)) IsAny IsAny

  -- ---- a root, or a parent

  -- nothing happens where a parent is refused, nor below one without children
  refused-writes : (v : V) (p : ParentNode T E) → accepts p.envelope ≡ false → Writes step v (marked_of accepts selects p) (Continue tt) v (all_elements (children_of p))
  refused-writes v p refused = rw (refused, ← all-marks accepts selects (children_of p)) (Writes-none step v (all_marked accepts selects (children_of p)))

  pub passed-writes : (v : V) (p : ParentNode T E) → (children_of p ≡ []) ⊎ (accepts p.envelope ≡ false) → Writes step v (marked_of accepts selects p) (Continue tt) v (all_elements (children_of p))
  passed-writes v p (inr refused) = refused-writes v p refused
  passed-writes v p (inl none) = elim (cases_Bool (accepts p.envelope)) [ inl is ↦ rw (is, none) (refl, refl, refl) | inr is ↦ refused-writes v p is ]

  -- what was lent of a child list, and written back to it
  pub refilled : (list : Vec (RTreeNode T E) Global) (lent new : List (RTreeNode T E)) (v : V) (r : ControlFlow B (Unit {0})) (w : V) → lent ≡ list.items → length new ≡ length lent
      → WritesNodes v lent r w new → WritesNodes v list.items r w (with_items list new).items
  refilled list lent new v r w same long visited = rw (with_items_is list new (long ∙ ap length same ∙ sym list.ok.0)) (rw same at visited)

  -- ---- one node

  abbrev pub leaf : T → RTreeNode T E
  leaf t = Leaf t

  leaf-changed : (t u : T) → KeepsBox o t u → (h : ℕ) → IsTree IsAny IsAny h (leaf t) → IsChanged (KeepsBox o) h (leaf t) (leaf u)
  leaf-changed t u k zero w = changed-Leaf E (KeepsBox o) t u k
  leaf-changed t u k (suc h) w = absurd (no_parent _ t w)

  pub leaf-called : (v : V) (t : T) (x y : MutBor T) (r : ControlFlow B (Unit {0})) (w : V) → x.now ≡ t → selects t ≡ true → step v x r y w → WritesNode v (leaf t) r w (leaf y.now)
  leaf-called v t x y r w from says s = record {
    written = rw (marked-Leaf, elements-Leaf, says) (either r s);
    changed = λ k. leaf-changed t y.now (rw from at (k v x r y w s));
  }
    where
      either : (r : ControlFlow B (Unit {0})) → step v x r y w → Writes step v ((t, true) ∷ []) r w (y.now ∷ [])
      either (Continue u) s = inr (x, y, w, [], from, s, refl, (refl, refl, refl))
      either (Break b) s = inl (x, y, b, from, refl, s, refl)

  pub leaf-passed : (v : V) (t : T) → selects t ≡ false → WritesNode v (leaf t) (Continue tt) v (leaf t)
  leaf-passed v t says = record {
    written = rw (marked-Leaf, elements-Leaf, says) ([], refl, (refl, refl, refl));
    changed = λ k. leaf-changed t t (refl, λ is. is);
  }

  pub parent-refused : (v : V) (p : ParentNode T E) → accepts p.envelope ≡ false → WritesNode v (Parent p) (Continue tt) v (Parent p)
  parent-refused v p refused = record {
    written = rw (marked-Parent, elements-Parent) (refused-writes v p refused);
    changed = λ k h w. (unchanged h (Parent p ∷ []) (w, tt)).0;
  }

  pub parent-visited : (v : V) (p q : ParentNode T E) (r : ControlFlow B (Unit {0})) (w : V) → q.envelope ≡ p.envelope → accepts p.envelope ≡ true
      → WritesNodes v (children_of p) r w (children_of q) → WritesNode v (Parent p) r w (Parent q)
  parent-visited v p q r w envelope accepted visited = record {
    written = rw (marked-Parent, elements-Parent, accepted) visited.written;
    changed = changed;
  }
    where
      changed : KeepsBoxes o step → (h : ℕ) → IsTree IsAny IsAny h (Parent p) → IsChanged (KeepsBox o) h (Parent p) (Parent q)
      changed k zero w = absurd (no_leaf _ p w)
      changed k (suc h) w = changed-Parent (KeepsBox o) h p q (record { envelope = envelope; children = visited.changed k h (parent_of _ p w).1 })

  -- ---- on the way through a list

  -- the nodes before the index were visited, and the rest are as they were
  pub record IsHalfway (first : V) (r : ControlFlow B (Unit {0})) (now : V) (index : ℕ) (old new : List (RTreeNode T E)) : Type 0 where
    pub rest : drop index new ≡ drop index old
    pub written : Writes step first (all_marked accepts selects (take index old)) r now (all_elements (take index new))
    pub changed : KeepsBoxes o step → (h : ℕ) → AreTrees IsAny IsAny h old → AllZip (IsChanged (KeepsBox o) h) old new

  pub halfway-start : (v : V) (ns : List (RTreeNode T E)) → IsHalfway v (Continue tt) v 0 ns ns
  halfway-start v ns = record { rest = refl; written = (refl, refl, refl); changed = λ k h w. unchanged h ns w }

  module _ {first now : V} {r : ControlFlow B (Unit {0})} {index : ℕ} {old new : List (RTreeNode T E)} (half : IsHalfway first r now index old new) where
    same-length : (length old - index) ≡ (length new - index)
    same-length = sym (length-drop index old) ∙ sym (ap length half.rest) ∙ length-drop index new

    same-node : (d : RTreeNode T E) → index < length new → (index < length old) × (slice_index_or new index d ≡ slice_index_or old index d) × (drop (suc index) new ≡ drop (suc index) old)
    same-node d lt =
        let within : index < length old = omega (arith, same-length) in
        let same : slice_index_or new index d ∷ drop (suc index) new ≡ slice_index_or old index d ∷ drop (suc index) old = sym (drop-cons new index d lt) ∙ half.rest ∙ drop-cons old index d within in
        (within, (cc), (cc))

    pub here-steps : (d : RTreeNode T E) → index < length new → steps (slice_index_or new index d) ≤ total (map steps old)
    here-steps d lt = let same = same-node d lt in rw same.1 (steps-at old index d same.0)

  pub halfway-next : {first now : V} {index : ℕ} {old new : List (RTreeNode T E)} → IsHalfway first (Continue tt) now index old new → (d : RTreeNode T E) → index < length new
      → (m : RTreeNode T E) (r : ControlFlow B (Unit {0})) (u : V) → WritesNode now (slice_index_or new index d) r u m → IsHalfway first r u (index + 1) old (slice_set new index m)
  halfway-next {first} {now} {index} {old} {new} half d lt m r u visit =
      let same = same-node half d lt in
      let visit : WritesNode now (slice_index_or old index d) r u m = rw same.1 at visit in
      record {
        rest = rw (drop-set-lt (index + 1) new index m (omega arith), add-one) same.2;
        written = simp (take_more old index d same.0, take_more_set new index m lt, flat_map-append, append-nil)
            (Writes-append step first now (all_marked accepts selects (take index old)) (marked accepts selects (slice_index_or old index d)) (all_elements (take index new)) (elements m) r u half.written visit.written);
        changed = λ k h w. AllZip-set (IsChanged (KeepsBox o) h) old new index d m (half.changed k h w)
            (λ lt. visit.changed k h (all_get (IsTree IsAny IsAny h) old index d lt w));
      }

  -- a call broke
  pub halfway-break : {first now : V} {b : B} {index : ℕ} {old new : List (RTreeNode T E)} → IsHalfway first (Break b) now index old new → WritesNodes first old (Break b) now new
  halfway-break {first} {now} {b} {index} {old} {new} half = record {
    written = rw (← split (marked accepts selects) old, ← split elements new, half.rest, ← all-marks accepts selects (drop index old))
        (Writes-break step first (all_marked accepts selects (take index old)) (all_marked accepts selects (drop index old)) (all_elements (take index new)) b now half.written);
    changed = half.changed;
  }
    where
      split : {X : Type 0} (f : RTreeNode T E → List X) (ns : List (RTreeNode T E)) → flat_map f (take index ns) ++ flat_map f (drop index ns) ≡ flat_map f ns
      split f ns = sym (flat_map-append f (take index ns) (drop index ns)) ∙ ap (flat_map f) (take-append-drop index ns)

  -- all are done
  pub halfway-end : {first now : V} {index : ℕ} {old new : List (RTreeNode T E)} → IsHalfway first (Continue tt) now index old new → length new ≤ index → WritesNodes first old (Continue tt) now new
  halfway-end {index = index} {old = old} {new = new} half le =
      let same = same-length half in
      record { written = rw (take_all index old (omega arith), take_all index new le) at half.written; changed = half.changed }

-- ---- a visit of a root

pub within-root : {V T E B : Type 0} {IsPoint : List ℤ → Type 0} {v : Boxes E} {o : Objects T E} (laws : EnvelopeLaws IsPoint v) (ok : ObjectLaws v o) (accepts : E → Bool) (selects : T → Bool) (step : Step V T B)
    (root : ParentNode T E) {first last : V} {r : ControlFlow B (Unit {0})} {us : List T} → Writes step first (marked_of accepts selects root) r last us
    → WritesWithin step (IsWhole v o root × IsLawful v o accepts selects) first selects (elements_of root) r us last
within-root laws ok accepts selects step root writes = record {
  marks = marked_of accepts selects root;
  same = (marks-root accepts selects root).0;
  selected = (marks-root accepts selects root).1;
  complete = λ both. marked-root laws ok accepts selects both.1 root both.0;
  writes = writes;
}

-- ---- a lawful selection

-- a visit of all that is selected
pub written_all : {V T B : Type 0} (step : Step V T B) {all : Type 0} {first : V} {asked selects : T → Bool} {ts : List T} {r : ControlFlow B (Unit {0})} {us : List T}
    → asked ≡ selects → all → IsWrittenWithin step all first asked ts r us → IsWritten step first (marked_by selects ts) r us
written_all step {first = first} {ts = ts} {r = r} {us = us} same holds visit =
    record { last = visit.last; writes = subst (λ ms. Writes step first ms r visit.last us) (visit.within.complete holds ∙ ap (λ s. marked_by s ts) same) visit.within.writes }

-- where each call goes on and leaves f of what it was lent, f was applied to what is selected, in its place
pub written_as : {V T B : Type 0} (step : Step V T B) (first : V) (selects : T → Bool) (ts : List T) (r : ControlFlow B (Unit {0})) (us : List T)
    → IsWritten step first (marked_by selects ts) r us → (f : T → T)
    → ((v : V) (x : MutBor T) (r : ControlFlow B (Unit {0})) (y : MutBor T) (w : V) → step v x r y w → (r ≡ Continue tt) × (y.now ≡ f x.now))
    → us ≡ map (λ t. if selects t then f t else t) ts
written_as step first selects [] r us visit f leaves = visit.writes.2
written_as {V} {T} {B} step first selects (t ∷ ts) r us visit f leaves =
    by_test (selects t) visit.writes (λ u rest next. written_as step u selects ts r rest (record { last = visit.last; writes = next }) f leaves)
  where
    by_test : (b : Bool) → Writes step first ((t, b) ∷ marked_by selects ts) r visit.last us → ((u : V) (rest : List T) → Writes step u (marked_by selects ts) r visit.last rest → rest ≡ map (λ t. if selects t then f t else t) ts)
        → us ≡ (if b then f t else t) ∷ map (λ t. if selects t then f t else t) ts
    by_test false here below = here.1 ∙ ap (λ (l : List T). t ∷ l) (below first here.0 here.2)
    by_test true (inl here) below = cc (leaves first here.0 (Break here.2) here.1 visit.last here.5).0
    by_test true (inr here) below =
        let next = below here.2 here.3 here.7 in let one = (leaves first here.0 (Continue tt) here.1 here.2 here.5).1 in
        here.6 ∙ ap (λ (u : T). u ∷ here.3) (one ∙ ap f here.4) ∙ ap (λ (l : List T). f t ∷ l) next
