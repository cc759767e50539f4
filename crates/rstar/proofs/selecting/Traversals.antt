-- One step of a walk over slices of nodes.
use Rattle.std.proofs.Common.{◌≡◌, ◌≢◌, ℕ, zero, suc, ◌+◌, ◌<◌, ◌≤◌, ◌⊎◌, inl, inr, List, [], ◌∷◌, ◌++◌, length, map, refl, ap, ◌∙◌, sym, subst, arith, Bool, append_assoc, append-nil, if◌then◌else◌, true, false, min, ◌==◌}
use Rattle.std.proofs.lemmas.Bool.Decides.{nat_tests}
use Rattle.std.specs.List.{AllByRecursion}
pub use Rattle.std.proofs.lemmas.List.{nil_from_length as nil-length}
use Rattle.std.specs.Borrow.{Bor}
use Rattle.rstar.specs.declared.node.RTreeNode.{RTreeNode, Leaf, Parent}
use Rattle.rstar.specs.declared.node.ParentNode.{ParentNode}
use Rattle.rstar.specs.declared.iterators.selection.SelectionIterator.{SelectionIterator}
use Rattle.rstar.specs.Nodes.{total, reach, given, all_given, all_reach, reach_below, reach_of, children_of, AreWhole}
use Rattle.rstar_base.specs.Counts.{usize_max}
use Rattle.rstar.specs.inside.Paths.{Path}
use Rattle.rstar.specs.inside.Traversals.{given_from_slices, reach_from_slices, IsLevel, AreSlices, IsUnderWay, slices_of, HasItsWay, IsStep, steps, steps_of}
use Rattle.rstar.proofs.trees.ByChildren.{given-Leaf, reach-Leaf, steps-Leaf, given-Parent, reach-Parent, steps-Parent, parent_of, no_leaf}
use Rattle.rstar_base.specs.Envelopes.{Boxes}
use Rattle.rstar_base.specs.Elements.{Objects}
use Rattle.rstar.proofs.inserting.Insertion.{trees_map}

abbrev pub Slices : (T E : Type 0) → Type 0
Slices T E = List (Bor (List (RTreeNode T E)))

module _ {T E : Type 0} where
  -- a parent has children, which lie one level below it
  pub level-Parent : (h : ℕ) (p : ParentNode T E) → IsLevel h (Parent p) → (k : ℕ) × (h ≡ k + 1) × AllByRecursion (IsLevel k) (children_of p) × (children_of p ≢ [])
  level-Parent zero p a = absurd (no_leaf _ p a)
  level-Parent (suc h) p a = let q = parent_of _ p a in (h, omega arith, q.1, q.0)

  -- a parent in the last slice leaves a level for its children
  levels-left : (h : ℕ) (path : Slices T E) (nodes rest : Bor (List (RTreeNode T E))) (p : ParentNode T E)
      → nodes.now ≡ Parent p ∷ rest.now → AreSlices h (path ++ nodes ∷ []) → length path + 2 ≤ h
  levels-left h [] nodes rest p first is =
      omega (arith, is.1, (level-Parent is.0 p (subst (AllByRecursion (IsLevel is.0)) first is.2).0).1)
  levels-left h (m ∷ path) nodes rest p first is = omega (arith, is.1, levels-left is.0 path nodes rest p first is.3)

  pub room-opened : (accepts : E → Bool) (root : ParentNode T E) (path : Slices T E) (nodes rest : Bor (List (RTreeNode T E))) (p : ParentNode T E) {room opened : ℕ}
      → nodes.now ≡ Parent p ∷ rest.now → IsUnderWay accepts root (path ++ nodes ∷ []) room opened → length path < room
  room-opened accepts root path nodes rest p first way =
      omega (arith, way.fits, levels-left way.height path nodes rest p first way.levels)

  below-higher : (h k : ℕ) (slices : Slices T E) → k < h → AreSlices k slices → AreSlices h slices
  below-higher h k [] less is = tt
  below-higher h k (nodes ∷ slices) less is = (is.0, omega (arith, less, is.1), is.2, is.3)

-- ---- steps

module _ {T E : Type 0} (accepts : E → Bool) (selects : T → Bool) where
  -- a step from the old slices to the new ones gives these elements, and opens so many parents
  pub record IsMoved (old : Slices T E) (found : List T) (opened : ℕ) (new : Slices T E) : Type 0 where
    pub gives : given_from_slices accepts selects old ≡ found ++ given_from_slices accepts selects new
    pub opens : reach_from_slices accepts old ≡ opened + reach_from_slices accepts new
    pub nearer : steps_of new < steps_of old
    pub levels : (h : ℕ) → AreSlices h old → AreSlices h new

  -- a step of the last slices is one of all
  on-last : (path : Slices T E) {old new : Slices T E} {found : List T} {opened : ℕ} → IsMoved old found opened new → IsMoved (path ++ old) found opened (path ++ new)
  on-last [] moved = moved
  on-last (m ∷ path) {found = found} moved =
      let last = on-last path moved in
      record {
        gives = ap (λ l. l ++ all_given accepts selects m.now) last.gives ∙ append_assoc found _ _;
        opens = omega (arith, last.opens);
        nearer = omega (arith, last.nearer);
        levels = λ h is. (is.0, is.1, is.2, last.levels is.0 is.3);
      }

  then-moved : {old mid new : Slices T E} {opened : ℕ} → IsMoved old [] opened mid → IsMoved mid [] 0 new → IsMoved old [] opened new
  then-moved first next = record {
    gives = first.gives ∙ next.gives;
    opens = omega (arith, first.opens, next.opens);
    nearer = omega (arith, first.nearer, next.nearer);
    levels = λ h is. next.levels h (first.levels h is);
  }

  -- the first node of a slice is read, and not opened
  read : (nodes rest : Bor (List (RTreeNode T E))) (n : RTreeNode T E) (found : List T) → nodes.now ≡ n ∷ rest.now
      → given accepts selects n ≡ found → reach accepts n ≡ 0 → 0 < steps n → IsMoved (nodes ∷ []) found 0 (rest ∷ [])
  read nodes rest n found first gives none long =
      let r = ap (all_reach accepts) first in let s = ap (λ l. total (map steps l)) first in
      record {
        gives = ap (all_given accepts selects) first ∙ ap (λ l. l ++ all_given accepts selects rest.now) gives;
        opens = omega arith;
        nearer = omega arith;
        levels = λ h is. (is.0, is.1, (subst (AllByRecursion (IsLevel is.0)) first is.2).1, tt);
      }

  -- or a parent is opened, and its children are read before the rest of the slice
  entered : (nodes rest children : Bor (List (RTreeNode T E))) (p : ParentNode T E) → nodes.now ≡ Parent p ∷ rest.now → accepts p.envelope ≡ true → children.now ≡ children_of p
      → IsMoved (nodes ∷ []) [] 1 (rest ∷ children ∷ [])
  entered nodes rest children p first accepted same =
      let r = ap (all_reach accepts) first in let s = ap (λ l. total (map steps l)) first in
      let rp = rw accepted at (reach-Parent accepts p) in let sp = steps-Parent p in
      let rc = ap (all_reach accepts) same in let sc = ap (λ l. total (map steps l)) same in
      let gp = rw accepted at (given-Parent accepts selects p) in
      record {
        gives = ap (all_given accepts selects) first ∙ ap (λ l. l ++ all_given accepts selects rest.now) (gp ∙ sym (ap (all_given accepts selects) same));
        opens = omega arith;
        nearer = omega arith;
        levels = λ h is.
            let here = subst (AllByRecursion (IsLevel is.0)) first is.2 in let down = level-Parent is.0 p here.0 in
            (is.0, is.1, here.1, (down.0, omega (arith, down.1), subst (AllByRecursion (IsLevel down.0)) (sym same) down.2, tt));
      }

  -- a slice with nothing left is dropped
  dropped : (nodes : Bor (List (RTreeNode T E))) (slices : Slices T E) → nodes.now ≡ [] → IsMoved (nodes ∷ slices) [] 0 slices
  dropped nodes slices none =
      let r = ap (all_reach accepts) none in
      record {
        gives = ap (λ l. given_from_slices accepts selects slices ++ all_given accepts selects l) none ∙ append-nil _;
        opens = omega arith;
        nearer = omega arith;
        levels = λ h is. below-higher h is.0 slices is.1 is.3;
      }

  -- ---- the steps of an iterator

  pub refused-moved : (path : Slices T E) (nodes rest : Bor (List (RTreeNode T E))) (p : ParentNode T E) → nodes.now ≡ Parent p ∷ rest.now → accepts p.envelope ≡ false
      → IsMoved (path ++ nodes ∷ []) [] 0 (path ++ rest ∷ [])
  refused-moved path nodes rest p first refused =
      let long = steps-Parent p in
      on-last path (read nodes rest (Parent p) [] first (rw refused at (given-Parent accepts selects p)) (rw refused at (reach-Parent accepts p)) (omega arith))

  -- the rest of the slice is kept, but where nothing is left of it
  pub opened-moved : (path : Slices T E) (nodes rest children : Bor (List (RTreeNode T E))) (p : ParentNode T E) → nodes.now ≡ Parent p ∷ rest.now → accepts p.envelope ≡ true → children.now ≡ children_of p
      → (kept : Slices T E) → (kept ≡ path ++ rest ∷ []) ⊎ ((kept ≡ path) × (rest.now ≡ [])) → IsMoved (path ++ nodes ∷ []) [] 1 (kept ++ children ∷ [])
  opened-moved path nodes rest children p first accepted same kept (inl is) =
      rw (is, append_assoc) (on-last path (entered nodes rest children p first accepted same))
  opened-moved path nodes rest children p first accepted same kept (inr is) =
      rw is.0 (on-last path (then-moved (entered nodes rest children p first accepted same) (dropped rest (children ∷ []) is.1)))

pub stepped : {T F E : Type 0} (accepts : F → E → Bool) (selects : F → T → Bool) (it : SelectionIterator T F E) (path : Path (Bor (List (RTreeNode T E)))) (nodes : Bor (List (RTreeNode T E))) (opened : ℕ)
    {found : List T} {more : ℕ} → IsMoved (accepts it.func) (selects it.func) (slices_of it) found more (path.items ++ nodes ∷ []) → path.capacity ≡ it.path.capacity
    → opened ≡ min (it.opened + more) usize_max → HasItsWay accepts it → IsStep accepts selects it found (record it { path = path; nodes = nodes; opened = opened })
stepped accepts selects it path nodes opened {more = more} moved room counts way = record {
  walking = record {
    height = way.height;
    fits = omega (arith, way.fits, room);
    levels = moved.levels way.height way.levels;
    count = way.count + more;
    counted = omega (arith, way.counted, counts);
    all = omega (arith, way.all, moved.opens);
  };
  root = refl;
  question = refl;
  given = moved.gives;
  nearer = moved.nearer;
}

module _ {T F E : Type 0} (accepts : F → E → Bool) (selects : F → T → Bool) (it : SelectionIterator T F E) where
  pub leaf-stepped : (rest : Bor (List (RTreeNode T E))) {n : RTreeNode T E} {t u : T} {b : Bool} → it.nodes.now ≡ n ∷ rest.now → n ≡ Leaf t → u ≡ t → b ≡ selects it.func u → HasItsWay accepts it
      → IsStep accepts selects it (if b then u ∷ [] else []) (record it { nodes = rest })
  leaf-stepped rest {u = u} {b = b} first is same says way =
      let one = steps-Leaf T E u in let gives = given-Leaf T E (accepts it.func) (selects it.func) u ∙ ap (λ (b : Bool). if b then u ∷ [] else []) (sym says) in
      let moved = read _ _ it.nodes rest (Leaf u) (if b then u ∷ [] else []) (rw (same, ← is) first) gives (reach-Leaf T E (accepts it.func) u) (omega arith) in
      stepped accepts selects it it.path rest it.opened (on-last _ _ it.path.items moved) refl (omega (arith, way.counted)) way

  pub back-stepped : (path : Path (Bor (List (RTreeNode T E)))) {above : Bor (List (RTreeNode T E))} → it.path.items ≡ path.items ++ above ∷ [] → path.capacity ≡ it.path.capacity → length it.nodes.now ≡ 0 → HasItsWay accepts it
      → IsStep accepts selects it [] (record it { path = path; nodes = above })
  back-stepped path {above = above} is room none way =
      let moved = on-last (accepts it.func) (selects it.func) it.path.items (dropped _ _ it.nodes [] (nil-length _ none)) in
      stepped accepts selects it path above it.opened (subst (IsMoved _ _ (slices_of it) [] 0) (append-nil it.path.items ∙ is) moved) room (omega (arith, way.counted)) way

-- ---- where a walk starts

module _ {T E : Type 0} where
  -- whole nodes lie on one level
  pub all-level : (v : Boxes E) (o : Objects T E) (h : ℕ) (ns : List (RTreeNode T E)) → AreWhole v o h ns → AllByRecursion (IsLevel h) ns
  all-level v o = trees_map (λ p q. q.1) (λ t q. tt)

  pub way-start : (accepts : E → Bool) (root : ParentNode T E) (path : Slices T E) (nodes : Bor (List (RTreeNode T E))) (room h count : ℕ) → path ≡ []
      → AllByRecursion (IsLevel h) nodes.now → h ≤ room → count ≤ 1 → count + all_reach accepts nodes.now ≡ reach_of accepts root → IsUnderWay accepts root (path ++ nodes ∷ []) room count
  way-start accepts root path nodes room h count empty levels fits few all = rw empty (record {
    height = h + 1;
    fits = omega (arith, fits);
    levels = (h, omega arith, levels, tt);
    count = count;
    counted = omega (arith, few);
    all = omega (arith, all);
  })

  pub reach-asked : (accepts : E → Bool) (e : E) (ns : List (RTreeNode T E)) → ns ≢ [] → accepts e ≡ true → reach_below accepts e ns ≡ 1 + all_reach accepts ns
  reach-asked accepts e [] some h = absurd (some refl)
  reach-asked accepts e (n ∷ ns) some h = ap (λ (b : Bool). if b then 1 + all_reach accepts (n ∷ ns) else 0) h

  -- a root without children, or one that is refused, is not entered
  pub reach-none : (accepts : E → Bool) (e : E) (ns : List (RTreeNode T E)) → (ns ≡ []) ⊎ (accepts e ≡ false) → reach_below accepts e ns ≡ 0
  reach-none accepts e [] none = refl
  reach-none accepts e (n ∷ ns) (inl none) = cc
  reach-none accepts e (n ∷ ns) (inr h) = ap (λ (b : Bool). if b then 1 + all_reach accepts (n ∷ ns) else 0) h

-- a list whose length was tested
pub no-items : {A : Type 0} (xs : List A) (n : ℕ) (b : Bool) → b ≡ (n == 0) → b ≡ true → n ≡ length xs → xs ≡ []
no-items xs n b p q r = nil-length xs (grind (arith, nat_tests))

pub some-items : {A : Type 0} (xs : List A) (n : ℕ) (b : Bool) → b ≡ (n == 0) → b ≡ false → n ≡ length xs → xs ≢ []
some-items [] n b p q r = λ e. absurd (grind (arith, nat_tests))
some-items (x ∷ xs) n b p q r = λ e. cc
