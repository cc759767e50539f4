-- All elements of least distance: those within that distance.
use Rattle.std.proofs.Common.{◌≡◌, ◌≢◌, ℕ, ℤ, pos, int_le, ◌<◌, ◌≤◌, ◌==◌, Bool, true, false, List, [], ◌∷◌, ◌++◌, filter, flat_map, if◌then◌else◌, map, refl, ap, sym, ◌∙◌, subst, arith, append_assoc, append-nil}
use Rattle.std.specs.List.{AllByRecursion}
use Rattle.std.specs.List.Sorted.{IsPermutation}
use Rattle.std.proofs.lemmas.List.Sorted.{IsPermutation-refl}
use Rattle.std.proofs.lemmas.List.Elements.{filter-append, filter_passes, All-contains, All-from_recursion, recursion_from_All}
use Rattle.std.proofs.lemmas.Bool.Decides.{nat_tests}
use Rattle.std.proofs.lemmas.Int.{ints}
use Rattle.rstar_base.proofs.Along.{IsPermutation-flat_map}
use Rattle.rstar_base.proofs.Lists.{all_map}
use Rattle.rstar.specs.declared.node.RTreeNode.{RTreeNode, Leaf, Parent, Parent'}
use Rattle.rstar.specs.declared.node.ParentNode.{ParentNode}
use Rattle.rstar.specs.Lists.{IsNearest, AreSomeNearest}
use Rattle.rstar.specs.Nodes.{elements, all_elements, children_of, total, fold_tree}
use Rattle.rstar_base.specs.Envelopes.{Boxes}
use Rattle.rstar_base.specs.Elements.{Objects, Distances}
use Rattle.rstar.specs.inside.Searches.{distance_of, AreWholeNodes}
use Rattle.rstar.specs.inside.Traversals.{steps}
use Rattle.rstar.proofs.removing.Scans.{filter_none}
use Rattle.rstar.proofs.searching.Nearness.{IsMeasured, IsPart, above-node, part-Parent, parts}
use Rattle.rstar.proofs.trees.ByChildren.{elements-Leaf, elements-Parent, node_distance-Leaf, steps-Parent}

-- ---- filters

module _ {X : Type 0} (p : X → Bool) where
  filter-flat : (xs : List X) → filter p xs ≡ flat_map (λ x. if p x then x ∷ [] else []) xs
  filter-flat [] = refl
  filter-flat (x ∷ xs) =
      elim (p x) as (λ b. (if b then x ∷ filter p xs else filter p xs) ≡ (if b then x ∷ [] else []) ++ flat_map (λ x. if p x then x ∷ [] else []) xs) [ true ↦ ap (λ l. x ∷ l) (filter-flat xs) | false ↦ filter-flat xs ]

  -- a filter of a reordered list
  pub filter-along : (xs ys : List X) → IsPermutation xs ys → IsPermutation (filter p xs) (filter p ys)
  filter-along xs ys h = rw (filter-flat xs, filter-flat ys) (IsPermutation-flat_map (λ x. if p x then x ∷ [] else []) xs ys h)

  filter-agree : (q : X → Bool) (xs : List X) → AllByRecursion (λ x. p x ≡ q x) xs → filter p xs ≡ filter q xs
  filter-agree q [] h = refl
  filter-agree q (x ∷ xs) h = rw (h.0, filter-agree q xs h.1)

  pub filter_nothing : (xs : List X) → AllByRecursion (λ x. p x ≡ false) xs → filter p xs ≡ []
  filter_nothing [] h = refl
  filter_nothing (x ∷ xs) h = rw h.0 (filter_nothing xs h.1)

-- what a test of two distances says
pub close-by : (x y : ℤ) (m d : ℕ) (b : Bool) → x ≡ pos m → y ≡ pos d → b ≡ int_le x y → b ≡ true → m ≤ d
close-by x y m d b h k e t = let le : int_le (pos m) (pos d) ≡ true = sym (ap (λ z. int_le z y) h ∙ ap (int_le (pos m)) k) ∙ sym e ∙ t in grind (arith, ints)

pub far-by : (x y : ℤ) (m d : ℕ) (b : Bool) → x ≡ pos m → y ≡ pos d → b ≡ int_le x y → b ≡ false → d < m
far-by x y m d b h k e t = let le : int_le (pos m) (pos d) ≡ false = sym (ap (λ z. int_le z y) h ∙ ap (int_le (pos m)) k) ∙ sym e ∙ t in grind (arith, ints)

-- ---- what lies within the distance of a nearest element

same-test : (m d : ℕ) → d ≤ m → int_le (pos m) (pos d) ≡ (m == d)
same-test m d le = grind (arith, nat_tests, ints)

passes-same : (m d : ℕ) → (m == d) ≡ true → m ≡ d
passes-same m d is = grind (arith, nat_tests)

pub nearest-within : {T : Type 0} (distance : T → ℕ) (all found : List T) (t : T) (limit : ℤ) → IsNearest distance all t → limit ≡ pos (distance t)
    → found ≡ filter (λ u. int_le (pos (distance u)) limit) all → AreSomeNearest distance all (distance t) found
nearest-within {T} distance all found t limit near reach is =
    let tied = λ (u : T). distance u == distance t in
    let here : found ≡ filter (λ u. int_le (pos (distance u)) (pos (distance t))) all = is ∙ ap (λ l. filter (λ u. int_le (pos (distance u)) l) all) reach in
    let same : filter tied all ≡ found = sym (here ∙ filter-agree (λ u. int_le (pos (distance u)) (pos (distance t))) tied all (all_map _ _ (λ u le. same-test (distance u) (distance t) le) all near.least)) in
    let some : found ≢ [] = λ e. let not = All-contains (λ u. tied u ≡ false) all t (All-from_recursion _ all (filter_none tied all (same ∙ e))) near.member in grind (arith, nat_tests) in
    record {
      nearest = record {
        least = near.least;
        bag = subst (IsPermutation (filter tied all)) same (IsPermutation-refl _);
        at = subst (AllByRecursion (λ u. distance u ≡ distance t)) same (all_map (λ u. tied u ≡ true) _ (λ u is. passes-same (distance u) (distance t) is) (filter tied all) (recursion_from_All _ _ (filter_passes tied all)));
        some = λ e. absurd (some e);
      };
      some = some;
    }

-- ---- nodes, of whose elements those within a limit are taken

some-steps : {T E : Type 0} (n : RTreeNode T E) → 0 < steps n
unfolding steps fold_tree
some-steps (Leaf t) = omega arith
some-steps (Parent' shape children envelope) = omega arith

-- the steps from the next node on are fewer, and so are those below a child
pub fewer-after : {T E : Type 0} {ns rest : List (RTreeNode T E)} {n : RTreeNode T E} → ns ≡ n ∷ rest → total (map steps rest) < total (map steps ns)
fewer-after {n = n} is = omega (arith, ap (λ l. total (map steps l)) is, some-steps n)

pub fewer-below : {T E : Type 0} {ns rest : List (RTreeNode T E)} {n : RTreeNode T E} (q : ParentNode T E) → ns ≡ n ∷ rest → n ≡ Parent q → total (map steps (children_of q)) < total (map steps ns)
fewer-below q is parent = omega (arith, ap (λ l. total (map steps l)) is, ap steps parent ∙ steps-Parent q)

-- the children of a parent of some are whole
pub below-parts : {T E : Type 0} {IsPoint : List ℤ → Type 0} {v : Boxes E} {o : Objects T E} {d : Distances T} {p : List ℤ} (law : IsMeasured IsPoint v o d p) {ns rest : List (RTreeNode T E)} {n : RTreeNode T E} (q : ParentNode T E)
    → ns ≡ n ∷ rest → n ≡ Parent q → AreWholeNodes v o ns → AreWholeNodes v o (children_of q)
below-parts {v = v} {o = o} law q is parent whole =
    let i = part-Parent law q (subst (IsPart law) parent (subst (AreWholeNodes v o) is whole).0) in parts law i.0 (children_of q) i.2

module _ {T E : Type 0} (v : Boxes E) (o : Objects T E) (d : Distances T) (p : List ℤ) (limit : ℤ) where
  abbrev within : List T → List T
  within ts = filter (λ t. int_le (pos (d.distance_2 t p)) limit) ts

  -- some were taken before and some since: those below the nodes that are left are still to come
  pub record AreToCome (nodes left : List (RTreeNode T E)) (before taken : List T) : Type 0 where
    pub parts : AreWholeNodes v o left
    pub less : total (map steps left) ≤ total (map steps nodes)
    pub same : taken ++ within (all_elements left) ≡ before ++ within (all_elements nodes)

module _ {T E : Type 0} {IsPoint : List ℤ → Type 0} {v : Boxes E} {o : Objects T E} {d : Distances T} {p : List ℤ} (law : IsMeasured IsPoint v o d p) {limit : ℤ} {nodes ns rest : List (RTreeNode T E)} {n : RTreeNode T E} {before taken : List T} (is : ns ≡ n ∷ rest) where
  -- a node was passed, with those of its elements that are within
  passed-node : {more : List T} → more ≡ taken ++ within v o d p limit (elements n) → AreToCome v o d p limit nodes ns before taken → AreToCome v o d p limit nodes rest before more
  passed-node added come = record {
    parts = (subst (AreWholeNodes v o) is come.parts).1;
    less = omega (arith, come.less, fewer-after is);
    same = ap (λ l. l ++ within v o d p limit (all_elements rest)) added ∙ append_assoc taken (within v o d p limit (elements n)) (within v o d p limit (all_elements rest))
        ∙ ap (λ l. taken ++ l) (sym (filter-append _ (elements n) (all_elements rest))) ∙ sym (ap (λ l. taken ++ within v o d p limit (all_elements l)) is) ∙ come.same;
  }

  -- a node that lies beyond
  pub passed-beyond : false ≡ int_le (pos (distance_of v d p n)) limit → AreToCome v o d p limit nodes ns before taken → AreToCome v o d p limit nodes rest before taken
  passed-beyond far come =
      let none = filter_nothing (λ t. int_le (pos (d.distance_2 t p)) limit) (elements n) (all_map (λ t. distance_of v d p n ≤ d.distance_2 t p) _ (λ t le. farther (distance_of v d p n) (d.distance_2 t p) le far) (elements n) (above-node law n (subst (AreWholeNodes v o) is come.parts).0)) in
      passed-node (sym (append-nil taken) ∙ ap (λ l. taken ++ l) (sym none)) come
    where
      farther : (m k : ℕ) → m ≤ k → false ≡ int_le (pos m) limit → int_le (pos k) limit ≡ false
      farther m k le far = grind (arith, ints)

  -- a leaf that does not
  pub passed-leaf : {more : List T} (t : T) → n ≡ Leaf t → true ≡ int_le (pos (distance_of v d p n)) limit → more ≡ taken ++ t ∷ [] → AreToCome v o d p limit nodes ns before taken → AreToCome v o d p limit nodes rest before more
  passed-leaf t leaf near added =
      let own = ap (distance_of v d p) leaf ∙ node_distance-Leaf T E (λ e. v.distance_2 e p) (λ t. d.distance_2 t p) t in
      let here : int_le (pos (d.distance_2 t p)) limit ≡ true = ap (λ m. int_le (pos m) limit) (sym own) ∙ sym near in
      let taken_too : within v o d p limit (elements n) ≡ t ∷ [] = ap (within v o d p limit) (ap elements leaf ∙ elements-Leaf T E t) ∙ ap (λ (b : Bool). if b then t ∷ [] else []) here in
      passed-node (added ∙ ap (λ l. taken ++ l) (sym taken_too))

  -- a parent, with the elements of its children
  pub passed-parent : {more : List T} (q : ParentNode T E) (cs : List (RTreeNode T E)) → n ≡ Parent q → cs ≡ children_of q → more ≡ taken ++ within v o d p limit (all_elements cs) → AreToCome v o d p limit nodes ns before taken → AreToCome v o d p limit nodes rest before more
  passed-parent q cs parent below added = passed-node (added ∙ ap (λ l. taken ++ within v o d p limit l) (ap all_elements below ∙ sym (ap elements parent ∙ elements-Parent q)))
