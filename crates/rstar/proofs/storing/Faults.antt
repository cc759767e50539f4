-- What each refusal of a reader tells, and that each fault is the one that reading gives, so that no bytes have two.
use Rattle.std.proofs.Common.{◌≡◌, ◌≢◌, ℕ, zero, suc, ◌+◌, ◌*◌, ◌^◌, ◌<◌, ◌≤◌, true, false, eqb, ltb, List, [], ◌∷◌, ◌++◌, length, map, take, drop, refl, sym, ap, ap₂, subst, ◌∙◌, append_assoc, append-nil, arith, inl, inr, cond, Result, Ok, Err}
use Rattle.std.specs.Prelude.{nat_eq, IfOk, IfErr}
use Rattle.std.specs.List.{AllByRecursion}
use Rattle.std.specs.Cmp.Lexicographic.{pointwise, same_text}
use Rattle.std.proofs.lemmas.Bool.{ltb-true, ltb-false, eqb-true, eqb-false, cases_lt, lt-ltb, le-ltb, false_from_ne_true}
use Rattle.std.proofs.lemmas.List.{length-append, length-drop, take-append-drop, nil_from_length}
use Rattle.rstar_base.specs.Points.{IsPoint}
use Rattle.rstar.specs.declared.stored.StoredError.{StoredError}
use Rattle.rstar.specs.declared.stored.StoredError.TheVariants.{Truncated, BadMagic, BadLevel, BadBox, BadCount, Trailing, NoMemory, TooHigh}
use Rattle.rstar.specs.Nodes.{joined}
use Rattle.rstar.specs.Shown.{parent, end, row_of}
use Rattle.rstar.specs.Stored.{Place, Box, Tree, low, high, boxes, merge_of, points_of, IsStored, IsStoredTree, Spells, magic, number, point, corners, spelling, root_spelling}
use Rattle.rstar.specs.StoredFaults.{BeginsParent, ParentHasFault, NodeHasFault, RootHasFault, HasFault, IsOnlyFault}
use Rattle.rstar.specs.StoredReading.{number_at, point_at, leaf_at, each_at, has_corners, children_at, parent_at, node_at, ended, root_at, levels_at, tree_at, ◌>>=◌, Gives}
use Rattle.rstar.proofs.storing.Bytes.{IsBytes, IsBytes-drop, Takes, Takes-then, Takes-long, Tells, tells_then, refused_if, refused_unless, ok_is, number_long, number_tells, point_tells, point_again, point_long, IsBytes-front, IsBytes-back, must_give, must_refuse, number_again}
use Rattle.rstar.proofs.storing.Laws.{lowers, uppers, spelling-parent, stored_parent, same_corners, self_corners, merge_corners, each_again, some_eqb, begun, node_again, root_other, root_trailing, levels_read, begun_tree, tree_reads, tree_again, one_tree}

-- ---- nodes

abbrev TakesNode : ℕ → List ℕ → Tree × List ℕ → Type 0
TakesNode h bytes x = Takes bytes (spelling x.0) x.1 × IsStored h x.0

abbrev TellsNodes : ℕ → Type 0
TellsNodes h = (bytes : List ℕ) → IsBytes bytes → Tells (node_at h bytes) (TakesNode h bytes) (NodeHasFault h bytes)

-- points that spell the corners of a box are its corners
other_corners : (l u : Place) (m : Box) → IsPoint low high 2 l → IsPoint low high 2 u → IsPoint low high 2 (lowers m) × IsPoint low high 2 (uppers m) → has_corners l u m ≡ false → point l ++ point u ≢ corners m
other_corners l u m is_l is_u is other same =
    let first = ok_is (l, point u) (lowers m, point (uppers m)) (sym (point_again l (point u) is_l) ∙ ap point_at same ∙ point_again (lowers m) (point (uppers m)) is.0) in
    let second = ok_is (u, []) (uppers m, []) (sym (point_again u [] is_u) ∙ ap (λ (p : Place × List ℕ). point_at (p.1 ++ [])) first ∙ point_again (uppers m) [] is.1) in
    let has : has_corners l u m ≡ true = ap₂ (λ (p q : Place × List ℕ). has_corners p.0 q.0 m) first second ∙ self_corners m in
    absurd cc

module _ (h : ℕ) (one : TellsNodes h) where
  -- so many nodes are stored, or behind fewer one has a fault
  each_tells : (n : ℕ) (bytes : List ℕ) → IsBytes bytes → Tells (each_at (node_at h) n bytes)
      (λ x. Takes bytes (joined (map spelling x.0)) x.1 × (length x.0 ≡ n) × AllByRecursion (IsStored h) x.0)
      (λ e. (ns : List Tree) × (rest : List ℕ) × Takes bytes (joined (map spelling ns)) rest × AllByRecursion (IsStored h) ns × (length ns < n) × NodeHasFault h rest e)
  unfolding each_at
  each_tells zero bytes fits = record { told = (record { parts = refl; rest_fits = fits }, refl, tt) }
  each_tells (suc n) bytes fits = tells_then (node_at h bytes) _ (one bytes fits)
      (λ first t. tells_then (each_at (node_at h) n first.1) _ (each_tells n first.1 t.0.rest_fits)
      (λ others u. record { told = (Takes-then t.0 u.0, ap suc u.1, (t.1, u.2)) })
      (λ e f. let (ns, rest, taken, all, few, wrong) = f in (first.0 ∷ ns, rest, Takes-then t.0 taken, (t.1, all), omega (arith, few), wrong)))
      (λ e f. ([], bytes, record { parts = refl; rest_fits = fits }, tt, omega arith, f))

  module _ (bytes : List ℕ) (count : ℕ) (r : List ℕ) (t : Takes bytes (number count) r) (few : count < 2 ^ 64) (some : 0 < count) (long : 32 + 16 * count ≤ length r) where
    begins : (l u : Place) (behind : List ℕ) (ns : List Tree) (rest : List ℕ) → IsPoint low high 2 l → IsPoint low high 2 u → Takes r (point l ++ point u) behind → Takes behind (joined (map spelling ns)) rest → AllByRecursion (IsStored h) ns
        → BeginsParent h bytes count (point l ++ point u) ns rest
    begins l u behind ns rest is_l is_u box taken all = record {
      parts = (Takes-then (Takes-then t box) taken).parts;
      counted = (some, few);
      boxed = omega (arith, point_long l is_l, point_long u is_u, length-append (point l) (point u));
      there = omega (arith, long, Takes-long t, number_long count);
      stored = all;
    }

    -- behind the child count of a parent
    children_tells : Tells (children_at (node_at h) count r) (TakesNode (suc h) bytes) (NodeHasFault (suc h) bytes)
    unfolding children_at
    children_tells = tells_then (point_at r) _ (point_tells r t.rest_fits)
        (λ l p. tells_then (point_at l.1) _ (point_tells l.1 p.0.rest_fits)
        (λ u q.
        let box = Takes-then p.0 q.0 in
        tells_then (each_at (node_at h) count u.1) _ (each_tells count u.1 q.0.rest_fits)
        (λ ns n.
        let m = merge_of ns.0 in
        refused_unless (has_corners l.0 u.0 m) BadBox _
        (λ other. inl (count, point l.0 ++ point u.0, ns.0, ns.1, begins l.0 u.0 u.1 ns.0 ns.1 p.1 q.1 box n.0 n.2, n.1, other_corners l.0 u.0 m p.1 q.1 (merge_corners h ns.0 n.2) other))
        (λ same.
        let text = spelling-parent m ns.0 ∙ ap₂ (λ (k : ℕ) (corner : List ℕ). number k ++ corner ++ joined (map spelling ns.0)) n.1 (same_corners m l.0 u.0 same) in
        record { told = (subst (λ (b : List ℕ). Takes bytes b ns.1) (sym text) (Takes-then (Takes-then t box) n.0), stored_parent h m ns.0 (rw n.1 some) (rw n.1 few) refl n.2) }))
        (λ e f. let (ns, rest, taken, all, fewer, wrong) = f in inr (count, point l.0 ++ point u.0, ns, rest, begins l.0 u.0 u.1 ns rest p.1 q.1 box taken all, fewer, wrong)))
        (λ e f. absurd (omega (arith, f.1, long, Takes-long p.0, point_long l.0 p.1))))
        (λ e f. absurd (omega (arith, f.1, long)))

  parent_tells : (bytes : List ℕ) → IsBytes bytes → Tells (parent_at (node_at h) bytes) (TakesNode (suc h) bytes) (NodeHasFault (suc h) bytes)
  unfolding parent_at
  parent_tells bytes fits = tells_then (number_at bytes) _ (number_tells bytes fits)
      (λ count t. refused_if (eqb count.0 0) BadLevel _
      (λ none. inl (count.0, count.1, t.0.parts, t.1, eqb-true count.0 0 none))
      (λ full.
      let any = eqb-false count.0 0 full in
      let some : 0 < count.0 = omega (arith, any) in
      refused_if (ltb (length count.1) (32 + 16 * count.0)) Truncated _
      (λ short. inl (inr (count.0, count.1, t.0.parts, t.1, (some, ltb-true (length count.1) (32 + 16 * count.0) short))))
      (λ enough. children_tells bytes count.0 count.1 t.0 t.1 some (ltb-false (length count.1) (32 + 16 * count.0) enough))))
      (λ e f. inl (subst (ParentHasFault h bytes) (sym f.0) (inl f.1)))

node_tells : (h : ℕ) → TellsNodes h
unfolding node_at leaf_at
node_tells zero bytes fits = tells_then (point_at bytes) _ (point_tells bytes fits) (λ p t. record { told = t }) (λ e f. f)
node_tells (suc h) bytes fits = parent_tells h (node_tells h) bytes fits

-- ---- whole trees

-- a node lacks bytes, is a parent without children, or has another box
node_kinds : (P : StoredError → Type 0) → P Truncated → P BadLevel → P BadBox → (h : ℕ) (e : StoredError) (bytes : List ℕ) → NodeHasFault h bytes e → P e
node_kinds P lacks childless other zero e bytes f = subst P (sym f.0) lacks
node_kinds P lacks childless other (suc h) e bytes (inr (count, box, children, rest, begun, fewer, f)) = node_kinds P lacks childless other h e rest f
node_kinds P lacks childless other (suc h) Truncated bytes (inl f) = lacks
node_kinds P lacks childless other (suc h) BadLevel bytes (inl f) = childless
node_kinds P lacks childless other (suc h) BadBox bytes (inl f) = other
node_kinds P lacks childless other (suc h) e bytes (inl f) = absurd f

root_fault : (bytes : List ℕ) (e : StoredError) → RootHasFault bytes e → HasFault bytes e
root_fault bytes e f = let (count, below, rest, parts, low, wrong) = f in node_kinds (λ k. RootHasFault bytes k → HasFault bytes k) (λ g. inr g) (λ g. inr g) (λ g. g) (suc below) e rest wrong f

module _ (bytes : List ℕ) (count : ℕ) (few : count < 2 ^ 64) where
  ended_tells : (t : Tree) (front rest : List ℕ) → Spells front t → bytes ≡ front ++ rest → Tells (ended t rest) (Spells bytes) (HasFault bytes)
  ended_tells t front [] s parts = record { told = subst (λ (b : List ℕ). Spells b t) (sym (parts ∙ append-nil front)) s }
  ended_tells t front (b ∷ rest) s parts = record { told = (front, b ∷ rest, t, parts, omega arith, s) }

  -- behind the root
  whole_tells : (h : ℕ) (t : Tree) (rest : List ℕ) → h ≤ 64 → IsStoredTree h t → length (points_of t) ≡ count → bytes ≡ magic ++ number count ++ h ∷ (root_spelling h t ++ rest)
      → Tells (ended t rest) (Spells bytes) (HasFault bytes)
  whole_tells h t rest le is same parts = ended_tells t (magic ++ number count ++ h ∷ root_spelling h t) rest
      (record { height = h; low = le; whole = is; counted = omega (arith, same, few); spelled = ap (λ (k : ℕ). magic ++ number k ++ h ∷ root_spelling h t) (sym same) })
      (parts ∙ sym (append_assoc (magic ++ number count) (h ∷ root_spelling h t) rest))

  root_tells : (h : ℕ) (rest : List ℕ) → h ≤ 64 → IsBytes rest → bytes ≡ magic ++ number count ++ h ∷ rest → Tells (root_at h count rest) (Spells bytes) (HasFault bytes)
  unfolding root_at
  root_tells zero rest le fits parts = refused_unless (eqb count 0) BadCount _
      (λ other. (count, 0, parent boxes.empty end, rest, record { parts = parts; counted = few }, le, refl, λ same. eqb-false count 0 other (sym same)))
      (λ none. whole_tells 0 (parent boxes.empty end) rest le refl (sym (eqb-true count 0 none)) parts)
  root_tells (suc h) rest le fits parts = tells_then (node_at (suc h) rest) _ (node_tells (suc h) rest fits)
      (λ root n.
      let text = parts ∙ ap (λ (r : List ℕ). magic ++ number count ++ suc h ∷ r) n.0.parts in
      refused_unless (eqb (length (points_of root.0)) count) BadCount _
      (λ other. (count, suc h, root.0, root.1, record { parts = text; counted = few }, le, n.1, eqb-false (length (points_of root.0)) count other))
      (λ same. whole_tells (suc h) root.0 root.1 le n.1 (eqb-true (length (points_of root.0)) count same) text))
      (λ e f. root_fault bytes e (count, h, rest, record { parts = parts; counted = few }, omega (arith, le), f))

  levels_tells : (after : List ℕ) → IsBytes after → bytes ≡ magic ++ number count ++ after → Tells (levels_at count after) (Spells bytes) (HasFault bytes)
  unfolding levels_at
  levels_tells [] fits parts = record { told = inl (omega (arith, ap length parts, length-append (number count) [], number_long count), λ long. ap (take 4) parts) }
  levels_tells (h ∷ rest) fits parts = refused_if (ltb 64 h) BadLevel _
      (λ above. inl (count, h, rest, record { parts = parts; counted = few }, ltb-true 64 h above))
      (λ low. root_tells h rest (ltb-false 64 h low) (λ i. fits (suc i)) parts)

pub tree_tells : (bytes : List ℕ) → IsBytes bytes → Tells (tree_at bytes) (Spells bytes) (HasFault bytes)
unfolding tree_at
tree_tells bytes fits = refused_if (ltb (length bytes) 4) Truncated _
    (λ short.
    let few = ltb-true (length bytes) 4 short in
    inl (omega (arith, few), λ long. absurd (omega (arith, few, long))))
    (λ enough.
    let long = ltb-false (length bytes) 4 enough in
    refused_unless (pointwise nat_eq (take 4 bytes) magic) BadMagic _
    (λ other. (long, λ same. let is : pointwise nat_eq (take 4 bytes) magic ≡ true = ap (λ (m : List ℕ). pointwise nat_eq m magic) same in absurd cc))
    (λ is.
    let front : take 4 bytes ≡ magic = same_text (take 4 bytes) magic (sym is) in
    tells_then (number_at (drop 4 bytes)) _ (number_tells (drop 4 bytes) (IsBytes-drop 4 bytes fits))
    (λ count t. levels_tells bytes count.0 t.1 count.1 t.0.rest_fits (sym (take-append-drop 4 bytes) ∙ ap₂ (λ (m r : List ℕ). m ++ r) front t.0.parts))
    (λ e f. subst (HasFault bytes) (sym f.0) (inl (omega (arith, f.1, long, length-drop 4 bytes), λ there. front)))))

-- ---- each fault is the one that reading gives

number_short : (bytes : List ℕ) → length bytes < 8 → number_at bytes ≡ Err Truncated
unfolding number_at
number_short bytes few = rw (lt-ltb (length bytes) 8 few) refl

-- the corners that the bytes of a box tell
tells_box : (box : List ℕ) → IsBytes box → length box ≡ 32 → (l u : Place) × (box ≡ point l ++ point u) × IsPoint low high 2 l × IsPoint low high 2 u
tells_box box fits long =
    let (l, read_l, t) = must_give (point_at box) (point_tells box fits) (λ e f. omega (arith, f.1, long)) in
    let rest : length l.1 ≡ 16 = omega (arith, long, Takes-long t.0, point_long l.0 t.1) in
    let (u, read_u, s) = must_give (point_at l.1) (point_tells l.1 t.0.rest_fits) (λ e f. omega (arith, f.1, rest)) in
    let none : u.1 ≡ [] = nil_from_length u.1 (omega (arith, rest, Takes-long s.0, point_long u.0 s.1)) in
    (l.0, u.0, t.0.parts ∙ ap (λ (r : List ℕ). point l.0 ++ r) (s.0.parts ∙ ap (λ (r : List ℕ). point u.0 ++ r) none ∙ append-nil (point u.0)), t.1, s.1)

-- behind the child count and the box of a parent
begun_parent : (h : ℕ) (bytes : List ℕ) (count : ℕ) (box : List ℕ) (children : List Tree) (rest : List ℕ) → IsBytes bytes → BeginsParent h bytes count box children rest
    → (l u : Place) × (box ≡ point l ++ point u) × (parent_at (node_at h) bytes ≡ (each_at (node_at h) count (joined (map spelling children) ++ rest) >>= λ ns. cond (has_corners l u (merge_of ns.0)) (Ok (parent (merge_of ns.0) (row_of ns.0), ns.1)) (Err BadBox)))
begun_parent h bytes count box children rest fits p =
    let text = joined (map spelling children) in
    let front = IsBytes-front (number count ++ box) text (IsBytes-front (number count ++ box ++ text) rest (subst IsBytes p.parts fits)) in
    let (l, u, same, is_l, is_u) = tells_box box (IsBytes-back (number count) box front) p.boxed in
    let size = ap length p.parts ∙ length-append (number count ++ box ++ text) rest in
    let there : 16 * count ≤ length (text ++ rest) = omega (arith, p.there, p.boxed, size, length-append (number count ++ box) text, length-append (number count) box, number_long count, length-append text rest) in
    (l, u, same, ap (parent_at (node_at h)) (p.parts ∙ ap (λ (x : List ℕ). number count ++ x ++ text ++ rest) same) ∙ begun h count l u text rest p.counted.0 p.counted.1 is_l is_u there)

parent_fails : (h : ℕ) (bytes : List ℕ) → IsBytes bytes → (e : StoredError) → ParentHasFault h bytes e → parent_at (node_at h) bytes ≡ Err e
unfolding parent_at
parent_fails h bytes fits Truncated (inl few) = rw (number_short bytes few) refl
parent_fails h bytes fits Truncated (inr (count, rest, parts, small, (some, lacks))) =
    ap (parent_at (node_at h)) parts ∙ rw (number_again count rest small, some_eqb count some, lt-ltb (length rest) (32 + 16 * count) lacks) refl
parent_fails h bytes fits BadLevel (count, rest, parts, small, none) = ap (parent_at (node_at h)) parts ∙ rw (number_again count rest small, none) refl
parent_fails h bytes fits BadBox (count, box, children, rest, p, all, other) =
    let (l, u, same, begins) = begun_parent h bytes count box children rest fits p in
    let read = rw all at (each_again h (node_again h) children rest p.stored).0 in
    let told = false_from_ne_true (has_corners l u (merge_of children)) (λ is. other (same ∙ sym (same_corners (merge_of children) l u is))) in
    begins ∙ rw (read, told) refl
parent_fails h bytes fits e f = absurd f

each_fails : (h : ℕ) (e : StoredError) (ns : List Tree) (n : ℕ) (rest : List ℕ) → AllByRecursion (IsStored h) ns → length ns < n → node_at h rest ≡ Err e → each_at (node_at h) n (joined (map spelling ns) ++ rest) ≡ Err e
unfolding each_at
each_fails h e [] zero rest all few wrong = absurd (omega (arith, few))
each_fails h e [] (suc n) rest all few wrong = rw wrong refl
each_fails h e (m ∷ ns) zero rest all few wrong = absurd (omega (arith, few))
each_fails h e (m ∷ ns) (suc n) rest all few wrong =
    let first = node_again h m (joined (map spelling ns) ++ rest) all.0 in
    let others = each_fails h e ns n rest all.1 (omega (arith, few)) wrong in
    ap (each_at (node_at h) (suc n)) (append_assoc (spelling m) (joined (map spelling ns)) rest) ∙ rw (first.0, others) refl

node_fails : (h : ℕ) (e : StoredError) (bytes : List ℕ) → IsBytes bytes → NodeHasFault h bytes e → node_at h bytes ≡ Err e
unfolding node_at leaf_at
node_fails zero e bytes fits f =
    let (d, refused, short) = must_refuse (point_at bytes) (point_tells bytes fits) (λ p t. omega (arith, f.1, Takes-long t.0, point_long p.0 t.1)) in
    rw (refused, short.0, f.0) refl
node_fails (suc h) e bytes fits (inl f) = parent_fails h bytes fits e f
node_fails (suc h) e bytes fits (inr (count, box, children, rest, p, few, f)) =
    let (l, u, same, begins) = begun_parent h bytes count box children rest fits p in
    let left = IsBytes-back (number count ++ box ++ joined (map spelling children)) rest (subst IsBytes p.parts fits) in
    begins ∙ rw (each_fails h e children count rest p.stored few (node_fails h e rest left f)) refl

-- ---- whole trees

module _ (bytes : List ℕ) (fits : IsBytes bytes) where
  root_fails : (e : StoredError) → RootHasFault bytes e → tree_at bytes ≡ Err e
  unfolding root_at
  root_fails e (count, below, rest, b, le, f) =
      let left = IsBytes-back (magic ++ number count) (suc below ∷ rest) (subst IsBytes b.parts fits) in
      begun_tree bytes count (suc below) rest b ∙ levels_read count (suc below ∷ rest) rest (suc below) (suc below) refl (omega (arith, le)) refl ∙ rw (node_fails (suc below) e rest (λ i. left (suc i)) f) refl

  head_fails : length bytes < 13 → (4 ≤ length bytes → take 4 bytes ≡ magic) → tree_at bytes ≡ Err Truncated
  unfolding tree_at levels_at
  head_fails few front =
      elim (cases_lt (length bytes) 4) [
        | inl lt ↦ rw (lt-ltb (length bytes) 4 lt) refl
        | inr le ↦
            elim (cases_lt (length (drop 4 bytes)) 8) [
              | inl lt ↦ rw (le-ltb (length bytes) 4 le, front le, number_short (drop 4 bytes) lt) refl
              | inr long ↦
                  let (count, read, t) = must_give (number_at (drop 4 bytes)) (number_tells (drop 4 bytes) (IsBytes-drop 4 bytes fits)) (λ e f. omega (arith, f.1, long)) in
                  let none : count.1 ≡ [] = nil_from_length count.1 (omega (arith, few, length-drop 4 bytes, Takes-long t.0, number_long count.0)) in
                  rw (le-ltb (length bytes) 4 le, front le, read, none) refl
            ]
      ]

  fails : (e : StoredError) → e ≢ NoMemory → HasFault bytes e → tree_at bytes ≡ Err e
  unfolding tree_at levels_at
  fails Truncated known (inl f) = head_fails f.0 f.1
  fails Truncated known (inr f) = root_fails Truncated f
  fails BadMagic known (long, other) = rw (le-ltb (length bytes) 4 long, false_from_ne_true (pointwise nat_eq (take 4 bytes) magic) (λ e. other (same_text (take 4 bytes) magic (sym e)))) refl
  fails BadLevel known (inl (count, height, rest, b, above)) = begun_tree bytes count height rest b ∙ rw (lt-ltb 64 height above) refl
  fails BadLevel known (inr f) = root_fails BadLevel f
  fails BadBox known f = root_fails BadBox f
  fails BadCount known (count, height, t, rest, b, le, is, other) = tree_reads bytes count height t rest b le is ∙ root_other (length (points_of t)) count t rest other
  fails Trailing known (front, rest, t, parts, some, s) =
      let n = length (points_of t) in
      let text = parts ∙ ap (λ (u : List ℕ). u ++ rest) s.spelled ∙ append_assoc (magic ++ number n) (s.height ∷ root_spelling s.height t) rest in
      tree_reads bytes n s.height t rest (record { parts = text; counted = s.counted }) s.low s.whole ∙ root_trailing n n t rest refl some
  fails NoMemory known f = absurd (known refl)
  fails TooHigh known f = absurd f

-- what a call answers: the one tree that the bytes spell, or the one fault that they have
pub answer_told : {X : Type 0} (bytes : List ℕ) (view : X → Tree) (r : Result X StoredError) → IsBytes bytes → Gives view r (tree_at bytes)
    → IfOk r (λ x. Spells bytes (view x)) × IfOk r (λ x. (t : Tree) → Spells bytes t → t ≡ view x)
    × IfErr r (λ e. e ≢ NoMemory → (t : Tree) → Spells bytes t → ⊥) × IfErr r (HasFault bytes) × IfErr r (λ e. e ≢ NoMemory → IsOnlyFault bytes e)
answer_told bytes view (Ok x) fits g = let spelled = rw g at (tree_tells bytes fits).told in (spelled, λ t s. one_tree bytes t (view x) s spelled, tt, tt, tt)
answer_told bytes view (Err e) fits (inl m) = (tt, tt, λ known. absurd (known m), subst (HasFault bytes) (sym m) tt, λ known. absurd (known m))
answer_told bytes view (Err e) fits (inr read) = (
  tt,
  tt,
  λ known t s. let both : Ok t ≡ Err e = sym (tree_again bytes t s) ∙ read in absurd cc,
  rw read at (tree_tells bytes fits).told,
  λ known d also f. let same = sym (fails bytes fits d also f) ∙ read in cc,
)
