-- One pass that moves selected elements out of a tree.
use Rattle.std.proofs.Common.{◌≡◌, ◌≢◌, ℕ, ℤ, suc, ◌+◌, ◌-◌, ◌<◌, ◌≤◌, inl, inr, Bool, true, false, List, [], ◌∷◌, ◌++◌, refl, sym, ◌∙◌, ap, subst, arith, length, get_or, set, append_assoc, append-nil, length-append, length-set, get_or-set_same, get_or-set_other, IsPermutation, if◌then◌else◌, ◌==◌, vec_len}
use Rattle.std.specs.List.{remove, swap_remove}
use Rattle.std.proofs.Math.Dec.{eqb-suc-zero}
use Rattle.std.proofs.lemmas.List.{nil_from_length, set-get_or}
use Rattle.std.proofs.lemmas.List.Elements.{recursion_from_All}
use Rattle.std.proofs.lemmas.List.Sorted.{IsPermutation-refl, IsPermutation-sym, IsPermutation-trans, IsPermutation-append_left, IsPermutation-append_right, IsPermutation-remove, IsPermutation-swap_remove, length_permutation}
use Rattle.std.proofs.lemmas.Bool.Decides.{eqb_tells}
use Rattle.rstar_base.specs.Envelopes.{Boxes, EnvelopeLaws}
use Rattle.rstar_base.specs.Elements.{Objects, ObjectLaws}
use Rattle.rstar_base.specs.Selections.{IsLawful}
use Rattle.rstar_base.proofs.Along.{IsPermutation-flat_map}
use Rattle.rstar_base.proofs.Hulls.{hull_along}
use Rattle.rstar_base.proofs.Lists.{all-append}
use Rattle.rstar.specs.declared.node.RTreeNode.{RTreeNode, Leaf, Parent}
use Rattle.rstar.specs.declared.node.ParentNode.{ParentNode}
use Rattle.rstar.specs.declared.rtree.RTree.{RTree}
use Rattle.rstar.specs.Nodes.{children_of, elements, all_elements}
use Rattle.rstar.specs.inside.ParentBounds.{IsKept, AreKept}
use Rattle.rstar.specs.Lists.{NoneSelected}
use Rattle.rstar.specs.Trees.{root_of, IsWholeTree}
use Rattle.rstar.specs.inside.Taking.{is_childless, is_nil}
use Rattle.rstar.specs.inside.Gathering.{Gathers, GathersAmong, IsSwappedOut}
use Rattle.rstar.proofs.inserting.Insertion.{whole_of_kept}
use Rattle.rstar.proofs.removing.Parts.{remove_set, same_read}
use Rattle.rstar.proofs.lists.Items.{all_set, all_get}
use Rattle.rstar.proofs.removing.Removed.{kept_of, whole_still}
use Rattle.rstar.proofs.trees.ByChildren.{elements-Leaf, elements-Parent}
use Rattle.rstar.proofs.removing.Scans.{IsKeptNode, no_elements, childless_parent, below_then, whole_again, refused, kept_still}
use Rattle.rstar.proofs.trees.Trees.{all_sound, values-of, merged_is_hull}

-- ---- lists of elements

module _ {T : Type 0} (selects : T → Bool) (most : ℕ) where
  pub moved_none : (old held new : List T) → IsPermutation old new → Gathers selects most old held new held
  moved_none old held new same = record { more = []; held_more = sym (append-nil held); bag = same; selected = tt; few = λ few. few }

  moved_leaf : (t : T) (held : List T) → selects t ≡ true → length held < most → Gathers selects most (t ∷ []) held [] (held ++ t ∷ [])
  moved_leaf t held chosen less = record {
    more = t ∷ [];
    held_more = refl;
    bag = IsPermutation-refl (t ∷ []);
    selected = (chosen, tt);
    few = λ few. let long = length-append held (t ∷ []) in omega arith;
  }

  -- and then out of a part of what was left
  moved_on : (old held cur held' part part' rest new held'' : List T) → Gathers selects most old held cur held' → Gathers selects most part held' part' held''
      → IsPermutation cur (part ++ rest) → IsPermutation (part' ++ rest) new → Gathers selects most old held new held''
  moved_on old held cur held' part part' rest new held'' f g before after = record {
    more = f.more ++ g.more;
    held_more = g.held_more ∙ ap (λ l. l ++ g.more) f.held_more ∙ append_assoc held f.more g.more;
    bag = rw (append_assoc f.more g.more new) (IsPermutation-trans _ _ _ f.bag (IsPermutation-append_right f.more cur (g.more ++ new)
        (IsPermutation-trans _ _ _ before (IsPermutation-trans _ _ _ (IsPermutation-append_left rest part (g.more ++ part') g.bag)
        (rw (append_assoc g.more part' rest) (IsPermutation-append_right g.more (part' ++ rest) new after))))));
    selected = all-append (λ x. selects x ≡ true) f.more g.more f.selected g.selected;
    few = λ few. g.few (f.few few);
  }

  pub held_longer : (old held new held' : List T) → Gathers selects most old held new held' → length held ≤ length held'
  held_longer old held new held' f = let long = ap length f.held_more in let both = length-append held f.more in omega arith

  -- none is lost
  pub moved_count : (old held new held' : List T) → Gathers selects most old held new held' → length held + length old ≡ length held' + length new
  moved_count old held new held' f =
      let long = ap length f.held_more in let both = length-append held f.more in let bag = length_permutation _ _ f.bag in let all = length-append f.more new in omega arith

  -- where the list did not grow, the elements stay
  pub same_elements : (old held new held' : List T) → Gathers selects most old held new held' → length held' ≤ length held → IsPermutation old new
  same_elements old held new held' f short =
      let none = nil_from_length f.more (omega (arith, short, ap length f.held_more, length-append held f.more)) in rw none at f.bag

-- ---- lists of which the item at i went, and the last one took its place

module _ {A : Type 0} where
  -- by the lengths n and n' of the two
  pub swapped_out : (xs ys : List A) (i n n' : ℕ) (x : A) → n ≡ length xs → n' ≡ length ys → i < n → x ≡ get_or xs i x → ys ≡ swap_remove xs i x → n' + 1 ≡ n
      → ((d : A) → i + 1 < n → get_or ys i d ≡ get_or xs (n - 1) d) × ((k : ℕ) (d : A) → k ≢ i → k + 1 < n → get_or ys k d ≡ get_or xs k d) → IsSwappedOut xs i ys
  swapped_out xs ys i n n' x many many' within here is long at =
      let inside : i < length xs = omega (arith, many, within) in
      record {
        bag = λ y there. subst (λ (z : A). IsPermutation xs (z ∷ ys)) (same_read xs i x y inside here there) (subst (λ (l : List A). IsPermutation xs (x ∷ l)) (sym is) (IsPermutation-swap_remove xs i x inside here));
        long = omega (arith, many, many', long);
        last = λ d lt. subst (λ m. get_or ys i d ≡ get_or xs (m - 1) d) many (at.0 d (omega (arith, lt, many)));
        others = λ k d other lt. at.1 k d other (omega (arith, lt, many));
      }

module _ {A : Type 0} (F : A → Type 0) where
  -- what holds of the others, from some place on, holds of all that are left from there on
  pub each_left : (xs : List A) (i : ℕ) (ys : List A) → IsSwappedOut xs i ys → (low : ℕ) → i < length xs → ((k : ℕ) (d : A) → low ≤ k → k ≢ i → k < length xs → F (get_or xs k d))
      → (k : ℕ) (d : A) → low ≤ k → k < length ys → F (get_or ys k d)
  each_left xs i ys out low within others k d on lt =
      let long = out.long in
      elim (eqb_tells k i) as (λ _. F (get_or ys k d)) [
        | inl w ↦
            let one = w.1 in
            subst F (sym (ap (λ j. get_or ys j d) one ∙ out.last d (omega (arith, lt, long, one))))
            (others (length xs - 1) d (omega (arith, on, lt, long)) (λ e. omega (arith, e, lt, long, one)) (omega (arith, within)))
        | inr w ↦ subst F (sym (out.others k d w.1 (omega (arith, lt, long)))) (others k d on w.1 (omega (arith, lt, long)))
      ]

-- ---- lists of nodes

module _ {T E : Type 0} where
  -- the elements of one node, and of the others
  elements_out : (ns : List (RTreeNode T E)) (i : ℕ) (n : RTreeNode T E) → i < length ns → n ≡ get_or ns i n → IsPermutation (all_elements ns) (elements n ++ all_elements (remove ns i))
  elements_out ns i n within here = IsPermutation-flat_map elements ns (n ∷ remove ns i) (IsPermutation-remove ns i n within here)

  elements_put : (ns : List (RTreeNode T E)) (i : ℕ) (n : RTreeNode T E) → i < length ns → IsPermutation (elements n ++ all_elements (remove ns i)) (all_elements (set ns i n))
  elements_put ns i n within =
      let long = length-set ns i n in
      IsPermutation-sym _ _ (subst (λ (l : List (RTreeNode T E)). IsPermutation (all_elements (set ns i n)) (elements n ++ all_elements l)) (remove_set ns i n)
      (elements_out (set ns i n) i n (omega arith) (sym (get_or-set_same ns i n n within))))

  elements_swapped : (ns : List (RTreeNode T E)) (i : ℕ) (n : RTreeNode T E) (ns' : List (RTreeNode T E)) → IsSwappedOut ns i ns' → n ≡ get_or ns i n → IsPermutation (all_elements ns) (elements n ++ all_elements ns')
  elements_swapped ns i n ns' out here = IsPermutation-flat_map elements ns (n ∷ ns') (out.bag n here)

  nil_length : (ns : List (RTreeNode T E)) → is_nil ns ≡ (length ns == 0)
  nil_length [] = refl
  nil_length (n ∷ ns) = sym (eqb-suc-zero (length ns))

  -- nothing is selected where nothing is in any node
  none_each : (selects : T → Bool) (ns : List (RTreeNode T E)) → ((k : ℕ) (d : RTreeNode T E) → k < length ns → NoneSelected selects (elements (get_or ns k d))) → NoneSelected selects (all_elements ns)
  none_each selects [] each = tt
  none_each selects (n ∷ ns) each = all-append (λ t. selects t ≡ false) (elements n) (all_elements ns) (each 0 n (omega arith)) (none_each selects ns (λ k d lt. each (suc k) d (omega (arith, lt))))

-- ---- the pass over a list

module _ {T E : Type 0} (v : Boxes E) (o : Objects T E) (accepts : E → Bool) (selects : T → Bool) (most : ℕ) where
  -- so far it went: the first nodes are left, and below the others nothing is selected where there is still room
  pub record Gathering (old : List (RTreeNode T E)) (held : List T) (cur : List (RTreeNode T E)) (held' : List T) (left : ℕ) : Type 0 where
    pub moved : Gathers selects most (all_elements old) held (all_elements cur) held'
    pub shorter : length cur ≤ length old
    pub within : left ≤ length cur
    pub first : (k : ℕ) (d : RTreeNode T E) → k < left → get_or cur k d ≡ get_or old k d
    pub kept : (w h : ℕ) → AreKept v o w h old → AreKept v o w h cur
    pub passed : IsLawful v o accepts selects → length held' < most → (w h : ℕ) → AreKept v o w h old
        → (k : ℕ) (d : RTreeNode T E) → left ≤ k → k < length cur → NoneSelected selects (elements (get_or cur k d))

  pub gathering_begins : (ns : List (RTreeNode T E)) (held : List T) (left : ℕ) → left ≡ length ns → Gathering ns held ns held left
  gathering_begins ns held left all = record {
    moved = moved_none selects most (all_elements ns) held (all_elements ns) (IsPermutation-refl _);
    shorter = omega arith;
    within = omega arith;
    first = λ k d lt. refl;
    kept = λ w h k. k;
    passed = λ lawful less w h kept k d on lt. absurd (omega (arith, all, on, lt));
  }

  module _ (old : List (RTreeNode T E)) (held : List T) (cur : List (RTreeNode T E)) (held' : List T) where
    -- none is left, or there is no room
    pub gathering_ends : (left : ℕ) → Gathering old held cur held' left → (length held' < most → left ≡ 0) → GathersAmong v o accepts selects most old held cur held'
    gathering_ends left s over =
        let ended = λ (lawful : IsLawful v o accepts selects) (less : length held' < most) (w h : ℕ) (kept : AreKept v o w h old). none_each selects cur (λ k d lt. s.passed lawful less w h kept k d (omega (arith, over less)) lt) in
        assumption

    module _ (left i : ℕ) (s : Gathering old held cur held' left) (next : left ≡ suc i) where
      here_within : i < length cur
      here_within = let w = s.within in omega (arith, w, next)

      here_kept : (w h : ℕ) (n : RTreeNode T E) → n ≡ get_or cur i n → AreKept v o w h old → IsKeptNode v o w h n
      here_kept w h n here k = subst (IsKeptNode v o w h) (sym here) (all_get (IsKeptNode v o w h) cur i n here_within (s.kept w h k))

      module _ (n' : RTreeNode T E) (held'' : List T) (room : length held'' < most → length held' < most) where
        others_passed : IsLawful v o accepts selects → length held'' < most → (w h : ℕ) → AreKept v o w h old
            → (k : ℕ) (d : RTreeNode T E) → i ≤ k → k ≢ i → k < length (set cur i n') → NoneSelected selects (elements (get_or (set cur i n') k d))
        others_passed lawful less w h kept k d on other lt = rw (get_or-set_other cur i k n' d other)
            (s.passed lawful (room less) w h kept k d (omega (arith, on, other, next)) (omega (arith, lt, length-set cur i n')))

        -- the node at i goes, and what it holds is moved
        goes : (held1 : List T) (cur' : List (RTreeNode T E)) → Gathers selects most (all_elements old) held (all_elements (set cur i n')) held1 → Gathers selects most (elements n') held1 [] held''
            → IsSwappedOut (set cur i n') i cur' → Gathering old held cur' held'' i
        goes held1 cur' before at_last out =
            let long = length-set cur i n' in let short = s.shorter in let within = here_within in let less_one = out.long in
            record {
              moved = moved_on selects most (all_elements old) held (all_elements (set cur i n')) held1 (elements n') [] (all_elements cur') (all_elements cur') held'' before at_last
                  (elements_swapped (set cur i n') i n' cur' out (sym (get_or-set_same cur i n' n' within))) (IsPermutation-refl (all_elements cur'));
              shorter = omega arith;
              within = omega arith;
              first = λ k d lt. out.others k d (λ e. omega (arith, e, lt)) (omega (arith, lt, within, long)) ∙ get_or-set_other cur i k n' d (λ e. omega (arith, e, lt)) ∙ s.first k d (omega (arith, lt, next));
              kept = λ w h k. recursion_from_All (IsKeptNode v o w h) cur' (λ j d lt. each_left (IsKeptNode v o w h) (set cur i n') i cur' out 0 (omega (arith, within, long))
                  (λ l e on other lt'. rw (get_or-set_other cur i l n' e other) (all_get (IsKeptNode v o w h) cur l e (omega (arith, lt', long)) (s.kept w h k))) j d (omega arith) lt);
              passed = λ lawful less w h kept. each_left (λ x. NoneSelected selects (elements x)) (set cur i n') i cur' out i (omega (arith, within, long)) (others_passed lawful less w h kept);
            }

        -- the node at i stays, or what is left of it
        left_there : (n : RTreeNode T E) → n ≡ get_or cur i n → Gathers selects most (all_elements old) held (all_elements (set cur i n')) held'' → ((w h : ℕ) → IsKeptNode v o w h n → IsKeptNode v o w h n')
            → (IsLawful v o accepts selects → length held'' < most → (w h : ℕ) → IsKeptNode v o w h n → NoneSelected selects (elements n')) → Gathering old held (set cur i n') held'' i
        left_there n here moved kept none =
            let long = length-set cur i n' in let short = s.shorter in let within = here_within in
            record {
              moved = moved;
              shorter = omega arith;
              within = omega arith;
              first = λ k d lt. get_or-set_other cur i k n' d (λ e. omega (arith, e, lt)) ∙ s.first k d (omega (arith, lt, next));
              kept = λ w h k. all_set (IsKeptNode v o w h) cur i n' (s.kept w h k) (kept w h (here_kept w h n here k));
              passed = λ lawful less w h all k d on lt. elim (eqb_tells k i) as (λ _. NoneSelected selects (elements (get_or (set cur i n') k d))) [
                | inl w' ↦ rw (w'.1, get_or-set_same cur i n' d within) (none lawful less w h (here_kept w h n here all))
                | inr w' ↦ others_passed lawful less w h all k d on w'.1 lt
              ];
            }

      -- a selected leaf goes
      pub takes_leaf : (t : T) (cur' : List (RTreeNode T E)) → Leaf t ≡ get_or cur i (Leaf t) → selects t ≡ true → length held' < most → IsSwappedOut cur i cur'
          → Gathering old held cur' (held' ++ t ∷ []) i
      takes_leaf t cur' here chosen room out =
          let same : set cur i (Leaf t) ≡ cur = ap (set cur i) here ∙ set-get_or cur i (Leaf t) in
          goes (Leaf t) (held' ++ t ∷ []) (λ less. room) held' cur' (rw same s.moved) (rw (elements-Leaf T E t) (moved_leaf selects most t held' chosen room)) (rw same out)

      -- nothing in it is selected
      pub stays : (n : RTreeNode T E) → n ≡ get_or cur i n → (IsLawful v o accepts selects → (w h : ℕ) → IsKeptNode v o w h n → NoneSelected selects (elements n)) → Gathering old held (set cur i n) held' i
      stays n here none = left_there n held' (λ less. less) n here (rw (ap (set cur i) here ∙ set-get_or cur i n) s.moved) (λ w h k. k) (λ lawful less. none lawful)

      -- a parent that is opened
      module _ (p q : ParentNode T E) (held'' : List T) (here : Parent p ≡ get_or cur i (Parent p)) (among : GathersAmong v o accepts selects most p.children.items held' q.children.items held'') where
        moved_inside : Gathers selects most (all_elements old) held (all_elements (set cur i (Parent q))) held''
        moved_inside = moved_on selects most (all_elements old) held (all_elements cur) held' (elements (Parent p)) (elements (Parent q)) (all_elements (remove cur i)) (all_elements (set cur i (Parent q))) held'' s.moved
            (rw (elements-Parent p, elements-Parent q) among.moved) (elements_out cur i (Parent p) here_within here) (elements_put cur i (Parent q) here_within)

        room_before : length held'' < most → length held' < most
        room_before less = let grown = held_longer selects most _ _ _ _ among.moved in omega (arith, less, grown)

        childless : is_childless (Parent q) ≡ (vec_len q.children == 0)
        childless = childless_parent q ∙ nil_length q.children.items ∙ ap (λ n. n == 0) (sym q.children.ok.0)

        -- it stays, without what went
        pub goes_inside : ((w h : ℕ) → IsKept v o w p → AreKept v o w h p.children.items → IsKept v o w q) → (vec_len q.children == 0) ≡ false → Gathering old held (set cur i (Parent q)) held'' i
        goes_inside kept has = left_there (Parent q) held'' room_before (Parent p) here moved_inside (λ w h k. whole_again v o w h p q (λ h' a b. (kept w h' a b, among.kept w h' b)) k (childless ∙ has))
            (λ lawful less w h k. rw (elements-Parent q) (below_then v o w (NoneSelected selects (all_elements q.children.items)) h p k (λ h' a b. among.ended lawful less w h' b)))

        -- it lost its last child, and goes too
        pub drops_childless : (vec_len q.children == 0) ≡ true → (cur' : List (RTreeNode T E)) → IsSwappedOut (set cur i (Parent q)) i cur' → Gathering old held cur' held'' i
        drops_childless empty cur' = goes (Parent q) held'' room_before held'' cur' moved_inside (rw (no_elements (Parent q) (childless ∙ empty)) (moved_none selects most [] held'' [] (IsPermutation-refl [])))

  -- a parent that is not opened
  pub not_opened : {IsPoint : List ℤ → Type 0} (laws : EnvelopeLaws IsPoint v) (ok : ObjectLaws v o) (p : ParentNode T E) → accepts p.envelope ≡ false
      → IsLawful v o accepts selects → (w h : ℕ) → IsKeptNode v o w h (Parent p) → NoneSelected selects (elements (Parent p))
  not_opened laws ok p no_entry lawful w h k = rw (elements-Parent p)
      (below_then v o w (NoneSelected selects (all_elements p.children.items)) h p k (λ h' a b. refused laws ok accepts selects lawful h' p a.tight (whole_of_kept laws ok w h' p.children.items b) no_entry))

-- a parent below which nothing went is kept
module _ {T E : Type 0} {IsPoint : List ℤ → Type 0} {v : Boxes E} {o : Objects T E} (laws : EnvelopeLaws IsPoint v) (ok : ObjectLaws v o) (w : ℕ) where
  pub kept_alike : (h : ℕ) (p q : ParentNode T E) → IsKept v o w p → AreKept v o w h p.children.items → AreKept v o w h q.children.items
      → length q.children.items ≤ length p.children.items → q.envelope ≡ p.envelope
      → IsPermutation (all_elements p.children.items) (all_elements q.children.items) → IsKept v o w q
  kept_alike h p q kept before below short stayed bag =
      let whole = whole_of_kept laws ok w h p.children.items before in
      kept_still laws ok w h p q kept before below short stayed
      (merged_is_hull laws ok h q.children.items (whole_of_kept laws ok w h q.children.items below)
      ∙ sym (hull_along laws o.box_of _ _ bag (values-of laws ok _ (all_sound v o h p.children.items whole))).0 ∙ sym (merged_is_hull laws ok h p.children.items whole))

-- ---- a tree, below whose root some went

module _ {T E : Type 0} {IsPoint : List ℤ → Type 0} {v : Boxes E} {o : Objects T E} (laws : EnvelopeLaws IsPoint v) (ok : ObjectLaws v o) (max : ℕ)
    (accepts : E → Bool) (selects : T → Bool) (most : ℕ) {D P S X : Type 0} (old : RTree T D E P S X) (new : ParentNode T E) (held held' : List T) (whole : IsWholeTree v o max old)
    (some : children_of (root_of old) ≢ []) (among : GathersAmong v o accepts selects most (children_of (root_of old)) held (children_of new) held') where
  pub none_ended : IsLawful v o accepts selects → length held' < most → NoneSelected selects (all_elements (children_of new))
  none_ended lawful room = let before = kept_of laws ok max old whole some in among.ended lawful room old.reserve.widest before.0 before.2

  -- len and before are how many are held then, and were before
  module _ (len before : ℕ) (len_is : len ≡ length held') (before_is : before ≡ length held) where
    pub fewer_gone : len - before ≤ old.size
    unfolding IsWholeTree
    fewer_gone =
        let all = whole.counted in let same = moved_count selects most _ _ _ _ among.moved in omega arith

    abbrev left_of : ℕ → RTree T D E P S X
    left_of levels = record { root = new; size = old.size - (len - before); levels = levels; reserve = old.reserve; params = old.params }

    pub whole_left : (levels : ℕ) → ((w h : ℕ) → IsKept v o w (root_of old) → AreKept v o w h (children_of (root_of old)) → IsKept v o w new)
        → levels ≡ (if vec_len new.children == 0 then 0 else old.levels) → IsWholeTree v o max (left_of levels)
    unfolding IsWholeTree
    whole_left levels kept is_left =
        let k = kept_of laws ok max old whole some in
        let all = whole.counted in let same = moved_count selects most _ _ _ _ among.moved in let grown = held_longer selects most _ _ _ _ among.moved in
        let counted : old.size - (len - before) ≡ length (all_elements (children_of new)) = omega arith in
        whole_still laws ok max old (left_of levels) whole some k.0 k.2
        (kept old.reserve.widest k.0 k.1 k.2) (among.kept old.reserve.widest k.0 k.2) refl counted is_left
