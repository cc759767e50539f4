-- One scan of a list of nodes for the next selected element.
use Rattle.std.proofs.Common.{◌≡◌, ℕ, ℤ, zero, suc, ◌+◌, ◌<◌, ◌≤◌, Bool, true, false, List, [], ◌∷◌, ◌++◌, refl, sym, ◌∙◌, ap, subst, arith, length, get_or, set, take, drop, ◌-◌, append_assoc, length-append, Option, Some, None, IfSome, IfNone, is_some, filter, ◌⊎◌, inl, inr}
use Rattle.std.specs.List.{AllByRecursion, remove}
use Rattle.std.proofs.lemmas.Bool.{true≢false, false_from_ne_true}
use Rattle.std.proofs.lemmas.List.{append-nil, length-drop, set_split, take-append-drop}
use Rattle.std.proofs.lemmas.List.Concat.{flat_map-append}
use Rattle.std.proofs.lemmas.List.Prefix.{end_rest}
use Rattle.rstar_base.specs.Envelopes.{Boxes, EnvelopeLaws}
use Rattle.rstar_base.specs.Elements.{Objects, ObjectLaws}
use Rattle.rstar_base.specs.Hulls.{hull}
use Rattle.rstar_base.specs.Selections.{IsLawful}
use Rattle.rstar_base.proofs.Lists.{all-append, all_first, all_second}
use Rattle.rstar_base.proofs.Hulls.{hull-value, hull-append}
use Rattle.rstar.specs.declared.algorithm.removal.Rest.{Rest}
use Rattle.rstar.specs.declared.node.RTreeNode.{RTreeNode, Leaf, Parent}
use Rattle.rstar.specs.declared.node.RTreeNode.TheVariants.{outs-Leaf, outs-Parent}
use Rattle.rstar.specs.declared.node.ParentNode.{ParentNode}
use Rattle.rstar.specs.Nodes.{node_box, elements, all_elements, elements_of, IsElement, IsTree, IsTight, AreWhole}
use Rattle.rstar.specs.inside.ParentBounds.{IsKept, IsKeptInner, AreKept}
use Rattle.rstar.specs.Lists.{NoneSelected}
use Rattle.rstar.specs.inside.Removals.{IsWithout}
use Rattle.rstar.specs.inside.Taking.{IsCleared, IsPast, IsMerged, IsRest, IsRestAt, Takes, TakesInside, first_children, node_children, children_in, with_first, first_number, lower_numbers, is_selected_leaf, selects_in, is_childless, childless_in, is_nil}
use Rattle.rstar.proofs.trees.ByChildren.{by_node, elements-Leaf, elements-Parent, is_leaf, parent_of, no_leaf, no_parent, IsParentOf-Parent}
use Rattle.rstar.proofs.trees.Trees.{all_sound, values-of, merged_is_hull}
use Rattle.rstar.proofs.inserting.Insertion.{whole_of_kept}
use Rattle.rstar.proofs.selecting.Complete.{none-selected}
use Rattle.rstar.proofs.removing.Parts.{children_at, split_at, remove_set, without_middle, past_parts, past_made, past_zeros, past_nothing, rest_none, rest_nothing, rest_past, rest_parts, rest_made, rest_later, rest_stays, lower_length}

-- all leaves of the node lie h levels below it, its parents are tight and within the bound
abbrev pub IsKeptNode : {T E : Type 0} → Boxes E → Objects T E → ℕ → ℕ → RTreeNode T E → Type 0
IsKeptNode v o w h n = IsTree (IsKeptInner v o w) (IsElement v o) h n

module _ {T E : Type 0} (v : Boxes E) (o : Objects T E) (accepts : E → Bool) (selects : T → Bool) (ns : List (RTreeNode T E)) (start : List ℕ) where
  -- none of the last nodes of a list, so many, has a selected element
  abbrev pub NoneBehind : ℕ → Type 0
  NoneBehind p = IsLawful v o accepts selects → (w h : ℕ) → AreKept v o w h ns → IsPast selects start ns → NoneSelected selects (all_elements (drop (length ns - p) ns))

  -- a scan reached the node with so many behind it, and changed none
  pub record Scanned (rest0 : Option (Rest E)) (path : List ℕ) (rest : Option (Rest E)) (p : ℕ) : Type 0 where
    pub long : length path ≡ length start
    pub still : length start ≡ 0 → rest ≡ rest0
    pub rests : (w h : ℕ) → AreKept v o w h ns → IsRestAt v o rest0 start ns
        → (length path ≡ 1 → IsRest v o rest p ns) × IsRestAt v o rest (lower_numbers path) (children_at ns p)
    pub past : IsLawful v o accepts selects → (w h : ℕ) → AreKept v o w h ns → IsPast selects start ns
        → IsPast selects (lower_numbers path) (children_at ns p)

pub if_none : {A P Q : Type 0} (r : Option A) → IfNone r P → (P → Q) → IfNone r Q
if_none None p f = f p
if_none (Some x) p f = p

pub none_gives : {A P : Type 0} (r : Option A) → is_some r ≡ false → IfNone r P → P
none_gives None none p = p
none_gives (Some x) none p = cc

pub some_one : {A : Type 0} (P : Type 0) (r : Option A) → is_some r ≡ true → IfNone r P
some_one P None some = cc
some_one P (Some x) some = tt

-- where a filter keeps nothing, nothing is selected
pub filter_none : {T : Type 0} (selects : T → Bool) (ts : List T) → filter selects ts ≡ [] → NoneSelected selects ts
filter_none selects [] e = tt
filter_none selects (t ∷ ts) e =
    let is = false_from_ne_true (selects t) (λ chosen. let kept = rw chosen at e in cc) in (is, filter_none selects ts (rw is at e))

module _ {T E : Type 0} where
  children_parent : (p : ParentNode T E) → node_children (Parent p) ≡ p.children.items
  children_parent p = ap children_in (outs-Parent p)

  pub childless_parent : (p : ParentNode T E) → is_childless (Parent p) ≡ is_nil p.children.items
  childless_parent p = ap childless_in (outs-Parent p)

  -- nothing in a node is selected, where it is no selected leaf and nothing below it is selected
  node_none : (selects : T → Bool) (n : RTreeNode T E) → is_selected_leaf selects n ≡ false → NoneSelected selects (all_elements (node_children n)) → NoneSelected selects (elements n)
  node_none selects = by_node (λ (n : RTreeNode T E). is_selected_leaf selects n ≡ false → NoneSelected selects (all_elements (node_children n)) → NoneSelected selects (elements n))
      (λ t chosen below. rw (elements-Leaf T E t) (sym (ap (selects_in selects) (outs-Leaf t)) ∙ chosen, tt))
      (λ p chosen below. rw (elements-Parent p) (subst (λ ns. NoneSelected selects (all_elements ns)) (children_parent p) below))

  nil_none : (ns : List (RTreeNode T E)) → is_nil ns ≡ true → all_elements ns ≡ []
  nil_none [] empty = refl
  nil_none (n ∷ ns) empty = cc

  pub no_elements : (n : RTreeNode T E) → is_childless n ≡ true → elements n ≡ []
  no_elements = by_node (λ (n : RTreeNode T E). is_childless n ≡ true → elements n ≡ [])
      (λ t empty. absurd (true≢false (sym empty ∙ ap childless_in (outs-Leaf t))))
      (λ p empty. elements-Parent p ∙ nil_none p.children.items (sym (childless_parent p) ∙ empty))

  nil_some : (ns : List (RTreeNode T E)) → is_nil ns ≡ false → 0 < length ns
  nil_some [] e = cc
  nil_some (n ∷ ns) e = omega arith

  children_leaf : (n : RTreeNode T E) (t : T) → n ≡ Leaf t → node_children n ≡ []
  children_leaf n t e = ap node_children e ∙ ap children_in (outs-Leaf t)

  module _ (v : Boxes E) (o : Objects T E) (w : ℕ) where
    leaves_alone : (ns : List (RTreeNode T E)) (j : ℕ) → AreKept v o w 0 ns → first_children (drop j ns) ≡ []
    leaves_alone [] zero k = refl
    leaves_alone [] (suc j) k = refl
    leaves_alone (n ∷ ns) zero k = let l = is_leaf (IsElement v o) n k.0 in children_leaf n l.0 l.1
    leaves_alone (n ∷ ns) (suc j) k = leaves_alone ns j k.1

    pub below_then : (A : Type 0) (h : ℕ) (p : ParentNode T E) → IsKeptNode v o w h (Parent p) → ((h : ℕ) → IsKept v o w p → AreKept v o w h p.children.items → A) → A
    below_then A zero p k f = absurd (no_leaf _ p k)
    below_then A (suc h) p k f = let a = parent_of _ p k in f h a.0.0 a.1

    pub whole_again : (h : ℕ) (p q : ParentNode T E) → ((h : ℕ) → IsKept v o w p → AreKept v o w h p.children.items → IsKept v o w q × AreKept v o w h q.children.items)
        → IsKeptNode v o w h (Parent p) → is_childless (Parent q) ≡ false → IsKeptNode v o w h (Parent q)
    whole_again zero p q f k has = absurd (no_leaf _ p k)
    whole_again (suc h) p q f k has =
        let a = parent_of _ p k in let b = f h a.0.0 a.1 in
        IsParentOf-Parent _ q ((b.0, nil_some q.children.items (sym (childless_parent q) ∙ has)), b.1)

-- where a tight parent is not opened, nothing below it is selected
module _ {T E : Type 0} {IsPoint : List ℤ → Type 0} {v : Boxes E} {o : Objects T E} (laws : EnvelopeLaws IsPoint v) (ok : ObjectLaws v o)
    (accepts : E → Bool) (selects : T → Bool) where
  pub refused : IsLawful v o accepts selects → (h : ℕ) (p : ParentNode T E) → IsTight v o p → AreWhole v o h p.children.items → accepts p.envelope ≡ false
      → NoneSelected selects (all_elements p.children.items)
  refused lawful h p tight below no_entry =
      let all = all_sound v o h p.children.items below in
      let vm = hull-value laws o.box_of (elements_of p) (values-of laws ok (elements_of p) all) in
      filter_none selects (elements_of p)
      (none-selected laws ok accepts selects lawful (elements_of p) v.empty all laws.empty_value (ap accepts (laws.merge_empty _ vm ∙ sym tight) ∙ no_entry))

module _ {T E : Type 0} (v : Boxes E) (o : Objects T E) (accepts : E → Bool) (selects : T → Bool) where
  -- a parent that was opened
  pub entered : (p q : ParentNode T E) (path path' : List ℕ) (rest rest' : Option (Rest E)) (r : Option T)
      → Takes v o accepts selects p.children.items path rest r q.children.items path' rest'
      → ((w h : ℕ) → IsKept v o w p → AreKept v o w h p.children.items → IsRestAt v o rest path p.children.items → IsKept v o w q) → IfNone r (q ≡ p)
      → TakesInside v o accepts selects (Parent p) path rest r (Parent q) path' rest'
  entered p q path path' rest rest' r takes kept same = record {
    taken = rw (elements-Parent p, elements-Parent q) takes.taken;
    selected = takes.selected;
    whole = λ w h k spot has.
        let before = subst (IsRestAt v o rest path) (children_parent p) spot in whole_again v o w h p q (λ h' a b. (kept w h' a b before, takes.whole w h' b before)) k has;
    rests = λ w h k spot. subst (IsRestAt v o rest' path') (sym (children_parent q))
        (below_then v o w _ h p k (λ h' a b. takes.rests w h' b (subst (IsRestAt v o rest path) (children_parent p) spot)));
    still = takes.still;
    kept = if_none r same (λ e. ap Parent e);
    past = λ lawful w h k past. subst (IsPast selects path') (sym (children_parent q))
        (below_then v o w _ h p k (λ h' a b. takes.past lawful w h' b (subst (IsPast selects path) (children_parent p) past)));
    missed = if_none r takes.missed (λ missed lawful w h k past.
        rw (children_parent p) (below_then v o w _ h p k (λ h' a b. missed lawful w h' b (subst (IsPast selects path) (children_parent p) past))));
  }

  -- a parent that was not opened
  pub not_entered : {IsPoint : List ℤ → Type 0} (laws : EnvelopeLaws IsPoint v) (ok : ObjectLaws v o) (p : ParentNode T E) (path : List ℕ) (rest : Option (Rest E))
      → (accepts p.envelope ≡ false) ⊎ NoneSelected selects (all_elements p.children.items)
      → TakesInside v o accepts selects (Parent p) path rest None (Parent p) path rest
  not_entered laws ok p path rest no_entry =
      let missed = λ (lawful : IsLawful v o accepts selects) (w h : ℕ) (k : IsKeptNode v o w h (Parent p)) (past : IsPast selects path (node_children (Parent p))). rw (← children_parent p) at (below_then v o w (NoneSelected selects (all_elements p.children.items)) h p k (λ h' a b. elim no_entry [
        | inl shut ↦ refused laws ok accepts selects lawful h' p a.tight (whole_of_kept laws ok w h' p.children.items b) shut
        | inr none ↦ none
      ])) in
      assumption

  -- below a place that was set back
  module _ {path path' : List ℕ} {rest rest' : Option (Rest E)} (cleared : IsCleared path rest path' rest') where
    rest_below : (ns : List (RTreeNode T E)) → IsRestAt v o rest' (lower_numbers path') ns
    rest_below = by_path path' (λ more. cleared.none (omega (arith, more, cleared.long))) where
      by_path : (q : List ℕ) → (1 < length q → rest' ≡ None) → (ns : List (RTreeNode T E)) → IsRestAt v o rest' (lower_numbers q) ns
      by_path [] gone ns = tt
      by_path (i ∷ []) gone ns = tt
      by_path (i ∷ (j ∷ q)) gone ns = subst (λ (z : Option (Rest E)). IsRestAt v o z (j ∷ q) ns) (sym (gone (omega arith))) (rest_none v o (j ∷ q) ns)

    past_below : (ns : List (RTreeNode T E)) → IsPast selects (lower_numbers path') ns
    past_below ns = rw cleared.numbers (past_zeros selects (length (lower_numbers path)) ns)

  -- before the last node
  pub begins : (ns : List (RTreeNode T E)) (path : List ℕ) (rest : Option (Rest E)) (p : ℕ) → p ≡ first_number path
      → Scanned v o accepts selects ns path rest path rest p × NoneBehind v o accepts selects ns path p
  begins ns path rest p e = (
    record {
      long = refl;
      still = λ none. refl;
      rests = λ w h k spot. rw e (rest_parts v o rest path ns spot);
      past = λ lawful w h k past. rw e (past_parts selects path ns past).1;
    },
    λ lawful w h k past. rw e (past_parts selects path ns past).0,
  )

  module _ (old : List (RTreeNode T E)) (start : List ℕ) (rest0 : Option (Rest E)) (path : List ℕ) (rest : Option (Rest E)) (p : ℕ)
      (s : Scanned v o accepts selects old start rest0 path rest p) where
    -- all nodes were passed over
    pub finishes : length old ≤ p → (e : ℕ) → e ≡ length old → NoneBehind v o accepts selects old start p → Takes v o accepts selects old start rest0 None old (with_first path e) rest
    finishes over e is_all behind =
        let all : length old - p ≡ 0 = omega arith in let none_left : length old - e ≡ length old - p = omega arith in
        let below : length old - suc e ≡ length old - suc p = omega arith in
        record {
          taken = refl;
          selected = tt;
          whole = λ w h k spot. k;
          rests = λ w h k spot. rest_made v o rest path e old (λ one. rest_past v o rest e old (omega (arith, is_all))) (rw below (s.rests w h k spot).1);
          still = s.still;
          shorter = omega arith;
          past = λ lawful w h k past. past_made selects path e old (λ some. rw none_left (behind lawful w h k past)) (rw below (s.past lawful w h k past));
          missed = λ lawful w h k past. rw all at (behind lawful w h k past);
        }

    -- the node at i comes next
    module _ (cur : List (RTreeNode T E)) (same : cur ≡ old) (i : ℕ) (next : length cur ≡ suc (i + p)) where
      abbrev front : List (RTreeNode T E)
      front = take i cur

      abbrev back : List (RTreeNode T E)
      back = drop (suc i) cur

      last : p ≡ length back
      last = omega (arith, next, length-drop (suc i) cur)

      within : i < length cur
      within = omega (arith, next)

      module _ (n : RTreeNode T E) (here : n ≡ get_or cur i n) where
        split : old ≡ front ++ n ∷ back
        split = sym same ∙ split_at cur i n within here

        from_here : drop (length old - suc p) old ≡ n ∷ back
        from_here = rw last (end_rest old (n ∷ back) front split)

        from_behind : drop (length old - p) old ≡ back
        from_behind = rw last (end_rest old back (front ++ n ∷ []) (split ∙ sym (append_assoc front (n ∷ []) back)))

        parts_kept : (w h : ℕ) → AreKept v o w h old → AreKept v o w h front × AreKept v o w h (n ∷ back)
        parts_kept w h k =
            let parted = subst (AreKept v o w h) split k in (all_first (IsKeptNode v o w h) front (n ∷ back) parted, all_second (IsKeptNode v o w h) front (n ∷ back) parted)

        rest_inside : (w h : ℕ) → AreKept v o w h old → IsRestAt v o rest0 start old → IsRestAt v o rest (lower_numbers path) (node_children n)
        rest_inside w h k spot = rw from_here at ((s.rests w h k spot).1)

        past_inside : IsLawful v o accepts selects → (w h : ℕ) → AreKept v o w h old → IsPast selects start old → IsPast selects (lower_numbers path) (node_children n)
        past_inside lawful w h k past = rw from_here at (s.past lawful w h k past)

        -- something below it is given, and in its place are these nodes
        gives : (mid : List (RTreeNode T E)) (path' : List ℕ) (rest' : Option (Rest E)) (r : Option T) → length mid ≤ 1 → length path' ≡ length path → (length path ≤ 1 → rest' ≡ rest)
            → (0 < length start → NoneBehind v o accepts selects old start p) → is_some r ≡ true → IfSome r (λ x. selects x ≡ true) → IsWithout (elements n) r (all_elements mid)
            → ((w h : ℕ) → AreKept v o w h old → IsRestAt v o rest0 start old
            → AreKept v o w h mid × IsRestAt v o rest' (lower_numbers path') (children_at (front ++ (mid ++ back)) p))
            → (IsLawful v o accepts selects → (w h : ℕ) → AreKept v o w h old → IsPast selects start old
            → IsPast selects (lower_numbers path') (children_at (front ++ (mid ++ back)) p))
            → Takes v o accepts selects old start rest0 r (front ++ (mid ++ back)) (with_first path' p) rest'
        gives mid path' rest' r few levels stays behind some chosen without rests past =
            let new = front ++ (mid ++ back) in
            let new_behind : drop (length new - p) new ≡ back = rw last (end_rest new back (front ++ mid) (sym (append_assoc front mid back))) in
            let mids = length-append mid back in
            record {
              taken = rw (split, flat_map-append elements front (n ∷ back), flat_map-append elements front (mid ++ back), flat_map-append elements mid back)
                  (without_middle (all_elements front) (elements n) (all_elements mid) (all_elements back) r without);
              selected = chosen;
              whole = λ w h k spot. all-append (IsKeptNode v o w h) front (mid ++ back) (parts_kept w h k).0
                  (all-append (IsKeptNode v o w h) mid back (rests w h k spot).0 (parts_kept w h k).1.1);
              rests = λ w h k spot. rest_made v o rest' path' p new (λ one. rest_stays v o rest' front (n ∷ back) (mid ++ back) p (omega (arith, last)) (omega (arith, last, few, mids))
                  (rw (stays (omega (arith, one, levels))) (subst (IsRest v o rest p) split ((s.rests w h k spot).0 (omega (arith, one, levels)))))) (rests w h k spot).1;
              still = λ none. stays (omega (arith, none, s.long)) ∙ s.still none;
              shorter = omega (arith, ap length split, length-append front (n ∷ back), length-append front (mid ++ back), mids, few);
              past = λ lawful w h k before. past_made selects path' p new
                  (λ more. rw new_behind (rw from_behind at (behind (omega (arith, more, levels, s.long)) lawful w h k before))) (past lawful w h k before);
              missed = some_one _ r some;
            }

        module _ (n' : RTreeNode T E) (path' : List ℕ) (rest' : Option (Rest E)) (r : Option T)
            (ins : TakesInside v o accepts selects n (lower_numbers path) rest r n' (lower_numbers path') rest') (levels : length path' ≡ length path) where
          -- where the place ends here, what is kept is left
          stays : length path ≤ 1 → rest' ≡ rest
          stays one = ins.still (omega (arith, one, lower_length path))

          -- something below it was given, and it stays
          pub gives_inside : (0 < length start → NoneBehind v o accepts selects old start p) → is_some r ≡ true → is_childless n' ≡ false
              → Takes v o accepts selects old start rest0 r (set cur i n') (with_first path' p) rest'
          gives_inside behind some has = rw (set_split cur i n' within)
              (gives (n' ∷ []) path' rest' r (omega arith) levels stays behind some ins.selected (rw (append-nil (elements n')) ins.taken)
              (λ w h k spot. ((ins.whole w h (parts_kept w h k).1.0 (rest_inside w h k spot) has, tt), rw from_new (ins.rests w h (parts_kept w h k).1.0 (rest_inside w h k spot))))
              (λ lawful w h k past. rw from_new (ins.past lawful w h (parts_kept w h k).1.0 (past_inside lawful w h k past)))) where
                from_new : drop (length (front ++ n' ∷ back) - suc p) (front ++ n' ∷ back) ≡ n' ∷ back
                from_new = rw last (end_rest (front ++ n' ∷ back) (n' ∷ back) front refl)

          module _ (path'' : List ℕ) (rest'' : Option (Rest E)) (cleared : IsCleared path' rest' path'' rest'') where
            -- it was the last thing there
            pub gives_last : (0 < length start → NoneBehind v o accepts selects old start p) → is_some r ≡ true → is_childless n' ≡ true
                → Takes v o accepts selects old start rest0 r (remove (set cur i n') i) (with_first path'' p) rest''
            gives_last behind some empty = rw (remove_set cur i n')
                (gives [] path'' rest'' r (omega arith) (cleared.long ∙ levels) (λ one. cleared.still (omega (arith, one, levels)) ∙ stays one) behind some ins.selected
                (rw (no_elements n' empty) at ins.taken) (λ w h k spot. (tt, rest_below cleared (children_at (front ++ back) p)))
                (λ lawful w h k past. past_below cleared (children_at (front ++ back) p)))

            -- nothing was, and it is passed over
            pub passes : NoneBehind v o accepts selects old start p → is_some r ≡ false → is_selected_leaf selects n ≡ false
                → Scanned v o accepts selects old start rest0 path'' rest'' (p + 1) × NoneBehind v o accepts selects old start (p + 1)
            passes behind none chosen =
                let one_more : p + 1 ≡ suc p = omega arith in
                let missed = none_gives r none ins.missed in (
                  record {
                    long = cleared.long ∙ levels ∙ s.long;
                    still = λ zeros. cleared.still (omega (arith, zeros, levels, s.long)) ∙ stays (omega (arith, zeros, s.long)) ∙ s.still zeros;
                    rests = λ w h k spot. (
                      λ one. rw (cleared.still (omega (arith, one, cleared.long)) ∙ stays (omega (arith, one, cleared.long, levels)))
                          (rest_later v o rest p (p + 1) old (omega arith) ((s.rests w h k spot).0 (omega (arith, one, cleared.long, levels)))),
                      rest_below cleared (children_at old (p + 1)),
                    );
                    past = λ lawful w h k past. past_below cleared (children_at old (p + 1));
                  },
                  λ lawful w h k past. rw (one_more, from_here) (all-append (λ t. selects t ≡ false) (elements n) (all_elements back)
                      (node_none selects n chosen (missed lawful w h (parts_kept w h k).1.0 (past_inside lawful w h k past)))
                      (rw from_behind at (behind lawful w h k past))),
                )

      -- it is a leaf that is given
      pub gives_leaf : (t : T) → Leaf t ≡ get_or cur i (Leaf t) → (0 < length start → NoneBehind v o accepts selects old start p) → selects t ≡ true
          → Takes v o accepts selects old start rest0 (Some t) (remove cur i) (with_first path p) rest
      gives_leaf t here behind chosen = gives (Leaf t) here [] path rest (Some t) (omega arith) refl (λ one. refl) behind refl chosen
          (record { before = []; after = []; was = elements-Leaf T E t; is = refl })
          (λ w h k spot. (tt, rw (alone w h k) (rest_nothing v o rest (lower_numbers path)))) (λ lawful w h k past. rw (alone w h k) (past_nothing E selects (lower_numbers path))) where
            -- beside a leaf stand leaves alone
            alone : (w h : ℕ) → AreKept v o w h old → children_at (front ++ back) p ≡ []
            alone w zero k = let kept = parts_kept (Leaf t) here w 0 k in leaves_alone v o w (front ++ back) (length (front ++ back) - suc p) (all-append (IsKeptNode v o w 0) front back kept.0 kept.1.1)
            alone w (suc h) k = absurd (no_parent _ t (parts_kept (Leaf t) here w (suc h) k).1.0)

  -- a place of no levels says nothing: so a node is taken wherever it stands
  pub nowhere : (ns : List (RTreeNode T E)) (p : ℕ) → Scanned v o accepts selects ns [] None [] None p
  nowhere ns p = record { long = refl; still = λ none. refl; rests = λ w h k spot. (λ one. absurd (omega (arith, one)), tt); past = λ lawful w h k past. tt }

  module _ (ns : List (RTreeNode T E)) (i : ℕ) (within_list : i < length ns) where
    abbrev after : ℕ
    after = length (drop (suc i) ns)

    at_i : length ns ≡ suc (i + after)
    at_i = omega (arith, within_list, length-drop (suc i) ns)

    no_level : 0 < 0 → NoneBehind v o accepts selects ns [] after
    no_level some = absurd (omega (arith, some))

    pub takes_leaf : (t : T) → Leaf t ≡ get_or ns i (Leaf t) → selects t ≡ true → Takes v o accepts selects ns [] None (Some t) (remove ns i) [] None
    takes_leaf t here chosen = gives_leaf ns [] None [] None after (nowhere ns after) ns refl i at_i t here no_level chosen

    module _ (n n' : RTreeNode T E) (r : Option T) (here : n ≡ get_or ns i n) (ins : TakesInside v o accepts selects n [] None r n' [] None) (some : is_some r ≡ true) where
      pub takes_below : is_childless n' ≡ false → Takes v o accepts selects ns [] None r (set ns i n') [] None
      takes_below has = gives_inside ns [] None [] None after (nowhere ns after) ns refl i at_i n here n' [] None r ins refl no_level some has

      pub takes_last : is_childless n' ≡ true → Takes v o accepts selects ns [] None r (remove (set ns i n') i) [] None
      takes_last empty = gives_last ns [] None [] None after (nowhere ns after) ns refl i at_i n here n' [] None r ins refl [] None
          (record { long = refl; numbers = refl; still = λ one. refl; none = λ more. refl }) no_level some empty

-- the merge of the envelopes of nodes, in two parts
module _ {T E : Type 0} {IsPoint : List ℤ → Type 0} {v : Boxes E} (laws : EnvelopeLaws IsPoint v) (o : Objects T E) where
  pub merged_parts : (rest : Rest E) (ns back : List (RTreeNode T E)) (x : E) → back ≡ drop rest.count ns → IsMerged v o rest ns
      → AllByRecursion (λ n. v.IsValue (node_box o.box_of n)) back → x ≡ v.merge rest.envelope (hull v (node_box o.box_of) back) → x ≡ hull v (node_box o.box_of) ns
  merged_parts rest ns back x behind front values made =
      made ∙ ap (λ (e : E). v.merge e (hull v (node_box o.box_of) back)) front.merged
      ∙ sym (hull-append laws (node_box o.box_of) (take rest.count ns) back front.values values)
      ∙ ap (hull v (node_box o.box_of)) (ap (λ (l : List (RTreeNode T E)). take rest.count ns ++ l) behind ∙ take-append-drop rest.count ns)

-- a parent whose list lost some children, and whose envelope was made anew, is kept
module _ {T E : Type 0} {IsPoint : List ℤ → Type 0} {v : Boxes E} {o : Objects T E} (laws : EnvelopeLaws IsPoint v) (ok : ObjectLaws v o) (w : ℕ) where
  pub kept_anew : (h : ℕ) (p q : ParentNode T E) → IsKept v o w p → AreKept v o w h q.children.items → length q.children.items ≤ length p.children.items
      → q.envelope ≡ hull v (node_box o.box_of) q.children.items → IsKept v o w q
  kept_anew h p q kept below short made = record {
    tight = made ∙ merged_is_hull laws ok h q.children.items (whole_of_kept laws ok w h q.children.items below);
    narrow = omega (arith, short, kept.narrow);
  }

  -- so is one whose envelope stayed, where the merge of its children's is what it was
  pub kept_still : (h : ℕ) (p q : ParentNode T E) → IsKept v o w p → AreKept v o w h p.children.items → AreKept v o w h q.children.items
      → length q.children.items ≤ length p.children.items → q.envelope ≡ p.envelope
      → hull v (node_box o.box_of) q.children.items ≡ hull v (node_box o.box_of) p.children.items → IsKept v o w q
  kept_still h p q kept before below short stayed hulls =
      kept_anew h p q kept below short
      (stayed ∙ kept.tight ∙ sym (merged_is_hull laws ok h p.children.items (whole_of_kept laws ok w h p.children.items before)) ∙ sym hulls)

-- a merge with another item of the same envelope in the place of one
pub hull_set : {A E : Type 0} (v : Boxes E) (f : A → E) (xs : List A) (i : ℕ) (n n' : A) → i < length xs → n ≡ get_or xs i n → f n' ≡ f n
    → hull v f (set xs i n') ≡ hull v f xs
hull_set v f [] i n n' within here same = absurd (omega (arith, within))
hull_set v f (x ∷ xs) zero n n' within here same = ap (λ b. v.merge b (hull v f xs)) (same ∙ ap f here)
hull_set v f (x ∷ xs) (suc i) n n' within here same = ap (v.merge (f x)) (hull_set v f xs i n n' (omega (arith, within)) here same)
