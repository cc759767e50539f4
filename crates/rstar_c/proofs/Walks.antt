-- Numbers below nodes.
use Rattle.std.proofs.Common.{◌≡◌, ◌∙◌, ◌+◌, ◌<◌, ◌≤◌, ◌^◌, if◌then◌else◌, ℕ, zero, suc, Bool, true, List, [], ◌∷◌, ◌++◌, map, length, get_or, take, refl, sym, ap, subst, arith}
use Rattle.std.proofs.lemmas.List.{map-append}
use Rattle.std.specs.List.{flat_map}
use Rattle.rstar_c.specs.Put.{ArePut}
use Rattle.rstar.specs.declared.node.RTreeNode.{RTreeNode, Leaf, Parent}
use Rattle.rstar.specs.declared.node.ParentNode.{ParentNode}
use Rattle.rstar.specs.Nodes.{all_given, children_of, envelope_of, given, total}
use Rattle.rstar.specs.inside.Traversals.{steps}
use Rattle.rstar.proofs.trees.ByChildren.{given-Leaf, given-Parent, steps-Parent}
use Rattle.rstar_c.proofs.Puts.{put-both, flat-more}

-- a node's size is part of the sum
pub size-within : {N : Type 0} (size : N → ℕ) (nodes : List N) (i : ℕ) (node d : N) → node ≡ get_or nodes i d → i < length nodes → size node ≤ total (map size nodes)
size-within size [] i node d is lt = absurd (omega arith)
size-within size (n ∷ nodes) zero node d is lt = let e = ap size is in omega (arith, e)
size-within size (n ∷ nodes) (suc i) node d is lt = let le = size-within size nodes i node d is (omega arith) in omega (arith, le)

-- what is told of the items below nodes
pub told-below : {N A B : Type 0} (told : A → B) (below : N → List A) (nodes : List N) → flat_map (λ n. map told (below n)) nodes ≡ map told (flat_map below nodes)
told-below told below [] = refl
told-below told below (n ∷ nodes) = ap (λ bs. map told (below n) ++ bs) (told-below told below nodes) ∙ sym (map-append told (below n) (flat_map below nodes))

-- one node more
pub node-put : {N : Type 0} (numbers : N → List ℕ) (nodes : List N) (i : ℕ) (node d : N) (old out more : List ℕ) (from next last room : ℕ)
    → node ≡ get_or nodes i d → i < length nodes → room ≡ length old → room < 2 ^ 64 → ArePut (flat_map numbers (take i nodes)) from old out next
    → (xs : List ℕ) → numbers node ≡ xs → ArePut xs next out more last → ArePut (flat_map numbers (take (i + 1) nodes)) from old more last
node-put numbers nodes i node d old out more from next last room is lt long fits before xs adds now =
    subst (λ ys. ArePut ys from old more last)
    (ap (λ ys. flat_map numbers (take i nodes) ++ ys) (sym adds) ∙ ap (λ n. flat_map numbers (take i nodes) ++ numbers n) is ∙ flat-more numbers nodes i d lt)
    (put-both (flat_map numbers (take i nodes)) xs old out more from next last room long fits before now)

-- what a question sees of a node
module _ {T E : Type 0} (told : T → ℕ) (accepts : E → Bool) (selects : T → Bool) where
  abbrev pub numbers : RTreeNode T E → List ℕ
  numbers node = map told (given accepts selects node)

  pub seen-leaf : (node : RTreeNode T E) (t : T) (b : Bool) → node ≡ Leaf t → selects t ≡ b → numbers node ≡ map told (if b then t ∷ [] else [])
  seen-leaf node t b is says = ap numbers is ∙ ap (map told) (given-Leaf T E accepts selects t ∙ ap (λ (b : Bool). if b then t ∷ [] else []) says)

  pub seen-parent : (node : RTreeNode T E) (p : ParentNode T E) (b : Bool) → node ≡ Parent p → accepts (envelope_of p) ≡ b
      → numbers node ≡ map told (if b then all_given accepts selects (children_of p) else [])
  seen-parent node p b is says = ap numbers is ∙ ap (map told) (given-Parent accepts selects p ∙ ap (λ (b : Bool). if b then all_given accepts selects (children_of p) else []) says)

  pub seen-children : (node : RTreeNode T E) (p : ParentNode T E) (children : List (RTreeNode T E)) → node ≡ Parent p → accepts (envelope_of p) ≡ true → children ≡ children_of p
      → (numbers node ≡ flat_map numbers children) × (total (map steps children) < steps node)
  seen-children node p children is says same =
      let e = ap (λ ns. total (map steps ns)) same in let f = ap steps is ∙ steps-Parent p in (
        seen-parent node p true is says ∙ sym (told-below told (given accepts selects) (children_of p)) ∙ ap (flat_map numbers) (sym same),
        omega (arith, e, f),
      )
