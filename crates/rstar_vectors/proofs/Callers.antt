-- What callers have of the clauses of selections, joins and trees.
use Rattle.std.proofs.Common.{◌≡◌, ◌∙◌, ℕ, Bool, List, length, min, ap, subst, sym}
use Rattle.std.specs.List.Sorted.{IsPermutation}
use Rattle.rstar.specs.declared.iterators.joins.IntersectionIterator.{IntersectionIterator}
use Rattle.rstar.specs.Joins.{meet_by, right_root, IsJoinMade}
use Rattle.rstar.specs.Meets.{meet_of_roots}
use Rattle.rstar.specs.declared.iterators.selection.SelectionIterator.{SelectionIterator}
use Rattle.rstar.specs.declared.node.ParentNode.{ParentNode}
use Rattle.rstar.specs.declared.rtree.RTree.{RTree}
use Rattle.rstar.specs.Nodes.{envelope_of, reach_of}
use Rattle.rstar.specs.Trees.{root_of, elements_in, IsWholeTree}
use Rattle.rstar_base.specs.Envelopes.{Boxes}
use Rattle.rstar_base.specs.Elements.{Objects}
use Rattle.rstar_base.specs.Counts.{usize_max, counted_boxes, counted_objects}
use Rattle.rstar_base.specs.laws.CountedLaws.{hull_count}
use Rattle.rstar.specs.Selections.{IsMade, reach_by, root_walked}

-- how many parents a selection has opened in the end, by the question that it was made with
pub reached : {T F E : Type 0} {accepts : F → E → Bool} {over : ParentNode T E} {asked : E → Bool} {it : SelectionIterator T F E}
    → IsMade accepts over asked it → reach_by accepts it ≡ reach_of asked over
reached {asked = asked} {it = it} made = ap (λ a. reach_of a (root_walked it)) made.question ∙ ap (reach_of asked) made.root

-- the same, as far as a number goes
pub opened-in : {T F E : Type 0} {accepts : F → E → Bool} {over : ParentNode T E} {asked : E → Bool} {it : SelectionIterator T F E} {n : ℕ}
    → n ≡ min (reach_by accepts it) usize_max → IsMade accepts over asked it → n ≡ min (reach_of asked over) usize_max
opened-in opened made = opened ∙ ap (λ m. min m usize_max) (reached made)

-- how many pairs of nodes a join has opened in the end, by the roots that it was made with
pub met : {T E U F : Type 0} {meets : E → F → Bool} {left_box : T → E} {right_box : U → F} {left : ParentNode T E} {right : ParentNode U F} {it : IntersectionIterator T U E F}
    → IsJoinMade meets left_box right_box left right it → meet_by meets left_box right_box it ≡ meet_of_roots meets left_box right_box left right
met {meets = meets} {left_box} {right_box} {left} {right} {it} made =
    ap (λ root. meet_of_roots meets left_box right_box root (right_root it)) made.left_over ∙ ap (meet_of_roots meets left_box right_box left) made.right_over

-- a list that is another, which is a reordering of a third
pub listed : {A : Type 0} {xs ys zs : List A} → xs ≡ ys → IsPermutation ys zs → IsPermutation xs zs
listed {A} {zs = zs} e p = subst (λ (l : List A). IsPermutation l zs) (sym e) p

-- the root of a whole tree counts each element once
pub counts_all : {T D E P S X : Type 0} (v : Boxes E) (o : Objects T E) (max : ℕ) (tree : RTree T D (E × ℕ) P S X) → IsWholeTree (counted_boxes v) (counted_objects v o) max tree
    → (envelope_of (root_of tree)).1 ≡ min (length (elements_in tree)) usize_max
unfolding IsWholeTree
counts_all {E = E} v o max tree whole = ap (λ (e : E × ℕ). e.1) whole.root_whole.tight ∙ hull_count v o.box_of (elements_in tree)
