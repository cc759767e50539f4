use Rattle.std.proofs.Common.{◌≡◌, ◌≤◌, List, [], ◌∷◌, length, ap, ◌∙◌, refl, arith, Option, Some, None, Result, Ok, Err, IfSome, IfNone, IfErr, IsOk}
use Rattle.std.proofs.lemmas.List.{append-nil}
use Rattle.rstar.specs.declared.node.RTreeNode.{RTreeNode, Parent}
use Rattle.rstar.specs.Neighbors.{MayWantMemory}
use Rattle.rstar.specs.Nodes.{elements, all_elements}
use Rattle.rstar.specs.Trees.{root_of}
use Rattle.rstar.proofs.trees.ByChildren.{elements-Parent}
use Rattle.rstar_vectors.proofs.neighbours.first_of.Goals as goal

granted : {T E A Z : Type 0} (waiting : List (RTreeNode T E)) (r : Option (Result A Z)) → IfSome r (λ x. IfErr x (λ _. MayWantMemory waiting)) → length (all_elements waiting) ≤ 32 → IfSome r IsOk
granted waiting None refused few = tt
granted waiting (Some (Ok x)) refused few = refl
granted waiting (Some (Err z)) refused few = absurd (omega (arith, refused.1, few))

empty : {A : Type 0} {Q : Type 0} {T : Type 0} (r : Option A) {ts us : List T} → Q → ts ≡ us → IfNone r (Q → ts ≡ []) → IfNone r (us ≡ [])
empty None going same none = rw same at none going
empty (Some x) going same none = tt

pub returns : goal.returns
returns g c =
    let begun = c.nearest_neighbor_iter-neighbors.ensures.begun in
    let steps = c.next.ensures.steps.0 in
    let root = root_of c.args.tree.now in
    let alone = append-nil (elements (Parent root)) ∙ elements-Parent root in
    record {
      none = empty c.next.result begun.going_on (ap all_elements begun.waiting ∙ alone) steps.none;
      few = λ few. granted (Parent root ∷ []) c.next.result (rw begun.waiting at steps.refused) (omega (arith, few, ap length alone));
    }
