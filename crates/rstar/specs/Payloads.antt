-- What a payload reference belongs to, and what a write through it leaves.
-- R is the geometry's type, D the payload's, Q the type of the node sizes, E the envelope's, P its point's, S its
-- scalar's, X what a scalar's text is refused with.
use Rattle.std.specs.Prelude.{◌≡◌, ℕ, ℤ, true, List, ◌∷◌, ◌++◌, Option}
use Rattle.std.specs.Borrow.{Lends, LendsIf, MutBor, Fml}
use denote.RattleType.{RattleType}
use Rattle.rstar_base.specs.Envelopes.{Boxes}
use Rattle.rstar_base.specs.Elements.{Objects, Distances}
use Rattle.rstar.specs.declared.node.ParentNode.{ParentNode}
use Rattle.rstar.specs.declared.rtree.RTree.{RTree}
use Rattle.rstar_base.specs.contracts.primitives.GeomWithData.{the_row as geom_row}
use Rattle.rstar.specs.contracts.node.ParentNode.{the_row as parent_row}
use Rattle.rstar.specs.contracts.rtree.RTree.{the_row as tree_row}
use Rattle.rstar.specs.Nodes.{Layer}
use Rattle.rstar.specs.Trees.{elements_in, HasSameOutline, IsWholeTree}
use Rattle.rstar.specs.inside.WaysDown.{IsAt, change_below, way_to}

-- ---- one element, and the way to it

-- an element with another payload
abbrev pub with_data : {R D : Type 0} → D → R × D → R × D
with_data d t = (t.0, d)

abbrev pub LendsData : (R D : RattleType) → MutBor (R.Denot × D.Denot) → MutBor D.Denot → Fml
LendsData R D t r = Lends (geom_row R D) D t r (λ d. (t.now.0, d))

-- the payload of the element at the end of the way
abbrev pub IsAtPayload : {R D E : Type 0} → (ParentNode (R × D) E → ℕ) → ℕ → Layer (R × D) E → D
    → Type 0
IsAtPayload {R} way d n w = (g : R) × IsAt way d n (g, w)

module _ (R D E : RattleType) where
  abbrev pub LendsBelow : (ParentNode (R.Denot × D.Denot) E.Denot → ℕ)
      → MutBor (ParentNode (R.Denot × D.Denot) E.Denot) → ℕ → MutBor D.Denot → Fml
  LendsBelow way p depth r =
      Lends (parent_row (geom_row R D) E) D p r (λ d. change_below way (with_data d) depth p.now)

-- ---- a payload of a tree

-- the tree with another payload in the first element that contains the point
abbrev pub put_payload : {R D Q E P S X : Type 0}
    → Boxes E → Distances (R × D) → List ℤ → RTree (R × D) Q E P S X → D → RTree (R × D) Q E P S X
put_payload v dist p tree d =
    record tree { root = change_below (way_to v dist p) (with_data d) tree.levels tree.root }

-- a write through the borrow changes that payload of the tree
abbrev pub LendsPayloadOf : (R D Q E P S X : RattleType) → Boxes E.Denot → Distances (R.Denot × D.Denot) → List ℤ
    → MutBor (RTree (R.Denot × D.Denot) Q.Denot E.Denot P.Denot S.Denot X.Denot) → Option (MutBor D.Denot) → Fml
LendsPayloadOf R D Q E P S X v dist p t r =
    LendsIf (tree_row (geom_row R D) Q E P S X) D t r (put_payload v dist p t.now) t.now

-- the payload of an element that contains the point. After a write, that element has it in its place, all else is the
-- same, and the tree is whole.
pub record IsPayloadOf {R D Q E P S X : Type 0} (v : Boxes E) (o : Objects (R × D) E) (dist : Distances (R × D))
    (max : ℕ) (p : List ℤ) (tree : RTree (R × D) Q E P S X) (d : D) : Type 0 where
  pub before : List (R × D)
  pub geom : R
  pub after : List (R × D)
  pub contains : dist.contains_point (geom, d) p ≡ true
  pub elements : elements_in tree ≡ before ++ (geom, d) ∷ after
  pub written : (w : D) → elements_in (put_payload v dist p tree w) ≡ before ++ (geom, w) ∷ after
  pub outline : (w : D) → HasSameOutline tree (put_payload v dist p tree w)
  pub whole : (w : D) → IsWholeTree v o max (put_payload v dist p tree w)
