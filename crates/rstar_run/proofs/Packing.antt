-- Trees that are packed and unpacked.
use Rattle.std.proofs.Common.{◌≡◌, ◌≢◌, ◌⊎◌, inl, inr, ◌<◌, ℕ, ℤ, List, [], Option, Some, None, IfSome, Result, Ok, Err, sym, ap, subst, length}
use Rattle.std.specs.Global.{Vec}
use Rattle.std.specs.Iterator.{YieldsFirst}
use Rattle.std.specs.List.Sorted.{IsPermutation}
use Rattle.std.specs.Result.{IsErrAnd}
use Rattle.std.proofs.lemmas.Iterator.{YieldsList}
use Rattle.std.proofs.lemmas.Iterator.Consumers.{YieldsList-from_shown}
use Rattle.std.specs.declared.num.ParseIntError.{ParseIntError}
use Rattle.rstar.specs.Heights.{height_of}
use Rattle.rstar.specs.IntoIters.{left_to_give, IsGiving}
use Rattle.rstar.specs.Loaded.{IsLoaded}
use Rattle.rstar.specs.Nodes.{IsWhole}
use Rattle.rstar.specs.Stored.{Place, Box, Tree, boxes, places, Spells}
use Rattle.rstar.specs.StoredFaults.{HasFault}
use Rattle.rstar.specs.Trees.{root_of, elements_in, IsWholeTree}
use Rattle.rstar.specs.declared.iterators.into_iter.IntoIter.{IntoIter}
use Rattle.rstar.specs.declared.node.ParentNode.{ParentNode}
use Rattle.rstar.specs.declared.rtree.RTree.{RTree}
use Rattle.rstar.specs.declared.stored.StoredError.{StoredError}
use Rattle.rstar.specs.declared.stored.StoredError.TheVariants.{NoMemory, TooHigh}
use Rattle.rstar_run.specs.Items.{Point}
use Rattle.rstar_run.specs.Lines.{lines_of}
use Rattle.rstar_run.specs.Points.{points_in}
use Rattle.rstar_run.specs.Stored.{LoadsInput, Packs, AreRefused, Unpacks}
use Rattle.rstar_run.specs.declared.stored.Fault.{Fault}
use Rattle.rstar_run.specs.declared.stored.Fault.TheVariants as fault

-- ---- trees of points

-- what a tree gives that is taken apart
pub all_given : {T E : Type 0} (it : IntoIter T E) → YieldsList (λ s r t. YieldsFirst left_to_give s r t × IsGiving t) (λ x. x) it (left_to_give it)
all_given it = YieldsList-from_shown (λ s r t. YieldsFirst left_to_give s r t × IsGiving t) (λ x. x) left_to_give (λ s t h. ap length h.0.0) (λ s x t h. h.0) it

whole_root : {D P S X : Type 0} (most : ℕ) (tree : RTree Place D Box P S X) → IsWholeTree boxes places most tree → IsWhole boxes places (root_of tree)
unfolding IsWholeTree
whole_root most tree whole = whole.root_whole

-- ---- faults

module _ (input : Option (List ℕ)) where
  -- a tree that is loaded of the points that were read
  pub input-loaded : {D : Type 0} (tree : RTree Place D Box Point ℤ ParseIntError) → IsWholeTree boxes places 6 tree → (points : List Point) → IfSome input (λ text. points_in (lines_of text) ≡ Some points)
      → IsPermutation points (elements_in tree) → (points ≢ [] → IsLoaded boxes places 6 2 (root_of tree)) → LoadsInput input (root_of tree)
  input-loaded tree whole points read same loaded =
      record { points = points; read = read; just_those = same; whole = whole_root 6 tree whole; loaded = loaded }

  -- it is not stored
  pub pack_refused : (root : ParentNode Point Box) → LoadsInput input root → (e : StoredError) → (e ≡ NoMemory) ⊎ ((e ≡ TooHigh) × (64 < height_of root))
      → (r : Result (Vec ℕ) Fault) → IsErrAnd r (λ f. f ≡ fault.Stored e) → Packs input r
  pack_refused root loads e why (Ok bytes) h = absurd h
  pack_refused root loads e (inl none) (Err f) h = subst (λ (g : Fault). Packs input (Err g)) (sym h) (inl none)
  pack_refused root loads e (inr (is, high)) (Err f) h = subst (λ (g : Fault). Packs input (Err g)) (sym h) (inr (is, root, loads, high))

  -- of bytes that are all of the input
  pub spells_input : (read : List ℕ) → IfSome input (λ bytes. read ≡ bytes) → (t : Tree) → Spells read t → IfSome input (λ bytes. Spells bytes t)
  spells_input read all t s = known input all where
    known : (o : Option (List ℕ)) → IfSome o (λ bytes. read ≡ bytes) → IfSome o (λ bytes. Spells bytes t)
    known None e = tt
    known (Some bytes) e = subst (λ (b : List ℕ). Spells b t) e s

  pub unpack_refused : (read : List ℕ) → IfSome input (λ bytes. read ≡ bytes) → (e : StoredError) → HasFault read e → (e ≢ NoMemory → (t : Tree) → Spells read t → ⊥)
      → (r : Result (Vec Point) Fault) → IsErrAnd r (λ f. f ≡ fault.Stored e) → Unpacks input r
  unpack_refused read all e has none (Ok points) h = absurd h
  unpack_refused read all e has none (Err f) h = subst (λ (g : Fault). Unpacks input (Err g)) (sym h) (known input all) where
    known : (o : Option (List ℕ)) → IfSome o (λ bytes. read ≡ bytes) → IfSome o (AreRefused e)
    known None same = tt
    known (Some bytes) same = subst (AreRefused e) same (has, none)
