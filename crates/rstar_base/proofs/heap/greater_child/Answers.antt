use Rattle.std.proofs.Common.{◌+◌, ◌*◌, ◌≡◌, ℕ, Bool, true, false, refl, subst, length, arith, ◌∙◌}
use Rattle.std.proofs.HeapSift as sifts
use Rattle.std.specs.BinaryHeap.Sift.{IsGreaterChild, ComparesAt}
use Rattle.std.specs.Cmp.{IsTotalOrder}
use Rattle.std.specs.declared.cmp.Ordering.{Ordering}
use Rattle.std.proofs.Common.{List}
use Rattle.rstar_base.proofs.heap.greater_child.Goals as goal

left_is : {X : Type 0} (R : X → X → Ordering) (o : IsTotalOrder R) (xs : List X) (j n : ℕ) (b : Bool) → b ≡ true → ComparesAt R xs (j * 2 + 1 + 1) (j * 2 + 1) b → IsGreaterChild R xs j (j * 2 + 1) n
left_is R o xs j n b e h =
    let zero_more : j * 2 + 1 + 0 ≡ j * 2 + 1 = omega arith in
    let all = (sifts.either_child R o xs j (j * 2 + 1) n true refl (λ d. h d ∙ e)).1 in
    subst (λ k. IsGreaterChild R xs j k n) zero_more all

right_is : {X : Type 0} (R : X → X → Ordering) (o : IsTotalOrder R) (xs : List X) (j n : ℕ) (b : Bool) → b ≡ false → ComparesAt R xs (j * 2 + 1 + 1) (j * 2 + 1) b → IsGreaterChild R xs j (j * 2 + 1 + 1) n
right_is R o xs j n b e h = (sifts.either_child R o xs j (j * 2 + 1) n false refl (λ d. h d ∙ e)).1

pub returns-then-left-items-clause-best : goal.returns-then-left-items-clause-best
returns-then-left-items-clause-best g c = sifts.only_child g.X.Ord.cmp g.met.X.Ord.total c.args.items.now c.args.at (c.args.at * 2 + 1) (length c.args.items.now) refl (omega arith)

pub returns-then-is_less-clause-best : goal.returns-then-is_less-clause-best
returns-then-is_less-clause-best g c = left_is g.X.Ord.cmp g.met.X.Ord.total c.args.items.now c.args.at (length c.args.items.now) c.is_less.result c.if-is_less.true c.is_less.ensures

pub returns-else-is_less-clause-best : goal.returns-else-is_less-clause-best
returns-else-is_less-clause-best g c = right_is g.X.Ord.cmp g.met.X.Ord.total c.args.items.now c.args.at (length c.args.items.now) c.is_less.result c.if-is_less.false c.is_less.ensures
