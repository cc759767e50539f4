use Rattle.std.proofs.Common.{◌≡◌, ◌∙◌, ap, sym, arith, map, length, rules}
use Rattle.rstar.specs.Nodes.{total, children_of}
use Rattle.rstar.specs.inside.Traversals.{steps}
use Rattle.rstar.proofs.trees.ByChildren.{steps-Parent}
use Rattle.rstar.proofs.visiting.WaysDown.{finds-Leaf, finds-Parent}
use Rattle.rstar.proofs.payloads.+finding.Goals as goal

pub finds-first_finding-requires : goal.finds-first_finding-requires
finds-first_finding-requires g t c κs within =
    let here = ap steps c.in-Parent.is in
    let below = steps-Parent c.in-Parent.parent in
    let same = ap (λ ns. total (map steps ns)) c.as_slice.ensures.value in
    (omega (arith, c.decreases), search (rules, within))

pub finds-returns-in-Leaf : goal.finds-returns-in-Leaf
finds-returns-in-Leaf g t c = rw (c.in-Leaf.is, finds-Leaf) c.contains_point.ensures

pub finds-returns-then-contains_point : goal.finds-returns-then-contains_point
finds-returns-then-contains_point g t c =
    let entered = sym c.contains_point-in-Parent.ensures.test ∙ c.if-contains_point.true in
    let first = rw c.as_slice.ensures.value at c.first_finding.ensures in
    let long : c.len.result ≡ length (children_of c.in-Parent.parent) = let same = ap length c.as_slice.ensures.value in omega (arith, c.len.ensures, c.as_slice.ensures.len) in
    rw (c.in-Parent.is, finds-Parent, entered, first, long)

pub finds-returns-else-contains_point : goal.finds-returns-else-contains_point
finds-returns-else-contains_point g t c =
    let refused = sym c.contains_point-in-Parent.ensures.test ∙ c.if-contains_point.false in
    rw (c.in-Parent.is, finds-Parent, refused) c.if-contains_point.false
