use Rattle.std.proofs.Common.{◌∙◌, ap, sym, reverse}
use Rattle.rstar.specs.IntoIters.{left_to_give, IsGiving}
use Rattle.rstar.proofs.selecting.Traversals.{nil-length}
use Rattle.rstar.proofs.removing.TakenApart.{gave, went_below, went_back, has_room, goes_on}
use Rattle.rstar.proofs.iterators.into_iter.IntoIterIterator.next.Goals as goal

pub returns-in-Some-Leaf : goal.returns-in-Some-Leaf
unfolding left_to_give IsGiving
returns-in-Some-Leaf g c =
    let leaf = gave c.loop-t.self c.pop.new.self c.in-Some-Leaf.t (rw c.in-Some-Leaf.field-0-is at c.in-Some-Leaf.ensures.items) c.loop-t.invariant.giving in
    let gives = ap reverse c.loop-t.invariant.same ∙ leaf.1 in
    rw c.in-Some-Leaf.t-is (record { steps = (gives, leaf.0); goes = goes_on c.args.self.now (record { nodes = c.pop.new.self; path = c.loop-t.self.path }) c.in-Some-Leaf.t gives leaf.0 })

pub push_reserved-requires : goal.push_reserved-requires
push_reserved-requires g c =
    has_room c.loop-t.self c.pop.new.self.items c.in-Some-Parent.parent (rw c.in-Some-Parent.field-0-is at c.in-Some-Parent.ensures.items) c.loop-t.invariant.giving

pub loop-t-smaller-in-Some-Parent : goal.loop-t-smaller-in-Some-Parent
loop-t-smaller-in-Some-Parent g c =
    (went_below c.loop-t.self (record { nodes = c.replace.new.dest; path = c.push_reserved.new.self }) c.pop.new.self c.in-Some-Parent.parent (rw c.in-Some-Parent.field-0-is at c.in-Some-Parent.ensures.items)
    (ap (λ v. v.items) (rw c.in-Some-Parent.parent-is at c.replace.ensures.after)) (rw c.replace.ensures.value at c.push_reserved.ensures.items) c.push_reserved.ensures.capacity c.loop-t.invariant.giving).2

pub loop-t-preserved-in-Some-Parent : goal.loop-t-preserved-in-Some-Parent
loop-t-preserved-in-Some-Parent g c =
    let below = went_below c.loop-t.self (record { nodes = c.replace.new.dest; path = c.push_reserved.new.self }) c.pop.new.self c.in-Some-Parent.parent (rw c.in-Some-Parent.field-0-is at c.in-Some-Parent.ensures.items)
    (ap (λ v. v.items) (rw c.in-Some-Parent.parent-is at c.replace.ensures.after)) (rw c.replace.ensures.value at c.push_reserved.ensures.items) c.push_reserved.ensures.capacity c.loop-t.invariant.giving in
    record { giving = below.0; same = c.loop-t.invariant.same ∙ below.1 }

pub loop-t-smaller : goal.loop-t-smaller
loop-t-smaller g c =
    (went_back c.loop-t.self c.pop-in-None.new.self c.in_ok-self-in-None.field-0 (nil-length _ (sym c.loop-t.self.nodes.ok.0 ∙ c.in-None.ensures.cases.0))
    c.in_ok-self-in-None.ensures.items c.pop-in-None.ensures.capacity c.loop-t.invariant.giving).2

pub loop-t-preserved : goal.loop-t-preserved
loop-t-preserved g c =
    let back = went_back c.loop-t.self c.pop-in-None.new.self c.in_ok-self-in-None.field-0 (nil-length _ (sym c.loop-t.self.nodes.ok.0 ∙ c.in-None.ensures.cases.0))
    c.in_ok-self-in-None.ensures.items c.pop-in-None.ensures.capacity c.loop-t.invariant.giving in
    record { giving = back.0; same = c.loop-t.invariant.same ∙ back.1 }
