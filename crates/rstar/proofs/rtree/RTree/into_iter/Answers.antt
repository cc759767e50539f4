use Rattle.std.proofs.Common.{arith, ap, map, subst, sym, reverse, vec_capacity, IsPermutation}
use Rattle.std.proofs.lemmas.List.Sorted.{IsPermutation-reverse}
use Rattle.rstar.specs.IntoIters.{left_to_give, IsGiving}
use Rattle.rstar.specs.Trees.{elements_in, IsWholeTree}
use Rattle.rstar.proofs.removing.TakenApart.{begins_below}
use Rattle.rstar.proofs.rtree.RTree.into_iter.Goals as goal

pub returns : goal.returns
unfolding left_to_give IsGiving IsWholeTree
returns g c =
    let begins = begins_below g.T.Envelope.Envelope.boxes g.T.RTreeObject.object c.args.self.root (vec_capacity c.in-Ok.path) _ c.requires.root_whole (ap (map (λ v. v.items)) c.in-Ok.ensures.items)
    (omega (arith, c.requires.leveled, c.in-Ok.ensures.capacity)) in
    record { all = subst (IsPermutation (elements_in c.args.self)) (sym (ap reverse begins.1)) (IsPermutation-reverse _); giving = begins.0; handed_back = tt }
