use Rattle.std.proofs.Common.{refl}
use Rattle.rstar.specs.Joins.{meets_by}
use Rattle.rstar.proofs.joining.Joined.{next-gives}
use Rattle.rstar.proofs.iterators.joins.IntersectionIteratorIterator.next.Goals as goal

pub returns-clause-steps : goal.returns-clause-steps
returns-clause-steps g c =
    next-gives (meets_by g.T.Cover.Merges.boxes g.U.Meets.seen) g.T.Covered.object.box_of g.U.Covered.object.box_of _ _ refl refl c.advance.result c.requires c.advance.ensures
