use Rattle.std.proofs.Common.{sym, refl, subst, arith}
use Rattle.std.specs.List.{AllByRecursion}
use Rattle.rstar.specs.inside.Traversals.{IsLevel}
use Rattle.rstar.specs.inside.PairWalks.{frame_of}
use Rattle.rstar.proofs.joining.PairWalks.{begins}
use Rattle.rstar.proofs.iterators.joins.walk.PairWalk.idle.Goals as goal

pub returns-clause-walk : goal.returns-clause-walk
returns-clause-walk g c =
    let lefts = c.args.lefts in let rights = c.args.rights in
    begins _ _ _ (record { frame = frame_of lefts rights 0 rights rights; path = c.in_ok-path.path; opened = 0 }) c.in_ok-path.ensures.empty refl (record {
      left_height = 0;
      right_height = 0;
      left = subst (AllByRecursion (IsLevel 0)) (sym c.requires.lefts) tt;
      right = subst (AllByRecursion (IsLevel 0)) (sym c.requires.rights) tt;
      fits = omega arith;
    })
