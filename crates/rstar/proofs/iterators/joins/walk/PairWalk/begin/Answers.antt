use Rattle.std.proofs.Common.{refl}
use Rattle.rstar.specs.inside.PairWalks.{frame_of}
use Rattle.rstar.proofs.joining.PairWalks.{begins, begins-pairs, begins-opens}
use Rattle.rstar.proofs.iterators.joins.walk.PairWalk.begin.Goals as goal

pub returns : goal.returns
returns g c =
    let self = c.args.self.now in
    let new = record self { frame = frame_of c.args.lefts self.frame.asked 0 c.args.rights c.args.rights } in
    let bare = c.requires.idle.bare in
    record {
      walk = begins _ _ _ new bare refl c.requires.fits;
      pairs = begins-pairs _ _ _ new bare refl;
      opens = begins-opens _ _ _ new bare refl;
      opened = refl;
      room = refl;
    }
