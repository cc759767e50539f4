use Rattle.std.proofs.Common.{rules}
use Rattle.rstar.proofs.trees.WholeTrees.{kept_root}
use Rattle.rstar.proofs.rtree.RTree.from_root.Goals as goal

pub returns-clause-whole : goal.returns-clause-whole
returns-clause-whole g c = kept_root g.met.T.Envelope.Envelope.envelope_laws g.met.T.RTreeObject.object_law g.Params.RTreeParams.MAX_SIZE c.args.widest _ c.requires.kept (search rules) (search rules) c.requires.wide c.requires.fits c.new.ensures.widest (rw c.new.ensures.none tt) c.new.ensures.none_over
