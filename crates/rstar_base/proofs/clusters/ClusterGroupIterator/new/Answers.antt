use Rattle.std.proofs.Common.{rules}
use Rattle.rstar_base.proofs.Slabs.{slab_size-is, few_slabs}
use Rattle.rstar_base.proofs.clusters.ClusterGroupIterator.new.Goals as goal

pub returns-clause-size : goal.returns-clause-size
returns-clause-size g c = slab_size-is c.args.elements.items c.len.result c.args.clusters c.div_ceil.result c.max-slab_size.result c.requires.clusters (search rules) c.div_ceil.ensures c.max-slab_size.ensures

pub returns-clause-count : goal.returns-clause-count
returns-clause-count g c = few_slabs c.args.elements.items c.len.result c.args.clusters c.div_ceil.result c.max-slab_size.result c.requires.clusters (search rules) c.div_ceil.ensures c.max-slab_size.ensures
