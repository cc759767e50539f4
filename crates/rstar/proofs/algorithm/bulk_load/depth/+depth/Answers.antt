use Rattle.std.proofs.Common.{rules, arith, ◌+◌, ◌-◌, ◌<◌}
use Rattle.rstar.proofs.loading.Loads.{falls_to_parts, falls_to_rest, half_bound, slab_positive, bound_slabs, depth_above, deep_slabs, ends_slabs}
use Rattle.rstar.proofs.algorithm.bulk_load.depth.+depth.Goals as goal

pub load_depth-least_depth_of_parts-requires : goal.load_depth-least_depth_of_parts-requires
load_depth-least_depth_of_parts-requires g t c κs within =
    let falls = falls_to_parts c.axes-axes.result g.T.InSlabs.axes c.args.n c.slabs_on_axis-clusters.result c.axes-axes.ensures (omega arith)
    c.slabs_on_axis-clusters.ensures.least (omega (arith, g.Params.RTreeParams.max_at_least_four)) in
    search rules

pub load_depth-returns-clause-bound : goal.load_depth-returns-clause-bound
load_depth-returns-clause-bound g t c =
    omega (arith, half_bound c.axes-axes.result c.args.n c.slabs_on_axis-clusters.result (omega (arith, c.axes-axes.ensures)) c.slabs_on_axis-clusters.ensures.least, c.least_depth_of_parts.ensures.bound, g.Params.RTreeParams.max_at_least_four)

pub load_depth-returns-clause-depth : goal.load_depth-returns-clause-depth
load_depth-returns-clause-depth g t c =
    let number = c.slabs_on_axis-clusters.ensures.number in
    depth_above g.Params.RTreeParams.MAX_SIZE g.T.InSlabs.axes c.least_depth_of_parts.result c.args.n c.slabs_on_axis-clusters.result _ (search rules) number.1 number.2
    (rw c.axes-axes.ensures at c.least_depth_of_parts.ensures.deep) (rw c.axes-axes.ensures at c.least_depth_of_parts.ensures.ends)

pub least_depth_of_parts-least_depth_of_parts-requires : goal.least_depth_of_parts-least_depth_of_parts-requires
least_depth_of_parts-least_depth_of_parts-requires g t c κs within =
    let falls = falls_to_rest c.args.axes c.args.clusters c.args.n c.last_slab-rest.result (g.T.InSlabs.axes + 2) (omega arith) c.requires.clusters c.last_slab-rest.ensures.some (omega (arith, c.last_slab-rest.ensures.within)) in
    search rules

pub least_depth_of_parts-least_depth_of_parts-depth-requires : goal.least_depth_of_parts-least_depth_of_parts-depth-requires
least_depth_of_parts-least_depth_of_parts-depth-requires g t c κs within =
    let full : 0 < c.div_ceil-slab.result = slab_positive c.args.n c.args.clusters c.div_ceil-slab.result c.requires.clusters c.requires.some c.div_ceil-slab.ensures in
    let falls = falls_to_rest c.args.axes c.args.clusters c.args.n c.div_ceil-slab.result (g.T.InSlabs.axes + 2) (omega arith) c.requires.clusters full (omega (arith, c.div_ceil-slab.ensures)) in
    search rules

pub least_depth_of_parts-returns-clause-bound : goal.least_depth_of_parts-returns-clause-bound
least_depth_of_parts-returns-clause-bound g t c =
    bound_slabs c.args.axes c.args.clusters c.args.n c.div_ceil-slab.result c.least_depth_of_parts-depth.result c.min.result (omega arith) c.requires.clusters c.requires.some c.div_ceil-slab.ensures
    c.least_depth_of_parts-depth.ensures.bound (omega arith)

pub least_depth_of_parts-returns-clause-deep : goal.least_depth_of_parts-returns-clause-deep
least_depth_of_parts-returns-clause-deep g t c =
    deep_slabs g.Params.RTreeParams.MAX_SIZE g.T.InSlabs.axes c.args.clusters c.args.axes (c.args.axes - 1) c.args.n c.div_ceil-slab.result c.last_slab-rest.result c.least_depth_of_parts-depth.result
    c.least_depth_of_parts.result c.min.result (omega arith) c.div_ceil-slab.ensures c.last_slab-rest.ensures.only c.least_depth_of_parts-depth.ensures.deep c.least_depth_of_parts.ensures.deep (omega arith) (omega arith)

pub least_depth_of_parts-returns-clause-ends : goal.least_depth_of_parts-returns-clause-ends
least_depth_of_parts-returns-clause-ends g t c =
    ends_slabs g.Params.RTreeParams.MAX_SIZE g.T.InSlabs.axes c.args.clusters c.args.axes (c.args.axes - 1) c.args.n c.div_ceil-slab.result c.last_slab-rest.result c.least_depth_of_parts-depth.result
    c.least_depth_of_parts.result c.min.result (omega arith) c.requires.clusters c.requires.some c.div_ceil-slab.ensures c.last_slab-rest.ensures.within c.last_slab-rest.ensures.last
    c.least_depth_of_parts-depth.ensures.ends c.least_depth_of_parts.ensures.ends (omega arith)
