use Rattle.std.proofs.Common.{refl}
use Rattle.rstar_base.proofs.point.tuples.Tuple2Point.generate.Goals as goal

pub generator-x-requires : goal.generator-x-requires
generator-x-requires g c = c.requires.run.0

pub generator-y-requires : goal.generator-y-requires
generator-y-requires g c = (c.requires.run.1 _ _ c.generator-x.ensures).0

pub returns-clause-made : goal.returns-clause-made
returns-clause-made g c = record { run = (c.generator-x.new.self, c.generator-x.result, c.generator-x.ensures, refl, (c.generator-y.new.self, c.generator-y.result, c.generator-y.ensures, refl, tt)) }

pub returns-clause-whole : goal.returns-clause-whole
returns-clause-whole g c = let own = g.met.S.RTreeNum.of_value_law in λ i. (own c.generator-x.result i, own c.generator-y.result i)
