use Rattle.std.proofs.Common.{refl}
use Rattle.rstar_base.proofs.point.tuples.Tuple1Point.generate.Goals as goal

pub generator-a-requires : goal.generator-a-requires
generator-a-requires g c = c.requires.run.0

pub returns-clause-made : goal.returns-clause-made
returns-clause-made g c = record { run = (c.generator-a.new.self, c.generator-a.result, c.generator-a.ensures, refl, tt) }

pub returns-clause-whole : goal.returns-clause-whole
returns-clause-whole g c = let own = g.met.S.RTreeNum.of_value_law in λ i. record { 0 = own c.generator-a.result i }
