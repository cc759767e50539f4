use Rattle.std.proofs.Common.{refl}
use Rattle.rstar_base.proofs.point.tuples.Tuple7Point.generate.Goals as goal

pub generator-a-requires : goal.generator-a-requires
generator-a-requires g c = c.requires.run.0

pub generator-b-requires : goal.generator-b-requires
generator-b-requires g c = (c.requires.run.1 _ _ c.generator-a.ensures).0

pub generator-c-requires : goal.generator-c-requires
generator-c-requires g c = ((c.requires.run.1 _ _ c.generator-a.ensures).1 _ _ c.generator-b.ensures).0

pub generator-d-requires : goal.generator-d-requires
generator-d-requires g c = (((c.requires.run.1 _ _ c.generator-a.ensures).1 _ _ c.generator-b.ensures).1 _ _ c.generator-c.ensures).0

pub generator-e-requires : goal.generator-e-requires
generator-e-requires g c = ((((c.requires.run.1 _ _ c.generator-a.ensures).1 _ _ c.generator-b.ensures).1 _ _ c.generator-c.ensures).1 _ _ c.generator-d.ensures).0

pub generator-f-requires : goal.generator-f-requires
generator-f-requires g c = (((((c.requires.run.1 _ _ c.generator-a.ensures).1 _ _ c.generator-b.ensures).1 _ _ c.generator-c.ensures).1 _ _ c.generator-d.ensures).1 _ _ c.generator-e.ensures).0

pub generator-g-requires : goal.generator-g-requires
generator-g-requires g c = ((((((c.requires.run.1 _ _ c.generator-a.ensures).1 _ _ c.generator-b.ensures).1 _ _ c.generator-c.ensures).1 _ _ c.generator-d.ensures).1 _ _ c.generator-e.ensures).1 _ _ c.generator-f.ensures).0

pub returns-clause-made : goal.returns-clause-made
returns-clause-made g c = record { run = (c.generator-a.new.self, c.generator-a.result, c.generator-a.ensures, refl, (c.generator-b.new.self, c.generator-b.result, c.generator-b.ensures, refl, (c.generator-c.new.self, c.generator-c.result, c.generator-c.ensures, refl, (c.generator-d.new.self, c.generator-d.result, c.generator-d.ensures, refl, (c.generator-e.new.self, c.generator-e.result, c.generator-e.ensures, refl, (c.generator-f.new.self, c.generator-f.result, c.generator-f.ensures, refl, (c.generator-g.new.self, c.generator-g.result, c.generator-g.ensures, refl, tt))))))) }

pub returns-clause-whole : goal.returns-clause-whole
returns-clause-whole g c = let own = g.met.S.RTreeNum.of_value_law in λ i. (own c.generator-a.result i, own c.generator-b.result i, own c.generator-c.result i, own c.generator-d.result i, own c.generator-e.result i, own c.generator-f.result i, own c.generator-g.result i)
