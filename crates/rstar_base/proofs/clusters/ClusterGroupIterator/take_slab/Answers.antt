use Rattle.std.proofs.Common.{rules, ◌-◌, ap, ◌∙◌}
use Rattle.rstar_base.proofs.Slabs.{slab_from_split, slab_of_all, fewer_slabs, no_slabs}
use Rattle.rstar_base.proofs.clusters.ClusterGroupIterator.take_slab.Goals as goal

pub returns-then-len-self-clause-slab : goal.returns-then-len-self-clause-slab
returns-then-len-self-clause-slab g c =
    slab_of_all _ _ _ _ _ (search rules) (ap (λ v. v.items) c.replace.ensures.value) (ap (λ v. v.items) c.replace.ensures.after ∙ c.new.ensures.items)

pub returns-then-len-self-clause-fewer : goal.returns-then-len-self-clause-fewer
returns-then-len-self-clause-fewer g c =
    no_slabs _ _ _ c.requires.cutting.0 c.requires.some (ap (λ v. v.items) c.replace.ensures.after ∙ c.new.ensures.items)

pub returns-in-Ok-clause-slab : goal.returns-in-Ok-clause-slab
returns-in-Ok-clause-slab g c =
    slab_from_split _ c.args.self.now.slab_size (c.len-len.result - c.args.self.now.slab_size) _ _ _ _
    (search rules) c.requires.cutting.0 c.partition_list.ensures.same c.partition_list.ensures.split c.in-Ok.ensures.items c.in-Ok.ensures.tail

pub returns-in-Ok-clause-fewer : goal.returns-in-Ok-clause-fewer
returns-in-Ok-clause-fewer g c = fewer_slabs _ _ _ _ _ c.requires.cutting.0 c.requires.some (returns-in-Ok-clause-slab g c)

pub returns-in-Err-clause-fewer : goal.returns-in-Err-clause-fewer
returns-in-Err-clause-fewer g c = no_slabs _ _ _ c.requires.cutting.0 c.requires.some (search rules)
