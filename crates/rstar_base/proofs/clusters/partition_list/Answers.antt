use Rattle.std.proofs.Common.{◌≡◌, ◌<◌, ◌∙◌, vec_len, sym, subst}
use Rattle.std.specs.List.{refill}
use Rattle.std.specs.List.Sorted.{IsPermutation}
use Rattle.std.proofs.lemmas.List.Sorted.{length_permutation}
use Rattle.rstar_base.specs.Orders.{IsSplitAt}
use Rattle.rstar_base.proofs.Present.{refill-same}
use Rattle.rstar_base.proofs.clusters.partition_list.Goals as goal
use Rattle.rstar_base.proofs.clusters.partition_list.Given.{Over}

-- what is written back is the list that was sorted
written : (g : Over) (c : goal.After-list-1 g) → refill (vec_len c.args.list.now) c.args.list.now.items c.partition_envelopes.new.list ≡ c.partition_envelopes.new.list
written g c = refill-same (vec_len c.args.list.now) c.args.list.now.items c.partition_envelopes.new.list (length_permutation c.deref_mut.result.now c.partition_envelopes.new.list c.partition_envelopes.ensures.same ∙ c.deref_mut.ensures.len)

pub partition_envelopes-requires-clause-place : goal.partition_envelopes-requires-clause-place
partition_envelopes-requires-clause-place g c = subst (λ n. c.args.k < n) (sym c.deref_mut.ensures.len) c.requires.place

pub returns-clause-same : goal.returns-clause-same
returns-clause-same g c = subst (IsPermutation c.args.list.now.items) (sym (written g c)) (subst (λ l. IsPermutation l c.partition_envelopes.new.list) c.deref_mut.ensures.value c.partition_envelopes.ensures.same)

pub returns-clause-split : goal.returns-clause-split
returns-clause-split g c = subst (IsSplitAt (λ t. g.T.Envelope.Envelope.boxes.axis_key (g.T.RTreeObject.object.box_of t) c.args.axis) c.args.k) (sym (written g c)) c.partition_envelopes.ensures.split
