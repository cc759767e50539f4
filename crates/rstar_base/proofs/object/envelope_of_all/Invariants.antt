use Rattle.std.proofs.Common.{◌≡◌, take}
use Rattle.std.specs.List.{AllByRecursion}
use Rattle.rstar_base.specs.Hulls.{hull}
use Rattle.rstar_base.proofs.object.envelope_of_all.Given as goal

-- the merge of the envelopes so far, each of a value
abbrev pub invariant-loop-t : goal.invariant-loop-t
invariant-loop-t g l = record {
  values : AllByRecursion g.T.RTreeObject.object.IsValue (take l.t-index l.list);
  merged : l.all ≡ hull g.T.Envelope.Envelope.boxes g.T.RTreeObject.object.box_of (take l.t-index l.list);
}
