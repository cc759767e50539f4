use Rattle.std.proofs.lemmas.List.Sorted.{IsPermutation-trans}
use Rattle.rstar.proofs.algorithm.rstar.split.arrange.Goals as goal

pub returns-then-DIMENSIONS-gt0 : goal.returns-then-DIMENSIONS-gt0
returns-then-DIMENSIONS-gt0 g c = record {
  same = IsPermutation-trans _ _ _ c.least_axis-axis.ensures.same c.sort_envelopes.ensures.same;
  rises = λ _. (c.least_axis-axis.result, c.least_axis-axis.ensures.axis, c.sort_envelopes.ensures.rises);
}
