use Rattle.std.proofs.Common.{pos}
use Rattle.rstar_vectors.proofs.LeftHalf.{left_merged}
use Rattle.rstar_vectors.proofs.selections.LeftHalf.new.Goals as goal

pub returns : goal.returns
returns c = λ t e value box selected full. left_merged _ _ (pos 50) e box.long selected
