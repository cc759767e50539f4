use Rattle.std.proofs.Common.{Bool, ℤ, ap, w64}
use Rattle.std.proofs.Math.Facts.{to_z-of_z}
use Rattle.rstar_c.specs.Items.{Item, is_within}
use Rattle.rstar_c.proofs.questions.I64Question.query.Goals as goal

pub returns : goal.returns
returns c = ap {B = Item → Bool} (λ (distance : ℤ) (item : Item). is_within distance c.args.shape.now item) (to_z-of_z {w = w64} c.ranges.self)
