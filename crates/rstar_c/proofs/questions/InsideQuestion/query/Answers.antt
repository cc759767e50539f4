use Rattle.std.proofs.Common.{Bool, ap}
use Rattle.rstar_base.specs.Boxes.{contains_box}
use Rattle.rstar_c.specs.Items.{Box, Item, box_of}
use Rattle.rstar_c.proofs.questions.InsideQuestion.query.Goals as goal

pub returns : goal.returns
returns c = ap {B = Item → Bool} (λ (area : Box) (item : Item). contains_box area (box_of item)) c.between.ensures
