use Rattle.std.proofs.Common.{Bool, ap}
use Rattle.rstar_base.specs.Boxes.{boxes_intersect}
use Rattle.rstar_c.specs.Items.{Box, Item, box_of}
use Rattle.rstar_c.proofs.questions.MeetingQuestion.query.Goals as goal

pub returns : goal.returns
returns c = ap {B = Item → Bool} (λ (area : Box) (item : Item). boxes_intersect area (box_of item)) c.between.ensures
