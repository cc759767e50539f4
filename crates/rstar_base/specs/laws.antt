-- Laws of the definitions: lemmas that `impl`s cite, and so cannot stand in proofs/.
pub mod PointLemmas
pub mod TupleLemmas
pub mod BoxLaws
pub mod BoxEq
pub mod Leasts
pub mod DistanceLaws
pub mod BoxEnvelopes
pub mod GapBoxes
pub mod CountedLaws
pub mod CarrierLaws
pub mod BoxElementLaws
pub mod PointElementLaws
pub mod RectangleLaws
pub mod SegmentLaws
pub mod KeptLaws
pub mod EqualElements
