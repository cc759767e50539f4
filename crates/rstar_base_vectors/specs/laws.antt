-- Laws of the definitions: lemmas that `impl`s cite, and so cannot stand in proofs/.
pub mod StretchLaws
pub mod DoorsLaws
pub mod FrameLaws
pub mod PlaceLaws
