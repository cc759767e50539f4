-- What a test given as a closure says.
use Rattle.std.specs.Prelude.{◌≡◌, Bool}
use Rattle.std.specs.Borrow.{Bor}
use Rattle.std.specs.Fn.{Shared, FnReturnsAt}

-- each call of the test answers what `able` says of the element
abbrev pub Decides : {F T : Type 0} → Shared F (Bor T × Unit {0}) Bool → F → (T → Bool) → Type 0
Decides g f able = (t : _) (answer : Bool) → FnReturnsAt g f t answer → answer ≡ able t
