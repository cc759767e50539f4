-- What is written at the end of a list that has room for it.
use Rattle.std.specs.Prelude.{◌≡◌, ℕ, ◌+◌, ◌++◌, List, Vec, vec_len, vec_capacity}
use Rattle.std.specs.declared.alloc.Global.{Global}

-- these bytes, so many, were put at the end of a list, and took no memory
pub record Appends (bytes : List ℕ) (long : ℕ) (old new : Vec ℕ Global) : Type 0 where
  pub items : new.items ≡ old.items ++ bytes
  pub len : vec_len new ≡ vec_len old + long
  pub capacity : vec_capacity new ≡ vec_capacity old
