-- What a handle holds.
use Rattle.std.specs.Prelude.{List}
use Rattle.rstar_c.specs.declared.index.Index.{Index}
use Rattle.rstar_c.specs.Items.{Item}
use Rattle.rstar_c.specs.Owned.{first_of}

-- the items behind a handle; none where it holds nothing
abbrev pub items_in : Index → List Item
items_in index = first_of index.held.value
