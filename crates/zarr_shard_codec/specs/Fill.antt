-- What the bytes of a fill value denote.
use Rattle.std.specs.Prelude.{Bool, false, Option, Some, None}
use Rattle.zarr_model.specs.Prelude.{Element, same_element}

-- they denote something, and it is this element
abbrev pub denotes : Option Element → Element → Bool
denotes None element = false
denotes (Some denoted) element = same_element denoted element
