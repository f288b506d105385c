-- The byte order that a version 2 data type begins with.
use Rattle.std.specs.Prelude.{ℕ, ◌==◌, if◌then◌else◌, List, [], ◌∷◌, Option, Some, None, Result, Ok, Err}
use Rattle.zarrs_metadata_parts.specs.DataTypeV2.{DataTypeV2, simple, structured}
use Rattle.zarr_model.specs.declared.endianness.Endianness.{Endianness}
use Rattle.zarr_model.specs.declared.endianness.Endianness.TheVariants.{Little, Big}

-- `|` is for types without a byte order; any other byte tells nothing
abbrev pub order_of_byte : ℕ → Option (Option Endianness)
order_of_byte c =
    if c == 124 then Some None
    else if c == 60 then Some (Some Little)
    else if c == 62 then Some (Some Big)
    else None

abbrev pub order_of_text : List ℕ → Option (Option Endianness)
order_of_text [] = None
order_of_text (c ∷ cs) = order_of_byte c

abbrev pub endianness_v2 : DataTypeV2 → Option (Option Endianness)
endianness_v2 (simple s) = order_of_text s
endianness_v2 (structured fs) = None

-- what a call answered, if it wasn't an error
abbrev pub if_ok : {X E : Type 0} → Result X E → Option X
if_ok (Ok x) = Some x
if_ok (Err e) = None
