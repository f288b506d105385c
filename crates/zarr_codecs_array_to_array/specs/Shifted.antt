-- Elements that an offset is put on or taken off.
use Rattle.std.specs.Prelude.{ℕ, ℤ, ◌<◌, List, Option, Some, None, option_map, map}
use Rattle.std.specs.List.{AllByRecursion}
use Rattle.zarrs_codec_traits.specs.Prelude.{Element, ArrayBytes, fixed_bytes, AreBytes}
use Rattle.zarr_model.specs.Codec.{element_less}
use Rattle.zarr_codecs_elements.specs.Numbers.{each_piece, raised}

-- bytes of numbers of one size, each with so much added
abbrev pub raised_raw : ℕ → ℕ → ArrayBytes → ArrayBytes
raised_raw amount size (fixed_bytes value) = fixed_bytes (each_piece (raised amount) size value)
raised_raw amount size bytes = bytes

-- the bytes of elements of one size are bytes
abbrev pub AreProper : ArrayBytes → Type 0
AreProper (fixed_bytes value) = AllByRecursion (λ b. b < 256) value
AreProper bytes = Unit {0}

-- a list, each element less an offset
abbrev pub list_less : ℤ → Option (List Element) → Option (List Element)
list_less offset elements = option_map (map (element_less offset)) elements

-- there is a list, and the numbers in its elements are bytes
abbrev pub AreMeant : Option (List Element) → Type 0
AreMeant None = ⊥
AreMeant (Some elements) = AllByRecursion AreBytes elements
