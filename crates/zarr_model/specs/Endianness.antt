-- Byte orders as texts.
use Rattle.std.specs.Prelude.{ℕ, Bool, true, false, List, codes}
use Rattle.zarr_model.specs.declared.endianness.Endianness.{Endianness}
use Rattle.zarr_model.specs.declared.endianness.Endianness.TheVariants.{Little, Big}

-- the native order
abbrev pub is_little : Endianness → Bool
is_little Little = true
is_little Big = false

abbrev pub endianness_text : Endianness → List ℕ
endianness_text Little = codes "Little"
endianness_text Big = codes "Big"
