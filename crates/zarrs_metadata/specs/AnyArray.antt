-- The document of an array of either version.
use Rattle.std.specs.Prelude.{Option}
use Rattle.serde_json.specs.Data.{Data}
use Rattle.zarrs_metadata_values.specs.Forms.{Either, first, second, either_of, either_data, in_form}
use Rattle.zarrs_metadata.specs.ArrayMetadata.{ArrayFields, array_seen, array_fields_of, array_data, normal_array}
use Rattle.zarrs_metadata_v2.specs.ArrayMetadataV2.{ArrayV2, array_v2_seen, array_v2_of, array_v2_data, normal_array_v2}
use Rattle.zarrs_metadata_v2.specs.ArrayMetadataV2.{HasChunks}
use Rattle.zarrs_metadata.specs.declared.array.ArrayMetadata.{ArrayMetadata}
use Rattle.zarrs_metadata.specs.declared.array.ArrayMetadata.TheVariants.{V3, V2}

-- version 3, else version 2
abbrev pub AnyArray : Type 0
AnyArray = Either ArrayFields ArrayV2

abbrev pub any_array_seen : ArrayMetadata → AnyArray
any_array_seen (V3 a) = first (array_seen a)
any_array_seen (V2 a) = second (array_v2_seen a)

abbrev pub any_array_of : Data → Option AnyArray
any_array_of = either_of array_fields_of array_v2_of

abbrev pub any_array_data : AnyArray → Data
any_array_data = either_data array_data array_v2_data

-- What a document reads back as, once it is written.
abbrev pub normal_any_array : AnyArray → AnyArray
normal_any_array = in_form normal_array normal_array_v2

-- No length of a chunk of version 2 is 0.
abbrev pub HasAnyChunks : AnyArray → Type 0
HasAnyChunks (first f) = Unit {0}
HasAnyChunks (second f) = HasChunks f
