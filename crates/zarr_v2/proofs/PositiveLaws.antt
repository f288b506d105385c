-- No length of a chunk is 0 in a version 2 document that was read.
use Rattle.std.proofs.Common.{◌≡◌, Option, Ok}
use Rattle.serde_json.specs.Data.{Data}
use Rattle.zarrs_metadata_values.specs.Reading.{from_json}
use Rattle.zarrs_metadata_v2.specs.ArrayMetadataV2.{ArrayV2, HasChunks, array_v2_of}
use Rattle.zarrs_metadata_v2.proofs.Chunks.{has_chunks}
use Rattle.zarr_v2.proofs.ReadLaws.{is_of_text}

pub text_positive : (o : Option Data) (a : ArrayV2) → from_json array_v2_of o ≡ Ok a → HasChunks a
text_positive o a e = let told = is_of_text o a e in has_chunks told.value a told.reads
