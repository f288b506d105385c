use Rattle.std.proofs.Common.{◌≡◌, take, map}
use Rattle.zarrs_metadata_values.specs.FillValueMetadata.{fill_view}
use Rattle.zarrs_metadata_values.specs.Writing.{number_data}
use Rattle.zarrs_metadata_values.proofs.fill_value.FillValueMetadataV3.from_bytes.Given as goal

abbrev pub invariant-loop-byte : goal.invariant-loop-byte
invariant-loop-byte l = map fill_view l.fills.items ≡ map number_data (take l.byte-index l.bytes)
