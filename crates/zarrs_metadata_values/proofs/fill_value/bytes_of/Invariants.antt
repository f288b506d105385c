use Rattle.std.proofs.Common.{◌≡◌, Some, take}
use Rattle.zarrs_metadata_values.specs.Reading.{each}
use Rattle.zarrs_metadata_values.specs.FillValueMetadata.{fills_view, byte}
use Rattle.zarrs_metadata_values.proofs.fill_value.bytes_of.Given as goal

abbrev pub invariant-loop-fill : goal.invariant-loop-fill
invariant-loop-fill l = each byte (fills_view (take l.fill-index l.fills)) ≡ Some l.bytes.items
