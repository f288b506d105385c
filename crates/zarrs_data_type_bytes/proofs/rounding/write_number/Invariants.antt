use Rattle.std.proofs.Common.{◌≡◌, ◌/◌, ◌^◌, ◌++◌, drop}
use Rattle.zarr_model.specs.Codec.{low_bytes}
use Rattle.zarrs_data_type_bytes.proofs.rounding.write_number.Given as goal

abbrev pub invariant-loop-byte : goal.invariant-loop-byte
invariant-loop-byte l = (l.byte-items ≡ low_bytes l.byte-index l.number ++ drop l.byte-index l.initial.byte-items)
    × (l.rest ≡ l.number / 256 ^ l.byte-index)
