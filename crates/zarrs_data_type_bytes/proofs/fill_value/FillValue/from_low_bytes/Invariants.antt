use Rattle.std.proofs.Common.{◌≡◌, ◌-◌, ◌++◌}
use Rattle.zarr_model.specs.Codec.{low_bytes}
use Rattle.zarrs_data_type_bytes.proofs.fill_value.FillValue.from_low_bytes.Given as goal

abbrev pub invariant-loop : goal.invariant-loop
invariant-loop l = l.bytes.items ++ low_bytes (l.size - l.counter) l.rest ≡ low_bytes l.size l.number
