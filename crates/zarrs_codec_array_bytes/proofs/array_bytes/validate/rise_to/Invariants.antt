use Rattle.std.proofs.Common.{◌≡◌, drop}
use Rattle.zarr_model.specs.ArrayBytes.{offsets_rise_to}
use Rattle.zarrs_codec_array_bytes.proofs.array_bytes.validate.rise_to.Given as goal

abbrev pub invariant-loop-to : goal.invariant-loop-to
invariant-loop-to l = offsets_rise_to l.end l.from l.offsets ≡ offsets_rise_to l.end l.last (drop l.to-index l.offsets)
