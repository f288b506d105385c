use Rattle.std.proofs.Common.{ℕ, suc}
use Rattle.zarr_model.specs.ArrayBytes.{ArrayBytes, fixed_bytes, variable_bytes, optional_bytes}
use Rattle.zarrs_codec_array_bytes.specs.Raw.{raw_of}
use Rattle.zarrs_codec_array_bytes_parts.proofs.owned_array_bytes.OwnedArrayBytes.+owned_from.Given as goal

-- the masks of array bytes
abbrev levels : ArrayBytes → ℕ
levels (fixed_bytes value) = 0
levels (variable_bytes value offsets) = 0
levels (optional_bytes under mask) = suc (levels under)

abbrev pub decreases-owned_from : goal.decreases-owned_from
decreases-owned_from l = levels (raw_of l.bytes)
