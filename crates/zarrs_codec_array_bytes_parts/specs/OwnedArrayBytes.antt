-- Array bytes that are owned, in the model.
use Rattle.std.specs.Prelude.{Bool, true, ◌&&◌, nat_lt, length}
use Rattle.zarr_model.specs.ArrayBytes.{ArrayBytes, fixed_bytes, variable_bytes, optional_bytes}
use Rattle.zarrs_codec_slices.specs.Picking.{are_within}
use Rattle.zarrs_codec_array_bytes_parts.specs.declared.owned_array_bytes.OwnedArrayBytes as code

-- owned array bytes as those of the model
abbrev pub owned_raw : code.OwnedArrayBytes → ArrayBytes
owned_raw (code.Fixed value) = fixed_bytes value.items
owned_raw (code.Variable value offsets) = variable_bytes value.items offsets.items
owned_raw (code.Optional' pointer under mask) = optional_bytes (owned_raw under) mask.items

-- offsets, if there are any, are some, do not fall, and stay within their bytes
abbrev pub are_sound : ArrayBytes → Bool
are_sound (fixed_bytes value) = true
are_sound (variable_bytes value offsets) = nat_lt 0 (length offsets) && are_within value offsets
are_sound (optional_bytes under mask) = are_sound under
