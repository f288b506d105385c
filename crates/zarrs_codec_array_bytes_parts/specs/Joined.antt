-- Array bytes of one kind, one behind the other.
use Rattle.std.specs.Prelude.{ℕ, ◌+◌, ◌++◌, List, length, map, drop}
use Rattle.zarr_model.specs.ArrayBytes.{ArrayBytes, fixed_bytes, variable_bytes, optional_bytes}

-- offsets, and behind them those of elements whose bytes begin at this place
abbrev pub joined_offsets : ℕ → List ℕ → List ℕ → List ℕ
joined_offsets place from to = from ++ map (λ offset. place + offset) (drop 1 to)

-- the elements of both, those of the second behind those of the first
abbrev pub bytes_joined : ArrayBytes → ArrayBytes → ArrayBytes
bytes_joined (fixed_bytes value) (fixed_bytes more) = fixed_bytes (value ++ more)
bytes_joined (variable_bytes value from) (variable_bytes more to) =
    variable_bytes (value ++ more) (joined_offsets (length value) from to)
bytes_joined (optional_bytes under mask) (optional_bytes more over) =
    optional_bytes (bytes_joined under more) (mask ++ over)
bytes_joined first _ = first
