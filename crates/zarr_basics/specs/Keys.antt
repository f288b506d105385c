-- What a `ChunkKeyEncoding` stands for.
use Rattle.std.specs.Prelude.{ℕ, ◌^◌, ◌≤◌, List}
use Rattle.std.specs.List.{AllByRecursion}
use Rattle.zarr_model.specs.Prelude.{KeyEncoding, default_keys, v2_keys}
use Rattle.zarrs_metadata_parts.specs.Names.{separator_code}
use Rattle.zarr_basics.specs.declared.chunk_key_encoding.ChunkKeyEncoding.{ChunkKeyEncoding}
use Rattle.zarr_basics.specs.declared.chunk_key_encoding.ChunkKeyEncoding.TheVariants.{Default, V2}

abbrev pub keys_of : ChunkKeyEncoding → KeyEncoding
keys_of (Default separator) = default_keys (separator_code separator)
keys_of (V2 separator) = v2_keys (separator_code separator)

-- each number of chunks leaves the indices a u64's range
abbrev pub IsCountable : List ℕ → Type 0
IsCountable grid_shape = AllByRecursion (λ n. n ≤ 2 ^ 64) grid_shape
