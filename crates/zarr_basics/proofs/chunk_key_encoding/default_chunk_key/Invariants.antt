use Rattle.std.proofs.Common.{◌≡◌, ◌++◌, ◌∷◌, codes, decimal, flat_map, take, string_bytes}
use Rattle.zarrs_metadata_parts.specs.Names.{separator_code}
use Rattle.zarr_basics.proofs.chunk_key_encoding.default_chunk_key.Given as goal

abbrev pub invariant-loop-index : goal.invariant-loop-index
invariant-loop-index l = string_bytes l.text ≡
    codes "c" ++ flat_map (λ index. separator_code l.separator ∷ decimal index) (take l.index-index l.chunk_indices)
