use Rattle.std.proofs.Common.{◌≡◌, ◌++◌, ◌∷◌, decimal, flat_map, take, string_bytes}
use Rattle.zarrs_metadata_parts.specs.Names.{separator_code}
use Rattle.zarr_basics.proofs.chunk_key_encoding.joined.Given as goal

abbrev pub invariant-loop-next : goal.invariant-loop-next
invariant-loop-next l = string_bytes l.text ≡
    decimal l.fn.first ++ flat_map (λ index. separator_code l.separator ∷ decimal index) (take l.next-index l.rest)
