use Rattle.std.proofs.Common.{◌≡◌, ◌++◌, ◌∷◌, codes, decimal, flat_map, take, sym, ap, ◌∙◌, arith}
use Rattle.std.proofs.lemmas.Bool.{true≢false}
use Rattle.std.proofs.lemmas.List.{take_all}
use Rattle.zarr_model.specs.Prelude.{is_store_key}
use Rattle.zarrs_metadata_parts.specs.Names.{separator_code}
use Rattle.zarr_basics.proofs.ChunkKeyLaws.{chunk_key_text, are_indices}
use Rattle.zarr_basics.proofs.chunk_key_encoding.default_chunk_key.Goals as goal

pub unreachable-requires : goal.unreachable-requires
unreachable-requires c =
    let all : take c.loop-index.index-index c.args.chunk_indices.now ≡ c.args.chunk_indices.now =
    take_all c.loop-index.index-index c.args.chunk_indices.now (omega arith) in
    let separator = separator_code c.args.separator in
    true≢false (sym (ap is_store_key
    (c.loop-index.invariant ∙ ap (λ chunk. codes "c" ++ flat_map (λ index. separator ∷ decimal index) chunk) all)
    ∙ chunk_key_text separator c.args.chunk_indices.now (are_indices c.args.chunk_indices.now c.type_inv.chunk_indices))
    ∙ c.in-Err.ensures)
