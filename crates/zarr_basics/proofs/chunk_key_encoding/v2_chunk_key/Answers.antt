use Rattle.std.proofs.Common.{sym, ap, ◌∙◌}
use Rattle.std.proofs.lemmas.Bool.{true≢false}
use Rattle.zarr_model.specs.Key.{is_store_key}
use Rattle.zarrs_metadata_parts.specs.Names.{separator_code}
use Rattle.zarr_basics.proofs.V2KeyLaws.{v2_key_text}
use Rattle.zarr_basics.proofs.ChunkKeyLaws.{are_indices}
use Rattle.zarr_basics.proofs.chunk_key_encoding.v2_chunk_key.Goals as goal

pub unreachable-requires : goal.unreachable-requires
unreachable-requires c =
    true≢false (sym (ap is_store_key c.in_ok-text.ensures ∙ v2_key_text (separator_code c.args.separator)
    c.args.chunk_indices.now (are_indices c.args.chunk_indices.now c.type_inv.chunk_indices)) ∙ c.in-Err.ensures)
