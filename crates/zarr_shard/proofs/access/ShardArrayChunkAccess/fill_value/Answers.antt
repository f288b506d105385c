use Rattle.std.proofs.Common.{◌≡◌, false, ℕ, List, subst}
use Rattle.zarrs_codec_traits.specs.Prelude.{kind, IsChunk, has_long_element, fill_bytes, filled_with}
use Rattle.zarr_array_open.specs.Parts.{described_parts}
use Rattle.zarr_array_open.specs.declared.parts.ArrayParts.{ArrayParts}
use Rattle.zarr_shard_codec.specs.Placing.{indices_at}
use Rattle.zarr_shard_codec.proofs.CodecFacts.{has_inner, is_inner}
use Rattle.zarr_shard.proofs.access.ShardArrayChunkAccess.fill_value.Goals as goal

pub returns-clause-short : goal.returns-clause-short
returns-clause-short c = λ chunk is_chunk.
    let codec = c.args.self.now.codec in
    let short = subst (λ (inner : ArrayParts). (chunk : List ℕ) → IsChunk (described_parts inner).grid chunk →
    has_long_element (filled_with (kind (described_parts inner)) 1 (fill_bytes c.fill_value.result.now)) ≡ false)
    c.inner.ensures c.fill_value.ensures.short in
    short (indices_at codec 0) (is_inner codec 0 (has_inner codec))
