use Rattle.std.proofs.Common.{◌≡◌, ◌+◌, ◌*◌, ◌^◌, ◌<◌, length, IsSome, sym, ap, ◌∙◌, subst, subst₂}
use Rattle.zarrs_codec_traits.specs.Prelude.{count, count_of, fixed_size, meaning, region, size_in, raw_of}
use Rattle.zarr_shard_codec.specs.ShardCodec.{inner_dims}
use Rattle.zarr_shard_codec.proofs.CodecFacts.{box_rank, box_count, dims_fit}
use Rattle.zarr_shard_codec.proofs.inner_chunks.put_at.Goals as goal

pub put-requires-clause-rank : goal.put-requires-clause-rank
put-requires-clause-rank c = ap length c.requires.holds.over
    ∙ (box_rank c.args.codec.now c.args.number c.requires.below ∙ sym (ap length c.in_ok-subset.ensures))

pub put-requires-clause-means : goal.put-requires-clause-means
put-requires-clause-means c =
    let counted : count (region c.in_ok-subset.subset) ≡ count_of (inner_dims c.args.codec.now) =
    ap count c.in_ok-subset.ensures ∙ box_count c.args.codec.now c.args.number c.requires.below in
    subst₂ (λ k n. IsSome (meaning k n (raw_of c.args.bytes.now))) (sym c.requires.holds.of_kind) (sym counted)
    c.requires.means

pub put-requires-clause-count : goal.put-requires-clause-count
put-requires-clause-count c =
    let counted : count (region c.in_ok-subset.subset) ≡ count_of (inner_dims c.args.codec.now) =
    ap count c.in_ok-subset.ensures ∙ box_count c.args.codec.now c.args.number c.requires.below in
    subst (λ n. n + 1 < 2 ^ 64) (sym counted) (dims_fit c.args.codec.now).0

pub put-requires-clause-bytes : goal.put-requires-clause-bytes
put-requires-clause-bytes c =
    let counted : count (region c.in_ok-subset.subset) ≡ count_of (inner_dims c.args.codec.now) =
    ap count c.in_ok-subset.ensures ∙ box_count c.args.codec.now c.args.number c.requires.below in
    subst₂ (λ k n. n * size_in (fixed_size k) < 2 ^ 64) (sym c.requires.holds.of_kind) (sym counted)
    (dims_fit c.args.codec.now).1
