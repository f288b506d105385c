use Rattle.std.proofs.Common.{◌≡◌, Some, None, subst₂}
use Rattle.zarrs_codec_traits.specs.Prelude.{region as region_of, held_bytes, options_of}
use Rattle.zarr_shard_codec.specs.Finding.{index_found, index_says}
use Rattle.zarr_shard_codec.proofs.ReadSteps.{by_index, by_no_index}
use Rattle.zarr_shard_codec.proofs.shard_codec.ShardCodec.read_by_part.Goals as goal

pub returns-in-Ok-clause-read : goal.returns-in-Ok-clause-read
returns-in-Ok-clause-read g c =
    let codec = c.args.self.now in
    let before = g.S.Store.shown c.args.store.now in
    by_index codec (options_of c.args.options.now) (region_of c.args.region.now)
    (held_bytes (before.content c.args.key.now)) c.args.part.now c.requires.part c.in-Ok.index.now before
    (g.S.Store.shown c.read_by_index.new.store) c.read_by_index.result
    (subst₂ (λ v n. index_found codec.shard.checked v n c.args.part.now ≡ Some c.in-Ok.index.now)
    c.validate_checksums.ensures c.num_inner-number.ensures c.in-Ok.ensures.found) c.read_by_index.ensures.read

pub returns-in-Err-clause-read : goal.returns-in-Err-clause-read
returns-in-Err-clause-read g c =
    let codec = c.args.self.now in
    let before = g.S.Store.shown c.args.store.now in
    by_no_index codec (options_of c.args.options.now) (region_of c.args.region.now)
    (held_bytes (before.content c.args.key.now)) c.args.part.now c.requires.part before c.in-Err.error
    (subst₂ (λ v n. (index_found codec.shard.checked v n c.args.part.now ≡ None) × index_says codec.shard.checked n
    c.args.part.now c.in-Err.error) c.validate_checksums.ensures c.num_inner-number.ensures c.in-Err.ensures.found)
