use Rattle.std.proofs.Common.{refl, subst}
use Rattle.zarrs_codec_traits.specs.Prelude.{whole, raw_of, options_of}
use Rattle.zarr_shard_codec.specs.Index.{pair_at}
use Rattle.zarr_shard_codec.specs.Inner.{inner_at, GivesInner}
use Rattle.zarr_shard_codec.specs.Placing.{indices_at, box_at}
use Rattle.zarr_shard_codec.specs.ShardCodec.{inner_of, inner_level, inner_decoded}
use Rattle.zarr_shard_codec.proofs.CodecFacts.{is_inner, numbered}
use Rattle.zarr_shard_codec.proofs.InnerLaws.{put_there, put_blank, inner_fails}
use Rattle.zarr_shard_codec.proofs.inner_chunks.InnerChunks.place_inner.Goals as goal

pub returns-in_ok-put_at-in-Ok-Some-clause-put : goal.returns-in_ok-put_at-in-Ok-Some-clause-put
returns-in_ok-put_at-in-Ok-Some-clause-put c =
    let codec = c.args.self.now.codec.now in
    let under = options_of c.args.options.now in
    put_there codec under c.args.value.now c.args.index.now (indices_at codec c.args.number)
    (is_inner codec c.args.number c.requires.below) c.args.number (numbered codec c.args.number c.requires.below)
    (whole (inner_of codec).shape) c.args.elements.now c.put_at.new.elements (box_at codec c.args.number)
    (raw_of c.in-Ok-Some.bytes) c.requires.holds refl
    (subst (GivesInner (inner_level codec) (inner_at (inner_decoded codec under) c.args.value.now
    (pair_at c.args.index.now c.args.number))) c.in-Ok-Some.field-0-is c.in-Ok-Some.ensures.value)
    c.in_ok-put_at-in-Ok-Some.ensures.copied

pub returns-in_ok-put_at-in-Ok-None-clause-put : goal.returns-in_ok-put_at-in-Ok-None-clause-put
returns-in_ok-put_at-in-Ok-None-clause-put c =
    let codec = c.args.self.now.codec.now in
    let under = options_of c.args.options.now in
    put_blank codec under c.args.value.now c.args.index.now (indices_at codec c.args.number)
    (is_inner codec c.args.number c.requires.below) c.args.number (numbered codec c.args.number c.requires.below)
    (whole (inner_of codec).shape) c.args.elements.now c.put_at-in-Ok-None.new.elements (box_at codec c.args.number)
    (raw_of c.args.self.now.blank) c.requires.holds refl c.requires.inner.blank
    (subst (GivesInner (inner_level codec) (inner_at (inner_decoded codec under) c.args.value.now
    (pair_at c.args.index.now c.args.number))) c.in-Ok-None.field-0-is c.in-Ok-None.ensures.value)
    c.in_ok-put_at-in-Ok-None.ensures.copied

pub returns-in-Err-clause-put : goal.returns-in-Err-clause-put
returns-in-Err-clause-put c =
    let codec = c.args.self.now.codec.now in
    inner_fails codec (options_of c.args.options.now) c.args.value.now c.args.index.now (indices_at codec c.args.number)
    (is_inner codec c.args.number c.requires.below) c.args.number (numbered codec c.args.number c.requires.below)
    c.in-Err.error c.in-Err.ensures.failed
