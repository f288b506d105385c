use Rattle.std.proofs.Common.{◌*◌, ◌^◌, ◌<◌, ap, ◌∙◌, sym, subst}
use Rattle.zarrs_codec_traits.specs.Prelude.{count, kind_of, fixed_size, has_long_element, region as region_of}
use Rattle.zarrs_codec_traits.specs.Prelude.{fill_bytes, filled_with, size_in}
use Rattle.zarr_shard_codec.specs.Placing.{indices_at}
use Rattle.zarr_shard_codec.proofs.CodecFacts.{is_inner, has_inner}
use Rattle.zarr_shard_codec.proofs.ReadSteps.{region_few, region_room}
use Rattle.zarr_shard_codec.proofs.shard_codec.ShardCodec.filled.Goals as goal

pub filled-requires-clause-count : goal.filled-requires-clause-count
filled-requires-clause-count c = region_few c.args.self.now (region_of c.args.region.now) c.requires

pub filled-requires-clause-bytes : goal.filled-requires-clause-bytes
filled-requires-clause-bytes c =
    subst (λ t. count (region_of c.args.region.now) * size_in (fixed_size (kind_of t))
    < 2 ^ 64) (sym c.data_type.ensures) (region_room c.args.self.now (region_of c.args.region.now) c.requires)

pub returns-clause-holds : goal.returns-clause-holds
returns-clause-holds c =
    let codec = c.args.self.now in record {
      of_kind = c.in_ok-elements.ensures.kind ∙ ap kind_of c.data_type.ensures;
      over = c.in_ok-elements.ensures.subset;
      short = c.in_ok-elements.ensures.short (λ some.
          ap (λ t. has_long_element (filled_with (kind_of t) 1 (fill_bytes c.fill_value.result.now)))
          c.data_type.ensures ∙ c.fill_value.ensures.short (indices_at codec 0) (is_inner codec 0 (has_inner codec)));
    }
