use Rattle.std.proofs.Common.{rules, ◌≡◌, length, map, ap, ◌∙◌}
use Rattle.zarrs_codec_traits.specs.Prelude.{registry_of, extensions_seen}
use Rattle.zarr_codecs.specs.CodecForm.{form_of}
use Rattle.zarr_array_open.specs.Chain.{leading, all_ranked}
use Rattle.zarr_array_open.proofs.RankLaws.{codecs_ranked}
use Rattle.zarr_array_open.specs.Configuration.{sharding_seen}
use Rattle.zarr_array_open.specs.Sharding.{are_inner_lengths}
use Rattle.zarr_array_open.proofs.shard_codecs.sharding_by.Goals as goal

pub invariant_of-result : goal.invariant_of-result
invariant_of-result c =
    let chunk : c.in_ok-chunk_shape.chunk_shape.items ≡ c.args.chunk_shape.now = search rules in record {
      cut = ap (λ dims. are_inner_lengths dims (sharding_seen c.in_ok-read.read).inner_shape) chunk
          ∙ c.in_ok-read.ensures.cut;
      ranked =
          ap (λ dims. all_ranked (length dims) (leading (map form_of c.in_ok-codecs.codecs.items))) chunk
          ∙ codecs_ranked (length c.args.chunk_shape.now) (registry_of c.args.registry.now)
          (extensions_seen c.deref.result.now) (map form_of c.in_ok-codecs.codecs.items) c.in_ok-codecs.ensures;
    }
