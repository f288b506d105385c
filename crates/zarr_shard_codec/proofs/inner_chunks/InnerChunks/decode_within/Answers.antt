use Rattle.std.proofs.Common.{◌≡◌, ◌+◌, ◌*◌, ◌^◌, ◌<◌, Some, IsSome, refl, sym, ap, ◌∙◌, subst, subst₂}
use Rattle.zarrs_codec_traits.specs.Prelude.{count, count_of, kind_of, fixed_size, fill_element, has_long_element}
use Rattle.zarrs_codec_traits.specs.Prelude.{region, fill_bytes, filled_with, size_in, raw_of, options_of}
use Rattle.zarr_model.proofs.RegionLaws.{sizes_whole}
use Rattle.zarr_array_boxes.specs.BoxElements.{kind_held, box_held, list_held}
use Rattle.zarr_shard_codec.specs.Finding.{index_found}
use Rattle.zarr_shard_codec.specs.Placing.{indices_at}
use Rattle.zarr_shard_codec.specs.ShardCodec.{inner_of}
use Rattle.zarr_shard_codec.proofs.CodecFacts.{is_inner, own_fits, has_inner}
use Rattle.zarr_shard_codec.proofs.WholeLaws.{all_given}
use Rattle.zarr_shard_codec.proofs.inner_chunks.InnerChunks.decode_within.Goals as goal

pub filled-requires-clause-denotes : goal.filled-requires-clause-denotes
filled-requires-clause-denotes c = subst IsSome (sym (ap (λ t. fill_element (kind_of t)
    (fill_bytes c.fill_value.result.now)) c.data_type.ensures ∙ c.fill_value.ensures.element)) refl

pub filled-requires-clause-count : goal.filled-requires-clause-count
filled-requires-clause-count c =
    let codec = c.args.self.now.codec.now in
    let number : count (region c.args.whole.now) ≡ count_of (inner_of codec).shape =
    ap count c.requires.whole ∙ ap count_of (sizes_whole (inner_of codec).shape) in
    subst (λ n. n + 1 < 2 ^ 64) (sym number) (own_fits codec).0

pub filled-requires-clause-bytes : goal.filled-requires-clause-bytes
filled-requires-clause-bytes c =
    let codec = c.args.self.now.codec.now in
    let number : count (region c.args.whole.now) ≡ count_of (inner_of codec).shape =
    ap count c.requires.whole ∙ ap count_of (sizes_whole (inner_of codec).shape) in
    subst₂ (λ t n. n * size_in (fixed_size (kind_of t)) < 2 ^ 64) (sym c.data_type.ensures) (sym number)
    (own_fits codec).1

pub place_all-requires-clause-holds : goal.place_all-requires-clause-holds
place_all-requires-clause-holds c =
    let codec = c.args.self.now.codec.now in
    record {
      of_kind = c.in_ok-elements.ensures.kind ∙ ap kind_of c.data_type.ensures;
      over = c.in_ok-elements.ensures.subset ∙ c.requires.whole;
      short = c.in_ok-elements.ensures.short (λ some.
          ap (λ t. has_long_element (filled_with (kind_of t) 1 (fill_bytes c.fill_value.result.now)))
          c.data_type.ensures ∙ c.fill_value.ensures.short (indices_at codec 0) (is_inner codec 0 (has_inner codec)));
    }

pub returns-clause-value : goal.returns-clause-value
returns-clause-value c =
    let codec = c.args.self.now.codec.now in
    let elements = c.place_all.new.elements in
    all_given codec (options_of c.args.options.now) c.args.value.now c.in-Ok.index.now (list_held elements)
    (kind_held elements) (box_held elements) (raw_of c.in_ok-bytes.bytes)
    (subst₂ (λ v n. index_found codec.shard.checked v n c.args.value.now ≡ Some c.in-Ok.index.now)
    c.validate_checksums.ensures c.num_inner-number.ensures c.in-Ok.ensures.found)
    c.in_default.ensures.put c.place_all.ensures.holds.of_kind c.place_all.ensures.holds.over
    c.in_ok-bytes.ensures.means
