use Rattle.std.proofs.Common.{◌≡◌, Some, ap, ◌∙◌, subst₂}
use Rattle.zarrs_codec_traits.specs.Prelude.{count, meaning, raw_of}
use Rattle.zarr_array_boxes.specs.BoxElements.{list_held}
use Rattle.zarr_shard_codec.proofs.shard_codec.ShardCodec.blank_region.Goals as goal

pub returns-clause-means : goal.returns-clause-means
returns-clause-means c =
    let elements = c.in_ok-elements.elements in
    subst₂ (λ k b. meaning k (count b) (raw_of c.in_ok-bytes.bytes) ≡ Some (list_held elements))
    c.in_ok-elements.ensures.holds.of_kind c.in_ok-elements.ensures.holds.over c.in_ok-bytes.ensures.means
    ∙ ap Some c.in_ok-elements.ensures.filled
