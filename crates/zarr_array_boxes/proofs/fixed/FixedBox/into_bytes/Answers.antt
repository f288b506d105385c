use Rattle.zarrs_codec_array_bytes_parts.specs.OwnedArrayBytes.{owned_raw}
use Rattle.zarrs_codec_array_bytes_parts.proofs.MeansLaws.{fixed_means}
use Rattle.zarr_array_boxes.specs.BoxElements.{fixed_kind, fixed_box}
use Rattle.zarr_model.specs.Region.{count}
use Rattle.zarr_array_boxes.proofs.fixed.FixedBox.into_bytes.Goals as goal

pub array_bytes_of-requires : goal.array_bytes_of-requires
array_bytes_of-requires c =
    fixed_means (fixed_kind c.args.self) (count (fixed_box c.args.self)) (owned_raw c.args.self.elements)
    c.args.self.some c.args.self.means
