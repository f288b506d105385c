-- A region that is not refused.
use Rattle.std.proofs.Common.{◌≡◌, ◌+◌, ◌*◌, ◌^◌, ◌<◌, ◌==◌, not, Bool, true, false, length, None, refl}
use Rattle.zarr_model.specs.Prelude.{Region, count, ends_within, Description, kind, fixed_size, is_too_large}
use Rattle.zarr_model.specs.Prelude.{region_refusal, refused_if, or_then, incompatible_dimensionality}
use Rattle.zarr_model.specs.Prelude.{subset_out_of_bounds, region_too_large}
use Rattle.zarrs_codec_slices.specs.Picking.{size_in}
use Rattle.zarr_array_open.proofs.ServedLaws.{counts_of}

-- it lies inside, and has room
pub record IsAccepted (array : Description) (region : Region) : Type 0 where
  pub inside : ends_within region array.shape ≡ true
  pub few : count region + 1 < 2 ^ 64
  pub room : count region * size_in (fixed_size (kind array)) < 2 ^ 64

pub accepted : (array : Description) (region : Region) → region_refusal array region ≡ None → IsAccepted array region
accepted array region none = go (length region == length array.shape) (ends_within region array.shape)
    (is_too_large (fixed_size (kind array)) (count region)) refl refl none
  where
    go : (same within large : Bool) → ends_within region array.shape ≡ within →
        is_too_large (fixed_size (kind array)) (count region) ≡ large →
        or_then (refused_if (not same) incompatible_dimensionality)
        (or_then (refused_if (not within) subset_out_of_bounds) (refused_if large region_too_large)) ≡ None →
        IsAccepted array region
    go false within large inside small e = cc
    go true false large inside small e = cc
    go true true true inside small e = cc
    go true true false inside small e =
        let room = counts_of (fixed_size (kind array)) (count region) small in
        record { inside = inside; few = room.0; room = room.1 }
