-- Runs of neighbouring elements that two boxes share.
use Rattle.std.specs.Prelude.{◌≡◌, ℕ, ◌+◌, ◌*◌, ◌<◌, false, length, drop}
use Rattle.zarr_model.specs.Prelude.{Region, count, contains, tuple_at}
use Rattle.zarrs_codec_slices.specs.Overlap.{span_at, shared_from, shared_size}

-- no tuple of the one box is in the other
pub record AreApart (target source : Region) : Type 0 where
  pub each : (k : ℕ) → k < count target → contains source (tuple_at target k) ≡ false

-- an axis after which two boxes are the same, and how many elements one of its indices has
pub record IsRunAxis (target source : Region) (axis num_elements : ℕ) : Type 0 where
  pub in_range : axis < length target
  pub same_after : drop (axis + 1) target ≡ drop (axis + 1) source
  pub num_elements_is : num_elements ≡ count (drop (axis + 1) target)

-- what two boxes share of such an axis: some neighbouring elements of both, from one on in the
-- target and from another one on in the source
pub record IsSharedRun (target source : Region) (axis to from len : ℕ) : Type 0 where
  pub in_range : axis < length target
  pub same_after : drop (axis + 1) target ≡ drop (axis + 1) source
  pub some : 0 < len
  pub to_is : to ≡ shared_from (span_at target axis) (span_at source axis)
      * count (drop (axis + 1) target)
  pub from_is : from ≡ shared_from (span_at source axis) (span_at target axis)
      * count (drop (axis + 1) target)
  pub len_is : len ≡ shared_size (span_at target axis) (span_at source axis)
      * count (drop (axis + 1) target)
