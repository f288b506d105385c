-- Array bytes over a box that took the bytes which others over another box share with it.
use Rattle.std.specs.Prelude.{◌≡◌, ℕ, List, length}
use Rattle.zarr_model.specs.Region.{Region}
use Rattle.zarr_model.specs.ArrayBytes.{ArrayBytes, fixed_bytes, optional_bytes}
use Rattle.zarrs_codec_slices.specs.Elements.{fixed_elements}
use Rattle.zarrs_codec_slices.specs.Overlap.{Copied}

-- bytes of elements of one size that took the elements which other bytes share with them
pub record TakesOverlap (size : ℕ) (target source : Region) (bytes old new : List ℕ) : Type 0 where
  pub as_long : length new ≡ length old
  pub copied : Copied target source (fixed_elements size bytes) (fixed_elements size old)
      (fixed_elements size new)

-- the same level by level
abbrev pub CopiesOverlap : ℕ → Region → Region → ArrayBytes → ArrayBytes → ArrayBytes → Type 0
CopiesOverlap size target source (fixed_bytes bytes) (fixed_bytes old) (fixed_bytes new) =
    TakesOverlap size target source bytes old new
CopiesOverlap size target source (optional_bytes bytes over) (optional_bytes old mask)
    (optional_bytes new taken) =
    CopiesOverlap size target source bytes old new × TakesOverlap 1 target source over mask taken
CopiesOverlap size target source bytes old new = ⊥
