-- The elements that array bytes hold over a box, and what putting some of them into others does.
use Rattle.std.specs.Prelude.{◌≡◌, ℕ, ◌+◌, ◌*◌, ◌^◌, ◌<◌, List, [], get_or, replicate, Some, IsSome, unwrap_or}
use Rattle.zarr_model.specs.Region.{Region, count}
use Rattle.zarr_model.specs.Element.{Element, null, Kind}
use Rattle.zarr_model.specs.ArrayBytes.{ArrayBytes, meaning}
use Rattle.zarrs_codec_slices.specs.Overlap.{Copied}

-- the elements that array bytes mean over a box
abbrev pub list_in : Kind → Region → ArrayBytes → List Element
list_in kind box bytes = unwrap_or (meaning kind (count box) bytes) []

-- so many times the one element that array bytes mean
abbrev pub blanks : Kind → ℕ → ArrayBytes → List Element
blanks kind number bytes = replicate number (get_or (unwrap_or (meaning kind 1 bytes) []) 0 null)

-- array bytes mean elements of n bytes over a box, which have room
pub record HaveRoom (kind : Kind) (n : ℕ) (box : Region) (bytes : ArrayBytes) : Type 0 where
  pub means : IsSome (meaning kind (count box) bytes)
  pub few : count box + 1 < 2 ^ 64
  pub room : count box * n < 2 ^ 64

-- array bytes over a box that took what bytes over another one share with it
pub record PutsOverlap (kind : Kind) (target source : Region) (bytes old new : ArrayBytes)
    : Type 0 where
  pub held : meaning kind (count target) new ≡ Some (list_in kind target new)
  pub copied : Copied target source (list_in kind source bytes) (list_in kind target old)
      (list_in kind target new)
