-- No element of a region that is read is too long for its length to be stored.
use Rattle.std.proofs.Common.{◌≡◌, ℕ, ◌<◌, true, false, List, ap, ◌∙◌}
use Rattle.zarr_model.specs.Prelude.{Region, count, tuple_at, ends_within, Kind, kind, has_long_element, IsChunk}
use Rattle.zarr_model.proofs.RegionLaws.{contains-tuple_at}
use Rattle.zarr_model.proofs.ArrayLaws.{inside_shape}
use Rattle.zarrs_codec_slices.specs.Filling.{filled_with}
use Rattle.zarr_array.specs.Access.{Access, IsServed, described}

-- a region that has an element meets a chunk, and so the fill value is not too long
pub region_fill_short : (array : Access) → IsServed (described array) →
    (region : Region) (of_kind : Kind) (fill : List ℕ) → of_kind ≡ kind (described array) →
    ((chunk : List ℕ) → IsChunk (described array).grid chunk → has_long_element (filled_with (kind (described array)) 1
    fill) ≡ false) → ends_within region (described array).shape ≡ true → 0 < count region →
    has_long_element (filled_with of_kind 1 fill) ≡ false
region_fill_short array served region of_kind fill kind_is short inside some =
    let covered = served.covers.all_covered (tuple_at region 0)
    (inside_shape region (described array).shape (tuple_at region 0) inside (contains-tuple_at region 0 some)) in
    ap (λ k. has_long_element (filled_with k 1 fill)) kind_is ∙ short covered.0 covered.1
