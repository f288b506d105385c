-- Elements that are not too long to be stored.
use Rattle.std.proofs.Common.{◌≡◌, ℕ, ◌^◌, ◌<◌, false, List, length, Option, Some, None, refl}
use Rattle.zarr_model.specs.Prelude.{Kind, fixed, variable, optional, fixed_size, has_long_element}
use Rattle.zarrs_codec_slices.specs.Filling.{inner_fill, innermost_fill, filled_with}
use Rattle.zarrs_codec_slices.proofs.FilledLaws.{filled_short}

-- elements of a fixed size are never too long, nor are others where the fill value is not
sized_short : (kind : Kind) (n number : ℕ) (filler : List ℕ) → fixed_size kind ≡ Some n →
    has_long_element (filled_with kind number filler) ≡ false
sized_short (fixed m) n number filler e = refl
sized_short variable n number filler e = cc
sized_short (optional kind) n number filler e = sized_short kind n number (inner_fill kind filler) e

pub short_fill : (kind : Kind) (number : ℕ) (filler : List ℕ) → (fixed_size kind ≡ None →
    length (innermost_fill kind filler) < 2 ^ 32) → has_long_element (filled_with kind number filler) ≡ false
short_fill kind number filler short = go (fixed_size kind) refl
  where
    go : (size : Option ℕ) → fixed_size kind ≡ size → has_long_element (filled_with kind number filler) ≡ false
    go None is = filled_short kind number filler (short is)
    go (Some n) is = sized_short kind n number filler is
