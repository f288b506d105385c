-- The codec `transpose`.
use Rattle.std.specs.Prelude.{ℕ, ◌==◌, if◌then◌else◌, List, length, Option, Some, None}
use Rattle.zarr_model.specs.Element.{Element, null}
use Rattle.zarrs_codec_traits.specs.Prelude.{permuted, picked}
use Rattle.zarrs_data_type_bytes.specs.declared.codec_support.CodecName.TheVariants as names
use Rattle.zarrs_codec_traits.specs.Errors.{Unserved, unsupported}
use Rattle.zarr_codecs_elements.specs.Order.{inverse}
use Rattle.zarr_codecs_elements.specs.Moved.{moved_places}

-- shapes of the order's rank are served
abbrev pub rank_unserved : List ℕ → Option (List ℕ) → Option Unserved
rank_unserved order None = None
rank_unserved order (Some shape) =
    if length shape == length order then None else Some (unsupported names.Transpose)

-- the shape above one of the order's rank
abbrev pub shape_above_of : List ℕ → List ℕ → Option (List ℕ)
shape_above_of order shape =
    if length shape == length order then Some (permuted (inverse order) shape) else None

-- the elements of a shape, out of those of the ordered shape
abbrev pub moved_list : List ℕ → List ℕ → List Element → List Element
moved_list order shape list = picked null (moved_places order shape) list
