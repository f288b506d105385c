-- Fill values of optional types.
use Rattle.std.proofs.Common.{◌≡◌, ◌≤◌, false, List, [], ◌∷◌, length, get_or, Some, None, is_some, option_map}
use Rattle.std.proofs.Common.{option_and_then, refl, arith}
use Rattle.serde_json.specs.Data.{Data, null, boolean, number, string, array, object, no_items, item}
use Rattle.serde_json.specs.Find.{as_null, as_array}
use Rattle.zarr_model.specs.Element.{DataType, optional_type}
use Rattle.zarrs_metadata_values.specs.FillValueMetadata.{fill_view, fills_view}
use Rattle.zarrs_metadata_values.specs.declared.fill_value.FillValueMetadataV3.{FillValueMetadataV3}
use Rattle.zarrs_data_type.specs.FillMetadata.{fill_of, only_item, some_bytes}

pub some_of : (inner : DataType) (d : Data) → is_some (as_null d) ≡ false → fill_of (optional_type inner) d ≡
    option_and_then (λ e. option_map some_bytes (fill_of inner e)) (only_item (as_array d))
some_of inner null e = cc
some_of inner (boolean b) e = refl
some_of inner (number n) e = refl
some_of inner (string s) e = refl
some_of inner (array no_items) e = refl
some_of inner (array (item d no_items)) e = refl
some_of inner (array (item d (item f ds))) e = refl
some_of inner (object ms) e = refl

pub two_items : (fills : List FillValueMetadataV3) → 2 ≤ length fills → only_item (Some (fills_view fills)) ≡ None
two_items [] h = absurd (omega arith)
two_items (f ∷ []) h = absurd (omega arith)
two_items (f ∷ g ∷ fills) h = refl

pub one_item : (fills : List FillValueMetadataV3) (d : FillValueMetadataV3) → length fills ≡ 1 →
    only_item (Some (fills_view fills)) ≡ Some (fill_view (get_or fills 0 d))
one_item [] d h = absurd (omega arith)
one_item (f ∷ []) d h = refl
one_item (f ∷ g ∷ fills) d h = absurd (omega arith)
