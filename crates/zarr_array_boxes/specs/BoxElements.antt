-- What a box of elements holds.
use Rattle.std.specs.Prelude.{◌≡◌, ◌<◌, false, List}
use Rattle.zarr_model.specs.Region.{Region, count}
use Rattle.zarr_model.specs.Element.{Element, Kind}
use Rattle.zarr_model.specs.Command.{has_long_element}
use Rattle.zarrs_array_subset.specs.ArraySubset.{region}
use Rattle.zarrs_codec_slices.specs.Picking.{replaced}
use Rattle.zarrs_codec_array_bytes.specs.Raw.{raw_of}
use Rattle.zarrs_codec_array_bytes.specs.Steps.{kind_seen}
use Rattle.zarr_array_boxes.specs.Elements.{list_in, blanks}
use Rattle.zarrs_codec_array_bytes_parts.specs.OwnedArrayBytes.{owned_raw}
use Rattle.zarr_array_boxes.specs.Given.{given_indices, given_list, has_long_given}
use Rattle.zarr_array_boxes.specs.declared.fixed.FixedBox.{FixedBox}
use Rattle.zarr_array_boxes.specs.declared.listed.ListedBox.{ListedBox}
use Rattle.zarr_array_boxes.specs.declared.box_elements.Held.{Held}
use Rattle.zarr_array_boxes.specs.declared.box_elements.Held.TheVariants as held
use Rattle.zarr_array_boxes.specs.declared.box_elements.BoxElements.{BoxElements}

-- the kind, the box and the list of elements of one size
abbrev pub fixed_kind : FixedBox → Kind
fixed_kind elements = kind_seen elements.data_type.now

abbrev pub fixed_box : FixedBox → Region
fixed_box elements = region elements.subset.now

abbrev pub fixed_list : FixedBox → List Element
fixed_list elements =
    list_in (fixed_kind elements) (fixed_box elements) (owned_raw elements.elements)

-- the kind, the box and the list of elements of any kind
abbrev pub listed_kind : ListedBox → Kind
listed_kind elements = kind_seen elements.data_type.now

abbrev pub listed_box : ListedBox → Region
listed_box elements = region elements.subset.now

abbrev pub listed_list : ListedBox → List Element
listed_list elements =
    replaced (given_indices elements.given) (given_list (listed_kind elements) elements.given)
    (blanks (listed_kind elements) (count (listed_box elements)) (raw_of elements.blank))

-- the same of either
abbrev pub held_kind : Held → Kind
held_kind (held.Fixed elements) = fixed_kind elements
held_kind (held.Listed elements) = listed_kind elements

abbrev pub held_box : Held → Region
held_box (held.Fixed elements) = fixed_box elements
held_box (held.Listed elements) = listed_box elements

abbrev pub held_list : Held → List Element
held_list (held.Fixed elements) = fixed_list elements
held_list (held.Listed elements) = listed_list elements

-- the kind, the box and the list of a box of elements
abbrev pub kind_held : BoxElements → Kind
kind_held elements = held_kind elements.held

abbrev pub box_held : BoxElements → Region
box_held elements = held_box elements.held

abbrev pub list_held : BoxElements → List Element
list_held elements = held_list elements.held

-- of elements of any kind none is too long for its length to be stored: not the blank one, where
-- there is a place for it, and none that was given
pub record IsShortList (elements : ListedBox) : Type 0 where
  pub blank : 0 < count (listed_box elements) → has_long_element (raw_of elements.blank) ≡ false
  pub given : has_long_given elements.given ≡ false

-- the same of either; of elements of one size no length is stored
abbrev pub IsHeldShort : Held → Type 0
IsHeldShort (held.Fixed elements) = Unit {0}
IsHeldShort (held.Listed elements) = IsShortList elements

-- no element of a box of elements is too long for its length to be stored
abbrev pub HoldsShort : BoxElements → Type 0
HoldsShort elements = IsHeldShort elements.held
