-- A box of elements has as many as the box.
use Rattle.std.proofs.Common.{◌≡◌, length, ◌∙◌}
use Rattle.zarr_model.specs.Region.{count}
use Rattle.zarrs_codec_slices.proofs.ReplaceLaws.{length-replaced}
use Rattle.zarrs_codec_array_bytes.specs.Raw.{raw_of}
use Rattle.zarr_array_boxes.specs.Elements.{blanks}
use Rattle.zarrs_codec_array_bytes_parts.specs.OwnedArrayBytes.{owned_raw}
use Rattle.zarr_array_boxes.specs.Given.{given_indices, given_list}
use Rattle.zarr_array_boxes.specs.BoxElements.{fixed_kind, fixed_box, listed_kind, listed_box, listed_list, held_box}
use Rattle.zarr_array_boxes.specs.BoxElements.{held_list, box_held, list_held}
use Rattle.zarr_array_boxes.specs.declared.listed.ListedBox.{ListedBox}
use Rattle.zarr_array_boxes.specs.declared.box_elements.Held.{Held}
use Rattle.zarr_array_boxes.specs.declared.box_elements.Held.TheVariants as held
use Rattle.zarr_array_boxes.specs.declared.box_elements.BoxElements.{BoxElements}
use Rattle.zarr_array_boxes.proofs.PutLaws.{list_long, blanks_long}

pub listed-long : (elements : ListedBox) → length (listed_list elements) ≡ count (listed_box elements)
listed-long elements =
    length-replaced (given_indices elements.given) (given_list (listed_kind elements) elements.given)
    (blanks (listed_kind elements) (count (listed_box elements)) (raw_of elements.blank))
    ∙ blanks_long (listed_kind elements) (count (listed_box elements)) (raw_of elements.blank)

held-long : (elements : Held) → length (held_list elements) ≡ count (held_box elements)
held-long (held.Fixed elements) =
    list_long (fixed_kind elements) (fixed_box elements) (owned_raw elements.elements) elements.means
held-long (held.Listed elements) = listed-long elements

pub length-list_held : (elements : BoxElements) → length (list_held elements) ≡ count (box_held elements)
length-list_held elements = held-long elements.held
