use Rattle.std.proofs.Common.{◌≡◌, ◌+◌, length, map, None, option_map}
use Rattle.std.specs.Option.{option_map_or}
use Rattle.zarr_model.specs.ArrayBytes.{array_bytes}
use Rattle.zarrs_codec_array_bytes.specs.Refusals.{kind_refusal}
use Rattle.zarrs_codec_array_bytes.specs.Steps.{kind_seen}
use Rattle.zarr_cli_lines.specs.ElementText.{all_some, element_of, words_left}
use Rattle.zarrs_codec_array_bytes_parts.specs.OwnedArrayBytes.{owned_raw}
use Rattle.zarr_cli_lines.specs.Put.{put_elements}
use Rattle.zarr_cli_lines.proofs.list.grow_elements.Given as goal

abbrev pub invariant-elements : goal.invariant-elements
invariant-elements l = record {
  of_kind : kind_refusal (kind_seen l.data_type) (owned_raw l.elements) ≡ None;
  put : option_map (λ es. put_elements (kind_seen l.data_type) es (owned_raw l.elements))
      (all_some (map (element_of (kind_seen l.data_type)) (words_left l.left)))
      ≡ option_map (array_bytes (kind_seen l.data_type))
      (all_some (map (element_of (kind_seen l.data_type)) (words_left l.fn.text)));
}

abbrev pub decreases-elements : goal.decreases-elements
decreases-elements l = option_map_or (λ rest. length rest.now + 1) l.left 0
