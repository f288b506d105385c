-- What was given to places of a box.
use Rattle.std.specs.Prelude.{ℕ, Bool, true, false, List, [], length, Option, Some, None, unwrap_or}
use Rattle.zarr_model.specs.Element.{Element, Kind}
use Rattle.zarr_model.specs.ArrayBytes.{ArrayBytes, meaning}
use Rattle.zarr_model.specs.Command.{has_long_element}
use Rattle.zarrs_codec_slices.specs.PickedRuns.{run_numbers}
use Rattle.zarrs_codec_array_bytes_parts.specs.Pairs.{are_alike}
use Rattle.zarrs_codec_array_bytes_parts.specs.Joined.{bytes_joined}
use Rattle.zarrs_codec_array_bytes_parts.specs.OwnedArrayBytes.{owned_raw}
use Rattle.zarr_array_boxes.specs.declared.given.Given.{Given}

-- the runs of linear indices of the places, and these indices
abbrev pub given_runs : Option Given → List (ℕ × ℕ)
given_runs None = []
given_runs (Some given) = given.runs.items

abbrev pub given_indices : Option Given → List ℕ
given_indices given = run_numbers (given_runs given)

-- the elements, of a kind
abbrev pub given_meaning : Kind → Option Given → Option (List Element)
given_meaning kind None = Some []
given_meaning kind (Some given) =
    meaning kind (length (run_numbers given.runs.items)) (owned_raw given.grown)

abbrev pub given_list : Kind → Option Given → List Element
given_list kind given = unwrap_or (given_meaning kind given) []

-- a piece is of the kind of what was given before it
abbrev pub given_alike : Option Given → ArrayBytes → Bool
given_alike None piece = true
given_alike (Some given) piece = are_alike (owned_raw given.grown) piece

-- what was given, and a piece behind it
abbrev pub given_joined : Option Given → ArrayBytes → ArrayBytes
given_joined None piece = piece
given_joined (Some given) piece = bytes_joined (owned_raw given.grown) piece

-- whether one of what was given is too long for its length to be stored
abbrev pub has_long_given : Option Given → Bool
has_long_given None = false
has_long_given (Some given) = has_long_element (owned_raw given.grown)
