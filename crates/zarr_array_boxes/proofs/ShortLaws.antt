-- No element grows too long where pieces are joined, or where there is no element.
use Rattle.std.proofs.Common.{◌≡◌, ℕ, zero, suc, ◌<◌, ◌==◌, ◌&&◌, true, false, List, [], ◌∷◌, length, map, Option}
use Rattle.std.proofs.Common.{Some, None, IsSome, arith, ap, refl, ◌∙◌, eqb-true}
use Rattle.std.proofs.lemmas.Bool.{and_parts}
use Rattle.zarr_model.specs.Element.{Element, of_bytes, Kind, fixed, variable, optional}
use Rattle.zarr_model.specs.ArrayBytes.{ArrayBytes, fixed_bytes, variable_bytes, optional_bytes, between_offsets}
use Rattle.zarr_model.specs.ArrayBytes.{offsets_rise_to, are_offsets, meaning}
use Rattle.zarr_model.specs.Command.{has_long_step, has_long_element}
use Rattle.zarr_model.proofs.BytesLaws.{when_some}
use Rattle.zarrs_codec_slices.specs.PickedRuns.{run_numbers}
use Rattle.zarrs_codec_slices.proofs.MaskLaws.{masked_parts}
use Rattle.zarrs_codec_array_bytes_parts.specs.OwnedArrayBytes.{owned_raw}
use Rattle.zarrs_codec_array_bytes_parts.proofs.JoinLaws.{joined_short}
use Rattle.zarrs_codec_array_bytes_parts.proofs.MeansLaws.{some_list}
use Rattle.zarr_array_boxes.specs.Given.{given_meaning, given_list, given_joined, has_long_given}
use Rattle.zarr_array_boxes.specs.declared.given.Given.{Given}

-- what was given, and a piece behind it
pub given_short : (kind : Kind) (number : ℕ) (before given : Option Given) (new : Given) (piece : ArrayBytes) (ys :
    List Element) → before ≡ given → IsSome (given_meaning kind given) → meaning kind number piece ≡ Some ys →
    owned_raw new.grown ≡ given_joined before piece → has_long_given given ≡ false → has_long_element piece ≡ false →
    has_long_given (Some new) ≡ false
given_short kind number before None new piece ys same means piece_means joins a b =
    ap has_long_element (joins ∙ ap (λ g. given_joined g piece) same) ∙ b
given_short kind number before (Some given) new piece ys same means piece_means joins a b =
    ap has_long_element (joins ∙ ap (λ g. given_joined g piece) same)
    ∙ joined_short kind (length (run_numbers given.runs.items)) number (owned_raw given.grown) piece
    (given_list kind (Some given)) ys (some_list (given_meaning kind (Some given)) means) piece_means a b

-- array bytes of no element have no long one
no_step : (end : ℕ) (offsets : List ℕ) → are_offsets 0 end offsets ≡ true → has_long_step offsets ≡ false
no_step end [] e = cc
no_step end (first ∷ []) e = refl
no_step end (first ∷ next ∷ offsets) e =
    let none : length (next ∷ offsets) ≡ 0 = eqb-true _ _
    (and_parts (length (next ∷ offsets) == 0) ((first == 0) && offsets_rise_to end first (next ∷ offsets)) e).0 in
    absurd (omega (arith, none))

none_long : (kind : Kind) (raw : ArrayBytes) (list : List Element) → meaning kind 0 raw ≡ Some list →
    has_long_element raw ≡ false
none_long kind (fixed_bytes value) list e = refl
none_long (fixed n) (variable_bytes value offsets) list e = cc
none_long variable (variable_bytes value offsets) list e =
    no_step (length value) offsets
    (when_some (are_offsets 0 (length value) offsets) (map of_bytes (between_offsets offsets value)) list e).0
none_long (optional kind) (variable_bytes value offsets) list e = cc
none_long (fixed n) (optional_bytes under mask) list e = cc
none_long variable (optional_bytes under mask) list e = cc
none_long (optional kind) (optional_bytes under mask) list e =
    let parts = masked_parts kind 0 mask under list e in none_long kind under parts.list parts.inner

pub some_short : (kind : Kind) (count : ℕ) (raw : ArrayBytes) (list : List Element) →
    meaning kind count raw ≡ Some list → (0 < count → has_long_element raw ≡ false) → has_long_element raw ≡ false
some_short kind zero raw list means short = none_long kind raw list means
some_short kind (suc n) raw list means short = short (omega arith)
