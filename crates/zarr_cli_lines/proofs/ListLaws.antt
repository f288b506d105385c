-- Elements that are put one after another are the array bytes of their list.
use Rattle.std.proofs.Common.{[], ◌≡◌, ℕ, ◌+◌, true, List, ◌∷◌, ◌++◌, length, map, flat_map, nat_lt, Option, Some}
use Rattle.std.proofs.Common.{None, option_map, unwrap_or, subst, refl, sym, ap, ap₂, ◌∙◌, arith, append_assoc, append-nil}
use Rattle.std.proofs.lemmas.Bool.{and_from, lt-ltb}
use Rattle.std.proofs.lemmas.List.{length-append, map-append}
use Rattle.zarrs_codec_slices.specs.Picking.{are_within}
use Rattle.zarrs_codec_slices.proofs.ValueLaws.{gathered_within}
use Rattle.zarr_model.specs.Element.{Element, Kind, fixed, variable, optional}
use Rattle.zarr_model.specs.ArrayBytes.{ArrayBytes, fixed_bytes, variable_bytes, optional_bytes, bytes_of, mask_byte}
use Rattle.zarr_model.specs.ArrayBytes.{held, ends_from, array_bytes}
use Rattle.zarrs_codec_array_bytes.specs.Refusals.{kind_refusal}
use Rattle.zarrs_codec_array_bytes_parts.specs.OwnedArrayBytes.{are_sound}
use Rattle.zarr_cli_lines.specs.Put.{put_element, put_elements}

joined_more : (list : List Element) (element : Element) →
    flat_map bytes_of (list ++ element ∷ []) ≡ flat_map bytes_of list ++ bytes_of element
joined_more [] element = append-nil (bytes_of element)
joined_more (x ∷ list) element = ap (λ rest. bytes_of x ++ rest) (joined_more list element)
    ∙ sym (append_assoc (bytes_of x) (flat_map bytes_of list) (bytes_of element))

ends_more : (place : ℕ) (list : List Element) (element : Element) → ends_from place (map bytes_of (list ++ element
    ∷ [])) ≡ ends_from place (map bytes_of list) ++ (place + length (flat_map bytes_of list ++ bytes_of element)) ∷ []
ends_more place [] element = refl
ends_more place (x ∷ list) element =
    let far : place + length (bytes_of x) + length (flat_map bytes_of list ++ bytes_of element) ≡
    place + length ((bytes_of x ++ flat_map bytes_of list) ++ bytes_of element) =
    omega (
      arith,
      length-append (flat_map bytes_of list) (bytes_of element),
      length-append
          (bytes_of x ++ flat_map bytes_of list) (bytes_of element),
      length-append (bytes_of x) (flat_map bytes_of list),
    ) in
    ap (λ rest. (place + length (bytes_of x)) ∷ rest) (ends_more (place + length (bytes_of x)) list element
    ∙ ap (λ n. ends_from (place + length (bytes_of x)) (map bytes_of list) ++ n ∷ []) far)

-- one element more
pub put_more : (kind : Kind) (list : List Element) (element : Element) →
    put_element kind element (array_bytes kind list) ≡ array_bytes kind (list ++ element ∷ [])
put_more (fixed n) list element = ap fixed_bytes (sym (joined_more list element))
put_more variable list element =
    let end : length (flat_map bytes_of list ++ bytes_of element) ≡
    0 + length (flat_map bytes_of list ++ bytes_of element) = omega arith in
    ap₂ variable_bytes (sym (joined_more list element))
    (ap (λ n. 0 ∷ (ends_from 0 (map bytes_of list) ++ n ∷ [])) end
    ∙ ap (λ ends. 0 ∷ ends) (sym (ends_more 0 list element)))
put_more (optional kind) list element =
    ap₂ optional_bytes (put_more kind (map (held kind) list) (held kind element) ∙ ap (array_bytes kind)
    (sym (map-append (held kind) list (element ∷ [])))) (sym (map-append mask_byte list (element ∷ [])))

pub put_list : (kind : Kind) (list elements : List Element) →
    put_elements kind elements (array_bytes kind list) ≡ array_bytes kind (list ++ elements)
put_list kind list [] = ap (array_bytes kind) (sym (append-nil list))
put_list kind list (element ∷ elements) =
    ap (put_elements kind elements) (put_more kind list element) ∙
    (put_list kind (list ++ element ∷ []) elements ∙ ap (array_bytes kind) (append_assoc list (element ∷ []) elements))

-- all of them
pub all_put : (kind : Kind) (o : Option (List Element)) (start : ArrayBytes) → start ≡ array_bytes kind [] →
    option_map (λ es. put_elements kind es start) o ≡ option_map (array_bytes kind) o
all_put kind None start is = refl
all_put kind (Some es) start is = ap Some (ap (put_elements kind es) is ∙ put_list kind [] es)

-- a list's are of its kind
pub listed_of : (kind : Kind) (list : List Element) → kind_refusal kind (array_bytes kind list) ≡ None
listed_of (fixed n) list = refl
listed_of variable list = refl
listed_of (optional kind) list = listed_of kind (map (held kind) list)

-- and sound
listed_sound : (kind : Kind) (list : List Element) → are_sound (array_bytes kind list) ≡ true
listed_sound (fixed n) list = refl
listed_sound variable list =
    and_from (nat_lt 0 (length (0 ∷ ends_from 0 (map bytes_of list))))
    (are_within (flat_map bytes_of list) (0 ∷ ends_from 0 (map bytes_of list))) (lt-ltb 0
    (length (0 ∷ ends_from 0 (map bytes_of list))) (omega arith)) (gathered_within bytes_of list)
listed_sound (optional kind) list = listed_sound kind (map (held kind) list)

pub grown_sound : (kind : Kind) (o : Option (List Element)) (bytes : ArrayBytes) →
    Some bytes ≡ option_map (array_bytes kind) o → are_sound bytes ≡ true
grown_sound kind (Some list) bytes is = subst (λ b. are_sound b ≡ true) (sym (ap (λ o. unwrap_or o bytes) is))
    (listed_sound kind list)
grown_sound kind None bytes is = cc
