-- What is cleared is the array bytes of what it means.
use Rattle.std.proofs.Common.{◌≡◌, ℕ, zero, suc, ◌+◌, ◌-◌, ◌*◌, ◌≤◌, true, ◌==◌, ◌&&◌, nat_le, List, [], ◌∷◌, ◌++◌}
use Rattle.std.proofs.Common.{length, map, take, drop, flat_map, replicate, Some, None, Result, Ok, Err, IfOk, refl}
use Rattle.std.proofs.Common.{sym, ap, ap₂, ◌∙◌, subst, arith, eqb-true, length-take-le, length-drop, take-append-drop}
use Rattle.std.proofs.Common.{drop-drop}
use Rattle.std.specs.List.{list_all}
use Rattle.std.proofs.lemmas.Bool.{and_parts, leb-true}
use Rattle.std.proofs.Math.Nat.{suc-mul}
use Rattle.zarrs_codec_traits.specs.Prelude.{Element, of_bytes, Kind, fixed, variable, optional, fixed_size, size_in}
use Rattle.zarr_model.specs.ArrayBytes.{ArrayBytes, fixed_bytes, variable_bytes, optional_bytes, pieces}
use Rattle.zarr_model.specs.ArrayBytes.{between_offsets, offsets_rise_to, are_offsets, is_mask, masked, mask_over}
use Rattle.zarr_model.specs.ArrayBytes.{meaning, bytes_of, mask_byte, held, ends_from, array_bytes}
use Rattle.zarr_model.proofs.BytesLaws.{when_some, length-meaning, mask_length}
use Rattle.zarr_model.proofs.RefusalLaws.{rise_within}
use Rattle.zarrs_codec_slices.proofs.MaskLaws.{masked_parts}
use Rattle.zarrs_codec_array_bytes.proofs.ExtractLaws.{lengths_kept}
use Rattle.zarr_rechunk.specs.Cleared.{kept_piece, kept_value, kept_flag, pieces_under, values_under, mask_under}
use Rattle.zarr_rechunk.specs.Cleared.{under_mask, cleared, fit_masks, AreElements}
use Rattle.zarr_rechunk.proofs.MaskLaws.{length-mask_under}

-- the bytes of a valid mask
flags_of : (number : ℕ) (mask : List ℕ) → is_mask number mask ≡ true → list_all (λ b. nat_le b 1) mask ≡ true
flags_of number mask is = (and_parts (length mask == number) (list_all (λ b. nat_le b 1) mask) is).1

-- elements as they are
joined_pieces : (k n : ℕ) (value : List ℕ) → length value ≡ k * n →
    flat_map bytes_of (map of_bytes (pieces k n value)) ≡ value
joined_pieces zero n [] e = refl
joined_pieces zero n (b ∷ value) e = absurd (omega arith)
joined_pieces (suc k) n value e =
    ap (λ rest. take n value ++ rest) (joined_pieces k n (drop n value)
    (omega (arith, length-drop n value, e, suc-mul k n))) ∙ take-append-drop n value

joined_between : (from : ℕ) (offsets value : List ℕ) → offsets_rise_to (length value) from offsets ≡ true →
    flat_map bytes_of (map of_bytes (between_offsets (from ∷ offsets) value)) ≡ drop from value
joined_between from [] value rises =
    let end : from ≡ length value = eqb-true _ _ rises in
    sym (none (drop from value) (omega (arith, length-drop from value, end)))
  where
    none : (xs : List ℕ) → length xs ≡ 0 → xs ≡ []
    none [] e = refl
    none (x ∷ xs) e = absurd (omega (arith, e))
joined_between from (to ∷ offsets) value rises =
    let parts = and_parts (nat_le from to) (offsets_rise_to (length value) to offsets) rises in
    let low : from ≤ to = leb-true from to parts.0 in
    let back : from + (to - from) ≡ to = omega (arith, low) in
    ap (λ rest. take (to - from) (drop from value) ++ rest) (joined_between to offsets value parts.1
    ∙ (ap (λ n. drop n value) (sym back) ∙ sym (drop-drop (to - from) from value)))
    ∙ take-append-drop (to - from) (drop from value)

ends_between : (from : ℕ) (offsets value : List ℕ) → offsets_rise_to (length value) from offsets ≡ true →
    ends_from from (map bytes_of (map of_bytes (between_offsets (from ∷ offsets) value))) ≡ offsets
ends_between from [] value rises = refl
ends_between from (to ∷ offsets) value rises =
    let parts = and_parts (nat_le from to) (offsets_rise_to (length value) to offsets) rises in
    let low : from ≤ to = leb-true from to parts.0 in
    let high : to ≤ length value = rise_within (length value) to offsets parts.1 in
    let far : from + length (take (to - from) (drop from value)) ≡ to =
    omega (
      arith,
      low,
      high,
      length-take-le (to - from) (drop from value) (omega (arith, low, high, length-drop from value)),
    ) in
    ap (λ n. n ∷ ends_from n (map bytes_of (map of_bytes (between_offsets (to ∷ offsets) value)))) far
    ∙ ap (λ rest. to ∷ rest) (ends_between to offsets value parts.1)

-- elements under a mask
kept_of : (n b : ℕ) (piece : List ℕ) → length piece ≡ n →
    kept_piece b piece ≡ bytes_of (held (fixed n) (masked b (of_bytes piece)))
kept_of n zero piece long = ap (λ k. replicate k 0) long
kept_of n (suc b) piece long = refl

pieces_mean : (n : ℕ) (mask value : List ℕ) → length value ≡ length mask * n →
    pieces_under n mask value ≡
    flat_map bytes_of (map (held (fixed n)) (mask_over mask (map of_bytes (pieces (length mask) n value))))
pieces_mean n [] value long = refl
pieces_mean n (b ∷ mask) value long =
    let more : length value ≡ n + length mask * n = omega (arith, long, suc-mul (length mask) n) in
    ap₂ (λ (front rest : List ℕ).
    front ++ rest) (kept_of n b (take n value) (length-take-le n value (omega (arith, more))))
    (pieces_mean n mask (drop n value) (omega (arith, more, length-drop n value)))

value_of : (b : ℕ) (piece : List ℕ) → kept_value b piece ≡ bytes_of (held variable (masked b (of_bytes piece)))
value_of zero piece = refl
value_of (suc b) piece = refl

values_mean : (mask offsets value : List ℕ) → values_under mask offsets value ≡
    map bytes_of (map (held variable) (mask_over mask (map of_bytes (between_offsets offsets value))))
values_mean [] offsets value = refl
values_mean (b ∷ mask) [] value = refl
values_mean (b ∷ mask) (from ∷ []) value = refl
values_mean (b ∷ mask) (from ∷ to ∷ offsets) value = ap₂ (λ (first : List ℕ) (rest : List (List ℕ)).
    first ∷ rest) (value_of b (take (to - from) (drop from value))) (values_mean mask (to ∷ offsets) value)

joined_map : (list : List Element) → flat_map (λ piece. piece) (map bytes_of list) ≡ flat_map bytes_of list
joined_map [] = refl
joined_map (element ∷ list) = ap (λ rest. bytes_of element ++ rest) (joined_map list)

flag_of : (kind : Kind) (b flag : ℕ) (element : Element) →
    held (optional kind) (masked b (masked flag element)) ≡ masked (kept_flag b flag) element
flag_of kind zero flag element = refl
flag_of kind (suc b) flag element = refl

masks_mean : (kind : Kind) (above mask : List ℕ) (list : List Element) → length mask ≡ length above →
    map (held (optional kind)) (mask_over above (mask_over mask list)) ≡ mask_over (mask_under above mask) list
masks_mean kind [] mask list same = refl
masks_mean kind (b ∷ above) [] list same = absurd (omega (arith, same))
masks_mean kind (b ∷ above) (flag ∷ mask) [] same = refl
masks_mean kind (b ∷ above) (flag ∷ mask) (element ∷ list) same =
    ap₂ (λ (first : Element) (rest : List Element). first ∷ rest) (flag_of kind b flag element)
    (masks_mean kind above mask list (omega (arith, same)))

byte_of : (b : ℕ) (element : Element) → nat_le b 1 ≡ true → mask_byte (masked b element) ≡ b
byte_of zero element small = refl
byte_of (suc zero) element small = refl
byte_of (suc (suc b)) element small = let low : suc (suc b) ≤ 1 = leb-true (suc (suc b)) 1 small in
    absurd (omega (arith, low))

bytes_mean : (mask : List ℕ) (list : List Element) → length mask ≡ length list →
    list_all (λ b. nat_le b 1) mask ≡ true → map mask_byte (mask_over mask list) ≡ mask
bytes_mean [] list same flags = refl
bytes_mean (b ∷ mask) [] same flags = absurd (omega (arith, same))
bytes_mean (b ∷ mask) (element ∷ list) same flags =
    let parts = and_parts (nat_le b 1) (list_all (λ b. nat_le b 1) mask) flags in
    ap₂ (λ (first : ℕ) (rest : List ℕ). first ∷ rest) (byte_of b element parts.0)
    (bytes_mean mask list (omega (arith, same)) parts.1)

flags_under : (above mask : List ℕ) → list_all (λ b. nat_le b 1) mask ≡ true →
    list_all (λ b. nat_le b 1) (mask_under above mask) ≡ true
flags_under [] mask flags = refl
flags_under (b ∷ above) [] flags = refl
flags_under (zero ∷ above) (flag ∷ mask) flags =
    flags_under above mask (and_parts (nat_le flag 1) (list_all (λ b. nat_le b 1) mask) flags).1
flags_under (suc b ∷ above) (flag ∷ mask) flags =
    let parts = and_parts (nat_le flag 1) (list_all (λ b. nat_le b 1) mask) flags in
    ap (λ t. t && list_all (λ b. nat_le b 1) (mask_under above mask)) parts.0 ∙ flags_under above mask parts.1

pub under_means : (kind : Kind) (above : List ℕ) (bytes : ArrayBytes) (list : List Element) →
    meaning kind (length above) bytes ≡ Some list →
    under_mask (size_in (fixed_size kind)) above bytes ≡ array_bytes kind (map (held kind) (mask_over above list))
under_means (fixed n) above (fixed_bytes value) list e =
    let parts = when_some (length value == length above * n) (map of_bytes (pieces (length above) n value)) list e in
    ap fixed_bytes (pieces_mean n above value (eqb-true _ _ parts.0)
    ∙ ap (λ l. flat_map bytes_of (map (held (fixed n)) (mask_over above l))) parts.1)
under_means (fixed n) above (variable_bytes value offsets) list e = cc
under_means (fixed n) above (optional_bytes under mask) list e = cc
under_means variable above (fixed_bytes value) list e = cc
under_means variable above (variable_bytes value offsets) list e =
    let parts = when_some (are_offsets (length above) (length value) offsets)
    (map of_bytes (between_offsets offsets value)) list e in
    let same : values_under above offsets value ≡ map bytes_of (map (held variable) (mask_over above list)) =
    values_mean above offsets value ∙ ap (λ l. map bytes_of (map (held variable) (mask_over above l))) parts.1 in
    ap₂ variable_bytes (ap (flat_map (λ piece. piece)) same ∙ joined_map (map (held variable) (mask_over above list)))
    (ap (λ vs. 0 ∷ ends_from 0 vs) same)
under_means variable above (optional_bytes under mask) list e = cc
under_means (optional kind) above (fixed_bytes value) list e = cc
under_means (optional kind) above (variable_bytes value offsets) list e = cc
under_means (optional kind) above (optional_bytes under mask) list e =
    let parts = masked_parts kind (length above) mask under list e in
    let over : List ℕ = mask_under above mask in
    let long : length over ≡ length above = length-mask_under above mask (mask_length _ mask parts.mask_is) in
    let counted : length parts.list ≡ length above = length-meaning kind (length above) under parts.list parts.inner in
    let same : map (held (optional kind)) (mask_over above list) ≡ mask_over over parts.list =
    ap (λ l. map (held (optional kind)) (mask_over above l)) (sym parts.over)
    ∙ masks_mean kind above mask parts.list (mask_length _ mask parts.mask_is) in
    ap₂ optional_bytes
    (under_means kind over under parts.list (subst (λ n. meaning kind n under ≡ Some parts.list) (sym long) parts.inner)
    ∙ ap (λ l. array_bytes kind (map (held kind) l)) (sym same))
    (sym (ap (map mask_byte) same
    ∙ bytes_mean over parts.list (long ∙ sym counted) (flags_under above mask (flags_of _ mask parts.mask_is))))

-- what is cleared under its outermost mask
pub cleared_means : (kind : Kind) (number : ℕ) (bytes : ArrayBytes) (list : List Element) →
    meaning kind number bytes ≡ Some list →
    cleared (size_in (fixed_size kind)) bytes ≡ array_bytes kind list
cleared_means (fixed n) number (fixed_bytes value) list e =
    let parts = when_some (length value == number * n) (map of_bytes (pieces number n value)) list e in
    ap fixed_bytes (sym (ap (flat_map bytes_of) (sym parts.1) ∙ joined_pieces number n value (eqb-true _ _ parts.0)))
cleared_means (fixed n) number (variable_bytes value offsets) list e = cc
cleared_means (fixed n) number (optional_bytes under mask) list e = cc
cleared_means variable number (fixed_bytes value) list e = cc
cleared_means variable number (variable_bytes value []) list e = cc
cleared_means variable number (variable_bytes value (first ∷ offsets)) list e =
    let parts = when_some (are_offsets number (length value) (first ∷ offsets)) (map of_bytes
    (between_offsets (first ∷ offsets) value)) list e in
    let counted =
    and_parts (length offsets == number) ((first == 0) && offsets_rise_to (length value) first offsets) parts.0 in
    let begins = and_parts (first == 0) (offsets_rise_to (length value) first offsets) counted.1 in
    let none : first ≡ 0 = eqb-true _ _ begins.0 in
    let joined : flat_map bytes_of list ≡ value = ap (flat_map bytes_of) (sym parts.1)
    ∙ (joined_between first offsets value begins.1 ∙ ap (λ n. drop n value) none) in
    let ends : ends_from 0 (map bytes_of list) ≡ offsets = ap (λ l. ends_from 0 (map bytes_of l)) (sym parts.1)
    ∙ (ap (λ n. ends_from n (map bytes_of (map of_bytes (between_offsets (first ∷ offsets) value)))) (sym none)
    ∙ ends_between first offsets value begins.1) in
    ap₂ variable_bytes (sym joined) (ap₂ (λ (n : ℕ) (rest : List ℕ). n ∷ rest) none (sym ends))
cleared_means variable number (optional_bytes under mask) list e = cc
cleared_means (optional kind) number (fixed_bytes value) list e = cc
cleared_means (optional kind) number (variable_bytes value offsets) list e = cc
cleared_means (optional kind) number (optional_bytes under mask) list e =
    let parts = masked_parts kind number mask under list e in
    let means : meaning kind (length mask) under ≡ Some parts.list =
    subst (λ n. meaning kind n under ≡ Some parts.list) (sym (mask_length _ mask parts.mask_is)) parts.inner in
    let counted : length parts.list ≡ number = length-meaning kind number under parts.list parts.inner in
    ap₂ optional_bytes
    (under_means kind mask under parts.list means ∙ ap (λ l. array_bytes kind (map (held kind) l)) parts.over)
    (sym (ap (map mask_byte) (sym parts.over)
    ∙ bytes_mean mask parts.list ((mask_length _ mask parts.mask_is) ∙ sym counted) (flags_of _ mask parts.mask_is)))

-- what stands under the outermost mask fits it
fits : (kind : Kind) (number : ℕ) (bytes : ArrayBytes) (list : List Element) → meaning kind number bytes ≡ Some list →
    fit_masks (size_in (fixed_size kind)) bytes ≡ None
fits kind number (fixed_bytes value) list e = refl
fits kind number (variable_bytes value offsets) list e = refl
fits (fixed n) number (optional_bytes under mask) list e = cc
fits variable number (optional_bytes under mask) list e = cc
fits (optional kind) number (optional_bytes under mask) list e =
    let parts = masked_parts kind number mask under list e in
    lengths_kept kind (length mask) under parts.list
    (subst (λ n. meaning kind n under ≡ Some parts.list) (sym (mask_length _ mask parts.mask_is)) parts.inner)

pub masks_fit : (kind : Kind) (size : ℕ) (bytes : ArrayBytes) → AreElements kind bytes →
    size ≡ size_in (fixed_size kind) → fit_masks size bytes ≡ None
masks_fit kind size bytes (list, e) is = ap (λ n. fit_masks n bytes) is ∙ fits kind (length list) bytes list e

pub clears : {T E : Type 0} (raw : T → ArrayBytes) (kind : Kind) (size number : ℕ) (bytes : ArrayBytes) (list :
    List Element) (r : Result T E) → size ≡ size_in (fixed_size kind) →
    IfOk r (λ v. raw v ≡ cleared size bytes) → meaning kind number bytes ≡ Some list →
    IfOk r (λ v. raw v ≡ array_bytes kind list)
clears raw kind size number bytes list (Ok v) is done e =
    done ∙ (ap (λ n. cleared n bytes) is ∙ cleared_means kind number bytes list e)
clears raw kind size number bytes list (Err error) is done e = tt
