-- Elements under a mask, one after another.
use Rattle.std.proofs.Common.{◌≡◌, ℕ, zero, suc, ◌+◌, ◌-◌, ◌*◌, ◌<◌, ◌≤◌, true, List, [], ◌∷◌, ◌++◌, length, get_or}
use Rattle.std.proofs.Common.{take, drop, flat_map, map, None, refl, sym, ap, ◌∙◌, subst, subst₂, arith, drop-cons}
use Rattle.std.proofs.Common.{append_assoc, append-nil, length-append}
use Rattle.std.proofs.lemmas.List.{drop_all, length-replicate}
use Rattle.std.proofs.Math.Nat.{suc-mul}
use Rattle.zarrs_codec_traits.specs.Prelude.{ArrayBytes, optional_bytes, ends_from, lengths_refusal}
use Rattle.zarrs_codec_slices.specs.Picking.{are_within, value_of}
use Rattle.zarrs_codec_slices.proofs.ValueLaws.{gathered_within}
use Rattle.zarrs_codec_array_bytes.proofs.CheckLaws.{mask_long, inner_long}
use Rattle.zarr_rechunk.specs.Cleared.{kept_piece, kept_value, pieces_under, values_under, mask_under}

next_of : (xs : List ℕ) (i : ℕ) → i < length xs → drop i xs ≡ get_or xs i 0 ∷ drop (i + 1) xs
next_of xs i more =
    drop-cons xs i 0 more ∙ ap (λ n. get_or xs i 0 ∷ drop n xs) (let same : suc i ≡ i + 1 = omega arith in same)

-- the next element of one size is there
pub piece_fits : (size i : ℕ) (mask left : List ℕ) → i < length mask → length left ≡ (length mask - i) * size →
    size ≤ length left
piece_fits size i mask left more long =
    let one : length mask - i ≡ suc (length mask - (i + 1)) = omega (arith, more) in
    omega (arith, long ∙ ap (λ n. n * size) one, suc-mul (length mask - (i + 1)) size)

pub piece_more : (size i : ℕ) (mask left done new all : List ℕ) → i < length mask →
    new ≡ done ++ kept_piece (get_or mask i 0) (take size left) →
    done ++ pieces_under size (drop i mask) left ≡ all →
    new ++ pieces_under size (drop (i + 1) mask) (drop size left) ≡ all
piece_more size i mask left done new all more is so_far =
    let next : drop i mask ≡ get_or mask i 0 ∷ drop (i + 1) mask = next_of mask i more in
    ap (λ d. d ++ pieces_under size (drop (i + 1) mask) (drop size left)) is
    ∙ (append_assoc done (kept_piece (get_or mask i 0) (take size left))
    (pieces_under size (drop (i + 1) mask) (drop size left))
    ∙ (ap (λ m. done ++ pieces_under size m left) (sym next) ∙ so_far))

pub piece_left : (size i : ℕ) (mask left rest : List ℕ) → i < length mask → length rest + size ≡ length left →
    length left ≡ (length mask - i) * size → length rest ≡ (length mask - (i + 1)) * size
piece_left size i mask left rest more parts long =
    let one : length mask - i ≡ suc (length mask - (i + 1)) = omega (arith, more) in
    omega (arith, parts, long ∙ ap (λ n. n * size) one, suc-mul (length mask - (i + 1)) size)

length-kept_piece : (b : ℕ) (piece : List ℕ) → length (kept_piece b piece) ≡ length piece
length-kept_piece zero piece = length-replicate (length piece) 0
length-kept_piece (suc b) piece = refl

pub piece_room : (b size : ℕ) (done new piece left rest value : List ℕ) → new ≡ done ++ kept_piece b piece →
    length piece ≡ size → length rest + size ≡ length left →
    length done + length left ≡ length value → length new + length rest ≡ length value
piece_room b size done new piece left rest value is one parts so_far =
    omega (arith, ap length is ∙ length-append done (kept_piece b piece), length-kept_piece b piece, one, parts, so_far)

-- elements of any size, the first so many of them
pub record Grown (i : ℕ) (mask offsets value bytes ends : List ℕ) : Type 0 where
  pub values : bytes ++ flat_map (λ piece. piece) (values_under (drop i mask) (drop i offsets) value) ≡
      flat_map (λ piece. piece) (values_under mask offsets value)
  pub offsets_are : ends ++ ends_from (length bytes) (values_under (drop i mask) (drop i offsets) value) ≡
      0 ∷ ends_from 0 (values_under mask offsets value)

pub none_grown : (mask offsets value bytes ends : List ℕ) → bytes ≡ [] → ends ≡ 0 ∷ [] →
    Grown 0 mask offsets value bytes ends
none_grown mask offsets value bytes ends none first = record {
  values = ap (λ b. b ++ flat_map (λ piece. piece) (values_under mask offsets value)) none;
  offsets_are = ap (λ e. e ++ ends_from (length bytes) (values_under mask offsets value)) first
      ∙ ap (λ b. 0 ∷ ends_from (length b) (values_under mask offsets value)) none;
}

next_values : (i : ℕ) (mask offsets value : List ℕ) → i < length mask → length offsets ≡ length mask + 1 →
    values_under (drop i mask) (drop i offsets) value ≡ kept_value (get_or mask i 0) (value_of value offsets i)
    ∷ values_under (drop (i + 1) mask) (drop (i + 1) offsets) value
next_values i mask offsets value more long =
    let flag : drop i mask ≡ get_or mask i 0 ∷ drop (i + 1) mask = next_of mask i more in
    let from : drop i offsets ≡ get_or offsets i 0 ∷ drop (i + 1) offsets =
    next_of offsets i (omega (arith, more, long)) in
    let to : drop (i + 1) offsets ≡ get_or offsets (i + 1) 0 ∷ drop (i + 1 + 1) offsets =
    next_of offsets (i + 1) (omega (arith, more, long)) in
    ap (λ m. values_under m (drop i offsets) value) flag
    ∙ (ap (λ o. values_under (get_or mask i 0 ∷ drop (i + 1) mask) o value) (from ∙ ap (λ o. get_or offsets i 0 ∷ o) to)
    ∙ ap (λ o. kept_value (get_or mask i 0) (value_of value offsets i) ∷ values_under (drop (i + 1) mask) o value)
    (sym to))

pub one_grown : (i : ℕ) (mask offsets value bytes ends more_bytes more_ends : List ℕ) → i < length mask →
    length offsets ≡ length mask + 1 →
    more_bytes ≡ bytes ++ kept_value (get_or mask i 0) (value_of value offsets i) →
    more_ends ≡ ends ++ length more_bytes ∷ [] →
    Grown i mask offsets value bytes ends → Grown (i + 1) mask offsets value more_bytes more_ends
one_grown i mask offsets value bytes ends more_bytes more_ends more long grew ended so_far =
    let element : List ℕ = kept_value (get_or mask i 0) (value_of value offsets i) in
    let rest : List (List ℕ) = values_under (drop (i + 1) mask) (drop (i + 1) offsets) value in
    let next : values_under (drop i mask) (drop i offsets) value ≡ element ∷ rest =
    next_values i mask offsets value more long in
    let far : length more_bytes ≡ length bytes + length element = ap length grew ∙ length-append bytes element in
    record {
      values = ap (λ b. b ++ flat_map (λ piece. piece) rest) grew
          ∙ (append_assoc bytes element (flat_map (λ piece. piece) rest)
          ∙ (ap (λ vs. bytes ++ flat_map (λ piece. piece) vs) (sym next) ∙ so_far.values));
      offsets_are = ap (λ e. e ++ ends_from (length more_bytes) rest) ended
          ∙ (append_assoc ends (length more_bytes ∷ []) (ends_from (length more_bytes) rest)
          ∙ (ap (λ n. ends ++ n ∷ ends_from n rest) far
          ∙ (ap (λ vs. ends ++ ends_from (length bytes) vs) (sym next) ∙ so_far.offsets_are)));
    }

-- all of them
pub record AllGrown (mask offsets value bytes ends : List ℕ) : Type 0 where
  pub values : bytes ≡ flat_map (λ piece. piece) (values_under mask offsets value)
  pub offsets_are : ends ≡ 0 ∷ ends_from 0 (values_under mask offsets value)
  pub within : are_within bytes ends ≡ true

pub all_grown : (i : ℕ) (mask offsets value bytes ends : List ℕ) → length mask ≤ i →
    Grown i mask offsets value bytes ends → AllGrown mask offsets value bytes ends
all_grown i mask offsets value bytes ends end grown =
    let none : drop i mask ≡ [] = drop_all i mask end in
    let bytes_are : bytes ≡ flat_map (λ piece. piece) (values_under mask offsets value) =
    sym (append-nil bytes) ∙
    (ap (λ m. bytes ++ flat_map (λ piece. piece) (values_under m (drop i offsets) value)) (sym none) ∙ grown.values) in
    let ends_are : ends ≡ 0 ∷ ends_from 0 (values_under mask offsets value) =
    sym (append-nil ends) ∙ (ap (λ m. ends ++ ends_from (length bytes) (values_under m (drop i offsets) value))
    (sym none) ∙ grown.offsets_are) in
    record {
      values = bytes_are;
      offsets_are = ends_are;
      within = subst₂ (λ a b. are_within a b ≡ true) (sym bytes_are) (sym ends_are)
          (stays (values_under mask offsets value));
    }
  where
    mapped : (xs : List (List ℕ)) → map (λ v. v) xs ≡ xs
    mapped [] = refl
    mapped (x ∷ xs) = ap (λ rest. x ∷ rest) (mapped xs)

    stays : (values : List (List ℕ)) → are_within (flat_map (λ piece. piece) values) (0 ∷ ends_from 0 values) ≡ true
    stays values = subst (λ vs. are_within (flat_map (λ v. v) values) (0 ∷ ends_from 0 vs) ≡ true) (mapped values)
        (gathered_within (λ v. v) values)

-- a mask under a mask
pub length-mask_under : (above mask : List ℕ) → length mask ≡ length above →
    length (mask_under above mask) ≡ length above
length-mask_under [] mask same = refl
length-mask_under (b ∷ above) [] same = same
length-mask_under (b ∷ above) (flag ∷ mask) same = ap suc (length-mask_under above mask (omega (arith, same)))

-- what stands under a mask that is one under a mask
pub mask_fits : (size : ℕ) (above mask : List ℕ) (under : ArrayBytes) →
    lengths_refusal size (length above) (optional_bytes under mask) ≡ None → length mask ≡ length above
mask_fits size above mask under e = let same : length mask ≡ length above * 1 =
    mask_long size (length above) under mask e in omega (arith, same)

pub inner_fits : (size : ℕ) (above mask new : List ℕ) (under : ArrayBytes) → lengths_refusal size (length above)
    (optional_bytes under mask) ≡ None → new ≡ mask_under above mask → lengths_refusal size (length new) under ≡ None
inner_fits size above mask new under e is =
    ap (λ n. lengths_refusal size n under) (ap length is
    ∙ length-mask_under above mask (mask_fits size above mask under e)) ∙ inner_long size (length above) under mask e
