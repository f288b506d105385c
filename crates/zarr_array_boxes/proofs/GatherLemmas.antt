-- One blank element, and those that were given in their places: what gathering them asks and gives.
use Rattle.std.proofs.Common.{◌≡◌, ℕ, zero, suc, ◌+◌, ◌++◌, ◌<◌, true, false, List, [], ◌∷◌, length, get_or, replicate}
use Rattle.std.proofs.Common.{Some, None, IsSome, unwrap_or, ap, ap₂, sym, refl, arith, ◌∙◌, subst}
use Rattle.std.specs.List.{range_with_len}
use Rattle.std.proofs.lemmas.List.{length-replicate, get_or_at}
use Rattle.zarr_model.specs.Element.{Element, null, Kind, fixed_size}
use Rattle.zarr_model.specs.ArrayBytes.{ArrayBytes, meaning}
use Rattle.zarr_model.specs.Command.{has_long_element}
use Rattle.zarr_model.proofs.BytesLaws.{length-meaning}
use Rattle.zarrs_codec_slices.specs.Picking.{AllBelow, picked, gathered, replaced, size_in}
use Rattle.zarrs_codec_slices.proofs.GatherLaws.{extract_means}
use Rattle.zarrs_codec_slices.proofs.ReplaceLaws.{length-replaced, picked-range, picked-replaced, zeros_below}
use Rattle.zarrs_codec_slices.proofs.ReplaceLaws.{zeros_pick}
use Rattle.zarrs_codec_array_bytes.specs.Refusals.{lengths_refusal}
use Rattle.zarrs_codec_array_bytes.proofs.CheckLaws.{still_short, below_twice}
use Rattle.zarrs_codec_array_bytes.proofs.ExtractLaws.{lengths_kept}
use Rattle.zarrs_codec_array_bytes_parts.specs.Pairs.{are_alike}
use Rattle.zarr_array_boxes.specs.Elements.{blanks}
use Rattle.zarrs_codec_array_bytes_parts.specs.Joined.{bytes_joined}
use Rattle.zarrs_codec_array_bytes_parts.proofs.JoinLaws.{joined_means, joined_short}
use Rattle.zarrs_codec_array_bytes_parts.proofs.MeansLaws.{some_list, alike_means}
use Rattle.zarr_array_boxes.proofs.ShortLaws.{some_short}

-- a list of one element has its first
one_alone : (list : List Element) → length list ≡ 1 → list ≡ get_or list 0 null ∷ []
one_alone [] e = absurd (omega (arith, e))
one_alone (x ∷ []) e = refl
one_alone (x ∷ y ∷ list) e = absurd (omega (arith, e))

module _ (kind : Kind) (blank : ArrayBytes) (blank_means : IsSome (meaning kind 1 blank)) where
  abbrev before : List Element
  before = unwrap_or (meaning kind 1 blank) []

  before_is : meaning kind 1 blank ≡ Some before
  before_is = some_list (meaning kind 1 blank) blank_means

  pub blank_is : meaning kind 1 blank ≡ Some (get_or before 0 null ∷ [])
  blank_is = before_is ∙ ap Some (one_alone before (length-meaning kind 1 blank before before_is))

  pub blank_long : (size : ℕ) → size ≡ size_in (fixed_size kind) → lengths_refusal size 1 blank ≡ None
  blank_long size size_is = ap (λ s. lengths_refusal s 1 blank) size_is ∙ lengths_kept kind 1 blank before before_is

-- the picks of a list with the blank element behind it
picked_last : {A : Type 0} (d x : A) (ys : List A) (number n : ℕ) → length ys ≡ number →
    picked d (replicate n number) (ys ++ x ∷ []) ≡ replicate n x
picked_last d x ys number zero e = refl
picked_last d x ys number (suc n) e = ap₂ (λ a b. a ∷ b) (get_or_at ys x [] d number e) (picked_last d x ys number n e)

picked_over_last : {A : Type 0} (d x : A) (number : ℕ) (indices : List ℕ) (ys : List A) → length indices ≡ length ys →
    picked d (replaced indices (range_with_len 0 (length indices)) (replicate number (length indices))) (ys ++ x ∷ []) ≡
    replaced indices ys (replicate number x)
picked_over_last d x number indices ys e =
    picked-replaced d (ys ++ x ∷ []) indices (range_with_len 0 (length indices)) (replicate number (length indices))
    ∙ ap₂ (replaced indices)
    (ap (λ n. picked d (range_with_len 0 n) (ys ++ x ∷ [])) e ∙ picked-range d [] ys (x ∷ []) 0 refl)
    (picked_last d x ys (length indices) number (sym e))

module _ (kind : Kind) (count size number : ℕ) (indices picks : List ℕ) (blank grown both elements : ArrayBytes)
    (blank_means : IsSome (meaning kind 1 blank)) (given_means : IsSome (meaning kind (length indices) grown)) where
  abbrev after : List Element
  after = unwrap_or (meaning kind (length indices) grown) []

  abbrev x : Element
  x = get_or (unwrap_or (meaning kind 1 blank) []) 0 null

  after_is : meaning kind (length indices) grown ≡ Some after
  after_is = some_list (meaning kind (length indices) grown) given_means

  pub blank_alike : are_alike grown blank ≡ true
  blank_alike =
      alike_means kind (length indices) 1 grown blank after (x ∷ []) after_is (blank_is kind blank blank_means)

  module _ (both_is : both ≡ bytes_joined grown blank) where
    pub both_means : meaning kind (length indices + 1) both ≡ Some (after ++ x ∷ [])
    both_means = ap (meaning kind (length indices + 1)) both_is
        ∙ joined_means kind (length indices) 1 grown blank after (x ∷ []) after_is (blank_is kind blank blank_means)

    module _ (elements_is : elements ≡ both) (size_is : size ≡ size_in (fixed_size kind))
        (number_is : number ≡ length indices) where
      elements_mean : meaning kind (number + 1) elements ≡ Some (after ++ x ∷ [])
      elements_mean = ap₂ (λ n b. meaning kind (n + 1) b) number_is elements_is ∙ both_means

      pub elements_long : lengths_refusal size (number + 1) elements ≡ None
      elements_long = ap (λ s. lengths_refusal s (number + 1) elements) size_is
          ∙ lengths_kept kind (number + 1) elements (after ++ x ∷ []) elements_mean

      module _ (within : AllBelow (number + 1) picks)
          (picks_are : picks ≡ replaced indices (range_with_len 0 (length indices)) (replicate count (length indices)))
          (bytes : ArrayBytes) (is : bytes ≡ gathered size (number + 1) picks elements elements) where
        picks_long : length picks ≡ count
        picks_long = ap length picks_are ∙ (length-replaced indices (range_with_len 0 (length indices))
            (replicate count (length indices)) ∙ length-replicate count (length indices))

        pub gathered_given : meaning kind count bytes ≡ Some (replaced indices after (blanks kind count blank))
        gathered_given =
            ap₂ (λ n b. meaning kind n b) (sym picks_long)
            (is ∙ ap (λ s. gathered s (number + 1) picks elements elements) size_is)
            ∙ (extract_means kind (number + 1) picks elements (after ++ x ∷ []) within elements_mean
            ∙ ap Some (ap (λ p. picked null p (after ++ x ∷ [])) picks_are ∙ picked_over_last null x count indices after
            (sym (length-meaning kind (length indices) grown after after_is))))

        pub gathered_short : (0 < count → has_long_element blank ≡ false) → has_long_element grown ≡ false →
            has_long_element bytes ≡ false
        gathered_short blank_short short =
            some_short kind count bytes _ gathered_given (λ some.
            let all_short : has_long_element elements ≡ false =
            ap has_long_element (elements_is ∙ both_is) ∙ joined_short kind (length indices) 1 grown blank after
            (x ∷ []) after_is (blank_is kind blank blank_means) short (blank_short some) in
            ap has_long_element is ∙ still_short size (number + 1) (number + 1) picks elements elements elements_long
            elements_long all_short all_short (below_twice (number + 1) picks within))

-- and of the blank element alone
pub zeros_within : (count : ℕ) (places : List ℕ) → places ≡ replicate count 0 → AllBelow 1 places
zeros_within count places is = subst (AllBelow 1) (sym is) (zeros_below 1 count (omega arith))

pub selected_blank : (kind : Kind) (count size : ℕ) (places : List ℕ) (blank bytes : ArrayBytes) →
    IsSome (meaning kind 1 blank) → size ≡ size_in (fixed_size kind) → places ≡ replicate count 0 →
    bytes ≡ gathered size 1 places blank blank → meaning kind count bytes ≡ Some (blanks kind count blank)
selected_blank kind count size places blank bytes means size_is places_are is =
    let x = get_or (unwrap_or (meaning kind 1 blank) []) 0 null in
    ap (meaning kind count) (is ∙ ap₂ (λ s p. gathered s 1 p blank blank) size_is places_are)
    ∙ (ap (λ n. meaning kind n (gathered (size_in (fixed_size kind)) 1 (replicate count 0) blank blank))
    (sym (length-replicate count 0))
    ∙ (extract_means kind 1 (replicate count 0) blank (x ∷ []) (zeros_below 1 count (omega arith))
    (blank_is kind blank means)
    ∙ ap Some (zeros_pick null x [] count)))

pub selected_short : (kind : Kind) (count size : ℕ) (places : List ℕ) (blank bytes : ArrayBytes) →
    IsSome (meaning kind 1 blank) → size ≡ size_in (fixed_size kind) → places ≡ replicate count 0 →
    bytes ≡ gathered size 1 places blank blank → (0 < count → has_long_element blank ≡ false) →
    has_long_element bytes ≡ false
selected_short kind count size places blank bytes means size_is places_are is blank_short =
    let long = blank_long kind blank means size size_is in
    some_short kind count bytes _ (selected_blank kind count size places blank bytes means size_is places_are is)
    (λ some.
    ap has_long_element is ∙ still_short size 1 1 places blank blank long long (blank_short some) (blank_short some)
    (below_twice 1 places (zeros_within count places places_are)))
