-- What is told of bytes, as a refusal.
use Rattle.std.proofs.Common.{◌≡◌, ◌∙◌, ℕ, Option, Some, None, refl, sym, ap}
use Rattle.zarr_model.specs.Prelude.{Refusal, incompatible_dimensionality, subset_out_of_bounds, region_too_large}
use Rattle.zarr_model.specs.Prelude.{expected_fixed_length_bytes, expected_variable_length_bytes}
use Rattle.zarr_model.specs.Prelude.{expected_optional_bytes, invalid_mask, unexpected_chunk_decoded_size}
use Rattle.zarr_model.specs.Prelude.{invalid_variable_sized_array_offsets, element_too_long}
use Rattle.zarrs_codec_array_bytes.specs.Refusals.{BytesAnswer, fine, refused, wrong_length, unfit, other_fill}
use Rattle.zarrs_codec_array_bytes.specs.Refusals.{no_memory, odd, sized_answer}

-- the refusal that is told
abbrev meant : BytesAnswer → Option Refusal
meant (refused r) = Some r
meant (wrong_length found wanted) = Some unexpected_chunk_decoded_size
meant _ = None

meant_back : (len expected : ℕ) (why : Option Refusal) → meant (sized_answer len expected why) ≡ why
meant_back len expected None = refl
meant_back len expected (Some incompatible_dimensionality) = refl
meant_back len expected (Some subset_out_of_bounds) = refl
meant_back len expected (Some region_too_large) = refl
meant_back len expected (Some expected_fixed_length_bytes) = refl
meant_back len expected (Some expected_variable_length_bytes) = refl
meant_back len expected (Some expected_optional_bytes) = refl
meant_back len expected (Some invalid_mask) = refl
meant_back len expected (Some unexpected_chunk_decoded_size) = refl
meant_back len expected (Some invalid_variable_sized_array_offsets) = refl
meant_back len expected (Some element_too_long) = refl

-- where no refusal is told, nothing is
unmeant : (t : BytesAnswer) (len expected : ℕ) (why : Option Refusal) → t ≡ sized_answer len expected why →
    meant t ≡ None → t ≡ fine
unmeant t len expected why e none =
    e ∙ ap (sized_answer len expected) (sym (meant_back len expected why) ∙ ap meant (sym e) ∙ none)

pub refused_is : (r : Refusal) (len expected : ℕ) (why : Option Refusal) → refused r ≡ sized_answer len expected why →
    why ≡ Some r
refused_is r len expected why e = sym (ap meant e ∙ meant_back len expected why)

pub length_is : (found wanted len expected : ℕ) (why : Option Refusal) →
    wrong_length found wanted ≡ sized_answer len expected why → why ≡ Some unexpected_chunk_decoded_size
length_is found wanted len expected why e = sym (ap meant e ∙ meant_back len expected why)

not_unfit : (r : Refusal) (why : Option Refusal) → unfit ≡ fine → why ≡ Some r
not_unfit r why e = cc

not_other_fill : (r : Refusal) (why : Option Refusal) → other_fill ≡ fine → why ≡ Some r
not_other_fill r why e = cc

not_no_memory : (r : Refusal) (why : Option Refusal) → no_memory ≡ fine → why ≡ Some r
not_no_memory r why e = cc

not_odd : (r : Refusal) (why : Option Refusal) → odd ≡ fine → why ≡ Some r
not_odd r why e = cc

pub no_unfit : (r : Refusal) (len expected : ℕ) (why : Option Refusal) → unfit ≡ sized_answer len expected why →
    why ≡ Some r
no_unfit r len expected why e = not_unfit r why (unmeant unfit len expected why e refl)

pub no_other_fill : (r : Refusal) (len expected : ℕ) (why : Option Refusal) →
    other_fill ≡ sized_answer len expected why → why ≡ Some r
no_other_fill r len expected why e =
    not_other_fill r why (unmeant other_fill len expected why e refl)

pub no_no_memory : (r : Refusal) (len expected : ℕ) (why : Option Refusal) → no_memory ≡ sized_answer len expected why →
    why ≡ Some r
no_no_memory r len expected why e = not_no_memory r why (unmeant no_memory len expected why e refl)

pub no_odd : (r : Refusal) (len expected : ℕ) (why : Option Refusal) → odd ≡ sized_answer len expected why →
    why ≡ Some r
no_odd r len expected why e = not_odd r why (unmeant odd len expected why e refl)

pub ruleset of_told = (refused_is, length_is, no_unfit, no_other_fill, no_no_memory, no_odd)
