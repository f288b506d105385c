-- Why an update of array bytes is refused.
use Rattle.std.specs.Prelude.{ℕ, Bool, true, false, Option, Some, None}
use Rattle.zarr_model.specs.ArrayBytes.{ArrayBytes, fixed_bytes, variable_bytes, optional_bytes}
use Rattle.zarr_model.specs.Command as model
use Rattle.zarrs_codec_slices.specs.Picking.{size_in}
use Rattle.zarrs_codec_array_bytes.specs.Refusals.{BytesAnswer, first_answer, then_answer, lengths_answer}

-- two array bytes of different kinds, or of another innermost kind than this size says
abbrev pub mixture_refusal : Option ℕ → model.Refusal
mixture_refusal None = model.expected_variable_length_bytes
mixture_refusal (Some n) = model.expected_fixed_length_bytes

abbrev pub fixed_pair_refusal : Option ℕ → Option model.Refusal
fixed_pair_refusal None = Some model.expected_variable_length_bytes
fixed_pair_refusal (Some n) = None

abbrev pub variable_pair_refusal : Option ℕ → Option model.Refusal
variable_pair_refusal None = None
variable_pair_refusal (Some n) = Some model.expected_fixed_length_bytes

abbrev pub pair_refusal : Option ℕ → ArrayBytes → ArrayBytes → Option model.Refusal
pair_refusal size (fixed_bytes old) (fixed_bytes new) = fixed_pair_refusal size
pair_refusal size (variable_bytes old from) (variable_bytes new to) = variable_pair_refusal size
pair_refusal size (optional_bytes old mask) (optional_bytes new over) = pair_refusal size old new
pair_refusal size _ _ = Some (mixture_refusal size)

-- two array bytes are of one kind, level by level
abbrev pub are_alike : ArrayBytes → ArrayBytes → Bool
are_alike (fixed_bytes old) (fixed_bytes new) = true
are_alike (variable_bytes old from) (variable_bytes new to) = true
are_alike (optional_bytes old mask) (optional_bytes new over) = are_alike old new
are_alike _ _ = false

-- what is said of the lengths of old bytes, and then of those of an update
abbrev pub both_answer : ℕ → ℕ → ArrayBytes → ℕ → ArrayBytes → BytesAnswer
both_answer size number old given new =
    then_answer (lengths_answer size number old) (lengths_answer size given new)

-- what an update answers
abbrev pub update_answer : Option ℕ → Bool → ℕ → ArrayBytes → ℕ → ArrayBytes → BytesAnswer
update_answer size fits number old given new =
    first_answer (pair_refusal size old new) fits
    (both_answer (size_in size) number old given new)
