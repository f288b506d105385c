-- Levels that are served, and array bytes that mean a list at one.
use Rattle.std.proofs.Common.{◌≡◌, ◌⊎◌, ◌*◌, inl, inr, ◌∙◌, Option, Some, None, IsSome, Ok, ap, refl}
use Rattle.zarrs_codec_traits.specs.Prelude.{count_of, kind_of, fixed_size, ArrayBytes, Level, bytes_refusal, size_in}
use Rattle.zarrs_codec_traits.specs.Prelude.{inner_length, fine, told_by, sized_answer, validity, Unserved, RefusesBy}
use Rattle.zarrs_codec_traits.specs.Prelude.{list_at}
use Rattle.zarr_model.proofs.BytesLaws.{refusal-meaning}
use Rattle.zarrs_codec_error.specs.declared.error.CodecError.{CodecError}
use Rattle.zarrs_codec_error.specs.declared.error.CodecError.TheVariants as codec
use Rattle.zarrs_codec_array_bytes.proofs.ToldLaws.{says_some}

-- a call that was not refused
pub served_ok : {T : Type 0} (reason : Option Unserved) (v : T) → RefusesBy reason (Ok v) → reason ≡ None
served_ok None v answer = refl
served_ok (Some why) v answer = absurd answer

-- array bytes that mean a list are valid
pub valid_some : (level : Level) (raw : ArrayBytes) → IsSome (list_at level raw) →
    validity (kind_of level.data_type) (count_of level.shape) raw ≡ fine
valid_some level raw there =
    let kind = kind_of level.data_type in
    let valid : bytes_refusal kind (count_of level.shape) raw ≡ None =
    (refusal-meaning kind (count_of level.shape) raw).1 there in
    ap (sized_answer (inner_length raw) (count_of level.shape * size_in (fixed_size kind))) valid

-- so they are refused for want of memory alone
pub valid_memory : (level : Level) (raw : ArrayBytes) (e : CodecError) → IsSome (list_at level raw) →
    (e ≡ codec.OutOfMemory) ⊎ (told_by e ≡ validity (kind_of level.data_type) (count_of level.shape) raw) →
    e ≡ codec.OutOfMemory
valid_memory level raw e there (inl memory) = memory
valid_memory level raw e there (inr told) = absurd (says_some e (told ∙ valid_some level raw there))
