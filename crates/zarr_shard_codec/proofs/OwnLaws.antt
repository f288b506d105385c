-- What a codec does with the values of its own chunks, and that a level that it serves is theirs.
use Rattle.std.proofs.Common.{◌≡◌, ℕ, ◌*◌, ◌∙◌, ◌&&◌, false, List, length, Option, Some, None, IsSome, unwrap_or}
use Rattle.std.proofs.Common.{bytes_eq, Result, Ok, Err, IfOk, IfErr, MatchResult, refl, sym, ap, ap₂, subst, inl}
use Rattle.std.proofs.lemmas.Bool.{and_parts}
use Rattle.std.specs.declared.num.NonZeroU64.{NonZeroU64}
use Rattle.zarr_model.specs.Prelude.{count, count_of, whole, Element, null, kind, kind_of, fixed_size, fill_element}
use Rattle.zarr_model.specs.Prelude.{Level, Options, ArrayBytes, has_long_element}
use Rattle.zarrs_codec_traits.specs.Prelude.{bytes_refusal, fill_bytes, size_in, inner_length, raw_of, fine, validity}
use Rattle.zarrs_codec_traits.specs.Prelude.{Answers, unserved_at, IsDecodeError, lengths, level_of, list_at, Gives}
use Rattle.zarr_model.proofs.BytesLaws.{refusal-meaning, length-meaning}
use Rattle.zarr_model.proofs.FailureLaws.{same_bytes}
use Rattle.zarr_model.proofs.RegionLaws.{sizes_whole}
use Rattle.zarrs_data_type_bytes.specs.declared.fill_value.FillValue.{FillValue}
use Rattle.zarrs_data_type.specs.DataType.{type_of, same_type}
use Rattle.zarrs_data_type.specs.declared.data_type.DataType.{DataType}
use Rattle.zarrs_data_type.proofs.SameTypeLaws.{equal_types}
use Rattle.zarrs_codec_error.specs.declared.error.CodecError.{CodecError}
use Rattle.zarrs_codec_error.specs.declared.error.CodecError.TheVariants as errors
use Rattle.zarrs_codec_array_bytes.specs.declared.array_bytes.ArrayBytes as code
use Rattle.zarrs_codec_array_bytes.proofs.CheckLaws.{sized_fine}
use Rattle.zarr_shard_codec.specs.Encoding.{IsEncoded}
use Rattle.zarr_shard_codec.specs.Serving.{is_own, served_own, shard_unserved}
use Rattle.zarr_shard_codec.specs.ShardCodec.{inner_of, own_level, own_list, shard_meaning}
use Rattle.zarr_shard_codec.specs.Taking.{long_refusal, short_taken}
use Rattle.zarr_shard_codec.specs.Whole.{shard_says}
use Rattle.zarr_shard_codec.specs.declared.shard_codec.ShardCodec.{ShardCodec}
use Rattle.zarr_shard_codec.proofs.CodecFacts.{fill_is, meaning_is}
use Rattle.zarr_shard_codec.proofs.EncodeLaws.{encoded_decodes}

-- a level that is served is the codec's own
pub served_level : (codec : ShardCodec) (shape : List NonZeroU64) (type : DataType) (fill : FillValue) →
    unserved_at (shard_unserved codec) (level_of shape type fill) (fill_bytes fill) ≡ None →
    level_of shape type fill ≡ own_level codec
served_level codec shape type fill served =
    let own = inner_of codec in
    let all = and_parts (bytes_eq (fill_bytes codec.fill_value) (fill_bytes fill))
    (bytes_eq own.shape (lengths shape) && same_type own.data_type (type_of type))
    (served_own (is_own codec (Some (lengths shape)) (Some (type_of type)) (Some (fill_bytes fill))) served) in
    let chunk = and_parts (bytes_eq own.shape (lengths shape)) (same_type own.data_type (type_of type)) all.1 in
    let shape_is : lengths shape ≡ own.shape = sym (same_bytes own.shape (lengths shape) chunk.0) in
    let type_is : type_of type ≡ own.data_type = sym (equal_types own.data_type (type_of type) chunk.1) in
    let bytes_are : fill_bytes fill ≡ fill_bytes codec.fill_value =
    sym (same_bytes (fill_bytes codec.fill_value) (fill_bytes fill) all.0) in
    let denoted : unwrap_or (fill_element (kind_of (type_of type)) (fill_bytes fill)) null ≡ own.fill =
    ap (λ o. unwrap_or o null) (ap₂ (λ t f. fill_element (kind_of t) f) type_is bytes_are ∙ fill_is codec) in
    λ i. record { shape = shape_is i; data_type = type_is i; fill = denoted i }

-- what a value decodes to, by its inner chunks
pub value_decoded : (codec : ShardCodec) (under : Options) (value : List ℕ) (r : Result code.ArrayBytes CodecError) →
    IfOk r (λ v. Gives (list_at (own_level codec) (raw_of v)) (own_list codec under value)) →
    IfErr r (IsDecodeError (own_list codec under value) (shard_says codec under value)) →
    MatchResult r (λ v. Gives (list_at (own_level codec) (raw_of v)) (shard_meaning codec under (own_level codec)
    value)) (IsDecodeError (shard_meaning codec under (own_level codec) value) (shard_says codec under value))
value_decoded codec under value (Ok v) gives fails =
    subst (Gives (list_at (own_level codec) (raw_of v))) (sym (meaning_is codec under value)) gives
value_decoded codec under value (Err e) gives fails =
    subst (λ wanted. IsDecodeError wanted (shard_says codec under value) e) (sym (meaning_is codec under value)) fails

-- array bytes that are valid mean a list
pub valid_list : (level : Level) (raw : ArrayBytes) → validity (kind_of level.data_type) (count_of level.shape) raw ≡
    fine → (list : List Element) × (list_at level raw ≡ Some list)
valid_list level raw valid =
    go (list_at level raw) refl ((refusal-meaning (kind_of level.data_type) (count_of level.shape) raw).0 none)
  where
    none : bytes_refusal (kind_of level.data_type) (count_of level.shape) raw ≡ None
    none = sized_fine (inner_length raw) (count_of level.shape * size_in (fixed_size (kind_of level.data_type)))
        (bytes_refusal (kind_of level.data_type) (count_of level.shape) raw) valid

    go : (o : Option (List Element)) → list_at level raw ≡ o → IsSome (list_at level raw) →
        (list : List Element) × (list_at level raw ≡ Some list)
    go (Some list) is there = (list, is)
    go None is there = cc

module _ {T : Type 0} (seen : T → List ℕ) (codec : ShardCodec) (options : Options) (list : List Element)
    (raw : ArrayBytes) where
  abbrev IsValue : T → Type 0
  IsValue v = IsEncoded codec options list (seen v) × ((under : Options) → own_list codec under (seen v) ≡ Some list)

  -- a value that elements were encoded as decodes to them under all options
  pub encoded_chunk : (r : Result T CodecError) → list_at (own_level codec) raw ≡ Some list →
      MatchResult r (λ v. IsEncoded codec options list (seen v)) (λ e. e ≡ errors.OutOfMemory) →
      MatchResult r IsValue (λ e. e ≡ errors.OutOfMemory)
  encoded_chunk (Ok v) means encoded =
      let long : length list ≡ count (whole (inner_of codec).shape) = length-meaning (kind (inner_of codec))
      (count_of (inner_of codec).shape) raw list means ∙ sym (ap count_of (sizes_whole (inner_of codec).shape)) in
      (encoded, λ under. encoded_decodes codec options list (seen v) encoded under long)
  encoded_chunk (Err e) means memory = memory

  -- elements that are all short are refused for want of memory alone
  pub short_answers : (r : Result T CodecError) → has_long_element raw ≡ false →
      MatchResult r IsValue (λ e. e ≡ errors.OutOfMemory) → Answers (long_refusal raw) r
  short_answers (Ok v) short is = short_taken raw short
  short_answers (Err e) short memory = inl memory

  -- they lie in their value as they are to
  pub encoded_laid : (r : Result T CodecError) → MatchResult r IsValue (λ e. e ≡ errors.OutOfMemory) →
      IfOk r (λ v. IsEncoded codec options list (seen v))
  encoded_laid (Ok v) is = is.0
  encoded_laid (Err e) memory = tt

  -- and are what it means
  pub encoded_means : (r : Result T CodecError) → list_at (own_level codec) raw ≡ Some list →
      MatchResult r IsValue (λ e. e ≡ errors.OutOfMemory) →
      IfOk r
      (λ v. (under : Options) → shard_meaning codec under (own_level codec) (seen v) ≡ list_at (own_level codec) raw)
  encoded_means (Ok v) means is = λ under. meaning_is codec under (seen v) ∙ (is.1 under ∙ sym means)
  encoded_means (Err e) means memory = tt
