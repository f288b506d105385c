-- The chunk that has the fill value everywhere.
use Rattle.std.proofs.Common.{◌≡◌, ℕ, List, replicate, Some, IsSome, Result, Ok, Err, IfOk, MatchResult}
use Rattle.std.proofs.Common.{subst}
use Rattle.std.specs.declared.num.NonZeroU64.{NonZeroU64}
use Rattle.zarrs_codec_traits.specs.Prelude.{count_of, Element, kind_of, fill_element}
use Rattle.zarrs_codec_traits.specs.Prelude.{meaning, Level, fill_bytes, type_of, raw_of, Answers}
use Rattle.zarrs_codec_traits.specs.Prelude.{fill_answer, lengths, level_of, list_at}
use Rattle.zarrs_data_type_bytes.specs.declared.fill_value.FillValue.{FillValue}
use Rattle.zarrs_data_type.specs.declared.data_type.DataType.{DataType}
use Rattle.zarrs_codec_slices.specs.Filling.{has_size}
use Rattle.zarrs_codec_slices.proofs.FilledLaws.{element_fits}
use Rattle.zarrs_codec_error.specs.declared.error.CodecError.{CodecError}
use Rattle.zarrs_codec_error.specs.declared.error.CodecError.TheVariants as codec
use Rattle.zarrs_codec_array_bytes.specs.declared.array_bytes.ArrayBytes as code
use Rattle.zarrs_codec_array_bytes.proofs.ToldLaws.{fill_memory}
use Rattle.zarr_model.proofs.ElementLaws.{denoted}

pub filled_gives : (level : Level) (number : ℕ) (fill : List ℕ) (r : Result code.ArrayBytes CodecError) →
    number ≡ count_of level.shape → fill_element (kind_of level.data_type) fill ≡ Some level.fill →
    Answers (fill_answer (has_size (kind_of level.data_type) fill)) r →
    ((x : Element) → fill_element (kind_of level.data_type) fill ≡ Some x →
    IfOk r (λ v. meaning (kind_of level.data_type) number (raw_of v) ≡ Some (replicate number x))) →
    MatchResult r (λ v. list_at level (raw_of v) ≡ Some (replicate (count_of level.shape) level.fill))
    (λ e. e ≡ codec.OutOfMemory)
filled_gives level number fill (Ok v) same denotes answers filled =
    subst (λ n. meaning (kind_of level.data_type) n (raw_of v) ≡ Some (replicate n level.fill)) same
    (filled level.fill denotes)
filled_gives level number fill (Err e) same denotes answers filled =
    fill_memory (has_size (kind_of level.data_type) fill) e
    (element_fits (kind_of level.data_type) fill level.fill denotes) answers

pub filled_value : (shape : List NonZeroU64) (data_type : DataType) (value : FillValue) (number : ℕ) (r :
    Result code.ArrayBytes CodecError) → number ≡ count_of (lengths shape) →
    IsSome (fill_element (kind_of (type_of data_type)) (fill_bytes value)) →
    Answers (fill_answer (has_size (kind_of (type_of data_type)) (fill_bytes value))) r →
    ((x : Element) → fill_element (kind_of (type_of data_type)) (fill_bytes value) ≡ Some x →
    IfOk r (λ v. meaning (kind_of (type_of data_type)) number (raw_of v) ≡ Some (replicate number x))) →
    MatchResult r (λ v. list_at (level_of shape data_type value) (raw_of v) ≡ Some (replicate (count_of (level_of shape
    data_type value).shape) (level_of shape data_type value).fill)) (λ e. e ≡ codec.OutOfMemory)
filled_value shape data_type value number r same there answers filled =
    filled_gives (level_of shape data_type value) number (fill_bytes value) r same (denoted _ there) answers filled
