-- An update of array bytes that are valid is refused for want of memory alone.
use Rattle.std.proofs.Common.{◌≡◌, ℕ, Bool, true, List, Option, Some, Result, Ok, Err, IfOk, MatchResult, sym}
use Rattle.zarrs_codec_traits.specs.Prelude.{Element, Kind, fixed_size, ArrayBytes, meaning, Answers}
use Rattle.zarrs_codec_error.specs.declared.error.CodecError.{CodecError}
use Rattle.zarrs_codec_error.specs.declared.error.CodecError.TheVariants as codec
use Rattle.zarrs_codec_array_bytes.specs.declared.array_bytes.ArrayBytes as code
use Rattle.zarrs_codec_array_bytes_parts.specs.Pairs.{update_answer}
use Rattle.zarrs_codec_array_bytes_parts.proofs.UpdateLaws.{update_memory}

pub update_gives : (kind : Kind) (size : Option ℕ) (fits : Bool) (n m : ℕ) (old new : ArrayBytes) (xs ys : List Element)
    (Wanted : code.ArrayBytes → Type 0) (r : Result code.ArrayBytes CodecError) → fixed_size kind ≡ size → fits ≡ true →
    meaning kind n old ≡ Some xs → meaning kind m new ≡ Some ys → Answers (update_answer size fits n old m new) r →
    IfOk r Wanted → MatchResult r Wanted (λ e. e ≡ codec.OutOfMemory)
update_gives kind size fits n m old new xs ys Wanted (Ok v) same inside was is answers gives = gives
update_gives kind size fits n m old new xs ys Wanted (Err e) same inside was is answers gives =
    update_memory kind size fits n m old new xs ys e (sym same) inside was is answers
