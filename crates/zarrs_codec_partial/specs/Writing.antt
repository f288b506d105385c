-- What writing elements through a codec owes.
use Rattle.std.specs.Prelude.{◌≡◌, true, false, replicate, Some, IsSome, Result, IfOk, IfErr}
use Rattle.zarrs_codec.specs.Prelude.{count_of, ArrayBytes, Options, has_long_element, raw_of, list_at, RefusesFor}
use Rattle.zarrs_codec.specs.Prelude.{is_short, Stores}
use Rattle.zarrs_codec_error.specs.declared.error.CodecError.{CodecError}
use Rattle.zarrs_codec_error.specs.declared.error.CodecError.TheVariants as codec
use Rattle.zarrs_codec_array_bytes.specs.declared.array_bytes.ArrayBytes as code
use Rattle.zarrs_codec.specs.ListWrites.{KeepsRest}
use Rattle.zarrs_codec.specs.declared.array_partial_decoder.ArrayPartialDecoderTraits as decoder
use Rattle.zarrs_codec.specs.declared.array_partial_encoder.ArrayPartialEncoderTraits as encoder
use Rattle.zarrs_codec_partial_elements.specs.Boxes.{Denotes}
use Rattle.zarrs_codec_partial.specs.Above.{CodecSeen, level_below, seen_above, HandsOn, IsUnencodedBelow}
use Rattle.zarrs_codec_partial.specs.Above.{IsEncodedBelow}

-- a step that gives the fill value below for each element there
pub record FillsBelow (at : CodecSeen) (result : Result code.ArrayBytes CodecError) : Type 0 where
  pub value : Denotes at.level at.fill → IfOk result (λ v. list_at (level_below at) (raw_of v)
      ≡ Some (replicate (count_of (level_below at).shape) (level_below at).fill))
  pub short : Denotes at.level at.fill → is_short at.level at.fill ≡ true
      → IfOk result (λ v. has_long_element (raw_of v) ≡ false)
  pub failed : Denotes at.level at.fill → IfErr result (λ e. e ≡ codec.OutOfMemory)

-- a step that gives what is handed on of all elements of some bytes
pub record HandsBelow (at : CodecSeen) (under : Options) (bytes : ArrayBytes)
    (result : Result code.ArrayBytes CodecError) : Type 0 where
  pub hands : IfOk result (λ v. HandsOn at.meaning at.level at.fill
      (at.fill_below at.level.data_type at.fill) under bytes (raw_of v))
  pub failed : Denotes at.level at.fill → IsSome (list_at at.level bytes)
      → IfErr result (λ e. e ≡ codec.OutOfMemory)

-- a step that stores all elements of some bytes
pub record StoresByCodec {A T : Type 0} (H : decoder.Ghosts A) (W : encoder.Ghosts A)
    (at : CodecSeen) (under : Options) (bytes : ArrayBytes) (old new : A)
    (result : Result T CodecError) : Type 0 where
  pub stores : Stores under bytes
      (IsUnencodedBelow (at.meaning.decode_list at.level) (W.unencoded old))
      (IsEncodedBelow (at.meaning.decode_list at.level) (W.encodes old)) (W.encodes_short old)
      (seen_above at (H.seen old)) (seen_above at (H.seen new)) result
  pub rest : KeepsRest (H.seen old) (H.seen new)
  pub same : H.same old new
  pub named : Denotes at.level at.fill → IsSome (list_at at.level bytes)
      → RefusesFor (H.seen old).unserved result
