-- What errors tell.
use Rattle.std.proofs.Common.{◌≡◌, ◌⊎◌, Bool, true, false, inl, inr, refl}
use Rattle.zarrs_codec_error.specs.declared.error.CodecError.{CodecError}
use Rattle.zarrs_codec_error.specs.declared.error.CodecError.TheVariants as codec
use Rattle.zarrs_codec_array_bytes.specs.Refusals.{BytesAnswer, fine, refused, wrong_length, unfit, other_fill}
use Rattle.zarrs_codec_array_bytes.specs.Refusals.{no_memory, odd, told_by, then_answer, fill_answer}

-- an error says something
pub says_some : (e : CodecError) → told_by e ≡ fine → ⊥
says_some (codec.IncompatibleDimensionalityError x) same = cc
says_some (codec.InvalidByteRangeError x) same = cc
says_some (codec.IncompatibleIndexer x) same = cc
says_some (codec.UnexpectedChunkDecodedSize x) same = cc
says_some codec.InvalidChecksum same = cc
says_some (codec.StorageError x) same = cc
says_some (codec.UnsupportedDataTypeCodec x) same = cc
says_some codec.EndiannessMissing same = cc
says_some codec.InvalidVariableSizedArrayOffsets same = cc
says_some codec.InvalidMask same = cc
says_some (codec.ExpectedFixedLengthBytes x) same = cc
says_some (codec.ExpectedVariableLengthBytes x) same = cc
says_some (codec.ExpectedOptionalBytes x) same = cc
says_some (codec.InvalidNumberOfElements x) same = cc
says_some (codec.SubsetOutOfBounds x) same = cc
says_some (codec.RawBytesOffsetsCreate x) same = cc
says_some (codec.RawBytesOffsetsOutOfBounds x) same = cc
says_some (codec.DataTypeFillValueError x) same = cc
says_some (codec.ArraySubsetError x) same = cc
says_some codec.OutOfMemory same = cc

-- where two answers are fine, so is the first
pub first_fine : (first next : BytesAnswer) → then_answer first next ≡ fine → first ≡ fine
first_fine fine next e = refl
first_fine (refused why) next e = cc
first_fine (wrong_length len expected) next e = cc
first_fine unfit next e = cc
first_fine other_fill next e = cc
first_fine no_memory next e = cc
first_fine odd next e = cc

-- a fill value that has its size is refused for want of memory alone
pub fill_memory : (b : Bool) (e : CodecError) → b ≡ true → (e ≡ codec.OutOfMemory) ⊎ (told_by e ≡ fill_answer b) →
    e ≡ codec.OutOfMemory
fill_memory true e sized (inl memory) = memory
fill_memory true e sized (inr told) = absurd (says_some e told)
fill_memory false e sized answers = cc
