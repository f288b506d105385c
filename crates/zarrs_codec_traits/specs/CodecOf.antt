-- What is said of a codec of one of three types.
use Rattle.zarrs_codec_traits.specs.declared.codec.Codec.{Codec}
use Rattle.zarrs_codec_traits.specs.declared.codec.Codec.TheVariants as code

abbrev pub of_codec : {A B C X : Type 0} → (A → X) → (B → X) → (C → X) → Codec A B C → X
of_codec first second third (code.ArrayToArray codec) = first codec
of_codec first second third (code.ArrayToBytes codec) = second codec
of_codec first second third (code.BytesToBytes codec) = third codec
