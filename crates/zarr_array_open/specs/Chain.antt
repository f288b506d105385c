-- The codecs of a document in the order of a chain.
use Rattle.std.specs.Prelude.{ℕ, Bool, List, [], ◌∷◌, map, Option, Some, None, option_map}
use Rattle.std.specs.List.{list_all}
use Rattle.zarr_basics.specs.kinds.array_to_array.ArrayToArray.{ArrayToArray, array_has_rank}
use Rattle.zarr_basics.specs.kinds.array_to_array.Views.{array_form}
use Rattle.zarr_basics.specs.kinds.array_to_array.declared.array_to_array.BasicArrayToArray.{BasicArrayToArray}
use Rattle.zarr_codecs.specs.BytesToBytes.{BytesToBytes, byte_form}
use Rattle.zarr_codecs.specs.declared.bytes_to_bytes.BasicBytesToBytes.{BasicBytesToBytes}
use Rattle.zarr_codecs.specs.CodecForm.{CodecForm}
use Rattle.zarr_codecs.specs.CodecForm as code
use Rattle.zarr_codecs.specs.Views.{plain_of}
use Rattle.zarr_codecs.specs.declared.codecs.BasicArrayToBytes.{BasicArrayToBytes}
use Rattle.zarr_codec_chain.specs.declared.chain.CodecChain.{CodecChain}
use Rattle.zarr_array_open.specs.Document.{ChainForm}

-- the array-to-array codecs that a list begins with
abbrev pub leading : List CodecForm → List ArrayToArray
leading [] = []
leading (code.array_codec codec ∷ codecs) = codec ∷ leading codecs
leading (code.to_bytes codec ∷ codecs) = []
leading (code.byte_codec codec ∷ codecs) = []

-- the codecs behind them
abbrev pub behind : List CodecForm → List CodecForm
behind [] = []
behind (code.array_codec codec ∷ codecs) = behind codecs
behind (code.to_bytes codec ∷ codecs) = code.to_bytes codec ∷ codecs
behind (code.byte_codec codec ∷ codecs) = code.byte_codec codec ∷ codecs

-- bytes-to-bytes codecs, if all are
abbrev pub all_byte_codecs : List CodecForm → Option (List BytesToBytes)
all_byte_codecs [] = Some []
all_byte_codecs (code.array_codec codec ∷ codecs) = None
all_byte_codecs (code.to_bytes codec ∷ codecs) = None
all_byte_codecs (code.byte_codec codec ∷ codecs) =
    option_map (λ others. codec ∷ others) (all_byte_codecs codecs)

-- a chain of these codecs, then one array-to-bytes codec and bytes-to-bytes codecs
abbrev pub chain_behind : List ArrayToArray → List CodecForm → Option ChainForm
chain_behind array_codecs [] = None
chain_behind array_codecs (code.array_codec codec ∷ codecs) = None
chain_behind array_codecs (code.to_bytes codec ∷ codecs) = option_map (λ byte_codecs. record {
  array_codecs = array_codecs;
  to_bytes = codec;
  byte_codecs = byte_codecs;
}) (all_byte_codecs codecs)
chain_behind array_codecs (code.byte_codec codec ∷ codecs) = None

-- the chain that codecs are, if they are one
abbrev pub chain_in : List CodecForm → Option ChainForm
chain_in codecs = chain_behind (leading codecs) (behind codecs)

-- each of some array-to-array codecs serves shapes of a rank
abbrev pub all_ranked : ℕ → List ArrayToArray → Bool
all_ranked rank codecs = list_all (array_has_rank rank) codecs

-- the chain of the code
abbrev pub BasicChain : Type 0
BasicChain = CodecChain BasicArrayToArray BasicArrayToBytes BasicBytesToBytes

abbrev pub chain_form : BasicChain → ChainForm
chain_form chain = record {
  array_codecs = map array_form chain.array_codecs.items;
  to_bytes = plain_of chain.to_bytes;
  byte_codecs = map byte_form chain.byte_codecs.items;
}
