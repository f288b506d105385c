-- The array that a document describes has a sound layout.
use Rattle.std.proofs.Common.{◌≡◌, ℕ, ◌^◌, nat_le, true, List, [], ◌∷◌, map}
use Rattle.std.specs.List.{AllByRecursion}
use Rattle.std.proofs.lemmas.Bool.{and_parts, leb-true}
use Rattle.zarr_model.specs.Prelude.{Options, KeepsCount, IsChunk, IsSound, layout}
use Rattle.zarr_model.proofs.ChainLaws.{decode_chain-counted, array_to_bytes-counted}
use Rattle.zarr_basics.specs.Keys.{IsCountable}
use Rattle.zarr_codecs.specs.Plain.{codec_of}
use Rattle.zarr_array_open.specs.Sizes.{are_countable}
use Rattle.zarr_basics.specs.kinds.array_to_array.ArrayToArray.{ArrayToArray, array_codec_of}
use Rattle.zarr_basics.specs.kinds.array_to_array.Laws.{keeps_count}
use Rattle.zarr_array_open.specs.Document.{ArrayDocument, describe}
use Rattle.zarr_array_open.specs.Opening.{opened, not_opened, OpenRefusal}

-- each number of chunks has a u64's range
pub countable_is : (grid_shape : List ℕ) → are_countable grid_shape ≡ true → IsCountable grid_shape
countable_is [] e = tt
countable_is (n ∷ grid_shape) e =
    let parts = and_parts (nat_le n (2 ^ 64)) (are_countable grid_shape) e in
    (leb-true n (2 ^ 64) parts.0, countable_is grid_shape parts.1)

keep_count : (codecs : List ArrayToArray) → AllByRecursion KeepsCount (map array_codec_of codecs)
keep_count [] = tt
keep_count (codec ∷ codecs) = (keeps_count codec, keep_count codecs)

-- where different chunks have different keys
pub describe-sound : (document : ArrayDocument) (options : Options) →
    ((chunk other : List ℕ) → IsChunk (describe document).grid chunk → IsChunk (describe document).grid other →
    (describe document).key chunk ≡ (describe document).key other → chunk ≡ other) →
    IsSound (layout (describe document) options)
describe-sound document options apart = record {
  count = λ chunk value elements is_chunk e.
      decode_chain-counted ((describe document).chain options) (keep_count document.array_codecs)
      (array_to_bytes-counted options (codec_of document.to_bytes))
      _ value elements e;
  keys_apart = apart;
}

-- a text is opened as one document
pub same_opened : (a b : ArrayDocument) → opened a ≡ opened b → a ≡ b
same_opened a b e = cc

-- and refused as one refusal says
pub same_refusal : (v w : OpenRefusal) → not_opened v ≡ not_opened w → v ≡ w
same_refusal v w e = cc
