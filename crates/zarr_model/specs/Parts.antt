-- Values that hold a part of a chunk, whether they decode or not.
use Rattle.std.specs.Prelude.{ℕ, ◌+◌, ◌*◌, Bool, false, nat_le, List, [], ◌∷◌, length, unwrap_or, Option, Some, None}
use Rattle.std.specs.List.{list_all}
use Rattle.zarr_model.specs.Region.{Region, tuples, linear_index}
use Rattle.zarr_model.specs.Element.{fixed_size, kind_of}
use Rattle.zarr_model.specs.Codec.{Level, ArrayCodec, Chain, decode_bytes, ArrayToBytes, bytes_codec, vlen_codec}
use Rattle.zarr_model.specs.Codec.{optional_codec}

-- the pieces of a region of a shape lie within so many bytes of pieces of a size
abbrev pub holds_pieces : ℕ → List ℕ → Region → ℕ → Bool
holds_pieces size shape region long =
    list_all (λ tuple. nat_le ((linear_index shape tuple + 1) * size) long) (tuples region)

-- whether an array-to-bytes codec finds the elements of a region of a level in bytes that need not
-- decode: `bytes` does where their pieces are there, and the others need all of a value
abbrev pub finds_part : ArrayToBytes → Level → Region → List ℕ → Bool
finds_part (bytes_codec order) level region bytes =
    holds_pieces (unwrap_or (fixed_size (kind_of level.data_type)) 0) level.shape region
    (length bytes)
finds_part vlen_codec level region bytes = false
finds_part (optional_codec inner) level region bytes = false

-- the level below some array-to-array codecs, and a box of the first level there
abbrev pub level_under : List ArrayCodec → Level → Level
level_under [] level = level
level_under (codec ∷ codecs) level = level_under codecs (codec.level_below level)

abbrev pub box_under : List ArrayCodec → Level → Region → Region
box_under [] level box = box
box_under (codec ∷ codecs) level box =
    box_under codecs (codec.level_below level) (codec.box_below level.shape box)

-- the same of what the bytes-to-bytes codecs give, and of a stored value and a region of a chunk
abbrev pub finds_given : (Level → Region → List ℕ → Bool) → Level → Region → Option (List ℕ) → Bool
finds_given finds level region None = false
finds_given finds level region (Some bytes) = finds level region bytes

abbrev pub chain_finds : (Level → Region → List ℕ → Bool) → Chain → Level → Region → List ℕ → Bool
chain_finds finds chain level region value =
    finds_given finds (level_under chain.array_codecs level)
    (box_under chain.array_codecs level region) (decode_bytes chain.byte_codecs value)
