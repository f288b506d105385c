-- What writing a region of a chunk leaves.
use Rattle.std.specs.Prelude.{◌≡◌, ℕ, Bool, List, Option, Some, None}
use Rattle.zarrs_codec_traits.specs.Prelude.{Region, tuples, Element, Content, linear}
use Rattle.zarrs_codec_slices.specs.Picking.{replaced}
use Rattle.zarr_chunks.specs.Put.{Decoding, PutsChunk, MayPutChunk}

-- the elements of a shape with those of a box inside it replaced
abbrev pub with_box : List ℕ → Region → List Element → List Element → List Element
with_box shape box new old = replaced (linear shape (tuples box)) new old

-- a chunk that has elements was put
abbrev pub UpdatesChunk : Decoding → (List Element → Bool) → Option (List Element) → Content
    → Content → List ℕ → Type 0
UpdatesChunk decode drops None old new key = ⊥
UpdatesChunk decode drops (Some list) old new key = PutsChunk decode (drops list) list old new key

-- the same of a call that failed: a chunk without elements is as before
abbrev pub MayUpdateChunk : Decoding → (List Element → Bool) → Option (List Element) → Content
    → Content → List ℕ → Type 0
MayUpdateChunk decode drops None old new key = (other : List ℕ) → new other ≡ old other
MayUpdateChunk decode drops (Some list) old new key =
    MayPutChunk decode (drops list) list old new key
