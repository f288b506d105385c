-- What commands leave: what decodes under all options, and what stands.
use Rattle.std.specs.Prelude.{◌≡◌, ◌⊎◌, ℕ, true, false, List, None, IsSome}
use Rattle.std.specs.List.{list_any}
use Rattle.zarr_model.specs.Prelude.{Element, Array, IsChunk, Options, Content, WhollyMeans, chunk_content, ChunkHas}
use Rattle.zarr_model.specs.Prelude.{Command, Description, layout, array_after, changes_chunk, erases_chunk}

-- a chunk's key is absent, or has a value that decodes under all options
abbrev pub DecodesForAll : Description → Content → List ℕ → Type 0
DecodesForAll array store chunk =
    (under : Options) → IsSome (chunk_content (layout array under) store chunk)

-- a chunk that an accepted command writes or erases
pub record IsChanged (array : Description) (commands : List Command) (chunk : List ℕ) : Type 0
  where
    pub is_chunk : IsChunk array.grid chunk
    pub changed : list_any (changes_chunk array chunk) commands ≡ true

-- each such chunk decodes under all options, to the elements of the array that is left
pub record StoresForAll (array : Description) (options : Options) (commands : List Command)
    (old new : Content) : Type 0 where
  pub decodes : (chunk : List ℕ) → IsChanged array commands chunk → DecodesForAll array new chunk
  pub left : (meant : Array Element) (chunk : List ℕ) (under : Options) →
      WhollyMeans (layout array options) old meant → IsChanged array commands chunk →
      ChunkHas (layout array under) new (array_after array commands meant) chunk

-- each chunk's key holds the very same bytes, or decodes under all options
abbrev pub StaysOrDecodes : Description → Content → Content → Type 0
StaysOrDecodes array old new = (chunk : List ℕ) → IsChunk array.grid chunk →
    (new (array.key chunk) ≡ old (array.key chunk)) ⊎ DecodesForAll array new chunk

-- a value that does not decode stands, unless an accepted command erases its chunk
abbrev pub DamageStands : Description → Options → List Command → Content → Content → Type 0
DamageStands array options commands old new = (chunk : List ℕ) → IsChunk array.grid chunk →
    chunk_content (layout array options) old chunk ≡ None →
    list_any (erases_chunk array chunk) commands ≡ false →
    new (array.key chunk) ≡ old (array.key chunk)
