-- What a handle on a chunk leaves is what an array's chunk then has.
use Rattle.std.proofs.Common.{◌≡◌, ℕ, List, Option, Some, option_map, Result, Ok, Err, OnOk, sym, ap, ◌∙◌, subst}
use Rattle.zarr_codec_chain.specs.Prelude.{Region, Element, ArrayBytes, Options, Level, Content, box_content}
use Rattle.zarr_codec_chain.specs.Prelude.{chunk_content, layout, list_at, at_box, first_level, decoded}
use Rattle.zarr_codec_chain.specs.declared.levels.ChunkLevels.{ChunkLevels}
use Rattle.zarr_chunks.specs.Fetch as stored
use Rattle.zarr_chunks.specs.Put as put
use Rattle.zarr_chunks.specs.Update.{with_box, UpdatesChunk}
use Rattle.zarr_array_open.specs.Chain.{BasicChain}
use Rattle.zarr_array_open.specs.ChunkLevels.{chunk_level, chunk_shape, ServesShape}
use Rattle.zarr_array_open.specs.Codecs.{array_meaning, list_meaning, bytes_meaning}
use Rattle.zarr_array_open.specs.Parts.{described_parts}
use Rattle.zarr_array_open.specs.declared.parts.ArrayParts.{ArrayParts}
use Rattle.zarr_array.specs.Chunk.{PutsElements}
use Rattle.zarr_array.proofs.ChunkLaws.{content_as, puts_as}

-- a handle that was made of a chain and levels has what they serve
pub held_serves : (array : ArrayParts) (dims : List ℕ) (chain held : BasicChain) (levels its : ChunkLevels) →
    held ≡ chain → its ≡ levels → ServesShape array dims chain levels → ServesShape array dims held its
held_serves array dims chain held levels its same also serves = subst (λ l. ServesShape array dims held l) (sym also)
    (subst (λ c. ServesShape array dims c levels) (sym same) serves)

module _ (array : ArrayParts) (chain : BasicChain) (levels : ChunkLevels) (under : Options) (chunk : List ℕ)
    (serves : ServesShape array (chunk_shape (described_parts array) chunk) chain levels) where
  -- what stands under the key of a chunk is what the chunk has
  pub content_is : (key : List ℕ) (before : Content) (list : List Element) → key ≡ (described_parts array).key chunk →
      chunk_content (layout (described_parts array) under) before chunk ≡ Some list →
      stored.chain_content array_meaning list_meaning bytes_meaning chain levels under (before key) ≡ Some list
  content_is key before list is_key has =
      content_as array chain levels under chunk serves (before key)
      ∙ (ap (λ k. box_content (layout (described_parts array) under) ((described_parts array).grid.chunk_box chunk)
      (before k)) is_key ∙ has)

  module _ (region : Region) (bytes : ArrayBytes) (before now : Content) {T E : Type 0} (result : Result T E) where
    put_so : (r : Result T E) (f : List Element → List Element) (key : List ℕ) (content : Option (List Element))
        (old : List Element) → content ≡ Some old →
        OnOk r (UpdatesChunk (decoded array_meaning list_meaning bytes_meaning chain levels)
        (put.is_list_dropped under (first_level levels)) (option_map f content) before now key) →
        OnOk r (PutsElements (described_parts array) under chunk (f old) before now key)
    put_so (Ok v) f key content old is updates =
        puts_as array chain levels under chunk serves (f old) before now key
        (subst (λ o. UpdatesChunk (decoded array_meaning list_meaning bytes_meaning chain levels)
        (put.is_list_dropped under (first_level levels)) (option_map f o) before now key) is updates)
    put_so (Err e) f key content old is updates = tt

    -- so a region that was replaced in what stands there was replaced in the chunk
    at_key : (key : List ℕ) (old new : List Element) → key ≡ (described_parts array).key chunk →
        chunk_content (layout (described_parts array) under) before chunk ≡ Some old →
        list_at (at_box region (chunk_level (described_parts array) chunk)) bytes ≡ Some new →
        ((xs : List Element) → list_at (at_box region (first_level levels)) bytes ≡ Some xs →
        OnOk result (UpdatesChunk (decoded array_meaning list_meaning bytes_meaning chain levels)
        (put.is_list_dropped under (first_level levels))
        (option_map (with_box (first_level levels).shape region xs) (stored.chain_content array_meaning list_meaning
        bytes_meaning chain levels under (before key))) before now key)) →
        OnOk result (PutsElements (described_parts array) under chunk
        (with_box (chunk_level (described_parts array) chunk).shape region new old) before now key)
    at_key key old new is_key has means changes =
        subst (λ (l : Level). OnOk result (PutsElements (described_parts array) under chunk
        (with_box l.shape region new old) before now key)) serves.level
        (put_so result (with_box (first_level levels).shape region new) key (stored.chain_content array_meaning
        list_meaning bytes_meaning chain levels under (before key)) old (content_is key before old is_key has)
        (changes new (ap (λ (l : Level). list_at (at_box region l) bytes) serves.level ∙ means)))

    pub changed_as : (its key : List ℕ) (old new : List Element) → its ≡ key → key ≡ (described_parts array).key chunk →
        chunk_content (layout (described_parts array) under) before chunk ≡ Some old →
        list_at (at_box region (chunk_level (described_parts array) chunk)) bytes ≡ Some new →
        ((xs : List Element) → list_at (at_box region (first_level levels)) bytes ≡ Some xs →
        OnOk result (UpdatesChunk (decoded array_meaning list_meaning bytes_meaning chain levels)
        (put.is_list_dropped under (first_level levels))
        (option_map (with_box (first_level levels).shape region xs) (stored.chain_content array_meaning list_meaning
        bytes_meaning chain levels under (before its))) before now its)) →
        (last : Content) → now ≡ last → OnOk result (PutsElements (described_parts array) under chunk
        (with_box (chunk_level (described_parts array) chunk).shape region new old) before last key)
    changed_as its key old new is is_key has means changes last same =
        subst (λ (c : Content). OnOk result (PutsElements (described_parts array) under chunk
        (with_box (chunk_level (described_parts array) chunk).shape region new old) before c key)) same
        (subst (λ k. OnOk result (PutsElements (described_parts array) under chunk
        (with_box (chunk_level (described_parts array) chunk).shape region new old) before now k)) is
        (at_key its old new (is ∙ is_key) has means changes))
