-- What a plain array's chain gives for a box inside a chunk.
use Rattle.std.proofs.Common.{◌≡◌, ℕ, ◌⊎◌, inl, inr, ⊎_elim, true, false, List, [], Option, Some, None, IsSome}
use Rattle.std.proofs.Common.{unwrap_or, refl, sym, ap, ◌∙◌, subst}
use Rattle.std.proofs.lemmas.Option.{same_Some}
use Rattle.zarr_codec_chain.specs.Prelude.{Region, sizes, count, ends_within, Element, kind, has_long_element, Options}
use Rattle.zarr_codec_chain.specs.Prelude.{Level, Shown, IsChunk, chunk_content, layout, list_at, at_box, first_level}
use Rattle.zarr_codec_chain.specs.Prelude.{raw_of}
use Rattle.zarr_model.proofs.BytesLaws.{length-meaning}
use Rattle.zarr_model.proofs.PartLaws.{list_with, list_long, part_of_list}
use Rattle.zarr_codec_chain.specs.declared.levels.ChunkLevels.{ChunkLevels}
use Rattle.zarr_chunks.specs.Fetch as stored
use Rattle.zarr_chunks.specs.Regions.{GivesRegion, fetched_list, fetched_bytes}
use Rattle.zarr_chunks.specs.declared.fetched.Fetched.{Fetched}
use Rattle.zarr_chunks.specs.declared.fetched.Fetched.TheVariants as fetched
use Rattle.zarr_array_open.specs.Chain.{BasicChain}
use Rattle.zarr_array_open.specs.ChunkLevels.{chunk_shape, chunk_level, ServesShape}
use Rattle.zarr_array_open.specs.Parts.{described_parts}
use Rattle.zarr_array_open.specs.declared.parts.ArrayParts.{ArrayParts}
use Rattle.zarr_array_open.proofs.ServedLaws.{described_sound}
use Rattle.zarr_array_open.specs.Codecs.{array_meaning, list_meaning, bytes_meaning}
use Rattle.zarr_array.specs.Plain.{plain_access}
use Rattle.zarr_array.specs.Shared.{HasSharedPart, HasList, finds_box, IsFound, IsPartOf}
use Rattle.zarr_array.proofs.ChunkLaws.{own_content, some_list}
use Rattle.zarr_array.proofs.SharedLaws.{content_long}

-- what the chain gives for a box inside a chunk are elements of the chunk
module _ (array : ArrayParts) (chain : BasicChain) (levels : ChunkLevels) (options : Options) (chunk : List ℕ)
    (serves : ServesShape array (chunk_shape (described_parts array) chunk) chain levels) where
  abbrev stored_content : Option (List ℕ) → Option (List Element)
  stored_content value = stored.chain_content array_meaning list_meaning bytes_meaning chain levels options value

  pub within_level : (within : Region) → ends_within within (sizes ((described_parts array).grid.chunk_box chunk)) ≡
      true → ends_within within (first_level levels).shape ≡ true
  within_level within inside = subst (λ (l : Level). ends_within within l.shape ≡ true) (sym serves.level) inside

  its_content : (key : List ℕ) (before : Shown) → key ≡ (described_parts array).key chunk →
      chunk_content (layout (described_parts array) options) before.content chunk ≡ stored_content (before.content key)
  its_content = own_content array chain levels options chunk serves

  -- array bytes that are valid are elements of some list of the chunk
  some_elements : (within : Region) (fetched : Fetched) →
      ends_within within (sizes ((described_parts array).grid.chunk_box chunk)) ≡ true →
      IsSome (fetched_list (chunk_level (described_parts array) chunk) within fetched) →
      has_long_element (fetched_bytes fetched) ≡ false →
      (list : List Element) × HasSharedPart (plain_access array) chunk within list fetched
  some_elements within (fetched.Chunk bytes) inside valid short =
      let list = unwrap_or (list_at (chunk_level (described_parts array) chunk) (raw_of bytes)) [] in
      let means = some_list (list_at (chunk_level (described_parts array) chunk) (raw_of bytes)) valid in (
        list,
        record {
          as_long = length-meaning (kind (described_parts array)) (count ((described_parts array).grid.chunk_box
              chunk)) (raw_of bytes) list means;
          gives = means;
          short = short;
        },
      )
  some_elements within (fetched.Region bytes) inside valid short =
      let part = unwrap_or (list_at (at_box within (chunk_level (described_parts array) chunk)) (raw_of bytes)) [] in
      let means =
      some_list (list_at (at_box within (chunk_level (described_parts array) chunk)) (raw_of bytes)) valid in
      let long = length-meaning (kind (described_parts array)) (count within) (raw_of bytes) part means in (
        list_with (sizes ((described_parts array).grid.chunk_box chunk)) within part inside long,
        record {
          as_long = list_long (sizes ((described_parts array).grid.chunk_box chunk)) within part inside long;
          gives = means ∙ ap Some
              (sym (part_of_list (sizes ((described_parts array).grid.chunk_box chunk)) within part inside long));
          short = short;
        },
      )

  pub fetched_part : IsChunk (described_parts array).grid chunk →
      (within : Region) (fetched : Fetched) (key : List ℕ) (before : Shown) → key ≡ (described_parts array).key chunk →
      ends_within within (sizes ((described_parts array).grid.chunk_box chunk)) ≡ true →
      IsSome (stored_content (before.content key)) ⊎
      (finds_box (described_parts array) options chunk within (before.content key) ≡ true) →
      IsSome (fetched_list (first_level levels) within fetched) → has_long_element (fetched_bytes fetched) ≡ false →
      ((list : List Element) → stored_content (before.content key) ≡ Some list → GivesRegion (first_level levels) within
      list fetched) → IsPartOf (plain_access array) options chunk within before fetched
  fetched_part is_chunk within fetched key before its_key inside found valid short gives =
      go (stored_content (before.content key)) refl
    where
      found_here : IsFound (plain_access array) options chunk within before.content
      found_here = ⊎_elim
          (λ (some : IsSome (stored_content (before.content key))).
          inl (subst IsSome (sym (its_content key before its_key)) some))
          (λ (held : finds_box (described_parts array) options chunk within (before.content key) ≡ true).
          inr (ap (λ k. finds_box (described_parts array) options chunk within (before.content k)) (sym its_key)
          ∙ held))
          found

      go : (content : Option (List Element)) → stored_content (before.content key) ≡ content →
          IsPartOf (plain_access array) options chunk within before fetched
      go (Some list) here =
          let content : HasList (plain_access array) options chunk before list =
          its_content key before its_key ∙ here in
          record {
            list = list;
            content = λ own has. same_Some own list (sym has ∙ content);
            found = found_here;
            has = record {
              as_long = content_long (layout (described_parts array) options) before.content chunk list
                  (described_sound array options) is_chunk content;
              gives = subst (λ (l : Level). GivesRegion l within list fetched) serves.level (gives list here);
              short = short;
            };
          }
      go None here =
          let some = some_elements within fetched inside
          (subst (λ (l : Level). IsSome (fetched_list l within fetched)) serves.level valid) short in
          record {
            list = some.0;
            content = λ own has. absurd (none_some own (sym (its_content key before its_key ∙ here) ∙ has));
            found = found_here;
            has = some.1;
          }
        where
          none_some : (own : List Element) → None ≡ Some own → ⊥
          none_some own e = cc
