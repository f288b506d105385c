-- What an inner chunk has, by its pair.
use Rattle.std.proofs.Common.{◌≡◌, ℕ, Bool, true, false, List, [], length, replicate, if◌then◌else◌, Option, Some, None}
use Rattle.std.proofs.Common.{IsSome, option_map, unwrap_or, Result, Ok, Err, IfOk, IfErr, refl, sym, ap, ◌∙◌, subst}
use Rattle.std.proofs.Common.{inl, inr, ⊎_elim}
use Rattle.zarrs_codec_traits.specs.Prelude.{Region, count, count_of, Element, IsChunk, kind, Options, box_content}
use Rattle.zarrs_codec_traits.specs.Prelude.{ArrayBytes, meaning, Copied, raw_of, IsDecodeError, list_at, Gives}
use Rattle.zarr_model.proofs.BytesLaws.{length-meaning}
use Rattle.zarrs_codec_error.specs.declared.error.CodecError.{CodecError}
use Rattle.zarrs_codec_array_bytes.specs.declared.array_bytes.ArrayBytes as code
use Rattle.zarr_codec_chain.specs.Chain.{decoded, chain_says}
use Rattle.zarr_codec_chain.specs.Answers.{levels_list, FailsToDecode}
use Rattle.zarr_array_boxes.specs.Elements.{list_in}
use Rattle.zarr_array_boxes.specs.BoxElements.{kind_held, box_held, list_held}
use Rattle.zarr_array_boxes.specs.declared.box_elements.BoxElements.{BoxElements}
use Rattle.zarr_array_open.specs.Chain.{BasicChain}
use Rattle.zarr_array_open.specs.Codecs.{array_meaning, list_meaning, list_says, bytes_meaning, bytes_codec_says}
use Rattle.zarr_shard_codec.specs.Index.{pair_at, pair_part, is_absent}
use Rattle.zarr_shard_codec.specs.Shard.{inner_layout, inner_content}
use Rattle.zarr_shard_codec.specs.ShardCodec.{inner_of, inner_grid, inner_dims, inner_level, own_array, inner_decoded}
use Rattle.zarr_shard_codec.specs.ShardCodec.{InnerSays}
use Rattle.zarr_shard_codec.specs.Inner.{AreInner, found_at, inner_at, found_says}
use Rattle.zarr_shard_codec.specs.Placing.{inner_number}
use Rattle.zarr_shard_codec.specs.Whole.{HoldsOver, HasPut, SaysAt}
use Rattle.zarr_shard_codec.specs.declared.inner_chunks.InnerChunks.{InnerChunks}
use Rattle.zarr_shard_codec.specs.declared.shard_codec.ShardCodec.{ShardCodec}
use Rattle.zarr_shard_codec.proofs.CodecFacts.{chunk_dims}

-- what the inner chain gives is what the bytes of an inner chunk decode to
module _ (inner : InnerChunks) (are : AreInner inner)
    (chain : BasicChain) (same : chain ≡ inner.codec.now.shard.inner.chain) (under : Options) (value : List ℕ) where
  abbrev by_chain : BasicChain → Option (List Element)
  by_chain own = decoded array_meaning list_meaning bytes_meaning own inner.levels under value

  pub decoded_is : by_chain chain ≡ inner_decoded inner.codec.now under value
  decoded_is = ap by_chain same ∙ are.serves.values under value

  pub bytes_given : (r : Result code.ArrayBytes CodecError) →
      IfOk r (λ v. Gives (levels_list inner.levels v) (by_chain chain)) →
      IfOk r (λ v. Gives (list_at (inner_level inner.codec.now) (raw_of v)) (inner_decoded inner.codec.now under value))
  bytes_given (Ok v) gives =
      subst (λ wanted. Gives (list_at (inner_level inner.codec.now) (raw_of v)) wanted) decoded_is
      (subst (λ level. Gives (list_at level (raw_of v)) (by_chain chain)) are.serves.level gives)
  bytes_given (Err e) gives = tt

  pub bytes_failed : (r : Result code.ArrayBytes CodecError) → FailsToDecode array_meaning list_meaning list_says
      bytes_meaning bytes_codec_says chain inner.levels under value r →
      IfErr r (IsDecodeError (inner_decoded inner.codec.now under value) (InnerSays inner.codec.now under value))
  bytes_failed (Ok v) fails = tt
  bytes_failed (Err e) fails = ⊎_elim (λ memory. inl memory)
      (λ both. inr (
        sym decoded_is ∙ both.0,
        record {
          levels = inner.levels;
          serves = are.serves;
          said = subst (λ (own : BasicChain).
              chain_says list_says bytes_meaning bytes_codec_says own inner.levels under value e) same both.1;
        },
      )) fails

-- the elements of an inner chunk that may not be there
abbrev pub content_from : List Element → Option (Option (List Element)) → Option (List Element)
content_from blank None = None
content_from blank (Some None) = Some blank
content_from blank (Some (Some list)) = Some list

by_found : (blank : List Element) (found : Option (List Element)) → found ≡ content_from blank (option_map Some found)
by_found blank None = refl
by_found blank (Some list) = refl

-- the elements of an inner chunk that has the fill everywhere
abbrev pub blank_list : ShardCodec → List Element
blank_list codec = replicate (count_of (inner_dims codec)) (inner_of codec).fill

module _ (codec : ShardCodec) (under : Options) (value index : List ℕ) (chunk : List ℕ)
    (is_chunk : IsChunk (inner_grid codec) chunk) (number : ℕ) (at : inner_number codec chunk ≡ number) where
  abbrev stands : ℕ → Option (List ℕ)
  stands n = if is_absent (pair_at index n) then None else Some (pair_part index n)

  abbrev found_by : List ℕ → Option (List Element)
  found_by dims = found_at ((own_array codec under).decode dims) value (pair_at index number)

  by_pair : (absent : Bool) → box_content (inner_layout (own_array codec under) value)
      ((inner_grid codec).chunk_box chunk) (if absent then None else Some (pair_part index number))
      ≡ content_from (blank_list codec) (if absent then Some None else option_map Some (found_by (inner_dims codec)))
  by_pair true = ap (λ n. Some (replicate n (inner_of codec).fill)) (ap count_of (chunk_dims codec chunk is_chunk))
  by_pair false =
      ap found_by (chunk_dims codec chunk is_chunk) ∙ by_found (blank_list codec) (found_by (inner_dims codec))

  pub content_is_at : inner_content (own_array codec under) value index chunk ≡
      content_from (blank_list codec) (inner_at (inner_decoded codec under) value (pair_at index number))
  content_is_at = ap (λ n. box_content (inner_layout (own_array codec under) value) ((inner_grid codec).chunk_box chunk)
      (stands n)) at ∙ by_pair (is_absent (pair_at index number))

  -- elements of an inner chunk that were put where it lies
  has_put : (over : Region) (old new : BoxElements) (own : Region) (raw : ArrayBytes) (list : List Element) → HoldsOver
      codec over old → own ≡ (inner_grid codec).chunk_box chunk → list_at (inner_level codec) raw ≡ Some list →
      inner_content (own_array codec under) value index chunk ≡ Some list →
      Copied (box_held old) own (list_in (kind_held old) own raw) (list_held old) (list_held new) →
      HasPut codec under value index over chunk old new
  has_put over old new own raw list holds lies means content copied =
      let counted : count ((inner_grid codec).chunk_box chunk) ≡ count_of (inner_dims codec) =
      ap count_of (chunk_dims codec chunk is_chunk) in
      let long : length list ≡ count ((inner_grid codec).chunk_box chunk) =
      length-meaning (kind (inner_of codec)) (count_of (inner_dims codec)) raw list means ∙ sym counted in
      let is : list_in (kind (inner_of codec)) ((inner_grid codec).chunk_box chunk) raw ≡ list =
      ap (λ n. unwrap_or (meaning (kind (inner_of codec)) n raw) []) counted ∙ ap (λ m. unwrap_or m []) means in
      let moved : Copied over ((inner_grid codec).chunk_box chunk)
      (list_in (kind (inner_of codec)) ((inner_grid codec).chunk_box chunk) raw) (list_held old) (list_held new) =
      subst (λ b. Copied over b (list_in (kind (inner_of codec)) b raw) (list_held old) (list_held new)) lies
      (subst (λ k. Copied over own (list_in k own raw) (list_held old) (list_held new)) holds.of_kind
      (subst (λ held. Copied held own (list_in (kind_held old) own raw) (list_held old) (list_held new)) holds.over
      copied)) in
      record {
        list = list;
        as_long = long;
        content = content;
        copied =
            subst (λ xs. Copied over ((inner_grid codec).chunk_box chunk) xs (list_held old) (list_held new)) is moved;
      }

  pub put_there : (over : Region) (old new : BoxElements) (own : Region) (raw : ArrayBytes) → HoldsOver codec over old →
      own ≡ (inner_grid codec).chunk_box chunk →
      IsSome (list_at (inner_level codec) raw) × (inner_at (inner_decoded codec under) value (pair_at index number) ≡
      option_map Some (list_at (inner_level codec) raw)) →
      Copied (box_held old) own (list_in (kind_held old) own raw) (list_held old) (list_held new) →
      HasPut codec under value index over chunk old new
  put_there over old new own raw holds lies given copied = go (list_at (inner_level codec) raw) refl given.0 given.1
    where
      go : (m : Option (List Element)) → list_at (inner_level codec) raw ≡ m → IsSome m →
          inner_at (inner_decoded codec under) value (pair_at index number) ≡
          option_map Some (list_at (inner_level codec) raw) → HasPut codec under value index over chunk old new
      go (Some list) is there same = has_put over old new own raw list holds lies is
          (content_is_at ∙ ap (content_from (blank_list codec)) (same ∙ ap (option_map Some) is)) copied
      go None is there same = cc

  pub put_blank : (over : Region) (old new : BoxElements) (own : Region) (raw : ArrayBytes) → HoldsOver codec over old →
      own ≡ (inner_grid codec).chunk_box chunk →
      list_at (inner_level codec) raw ≡ Some (blank_list codec) →
      inner_at (inner_decoded codec under) value (pair_at index number) ≡ Some None →
      Copied (box_held old) own (list_in (kind_held old) own raw) (list_held old) (list_held new) →
      HasPut codec under value index over chunk old new
  put_blank over old new own raw holds lies means same copied = has_put over old new own raw (blank_list codec) holds
      lies means (content_is_at ∙ ap (content_from (blank_list codec)) same) copied

  -- one that does not decode
  pub inner_fails : (e : CodecError) → IsDecodeError (inner_at (inner_decoded codec under) value (pair_at index number))
      (found_says (InnerSays codec under) value (pair_at index number)) e →
      IsDecodeError (inner_content (own_array codec under) value index chunk) (SaysAt codec under value index number) e
  inner_fails e told = ⊎_elim (λ memory. inl memory)
      (λ both.
      inr (content_is_at ∙ ap (content_from (blank_list codec)) both.0, record { fails = both.0; said = both.1 })) told
