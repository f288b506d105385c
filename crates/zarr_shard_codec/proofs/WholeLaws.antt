-- All inner chunks of a chunk, one after another.
use Rattle.std.proofs.Common.{◌≡◌, ℕ, ◌+◌, ◌<◌, List, Option, Some, option_and_then, refl, sym, ap, ap₂, ◌∙◌}
use Rattle.std.proofs.Common.{subst, inl, inr, ⊎_elim, IsSome, arith}
use Rattle.zarrs_codec_traits.specs.Prelude.{Region, count, count_of, whole, Element, Kind, kind, Options, ArrayBytes}
use Rattle.zarrs_codec_traits.specs.Prelude.{meaning, IsDecodeError, list_at, Gives}
use Rattle.zarr_model.proofs.RegionLaws.{sizes_whole}
use Rattle.zarrs_codec_error.specs.declared.error.CodecError.{CodecError}
use Rattle.zarr_array_boxes.specs.BoxElements.{list_held}
use Rattle.zarr_array_boxes.specs.declared.box_elements.BoxElements.{BoxElements}
use Rattle.zarr_array_boxes.proofs.HeldLaws.{length-list_held}
use Rattle.zarr_shard_codec.specs.Finding.{index_found}
use Rattle.zarr_shard_codec.specs.Shard.{by_index}
use Rattle.zarr_shard_codec.specs.ShardCodec.{inner_of, inner_grid, own_level, own_array, own_list}
use Rattle.zarr_shard_codec.specs.Placing.{indices_at}
use Rattle.zarr_shard_codec.specs.Whole.{inner_content_of, HoldsOver, HasPut, SaysAt, SaysInner}
use Rattle.zarr_shard_codec.specs.declared.shard_codec.ShardCodec.{ShardCodec}
use Rattle.zarr_shard_codec.proofs.CodecFacts.{covers, num_chunks, near}
use Rattle.zarr_shard_codec.proofs.PlacedLaws.{HasPlaced, chunk_there, none_placed, one_placed, all_placed, one_fails}

-- the first inner chunks were put where they lie
abbrev pub HasPutSome : ShardCodec → Options → List ℕ → List ℕ → ℕ → List Element → Type 0
HasPutSome codec under value index number list =
    HasPlaced (own_array codec under) (covers codec) value index number list

module _ (codec : ShardCodec) (under : Options) (value index : List ℕ) where
  pub none_put : (elements : BoxElements) → HoldsOver codec (whole (inner_of codec).shape) elements →
      HasPutSome codec under value index 0 (list_held elements)
  none_put elements holds = none_placed (own_array codec under) (covers codec) value index (list_held elements)
      (length-list_held elements ∙ ap count holds.over)

  pub one_put : (number : ℕ) (old new : BoxElements) → number < count_of (inner_grid codec).grid_shape →
      HasPutSome codec under value index number (list_held old) →
      HasPut codec under value index (whole (inner_of codec).shape) (indices_at codec number) old new →
      HasPutSome codec under value index (number + 1) (list_held new)
  one_put number old new below so_far put = one_placed (own_array codec under) (covers codec) value index number
      put.list (list_held old) (list_held new) (near codec number below) put.as_long put.content put.copied so_far

  pub stops_putting : (number : ℕ) (list : List Element) (e : CodecError) →
      number < count_of (inner_grid codec).grid_shape → HasPutSome codec under value index number list →
      IsDecodeError (inner_content_of codec under value index number) (SaysAt codec under value index number) e →
      IsDecodeError (by_index (own_array codec under) value index) (SaysInner codec under value index) e
  stops_putting number list e below so_far told =
      ⊎_elim (λ memory. inl memory)
      (λ both. inr (
        one_fails (own_array codec under) (covers codec) value index number (near codec number below) both.0,
        record {
          number = number;
          below = below;
          first = λ k less. so_far.decode k (indices_at codec k) less
              (chunk_there (inner_grid codec) k (near codec k (omega (arith, less, below))));
          why = both.1;
        },
      )) told

  pub all_put : (number : ℕ) (list : List Element) → number ≡ count_of (inner_grid codec).grid_shape →
      HasPutSome codec under value index number list → by_index (own_array codec under) value index ≡ Some list
  all_put number list all put =
      all_placed (own_array codec under) (covers codec) value index number list (all ∙ num_chunks codec) put

-- by what is found of the index
module _ (codec : ShardCodec) (under : Options) (value : List ℕ) where
  abbrev found : Option (List ℕ)
  found = index_found codec.shard.checked under.validate_checksums (count_of (inner_grid codec).grid_shape) value

  by_found : (index : Option (List ℕ)) → found ≡ index →
      own_list codec under value ≡ option_and_then (by_index (own_array codec under) value) index
  by_found index is = ap (option_and_then (by_index (own_array codec under) value)) is

  pub all_given : (index : List ℕ) (list : List Element) (own : Kind) (box : Region) (raw : ArrayBytes) →
      found ≡ Some index →
      by_index (own_array codec under) value index ≡ Some list → own ≡ kind (inner_of codec) →
      box ≡ whole (inner_of codec).shape → meaning own (count box) raw ≡ Some list →
      Gives (list_at (own_level codec) raw) (own_list codec under value)
  all_given index list own box raw is elements kind_is box_is means =
      let number : count box ≡ count_of (inner_of codec).shape =
      ap count box_is ∙ ap count_of (sizes_whole (inner_of codec).shape) in
      let at : list_at (own_level codec) raw ≡ Some list = sym (ap₂ (λ k n. meaning k n raw) kind_is number) ∙ means in
      record { same = at ∙ sym (by_found (Some index) is ∙ elements); there = subst IsSome (sym at) refl }
