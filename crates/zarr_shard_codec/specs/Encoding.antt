-- A shard that was encoded: its inner chunks lie one after another from 0, and the index behind
-- them.
use Rattle.std.specs.Prelude.{◌≡◌, ℕ, ◌+◌, ◌≤◌, ◌==◌, true, false, if◌then◌else◌, List, [], ◌∷◌, ◌++◌, length, take}
use Rattle.std.specs.Prelude.{drop, replicate, slice_get, Option, Some, None}
use Rattle.std.specs.List.{AllByRecursion}
use Rattle.zarrs_codec_traits.specs.Prelude.{count_of, Element, Options, select}
use Rattle.zarr_shard_codec.specs.Index.{Pair, is_absent, index_bytes}
use Rattle.zarr_shard_codec.specs.Placing.{box_at}
use Rattle.zarr_shard_codec.specs.ShardCodec.{inner_of, inner_dims, inner_decoded}
use Rattle.zarr_shard_codec.specs.Written.{FitsPair}
use Rattle.zarr_shard_codec.specs.declared.shard_codec.ShardCodec.{ShardCodec}

-- the elements of the inner chunk of a number, out of those of the chunk
abbrev pub part_list : ShardCodec → ℕ → List Element → List Element
part_list codec number list = select (inner_of codec).shape (box_at codec number) list

-- an inner chunk that has the fill everywhere
abbrev pub IsFill : ShardCodec → List Element → Type 0
IsFill codec list = list ≡ replicate (count_of (inner_dims codec)) (inner_of codec).fill

-- a pair names bytes that decode to a list under all options
pub record NamesInner (codec : ShardCodec) (list : List Element) (front : List ℕ) (pair : Pair)
    : Type 0 where
  pub within : pair.offset + pair.size ≤ length front
  pub decodes : (under : Options)
      → inner_decoded codec under (take pair.size (drop pair.offset front)) ≡ Some list

-- the pair of an inner chunk with these elements: it is left out exactly where all are the fill and
-- such chunks are not stored, and else its bytes are there
pub record IsWrittenInner (codec : ShardCodec) (options : Options) (list : List Element)
    (front : List ℕ) (pair : Pair) : Type 0 where
  pub empty : is_absent pair ≡ true → (options.store_empty_chunks ≡ false) × IsFill codec list
  pub left_out : options.store_empty_chunks ≡ false → IsFill codec list → is_absent pair ≡ true
  pub there : is_absent pair ≡ false → NamesInner codec list front pair

-- where the inner chunks of pairs end that lie one after another from a place, if they do
abbrev pub end_after : ℕ → List Pair → Option ℕ
end_after at [] = Some at
end_after at (pair ∷ pairs) = if is_absent pair then end_after at pairs
    else if pair.offset == at then end_after (at + pair.size) pairs else None

-- one more inner chunk was written behind others
pub record HasAppended (codec : ShardCodec) (options : Options) (list : List Element)
    (old new : List ℕ) (pair : Pair) : Type 0 where
  pub more : List ℕ
  pub grown : new ≡ old ++ more
  pub fits : FitsPair pair
  pub behind : end_after (length old) (pair ∷ []) ≡ Some (length new)
  pub written : IsWrittenInner codec options list new pair

-- inner chunks of these elements stand one after another in a value, and behind them the index of
-- their pairs
pub record IsEncoded (codec : ShardCodec) (options : Options) (list : List Element)
    (value : List ℕ) : Type 0 where
  pub front : List ℕ
  pub pairs : List Pair
  pub is : value ≡ front ++ index_bytes codec.shard.checked pairs
  pub count : length pairs ≡ count_of (inner_of codec).grid.grid_shape
  pub fit : AllByRecursion FitsPair pairs
  pub laid : end_after 0 pairs ≡ Some (length front)
  pub each : (number : ℕ) (pair : Pair) → slice_get pairs number ≡ Some pair
      → IsWrittenInner codec options (part_list codec number list) front pair
