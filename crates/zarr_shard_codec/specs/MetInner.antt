-- The inner chunks that a region meets, read one after another.
use Rattle.std.specs.Prelude.{◌≡◌, ◌≤◌, ◌<◌, ◌*◌, ◌^◌, ℕ, true, false, if◌then◌else◌, List, length, Option, Some}
use Rattle.std.specs.Prelude.{IfSome, Result, MatchResult}
use Rattle.std.specs.List.{sum_by}
use Rattle.zarrs_codec_traits.specs.Prelude.{Region, count, count_of, tuples, tuple_at, ends_within, Element}
use Rattle.zarrs_codec_traits.specs.Prelude.{chunks_meeting, ArrayBytes, has_long_element, Options, Shown}
use Rattle.zarrs_codec_traits.specs.Prelude.{region as region_of, held_bytes, raw_of, list_at, Gives}
use Rattle.zarrs_codec_error.specs.declared.error.CodecError.{CodecError}
use Rattle.zarrs_codec_array_bytes.specs.declared.array_bytes.ArrayBytes as code
use Rattle.zarr_array_boxes.specs.BoxElements.{list_held}
use Rattle.zarr_array_boxes.specs.declared.box_elements.BoxElements.{BoxElements}
use Rattle.zarr_shard_codec.specs.Index.{Pair, is_absent, pair_at}
use Rattle.zarr_shard_codec.specs.Inner.{AreInner, found_at, inner_at, GivesInner}
use Rattle.zarr_shard_codec.specs.Placing.{inner_number}
use Rattle.zarr_shard_codec.specs.ReadRegion.{HasCost, NotRead, SaysMet, says_at}
use Rattle.zarr_shard_codec.specs.Region.{region_by_index, met_pairs}
use Rattle.zarr_shard_codec.specs.Shard.{inner_content}
use Rattle.zarr_shard_codec.specs.ShardCodec.{inner_of, inner_grid, inner_level, inner_decoded, own_array}
use Rattle.zarr_shard_codec.specs.Whole.{HasPut}
use Rattle.zarr_shard_codec.specs.declared.met_inner.MetInner.{MetInner}
use Rattle.zarr_shard_codec.specs.declared.shard_codec.ShardCodec.{ShardCodec}

-- the codec, the region, and the indices of the inner chunk of a number
abbrev pub met_codec : MetInner → ShardCodec
met_codec met = met.inner.codec.now

abbrev pub region_met : MetInner → Region
region_met met = region_of met.subset.now

abbrev pub met_inner_at : MetInner → ℕ → List ℕ
met_inner_at met number = tuple_at (region_of met.chunks) number

-- the value that its pairs name bytes of
abbrev pub value_under : MetInner → Shown → List ℕ
value_under met shown = held_bytes (shown.content met.key.now)

-- the region lies inside the chunk, these are the inner chunks that it meets, and the index has all
-- pairs
pub record AreMetInner (met : MetInner) : Type 0 where
  pub inner : AreInner met.inner
  pub inside : ends_within (region_met met) (inner_of (met_codec met)).shape ≡ true
  pub listed : tuples (region_of met.chunks)
      ≡ chunks_meeting (inner_grid (met_codec met)) (region_met met)
  pub few : count (region_of met.chunks) < 2 ^ 64
  pub indexed : 16 * count_of (inner_grid (met_codec met)).grid_shape ≤ length met.index.now

-- how many calls and bytes the inner chunk of a pair takes
abbrev pub pair_calls : Pair → ℕ
pair_calls pair = if is_absent pair then 0 else 1

abbrev pub pair_size : Pair → ℕ
pair_size pair = if is_absent pair then 0 else pair.size

-- the elements that the bytes of a pair decode to, by one call
pub record HasPair (codec : ShardCodec) (under : Options) (value : List ℕ) (pair : Pair)
    (old new : Shown) (raw : ArrayBytes) : Type 0 where
  pub gives : Gives (list_at (inner_level codec) raw)
      (found_at (inner_decoded codec under) value pair)
  pub short : has_long_element raw ≡ false
  pub cost : HasCost 1 pair.size old new

-- those of an inner chunk that may not be there
pub record HasInner (codec : ShardCodec) (under : Options) (value : List ℕ) (pair : Pair)
    (old new : Shown) (given : Option code.ArrayBytes) : Type 0 where
  pub gives : GivesInner (inner_level codec) (inner_at (inner_decoded codec under) value pair) given
  pub short : IfSome given (λ v. has_long_element (raw_of v) ≡ false)
  pub cost : HasCost (pair_calls pair) (pair_size pair) old new

-- they were put into a region's elements
pub record HasPutInner (codec : ShardCodec) (under : Options) (value index : List ℕ)
    (region : Region) (chunk : List ℕ) (before after : BoxElements) (old new : Shown) : Type 0 where
  pub put : HasPut codec under value index region chunk before after
  pub cost : let pair = pair_at index (inner_number codec chunk) in
      HasCost (pair_calls pair) (pair_size pair) old new

-- the inner chunk of a number was read so, or it was not
abbrev pub ReadsInner : {T : Type 0} → MetInner → Options → ℕ → BoxElements → BoxElements → Shown
    → Shown → Result T CodecError → Type 0
ReadsInner met under number before after old new result =
    let value = value_under met old in let index = met.index.now in
    let chunk = met_inner_at met number in MatchResult result
    (λ _. HasPutInner (met_codec met) under value index (region_met met) chunk before after old new)
    (NotRead (inner_content (own_array (met_codec met) under) value index chunk)
    (says_at (met_codec met) under value index chunk) old new)

-- what all that are met give of the region, how many calls and bytes they take, and why they do not
abbrev pub met_content : MetInner → Options → Shown → Option (List Element)
met_content met under old = region_by_index (own_array (met_codec met) under) (value_under met old)
    (region_met met) met.index.now

abbrev pub met_calls : MetInner → ℕ
met_calls met = length (met_pairs (met_codec met) (region_met met) met.index.now)

abbrev pub met_size : MetInner → ℕ
met_size met =
    sum_by (λ pair. pair.size) (met_pairs (met_codec met) (region_met met) met.index.now)

abbrev pub MetSays : MetInner → Options → Shown → CodecError → Type 0
MetSays met under old e =
    SaysMet (met_codec met) under (region_met met) (value_under met old) met.index.now e

-- elements over the region are those
pub record HasReadMet (met : MetInner) (under : Options) (old new : Shown)
    (elements : BoxElements) : Type 0 where
  pub content : met_content met under old ≡ Some (list_held elements)
  pub cost : HasCost (met_calls met) (met_size met) old new
