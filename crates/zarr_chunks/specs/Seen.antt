-- A chain over the chunks of one shape, as contracts see it, and what its calls owe.
use Rattle.std.specs.Prelude.{◌≡◌, ◌==◌, ◌≤◌, ◌⊎◌, ◌&&◌, ◌||◌, not, is_some, ℕ, Bool, true, false, List, length, Option}
use Rattle.std.specs.Prelude.{Some, None, IsSome, option_map, Result, Ok, Err, IfOk, IfErr, OnOk, OnErr, IsErrOf}
use Rattle.std.specs.Prelude.{MatchResult}
use Rattle.zarrs_codec_traits.specs.Prelude.{ArrayBytes, Level, Options, has_long_element, counted, Element, HasCause}
use Rattle.zarrs_codec_traits.specs.Prelude.{Region, ends_within, Shown, SameContent, IsFault, IsPlain, invalid_range}
use Rattle.zarrs_codec_traits.specs.Prelude.{raw_of, Held, IsHandleError, UnlessFault, list_at, at_box, Gives}
use Rattle.zarrs_storage.specs.declared.byte_range.ByteRange.{ByteRange}
use Rattle.zarrs_storage.specs.declared.store.StorageError.{StorageError}
use Rattle.zarrs_storage.specs.declared.store.StorageError.TheVariants as storage
use Rattle.zarrs_codec_error.specs.declared.error.CodecError.{CodecError}
use Rattle.zarrs_codec_array_bytes.specs.declared.array_bytes.ArrayBytes as code
use Rattle.zarrs_codec.specs.Stored.{taken_of}
use Rattle.zarrs_codec_traits.specs.declared.codec_traits.ArrayCodecTraits as any
use Rattle.zarrs_codec_traits.specs.declared.array_to_array.ArrayToArrayCodecTraits as array
use Rattle.zarrs_codec_traits.specs.declared.array_to_bytes.ArrayToBytesCodecTraits as to_bytes
use Rattle.zarrs_codec_traits.specs.declared.bytes_to_bytes.BytesToBytesCodecTraits as bytes
use Rattle.zarr_codec_chain.specs.declared.chain.CodecChain.{CodecChain}
use Rattle.zarr_codec_chain.specs.declared.levels.ChunkLevels.{ChunkLevels}
use Rattle.zarr_codec_chain.specs.Chain.{ServesChunks, first_level, bottom_level, decoded}
use Rattle.zarr_codec_chain.specs.Answers.{GivesPart}
use Rattle.zarr_chunks.specs.Fetch.{chain_content, chunk_says}
use Rattle.zarr_chunks.specs.Put.{is_list_dropped, PutsChunk, MayPutChunk}
use Rattle.zarr_chunks.specs.Update.{with_box, UpdatesChunk, MayUpdateChunk}
use Rattle.zarr_chunks.specs.Regions.{is_whole_chunk, region_request, stored_request, given_bytes, first_outside}
use Rattle.zarr_chunks.specs.Regions.{range_says, IsGivenAsked, IsAlike, AsksOnce, GivesRegion, fetched_list}
use Rattle.zarr_chunks.specs.Regions.{fetched_bytes, gives_chunk}
use Rattle.zarr_chunks.specs.declared.fetched.Fetched.{Fetched}

-- a chain with the levels of a chunk
pub record ChainSeen : Type 1 where
  -- what the chunk is
  pub level : Level
  -- what a value decodes to, and what stands under a key; and which errors tell that it does not
  pub decode : Options → List ℕ → Option (List Element)
  pub content : Options → Option (List ℕ) → Option (List Element)
  pub says : Options → Option (List ℕ) → CodecError → Type 0
  -- what the bytes-to-bytes codecs give of it
  pub given : Options → Option (List ℕ) → Held
  -- which ranges of that a region asks for, and which of them are of the stored value
  pub request : Region → Option (List ByteRange)
  pub stored : Option (List ByteRange) → Option (List ByteRange)
  -- whether no array-to-array codec stands in the chain
  pub bare : Bool
  -- each codec serves its level; and the bottom takes what is given it, if no element is too long
  pub serves : Type 0
  pub takes : Type 0

-- the same of the members of its codecs
abbrev pub chain_seen : {A B C : Type 0} → any.Ghosts A → array.Ghosts A → any.Ghosts B
    → to_bytes.Ghosts B → bytes.Ghosts C → CodecChain A B C → ChunkLevels → ChainSeen
chain_seen above array below bottom opens chain levels = record {
  level = first_level levels;
  decode = decoded array.meaning bottom.meaning opens.meaning chain levels;
  content = chain_content array.meaning bottom.meaning opens.meaning chain levels;
  says = chunk_says bottom.says opens.meaning opens.says chain levels;
  given = given_bytes opens.meaning chain;
  request = region_request bottom.request array.region_below chain levels;
  stored = stored_request chain;
  bare = length chain.array_codecs.items == 0;
  serves = ServesChunks array.meaning above.unserved below.unserved chain levels;
  takes = bottom.takes chain.to_bytes (bottom_level levels);
}

-- why a call gave no elements of a chunk: for want of memory, by a fault of the store, or since the
-- chunk does not decode, which the error tells
abbrev pub ChunkTells : ChainSeen → Options → Option (List ℕ) → ℕ → ℕ → CodecError → Type 0
ChunkTells chain under value before now e = IsHandleError before now e
    ⊎ ((chain.content under value ≡ None) × chain.says under value e)

-- all of a value was asked for, by one reading call
pub record AsksWhole {T : Type 0} (key : List ℕ) (before now : Shown) (result : Result T CodecError)
    : Type 0 where
  pub asks : now.asks ≡ counted before.asks 1
  pub taken : OnOk result
      (now.taken ≡ counted before.taken (taken_of None (before.content key)))
  pub later : before.faults ≤ now.faults

-- a chunk was fetched, or the call failed
pub record FetchesChunk (chain : ChainSeen) (under : Options) (key : List ℕ) (before now : Shown)
    (result : Result code.ArrayBytes CodecError) : Type 0 where
  pub value : IfOk result (λ v. Gives (list_at chain.level (raw_of v))
      (chain.content under (before.content key)))
  pub why : IfErr result
      (ChunkTells chain under (before.content key) before.faults now.faults)
  pub short : IfOk result (λ v. has_long_element (raw_of v) ≡ false)
  pub same : SameContent before now
  pub asked : AsksWhole key before now result

-- a region of a chunk may be asked for
pub record CanRead (chain : ChainSeen) (region : Region) : Type 0 where
  pub serves : chain.serves
  pub inside : ends_within region chain.level.shape ≡ true

-- which errors tell why a region has no elements: that of the first range that lies outside of what
-- is given, if one does, and else those of the chunk
abbrev pub RegionTells : ChainSeen → Options → Option (List ByteRange) → Option (List ℕ) → ℕ → ℕ
    → CodecError → Type 0
RegionTells chain under asked value before now e = IsHandleError before now e
    ⊎ ((chain.content under value ≡ None)
    × range_says (first_outside asked (chain.given under value)) asked (chain.given under value)
    (chain.says under value) e)

-- where ranges are asked for, the elements are those of each value with the same bytes there
abbrev pub IsAlikeIn : {T : Type 0} → (List Element → T → Type 0) → ChainSeen → Options
    → Option (List ByteRange) → Option (List ℕ) → ℕ → ℕ → Result T CodecError → Type 0
IsAlikeIn gives chain under None value before now result = Unit {0}
IsAlikeIn gives chain under (Some ranges) value before now result =
    (bytes other : List ℕ) (list : List Element)
    → chain.given under value ≡ Some (Some bytes) → invalid_range ranges (Some bytes) ≡ None
    → IsAlike ranges bytes (chain.given under (Some other))
    → chain.decode under other ≡ Some list
    → MatchResult result (gives list) (IsHandleError before now)

-- a region of a chunk was asked for, by these ranges or by all of its value: what was read, or why
-- not
pub record AsksPart {T : Type 0} (chain : ChainSeen) (under : Options) (region : Region)
    (ranges : Option (List ByteRange)) (key : List ℕ) (before now : Shown)
    (result : Result T CodecError) : Type 0 where
  -- a chunk for which no ranges are asked decodes, and ranges lie within what they are ranges of
  pub decodes : ranges ≡ None → OnOk result (IsSome (chain.content under (before.content key)))
  pub given : OnOk result (IsGivenAsked ranges (chain.given under (before.content key)))
  pub why : IfErr result
      (RegionTells chain under ranges (before.content key) before.faults now.faults)
  -- nothing is changed, by one reading call, or none where memory ran out before it
  pub same : SameContent before now
  pub later : before.faults ≤ now.faults
  pub asks : AsksOnce before.asks now.asks result
  -- all of the chunk is asked for in any case
  pub whole : is_whole_chunk chain.level region ≡ true → now.asks ≡ counted before.asks 1
  pub taken : OnOk result (now.taken
      ≡ counted before.taken (taken_of (chain.stored ranges) (before.content key)))

-- so it was fetched, alone or with all of the chunk, or the call failed
pub record FetchesBy (chain : ChainSeen) (under : Options) (region : Region)
    (ranges : Option (List ByteRange)) (key : List ℕ) (before now : Shown)
    (result : Result Fetched CodecError) : Type 0 where
  pub elements : (list : List Element) → chain.content under (before.content key) ≡ Some list
      → IfOk result (GivesRegion chain.level region list)
  pub alike : IsAlikeIn (GivesRegion chain.level region) chain under ranges (before.content key)
      before.faults now.faults result
  -- they are valid in any case, and none is too long to be stored
  pub valid : IfOk result (λ v. IsSome (fetched_list chain.level region v))
  pub short : IfOk result (λ v. has_long_element (fetched_bytes v) ≡ false)
  -- all of the chunk where the region is; or where a value is there, no ranges are asked for, and
  -- no array-to-array codec stands in the chain
  pub which : IfOk result (λ v. gives_chunk v ≡ (is_whole_chunk chain.level region
      || (chain.bare && (is_some (before.content key) && not (is_some ranges)))))
  pub asked : AsksPart chain under region ranges key before now result

-- so it was read alone, or the call failed
pub record ReadsChunkBy (chain : ChainSeen) (under : Options) (region : Region)
    (ranges : Option (List ByteRange)) (key : List ℕ) (before now : Shown)
    (result : Result code.ArrayBytes CodecError) : Type 0 where
  pub elements : (list : List Element) → chain.content under (before.content key) ≡ Some list
      → IfOk result (GivesPart chain.level region list)
  pub alike : IsAlikeIn (GivesPart chain.level region) chain under ranges (before.content key)
      before.faults now.faults result
  pub valid : IfOk result (λ v. IsSome (list_at (at_box region chain.level) (raw_of v)))
  pub short : IfOk result (λ v. has_long_element (raw_of v) ≡ false)
  pub asked : AsksPart chain under region ranges key before now result

-- the same by the ranges that the chain asks for
abbrev pub FetchesPart : ChainSeen → Options → Region → List ℕ → Shown → Shown
    → Result Fetched CodecError → Type 0
FetchesPart chain under region key before now result =
    FetchesBy chain under region (chain.request region) key before now result

abbrev pub ReadsPart : ChainSeen → Options → Region → List ℕ → Shown → Shown
    → Result code.ArrayBytes CodecError → Type 0
ReadsPart chain under region key before now result =
    ReadsChunkBy chain under region (chain.request region) key before now result

-- one writing call was made, or none where the call failed before it
abbrev pub PutsOnce : {T E : Type 0} → ℕ → ℕ → Result T E → Type 0
PutsOnce before now (Ok v) = now ≡ counted before 1
PutsOnce before now (Err e) = (now ≡ before) ⊎ (now ≡ counted before 1)

-- elements that may be put as the chunk
pub record CanPut (chain : ChainSeen) (bytes : ArrayBytes) : Type 0 where
  pub serves : chain.serves
  pub takes : chain.takes
  pub means : IsSome (list_at chain.level bytes)
  pub short : has_long_element bytes ≡ false

-- the chunk was put, or the call failed
pub record StoresChunk {T : Type 0} (chain : ChainSeen) (under : Options) (bytes : ArrayBytes)
    (key : List ℕ) (before now : Shown) (result : Result T StorageError) : Type 0 where
  -- done: what stands under the key decodes to the chunk, or is left out
  pub done : (list : List Element) → list_at chain.level bytes ≡ Some list
      → OnOk result (PutsChunk chain.decode (is_list_dropped under chain.level list) list
      before.content now.content key)
  -- failed: old, new or absent; and unchanged where memory ran out
  pub cut : (list : List Element) → list_at chain.level bytes ≡ Some list
      → OnErr result (MayPutChunk chain.decode (is_list_dropped under chain.level list) list
      before.content now.content key)
  pub unchanged : IsErrOf result storage.OutOfMemory → SameContent before now
  pub plain : IfErr result IsPlain
  pub cause : HasCause IsFault before.faults now.faults result
  -- by one writing call, and nothing is read
  pub puts : PutsOnce before.puts now.puts result
  pub asks : now.asks ≡ before.asks
  pub taken : now.taken ≡ before.taken

-- elements that may be written to a region of a chunk
pub record CanWrite (chain : ChainSeen) (region : Region) (bytes : ArrayBytes) : Type 0 where
  pub serves : chain.serves
  pub takes : chain.takes
  pub inside : ends_within region chain.level.shape ≡ true
  pub means : IsSome (list_at (at_box region chain.level) bytes)
  pub short : has_long_element bytes ≡ false

-- a region was replaced, or the call failed
pub record WritesRegion {T : Type 0} (chain : ChainSeen) (under : Options) (region : Region)
    (bytes : ArrayBytes) (key : List ℕ) (before now : Shown) (result : Result T CodecError)
    : Type 0 where
  -- done: what stands under the key decodes to the chunk with the region replaced, or is left out
  pub done : (new : List Element) → list_at (at_box region chain.level) bytes ≡ Some new
      → OnOk result (UpdatesChunk chain.decode (is_list_dropped under chain.level)
      (option_map (with_box chain.level.shape region new)
      (chain.content under (before.content key))) before.content now.content key)
  -- failed: old, new or absent; and unless the store failed nothing has changed
  pub cut : (new : List Element) → list_at (at_box region chain.level) bytes ≡ Some new
      → OnErr result (MayUpdateChunk chain.decode (is_list_dropped under chain.level)
      (option_map (with_box chain.level.shape region new)
      (chain.content under (before.content key))) before.content now.content key)
  pub unchanged : UnlessFault result (SameContent before now)
  pub puts : PutsOnce before.puts now.puts result
  pub why : IfErr result
      (ChunkTells chain under (before.content key) before.faults now.faults)
  pub asked : AsksWhole key before now result
