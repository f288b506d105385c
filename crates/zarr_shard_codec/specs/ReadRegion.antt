-- What reading a region of a chunk owes.
use Rattle.std.specs.Prelude.{◌≡◌, ◌≤◌, ◌⊎◌, ℕ, true, false, List, length, take, slice_get, is_some, Option, Some, None}
use Rattle.std.specs.List.{list_all}
use Rattle.zarrs_codec_traits.specs.Prelude.{Region, Element, chunks_meeting, ArrayBytes, has_long_element, Options}
use Rattle.zarrs_codec_traits.specs.Prelude.{Shown, counted, SameContent, IsHandleError, list_at, at_box, Gives}
use Rattle.zarrs_storage.specs.declared.byte_range.ByteRange.TheVariants.{Suffix}
use Rattle.zarrs_codec_error.specs.declared.error.CodecError.{CodecError}
use Rattle.zarrs_codec_error.specs.declared.error.CodecError.TheVariants as error
use Rattle.zarr_shard_codec.specs.Index.{index_in, pair_at}
use Rattle.zarr_shard_codec.specs.Shard.{inner_content}
use Rattle.zarr_shard_codec.specs.ShardCodec.{inner_grid, own_level, own_array, InnerSays}
use Rattle.zarr_shard_codec.specs.Placing.{inner_number}
use Rattle.zarr_shard_codec.specs.Inner.{found_says}
use Rattle.zarr_shard_codec.specs.Region.{index_len, own_part}
use Rattle.zarr_shard_codec.specs.declared.shard_codec.ShardCodec.{ShardCodec}

-- so many reading calls took so many bytes, and nothing was changed
pub record HasCost (calls bytes : ℕ) (old new : Shown) : Type 0 where
  pub same : SameContent old new
  pub later : old.faults ≤ new.faults
  pub asks : new.asks ≡ counted old.asks calls
  pub taken : new.taken ≡ counted old.taken bytes

-- nothing was changed, and the error has its cause: memory ran out, or the store failed and its
-- count of faults rose, or nothing is what was wanted, and the error tells why
pub record NotRead {A : Type 0} (wanted : Option A) (says : CodecError → Type 0) (old new : Shown)
    (e : CodecError) : Type 0 where
  pub same : SameContent old new
  pub later : old.faults ≤ new.faults
  pub cause : IsHandleError old.faults new.faults e ⊎ ((wanted ≡ None) × says e)

-- array bytes have the elements that are wanted of a region of a chunk, none of which is too long
-- for its length to be stored
pub record HasRegion (codec : ShardCodec) (region : Region) (wanted : Option (List Element))
    (calls bytes : ℕ) (old new : Shown) (raw : ArrayBytes) : Type 0 where
  pub elements : Gives (list_at (at_box region (own_level codec)) raw) wanted
  pub short : has_long_element raw ≡ false
  pub cost : HasCost calls bytes old new

-- which errors tell why an inner chunk has none
abbrev pub says_at : ShardCodec → Options → List ℕ → List ℕ → List ℕ → CodecError → Type 0
says_at codec under value index chunk e =
    found_says (InnerSays codec under) value (pair_at index (inner_number codec chunk)) e

-- an error tells why the first inner chunk that a region meets and that has no elements has none:
-- its pair names bytes past the value, or its bytes do not decode
pub record SaysMet (codec : ShardCodec) (under : Options) (region : Region)
    (value index : List ℕ) (e : CodecError) : Type 0 where
  pub chunk : List ℕ
  pub place : ℕ
  pub met : slice_get (chunks_meeting (inner_grid codec) region) place ≡ Some chunk
  pub first : list_all (λ other. is_some (inner_content (own_array codec under) value index other))
      (take place (chunks_meeting (inner_grid codec) region)) ≡ true
  pub fails : inner_content (own_array codec under) value index chunk ≡ None
  pub said : says_at codec under value index chunk e

-- why there is nothing of a region by what the bytes of the index hold: its number is wrong, and
-- else such an inner chunk
abbrev pub region_says_by : ShardCodec → Options → Region → List ℕ → Option (List ℕ) → CodecError
    → Type 0
region_says_by codec under region value None e = e ≡ error.InvalidChecksum
region_says_by codec under region value (Some index) e = SaysMet codec under region value index e

-- and by a value: it is shorter than the index, and else these
abbrev pub says_from : ShardCodec → Options → Region → List ℕ → Option (List ℕ) → CodecError
    → Type 0
says_from codec under region value None e = e ≡ error.InvalidByteRangeError
    (record { range = Suffix (index_len codec); size = length value })
says_from codec under region value (Some part) e = region_says_by codec under region value
    (index_in codec.shard.checked under.validate_checksums part) e

abbrev pub region_says : ShardCodec → Options → Region → List ℕ → CodecError → Type 0
region_says codec under region value e =
    says_from codec under region value (own_part codec value) e

-- the same of what stands under a key
abbrev pub held_says : ShardCodec → Options → Region → Option (List ℕ) → CodecError → Type 0
held_says codec under region None e = ⊥
held_says codec under region (Some value) e = region_says codec under region value e
