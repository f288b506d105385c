-- What the parts of an array say of the array that its document describes.
use Rattle.std.proofs.Common.{◌≡◌, ℕ, ◌+◌, ◌*◌, ◌^◌, ◌<◌, ◌&&◌, not, nat_le, Bool, true, false, List, length, Option}
use Rattle.std.proofs.Common.{Some, None, refl, sym, ap, ◌∙◌, arith, ◌==◌}
use Rattle.std.proofs.lemmas.Bool.{or_parts}
use Rattle.zarr_model.specs.Prelude.{Region, count, starts, sizes, ends_within, IsChunk, CoversShape, Options, IsSound}
use Rattle.zarr_model.specs.Prelude.{layout, kind, fixed_size, is_too_large, region_refusal, refused_if, or_then}
use Rattle.zarr_model.specs.Prelude.{incompatible_dimensionality, subset_out_of_bounds, region_too_large}
use Rattle.zarrs_array_subset.specs.Boxes.{is_box}
use Rattle.zarr_codec_chain.specs.Prelude.{fill_bytes, innermost_fill, size_in}
use Rattle.zarr_basics.specs.BasicGrid.{basic_covers}
use Rattle.zarr_basics.specs.Limits.{has_large_chunk}
use Rattle.zarr_basics.proofs.LimitLaws.{small_chunk}
use Rattle.zarr_basics.proofs.KeysApart.{keys_differ}
use Rattle.zarr_codecs.specs.Plain.{stores_lengths}
use Rattle.zarr_codecs.specs.Views.{plain_of}
use Rattle.zarr_array_open.specs.Parts.{documented_parts, described_parts}
use Rattle.zarr_array_open.specs.Sizes.{has_long_chunk}
use Rattle.zarr_array_open.specs.declared.parts.ArrayParts.{ArrayParts}
use Rattle.zarr_array_open.proofs.DocumentLaws.{countable_is, describe-sound}
use Rattle.zarr_array_open.proofs.LimitLaws.{not_above, short_chunk}

-- the grid cuts the array into parts
pub described_covers : (array : ArrayParts) → CoversShape (described_parts array).shape (described_parts array).grid
described_covers array = basic_covers array.grid

-- and its layout is sound
pub described_sound : (array : ArrayParts) (options : Options) → IsSound (layout (described_parts array) options)
described_sound array options = describe-sound (documented_parts array) options
    (λ chunk other. keys_differ array.keys (described_parts array).grid chunk other
    (countable_is (described_parts array).grid.grid_shape array.countable))

-- a number of elements that is not too large, and neither are its bytes
pub counts_of : (size : Option ℕ) (number : ℕ) → is_too_large size number ≡ false →
    (number + 1 < 2 ^ 64) × (number * size_in size < 2 ^ 64)
counts_of None number h = (not_above (2 ^ 64) (number + 1) h, omega arith)
counts_of (Some size) number h =
    let parts = or_parts (nat_le (2 ^ 64) (number + 1)) (nat_le (2 ^ 64) (number * size)) h in
    (not_above (2 ^ 64) (number + 1) parts.0, not_above (2 ^ 64) (number * size) parts.1)

-- no chunk is too large
pub not_large : (array : ArrayParts) →
    has_large_chunk (described_parts array).grid (fixed_size (kind (described_parts array))) ≡ false
not_large array =
    (or_parts (has_large_chunk (described_parts array).grid (fixed_size (kind (described_parts array)))) _ array.fits).0

-- each chunk's box ends within 64 bits, has elements, and has room
pub chunk_fits : (array : ArrayParts) (chunk : List ℕ) → IsChunk (described_parts array).grid chunk →
    is_box (starts ((described_parts array).grid.chunk_box chunk))
    (sizes ((described_parts array).grid.chunk_box chunk)) ≡ true
chunk_fits array chunk is_chunk = (small_chunk (described_parts array).grid (fixed_size (kind (described_parts array)))
    chunk (not_large array) is_chunk).0

pub chunk_some : (array : ArrayParts) (chunk : List ℕ) → IsChunk (described_parts array).grid chunk →
    0 < count ((described_parts array).grid.chunk_box chunk)
chunk_some array chunk is_chunk = (described_covers array).positive chunk is_chunk

-- the number of elements and their bytes
pub chunk_small : (array : ArrayParts) (chunk : List ℕ) → IsChunk (described_parts array).grid chunk → is_too_large
    (fixed_size (kind (described_parts array))) (count ((described_parts array).grid.chunk_box chunk)) ≡ false
chunk_small array chunk is_chunk = (small_chunk (described_parts array).grid (fixed_size (kind (described_parts array)))
    chunk (not_large array) is_chunk).1

pub chunk_counts : (array : ArrayParts) (chunk : List ℕ) → IsChunk (described_parts array).grid chunk →
    (count ((described_parts array).grid.chunk_box chunk) + 1 < 2 ^ 64) × (count ((described_parts array).grid.chunk_box
    chunk) * size_in (fixed_size (kind (described_parts array))) < 2 ^ 64)
chunk_counts array chunk is_chunk = counts_of (fixed_size (kind (described_parts array)))
    (count ((described_parts array).grid.chunk_box chunk)) (chunk_small array chunk is_chunk)

pub ruleset of_chunks = (chunk_fits, chunk_some, chunk_counts)

-- each chunk can be stored: where lengths are, its number of elements fits, and so does the fill
long_parts : (array : ArrayParts) → stores_lengths (plain_of array.chain.to_bytes) ≡ true →
    has_long_chunk (described_parts array).grid
    (innermost_fill (kind (described_parts array)) (fill_bytes array.fill)) ≡ false
long_parts array stores =
    ap (λ b. b && has_long_chunk (described_parts array).grid
    (innermost_fill (kind (described_parts array)) (fill_bytes array.fill))) (sym stores)
    ∙
    (or_parts (has_large_chunk (described_parts array).grid (fixed_size (kind (described_parts array)))) _ array.fits).1

pub chunk_short : (array : ArrayParts) (chunk : List ℕ) → IsChunk (described_parts array).grid chunk →
    stores_lengths (plain_of array.chain.to_bytes) ≡ true →
    (count ((described_parts array).grid.chunk_box chunk) < 2 ^ 32) ×
    (length (innermost_fill (kind (described_parts array)) (fill_bytes array.fill)) < 2 ^ 32)
chunk_short array chunk is_chunk stores =
    let filler = innermost_fill (kind (described_parts array)) (fill_bytes array.fill) in
    let parts = or_parts (nat_le (2 ^ 32) (count ((described_parts array).grid.chunk_box chunk))) (nat_le (2
    ^ 32) (length filler))
    (short_chunk (described_parts array).grid filler chunk (long_parts array stores) is_chunk) in (
      not_above (2 ^ 32) (count ((described_parts array).grid.chunk_box chunk)) parts.0,
      not_above (2 ^ 32) (length filler) parts.1,
    )

-- a region that is not refused lies inside, and has room
pub record IsAccepted (array : ArrayParts) (region : Region) : Type 0 where
  pub inside : ends_within region (described_parts array).shape ≡ true
  pub few : count region + 1 < 2 ^ 64
  pub room : count region * size_in (fixed_size (kind (described_parts array))) < 2 ^ 64

pub accepted : (array : ArrayParts) (region : Region) → region_refusal (described_parts array) region ≡ None →
    IsAccepted array region
accepted array region none =
    go (length region == length (described_parts array).shape) (ends_within region (described_parts array).shape)
    (is_too_large (fixed_size (kind (described_parts array))) (count region)) refl refl none
  where
    go : (same within large : Bool) → ends_within region (described_parts array).shape ≡ within →
        is_too_large (fixed_size (kind (described_parts array))) (count region) ≡ large →
        or_then (refused_if (not same) incompatible_dimensionality)
        (or_then (refused_if (not within) subset_out_of_bounds) (refused_if large region_too_large)) ≡ None →
        IsAccepted array region
    go false within large inside small e = cc
    go true false large inside small e = cc
    go true true true inside small e = cc
    go true true false inside small e =
        let room = counts_of (fixed_size (kind (described_parts array))) (count region) small in
        record { inside = inside; few = room.0; room = room.1 }
