-- A sharded array as those see it who read and write it chunk by chunk.
use Rattle.std.specs.Prelude.{◌≡◌, ⊤, ℕ, true, List, Some, None}
use Rattle.std.proofs.Common.{ap, subst}
use Rattle.zarr_model.specs.Prelude.{whole, Grid, CoversShape}
use Rattle.zarr_basics.proofs.KeysApart.{keys_differ}
use Rattle.zarr_basics.specs.BasicGrid.{basic_shape, basic_grid, basic_covers}
use Rattle.zarr_basics.specs.GridForms.{grid_of}
use Rattle.zarr_array_open.proofs.DocumentLaws.{countable_is}
use Rattle.zarr_array_open.specs.Document.{describe}
use Rattle.zarr_array_open.specs.Sizes.{are_countable}
use Rattle.zarr_array_open.specs.ShardDocument.{ShardDocument}
use Rattle.zarr_shard_codec.specs.Region.{shard_asks, shard_taken}
use Rattle.zarr_shard_codec.specs.ReadRegion.{region_says}
use Rattle.zarr_shard_codec.specs.ShardCodec.{inner_of}
use Rattle.zarr_shard_codec.specs.declared.shard_codec.ShardCodec.{ShardCodec}
use Rattle.zarr_shard_codec.specs.Counted.{shard_counted}
use Rattle.zarr_array.specs.Access.{Access, PartCost, Says, by_part, IsServed}
use Rattle.zarr_shard.specs.ShardArray.{inner_document, inner_meaning, document_inner_form, documented_shards}
use Rattle.zarr_shard.specs.ShardArray.{described_shards}
use Rattle.zarr_shard.specs.declared.array.ShardArray.{ShardArray}

-- what a box of a chunk costs: a call for the index, and one for each inner chunk that the box
-- meets and that is there, and their bytes
abbrev pub shard_cost : ShardDocument → PartCost
shard_cost document under chunk within value = let grid =
    (describe (inner_document document)).grid in
    record {
      asks = shard_asks document.checked under.validate_checksums grid within value;
      taken = shard_taken document.checked under.validate_checksums grid within value;
    }

-- which errors tell that the value of a chunk, of which all was asked for or a part, does not
-- decode: those of reading it by its index
abbrev pub shard_chunk_says : ShardCodec → Says
shard_chunk_says codec under chunk None value e =
    region_says codec under (whole (inner_of codec).shape) value e
shard_chunk_says codec under chunk (Some within) value e = region_says codec under within value e

abbrev pub shard_access : ShardArray → Access
shard_access array = record {
  description = described_shards array;
  says = shard_chunk_says array.codec;
  costs = by_part (shard_cost (documented_shards array));
}

-- nothing serves for the chunks of one shape but the codec
abbrev pub serves_all : ShardArray → List ℕ → ⊤ → Type 0
serves_all array chunk levels = Unit {0}

-- the grid is that of the chunk shape
grid_is : (array : ShardArray) → basic_grid array.grid ≡ (described_shards array).grid
grid_is array = ap (grid_of (basic_shape array.grid)) array.form

-- its chunks cover it, have keys of their own and decode to their lists, and none is too large
pub shard_served : (array : ShardArray) → IsServed (shard_access array).description
shard_served array = record {
  covers = subst (CoversShape (basic_shape array.grid)) (grid_is array) (basic_covers array.grid);
  sound = λ options. record {
    count = λ chunk value elements is_chunk e. shard_counted
        (document_inner_form (documented_shards array))
        options.validate_checksums (inner_meaning (documented_shards array) options) _ value
        elements e;
    keys_apart = λ chunk other. keys_differ array.codec.shard.inner.keys
        (described_shards array).grid chunk
        other (countable_is (described_shards array).grid.grid_shape
        (subst (λ (grid : Grid). are_countable grid.grid_shape ≡ true) (grid_is array)
        array.countable));
  };
  small = array.small;
}
