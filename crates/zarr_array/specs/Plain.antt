-- A plain array as those see it who read and write it chunk by chunk.
use Rattle.std.specs.Prelude.{◌==◌, ◌&&◌, Bool, length, ℕ, List}
use Rattle.std.proofs.lemmas.Bool.{or_parts}
use Rattle.zarr_model.specs.Prelude.{kind, fixed_size}
use Rattle.zarr_basics.proofs.KeysApart.{keys_differ}
use Rattle.zarr_basics.specs.BasicGrid.{basic_covers}
use Rattle.zarr_basics.specs.Limits.{has_large_chunk}
use Rattle.zarr_array_open.proofs.DocumentLaws.{countable_is, describe-sound}
use Rattle.zarr_codecs.specs.Plain.{is_bytes}
use Rattle.zarr_codec_chain.specs.declared.levels.ChunkLevels.{ChunkLevels}
use Rattle.zarr_array_open.specs.ChunkLevels.{chunk_shape, ServesShape}
use Rattle.zarr_array_open.specs.Document.{ArrayDocument, describe}
use Rattle.zarr_array_open.specs.Parts.{documented_parts, described_parts}
use Rattle.zarr_array_open.specs.declared.parts.ArrayParts.{ArrayParts}
use Rattle.zarr_array.specs.Access.{Access, IsServed, by_chunk}
use Rattle.zarr_array.specs.Told.{value_says}

-- whether a document's chain is the codec `bytes` alone
abbrev pub is_bytes_alone : ArrayDocument → Bool
is_bytes_alone document = length document.array_codecs == 0
    && (is_bytes document.to_bytes && length document.byte_codecs == 0)

-- one call fetches a chunk, and takes exactly what is needed where `bytes` is all of the chain
abbrev pub plain_access : ArrayParts → Access
plain_access array = record {
  description = describe (documented_parts array);
  says = value_says (documented_parts array);
  costs = by_chunk (is_bytes_alone (documented_parts array));
}

-- its chunks cover it, have keys of their own and decode to their lists, and none is too large
pub plain_served : (array : ArrayParts) → IsServed (plain_access array).description
plain_served array = record {
  covers = basic_covers array.grid;
  sound = λ options. describe-sound (documented_parts array) options (λ chunk other.
      keys_differ array.keys (described_parts array).grid chunk other
      (countable_is (described_parts array).grid.grid_shape array.countable));
  small = (or_parts (has_large_chunk (described_parts array).grid
      (fixed_size (kind (described_parts array)))) _
      array.fits).0;
}

-- levels are those of the array's codecs for a chunk
abbrev pub AreLevelsAt : ArrayParts → List ℕ → ChunkLevels → Type 0
AreLevelsAt array chunk levels =
    ServesShape array (chunk_shape (described_parts array) chunk) array.chain levels
