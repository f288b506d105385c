-- The levels of an array's codecs for the chunks of a shape.
use Rattle.std.specs.Prelude.{◌≡◌, ℕ, List}
use Rattle.zarr_model.specs.Prelude.{sizes, count_of, Level, Options, Description, layout}
use Rattle.zarr_codecs.specs.Plain.{takes_by}
use Rattle.zarr_codecs.specs.Views.{plain_of}
use Rattle.zarr_array_open.specs.Chain.{BasicChain, chain_form}
use Rattle.zarr_array_open.specs.Codecs.{array_meaning, array_unserved, list_meaning, list_unserved, bytes_meaning}
use Rattle.zarr_array_open.specs.Parts.{described_parts}
use Rattle.zarr_array_open.specs.declared.parts.ArrayParts.{ArrayParts}
use Rattle.zarr_codec_chain.specs.Chain.{ServesChunks, first_level, bottom_level, decoded}
use Rattle.zarr_codec_chain.specs.declared.levels.ChunkLevels.{ChunkLevels}

-- the level of a shape
abbrev pub shape_level : Description → List ℕ → Level
shape_level description dims = record {
  shape = dims;
  data_type = description.data_type;
  fill = description.fill;
}

-- the shape of a chunk, and its level
abbrev pub chunk_shape : Description → List ℕ → List ℕ
chunk_shape description chunk = sizes (description.grid.chunk_box chunk)

abbrev pub chunk_level : Description → List ℕ → Level
chunk_level description chunk = shape_level description (chunk_shape description chunk)

-- a chain has an array's codecs, and levels are its own for the chunks of a shape
pub record ServesShape (array : ArrayParts) (dims : List ℕ) (chain : BasicChain)
    (levels : ChunkLevels) : Type 0 where
  pub forms : chain_form chain ≡ chain_form array.chain
  -- each codec serves its level, and the fill value denotes the fill and is not too long
  pub serves : ServesChunks array_meaning array_unserved list_unserved chain levels
  -- the first level is that of the shape, and each value decodes to it as a chunk of the array does
  pub level : first_level levels ≡ shape_level (described_parts array) dims
  pub values : (options : Options) (value : List ℕ)
      → decoded array_meaning list_meaning bytes_meaning chain levels options value
      ≡ (layout (described_parts array) options).decode dims value
  -- the array-to-bytes codec takes as many elements as such a chunk has
  pub takes : takes_by (plain_of chain.to_bytes) (count_of (bottom_level levels).shape)
