-- What an array document says, by the names of this project's grids, keys and codecs, and the array
-- that it describes.
use Rattle.std.specs.Prelude.{ℕ, List, map, unwrap_or}
use Rattle.zarr_model.specs.Prelude.{Element, null, DataType, kind_of, fill_element, KeyEncoding, chunk_key}
use Rattle.zarr_model.specs.Prelude.{decode_array_to_bytes, Description, finds_part}
use Rattle.zarr_codecs.specs.Plain.{Plain, codec_of}
use Rattle.zarr_basics.specs.GridForms.{ChunkGrid, grid_of}
use Rattle.zarr_basics.specs.kinds.array_to_array.ArrayToArray.{ArrayToArray, array_codec_of}
use Rattle.zarr_codecs.specs.BytesToBytes.{BytesToBytes, byte_codec_of}

-- the codecs of a chain, in the order of encoding
pub record ChainForm : Type 0 where
  pub array_codecs : List ArrayToArray
  pub to_bytes : Plain
  pub byte_codecs : List BytesToBytes

-- what a document says
pub record ArrayDocument : Type 0 where
  pub shape : List ℕ
  pub data_type : DataType
  pub fill : Element
  pub grid : ChunkGrid
  pub keys : KeyEncoding
  pub array_codecs : List ArrayToArray
  pub to_bytes : Plain
  pub byte_codecs : List BytesToBytes

-- the array that a document describes
abbrev pub describe : ArrayDocument → Description
describe document = record {
  shape = document.shape;
  data_type = document.data_type;
  fill = document.fill;
  grid = grid_of document.shape document.grid;
  key = chunk_key document.keys;
  chain = λ options. record {
    array_codecs = map array_codec_of document.array_codecs;
    to_elements = decode_array_to_bytes options (codec_of document.to_bytes);
    byte_codecs = map (byte_codec_of options) document.byte_codecs;
  };
  finds = λ options. finds_part (codec_of document.to_bytes);
}

-- the element that the bytes of a fill value denote, where they denote one
abbrev pub fill_in : DataType → List ℕ → Element
fill_in type filler = unwrap_or (fill_element (kind_of type) filler) null

-- the document of these parts, with the bytes of its fill value
abbrev pub document_with : KeyEncoding → ChainForm → DataType → List ℕ → ChunkGrid → List ℕ →
    ArrayDocument
document_with keys chain type dims grid filler = record {
  shape = dims;
  data_type = type;
  fill = fill_in type filler;
  grid = grid;
  keys = keys;
  array_codecs = chain.array_codecs;
  to_bytes = chain.to_bytes;
  byte_codecs = chain.byte_codecs;
}
