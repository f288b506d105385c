-- The document of the array that the commands are for.
use Rattle.std.specs.Prelude.{List, ℕ, [], ◌∷◌, ◌++◌, codes, Some}
use Rattle.zarr_model.specs.Prelude.{default_keys, uint_type}
use Rattle.zarr_model.specs.declared.endianness.Endianness.TheVariants.{Big}
use Rattle.zarr_basics.specs.GridForms.{regular}
use Rattle.zarr_array.specs.parts.kinds.Plain.{plain_bytes}
use Rattle.zarr_array.specs.parts.Document.{ArrayDocument, document_with}
use Rattle.zarr_array.specs.parts.kinds.BytesToBytes.{checksum}

-- its text
abbrev pub document_text : List ℕ
document_text =
    codes "{\"zarr_format\":3,\"node_type\":\"array\",\"shape\":[256,256],"
    ++ (codes "\"data_type\":\"uint16\",\"chunk_grid\":{\"name\":\"regular\","
    ++ (codes "\"configuration\":{\"chunk_shape\":[48,40]}},"
    ++ (codes "\"chunk_key_encoding\":\"default\",\"fill_value\":7,\"codecs\":["
    ++ (codes "{\"name\":\"bytes\",\"configuration\":{\"endian\":\"big\"}},"
    ++ codes "\"zarr_basics.sha256\"]}"))))

-- what it describes: 256 rows and columns of two bytes in chunks of 48 rows and 40 columns, fill 7,
-- keys with slashes, high byte first in the store, and a digest behind each chunk
abbrev pub made_document : ArrayDocument
made_document = document_with (default_keys 47)
    (record { array_codecs = []; to_bytes = plain_bytes (Some Big); byte_codecs = checksum ∷ [] })
    (uint_type 2) (256 ∷ 256 ∷ []) (regular (48 ∷ 40 ∷ [])) (7 ∷ 0 ∷ [])
