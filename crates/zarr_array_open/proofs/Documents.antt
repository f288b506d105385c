-- Documents, opened and refused, by computation.
use Rattle.std.proofs.Common.{◌≡◌, ℕ, true, false, List, [], ◌∷◌, ◌++◌, Option, Some, None, pos, negsuc, refl, codes}
use Rattle.std.specs.Bool.{⊤}
use Rattle.std.specs.Fmt.{digits}
use Rattle.serde_json.proofs.OnLiterals.{serde_json_on_literals}
use Rattle.zarr_model.specs.Prelude.{DataType, default_keys, v2_keys, bool_type, int_type, uint_type, string_type}
use Rattle.zarr_model.specs.Prelude.{bytes_type, optional_type}
use Rattle.zarrs_metadata_values.specs.Reading.{object_or_empty, whole_numbers, positive_number, is_number, is_text}
use Rattle.zarrs_metadata_parts.specs.DataTypeV2.{data_type_v2_of}
use Rattle.zarrs_metadata_parts.specs.MetadataV3.{object_extension, extension_of}
use Rattle.zarrs_metadata_parts.specs.AdditionalFields.{is_array_key}
use Rattle.zarrs_metadata_parts.specs.Fields.{is_kind}
use Rattle.zarrs_metadata.specs.ArrayMetadata.{extensions_or_none, named_fields, required_fields, optional_fields}
use Rattle.zarrs_metadata.specs.ArrayMetadata.{array_members}
use Rattle.zarrs_metadata_v2.specs.ArrayMetadataV2.{array_order_of, separator_of_text, required_v2, optional_v2}
use Rattle.zarrs_metadata_v2.specs.ArrayMetadataV2.{array_v2_members}
use Rattle.zarr_basics.specs.GridConfigurations.{chunk_shape_in}
use Rattle.zarr_basics.specs.GridForms.{regular}
use Rattle.zarr_basics.specs.Configurations.{given_separator}
use Rattle.zarr_basics.specs.kinds.to_bytes.BytesCodec.{given_order}
use Rattle.zarr_basics.specs.kinds.array_to_array.Offset.{offset_in}
use Rattle.zarr_basics.specs.kinds.array_to_array.Configuration.{order_in}
use Rattle.zarr_basics.specs.kinds.array_to_array.ArrayToArray.{ArrayToArray, offset, transpose}
use Rattle.zarr_codecs.specs.BytesToBytes.{BytesToBytes, checksum}
use Rattle.zarr_model.specs.declared.endianness.Endianness.{Endianness}
use Rattle.zarr_model.specs.declared.endianness.Endianness.TheVariants.{Little, Big}
use Rattle.zarr_codecs.specs.Plain.{Plain, plain_bytes, plain_vlen, plain_optional}
use Rattle.zarr_codecs.specs.Inner.{inner_in}
use Rattle.zarr_array_open.specs.Document.{ArrayDocument, ChainForm, document_with}
use Rattle.zarr_array_open.specs.Opening.{opened, not_opened, invalid_json, float_number, invalid_metadata}
use Rattle.zarr_array_open.specs.Opening.{unsupported_version, unsupported_field, plugin_unsupported, plugin_create}
use Rattle.zarr_array_open.specs.Opening.{invalid_fill, chain_order, unsupported_data_type, endianness_missing}
use Rattle.zarr_array_open.specs.Opening.{chunk_too_large, document_of, open_builtin}

-- what opening a text computes by
unfoldable pub opening : ⊤
unfolding serde_json_on_literals object_or_empty whole_numbers is_number is_text object_extension extension_of
    is_array_key extensions_or_none is_kind named_fields required_fields optional_fields array_members chunk_shape_in
    given_separator given_order offset_in order_in inner_in document_of
opening = tt

-- a document line of a shape, a chunk shape and a fill
abbrev pub document_text : List ℕ → List ℕ → List ℕ → List ℕ
document_text dims chunk_shape filler =
    codes "{\"zarr_format\":3,\"node_type\":\"array\",\"shape\":" ++ (dims ++ (codes
    ",\"data_type\":\"uint8\",\"chunk_grid\":{\"name\":\"regular\",\"configuration\":{\"chunk_shape\":" ++ (chunk_shape
    ++
    (codes "}},\"chunk_key_encoding\":\"default\",\"fill_value\":" ++ (filler ++ codes ",\"codecs\":[\"bytes\"]}")))))

-- the codec `bytes` alone
abbrev pub only_bytes : Option Endianness → ChainForm
only_bytes order = record { array_codecs = []; to_bytes = plain_bytes order; byte_codecs = [] }

-- what such a line describes: keys with slashes
abbrev pub plain_document : List ℕ → List ℕ → ℕ → ArrayDocument
plain_document dims chunk_shape filler =
    document_with (default_keys 47) (only_bytes None) (uint_type 1) dims (regular chunk_shape) (filler ∷ [])

pub square_opens : open_builtin (document_text (codes "[4,4]") (codes "[2,2]") (codes "0")) ≡
    opened (plain_document (4 ∷ 4 ∷ []) (2 ∷ 2 ∷ []) 0)
unfolding opening
square_opens = refl

pub line_opens : open_builtin (document_text (codes "[5]") (codes "[2]") (codes "0")) ≡
    opened (plain_document (5 ∷ []) (2 ∷ []) 0)
unfolding opening
line_opens = refl

-- at rank 0 and with a length 0
limits_open : (open_builtin (document_text (codes "[]") (codes "[]") (codes "255")) ≡ opened (plain_document [] [] 255))
    × (open_builtin (document_text (codes "[0,65535]") (codes "[65535,1]") (codes "7")) ≡
    opened (plain_document (0 ∷ 65535 ∷ []) (65535 ∷ 1 ∷ []) 7))
unfolding opening
limits_open = (refl, refl)

-- a third dimension and a long one
large_open : (open_builtin (document_text (codes "[1,1,1]") (codes "[1,1,1]") (codes "0")) ≡
    opened (plain_document (1 ∷ 1 ∷ 1 ∷ []) (1 ∷ 1 ∷ 1 ∷ []) 0))
    × (open_builtin (document_text (codes "[65536]") (codes "[32768]") (codes "0")) ≡
    opened (plain_document (65536 ∷ []) (32768 ∷ []) 0))
unfolding opening
large_open = (refl, refl)

-- a chunk length 0, a chunk shape of another rank; fills that are no byte; a float, which comes first
parts_refused : (open_builtin (document_text (codes "[4]") (codes "[0]") (codes "0")) ≡ not_opened plugin_create)
    × (open_builtin (document_text (codes "[4]") (codes "[2,2]") (codes "0")) ≡ not_opened plugin_create)
    × (open_builtin (document_text (codes "[4]") (codes "[2]") (codes "256")) ≡ not_opened invalid_fill)
    × (open_builtin (document_text (codes "[4]") (codes "[2]") (codes "-1")) ≡ not_opened invalid_fill)
    × (open_builtin (document_text (codes "[4]") (codes "[0]") (codes "1.0")) ≡ not_opened float_number)
unfolding opening
parts_refused = (refl, refl, refl, refl, refl)

-- no JSON, JSON of another form, a field more that need not or has to be understood, and a key that stands twice, of
-- which the last counts
forms_of_text : (open_builtin [] ≡ not_opened invalid_json) × (open_builtin (codes "[]") ≡ not_opened invalid_metadata)
    × (open_builtin (document_text (codes "[4]") (codes "[2]") (codes "0,\"attributes\":{}")) ≡
    opened (plain_document (4 ∷ []) (2 ∷ []) 0))
    × (open_builtin (document_text (codes "[4]") (codes "[2]") (codes "0,\"x\":{\"must_understand\":false}")) ≡
    opened (plain_document (4 ∷ []) (2 ∷ []) 0))
    × (open_builtin (document_text (codes "[4]") (codes "[2]") (codes "0,\"x\":1")) ≡ not_opened unsupported_field)
    × (open_builtin (document_text (codes "[4]") (codes "[2]") (codes "0,\"fill_value\":9")) ≡
    opened (plain_document (4 ∷ []) (2 ∷ []) 9))
unfolding opening
forms_of_text = (refl, refl, refl, refl, refl, refl)

-- a document of four elements with these keys and codecs
abbrev chain_text : List ℕ → List ℕ → List ℕ
chain_text keys codecs =
    codes
    "{\"zarr_format\":3,\"node_type\":\"array\",\"shape\":[4],\"data_type\":\"uint8\",\"chunk_grid\":{\"name\":\"regular\",\"configuration\":{\"chunk_shape\":[2]}},\"chunk_key_encoding\":"
    ++ (keys ++ (codes ",\"fill_value\":0,\"codecs\":" ++ (codecs ++ codes "}")))

-- keys with dots, a byte order, an unknown name before a bad configuration, and the order of a chain after all names
chains : (open_builtin (chain_text (codes "{\"name\":\"default\",\"configuration\":{\"separator\":\".\"}}")
    (codes "[{\"name\":\"bytes\",\"configuration\":{\"endian\":\"big\"}}]"))
    ≡
    opened (document_with (default_keys 46) (only_bytes (Some Big)) (uint_type 1) (4 ∷ []) (regular (2 ∷ [])) (0 ∷ [])))
    × (open_builtin (chain_text (codes "\"v2\"") (codes "[\"bytes\"]")) ≡
    opened (document_with (v2_keys 46) (only_bytes None) (uint_type 1) (4 ∷ []) (regular (2 ∷ [])) (0 ∷ [])))
    × (open_builtin (chain_text (codes "\"v3\"") (codes "[]")) ≡ not_opened plugin_unsupported)
    × (open_builtin (chain_text (codes "\"default\"") (codes "[{\"name\":\"zstd\",\"configuration\":{\"x\":1}}]")) ≡
    not_opened plugin_unsupported)
    × (open_builtin (chain_text (codes "\"default\"")
    (codes "[{\"name\":\"bytes\",\"configuration\":{\"x\":1}},\"zstd\"]")) ≡ not_opened plugin_create)
    × (open_builtin (chain_text (codes "\"default\"") (codes "[\"bytes\",\"bytes\"]")) ≡ not_opened chain_order)
unfolding opening
chains = (refl, refl, refl, refl, refl, refl)

-- a document of four elements of a type with this fill and these codecs
abbrev codecs_text : List ℕ → List ℕ → List ℕ → List ℕ
codecs_text type filler codecs =
    codes "{\"zarr_format\":3,\"node_type\":\"array\",\"shape\":[4],\"data_type\":" ++ (type ++ (codes
    ",\"chunk_grid\":{\"name\":\"regular\",\"configuration\":{\"chunk_shape\":[2]}},\"chunk_key_encoding\":\"default\",\"fill_value\":"
    ++ (filler ++ (codes ",\"codecs\":" ++ (codecs ++ codes "}")))))

-- and what it describes
abbrev codecs_document : DataType → List ℕ → List ArrayToArray → Option Endianness → List BytesToBytes → ArrayDocument
codecs_document type filler array_codecs order byte_codecs =
    document_with (default_keys 47)
    (record { array_codecs = array_codecs; to_bytes = plain_bytes order; byte_codecs = byte_codecs }) type
    (4 ∷ []) (regular (2 ∷ [])) filler

-- three offsets; two digests; an offset, an order of bytes and a digest
longer_chains : (open_builtin (codecs_text (codes "\"uint8\"") (codes "0")
    (codes
    "[{\"name\":\"zarr_basics.offset\",\"configuration\":{\"offset\":250}},{\"name\":\"zarr_basics.offset\",\"configuration\":{\"offset\":-1}},{\"name\":\"zarr_basics.offset\",\"configuration\":{\"offset\":3}},\"bytes\"]"))
    ≡ opened (codecs_document (uint_type 1) (0 ∷ []) (offset (pos 250) ∷ offset (negsuc 0) ∷ offset (pos 3) ∷ []) None
    []))
    × (open_builtin (codecs_text (codes "\"bool\"") (codes "true")
    (codes "[\"bytes\",\"zarr_basics.sha256\",{\"name\":\"zarr_basics.sha256\",\"configuration\":{}}]"))
    ≡ opened (codecs_document bool_type (1 ∷ []) [] None (checksum ∷ checksum ∷ [])))
    × (open_builtin (codecs_text (codes "\"int16\"") (codes "-2") (codes
    "[{\"name\":\"zarr_basics.offset\",\"configuration\":{\"offset\":7}},{\"name\":\"bytes\",\"configuration\":{\"endian\":\"little\"}},\"zarr_basics.sha256\"]"))
    ≡ opened (codecs_document (int_type 2) (254 ∷ 255 ∷ []) (offset (pos 7) ∷ []) (Some Little) (checksum ∷ [])))
unfolding opening
longer_chains = (refl, refl, refl)

abbrev offset_text : List ℕ
offset_text = codes "{\"name\":\"zarr_basics.offset\",\"configuration\":{\"offset\":7}}"

-- a digest before `bytes`; no array-to-bytes codec, before and without a digest; two of them; an offset behind `bytes`;
-- an unknown name behind all, and a fill that is no byte, which come first
orders_refused : (open_builtin (codecs_text (codes "\"uint8\"") (codes "0")
    (codes "[\"zarr_basics.sha256\",\"bytes\"]")) ≡ not_opened chain_order)
    × (open_builtin (codecs_text (codes "\"uint8\"") (codes "0")
    (codes "[" ++ (offset_text ++ codes ",\"zarr_basics.sha256\"]"))) ≡ not_opened chain_order)
    × (open_builtin (codecs_text (codes "\"uint8\"") (codes "0") (codes "[" ++ (offset_text ++ codes "]"))) ≡
    not_opened chain_order)
    × (open_builtin (codecs_text (codes "\"uint8\"") (codes "0") (codes "[]")) ≡ not_opened chain_order)
    × (open_builtin (codecs_text (codes "\"uint8\"") (codes "0")
    (codes "[\"bytes\",\"zarr_basics.sha256\",\"bytes\"]")) ≡ not_opened chain_order)
    × (open_builtin (codecs_text (codes "\"uint8\"") (codes "0") (codes "[\"bytes\"," ++ (offset_text ++ codes "]"))) ≡
    not_opened chain_order)
    × (open_builtin (codecs_text (codes "\"uint8\"") (codes "0")
    (codes "[\"zarr_basics.sha256\",\"bytes\",\"zstd\"]")) ≡ not_opened plugin_unsupported)
    × (open_builtin (codecs_text (codes "\"uint8\"") (codes "256") (codes "[\"zarr_basics.sha256\",\"bytes\"]")) ≡
    not_opened invalid_fill)
unfolding opening
orders_refused = (refl, refl, refl, refl, refl, refl, refl, refl)

-- an offset on booleans and on raw bits, and texts under `bytes`; `bytes` without an order of bytes, also under an
-- offset; an offset without a number, and a digest with a configuration
codecs_refused : (open_builtin (codecs_text (codes "\"bool\"") (codes "true")
    (codes "[" ++ (offset_text ++ codes ",\"bytes\"]"))) ≡ not_opened unsupported_data_type)
    × (open_builtin (codecs_text (codes "\"r16\"") (codes "[0,1]")
    (codes "[" ++ (offset_text ++ codes ",\"bytes\"]"))) ≡ not_opened unsupported_data_type)
    × (open_builtin (codecs_text (codes "\"string\"") (codes "\"\"") (codes "[\"bytes\"]")) ≡
    not_opened unsupported_data_type)
    × (open_builtin (codecs_text (codes "\"int16\"") (codes "0") (codes "[\"bytes\"]")) ≡ not_opened endianness_missing)
    × (open_builtin (codecs_text (codes "\"int16\"") (codes "0") (codes "[" ++ (offset_text ++ codes ",\"bytes\"]"))) ≡
    not_opened endianness_missing)
    × (open_builtin (codecs_text (codes "\"uint8\"") (codes "0") (codes "[\"zarr_basics.offset\",\"bytes\"]")) ≡
    not_opened plugin_create)
    × (open_builtin (codecs_text (codes "\"uint8\"") (codes "0")
    (codes "[\"bytes\",{\"name\":\"zarr_basics.sha256\",\"configuration\":{\"x\":1}}]")) ≡ not_opened plugin_create)
unfolding opening digits
codecs_refused = (refl, refl, refl, refl, refl, refl, refl)

-- an order of dimensions; a document of these lengths, each a chunk's too, with these codecs; and what it describes
abbrev order_text : List ℕ → List ℕ
order_text order = codes "{\"name\":\"transpose\",\"configuration\":{\"order\":" ++ (order ++ codes "}}")

abbrev ordered_text : List ℕ → List ℕ → List ℕ
ordered_text dims codecs =
    codes "{\"zarr_format\":3,\"node_type\":\"array\",\"shape\":" ++ (dims ++
    (codes ",\"data_type\":\"uint8\",\"chunk_grid\":{\"name\":\"regular\",\"configuration\":{\"chunk_shape\":" ++ (dims
    ++ (codes "}},\"chunk_key_encoding\":\"default\",\"fill_value\":0,\"codecs\":[" ++ (codecs ++ codes "]}")))))

abbrev ordered_document : List ℕ → List ArrayToArray → ArrayDocument
ordered_document dims array_codecs =
    document_with (default_keys 47)
    (record { array_codecs = array_codecs; to_bytes = plain_bytes None; byte_codecs = [] }) (uint_type 1) dims
    (regular dims) (0 ∷ [])

-- the one order of no dimensions, and two dimensions exchanged; over an offset; two orders
orders_open : (open_builtin (ordered_text (codes "[]") (order_text (codes "[]") ++ codes ",\"bytes\"")) ≡
    opened (ordered_document [] (transpose [] ∷ [])))
    × (open_builtin (ordered_text (codes "[2,3]") (order_text (codes "[1,0]") ++ codes ",\"bytes\"")) ≡
    opened (ordered_document (2 ∷ 3 ∷ []) (transpose (1 ∷ 0 ∷ []) ∷ [])))
    × (open_builtin (ordered_text (codes "[2,3]") (order_text (codes "[1,0]") ++ (codes "," ++ (offset_text
    ++ codes ",\"bytes\"")))) ≡ opened (ordered_document (2 ∷ 3 ∷ []) (transpose (1 ∷ 0 ∷ []) ∷ offset (pos 7) ∷ [])))
    × (open_builtin (ordered_text (codes "[2,3]")
    (order_text (codes "[1,0]") ++ (codes "," ++ (order_text (codes "[0,1]") ++ codes ",\"bytes\"")))) ≡
    opened (ordered_document (2 ∷ 3 ∷ []) (transpose (1 ∷ 0 ∷ []) ∷ transpose (0 ∷ 1 ∷ []) ∷ [])))
unfolding opening
orders_open = (refl, refl, refl, refl)

-- a dimension twice, one that is none, an order of another rank, one that is no list of numbers, and none; the rank
-- before the next codec's name, behind that of the codec before, and before the order of the chain
order_refused : (open_builtin (ordered_text (codes "[2,3]") (order_text (codes "[0,0]") ++ codes ",\"bytes\"")) ≡
    not_opened plugin_create)
    × (open_builtin (ordered_text (codes "[2,3]") (order_text (codes "[0,2]") ++ codes ",\"bytes\"")) ≡
    not_opened plugin_create)
    × (open_builtin (ordered_text (codes "[2,3]") (order_text (codes "[0]") ++ codes ",\"bytes\"")) ≡
    not_opened plugin_create)
    × (open_builtin (ordered_text (codes "[2,3]") (order_text (codes "\"C\"") ++ codes ",\"bytes\"")) ≡
    not_opened plugin_create)
    × (open_builtin (ordered_text (codes "[2,3]") (codes "\"transpose\",\"bytes\"")) ≡ not_opened plugin_create)
    × (open_builtin (ordered_text (codes "[2,3]") (order_text (codes "[0]") ++ codes ",\"zstd\"")) ≡
    not_opened plugin_create)
    × (open_builtin (ordered_text (codes "[2,3]") (codes "\"zstd\"," ++ order_text (codes "[0]"))) ≡
    not_opened plugin_unsupported)
    × (open_builtin (ordered_text (codes "[2,3]") (codes "\"bytes\",\"bytes\"," ++ order_text (codes "[0]"))) ≡
    not_opened plugin_create)
unfolding opening
order_refused = (refl, refl, refl, refl, refl, refl, refl, refl)

-- a document of texts, byte strings or optional elements, with its array-to-bytes codec
abbrev variable_document : DataType → List ℕ → Plain → ArrayDocument
variable_document type filler codec =
    document_with (default_keys 47) (record { array_codecs = []; to_bytes = codec; byte_codecs = [] }) type
    (4 ∷ []) (regular (2 ∷ [])) filler

abbrev optional_text : List ℕ → List ℕ
optional_text inner = codes "{\"name\":\"zarr_basics.optional\",\"configuration\":{\"inner\":" ++ (inner ++ codes "}}")

abbrev optional_type_text : List ℕ → List ℕ
optional_type_text inner =
    codes "{\"name\":\"zarrs.optional\",\"configuration\":{\"configuration\":{},\"name\":\"" ++ (inner ++ codes "\"}}")

-- texts, byte strings, optional texts that are null, and optional numbers that are not
variable_open : (open_builtin (codecs_text (codes "\"string\"") (codes "\"ab\"") (codes "[\"vlen-utf8\"]")) ≡
    opened (variable_document string_type (97 ∷ 98 ∷ []) (plain_vlen true)))
    × (open_builtin (codecs_text (codes "\"bytes\"") (codes "[7]") (codes "[\"vlen-bytes\"]")) ≡
    opened (variable_document bytes_type (7 ∷ []) (plain_vlen false)))
    × (open_builtin (codecs_text (optional_type_text (codes "string")) (codes "null")
    (codes "[" ++ (optional_text (codes "\"vlen-utf8\"") ++ codes "]"))) ≡
    opened (variable_document (optional_type string_type) (0 ∷ []) (plain_optional (plain_vlen true))))
    × (open_builtin (codecs_text (optional_type_text (codes "int16")) (codes "[3]")
    (codes "[" ++ (optional_text (codes "{\"name\":\"bytes\",\"configuration\":{\"endian\":\"big\"}}") ++ codes "]")))
    ≡
    opened (variable_document (optional_type (int_type 2)) (3 ∷ 0 ∷ 1 ∷ []) (plain_optional (plain_bytes (Some Big)))))
unfolding opening
variable_open = (refl, refl, refl, refl)

-- texts under the codec of byte strings, and byte strings under that of texts; optional texts without a mask, and texts
-- with one; optional numbers without an order of bytes
types_refused : (open_builtin (codecs_text (codes "\"string\"") (codes "\"\"") (codes "[\"vlen-bytes\"]")) ≡
    not_opened unsupported_data_type)
    × (open_builtin (codecs_text (codes "\"bytes\"") (codes "\"\"") (codes "[\"vlen-utf8\"]")) ≡
    not_opened unsupported_data_type)
    × (open_builtin (codecs_text (optional_type_text (codes "string")) (codes "null") (codes "[\"vlen-utf8\"]")) ≡
    not_opened unsupported_data_type)
    × (open_builtin (codecs_text (codes "\"string\"") (codes "\"\"")
    (codes "[" ++ (optional_text (codes "\"vlen-utf8\"") ++ codes "]"))) ≡ not_opened unsupported_data_type)
    × (open_builtin (codecs_text (optional_type_text (codes "int16")) (codes "null")
    (codes "[" ++ (optional_text (codes "\"bytes\"") ++ codes "]"))) ≡ not_opened endianness_missing)
unfolding opening
types_refused = (refl, refl, refl, refl, refl)

-- an unknown codec inside, also behind a codec that is no array-to-bytes one; a codec inside with a bad configuration;
-- one that is no array-to-bytes codec; no codec inside, and something beside it
inner_refused : (open_builtin (codecs_text (codes "\"uint8\"") (codes "0")
    (codes "[" ++ (optional_text (codes "\"zstd\"") ++ codes "]"))) ≡ not_opened plugin_unsupported)
    × (open_builtin (codecs_text (codes "\"uint8\"") (codes "0")
    (codes "[" ++ (optional_text (optional_text (codes "\"zstd\"")) ++ codes "]"))) ≡ not_opened plugin_unsupported)
    × (open_builtin (codecs_text (codes "\"uint8\"") (codes "0") (codes "[" ++ (optional_text
    (codes "{\"name\":\"bytes\",\"configuration\":{\"x\":1}}") ++ codes "]"))) ≡ not_opened plugin_create)
    × (open_builtin (codecs_text (codes "\"uint8\"") (codes "0")
    (codes "[" ++ (optional_text (codes "\"zarr_basics.sha256\"") ++ codes "]"))) ≡ not_opened plugin_create)
    × (open_builtin (codecs_text (codes "\"uint8\"") (codes "0") (codes "[\"zarr_basics.optional\"]")) ≡
    not_opened plugin_create)
    × (open_builtin (codecs_text (codes "\"uint8\"") (codes "0")
    (codes "[{\"name\":\"zarr_basics.optional\",\"configuration\":{\"inner\":\"bytes\",\"x\":1}}]")) ≡
    not_opened plugin_create)
    × (open_builtin (codecs_text (codes "\"string\"") (codes "\"\"")
    (codes "[{\"name\":\"vlen-utf8\",\"configuration\":{\"x\":1}}]")) ≡ not_opened plugin_create)
unfolding opening
inner_refused = (refl, refl, refl, refl, refl, refl, refl)

-- a chunk of texts whose number does not fit 4 bytes, and one whose number does
abbrev long_text : List ℕ → List ℕ
long_text chunk_shape =
    codes
    "{\"zarr_format\":3,\"node_type\":\"array\",\"shape\":[1],\"data_type\":\"string\",\"chunk_grid\":{\"name\":\"regular\",\"configuration\":{\"chunk_shape\":"
    ++ (chunk_shape ++ codes "}},\"chunk_key_encoding\":\"default\",\"fill_value\":\"\",\"codecs\":[\"vlen-utf8\"]}")

long_refused : (open_builtin (long_text (codes "[4294967296]")) ≡ not_opened chunk_too_large)
    × (open_builtin (long_text (codes "[4294967295]"))
    ≡
    opened (document_with (default_keys 47) (record { array_codecs = []; to_bytes = plain_vlen true; byte_codecs = [] })
    string_type (1 ∷ []) (regular (4294967295 ∷ [])) []))
unfolding opening
long_refused = (refl, refl)

-- what a document of version 2 computes by
unfoldable pub opening_2 : ⊤
unfolding opening data_type_v2_of array_order_of separator_of_text positive_number required_v2 optional_v2
    array_v2_members
opening_2 = tt

-- a document line of version 2 with these chunk lengths, fields behind them and fill
abbrev pub version_2_text : List ℕ → List ℕ → List ℕ → List ℕ
version_2_text chunk_shape fields filler =
    codes "{\"zarr_format\":2,\"shape\":[4],\"chunks\":" ++ (chunk_shape ++ (fields
    ++ (codes ",\"compressor\":null,\"fill_value\":" ++ (filler ++ codes ",\"order\":\"C\",\"filters\":null}"))))

-- an array of version 2; one that lacks its data type, one with a chunk length 0, and a group, which are none; a float,
-- which comes first
version_2_refused : (open_builtin (version_2_text (codes "[2]") (codes ",\"dtype\":\"|u1\"") (codes "0")) ≡
    not_opened unsupported_version)
    × (open_builtin (version_2_text (codes "[2]") [] (codes "0")) ≡ not_opened invalid_metadata)
    ×
    (open_builtin (version_2_text (codes "[0]") (codes ",\"dtype\":\"|u1\"") (codes "0")) ≡ not_opened invalid_metadata)
    × (open_builtin (codes "{\"zarr_format\":2}") ≡ not_opened invalid_metadata)
    × (open_builtin (version_2_text (codes "[2]") (codes ",\"dtype\":\"|u1\"") (codes "0.5")) ≡ not_opened float_number)
unfolding opening_2
version_2_refused = (refl, refl, refl, refl, refl)
