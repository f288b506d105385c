-- What is written, read again.
use Rattle.std.proofs.Common.{◌≡◌, ℕ, List, [], ◌∷◌, map, Option, Some, None, codes, refl}
use Rattle.serde_json.specs.Data.{string}
use Rattle.serde_json.specs.Find.{get_member}
use Rattle.serde_json.specs.View.{items_of}
use Rattle.serde_json.proofs.Views.{get_member-put}
use Rattle.zarrs_metadata_values.specs.Reading.{each}
use Rattle.zarrs_metadata_values.proofs.NumberLists.{numbers_read_back}
use Rattle.zarrs_metadata_values.proofs.PutLemmas.{without-put}
use Rattle.zarrs_metadata_parts.specs.MetadataV2.{CodecV2, codec_v2_of, codec_v2_members, codec_v2_data}
use Rattle.zarrs_metadata_parts.specs.DataTypeV2.{FieldV2, DataTypeV2, simple, structured, field_v2_of, named_field}
use Rattle.zarrs_metadata_parts.specs.DataTypeV2.{data_type_v2_of, field_v2_data, data_type_v2_data}

pub codec_v2_reads_back : (c : CodecV2) → get_member (codes "id") c.configuration ≡ None →
    codec_v2_of (codec_v2_data c) ≡ Some c
unfolding codec_v2_members
codec_v2_reads_back c h = rw (get_member-put, without-put (codes "id") (string c.id) c.configuration h)

field_v2_back : (fieldname datatype : List ℕ) (shape : Option (List ℕ))
    → field_v2_of (field_v2_data (record { fieldname = fieldname; datatype = datatype; shape = shape })) ≡
    Some (record { fieldname = fieldname; datatype = datatype; shape = shape })
unfolding field_v2_of named_field
field_v2_back fieldname datatype None = refl
field_v2_back fieldname datatype (Some ns) = rw (numbers_read_back ns)

fields_v2_back : (fs : List FieldV2) → each field_v2_of (items_of (map field_v2_data fs)) ≡ Some fs
fields_v2_back [] = refl
fields_v2_back (f ∷ fs) = rw (field_v2_back f.fieldname f.datatype f.shape, fields_v2_back fs)

pub data_type_v2_reads_back : (t : DataTypeV2) → data_type_v2_of (data_type_v2_data t) ≡ Some t
unfolding data_type_v2_of
data_type_v2_reads_back (simple s) = refl
data_type_v2_reads_back (structured fs) = rw (fields_v2_back fs)
