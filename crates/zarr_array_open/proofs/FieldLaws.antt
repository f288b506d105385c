-- Documents of either version, as they are read.
use Rattle.std.proofs.Common.{◌≡◌, Bool, true, false, if◌then◌else◌, Option, Some, None, Result, Ok, Err, refl, ap, ◌∙◌}
use Rattle.serde_json.specs.Data.{Data}
use Rattle.serde_json.specs.Written.{has_float}
use Rattle.zarrs_metadata_values.specs.Forms.{first}
use Rattle.zarrs_metadata_values.specs.Reading.{FailsReading, from_json, or_invalid}
use Rattle.zarrs_metadata_values.specs.declared.error.MetadataError.{MetadataError}
use Rattle.zarrs_metadata_values.specs.declared.error.MetadataError.TheVariants.{InvalidJson, FloatNumber}
use Rattle.zarrs_metadata_values.specs.declared.error.MetadataError.TheVariants.{InvalidMetadata, OutOfMemory}
use Rattle.zarrs_metadata.specs.ArrayMetadata.{ArrayFields}
use Rattle.zarrs_metadata.specs.AnyArray.{AnyArray, any_array_of}
use Rattle.zarr_array_open.specs.Opening.{unsupported_version, expect_version_3, fields_if, fields_read}
use Rattle.zarr_array_open.specs.OpenError.{open_refusal_of, unread_as}
use Rattle.zarr_array_open.specs.Parts.{StopsBy}

abbrev document_read : AnyArray → Result AnyArray MetadataError
document_read document = Ok document

same_document : (f g : AnyArray) → document_read f ≡ document_read g → f ≡ g
same_document f g e = cc

value_read : (float : Bool) (o : Option AnyArray) (document : AnyArray) →
    (if float then Err FloatNumber else or_invalid o) ≡ Ok document → fields_if float o ≡ expect_version_3 document
value_read true o document is = absurd cc
value_read false None document is = absurd cc
value_read false (Some f) document is = ap expect_version_3 (same_document f document is)

text_read : (o : Option Data) (document : AnyArray) → from_json any_array_of o ≡ Ok document →
    fields_read o ≡ expect_version_3 document
text_read None document is = absurd cc
text_read (Some d) document is = value_read (has_float d) (any_array_of d) document is

-- a document of version 3 is read, and one of version 2 refused
pub read_3 : (o : Option Data) (fields : ArrayFields) → from_json any_array_of o ≡ Ok (first fields) →
    fields_read o ≡ Ok fields
read_3 o fields is = text_read o (first fields) is

pub read_2 : (o : Option Data) (document : AnyArray) → from_json any_array_of o ≡ Ok document →
    expect_version_3 document ≡ Err unsupported_version → fields_read o ≡ Err unsupported_version
read_2 o document is of_2 = text_read o document is ∙ of_2

-- a document that was not read is refused by the same cause
value_not_read : (error : MetadataError) (float : Bool) (o : Option AnyArray) →
    FailsReading error (if float then Err FloatNumber else or_invalid o) →
    StopsBy (open_refusal_of (unread_as error)) (fields_if float o)
value_not_read OutOfMemory float o fails = tt
value_not_read InvalidJson true o fails = absurd cc
value_not_read InvalidJson false None fails = absurd cc
value_not_read InvalidJson false (Some f) fails = absurd cc
value_not_read FloatNumber true o fails = refl
value_not_read FloatNumber false None fails = absurd cc
value_not_read FloatNumber false (Some f) fails = absurd cc
value_not_read InvalidMetadata true o fails = absurd cc
value_not_read InvalidMetadata false None fails = refl
value_not_read InvalidMetadata false (Some f) fails = absurd cc

pub not_read : (error : MetadataError) (o : Option Data) → FailsReading error (from_json any_array_of o) →
    StopsBy (open_refusal_of (unread_as error)) (fields_read o)
not_read error (Some d) fails = value_not_read error (has_float d) (any_array_of d) fails
not_read OutOfMemory None fails = tt
not_read InvalidJson None fails = refl
not_read FloatNumber None fails = absurd cc
not_read InvalidMetadata None fails = absurd cc
