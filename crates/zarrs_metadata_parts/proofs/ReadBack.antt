-- What is written, read again.
use Rattle.std.proofs.Common.{◌≡◌, Bool, List, map, Some, None, codes, refl}
use Rattle.serde_json.specs.Data.{Data, null, boolean, number, string, array, object}
use Rattle.serde_json.specs.Find.{get}
use Rattle.serde_json.specs.View.{items_of}
use Rattle.serde_json.proofs.Views.{get_member-put}
use Rattle.zarrs_metadata_parts.specs.AdditionalField.{AdditionalField, additional_field_of, additional_field_data}
use Rattle.zarrs_metadata_parts.specs.AdditionalField.{with_must_understand, normal_field, normal_field_by}
use Rattle.zarrs_metadata_parts.specs.MetadataV3.{Extension, extension_of, extensions_of, extension_data, normal_form}
use Rattle.zarrs_metadata_values.proofs.EachLemmas.{each_written}
use Rattle.zarrs_metadata_parts.proofs.ExtensionLemmas.{extension_reads_back}
use Rattle.zarrs_metadata_values.proofs.PutLemmas.{without-put}

field_back : (value : Data) (b : Bool) → get (codes "must_understand") value ≡ None →
    additional_field_of (with_must_understand b value) ≡ normal_field_by value b
field_back null b h = refl
field_back (boolean c) b h = refl
field_back (number n) b h = refl
field_back (string s) b h = refl
field_back (array ds) b h = refl
field_back (object ms) b h = rw (without-put (codes "must_understand") (boolean b) ms h, get_member-put)

pub field_reads_back : (a : AdditionalField) → get (codes "must_understand") a.value ≡ None →
    additional_field_of (additional_field_data a) ≡ normal_field a
field_reads_back a h = field_back a.value a.must_understand h

pub extensions_read_back : (es : List Extension) →
    extensions_of (array (items_of (map extension_data es))) ≡ Some (map normal_form es)
extensions_read_back es = each_written extension_of extension_data normal_form extension_reads_back es
