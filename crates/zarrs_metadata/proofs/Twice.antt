-- Normal forms, twice.
use Rattle.std.proofs.Common.{◌≡◌, ℕ, Bool, true, false, if◌then◌else◌, List, [], ◌∷◌, map, Option, Some, None, Result}
use Rattle.std.proofs.Common.{Ok, Err, IfOk, refl, sym, subst}
use Rattle.serde_json.specs.Data.{Members, no_members, member}
use Rattle.serde_json.specs.Written.{has_float}
use Rattle.zarrs_metadata_parts.specs.MetadataV3.{Extension, normal_by, normal_form}
use Rattle.zarrs_metadata_values.specs.Reading.{GivesRead, unless_float}
use Rattle.zarrs_metadata_values.specs.Rising.{Rises}
use Rattle.zarrs_metadata_values.specs.declared.error.MetadataError.{MetadataError}
use Rattle.zarrs_metadata_values.specs.declared.error.MetadataError.TheVariants.{FloatNumber}
use Rattle.zarrs_metadata_parts.specs.AdditionalFields.{normal_fields, AreOrderly}
use Rattle.zarrs_metadata.specs.ArrayMetadata.{ArrayFields, array_seen, array_data, normal_array, KeepsFields}
use Rattle.zarrs_metadata_parts.specs.declared.v3.additional_fields.NodeKind.TheVariants.{Array}
use Rattle.zarrs_metadata.specs.declared.v3.array.ArrayMetadataV3.{ArrayMetadataV3}
use Rattle.zarrs_metadata.proofs.ArrayBack.{array_reads_back}
use Rattle.zarrs_metadata_parts.proofs.FieldsBack.{normal_fields_once}
use Rattle.zarrs_metadata.proofs.ReadFields.{array_kept}

normal_once : (name : List ℕ) (configuration : Option Members) (must_understand : Bool) →
    normal_form (normal_by name configuration must_understand) ≡ normal_by name configuration must_understand
normal_once name None must_understand = refl
normal_once name (Some no_members) must_understand = refl
normal_once name (Some (member k d ms)) must_understand = refl

form_once : (e : Extension) → normal_form (normal_form e) ≡ normal_form e
form_once e = normal_once e.name e.configuration e.must_understand

forms_once : (es : List Extension) → map normal_form (map normal_form es) ≡ map normal_form es
forms_once [] = refl
forms_once (e ∷ es) = rw (form_once e, forms_once es)

-- all but the additional fields is normal once it was normalised
same_fields : (f : ArrayFields) → normal_fields Array (normal_fields Array f.additional_fields) ≡
    normal_fields Array f.additional_fields → normal_array (normal_array f) ≡ normal_array f
same_fields f fields =
    let types : normal_form (normal_form f.data_type) ≡ normal_form f.data_type = form_once f.data_type in
    let grids : normal_form (normal_form f.chunk_grid) ≡ normal_form f.chunk_grid = form_once f.chunk_grid in
    let keys : normal_form (normal_form f.chunk_key_encoding) ≡ normal_form f.chunk_key_encoding =
    form_once f.chunk_key_encoding in
    let codecs : map normal_form (map normal_form f.codecs) ≡ map normal_form f.codecs = forms_once f.codecs in
    let transformers : map normal_form (map normal_form f.storage_transformers) ≡
    map normal_form f.storage_transformers = forms_once f.storage_transformers in
    cc

twice_if_kept : (f : ArrayFields) → KeepsFields (normal_array f) → normal_array (normal_array f) ≡ normal_array f
twice_if_kept f kept = same_fields f kept

pub normal_array_once : (f : ArrayFields) → AreOrderly Array f.additional_fields →
    normal_array (normal_array f) ≡ normal_array f
normal_array_once f orderly = twice_if_kept f (normal_fields_once Array f.additional_fields orderly)

-- where the keys of what is written rise
pub written_array_once : (f : ArrayFields) → Rises (array_data f) → normal_array (normal_array f) ≡ normal_array f
written_array_once f rises = twice_if_kept f (array_kept (array_data f) (normal_array f) rises (array_reads_back f))

-- ---- an array that was written and read again

unless_true : (found : Bool) (y x : ArrayFields) → (if found then Err FloatNumber else Ok y) ≡ Ok x → x ≡ y
unless_true true y x e = absurd cc
unless_true false y x e = cc

stays_as_it_is : (f g : ArrayFields) → g ≡ normal_array f → KeepsFields g → normal_array g ≡ g
stays_as_it_is f g is kept = subst (λ x. normal_array x ≡ x) (sym is) (twice_if_kept f (subst KeepsFields is kept))

pub array_again_stays : (f : ArrayFields) (r : Result ArrayMetadataV3 MetadataError) →
    GivesRead array_seen r (unless_float (array_data f) (normal_array f))
    → IfOk r (λ a. KeepsFields (array_seen a)) → IfOk r (λ a. normal_array (array_seen a) ≡ array_seen a)
array_again_stays f (Ok a) again kept =
    stays_as_it_is f (array_seen a) (unless_true (has_float (array_data f)) (normal_array f) (array_seen a) again) kept
array_again_stays f (Err e) again kept = tt
