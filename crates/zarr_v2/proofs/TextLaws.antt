-- What was opened, or was not, is so as a text of the translated document.
use Rattle.std.proofs.Common.{◌≡◌, ◌∙◌, ap, sym, subst, refl, ℕ, List, Option, Some, None, Result, Ok, Err}
use Rattle.serde_json.specs.Read.{read}
use Rattle.zarrs_metadata_values.specs.Reading.{from_json}
use Rattle.zarrs_metadata_values.specs.declared.error.MetadataError.{MetadataError}
use Rattle.zarrs_metadata.specs.ArrayMetadata.{ArrayFields, array_data}
use Rattle.zarrs_metadata_v2.specs.ArrayMetadataV2.{ArrayV2, array_v2_of}
use Rattle.zarr_basics.specs.Registries.{KnownNames}
use Rattle.zarr_array_open.specs.Document.{ArrayDocument}
use Rattle.zarr_array_open.specs.Opening.{OpenRefusal, opened, not_opened, open_answer, document_of, open_document}
use Rattle.zarr_array_open.specs.OpenError.{open_refusal_of}
use Rattle.zarr_array.specs.OpenArray.{documented}
use Rattle.zarr_array.specs.declared.open.OpenArray.{OpenArray}
use Rattle.zarr_v2.specs.declared.translation_error.V2Error.{V2Error}
use Rattle.zarr_v2.proofs.MeaningTextLaws.{opens}
use Rattle.zarr_v2.specs.Opening.{translated_if, translated_text, opened_v2, refused_v2, answer_v2_of, answer_v2}
use Rattle.zarr_v2.specs.Opening.{open_document_v2, IsNotOpened, OpensV2, IsRefusedText, OpensAsItsText}
use Rattle.zarr_v2.specs.declared.error.V2OpenError.{V2OpenError}
use Rattle.zarr_v2.specs.declared.error.V2OpenError.TheVariants.{Refused, Open, OutOfMemory}

-- each text of the document that a text's is translated to is opened as its fields are
opened_as_fields : (names : KnownNames) (text : List ℕ) (fields : ArrayFields) (written : List ℕ) →
    translated_text text ≡ Ok fields →
    read written ≡ Some (array_data fields) →
    open_document names written ≡ open_answer (document_of names fields)
opened_as_fields names text fields written e w = go (from_json array_v2_of (read text)) refl e
  where
    go : (r : Result ArrayV2 MetadataError) → from_json array_v2_of (read text) ≡ r → translated_if r ≡ Ok fields →
        open_document names written ≡ open_answer (document_of names fields)
    go (Ok a) reads translates = opens text a fields reads translates names written w
    go (Err error) reads translates = absurd cc

of_document : (r : Result ArrayDocument OpenRefusal) (d : ArrayDocument) → answer_v2_of r ≡ opened_v2 d →
    open_answer r ≡ opened d
of_document (Ok e) d is = let same : e ≡ d = cc in ap opened same
of_document (Err why) d is = absurd cc

of_refusal : (r : Result ArrayDocument OpenRefusal) (o : Option OpenRefusal) → IsNotOpened o (answer_v2_of r) →
    IsRefusedText o (open_answer r)
of_refusal r None is = is
of_refusal (Ok d) (Some why) is = absurd cc
of_refusal (Err other) (Some why) is = let same : other ≡ why = cc in ap not_opened same

no_refusal : (r : Result ArrayDocument OpenRefusal) (why : V2Error) → answer_v2_of r ≡ refused_v2 why → ⊥
no_refusal (Ok d) why is = cc
no_refusal (Err other) why is = cc

pub as_its_text : (names : KnownNames) (text : List ℕ) (result : Result OpenArray V2OpenError) →
    OpensV2 result (open_document_v2 names text) →
    OpensAsItsText names text result
as_its_text names text (Ok array) is = λ fields written e w.
    opened_as_fields names text fields written e w
    ∙ of_document (document_of names fields) (documented array) (sym (ap (answer_v2 names) e) ∙ is)
as_its_text names text (Err (Refused why)) is = λ fields written e w.
    no_refusal (document_of names fields) why (sym (ap (answer_v2 names) e) ∙ is.0)
as_its_text names text (Err (Open error)) is = λ fields written e w.
    subst (IsRefusedText (open_refusal_of error)) (sym (opened_as_fields names text fields written e w))
    (of_refusal (document_of names fields) (open_refusal_of error)
    (subst (IsNotOpened (open_refusal_of error)) (ap (answer_v2 names) e) is))
as_its_text names text (Err OutOfMemory) is = λ fields written e w. tt
