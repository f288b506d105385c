-- How a version 2 array document is opened, and what the array then means.
use Rattle.std.specs.Prelude.{◌≡◌, ℕ, List, Option, Some, None, Result, Ok, Err}
use Rattle.serde_json.specs.Read.{read}
use Rattle.zarrs_metadata_values.specs.Reading.{from_json}
use Rattle.zarrs_metadata_values.specs.declared.error.MetadataError.{MetadataError}
use Rattle.zarrs_metadata_values.specs.declared.error.MetadataError.TheVariants as Read
use Rattle.zarrs_metadata_v2.specs.ArrayMetadataV2.{ArrayV2, array_v2_of}
use Rattle.zarrs_metadata.specs.ArrayMetadata.{ArrayFields, array_seen, array_data}
use Rattle.zarrs_metadata.specs.declared.v3.array.ArrayMetadataV3.{ArrayMetadataV3}
use Rattle.zarr_basics.specs.Registries.{KnownNames, builtin_names}
use Rattle.zarr_array_open.specs.Document.{ArrayDocument}
use Rattle.zarr_array_open.specs.Opening.{OpenRefusal, chunk_too_large, OpenAnswer, opened, not_opened, document_of}
use Rattle.zarr_array_open.specs.Opening.{open_document}
use Rattle.zarr_array_open.specs.OpenError.{open_refusal_of}
use Rattle.zarr_array_open.specs.declared.open_error.OpenError.{OpenError}
use Rattle.zarr_array_open.specs.declared.open_error.OpenError.TheVariants as Unopened
use Rattle.zarr_array.specs.OpenArray.{documented}
use Rattle.zarr_array.specs.declared.open.OpenArray.{OpenArray}
use Rattle.zarr_v2.specs.Translate.{translated}
use Rattle.zarr_v2.specs.declared.translation_error.V2Error.{V2Error}
use Rattle.zarr_v2.specs.declared.translation_error.V2Error.TheVariants as Why
use Rattle.zarr_v2.specs.ChunksV2.{ChunksV2}
use Rattle.zarr_v2.specs.Documents.{chunks_of, MeansTheSame}
use Rattle.zarr_v2.specs.declared.error.V2OpenError.{V2OpenError}
use Rattle.zarr_v2.specs.declared.error.V2OpenError.TheVariants.{Refused, Open, OutOfMemory}

-- why a text is no version 2 array document
abbrev pub unread_v2_as : MetadataError → V2Error
unread_v2_as Read.InvalidJson = Why.InvalidJson
unread_v2_as Read.FloatNumber = Why.FloatNumber
unread_v2_as Read.InvalidMetadata = Why.InvalidMetadata
unread_v2_as Read.OutOfMemory = Why.OutOfMemory

-- the document of version 3 that a text's is translated to, or the first reason against it
abbrev pub translated_if : Result ArrayV2 MetadataError → Result ArrayFields V2Error
translated_if (Ok a) = translated a
translated_if (Err error) = Err (unread_v2_as error)

abbrev pub translated_text : List ℕ → Result ArrayFields V2Error
translated_text text = translated_if (from_json array_v2_of (read text))

-- what a text is opened as: the translated document's array, or the first reason against it, which
-- lies in the version 2 document or in the translated one
pub data AnswerV2 : Type 0 where
  opened_v2 : ArrayDocument → AnswerV2
  refused_v2 : V2Error → AnswerV2
  not_opened_v2 : OpenRefusal → AnswerV2

abbrev pub answer_v2_of : Result ArrayDocument OpenRefusal → AnswerV2
answer_v2_of (Ok document) = opened_v2 document
answer_v2_of (Err why) = not_opened_v2 why

abbrev pub answer_v2 : KnownNames → Result ArrayFields V2Error → AnswerV2
answer_v2 names (Ok fields) = answer_v2_of (document_of names fields)
answer_v2 names (Err why) = refused_v2 why

abbrev pub open_document_v2 : KnownNames → List ℕ → AnswerV2
open_document_v2 names text = answer_v2 names (translated_text text)

-- the same by the built-in names alone
abbrev pub open_builtin_v2 : List ℕ → AnswerV2
open_builtin_v2 text = open_document_v2 builtin_names text

-- the errors by these reasons, of which want of memory is one of its own
abbrev pub untranslated_by : V2Error → V2OpenError
untranslated_by Why.OutOfMemory = OutOfMemory
untranslated_by why = Refused why

abbrev pub unread_by : MetadataError → V2OpenError
unread_by error = untranslated_by (unread_v2_as error)

abbrev pub unopened_by : OpenError → V2OpenError
unopened_by Unopened.OutOfMemory = OutOfMemory
unopened_by error = Open error

-- a text's document was translated, or was not by its first reason, or memory ran out
abbrev pub TranslatesText : Result ArrayMetadataV3 V2OpenError → Result ArrayFields V2Error →
    Type 0
TranslatesText (Ok document) answer = answer ≡ Ok (array_seen document)
TranslatesText (Err (Refused why)) answer = (answer ≡ Err why) × ¬ (why ≡ Why.OutOfMemory)
TranslatesText (Err (Open error)) answer = ⊥
TranslatesText (Err OutOfMemory) answer = Unit {0}

-- a refusal of the translated document, which is not want of memory
abbrev pub IsNotOpened : Option OpenRefusal → AnswerV2 → Type 0
IsNotOpened None answer = ⊥
IsNotOpened (Some why) answer = answer ≡ not_opened_v2 why

-- opening gave the array of the document, or the refusal of the text, or memory ran out
abbrev pub OpensV2 : Result OpenArray V2OpenError → AnswerV2 → Type 0
OpensV2 (Ok array) answer = answer ≡ opened_v2 (documented array)
OpensV2 (Err (Refused why)) answer = (answer ≡ refused_v2 why) × ¬ (why ≡ Why.OutOfMemory)
OpensV2 (Err (Open error)) answer = IsNotOpened (open_refusal_of error) answer
OpensV2 (Err OutOfMemory) answer = Unit {0}

-- opening gave what opening a text of version 3 gives, or memory ran out
abbrev pub IsRefusedText : Option OpenRefusal → OpenAnswer → Type 0
IsRefusedText None answer = ⊥
IsRefusedText (Some why) answer = answer ≡ not_opened why

abbrev pub OpensText : Result OpenArray V2OpenError → OpenAnswer → Type 0
OpensText (Ok array) answer = answer ≡ opened (documented array)
OpensText (Err (Refused why)) answer = ⊥
OpensText (Err (Open error)) answer = IsRefusedText (open_refusal_of error) answer
OpensText (Err OutOfMemory) answer = Unit {0}

-- each text of the document that one is translated to is opened with the same answer
abbrev pub OpensAsItsText : KnownNames → List ℕ → Result OpenArray V2OpenError → Type 0
OpensAsItsText names text result = (fields : ArrayFields) (written : List ℕ) →
    translated_text text ≡ Ok fields → read written ≡ Some (array_data fields) →
    OpensText result (open_document names written)

-- a translated document is not opened for chunks that are too large alone
abbrev pub IsOnlyLarge : V2OpenError → Type 0
IsOnlyLarge (Open error) = open_refusal_of error ≡ Some chunk_too_large
IsOnlyLarge _ = Unit {0}

-- what a text says of the chunks in a store, if it is a version 2 array document of a known type
-- and fill value
abbrev pub chunks_read : Result ArrayV2 MetadataError → Option ChunksV2
chunks_read (Ok a) = chunks_of a
chunks_read (Err error) = None

abbrev pub chunks_text : List ℕ → Option ChunksV2
chunks_text text = chunks_read (from_json array_v2_of (read text))

-- a store means the same arrays by the version 2 document that a text is as by a document of
-- version 3
abbrev pub MeansAsV2 : List ℕ → ArrayDocument → Type 0
MeansAsV2 text document = MeansTheSame (chunks_text text) document
