-- What is so of a text that is opened by the built-in names.
use Rattle.std.proofs.Common.{◌≡◌, ◌⊎◌, inl, inr, ap, sym, subst, refl, List, ℕ, Option, Some, None, Result, Ok, Err}
use Rattle.std.proofs.Common.{IfOk, IfErr}
use Rattle.serde_json.specs.Read.{read}
use Rattle.zarrs_metadata_values.specs.Reading.{from_json}
use Rattle.zarrs_metadata_values.specs.declared.error.MetadataError.{MetadataError}
use Rattle.zarrs_metadata.specs.ArrayMetadata.{ArrayFields}
use Rattle.zarrs_metadata_v2.specs.ArrayMetadataV2.{ArrayV2, array_v2_of}
use Rattle.zarr_basics.specs.Registries.{KnownNames, builtin_names}
use Rattle.zarr_array_open.specs.Document.{ArrayDocument}
use Rattle.zarr_array_open.specs.Opening.{OpenRefusal, chunk_too_large, document_of}
use Rattle.zarr_array_open.specs.OpenError.{open_refusal_of}
use Rattle.zarr_array.specs.OpenArray.{documented}
use Rattle.zarr_array.specs.declared.open.OpenArray.{OpenArray}
use Rattle.zarr_v2.specs.Translate.{translated}
use Rattle.zarr_v2.specs.declared.translation_error.V2Error.{V2Error}
use Rattle.zarr_v2.specs.Documents.{LieAlike}
use Rattle.zarr_v2.proofs.PositiveLaws.{text_positive}
use Rattle.zarr_v2.proofs.SameLaws.{only_chunks, lie_alike, both_ways}
use Rattle.zarr_v2.specs.Opening.{translated_if, AnswerV2, opened_v2, not_opened_v2, answer_v2_of, answer_v2}
use Rattle.zarr_v2.specs.Opening.{open_document_v2, open_builtin_v2, IsNotOpened, OpensV2, IsOnlyLarge, chunks_read}
use Rattle.zarr_v2.specs.Opening.{chunks_text, MeansAsV2}
use Rattle.zarr_v2.specs.declared.error.V2OpenError.{V2OpenError}
use Rattle.zarr_v2.specs.declared.error.V2OpenError.TheVariants.{Refused, Open, OutOfMemory}

-- what is opened of a document that was translated
record IsOpenedBy (text : List ℕ) (answer : Result ArrayDocument OpenRefusal) : Type 0 where
  pub from : ArrayV2
  pub reads : from_json array_v2_of (read text) ≡ Ok from
  pub fields : ArrayFields
  pub translates : translated from ≡ Ok fields
  pub opens : document_of builtin_names fields ≡ answer

abbrev Goes : List ℕ → AnswerV2 → Type 0
Goes text (opened_v2 document) = IsOpenedBy text (Ok document)
Goes text (not_opened_v2 why) = IsOpenedBy text (Err why)
Goes text _ = Unit {0}

goes : (text : List ℕ) → Goes text (open_builtin_v2 text)
goes text = by_reading (from_json array_v2_of (read text)) refl
  where
    by_document : (a : ArrayV2) (fields : ArrayFields) → from_json array_v2_of (read text) ≡ Ok a →
        translated a ≡ Ok fields →
        (r : Result ArrayDocument OpenRefusal) → document_of builtin_names fields ≡ r → Goes text (answer_v2_of r)
    by_document a fields reads translates (Ok document) is =
        record { from = a; reads = reads; fields = fields; translates = translates; opens = is }
    by_document a fields reads translates (Err why) is =
        record { from = a; reads = reads; fields = fields; translates = translates; opens = is }

    by_fields : (a : ArrayV2) → from_json array_v2_of (read text) ≡ Ok a → (r : Result ArrayFields V2Error) →
        translated a ≡ r →
        Goes text (answer_v2 builtin_names r)
    by_fields a reads (Ok fields) is = by_document a fields reads is (document_of builtin_names fields) refl
    by_fields a reads (Err why) is = tt

    by_reading : (r : Result ArrayV2 MetadataError) → from_json array_v2_of (read text) ≡ r →
        Goes text (answer_v2 builtin_names (translated_if r))
    by_reading (Ok a) reads = by_fields a reads (translated a) refl
    by_reading (Err error) reads = tt

-- chunks lie as those of the document that is opened
pub lie_as_opened : (text : List ℕ) (document : ArrayDocument) → open_builtin_v2 text ≡ opened_v2 document →
    LieAlike (chunks_text text) document
lie_as_opened text document is =
    let by : IsOpenedBy text (Ok document) = subst (Goes text) is (goes text) in
    subst (λ r. LieAlike (chunks_read r) document) (sym by.reads)
    (lie_alike by.from by.fields document by.translates by.opens)

-- and it is refused for chunks that are too large alone
same_reason : (r : Result ArrayDocument OpenRefusal) (why other : OpenRefusal) → r ≡ Err why → r ≡ Err other →
    why ≡ other
same_reason (Ok document) why other is also = absurd cc
same_reason (Err reason) why other is also = cc

not_both : (r : Result ArrayDocument OpenRefusal) (document : ArrayDocument) (why other : OpenRefusal) →
    r ≡ Ok document → r ≡ Err why → why ≡ other
not_both (Ok document) opened why other is also = absurd cc
not_both (Err reason) opened why other is also = absurd cc

pub large_alone : (text : List ℕ) (why : OpenRefusal) → open_builtin_v2 text ≡ not_opened_v2 why → why ≡ chunk_too_large
large_alone text why is =
    which (only_chunks by.from by.fields (text_positive (read text) by.from by.reads) by.translates)
  where
    by : IsOpenedBy text (Err why)
    by = subst (Goes text) is (goes text)

    which : ((d : ArrayDocument) × (document_of builtin_names by.fields ≡ Ok d)) ⊎
        (document_of builtin_names by.fields ≡ Err chunk_too_large) →
        why ≡ chunk_too_large
    which (inl (d, opens)) = not_both (document_of builtin_names by.fields) d why chunk_too_large opens by.opens
    which (inr large) = same_reason (document_of builtin_names by.fields) why chunk_too_large by.opens large

module _ (names : KnownNames) (text : List ℕ) where
  by_names : (result : Result OpenArray V2OpenError) → OpensV2 result (open_document_v2 names text) →
      names ≡ builtin_names →
      OpensV2 result (open_builtin_v2 text)
  by_names result is builtin = subst (λ n. OpensV2 result (open_document_v2 n text)) builtin is

  large : (o : Option OpenRefusal) → IsNotOpened o (open_builtin_v2 text) → o ≡ Some chunk_too_large
  large None is = absurd is
  large (Some why) is = ap (λ w. Some w) (large_alone text why is)

  large_error : (result : Result OpenArray V2OpenError) → OpensV2 result (open_builtin_v2 text) →
      IfErr result IsOnlyLarge
  large_error (Ok array) is = tt
  large_error (Err (Refused why)) is = tt
  large_error (Err (Open error)) is = large (open_refusal_of error) is
  large_error (Err OutOfMemory) is = tt

  meant : (result : Result OpenArray V2OpenError) → OpensV2 result (open_builtin_v2 text) →
      IfOk result (λ array. MeansAsV2 text (documented array))
  meant (Ok array) is = both_ways (chunks_text text) (documented array) (lie_as_opened text (documented array) is)
  meant (Err error) is = tt

  pub only_large : (result : Result OpenArray V2OpenError) → OpensV2 result (open_document_v2 names text) →
      names ≡ builtin_names → IfErr result IsOnlyLarge
  only_large result is builtin = large_error result (by_names result is builtin)

  pub means_as_v2 : (result : Result OpenArray V2OpenError) → OpensV2 result (open_document_v2 names text) →
      names ≡ builtin_names →
      IfOk result (λ array. MeansAsV2 text (documented array))
  means_as_v2 result is builtin = meant result (by_names result is builtin)
