-- A text of a translated document is opened as its fields are.
use Rattle.std.proofs.Common.{◌≡◌, ◌∙◌, ap, ap₂, sym, subst, refl, ℕ, ◌≤◌, Bool, List, Option, Some, Ok, arith}
use Rattle.serde_json.specs.Data.{Data, object, depth}
use Rattle.serde_json.specs.Read.{read, max_depth}
use Rattle.serde_json.specs.Written.{has_float}
use Rattle.serde_json.proofs.Nesting.{depth-read}
use Rattle.zarrs_metadata_values.specs.Forms.{first}
use Rattle.zarrs_metadata_values.specs.Reading.{from_json}
use Rattle.zarrs_metadata.specs.ArrayMetadata.{ArrayFields, array_data}
use Rattle.zarrs_metadata.specs.AnyArray.{AnyArray, any_array_of}
use Rattle.zarrs_metadata_v2.specs.ArrayMetadataV2.{ArrayV2, array_v2_of}
use Rattle.zarr_basics.specs.Registries.{KnownNames}
use Rattle.zarr_array_open.specs.Opening.{open_answer, fields_if, document_read, document_of, open_document}
use Rattle.zarr_array_open.specs.Opening as opening
use Rattle.zarr_v2.specs.Translate.{translated}
use Rattle.zarr_v2.proofs.TranslatedLaws.{IsMadeOf, made_of}
use Rattle.zarr_v2.proofs.MemberLaws.{IsWhole, all_whole, IsWithin, all_within}
use Rattle.zarr_v2.proofs.ReadLaws.{IsOfText, is_of_text, IsRead, is_read, of_fill, of_attributes}
use Rattle.zarr_v2.proofs.WrittenLaws.{fill_holds, is_whole, is_within, reads_back}

module _ (text : List ℕ) (a : ArrayV2) (fields : ArrayFields) (reads : from_json array_v2_of (read text) ≡ Ok a)
    (translates : translated a ≡ Ok fields) where
  made : IsMadeOf a fields
  made = made_of a fields translates

  told : IsOfText (read text) a
  told = is_of_text (read text) a reads

  parsed : IsRead told.value a
  parsed = is_read told.value a told.reads

  written_whole : IsWhole (array_data fields)
  written_whole =
      let all = all_whole parsed.members (ap has_float (sym parsed.is) ∙ told.whole) in
      let fill = fill_holds IsWhole refl refl made.stored.element a.fill_value made.fill
      (of_fill IsWhole parsed.members all a parsed.stands) made.filled in
      let attributes = of_attributes IsWhole parsed.members all a parsed.stands refl in
      subst (λ (f : ArrayFields). IsWhole (array_data f)) made.fields (is_whole a made.stored made.fill fill attributes)

  -- it nests no deeper than a text may
  pub nests : depth (array_data fields) ≤ max_depth
  nests =
      let deep : depth told.value ≤ max_depth = depth-read text told.value told.is in
      let as_object : depth told.value ≡ depth (object parsed.members) = ap depth parsed.is in
      let all = all_within 126 parsed.members (omega (arith, deep, as_object)) in
      let fill = fill_holds (IsWithin 126) (omega arith) (omega arith) made.stored.element a.fill_value made.fill
      (of_fill (IsWithin 126) parsed.members all a parsed.stands) made.filled in
      let attributes = of_attributes (IsWithin 126) parsed.members all a parsed.stands (omega arith) in
      subst (λ (f : ArrayFields). depth (array_data f) ≤ max_depth) made.fields
      (is_within 126 a made.stored made.fill (omega arith) fill attributes)

  -- what is written of it is opened as its fields are
  pub opens : (names : KnownNames) (written : List ℕ) → read written ≡ Some (array_data fields) →
      open_document names written ≡ open_answer (document_of names fields)
  opens names written is =
      ap (λ (o : Option Data). open_answer (document_read names o)) is
      ∙ ap₂ (λ (b : Bool) (o : Option AnyArray). open_answer (opening.◌>>=◌ (fields_if b o) (document_of names)))
      written_whole
      (subst (λ (f : ArrayFields). any_array_of (array_data f) ≡ Some (first f)) made.fields
      (reads_back a made.stored made.fill))
