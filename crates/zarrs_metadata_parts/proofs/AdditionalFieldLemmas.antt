-- Additional fields, inserted one after another, beside those of the members so far.
use Rattle.std.proofs.Common.{◌≡◌, ℕ, List, [], ◌∷◌, ◌++◌, Bool, true, false, cond, Ordering, Less, Equal, Greater}
use Rattle.std.proofs.Common.{String, Global, string_bytes, string_cmp, nat_cmp, refl, ap, ◌∙◌}
use Rattle.std.proofs.lemmas.Cmp.{nat_list_cmp_total}
use Rattle.std.specs.Cmp.Lexicographic.{slice_cmp}
use Rattle.std.specs.List.{AllByRecursion}
use Rattle.std.specs.List.Sorted.{IsStrictlySortedBy}
use Rattle.std.specs.Map.{keys_of}
use Rattle.std.specs.Ordering.{match_ordering, ordering_reverse}
use Rattle.std.specs.BTreeMap.{insert_entry}
use Rattle.serde_json.specs.View.{view, members_view}
use Rattle.serde_json.proofs.Views.{Entry}
use Rattle.zarrs_metadata_parts.specs.AdditionalField.{AdditionalField, additional_field_seen, additional_field_of}
use Rattle.zarrs_metadata_parts.specs.declared.v3.additional_field.AdditionalFieldV3.{AdditionalFieldV3}
use Rattle.zarrs_metadata_parts.specs.AdditionalFields.{is_no_field, additional_fields_of, additional_fields_seen}
use Rattle.zarrs_metadata_parts.specs.declared.v3.additional_fields.NodeKind.{NodeKind}

abbrev pub Field : Type 0
Field = String Global × AdditionalFieldV3

-- the fields with one put at its place
abbrev pub insert_field : List ℕ → AdditionalField → List (List ℕ × AdditionalField) → List (List ℕ × AdditionalField)
insert_field k a [] = (k, a) ∷ []
insert_field k a (f ∷ fs) =
    match_ordering (slice_cmp nat_cmp k f.0) ((k, a) ∷ f ∷ fs) ((f.0, a) ∷ fs) (f ∷ insert_field k a fs)

seen-match_ordering : (o : Ordering) (a b c : List Field) → additional_fields_seen (match_ordering o a b c) ≡
    match_ordering o (additional_fields_seen a) (additional_fields_seen b) (additional_fields_seen c)
seen-match_ordering Less a b c = refl
seen-match_ordering Equal a b c = refl
seen-match_ordering Greater a b c = refl

seen-insert_entry : (es : List Field) (k : String Global) (v : AdditionalFieldV3) → additional_fields_seen (insert_entry
    string_cmp es k v) ≡ insert_field (string_bytes k) (additional_field_seen v) (additional_fields_seen es)
seen-insert_entry [] k v = refl
seen-insert_entry (e ∷ es) k v = seen-match_ordering (string_cmp k e.0) _ _ _ ∙ rw (seen-insert_entry es k v)

below_middle : {V : Type 0} (first : String Global × V) (es : List (String Global × V)) (e : String Global ×
    V) (more : List (String Global × V)) →
    AllByRecursion (λ y. string_cmp first.0 y ≡ Less) (keys_of (es ++ e ∷ more)) → string_cmp first.0 e.0 ≡ Less
below_middle first [] e more h = h.0
below_middle first (x ∷ es) e more h = below_middle first es e more h.1

-- a field whose key is above those before it goes last
put_last_at : (left_out : Bool) (k key : List ℕ) (a field : AdditionalField) (fs gs : List (List ℕ × AdditionalField)) →
    slice_cmp nat_cmp k key ≡ Greater → insert_field k a fs ≡ gs
    → insert_field k a (cond left_out fs ((key, field) ∷ fs)) ≡ cond left_out gs ((key, field) ∷ gs)
put_last_at true k key a field fs gs above h = h
put_last_at false k key a field fs gs above h = rw (above, h)

put_last : (kind : NodeKind) (done : List Entry) (e : Entry) (more : List Entry) →
    is_no_field kind (string_bytes e.0) (view e.1) ≡ false → IsStrictlySortedBy string_cmp (keys_of (done ++ e ∷ more))
    → insert_field (string_bytes e.0) (additional_field_of (view e.1)) (additional_fields_of kind (members_view done)) ≡
    additional_fields_of kind (members_view (done ++ e ∷ []))
unfolding IsStrictlySortedBy
put_last kind [] e more other h = rw other
put_last kind (first ∷ done) e more other h =
    let above : slice_cmp nat_cmp (string_bytes e.0) (string_bytes first.0) ≡ Greater =
    nat_list_cmp_total.antisymm (string_bytes e.0) (string_bytes first.0)
    ∙ ap ordering_reverse (below_middle first done e more h.0) in
    put_last_at (is_no_field kind (string_bytes first.0) (view first.1)) (string_bytes e.0) (string_bytes first.0)
    (additional_field_of (view e.1)) (additional_field_of (view first.1)) _ _ above
    (put_last kind done e more other h.1)

-- the map with the next field
pub fields-insert : (kind : NodeKind) (fs : List Field) (done : List Entry) (e : Entry) (more : List Entry)
    (k : String Global) (v : AdditionalFieldV3)
    → additional_fields_seen fs ≡ additional_fields_of kind (members_view done) → string_bytes k ≡ string_bytes e.0 →
    additional_field_seen v ≡ additional_field_of (view e.1)
    → is_no_field kind (string_bytes e.0) (view e.1) ≡ false →
    IsStrictlySortedBy string_cmp (keys_of (done ++ e ∷ more))
    →
    additional_fields_seen (insert_entry string_cmp fs k v) ≡ additional_fields_of kind (members_view (done ++ e ∷ []))
fields-insert kind fs done e more k v front key field other sorted =
    seen-insert_entry fs k v ∙ rw (key, field, front) (put_last kind done e more other sorted)

-- what is no field adds none
pub fields-skip : (kind : NodeKind) (done : List Entry) (e : Entry) → is_no_field kind (string_bytes e.0) (view e.1) ≡
    true → additional_fields_of kind (members_view (done ++ e ∷ [])) ≡ additional_fields_of kind (members_view done)
fields-skip kind [] e named = rw named
fields-skip kind (first ∷ done) e named = rw (fields-skip kind done e named)

seen_last : (done : List Field) (e : Field) (more : List Field) →
    IsStrictlySortedBy string_cmp (keys_of (done ++ e ∷ more))
    → insert_field (string_bytes e.0) (additional_field_seen e.1) (additional_fields_seen done) ≡
    additional_fields_seen (done ++ e ∷ [])
unfolding IsStrictlySortedBy
seen_last [] e more h = refl
seen_last (first ∷ done) e more h =
    let above : slice_cmp nat_cmp (string_bytes e.0) (string_bytes first.0) ≡ Greater =
    nat_list_cmp_total.antisymm (string_bytes e.0) (string_bytes first.0)
    ∙ ap ordering_reverse (below_middle first done e more h.0) in
    rw above (ap (λ fs. (string_bytes first.0, additional_field_seen first.1) ∷ fs) (seen_last done e more h.1))

-- the copy with the next field
pub fields-copy : (fs done : List Field) (e : Field) (more : List Field) (k : String Global) (v : AdditionalFieldV3)
    → additional_fields_seen fs ≡ additional_fields_seen done → string_bytes k ≡ string_bytes e.0 →
    additional_field_seen v ≡ additional_field_seen e.1
    → IsStrictlySortedBy string_cmp (keys_of (done ++ e ∷ more)) →
    additional_fields_seen (insert_entry string_cmp fs k v) ≡ additional_fields_seen (done ++ e ∷ [])
fields-copy fs done e more k v front key field sorted =
    seen-insert_entry fs k v ∙ rw (key, field, front) (seen_last done e more sorted)
