-- Fields of a fill value that is an object, put in the order of their keys.
use Rattle.std.proofs.Common.{◌≡◌, List, [], ◌∷◌, ◌++◌, Ordering, Less, Equal, Greater, String, Global, string_bytes}
use Rattle.std.proofs.Common.{string_cmp, nat_cmp, refl, ap, ◌∙◌}
use Rattle.std.proofs.lemmas.Cmp.{nat_list_cmp_total}
use Rattle.std.specs.Cmp.Lexicographic.{slice_cmp}
use Rattle.std.specs.List.{AllByRecursion}
use Rattle.std.specs.List.Sorted.{IsStrictlySortedBy}
use Rattle.std.specs.Map.{keys_of}
use Rattle.std.specs.Ordering.{match_ordering, ordering_reverse}
use Rattle.std.specs.BTreeMap.{insert_entry}
use Rattle.serde_json.specs.Data.{member, put}
use Rattle.zarrs_metadata_values.specs.FillValueMetadata.{fill_view, fields_view}
use Rattle.zarrs_metadata_values.specs.declared.fill_value.FillValueMetadataV3.{FillValueMetadataV3}

abbrev pub Field : Type 0
Field = String Global × FillValueMetadataV3

fields_view-match_ordering : (o : Ordering) (a b c : List Field) →
    fields_view (match_ordering o a b c) ≡ match_ordering o (fields_view a) (fields_view b) (fields_view c)
fields_view-match_ordering Less a b c = refl
fields_view-match_ordering Equal a b c = refl
fields_view-match_ordering Greater a b c = refl

pub fields_view-insert_entry : (es : List Field) (k : String Global) (v : FillValueMetadataV3) →
    fields_view (insert_entry string_cmp es k v) ≡ put (string_bytes k) (fill_view v) (fields_view es)
fields_view-insert_entry [] k v = refl
fields_view-insert_entry (e ∷ es) k v =
    fields_view-match_ordering (string_cmp k e.0) _ _ _ ∙ rw (fields_view-insert_entry es k v)

below_middle : (first : Field) (es : List Field) (e : Field) (more : List Field) →
    AllByRecursion (λ y. string_cmp first.0 y ≡ Less) (keys_of (es ++ e ∷ more)) → string_cmp first.0 e.0 ≡ Less
below_middle first [] e more h = h.0
below_middle first (x ∷ es) e more h = below_middle first es e more h.1

-- a key that is above those before it goes last
pub fields_last : (done : List Field) (e : Field) (more : List Field) →
    IsStrictlySortedBy string_cmp (keys_of (done ++ e ∷ more))
    → put (string_bytes e.0) (fill_view e.1) (fields_view done) ≡ fields_view (done ++ e ∷ [])
unfolding IsStrictlySortedBy
fields_last [] e more h = refl
fields_last (first ∷ done) e more h =
    let above : slice_cmp nat_cmp (string_bytes e.0) (string_bytes first.0) ≡ Greater =
    nat_list_cmp_total.antisymm (string_bytes e.0) (string_bytes first.0)
    ∙ ap ordering_reverse (below_middle first done e more h.0) in
    rw above (ap (member (string_bytes first.0) (fill_view first.1)) (fields_last done e more h.1))
