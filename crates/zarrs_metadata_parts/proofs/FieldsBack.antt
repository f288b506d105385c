-- Additional fields that are written beside named keys, and read again.
use Rattle.std.proofs.Common.{◌≡◌, ℕ, Bool, true, false, ◌||◌, List, [], ◌∷◌, ◌++◌, Ordering, Less, Equal, Greater}
use Rattle.std.proofs.Common.{nat_cmp, refl, sym, ap, ◌∙◌, append_assoc, append-nil}
use Rattle.std.proofs.lemmas.Cmp.{nat_list_cmp_total}
use Rattle.std.specs.Cmp.Lexicographic.{slice_cmp}
use Rattle.std.specs.Ordering.{match_ordering, ordering_reverse}
use Rattle.serde_json.specs.Data.{Data, null, boolean, number, string, array, object, Members, no_members, member, put}
use Rattle.serde_json.specs.Find.{get_member}
use Rattle.serde_json.proofs.Views.{get_member-put_other}
use Rattle.zarrs_metadata_parts.specs.AdditionalField.{AdditionalField, additional_field_data, normal_field}
use Rattle.zarrs_metadata_values.proofs.PutLemmas.{same_key}
use Rattle.zarrs_metadata_parts.proofs.ReadBack.{field_reads_back}
use Rattle.zarrs_metadata_parts.specs.AdditionalFields.{is_named_key, is_field_dropped, additional_fields_of, put_field}
use Rattle.zarrs_metadata_parts.specs.AdditionalFields.{put_fields, normal_fields, normal_each, IsKeyBelow, AreOrderly}
use Rattle.zarrs_metadata_parts.specs.declared.v3.additional_fields.NodeKind.{NodeKind}

named_first : (kind : NodeKind) (k : List ℕ) (d : Data) (ms : Members) → is_named_key kind k ≡ true →
    additional_fields_of kind (member k d ms) ≡ additional_fields_of kind ms
named_first kind k d ms named = rw named

put_named_at : (o : Ordering) (kind : NodeKind) (k l : List ℕ) (d e : Data) (ms : Members) → slice_cmp nat_cmp k l ≡ o →
    is_named_key kind k ≡ true
    → additional_fields_of kind (put k d ms) ≡ additional_fields_of kind ms
    → additional_fields_of kind (match_ordering o (member k d (member l e ms)) (member l d ms)
    (member l e (put k d ms))) ≡ additional_fields_of kind (member l e ms)
put_named_at Less kind k l d e ms is named later = named_first kind k d (member l e ms) named
put_named_at Equal kind k l d e ms is named later =
    let also : is_named_key kind l ≡ true = rw (← same_key k l is) named in
    named_first kind l d ms also ∙ sym (named_first kind l e ms also)
put_named_at Greater kind k l d e ms is named later = rw later

-- a named key changes no additional field
pub fields-put_named : (kind : NodeKind) (k : List ℕ) (d : Data) (ms : Members) → is_named_key kind k ≡ true →
    additional_fields_of kind (put k d ms) ≡ additional_fields_of kind ms
fields-put_named kind k d no_members named = named_first kind k d no_members named
fields-put_named kind k d (member l e ms) named =
    put_named_at _ kind k l d e ms refl named (fields-put_named kind k d ms named)

pub fields_beside : (kind : NodeKind) (k : List ℕ) → is_named_key kind k ≡ true → (d : Data) (ms : Members) →
    additional_fields_of kind (put k d ms) ≡ additional_fields_of kind ms
fields_beside kind k named d ms = fields-put_named kind k d ms named

look_field : (named : Bool) (kind : NodeKind) (q k : List ℕ) (field : AdditionalField) (ms : Members) →
    is_named_key kind k ≡ named → is_named_key kind q ≡ true
    → get_member q (put_field named k field ms) ≡ get_member q ms
look_field true kind q k field ms is wanted = refl
look_field false kind q k field ms is wanted =
    get_member-put_other q k (additional_field_data field) ms
    (λ same. let e : is_named_key kind q ≡ false = rw same is in absurd cc)

-- an additional field changes nothing under a named key
pub look-put_fields : (kind : NodeKind) (q : List ℕ) (fs : List (List ℕ × AdditionalField)) (ms : Members) →
    is_named_key kind q ≡ true → get_member q (put_fields kind fs ms) ≡ get_member q ms
look-put_fields kind q [] ms wanted = refl
look-put_fields kind q (f ∷ fs) ms wanted =
    look-put_fields kind q fs (put_field (is_named_key kind f.0) f.0 f.1 ms) wanted
    ∙ look_field (is_named_key kind f.0) kind q f.0 f.1 ms refl wanted

-- ---- orderly fields

-- each under its key
abbrev written : List (List ℕ × AdditionalField) → Members
written [] = no_members
written (f ∷ fs) = member f.0 (additional_field_data f.1) (written fs)

below_later : (kind : NodeKind) (k : List ℕ) (done : List (List ℕ × AdditionalField)) (f : List ℕ × AdditionalField)
    (fs : List (List ℕ × AdditionalField)) → IsKeyBelow k (done ++ f ∷ fs) → slice_cmp nat_cmp k f.0 ≡ Less
below_later kind k [] f fs h = h.0
below_later kind k (g ∷ done) f fs h = below_later kind k done f fs h.1

put_above : (kind : NodeKind) (done : List (List ℕ × AdditionalField)) (f : List ℕ ×
    AdditionalField) (fs : List (List ℕ × AdditionalField)) → AreOrderly kind (done ++ f ∷ fs)
    → put f.0 (additional_field_data f.1) (written done) ≡ written (done ++ f ∷ [])
put_above kind [] f fs h = refl
put_above kind (g ∷ done) f fs h =
    let above : slice_cmp nat_cmp f.0 g.0 ≡ Greater =
    nat_list_cmp_total.antisymm f.0 g.0 ∙ ap ordering_reverse (below_later kind g.0 done f fs h.2) in
    rw above (ap (member g.0 (additional_field_data g.1)) (put_above kind done f fs h.3))

unnamed : (a b : Bool) → (a || b) ≡ false → a ≡ false
unnamed false b h = refl
unnamed true b h = absurd cc

middle_unnamed : (kind : NodeKind) (done : List (List ℕ × AdditionalField)) (f : List ℕ × AdditionalField) (fs :
    List (List ℕ × AdditionalField)) → AreOrderly kind (done ++ f ∷ fs) → is_named_key kind f.0 ≡ false
middle_unnamed kind [] f fs h =
    unnamed (is_named_key kind f.0) (is_field_dropped kind f.0 (additional_field_data f.1)) h.0
middle_unnamed kind (g ∷ done) f fs h = middle_unnamed kind done f fs h.3

put_all : (kind : NodeKind) (fs done : List (List ℕ × AdditionalField)) → AreOrderly kind (done ++ fs) →
    put_fields kind fs (written done) ≡ written (done ++ fs)
put_all kind [] done h = rw append-nil refl
put_all kind (f ∷ fs) done h =
    let more : AreOrderly kind ((done ++ f ∷ []) ++ fs) = rw append_assoc h in
    let step : put_fields kind fs (written (done ++ f ∷ [])) ≡ written ((done ++ f ∷ []) ++ fs) =
    put_all kind fs (done ++ f ∷ []) more in
    rw (middle_unnamed kind done f fs h, put_above kind done f fs h) (step ∙ rw append_assoc)

read_all : (kind : NodeKind) (fs : List (List ℕ × AdditionalField)) → AreOrderly kind fs →
    additional_fields_of kind (written fs) ≡ normal_each fs
read_all kind [] h = refl
read_all kind (f ∷ fs) h = rw (h.0, field_reads_back f.1 h.1, read_all kind fs h.3)

-- orderly fields read back in their normal forms
pub orderly_fields_read_back : (kind : NodeKind) (fs : List (List ℕ × AdditionalField)) → AreOrderly kind fs →
    normal_fields kind fs ≡ normal_each fs
orderly_fields_read_back kind fs h = ap (additional_fields_of kind) (put_all kind fs [] h) ∙ read_all kind fs h

-- ---- normal forms, twice

data_again : (value : Data) (b : Bool) →
    additional_field_data (normal_field (record { value = value; must_understand = b })) ≡
    additional_field_data (record { value = value; must_understand = b })
data_again null b = refl
data_again (boolean c) b = refl
data_again (number n) b = refl
data_again (string s) b = refl
data_again (array ds) b = refl
data_again (object ms) b = refl

value_again : (value : Data) (b : Bool) → (normal_field (record { value = value; must_understand = b })).value ≡ value
value_again null b = refl
value_again (boolean c) b = refl
value_again (number n) b = refl
value_again (string s) b = refl
value_again (array ds) b = refl
value_again (object ms) b = refl

field_again : (value : Data) (b : Bool) → normal_field (normal_field (record { value = value; must_understand = b })) ≡
    normal_field (record { value = value; must_understand = b })
field_again null b = refl
field_again (boolean c) b = refl
field_again (number n) b = refl
field_again (string s) b = refl
field_again (array ds) b = refl
field_again (object ms) b = refl

below_again : (k : List ℕ) (fs : List (List ℕ × AdditionalField)) → IsKeyBelow k fs → IsKeyBelow k (normal_each fs)
below_again k [] h = tt
below_again k (f ∷ fs) h = (h.0, below_again k fs h.1)

orderly_again : (kind : NodeKind) (fs : List (List ℕ × AdditionalField)) → AreOrderly kind fs →
    AreOrderly kind (normal_each fs)
orderly_again kind [] h = tt
orderly_again kind (f ∷ fs) h = (
  rw (data_again f.1.value f.1.must_understand) h.0,
  rw (value_again f.1.value f.1.must_understand) h.1,
  below_again f.0 fs h.2,
  orderly_again kind fs h.3,
)

each_again : (fs : List (List ℕ × AdditionalField)) → normal_each (normal_each fs) ≡ normal_each fs
each_again [] = refl
each_again (f ∷ fs) = rw (field_again f.1.value f.1.must_understand, each_again fs)

-- normalising orderly fields twice is normalising them once
pub normal_fields_once : (kind : NodeKind) (fs : List (List ℕ × AdditionalField)) → AreOrderly kind fs →
    normal_fields kind (normal_fields kind fs) ≡ normal_fields kind fs
normal_fields_once kind fs h =
    ap (normal_fields kind) (orderly_fields_read_back kind fs h)
    ∙ orderly_fields_read_back kind (normal_each fs) (orderly_again kind fs h)
    ∙ each_again fs
    ∙ sym (orderly_fields_read_back kind fs h)
