-- A document that was read stays of its kind: an array an array, and a group a group.
use Rattle.std.proofs.Common.{◌≡◌, ℕ, Bool, true, false, ◌==◌, if◌then◌else◌, List, Ordering, Less, Equal, Greater}
use Rattle.std.proofs.Common.{Option, Some, None, codes, nat_cmp, refl, sym, ap, subst, ◌∙◌}
use Rattle.std.proofs.lemmas.Bool.{eqb-true}
use Rattle.std.proofs.lemmas.Cmp.{nat_list_cmp_total}
use Rattle.std.specs.Bool.{⊤}
use Rattle.std.specs.Cmp.Lexicographic.{slice_cmp}
use Rattle.std.specs.Ordering.{match_ordering}
use Rattle.serde_json.specs.Data.{unsigned, negative, float, Data, null, boolean, number, string, array, object}
use Rattle.serde_json.specs.Data.{Members, no_members, member, put}
use Rattle.serde_json.specs.Find.{get_member}
use Rattle.zarrs_metadata_values.specs.Forms.{first, second, or_second}
use Rattle.zarrs_metadata_values.specs.Reading.{◌>>=◌, without, is_number}
use Rattle.zarrs_metadata_values.specs.Rising.{IsBelowMembers, Rises, MembersRise}
use Rattle.zarrs_metadata_values.proofs.EachLemmas.{bind_some}
use Rattle.zarrs_metadata_values.proofs.FormLemmas.{object_of}
use Rattle.zarrs_metadata_values.proofs.PutLemmas.{same_key}
use Rattle.zarrs_metadata_values.proofs.RisingLemmas.{gone_later}
use Rattle.zarrs_metadata.specs.ArrayMetadata.{ArrayFields, array_fields_of}
use Rattle.zarrs_metadata.specs.GroupMetadata.{GroupFields, group_of}
use Rattle.zarrs_metadata_v2.specs.ArrayMetadataV2.{ArrayV2, array_v2_of}
use Rattle.zarrs_metadata_v2.specs.GroupMetadataV2.{group_v2_of, group_v2_members, group_v2_data}
use Rattle.zarrs_metadata_v2.proofs.Chunks.{has_chunks}
use Rattle.zarrs_metadata.specs.AnyGroup.{any_group_of}
use Rattle.zarrs_metadata.specs.AnyNode.{AnyNode, any_node_of, StaysItsKind}

-- ---- what is taken out and put again

below_too : (k l : List ℕ) (ms : Members) → slice_cmp nat_cmp k l ≡ Less → IsBelowMembers l ms → IsBelowMembers k ms
below_too k l no_members is h = tt
below_too k l (member m d ms) is h = (nat_list_cmp_total.trans k l m is h.0, below_too k l ms is h.1)

put_first : (k : List ℕ) (e : Data) (ms : Members) → IsBelowMembers k ms → put k e ms ≡ member k e ms
put_first k e no_members h = refl
put_first k e (member l d ms) h = rw (h.0) refl

put_back_at : (o : Ordering) (k l : List ℕ) (e d : Data) (ms : Members) → slice_cmp nat_cmp k l ≡ o →
    IsBelowMembers l ms → (get_member k ms ≡ Some e → put k e (without k ms) ≡ ms)
    → match_ordering o (get_member k ms) (Some d) (get_member k ms) ≡ Some e →
    put k e (match_ordering o (member l d (without k ms)) ms (member l d (without k ms))) ≡ member l d ms
put_back_at Less k l e d ms is below later h = let none : get_member k ms ≡ None =
    gone_later k ms (below_too k l ms is below) in absurd cc
put_back_at Equal k l e d ms is below later h =
    let same : k ≡ l = same_key k l is in
    let value : d ≡ e = cc in
    rw (same, value) (put_first l e ms below)
put_back_at Greater k l e d ms is below later h = rw is (ap (member l d) (later h))

put_back : (k : List ℕ) (e : Data) (ms : Members) → MembersRise ms → get_member k ms ≡ Some e →
    put k e (without k ms) ≡ ms
put_back k e no_members rises h = absurd cc
put_back k e (member l d ms) rises h =
    put_back_at (slice_cmp nat_cmp k l) k l e d ms refl rises.1 (put_back k e ms rises.2) h

-- ---- groups of version 2

abbrev told : Bool → Option ⊤
told b = if b then Some tt else None

two_at : (b : Bool) (n : ℕ) → (n == 2) ≡ b → told b ≡ Some tt → n ≡ 2
two_at true n is e = eqb-true n 2 is
two_at false n is e = absurd cc

is_two : (d : Data) → is_number 2 d ≡ Some tt → d ≡ number (unsigned 2)
unfolding is_number
is_two null e = absurd cc
is_two (boolean b) e = absurd cc
is_two (number (unsigned n)) e = ap (λ m. number (unsigned m)) (two_at (n == 2) n refl e)
is_two (number (negative z)) e = absurd cc
is_two (number (float x)) e = absurd cc
is_two (string s) e = absurd cc
is_two (array ds) e = absurd cc
is_two (object ms) e = absurd cc

same_members : (ms attributes : Members) → MembersRise ms → group_v2_members ms ≡ Some attributes →
    group_v2_data attributes ≡ object ms
unfolding group_v2_members
same_members ms attributes rises e =
    let a = bind_some (get_member (codes "zarr_format") ms >>= is_number 2) _ attributes e in
    let b = bind_some (get_member (codes "zarr_format") ms) (is_number 2) a.0 a.1 in
    let is : without (codes "zarr_format") ms ≡ attributes = cc in
    let two : get_member (codes "zarr_format") ms ≡ Some (number (unsigned 2)) = b.1 ∙ ap Some (is_two b.0 b.2) in
    rw (← is) (ap object (put_back (codes "zarr_format") (number (unsigned 2)) ms rises two))

-- what is written for a group that was read is what was read
same_document : (d : Data) (attributes : Members) → Rises d → group_v2_of d ≡ Some attributes →
    group_v2_data attributes ≡ d
same_document d attributes rises e =
    let o = object_of group_v2_members d attributes e in
    same_members o.0 attributes (subst Rises o.1 rises) o.2 ∙ sym o.1

-- ---- of either version

group_v2_kind : (d : Data) (n : AnyNode) → Rises d → array_v2_of d ≡ None →
    ((group_v2_of d >>= λ g. Some (second g)) >>= λ g. Some (second g)) ≡ Some n → StaysItsKind n
group_v2_kind d n rises none e =
    let a = bind_some (group_v2_of d >>= λ g. Some (second g)) _ n e in
    let b = bind_some (group_v2_of d) _ a.0 a.1 in
    let is : second (second b.0) ≡ n = cc in
    rw (← is) (ap array_v2_of (same_document d b.0 rises b.1) ∙ none)

group_kind : (o : Option GroupFields) (d : Data) (n : AnyNode) → Rises d → array_v2_of d ≡ None →
    (or_second (group_v2_of d) o >>= λ g. Some (second g)) ≡ Some n → StaysItsKind n
group_kind (Some g) d n rises none e = let is : second (first g) ≡ n = cc in rw (← is) tt
group_kind None d n rises none e = group_v2_kind d n rises none e

array_v2_kind : (o : Option ArrayV2) (d : Data) (n : AnyNode) → Rises d → array_v2_of d ≡ o →
    or_second (any_group_of d) (o >>= λ f. Some (second f)) ≡ Some n → StaysItsKind n
array_v2_kind (Some f) d n rises same e = let is : first (second f) ≡ n = cc in rw (← is) (has_chunks d f same)
array_v2_kind None d n rises same e = group_kind (group_of d) d n rises same e

array_kind : (o : Option ArrayFields) (d : Data) (n : AnyNode) → Rises d →
    or_second (any_group_of d) (or_second (array_v2_of d) o) ≡ Some n → StaysItsKind n
array_kind (Some f) d n rises e = let is : first (first f) ≡ n = cc in rw (← is) tt
array_kind None d n rises e = array_v2_kind (array_v2_of d) d n rises refl e

pub read_stays_its_kind : (d : Data) (n : AnyNode) → Rises d → any_node_of d ≡ Some n → StaysItsKind n
read_stays_its_kind d n rises e = array_kind (array_fields_of d) d n rises e
