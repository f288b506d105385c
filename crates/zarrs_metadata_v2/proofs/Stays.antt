-- A version 2 document that was read is the same when it is written and read again.
use Rattle.std.proofs.Common.{◌≡◌, ℕ, List, [], ◌∷◌, map, Ordering, Less, Equal, Greater, Option, Some, None, Result}
use Rattle.std.proofs.Common.{Ok, Err, IfOk, codes, nat_cmp, refl, ap, subst}
use Rattle.std.specs.Cmp.Lexicographic.{slice_cmp}
use Rattle.std.specs.Ordering.{match_ordering}
use Rattle.serde_json.specs.Data.{Data, null, boolean, number, string, array, object, unsigned, Items, no_items, item}
use Rattle.serde_json.specs.Data.{Members, no_members, member}
use Rattle.serde_json.specs.Find.{get_member}
use Rattle.zarrs_metadata_values.specs.Reading.{◌>>=◌, each, without, is_number, object_or_empty, Reads}
use Rattle.zarrs_metadata_values.specs.Rising.{Rises, ItemsRise, MembersRise}
use Rattle.zarrs_metadata_values.specs.declared.error.MetadataError.{MetadataError}
use Rattle.zarrs_metadata_values.proofs.EachLemmas.{bind_some}
use Rattle.zarrs_metadata_values.proofs.FormLemmas.{object_of}
use Rattle.zarrs_metadata_values.proofs.PutLemmas.{without-put}
use Rattle.zarrs_metadata_values.proofs.RisingLemmas.{gone}
use Rattle.zarrs_metadata_parts.specs.MetadataV2.{CodecV2, codec_v2_of, codec_v2_members}
use Rattle.zarrs_metadata_parts.proofs.RisingLemmasV2.{members_without_id}
use Rattle.zarrs_metadata_v2.specs.CodecsV2.{unless_empty, present_filters, compressor_of, filters_of, normal_codec_v2}
use Rattle.zarrs_metadata_v2.specs.CodecsV2.{normal_compressor, normal_filters}
use Rattle.zarrs_metadata_v2.specs.ArrayMetadataV2.{ArrayV2, OptionalV2, array_v2_seen, dimension_separator_of}
use Rattle.zarrs_metadata_v2.specs.ArrayMetadataV2.{required_v2, optional_v2, array_v2_members}
use Rattle.zarrs_metadata_v2.specs.ArrayMetadataV2.{array_v2_of, normal_array_v2}
use Rattle.zarrs_metadata_v2.specs.GroupMetadataV2.{group_v2_seen, group_v2_of, group_v2_members, normal_group_v2}
use Rattle.zarrs_metadata_v2.specs.declared.array.ArrayMetadataV2.{ArrayMetadataV2}
use Rattle.zarrs_metadata_v2.specs.declared.group.GroupMetadataV2.{GroupMetadataV2}

-- ---- members of a value with rising keys

abbrev IfRises : Option Data → Type 0
IfRises None = Unit {0}
IfRises (Some d) = Rises d

found_at : (o : Ordering) (e : Data) (rest : Option Data) → Rises e → IfRises rest →
    IfRises (match_ordering o rest (Some e) rest)
found_at Less e rest h later = later
found_at Equal e rest h later = h
found_at Greater e rest h later = later

found_rises : (k : List ℕ) (ms : Members) → MembersRise ms → IfRises (get_member k ms)
found_rises k no_members h = tt
found_rises k (member l e ms) h = found_at (slice_cmp nat_cmp k l) e (get_member k ms) h.0 (found_rises k ms h.2)

-- ---- codecs

codec_same : (ms : Members) (c : CodecV2) → MembersRise ms → codec_v2_members ms ≡ Some c → normal_codec_v2 c ≡ c
codec_same ms c h e =
    rw (without-put (codes "id") (string c.id) c.configuration (members_without_id ms c h e)) refl

codec_stays : (d : Data) (c : CodecV2) → Rises d → codec_v2_of d ≡ Some c → normal_codec_v2 c ≡ c
codec_stays d c h e = let o = object_of codec_v2_members d c e in codec_same o.0 c (subst Rises o.1 h) o.2

codecs_stay : (ds : Items) (cs : List CodecV2) → ItemsRise ds → each codec_v2_of ds ≡ Some cs →
    map normal_codec_v2 cs ≡ cs
codecs_stay no_items cs h e = let is : [] ≡ cs = cc in rw (← is) refl
codecs_stay (item d ds) cs h e =
    let a = bind_some (codec_v2_of d) _ cs e in
    let b = bind_some (each codec_v2_of ds) _ cs a.2 in
    let is : a.0 ∷ b.0 ≡ cs = cc in
    rw (← is, codec_stays d a.0 h.0 a.1, codecs_stay ds b.0 h.1 b.1) refl

compressor_stays : (o : Option Data) (c : Option CodecV2) → IfRises o → compressor_of o ≡ Some c →
    normal_compressor c ≡ c
compressor_stays None c h e = let is : None ≡ c = cc in rw (← is) refl
compressor_stays (Some null) c h e = let is : None ≡ c = cc in rw (← is) refl
compressor_stays (Some (boolean b)) c h e = absurd cc
compressor_stays (Some (number n)) c h e = absurd cc
compressor_stays (Some (string s)) c h e = absurd cc
compressor_stays (Some (array ds)) c h e = absurd cc
compressor_stays (Some (object ms)) c h e =
    let a = bind_some (codec_v2_members ms) _ c e in
    let is : Some a.0 ≡ c = cc in
    rw (← is, codec_same ms a.0 h a.1) refl

normal_present : (cs : List CodecV2) → map normal_codec_v2 cs ≡ cs → normal_filters (unless_empty cs) ≡ unless_empty cs
normal_present [] h = refl
normal_present (c ∷ cs) h = ap Some h

filters_stay : (o : Option Data) (c : Option (List CodecV2)) → IfRises o → filters_of o ≡ Some c → normal_filters c ≡ c
filters_stay None c h e = let is : None ≡ c = cc in rw (← is) refl
filters_stay (Some null) c h e = let is : None ≡ c = cc in rw (← is) refl
filters_stay (Some (boolean b)) c h e = absurd cc
filters_stay (Some (number n)) c h e = absurd cc
filters_stay (Some (string s)) c h e = absurd cc
filters_stay (Some (array ds)) c h e =
    let a = bind_some (each codec_v2_of ds >>= λ cs. Some (Some cs)) _ c e in
    let b = bind_some (each codec_v2_of ds) _ a.0 a.1 in
    let some : Some b.0 ≡ a.0 = cc in
    let is : present_filters a.0 ≡ c = cc in
    rw (← is, ← some) (normal_present b.0 (codecs_stay ds b.0 h b.1))
filters_stay (Some (object ms)) c h e = absurd cc

-- ---- arrays

optional_stay : (ms : Members) (o : OptionalV2) → MembersRise ms → optional_v2 ms ≡ Some o →
    (normal_compressor o.compressor ≡ o.compressor) × (normal_filters o.filters ≡ o.filters)
unfolding optional_v2
optional_stay ms o h e =
    let a = bind_some (dimension_separator_of (get_member (codes "dimension_separator") ms)) _ o e in
    let b = bind_some (compressor_of (get_member (codes "compressor") ms)) _ o a.2 in
    let c = bind_some (filters_of (get_member (codes "filters") ms)) _ o b.2 in
    let d = bind_some (object_or_empty (get_member (codes "attributes") ms)) _ o c.2 in
    let same = d.2 in
    let compressor : o.compressor ≡ b.0 = cc in
    let filters : o.filters ≡ c.0 = cc in (
      rw compressor
          (compressor_stays (get_member (codes "compressor") ms) b.0 (found_rises (codes "compressor") ms h) b.1),
      rw filters (filters_stay (get_member (codes "filters") ms) c.0 (found_rises (codes "filters") ms h) c.1),
    )

array_same : (ms : Members) (f : ArrayV2) → MembersRise ms → array_v2_members ms ≡ Some f → normal_array_v2 f ≡ f
unfolding array_v2_members
array_same ms f h e =
    let a = bind_some (get_member (codes "zarr_format") ms >>= is_number 2) _ f e in
    let b = bind_some (required_v2 ms) _ f a.2 in
    let c = bind_some (optional_v2 ms) _ f b.2 in
    let same = c.2 in
    let parts = optional_stay ms c.0 h c.1 in
    let compressor : f.compressor ≡ (c.0).compressor = cc in
    let filters : f.filters ≡ (c.0).filters = cc in
    let first : normal_compressor f.compressor ≡ f.compressor = rw compressor parts.0 in
    let second : normal_filters f.filters ≡ f.filters = rw filters parts.1 in
    rw (first, second) refl

-- an array that was read
pub array_v2_stays : (d : Data) (f : ArrayV2) → Rises d → array_v2_of d ≡ Some f → normal_array_v2 f ≡ f
array_v2_stays d f h e = let o = object_of array_v2_members d f e in array_same o.0 f (subst Rises o.1 h) o.2

-- ---- groups

group_same : (ms attributes : Members) → MembersRise ms → group_v2_members ms ≡ Some attributes →
    normal_group_v2 attributes ≡ attributes
unfolding group_v2_members
group_same ms attributes h e =
    let a = bind_some (get_member (codes "zarr_format") ms >>= is_number 2) _ attributes e in
    let is : without (codes "zarr_format") ms ≡ attributes = cc in
    rw (← is) (without-put (codes "zarr_format") (number (unsigned 2)) (without (codes "zarr_format") ms)
    (gone (codes "zarr_format") ms h))

-- a group that was read
pub group_v2_stays : (d : Data) (attributes : Members) → Rises d → group_v2_of d ≡ Some attributes →
    normal_group_v2 attributes ≡ attributes
group_v2_stays d attributes h e =
    let o = object_of group_v2_members d attributes e in
    group_same o.0 attributes (subst Rises o.1 h) o.2

-- ---- what a reader returned

pub read_array_stays : (d : Data) (r : Result ArrayMetadataV2 MetadataError) → Rises d →
    Reads array_v2_seen r (array_v2_of d) → IfOk r (λ a. normal_array_v2 (array_v2_seen a) ≡ array_v2_seen a)
read_array_stays d (Ok a) h e = array_v2_stays d (array_v2_seen a) h e
read_array_stays d (Err e) h is = tt

pub read_group_stays : (d : Data) (r : Result GroupMetadataV2 MetadataError) → Rises d →
    Reads group_v2_seen r (group_v2_of d) → IfOk r (λ g. normal_group_v2 (group_v2_seen g) ≡ group_v2_seen g)
read_group_stays d (Ok g) h e = group_v2_stays d (group_v2_seen g) h e
read_group_stays d (Err e) h is = tt
