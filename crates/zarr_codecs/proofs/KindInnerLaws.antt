-- The codec inside another: its configuration nests less deep, so it is found by its own name.
use Rattle.std.proofs.Common.{◌≡◌, ℕ, zero, suc, ◌<◌, ◌≤◌, max, List, codes, bytes_eq, Ordering, Less, Equal, Greater}
use Rattle.std.proofs.Common.{nat_cmp, Option, Some, None, Ok, if◌then◌else◌, Bool, true, false, refl, ap, subst, arith}
use Rattle.std.specs.Ordering.{match_ordering}
use Rattle.std.specs.Cmp.Lexicographic.{slice_cmp}
use Rattle.serde_json.specs.Data.{Data, null, boolean, number, string, array, object, Members, no_members, member}
use Rattle.serde_json.specs.Data.{depth, members_depth}
use Rattle.serde_json.specs.Find.{get_member, as_str}
use Rattle.zarrs_metadata_values.specs.Reading.{◌>>=◌, boolean_or, optional_object}
use Rattle.zarrs_metadata_parts.specs.MetadataV3.{Extension, extension_of, object_extension, has_only_extension_keys}
use Rattle.zarrs_plugin.specs.Registry.{Names, find}
use Rattle.zarrs_metadata_parts.specs.Making.{or_config}
use Rattle.zarr_codecs.specs.Inner.{inner_in}
use Rattle.zarr_codecs.specs.CodecForm.{optional_over, optional_form_by, form_by, nesting, form_within, codec_named}
use Rattle.zarr_codecs.specs.declared.codec_kind.CodecKind.{CodecKind}
use Rattle.zarr_codecs.specs.declared.codec_kind.CodecKind.TheVariants as kind

-- a value nests less deep than the object that it stands in
member_within : (k : List ℕ) (ms : Members) (d : Data) → get_member k ms ≡ Some d → depth d ≤ members_depth ms
member_within k no_members d e = cc
member_within k (member l x ms) d e = go (member_within k ms d) (slice_cmp nat_cmp k l) e
  where
    later : (get_member k ms ≡ Some d → depth d ≤ members_depth ms) → get_member k ms ≡ Some d →
        depth d ≤ max (depth x) (members_depth ms)
    later rest e = let below = rest e in omega (arith, below)

    go : (get_member k ms ≡ Some d → depth d ≤ members_depth ms) → (o : Ordering) → match_ordering o (get_member k ms)
        (Some x) (get_member k ms) ≡ Some d → depth d ≤ max (depth x) (members_depth ms)
    go rest Less e = later rest e
    go rest Equal e = let same : x ≡ d = cc in
        subst (λ y. depth y ≤ max (depth x) (members_depth ms)) same (omega arith)
    go rest Greater e = later rest e

configuration_within : (ms : Members) (found : Option Data) (c : Option Members) →
    get_member (codes "configuration") ms ≡ found → optional_object found ≡ Some c → nesting c < suc (members_depth ms)
configuration_within ms None None is e = omega arith
configuration_within ms None (Some cs) is e = cc
configuration_within ms (Some null) None is e = omega arith
configuration_within ms (Some null) (Some cs) is e = cc
configuration_within ms (Some (boolean b)) c is e = cc
configuration_within ms (Some (number n)) c is e = cc
configuration_within ms (Some (string s)) c is e = cc
configuration_within ms (Some (array ds)) c is e = cc
configuration_within ms (Some (object cs)) c is e =
    let same : Some cs ≡ c = cc in
    let below = member_within (codes "configuration") ms (object cs) is in
    subst (λ d. nesting d < suc (members_depth ms)) same (omega (arith, below))

object_within : (ms : Members) (e : Extension) → object_extension ms ≡ Some e →
    nesting e.configuration < suc (members_depth ms)
unfolding object_extension
object_within ms e is =
    go (get_member (codes "name") ms >>= as_str) (optional_object (get_member (codes "configuration") ms))
    (boolean_or true (get_member (codes "must_understand") ms)) (has_only_extension_keys ms) refl is
  where
    go : (name : Option (List ℕ)) (c : Option (Option Members)) (must : Option Bool) (only : Bool) →
        optional_object (get_member (codes "configuration") ms) ≡ c
        → (name >>= λ name. c >>= λ configuration. must >>= λ must_understand. if only then Some
        (record { name = name; configuration = configuration; must_understand = must_understand }) else None) ≡ Some e
        → nesting e.configuration < suc (members_depth ms)
    go None c must only found is = cc
    go (Some name) None must only found is = cc
    go (Some name) (Some c) None only found is = cc
    go (Some name) (Some c) (Some must) false found is = cc
    go (Some name) (Some c) (Some must) true found is =
        let same : record { name = name; configuration = c; must_understand = must } ≡ e = cc in
        subst (λ (x : Extension). nesting x.configuration < suc (members_depth ms)) same
        (configuration_within ms (get_member (codes "configuration") ms) c refl found)

extension_within : (d : Data) (e : Extension) → extension_of d ≡ Some e → nesting e.configuration < suc (depth d)
unfolding extension_of
extension_within null e is = cc
extension_within (boolean b) e is = cc
extension_within (number n) e is = cc
extension_within (string s) e is =
    let same : record { name = s; configuration = None; must_understand = true } ≡ e = cc in
    subst (λ (x : Extension). nesting x.configuration < 1) same (omega arith)
extension_within (array ds) e is = cc
extension_within (object ms) e is = let below = object_within ms e is in omega (arith, below)

-- a configuration nests deeper than that of the codec inside
pub inner_within : (c : Option Members) (e : Extension) → inner_in c ≡ Some e → nesting e.configuration < nesting c
unfolding inner_in
inner_within None e is = cc
inner_within (Some no_members) e is = cc
inner_within (Some (member k d no_members)) e is = go (bytes_eq k (codes "inner")) is
  where
    go : (b : Bool) → ((if b then Some d else None) >>= extension_of) ≡ Some e →
        nesting e.configuration < suc (max (depth d) 0)
    go true is = let below = extension_within d e is in omega (arith, below)
    go false is = cc
inner_within (Some (member k d (member l x ms))) e is = cc

-- so levels enough give the codec that its name says
same_within : (n m : ℕ) (names : Names CodecKind) (e : Extension) → nesting e.configuration < n →
    nesting e.configuration < m → form_within n names e ≡ form_within m names e
same_within zero m names e few some = absurd (omega (arith, few))
same_within (suc n) zero names e few some = absurd (omega (arith, some))
same_within (suc n) (suc m) names e few some = go (same_within n m names) (find e.name names)
  where
    Same : Type 0
    Same = (x : Extension) → nesting x.configuration < n → nesting x.configuration < m →
        form_within n names x ≡ form_within m names x

    inner : Same → (i : Option Extension) → inner_in e.configuration ≡ i →
        optional_form_by (form_within n names) i ≡ optional_form_by (form_within m names) i
    inner same None is = refl
    inner same (Some x) is =
        let below = inner_within e.configuration x is in
        ap optional_over (same x (omega (arith, below, few)) (omega (arith, below, some)))

    go : Same → (found : Option CodecKind) →
        form_by (form_within n names) found e ≡ form_by (form_within m names) found e
    go same None = refl
    go same (Some kind.Bytes) = refl
    go same (Some kind.VlenUtf8) = refl
    go same (Some kind.VlenBytes) = refl
    go same (Some kind.Optional) = inner same (inner_in e.configuration) refl
    go same (Some kind.Offset) = refl
    go same (Some kind.Transpose) = refl
    go same (Some kind.Sha256) = refl

pub inner_named : (names : Names CodecKind) (c : Option Members) (e : Extension) → inner_in c ≡ Some e →
    optional_form_by (form_within (nesting c) names) (inner_in c) ≡ optional_over (codec_named names e)
inner_named names c e is =
    let below = inner_within c e is in
    rw is (ap optional_over (same_within (nesting c) (suc (nesting e.configuration)) names e below (omega arith)))

-- what is read of a configuration
pub some_form : {Y : Type 0} (o : Option Y) (y : Y) → or_config o ≡ Ok y → o ≡ Some y
some_form (Some x) y e = cc
some_form None y e = cc
