-- Members with rising keys: those of a map, and what is taken out of them.
use Rattle.std.proofs.Common.{◌≡◌, ℕ, List, [], ◌∷◌, Ordering, Less, Equal, Greater, None, String, Global, string_bytes}
use Rattle.std.proofs.Common.{string_cmp, nat_cmp, refl}
use Rattle.std.specs.Cmp.Lexicographic.{slice_cmp}
use Rattle.std.specs.List.{AllByRecursion}
use Rattle.std.specs.List.Sorted.{IsStrictlySortedBy}
use Rattle.std.specs.Map.{keys_of}
use Rattle.std.specs.Ordering.{match_ordering}
use Rattle.serde_json.specs.Data.{Data, Members, no_members, member}
use Rattle.serde_json.specs.Find.{get_member}
use Rattle.serde_json.specs.View.{view, members_view}
use Rattle.serde_json.proofs.Views.{Entry}
use Rattle.zarrs_metadata_values.specs.Reading.{without}
use Rattle.zarrs_metadata_values.specs.Rising.{IsBelowMembers, Rises, MembersRise}
use Rattle.zarrs_metadata_values.proofs.PutLemmas.{same_key}

below_members : (k : String Global) (es : List Entry) → AllByRecursion (λ y. string_cmp k y ≡ Less) (keys_of es) →
    IsBelowMembers (string_bytes k) (members_view es)
below_members k [] h = tt
below_members k (e ∷ es) h = (h.0, below_members k es h.1)

-- one more entry of a map, before the others
pub member_rises : (e : Entry) (es : List Entry) → IsStrictlySortedBy string_cmp (keys_of (e ∷ es)) → Rises (view e.1) →
    MembersRise (members_view es) → MembersRise (members_view (e ∷ es))
unfolding IsStrictlySortedBy
member_rises e es sorted rises others = (rises, below_members e.0 es sorted.0, others)

pub later_sorted : (e : Entry) (es : List Entry) → IsStrictlySortedBy string_cmp (keys_of (e ∷ es)) →
    IsStrictlySortedBy string_cmp (keys_of es)
unfolding IsStrictlySortedBy
later_sorted e es sorted = sorted.1

-- a key below all is not there
pub gone_later : (k : List ℕ) (ms : Members) → IsBelowMembers k ms → get_member k ms ≡ None
gone_later k no_members h = refl
gone_later k (member l e ms) h = rw (h.0, gone_later k ms h.1)

gone_at : (o : Ordering) (k l : List ℕ) (e : Data) (ms : Members) → slice_cmp nat_cmp k l ≡ o → IsBelowMembers l ms →
    get_member k (without k ms) ≡ None
    → get_member k (match_ordering o (member l e (without k ms)) ms (member l e (without k ms))) ≡ None
gone_at Less k l e ms is below later = rw (is, later)
gone_at Equal k l e ms is below later = rw (same_key k l is) (gone_later l ms below)
gone_at Greater k l e ms is below later = rw (is, later)

pub gone : (k : List ℕ) (ms : Members) → MembersRise ms → get_member k (without k ms) ≡ None
gone k no_members h = refl
gone k (member l e ms) h = gone_at _ k l e ms refl h.1 (gone k ms h.2)
