-- What holds of each member of an object: of those that were put into it, and of one that is found.
use Rattle.std.proofs.Common.{◌≡◌, ℕ, ◌≤◌, Bool, true, false, ◌||◌, List, Ordering, Less, Equal, Greater, Option, Some}
use Rattle.std.proofs.Common.{nat_cmp, refl, subst, arith}
use Rattle.std.specs.Cmp.Lexicographic.{slice_cmp}
use Rattle.std.specs.Ordering.{match_ordering}
use Rattle.serde_json.specs.Data.{Data, object, Members, no_members, member, put, depth, members_depth}
use Rattle.serde_json.specs.Find.{get_member}
use Rattle.serde_json.specs.Written.{has_float, members_have_float}
use Rattle.zarrs_metadata_values.specs.Writing.{put_object}

abbrev pub AllMembers : (Data → Type 0) → Members → Type 0
AllMembers P no_members = Unit {0}
AllMembers P (member k d ms) = P d × AllMembers P ms

module _ (P : Data → Type 0) where
  put_at : (o : Ordering) (a b c : Members) → AllMembers P a → AllMembers P b → AllMembers P c →
      AllMembers P (match_ordering o a b c)
  put_at Less a b c x y z = x
  put_at Equal a b c x y z = y
  put_at Greater a b c x y z = z

  pub all_put : (k : List ℕ) (d : Data) (ms : Members) → P d → AllMembers P ms → AllMembers P (put k d ms)
  all_put k d no_members h all = (h, tt)
  all_put k d (member l e ms) h all =
      put_at (slice_cmp nat_cmp k l) (member k d (member l e ms)) (member l d ms) (member l e (put k d ms)) (h, all)
      (h, all.1) (all.0, all_put k d ms h all.1)

  pub all_put_object : (k : List ℕ) (ns ms : Members) → P (object ns) → AllMembers P ms →
      AllMembers P (put_object k ns ms)
  all_put_object k no_members ms h all = all
  all_put_object k (member l e ns) ms h all = all_put k (object (member l e ns)) ms h all

  found_at : (o : Ordering) (e : Data) (rest : Option Data) (d : Data) → P e → (rest ≡ Some d → P d) →
      match_ordering o rest (Some e) rest ≡ Some d → P d
  found_at Less e rest d h later is = later is
  found_at Equal e rest d h later is = let same : e ≡ d = cc in subst P same h
  found_at Greater e rest d h later is = later is

  pub all_found : (k : List ℕ) (ms : Members) (d : Data) → AllMembers P ms → get_member k ms ≡ Some d → P d
  all_found k no_members d all is = absurd cc
  all_found k (member l e ms) d all is =
      found_at (slice_cmp nat_cmp k l) e (get_member k ms) d all.0 (all_found k ms d all.1) is

-- a value without floats
abbrev pub IsWhole : Data → Type 0
IsWhole d = has_float d ≡ false

pub neither : (a b : Bool) → a ≡ false → b ≡ false → (a || b) ≡ false
neither a b h i = rw (h, i) refl

both : (a b : Bool) → (a || b) ≡ false → (a ≡ false) × (b ≡ false)
both true b h = absurd cc
both false b h = (refl, h)

pub all_whole : (ms : Members) → members_have_float ms ≡ false → AllMembers IsWhole ms
all_whole no_members h = tt
all_whole (member k d ms) h = let parts = both (has_float d) (members_have_float ms) h in
    (parts.0, all_whole ms parts.1)

pub whole_of : (ms : Members) → AllMembers IsWhole ms → members_have_float ms ≡ false
whole_of no_members all = refl
whole_of (member k d ms) all = neither (has_float d) (members_have_float ms) all.0 (whole_of ms all.1)

-- a value that nests no deeper than this
abbrev pub IsWithin : ℕ → Data → Type 0
IsWithin n d = depth d ≤ n

pub all_within : (n : ℕ) (ms : Members) → members_depth ms ≤ n → AllMembers (IsWithin n) ms
all_within n no_members h = tt
all_within n (member k d ms) h = (omega arith, all_within n ms (omega arith))

pub within_of : (n : ℕ) (ms : Members) → AllMembers (IsWithin n) ms → members_depth ms ≤ n
within_of n no_members all = omega arith
within_of n (member k d ms) all = let here = all.0 in let later = within_of n ms all.1 in omega (arith, here, later)
