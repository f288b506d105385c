-- Members that are put only where they are not empty.
use Rattle.std.proofs.Common.{◌≡◌, ℕ, List, Ordering, Less, Equal, Greater, Option, Some, None, nat_cmp, refl, sym}
use Rattle.std.specs.Cmp.Lexicographic.{slice_cmp}
use Rattle.std.specs.Ordering.{match_ordering}
use Rattle.serde_json.specs.Data.{Data, object, Members, no_members, member}
use Rattle.serde_json.specs.Find.{get_member}
use Rattle.zarrs_metadata_values.specs.Reading.{object_or_empty}
use Rattle.zarrs_metadata_values.specs.Writing.{put_object}
use Rattle.zarrs_metadata_values.proofs.PutLemmas.{look}

-- what is found either way
pub either_way : (o : Ordering) (x : Option Data) → match_ordering o x x x ≡ x
either_way Less x = refl
either_way Equal x = refl
either_way Greater x = refl

-- what is found after them
abbrev pub object_found : Members → Option Data → Option Data
object_found no_members before = before
object_found (member k d ms) before = Some (object (member k d ms))

pub look_object : (q k : List ℕ) (ns ms : Members) → get_member q (put_object k ns ms) ≡
    match_ordering (slice_cmp nat_cmp q k) (get_member q ms) (object_found ns (get_member q ms)) (get_member q ms)
look_object q k no_members ms = sym (either_way (slice_cmp nat_cmp q k) (get_member q ms))
look_object q k (member l e ns) ms = look q k (object (member l e ns)) ms

pub object_back : (ns : Members) → object_or_empty (object_found ns None) ≡ Some ns
unfolding object_or_empty
object_back no_members = refl
object_back (member k d ns) = refl
