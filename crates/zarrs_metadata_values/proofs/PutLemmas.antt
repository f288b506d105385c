-- Members that are put into an object, and looked up or taken out again.
use Rattle.std.proofs.Common.{◌≡◌, ℕ, List, Ordering, Less, Equal, Greater, Option, Some, None, true, false, nat_cmp}
use Rattle.std.proofs.Common.{is_eq, refl, sym, ap, ◌∙◌}
use Rattle.std.proofs.lemmas.Cmp.{nat_list_cmp_total, tied_itself}
use Rattle.std.proofs.lemmas.Map.Text.{is_eq-slice_cmp}
use Rattle.std.proofs.lemmas.Slice.Eq.{bytes_eq-Decides}
use Rattle.std.specs.Cmp.Lexicographic.{slice_cmp}
use Rattle.std.specs.Ordering.{match_ordering}
use Rattle.serde_json.specs.Data.{Data, Members, no_members, member, put}
use Rattle.serde_json.specs.Find.{get_member}
use Rattle.serde_json.proofs.Views.{get_member-put, get_member-put_other}
use Rattle.zarrs_metadata_values.specs.Reading.{without}

pub same_text : (k : List ℕ) → slice_cmp nat_cmp k k ≡ Equal
same_text k = tied_itself nat_list_cmp_total k

-- texts that compare as equal are equal
pub same_key : (k l : List ℕ) → slice_cmp nat_cmp k l ≡ Equal → k ≡ l
same_key k l is = (bytes_eq-Decides k l).0 (sym (is_eq-slice_cmp k l) ∙ ap is_eq is)

apart : (o : Ordering) (q k : List ℕ) → slice_cmp nat_cmp q k ≡ o → is_eq o ≡ false → q ≡ k → ⊥
apart o q k is other same = let e : is_eq (slice_cmp nat_cmp q k) ≡ true = rw (same, same_text) refl in absurd cc

look_at : (o : Ordering) (q k : List ℕ) (d : Data) (ms : Members) → slice_cmp nat_cmp q k ≡ o →
    get_member q (put k d ms) ≡ match_ordering o (get_member q ms) (Some d) (get_member q ms)
look_at Less q k d ms is = get_member-put_other q k d ms (apart Less q k is refl)
look_at Equal q k d ms is = rw (same_key q k is) (get_member-put k d ms)
look_at Greater q k d ms is = get_member-put_other q k d ms (apart Greater q k is refl)

-- what is found after a put
pub look : (q k : List ℕ) (d : Data) (ms : Members) →
    get_member q (put k d ms) ≡ match_ordering (slice_cmp nat_cmp q k) (get_member q ms) (Some d) (get_member q ms)
look q k d ms = look_at _ q k d ms refl

none_at : (o : Ordering) (e : Data) (rest : Option Data) → match_ordering o rest (Some e) rest ≡ None →
    (rest ≡ None) × (o ≡ Equal → ⊥)
none_at Less e rest h = (h, λ x. absurd cc)
none_at Equal e rest h = absurd cc
none_at Greater e rest h = (h, λ x. absurd cc)

without-put_at : (o : Ordering) (k l : List ℕ) (d e : Data) (ms : Members) → slice_cmp nat_cmp k l ≡ o →
    (o ≡ Equal → ⊥) → without k (put k d ms) ≡ ms
    →
    without k (match_ordering o (member k d (member l e ms)) (member l d ms) (member l e (put k d ms))) ≡ member l e ms
without-put_at Less k l d e ms is other later = rw same_text
without-put_at Equal k l d e ms is other later = absurd (other refl)
without-put_at Greater k l d e ms is other later = rw (is, later)

-- what was put where nothing was is taken out again
pub without-put : (k : List ℕ) (d : Data) (ms : Members) → get_member k ms ≡ None → without k (put k d ms) ≡ ms
without-put k d no_members h = rw same_text
without-put k d (member l e ms) h =
    let n = none_at (slice_cmp nat_cmp k l) e (get_member k ms) h in
    without-put_at _ k l d e ms refl n.1 (without-put k d ms n.0)
