-- Maps of JSON values beside the members that they stand for.
use Rattle.std.proofs.Common.{◌≡◌, ℕ, List, [], ◌∷◌, cond, Ordering, Less, Equal, Greater, string_bytes, nat_cmp, is_eq}
use Rattle.std.proofs.Common.{refl, ap, ◌∙◌}
use Rattle.std.specs.List.{AllZip}
use Rattle.std.specs.Ordering.{match_ordering}
use Rattle.std.specs.Cmp.Lexicographic.{slice_cmp}
use Rattle.std.specs.Map.{remove_entry}
use Rattle.std.specs.BTreeMap.{is_at}
use Rattle.serde_json.specs.Data.{member}
use Rattle.serde_json.specs.View.{view, members_view}
use Rattle.serde_json.proofs.Views.{Entry}
use Rattle.zarrs_metadata_values.specs.Reading.{without}

pub members_view-clone : (es fs : List Entry) → AllZip (λ p q. (string_bytes q.0 ≡ string_bytes p.0) ×
    (view q.1 ≡ view p.1)) es fs → members_view fs ≡ members_view es
members_view-clone [] [] h = refl
members_view-clone [] (f ∷ fs) h = absurd h
members_view-clone (e ∷ es) [] h = absurd h
members_view-clone (e ∷ es) (f ∷ fs) h =
    rw (h.0.0, h.0.1) (ap (member (string_bytes e.0) (view e.1)) (members_view-clone es fs h.1))

without_at : (o : Ordering) (e : Entry) (es rest : List Entry) → members_view (cond (is_eq o) es (e ∷ rest)) ≡
    match_ordering o (member (string_bytes e.0) (view e.1) (members_view rest)) (members_view es)
    (member (string_bytes e.0) (view e.1) (members_view rest))
without_at Less e es rest = refl
without_at Equal e es rest = refl
without_at Greater e es rest = refl

pub members_view-remove_entry : (k : List ℕ) (es : List Entry) →
    members_view (remove_entry (is_at (λ s. slice_cmp nat_cmp k (string_bytes s))) es) ≡ without k (members_view es)
members_view-remove_entry k [] = refl
members_view-remove_entry k (e ∷ es) =
    without_at (slice_cmp nat_cmp k (string_bytes e.0)) e es _ ∙ rw (members_view-remove_entry k es)
