-- Entries by their places.
use Rattle.std.proofs.Common.{◌≡◌, ℕ, zero, suc, ◌<◌, ◌≤◌, false, is_some, List, [], ◌∷◌, length, get_or, set, Option}
use Rattle.std.proofs.Common.{Some, None, option_map, refl, ap, arith}
use Rattle.zarrs_plugin.specs.declared.registry.Entry.{Entry}
use Rattle.zarrs_plugin.specs.Registry.{entry_of, registered_of, has_entry, remove_at}

pub has_entry-at : {K : Type 0} (es : List (Option (Entry K))) (i : ℕ) (e : Option (Entry K)) → i < length es →
    e ≡ get_or es i e → is_some e ≡ has_entry i (registered_of es)
has_entry-at [] i e lt is = absurd (omega arith)
has_entry-at (None ∷ es) zero e lt is = rw is refl
has_entry-at (Some x ∷ es) zero e lt is = rw is refl
has_entry-at (x ∷ es) (suc i) e lt is = has_entry-at es i e (omega arith) is

pub has_entry-past : {K : Type 0} (es : List (Option (Entry K))) (i : ℕ) → length es ≤ i →
    false ≡ has_entry i (registered_of es)
has_entry-past [] i le = refl
has_entry-past (x ∷ es) zero le = absurd (omega arith)
has_entry-past (x ∷ es) (suc i) le = has_entry-past es i (omega arith)

pub remove_at-set : {K : Type 0} (es : List (Option (Entry K))) (i : ℕ) →
    registered_of (set es i None) ≡ remove_at i (registered_of es)
remove_at-set [] i = refl
remove_at-set (x ∷ es) zero = refl
remove_at-set (x ∷ es) (suc i) = ap (λ l. option_map entry_of x ∷ l) (remove_at-set es i)

pub remove_at-past : {K : Type 0} (es : List (Option (Entry K))) (i : ℕ) → length es ≤ i →
    registered_of es ≡ remove_at i (registered_of es)
remove_at-past [] i le = refl
remove_at-past (x ∷ es) zero le = absurd (omega arith)
remove_at-past (x ∷ es) (suc i) le = ap (λ l. option_map entry_of x ∷ l) (remove_at-past es i (omega arith))
