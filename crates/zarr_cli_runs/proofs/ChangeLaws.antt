-- Which keys a run may change.
use Rattle.std.proofs.Common.{◌≡◌, ℕ, Bool, true, false, List, Option, Some, None, bytes_eq}
use Rattle.std.proofs.Common.{refl, ap, subst}
use Rattle.std.specs.List.{list_any}
use Rattle.zarr_model.specs.Prelude.{IsChunk, Options, Content, Command, Description}
use Rattle.zarr_model.specs.Prelude.{changes_chunk, LeavesKeys}
use Rattle.zarr_model.proofs.FailureLaws.{same_bytes, bytes_eq-refl}
use Rattle.zarr_cli_runs.specs.Commands.{IsChangedKey}

-- values are the same unless it is refuted
same_value : (a b : Option (List ℕ)) → ¬ ¬ (a ≡ b) → a ≡ b
same_value None None h = refl
same_value None (Some y) h = absurd (h (λ e. cc))
same_value (Some x) None h = absurd (h (λ e. cc))
same_value (Some x) (Some y) h = by_test (bytes_eq x y) refl
  where
    same_inside : Some x ≡ Some y → x ≡ y
    same_inside e = cc

    by_test : (b : Bool) → bytes_eq x y ≡ b → Some x ≡ Some y
    by_test true e = ap Some (same_bytes x y e)
    by_test false e = absurd (h (λ same. let both : bytes_eq x y ≡ true =
        subst (λ z. bytes_eq x z ≡ true) (same_inside same) (bytes_eq-refl x) in cc))

-- each key but those of changed chunks holds what it held
pub same_unless_changed : (array : Description) (options : Options) (commands : List Command) (old new : Content) →
    LeavesKeys array options commands old new →
    (key : List ℕ) → ¬ IsChangedKey array commands key → new key ≡ old key
same_unless_changed array options commands old new leaves key unchanged =
    same_value (new key) (old key) (λ apart. apart (leaves.other_keys key (λ (chunk, is_chunk, its_key).
    by_test chunk is_chunk its_key apart (list_any (changes_chunk array chunk) commands) refl)))
  where
    by_test : (chunk : List ℕ) → IsChunk array.grid chunk → array.key chunk ≡ key → ¬ (new key ≡ old key) → (b : Bool) →
        list_any (changes_chunk array chunk) commands ≡ b → ⊥
    by_test chunk is_chunk its_key apart true e = unchanged (chunk, is_chunk, e, its_key)
    by_test chunk is_chunk its_key apart false e =
        apart (subst (λ k. new k ≡ old k) its_key (leaves.same_chunks chunk is_chunk e))
