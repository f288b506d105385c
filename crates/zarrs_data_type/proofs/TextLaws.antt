-- The test of UTF-8 that clauses name.
use Rattle.std.proofs.Common.{◌≡◌, Bool, true, false, List, ℕ, refl, if◌then◌else◌, Some, None}
use Rattle.std.specs.Str.{IsUtf8, is_utf8}
use Rattle.std.proofs.lemmas.Str.{IsUtf8-from_is_utf8, is_utf8-from_IsUtf8}

pub is_text : {A : Type 0} (bytes : List ℕ) (a : A) → IsUtf8 bytes → (if is_utf8 bytes then Some a else None) ≡ Some a
is_text bytes a h = go (is_utf8 bytes) (is_utf8-from_IsUtf8 bytes h)
  where
    go : (t : Bool) → t ≡ true → (if t then Some a else None) ≡ Some a
    go true e = refl
    go false e = cc

pub is_no_text : {A : Type 0} (bytes : List ℕ) (a : A) → ¬ (IsUtf8 bytes) →
    (if is_utf8 bytes then Some a else None) ≡ None
is_no_text bytes a h = go (is_utf8 bytes) refl
  where
    go : (t : Bool) → is_utf8 bytes ≡ t → (if t then Some a else None) ≡ None
    go true e = absurd (h (IsUtf8-from_is_utf8 bytes e))
    go false e = refl
