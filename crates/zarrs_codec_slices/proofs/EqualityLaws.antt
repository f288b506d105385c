-- Equality of array bytes goes both ways, and from one to the next.
use Rattle.std.proofs.Common.{◌≡◌, ℕ, ◌&&◌, true, List, bytes_eq, refl, sym, ◌∙◌, ap, true≢false}
use Rattle.std.specs.Cmp.{IsPartialEquivalence}
use Rattle.std.proofs.lemmas.Bool.{and_parts, and_from}
use Rattle.std.proofs.lemmas.Slice.Eq.{bytes_eq-Decides}
use Rattle.zarr_model.specs.ArrayBytes.{ArrayBytes, fixed_bytes, variable_bytes, optional_bytes}
use Rattle.zarr_model.proofs.Choices.{same_test}
use Rattle.zarrs_codec_slices.specs.Same.{same_optional, same_array_bytes}
use Rattle.zarrs_codec_slices.proofs.SeenLaws.{optional_test, same-sym, same-trans}

bytes_back : (a b : List ℕ) → bytes_eq a b ≡ bytes_eq b a
bytes_back a b = same_test (bytes_eq a b) (bytes_eq b a)
    (λ e. (bytes_eq-Decides b a).1 (sym ((bytes_eq-Decides a b).0 e)))
    (λ e. (bytes_eq-Decides a b).1 (sym ((bytes_eq-Decides b a).0 e)))

bytes_on : (a b c : List ℕ) → bytes_eq a b ≡ true → bytes_eq b c ≡ true → bytes_eq a c ≡ true
bytes_on a b c h k = (bytes_eq-Decides a c).1 ((bytes_eq-Decides a b).0 h ∙ (bytes_eq-Decides b c).0 k)

pub bytes_per : IsPartialEquivalence bytes_eq
bytes_per = record { symm = bytes_back; trans = bytes_on }

optional_back : (m : List ℕ) (a : ArrayBytes) (k : List ℕ) (b : ArrayBytes) → same_optional m a k b ≡ true →
    same_optional k b m a ≡ true
optional_back m a k b e = (optional_test k b m a).1 (same-sym m a k b ((optional_test m a k b).0 e))

same_back : (a b : ArrayBytes) → same_array_bytes a b ≡ same_array_bytes b a
same_back (fixed_bytes a) (fixed_bytes b) = bytes_back a b
same_back (fixed_bytes a) (variable_bytes b q) = refl
same_back (fixed_bytes a) (optional_bytes b k) = refl
same_back (variable_bytes a p) (fixed_bytes b) = refl
same_back (variable_bytes a p) (variable_bytes b q) =
    ap (λ t. t && bytes_eq p q) (bytes_back a b) ∙ ap (λ t. bytes_eq b a && t) (bytes_back p q)
same_back (variable_bytes a p) (optional_bytes b k) = refl
same_back (optional_bytes a m) (fixed_bytes b) = refl
same_back (optional_bytes a m) (variable_bytes b q) = refl
same_back (optional_bytes a m) (optional_bytes b k) =
    same_test (same_optional m a k b) (same_optional k b m a) (optional_back m a k b) (optional_back k b m a)

same_on : (a b c : ArrayBytes) → same_array_bytes a b ≡ true → same_array_bytes b c ≡ true → same_array_bytes a c ≡ true
same_on (fixed_bytes a) (fixed_bytes b) (fixed_bytes c) h k = bytes_on a b c h k
same_on (fixed_bytes a) (fixed_bytes b) (variable_bytes c r) h k = absurd (true≢false (sym k))
same_on (fixed_bytes a) (fixed_bytes b) (optional_bytes c l) h k = absurd (true≢false (sym k))
same_on (fixed_bytes a) (variable_bytes b q) c h k = absurd (true≢false (sym h))
same_on (fixed_bytes a) (optional_bytes b q) c h k = absurd (true≢false (sym h))
same_on (variable_bytes a p) (fixed_bytes b) c h k = absurd (true≢false (sym h))
same_on (variable_bytes a p) (optional_bytes b q) c h k = absurd (true≢false (sym h))
same_on (variable_bytes a p) (variable_bytes b q) (fixed_bytes c) h k = absurd (true≢false (sym k))
same_on (variable_bytes a p) (variable_bytes b q) (optional_bytes c l) h k = absurd (true≢false (sym k))
same_on (variable_bytes a p) (variable_bytes b q) (variable_bytes c r) h k =
    let x = and_parts (bytes_eq a b) (bytes_eq p q) h in
    let y = and_parts (bytes_eq b c) (bytes_eq q r) k in
    and_from (bytes_eq a c) (bytes_eq p r) (bytes_on a b c x.0 y.0) (bytes_on p q r x.1 y.1)
same_on (optional_bytes a m) (fixed_bytes b) c h k = absurd (true≢false (sym h))
same_on (optional_bytes a m) (variable_bytes b q) c h k = absurd (true≢false (sym h))
same_on (optional_bytes a m) (optional_bytes b l) (fixed_bytes c) h k = absurd (true≢false (sym k))
same_on (optional_bytes a m) (optional_bytes b l) (variable_bytes c r) h k = absurd (true≢false (sym k))
same_on (optional_bytes a m) (optional_bytes b l) (optional_bytes c n) h k =
    (optional_test m a n c).1 (same-trans m a l b n c ((optional_test m a l b).0 h) ((optional_test l b n c).0 k))

pub same_per : IsPartialEquivalence same_array_bytes
same_per = record { symm = same_back; trans = same_on }
