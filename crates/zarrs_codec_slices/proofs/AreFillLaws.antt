-- Valid array bytes are the fill value where each element is the fill element.
use Rattle.std.proofs.Common.{◌≡◌, ℕ, zero, suc, ◌-◌, ◌*◌, ◌/◌, ◌<◌, ◌≤◌, ◌==◌, ◌↔◌, true, nat_le, List, [], ◌∷◌, ◌++◌}
use Rattle.std.proofs.Common.{length, take, drop, map, replicate, get_or, Some, arith, ap, ap₂, sym, refl, ◌∙◌, subst}
use Rattle.std.proofs.Common.{eqb-true}
use Rattle.std.specs.List.{list_all}
use Rattle.std.proofs.lemmas.Bool.{and_parts, leb-true}
use Rattle.std.proofs.lemmas.List.{length-replicate, length-drop, take-append-drop, same_lists, get_or-replicate}
use Rattle.std.proofs.lemmas.List.{get_or_default}
use Rattle.std.proofs.Math.Nat.{suc-mul, mul-div_cancel}
use Rattle.zarr_model.specs.Element.{Element, of_bytes, null, some, Kind, fixed, variable, optional, fill_element}
use Rattle.zarr_model.specs.ArrayBytes.{ArrayBytes, fixed_bytes, variable_bytes, optional_bytes, pieces, mask_over}
use Rattle.zarr_model.specs.ArrayBytes.{meaning, are_offsets, between_offsets}
use Rattle.zarr_model.proofs.BytesLaws.{when_some, length-meaning, mask_length}
use Rattle.zarrs_data_type_bytes.specs.Pieces.{repeated, Repeats}
use Rattle.zarrs_data_type_bytes.proofs.PieceLaws.{length-repeated}
use Rattle.zarrs_codec_slices.specs.Picking.{value_of}
use Rattle.zarrs_codec_slices.specs.Filling.{AreFilledValues, MasksFill, AreFill}
use Rattle.zarrs_codec_slices.proofs.LeafLaws.{variable_at}
use Rattle.zarrs_codec_slices.proofs.FilledLaws.{repeated_pieces, IsNullFill, IsSomeFill, fill_parts}
use Rattle.zarrs_codec_slices.proofs.MaskLaws.{IsMasked, masked_parts}

-- elements of one size
empty_pieces : (k : ℕ) (value : List ℕ) → map of_bytes (pieces k 0 value) ≡ replicate k (of_bytes [])
empty_pieces zero value = refl
empty_pieces (suc k) value = ap (λ rest. of_bytes [] ∷ rest) (empty_pieces k value)

from_pieces : (k n : ℕ) (fill value : List ℕ) → length value ≡ k * n →
    map of_bytes (pieces k n value) ≡ replicate k (of_bytes fill) → value ≡ repeated k fill
from_pieces zero n fill [] long e = refl
from_pieces zero n fill (x ∷ value) long e = absurd (omega (arith, long))
from_pieces (suc k) n fill value long e =
    let first : take n value ≡ fill = cc in
    let rest : map of_bytes (pieces k n (drop n value)) ≡ replicate k (of_bytes fill) = cc in
    sym (take-append-drop n value) ∙ ap₂ (λ a b. a ++ b) first
    (from_pieces k n fill (drop n value) (omega (arith, length-drop n value, long, suc-mul k n)) rest)

no_bytes : (fill : List ℕ) → length fill ≡ 0 → fill ≡ []
no_bytes [] e = refl
no_bytes (b ∷ fill) e = absurd (omega (arith, e))

to_pieces : (k n : ℕ) (fill value : List ℕ) → length fill ≡ n → length value ≡ k * n → Repeats fill value →
    map of_bytes (pieces k n value) ≡ replicate k (of_bytes fill)
to_pieces k zero fill value fill_long long r =
    empty_pieces k value ∙ ap (λ f. replicate k (of_bytes f)) (sym (no_bytes fill fill_long))
to_pieces k (suc n) fill value fill_long long r =
    ap (λ v. map of_bytes (pieces k (suc n) v)) (r.is ∙ ap (λ t. repeated t fill) times)
    ∙ repeated_pieces k (suc n) fill fill_long
  where
    total : r.times * suc n ≡ k * suc n
    total = ap (λ m. r.times * m) (sym fill_long) ∙ (sym (length-repeated r.times fill) ∙ (ap length (sym r.is) ∙ long))

    times : r.times ≡ k
    times = let positive : 0 < suc n = omega arith in
        sym (mul-div_cancel r.times positive) ∙ (ap (λ m. m / suc n) total ∙ mul-div_cancel k positive)

-- a mask that is all one byte
repeated_byte : (k b : ℕ) → repeated k (b ∷ []) ≡ replicate k b
repeated_byte zero b = refl
repeated_byte (suc k) b = ap (λ rest. b ∷ rest) (repeated_byte k b)

all_byte : (k b : ℕ) (mask : List ℕ) → length mask ≡ k → 0 < k → Repeats (b ∷ []) mask ↔ (mask ≡ replicate k b)
all_byte k b mask long positive = (
  λ r. r.is ∙ (repeated_byte r.times b ∙ ap (λ n. replicate n b)
      (sym (length-replicate r.times b) ∙ (ap length (sym (r.is ∙ repeated_byte r.times b)) ∙ long))),
  λ e. record { times = k; once = positive; is = e ∙ sym (repeated_byte k b) },
)

nulls : (k : ℕ) (mask : List ℕ) (xs : List Element) → length mask ≡ k → length xs ≡ k →
    (mask ≡ replicate k 0) ↔ (mask_over mask xs ≡ replicate k null)
nulls zero [] [] e f = ((λ h. refl), (λ h. refl))
nulls zero [] (x ∷ xs) e f = absurd (omega (arith, f))
nulls zero (b ∷ mask) xs e f = absurd (omega (arith, e))
nulls (suc k) [] xs e f = absurd (omega (arith, e))
nulls (suc k) (b ∷ mask) [] e f = absurd (omega (arith, f))
nulls (suc k) (zero ∷ mask) (x ∷ xs) e f =
    let rest = nulls k mask xs (omega (arith, e)) (omega (arith, f)) in (
      (λ h. let same : mask ≡ replicate k 0 = cc in ap (λ l. null ∷ l) (rest.0 same)),
      (λ h. let same : mask_over mask xs ≡ replicate k null = cc in ap (λ l. 0 ∷ l) (rest.1 same)),
    )
nulls (suc k) (suc b ∷ mask) (x ∷ xs) e f =
    ((λ h. let number : suc b ≡ 0 = cc in absurd (omega (arith, number))), (λ h. cc))

somes : (k : ℕ) (mask : List ℕ) (xs : List Element) (y : Element) → length mask ≡ k → length xs ≡ k →
    list_all (λ b. nat_le b 1) mask ≡ true →
    ((mask ≡ replicate k 1) × (xs ≡ replicate k y)) ↔ (mask_over mask xs ≡ replicate k (some y))
somes zero [] [] y e f low = ((λ h. refl), (λ h. (refl, refl)))
somes zero [] (x ∷ xs) y e f low = absurd (omega (arith, f))
somes zero (b ∷ mask) xs y e f low = absurd (omega (arith, e))
somes (suc k) [] xs y e f low = absurd (omega (arith, e))
somes (suc k) (b ∷ mask) [] y e f low = absurd (omega (arith, f))
somes (suc k) (zero ∷ mask) (x ∷ xs) y e f low = (
  (λ h. let masks : 0 ∷ mask ≡ 1 ∷ replicate k 1 = h.0 in
      let number : ◌≡◌ {A = ℕ} 0 1 = cc in absurd (omega (arith, number))),
  (λ h. cc),
)
somes (suc k) (suc (suc b) ∷ mask) (x ∷ xs) y e f low =
    let small : suc (suc b) ≤ 1 = leb-true (suc (suc b)) 1
    (and_parts (nat_le (suc (suc b)) 1) (list_all (λ b. nat_le b 1) mask) low).0 in absurd (omega (arith, small))
somes (suc k) (suc zero ∷ mask) (x ∷ xs) y e f low =
    let rest = somes k mask xs y (omega (arith, e)) (omega (arith, f))
    (and_parts (nat_le 1 1) (list_all (λ b. nat_le b 1) mask) low).1 in (
      (λ h. let masks : 1 ∷ mask ≡ 1 ∷ replicate k 1 = h.0 in let same : mask ≡ replicate k 1 = cc in
          let lists : x ∷ xs ≡ y ∷ replicate k y = h.1 in let first : x ≡ y = cc in
          let others : xs ≡ replicate k y = cc in
          ap₂ (λ a l. some a ∷ l) first (rest.0 (same, others))),
      (λ h. let first : x ≡ y = cc in let others : mask_over mask xs ≡ replicate k (some y) = cc in
          let parts = rest.1 others in (ap (λ l. 1 ∷ l) parts.0, ap₂ (λ a l. a ∷ l) first parts.1)),
    )

-- array bytes are the fill value exactly where each element is the fill element
pub fill_means : (kind : Kind) (number : ℕ) (value : ArrayBytes) (fill : List ℕ) (xs : List Element) (x : Element) →
    meaning kind number value ≡ Some xs → 0 < number → fill_element kind fill ≡ Some x →
    AreFill value fill ↔ (xs ≡ replicate number x)
fill_means (fixed n) number (fixed_bytes value) fill xs x e positive f =
    let listed = when_some (length value == number * n) (map of_bytes (pieces number n value)) xs e in
    let fits = when_some (length fill == n) (of_bytes fill) x f in
    let long : length value ≡ number * n = eqb-true _ _ listed.0 in
    let fill_long : length fill ≡ n = eqb-true _ _ fits.0 in (
      (λ r. sym listed.1 ∙ (to_pieces number n fill value fill_long long r ∙ ap (replicate number) fits.1)),
      (λ h. record {
        times = number;
        once = positive;
        is = from_pieces number n fill value long (listed.1 ∙ (h ∙ ap (replicate number) (sym fits.1)));
      }),
    )
fill_means (fixed n) number (variable_bytes value offsets) fill xs x e positive f = cc
fill_means (fixed n) number (optional_bytes under mask) fill xs x e positive f = cc
fill_means variable number (fixed_bytes value) fill xs x e positive f = cc
fill_means variable number (variable_bytes value []) fill xs x e positive f = cc
fill_means variable number (variable_bytes value (first ∷ offsets)) fill xs x e positive f = (forth, back)
  where
    counted : length offsets ≡ number
    counted = eqb-true _ _ (and_parts (length offsets == number) _ (when_some (are_offsets number (length value)
        (first ∷ offsets)) (map of_bytes (between_offsets (first ∷ offsets) value)) xs e).0).0

    xs_long : length xs ≡ number
    xs_long = length-meaning variable number (variable_bytes value (first ∷ offsets)) xs e

    is : of_bytes fill ≡ x
    is = cc

    forth : AreFilledValues fill value (first ∷ offsets) → xs ≡ replicate number x
    forth all = same_lists xs (replicate number x) (xs_long ∙ sym (length-replicate number x)) (λ i d h.
        let here : i < number = subst (λ m. i < m) xs_long h in
        get_or_default xs i d null h
        ∙ (variable_at number value (first ∷ offsets) xs e i here
        ∙ (ap of_bytes (all.each i (omega (arith, counted, here))) ∙ (is ∙ sym (get_or-replicate number i x d here)))))

    back : xs ≡ replicate number x → AreFilledValues fill value (first ∷ offsets)
    back h = record {
      some = omega (arith, counted, positive);
      each = λ k l.
          let here : k < number = omega (arith, counted, l) in
          let same : of_bytes (value_of value (first ∷ offsets) k) ≡ of_bytes fill =
          sym (variable_at number value (first ∷ offsets) xs e k here)
          ∙ (ap (λ l. get_or l k null) h ∙ (get_or-replicate number k x null here ∙ sym is)) in cc;
    }
fill_means variable number (optional_bytes under mask) fill xs x e positive f = cc
fill_means (optional kind) number (fixed_bytes value) fill xs x e positive f = cc
fill_means (optional kind) number (variable_bytes value offsets) fill xs x e positive f = cc
fill_means (optional kind) number (optional_bytes under mask) fill xs x e positive f =
    fill_parts kind fill x f at_null (λ p. at_some p
    (fill_means kind number under (take (length fill - 1) fill) parts.list p.element parts.inner positive p.inner))
  where
    parts : IsMasked kind number mask under xs
    parts = masked_parts kind number mask under xs e

    mask_long : length mask ≡ number
    mask_long = mask_length number mask parts.mask_is

    list_long : length parts.list ≡ number
    list_long = length-meaning kind number under parts.list parts.inner

    at_null : IsNullFill kind fill x → AreFill (optional_bytes under mask) fill ↔ (xs ≡ replicate number x)
    at_null p =
        let flags = all_byte number 0 mask mask_long positive in
        let over = nulls number mask parts.list mask_long list_long in (
          (λ r. sym parts.over ∙ (over.0 (flags.0 (subst (λ t. MasksFill t mask
              (AreFill under (take (length fill - 1) fill))) p.ends r)) ∙ ap (replicate number) (sym p.null_is))),
          (λ h. subst (λ t. MasksFill t mask (AreFill under (take (length fill - 1) fill))) (sym p.ends)
              (flags.1 (over.1 (parts.over ∙ (h ∙ ap (replicate number) p.null_is))))),
        )

    at_some : (p : IsSomeFill kind fill x) →
        (AreFill under (take (length fill - 1) fill) ↔ (parts.list ≡ replicate number p.element)) →
        AreFill (optional_bytes under mask) fill ↔ (xs ≡ replicate number x)
    at_some p inner =
        let flags = all_byte number 1 mask mask_long positive in
        let low : list_all (λ b. nat_le b 1) mask ≡ true =
        (and_parts (length mask == number) (list_all (λ b. nat_le b 1) mask) parts.mask_is).1 in
        let over = somes number mask parts.list p.element mask_long list_long low in (
          (λ r. let both = subst (λ t. MasksFill t mask (AreFill under (take (length fill - 1) fill))) p.ends r in
              sym parts.over ∙ (over.0 (flags.0 both.0, inner.0 both.1) ∙ ap (replicate number) (sym p.some_is))),
          (λ h. let both = over.1 (parts.over ∙ (h ∙ ap (replicate number) p.some_is)) in
              subst (λ t. MasksFill t mask (AreFill under (take (length fill - 1) fill))) (sym p.ends)
              (flags.1 both.0, inner.1 both.1)),
        )
