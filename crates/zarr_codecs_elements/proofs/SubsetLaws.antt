-- Boxes whose dimensions are ordered anew, as starts and lengths.
use Rattle.std.proofs.Common.{◌≡◌, ℕ, zero, suc, ◌+◌, ◌<◌, ◌^◌, true, nat_lt, List, [], ◌∷◌, length, get_or, refl, sym}
use Rattle.std.proofs.Common.{ap, ◌∙◌, subst, arith}
use Rattle.std.proofs.lemmas.Bool.{and_parts, and_from, ltb-true, lt-ltb}
use Rattle.std.proofs.lemmas.List.{length-map}
use Rattle.zarrs_codec_traits.specs.Prelude.{Span, Region, starts, sizes, permuted, permuted_box, region_of, is_box}
use Rattle.zarr_codecs_elements.specs.Order.{is_order}
use Rattle.zarr_codecs_elements.proofs.OrderLaws.{order_below, length-permuted, permuted_at}

fits_at : (start shape : List ℕ) (i : ℕ) → is_box start shape ≡ true → i < length start →
    get_or start i 0 + get_or shape i 0 < 2 ^ 64
fits_at [] [] i e h = absurd (omega arith)
fits_at [] (n ∷ shape) i e h = cc
fits_at (s ∷ start) [] i e h = cc
fits_at (s ∷ start) (n ∷ shape) zero e h =
    ltb-true (s + n) (2 ^ 64) (and_parts (nat_lt (s + n) (2 ^ 64)) (is_box start shape) e).0
fits_at (s ∷ start) (n ∷ shape) (suc i) e h =
    fits_at start shape i (and_parts (nat_lt (s + n) (2 ^ 64)) (is_box start shape) e).1 (omega arith)

box_from : (start shape : List ℕ) → length start ≡ length shape →
    ((i : ℕ) → i < length start → get_or start i 0 + get_or shape i 0 < 2 ^ 64) → is_box start shape ≡ true
box_from [] [] long each = refl
box_from [] (n ∷ shape) long each = absurd (omega (arith, long))
box_from (s ∷ start) [] long each = absurd (omega (arith, long))
box_from (s ∷ start) (n ∷ shape) long each =
    and_from (nat_lt (s + n) (2 ^ 64)) (is_box start shape) (lt-ltb (s + n) (2 ^ 64) (each 0 (omega arith)))
    (box_from start shape (omega (arith, long)) (λ i h. each (suc i) (omega (arith, h))))

-- an ordered box fits as the box does
pub box_fits : (order : List ℕ) (box : Region) → is_order order ≡ true → length box ≡ length order →
    is_box (starts box) (sizes box) ≡ true → is_box (permuted order (starts box)) (permuted order (sizes box)) ≡ true
box_fits order box e long fits = box_from (permuted order (starts box)) (permuted order (sizes box))
    (length-permuted order (starts box) ∙ sym (length-permuted order (sizes box))) (λ i h.
    let low : i < length order = subst (λ n. i < n) (length-permuted order (starts box)) h in
    let at = order_below order i e low in
    let here = fits_at (starts box) (sizes box) (get_or order i 0) fits
    (subst (λ n. get_or order i 0 < n) (sym (length-map box (λ (s : Span). s.start) ∙ long)) at) in
    omega (arith, here, permuted_at order (starts box) i low, permuted_at order (sizes box) i low))

-- and its spans are those of the box
pub region_is : (order : List ℕ) (box : Region) →
    region_of (permuted order (starts box)) (permuted order (sizes box)) ≡ permuted_box order box
region_is [] box = refl
region_is (d ∷ order) box = ap (λ (rest : Region).
    record { start = get_or (starts box) d 0; size = get_or (sizes box) d 0 } ∷ rest) (region_is order box)
