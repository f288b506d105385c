-- The lengths of the first chunks.
use Rattle.std.proofs.Common.{◌≡◌, ℕ, zero, suc, ◌+◌, ◌<◌, ◌≤◌, List, [], ◌∷◌, ◌++◌, length, take, map, get_or, refl}
use Rattle.std.proofs.Common.{sym, ap, ap₂, ◌∙◌, arith}
use Rattle.std.proofs.lemmas.List.{map-append, take_all}
use Rattle.std.specs.declared.num.NonZeroU64.{NonZeroU64}
use Rattle.std.specs.Int.NonZero.{non_zero_u64_get}
use Rattle.zarr_basics.specs.Axes.{axis_lengths, lengths_at}
use Rattle.zarr_basics.specs.declared.axis.BoundaryAxis.{BoundaryAxis}

next_length : (axes : List BoundaryAxis) (chunk : List ℕ) (k : ℕ) (axis : BoundaryAxis) (index : ℕ) → k < length axes →
    k < length chunk →
    axis ≡ get_or axes k axis → index ≡ get_or chunk k 0 →
    take (k + 1) (lengths_at axes chunk) ≡ take k (lengths_at axes chunk) ++ get_or (axis_lengths axis) index 1 ∷ []
next_length [] chunk k axis index h g a i = absurd (omega arith)
next_length (x ∷ axes) [] k axis index h g a i = absurd (omega arith)
next_length (x ∷ axes) (c ∷ chunk) zero axis index h g a i =
    ap₂ (λ y j. get_or (axis_lengths y) j 1 ∷ []) (sym a) (sym i)
next_length (x ∷ axes) (c ∷ chunk) (suc k) axis index h g a i =
    ap (λ m. take m (lengths_at (x ∷ axes) (c ∷ chunk))) (let e : suc k + 1 ≡ suc (k + 1) = omega arith in e)
    ∙ ap (λ l. get_or (axis_lengths x) c 1 ∷ l) (next_length axes chunk k axis index (omega arith) (omega arith) a i)

length-lengths_at : (axes : List BoundaryAxis) (chunk : List ℕ) → length (lengths_at axes chunk) ≤ length axes
length-lengths_at [] chunk = omega arith
length-lengths_at (x ∷ axes) [] = omega arith
length-lengths_at (x ∷ axes) (c ∷ chunk) = let rest : length (lengths_at axes chunk) ≤ length axes =
    length-lengths_at axes chunk in omega arith

pub all_lengths : (axes : List BoundaryAxis) (chunk : List ℕ) (k : ℕ) (lengths : List NonZeroU64) → length axes ≤ k →
    map non_zero_u64_get lengths ≡ take k (lengths_at axes chunk) → map non_zero_u64_get lengths ≡ lengths_at axes chunk
all_lengths axes chunk k lengths h e = e ∙ take_all k (lengths_at axes chunk)
    (let le : length (lengths_at axes chunk) ≤ length axes = length-lengths_at axes chunk in omega arith)

pub one_length : (axes : List BoundaryAxis) (chunk : List ℕ) (k : ℕ) (lengths : List NonZeroU64)
    (axis : BoundaryAxis) (one : NonZeroU64) → k < length axes → length axes ≡ length chunk →
    map non_zero_u64_get lengths ≡ take k (lengths_at axes chunk) → axis ≡ get_or axes k axis →
    non_zero_u64_get one ≡ get_or (axis_lengths axis) (get_or chunk k 0) 1 →
    map non_zero_u64_get (lengths ++ one ∷ []) ≡ take (k + 1) (lengths_at axes chunk)
one_length axes chunk k lengths axis one h rank before a is =
    map-append non_zero_u64_get lengths (one ∷ []) ∙
    (ap₂ (λ l n. l ++ n ∷ []) before is ∙ sym (next_length axes chunk k axis (get_or chunk k 0) h (omega arith) a refl))
