-- A box inside a shape that has as many tuples is all of it.
use Rattle.std.proofs.Common.{◌≡◌, ℕ, ◌+◌, ◌*◌, ◌<◌, ◌≤◌, nat_le, true, List, [], ◌∷◌, refl, ap₂, arith}
use Rattle.std.proofs.lemmas.Bool.{and_parts, leb-true}
use Rattle.std.proofs.Math.Nat.{mul-le-mul_left, mul-le-mul_right, le_of_mul-le-mul_left}
use Rattle.std.proofs.Math.Nat.{le_of_mul-le-mul_right}
use Rattle.zarrs_array_subset.proofs.Ravels.{factors}
use Rattle.zarr_model.specs.Prelude.{Region, Span, count, count_of, whole, ends_within}
use Rattle.zarr_model.proofs.RegionLaws.{count_within}

abbrev span : ℕ → ℕ → Span
span start size = record { start = start; size = size }

pub all_of : (region : Region) (dims : List ℕ) → ends_within region dims ≡ true → 0 < count_of dims →
    count region ≡ count_of dims → region ≡ whole dims
all_of [] [] e some same = refl
all_of [] (n ∷ dims) e some same = cc
all_of (s ∷ region) [] e some same = cc
all_of (s ∷ region) (n ∷ dims) e some same =
    let parts = and_parts (nat_le (s.start + s.size) n) (ends_within region dims) e in
    let within : s.start + s.size ≤ n = leb-true _ _ parts.0 in
    let rest : count region ≤ count_of dims = count_within region dims parts.1 in
    let long : s.size ≤ n = omega (arith, within) in
    let by_size : n * count_of dims ≤ s.size * count_of dims =
    (let more = mul-le-mul_left s.size rest in omega (arith, same, more)) in
    let by_rest : n * count_of dims ≤ n * count region =
    (let more = mul-le-mul_right (count region) long in omega (arith, same, more)) in
    let size : n ≤ s.size = le_of_mul-le-mul_right by_size (factors n (count_of dims) some).1 in
    let tail : count_of dims ≤ count region = le_of_mul-le-mul_left by_rest (factors n (count_of dims) some).0 in
    let start_is : s.start ≡ 0 = omega (arith, within, size) in
    let size_is : s.size ≡ n = omega (arith, long, size) in
    let tail_is : count region ≡ count_of dims = omega (arith, rest, tail) in
    let first : s ≡ span 0 n = ap₂ span start_is size_is in
    ap₂ (λ s r. s ∷ r) first (all_of region dims parts.1 (factors n (count_of dims) some).1 tail_is)
