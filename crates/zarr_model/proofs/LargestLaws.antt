-- Which chunk of a grid of boundaries is the largest, and which ends last.
use Rattle.std.proofs.Common.{◌≡◌, ℕ, zero, suc, ◌+◌, ◌-◌, ◌^◌, ◌<◌, ◌≤◌, ◌&&◌, max, Bool, true, nat_lt, List, [], ◌∷◌}
use Rattle.std.proofs.Common.{length, map, take, sum, slice_index, refl, ap₂, ◌∙◌, arith, ⊎_elim}
use Rattle.std.proofs.lemmas.Bool.{and_parts, and_from, ltb-true, lt-ltb, cases_lt}
use Rattle.std.proofs.lemmas.Nat.{mul-le}
use Rattle.zarr_model.specs.Prelude.{Region, count, count_of, whole, contains, is_in, sizes, boundary_grid, IsChunk}
use Rattle.zarr_model.specs.Prelude.{largest, largest_lengths, sums_fit}
use Rattle.zarr_model.proofs.RegionLaws.{span_in}
use Rattle.zarr_model.proofs.GridLaws.{first_index}
use Rattle.zarr_model.proofs.LaidLaws.{sum-cons}

-- some length is the largest, and none is larger
pub place_of_largest : (lengths : List ℕ) → 0 < length lengths → (k : ℕ) × (k < length lengths)
    × (slice_index lengths k ≡ largest lengths)
place_of_largest [] h = absurd (omega arith)
place_of_largest (n ∷ []) h = (0, omega arith, omega arith)
place_of_largest (n ∷ m ∷ lengths) h = ⊎_elim
    (λ (first : largest (m ∷ lengths) < n). (0, omega arith, omega arith))
    (λ (later : n ≤ largest (m ∷ lengths)). let (k, below, is) = place_of_largest (m ∷ lengths) (omega arith)
    in (
      suc k,
      omega arith,
      is ∙ (let e : largest (m ∷ lengths) ≡ max n (largest (m ∷ lengths)) = omega arith
          in e),
    ))
    (cases_lt (largest (m ∷ lengths)) n)

pub none_larger : (lengths : List ℕ) (k : ℕ) → k < length lengths → slice_index lengths k ≤ largest lengths
none_larger [] k h = absurd (omega arith)
none_larger (n ∷ lengths) zero h = omega arith
none_larger (n ∷ lengths) (suc k) h = let rest : slice_index lengths k ≤ largest lengths =
    none_larger lengths k (omega arith) in omega arith

-- no chunk has more elements than one of the largest lengths, and where there is a chunk, one has as many
pub no_more_elements : (lengths : List (List ℕ)) (chunk : List ℕ) → IsChunk (boundary_grid lengths) chunk →
    count ((boundary_grid lengths).chunk_box chunk) ≤ count_of (largest_lengths lengths)
no_more_elements [] [] h = omega arith
no_more_elements [] (c ∷ chunk) h = cc
no_more_elements (own ∷ lengths) [] h = cc
no_more_elements (own ∷ lengths) (c ∷ chunk) h =
    let parts = and_parts (is_in c (record { start = 0; size = length own }))
    (contains (whole (boundary_grid lengths).grid_shape) chunk) h in
    mul-le (slice_index own c) (count ((boundary_grid lengths).chunk_box chunk)) (largest own)
    (count_of (largest_lengths lengths)) (none_larger own c (first_index c (length own) parts.0))
    (no_more_elements lengths chunk parts.1)

pub largest_chunk : (lengths : List (List ℕ)) (chunk : List ℕ) → IsChunk (boundary_grid lengths) chunk →
    (most : List ℕ) × IsChunk (boundary_grid lengths) most
    × (sizes ((boundary_grid lengths).chunk_box most) ≡ largest_lengths lengths)
largest_chunk [] [] h = ([], refl, refl)
largest_chunk [] (c ∷ chunk) h = cc
largest_chunk (own ∷ lengths) [] h = cc
largest_chunk (own ∷ lengths) (c ∷ chunk) h =
    let parts = and_parts (is_in c (record { start = 0; size = length own }))
    (contains (whole (boundary_grid lengths).grid_shape) chunk) h in
    let (k, below, is) = place_of_largest own (let e : c < length own = first_index c (length own) parts.0
    in omega arith) in
    let (most, is_chunk, are) = largest_chunk lengths chunk parts.1 in (
      k ∷ most,
      and_from _ _ (span_in k (record { start = 0; size = length own }) (omega arith) (omega arith))
          is_chunk,
      ap₂ (λ n ns. n ∷ ns) is are,
    )

-- a chunk ends where the next one begins, or where all lengths together do
chunk_end : (lengths : List ℕ) (k : ℕ) → k < length lengths → sum (take k lengths) + slice_index lengths k ≤ sum
    lengths
chunk_end [] k h = absurd (omega arith)
chunk_end (n ∷ lengths) zero h = omega (arith, sum-cons n lengths)
chunk_end (n ∷ lengths) (suc k) h = let rest : sum (take k lengths) + slice_index lengths k ≤ sum lengths =
    chunk_end lengths k (omega arith) in omega (arith, sum-cons n lengths, sum-cons n (take k lengths))

last_end : (lengths : List ℕ) (k : ℕ) → suc k ≡ length lengths → sum (take k lengths) + slice_index lengths k
    ≡ sum lengths
last_end [] k e = absurd (omega arith)
last_end (n ∷ []) zero e = omega (arith, sum-cons n [])
last_end (n ∷ []) (suc k) e = absurd (omega arith)
last_end (n ∷ m ∷ lengths) zero e = absurd (omega arith)
last_end (n ∷ m ∷ lengths) (suc k) e = let rest : sum (take k (m ∷ lengths)) + slice_index (m ∷ lengths) k
    ≡ sum (m ∷ lengths) = last_end (m ∷ lengths) k (omega arith)
    in omega (arith, sum-cons n (m ∷ lengths), sum-cons n (take k (m ∷ lengths)))

-- each end fits, where the last ones do; and the last ones are some chunk's
abbrev pub ends_of : Region → List ℕ
ends_of box = map (λ span. span.start + span.size) box

abbrev pub all_below : List ℕ → Bool
all_below [] = true
all_below (n ∷ ns) = nat_lt n (2 ^ 64) && all_below ns

pub each_end_fits : (lengths : List (List ℕ)) (chunk : List ℕ) → sums_fit lengths ≡ true →
    IsChunk (boundary_grid lengths) chunk → all_below (ends_of ((boundary_grid lengths).chunk_box chunk)) ≡ true
each_end_fits [] [] e h = refl
each_end_fits [] (c ∷ chunk) e h = cc
each_end_fits (own ∷ lengths) [] e h = cc
each_end_fits (own ∷ lengths) (c ∷ chunk) e h =
    let parts = and_parts (is_in c (record { start = 0; size = length own }))
    (contains (whole (boundary_grid lengths).grid_shape) chunk) h in
    let fit = and_parts (nat_lt (sum own) (2 ^ 64)) (sums_fit lengths) e in
    let top : sum own < 2 ^ 64 = ltb-true _ _ fit.0 in
    let end : sum (take c own) + slice_index own c ≤ sum own = chunk_end own c (first_index c (length own) parts.0) in
    and_from _ _ (lt-ltb _ _ (let less : sum (take c own) + slice_index own c < 2 ^ 64 = omega arith in less))
    (each_end_fits lengths chunk fit.1 parts.1)

pub last_chunk : (lengths : List (List ℕ)) (chunk : List ℕ) → IsChunk (boundary_grid lengths) chunk → (last : List ℕ)
    × IsChunk (boundary_grid lengths) last × (ends_of ((boundary_grid lengths).chunk_box last) ≡ map sum lengths)
last_chunk [] [] h = ([], refl, refl)
last_chunk [] (c ∷ chunk) h = cc
last_chunk (own ∷ lengths) [] h = cc
last_chunk (own ∷ lengths) (c ∷ chunk) h =
    let parts = and_parts (is_in c (record { start = 0; size = length own }))
    (contains (whole (boundary_grid lengths).grid_shape) chunk) h in
    let below : c < length own = first_index c (length own) parts.0 in
    let (last, is_chunk, are) = last_chunk lengths chunk parts.1 in (
      (length own - 1) ∷ last,
      and_from _ _ (span_in (length own - 1) (record { start = 0; size = length own })
          (omega arith) (omega arith)) is_chunk,
      ap₂ (λ n ns. n ∷ ns) (last_end own (length own - 1) (omega arith)) are,
    )
