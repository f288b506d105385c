-- The numbers that a regular grid makes of a chunk shape.
use Rattle.std.specs.Prelude.{ℕ, ◌+◌, ◌-◌, ◌*◌, ◌/◌, ◌%◌, ◌^◌, min, List, [], ◌∷◌, map, zip}
use Rattle.std.specs.declared.num.NonZeroU64.{NonZeroU64}
use Rattle.std.specs.Int.NonZero.{non_zero_u64_get}
use Rattle.zarr_model.specs.Prelude.{Span, Region}

-- numbers made of lists, place by place: quotients rounded up and down, those of the last index of
-- each start and length, and products
abbrev pub quotients_up : List ℕ → List NonZeroU64 → List ℕ
quotients_up numbers lengths = map (λ p.
    p.0 / non_zero_u64_get p.1 + min 1 (p.0 % non_zero_u64_get p.1)) (zip numbers lengths)

abbrev pub quotients : List ℕ → List NonZeroU64 → List ℕ
quotients indices lengths = map (λ p. p.0 / non_zero_u64_get p.1) (zip indices lengths)

abbrev pub lasts : List ℕ → List ℕ → List NonZeroU64 → List ℕ
lasts start shape lengths =
    map (λ p. (min (p.0.0 + p.0.1) (2 ^ 64 - 1) - 1) / non_zero_u64_get p.1)
    (zip (zip start shape) lengths)

abbrev pub products : List ℕ → List NonZeroU64 → List ℕ
products chunk lengths = map (λ p. min (p.0 * non_zero_u64_get p.1) (2 ^ 64 - 1))
    (zip chunk lengths)

-- the chunks that a span meets, where each has this length, and those that a region meets
abbrev pub chunk_span : NonZeroU64 → Span → Span
chunk_span p span = record {
  start = span.start / non_zero_u64_get p;
  size = (span.start + span.size - 1) / non_zero_u64_get p - span.start / non_zero_u64_get p + 1;
}

abbrev pub chunk_region : List NonZeroU64 → Region → Region
chunk_region (p ∷ lengths) (span ∷ region) = chunk_span p span ∷ chunk_region lengths region
chunk_region _ _ = []
