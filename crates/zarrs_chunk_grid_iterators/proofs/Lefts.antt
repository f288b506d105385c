-- Places that an iterator has left, mapped.
use Rattle.std.proofs.Common.{◌≡◌, ℕ, suc, ◌+◌, ◌-◌, ◌%◌, ◌<◌, ◌≤◌, [], ◌∷◌, ◌++◌, length, map, refl, ap, ◌∙◌, arith}
use Rattle.std.specs.List.{range_with_len}
use Rattle.std.proofs.lemmas.List.{length-map}
use Rattle.std.proofs.lemmas.List.FromFn.{length-map-range_with_len, map-range_with_len_more}
use Rattle.zarrs_chunk_grid_iterators.specs.Places.{places}
use Rattle.zarrs_array_subset.proofs.Ravels.{count_region}
use Rattle.zarr_model.specs.Region.{Region, count, tuple_at}
use Rattle.zarrs_array_subset.proofs.BoxLaws.{region_parts}

pub length_left : {X : Type 0} (f : ℕ → X) (a b : ℕ) → length (map f (places a b)) ≡ b - a
length_left f a b = length-map-range_with_len f a (b - a)

pub first_place_left : {X : Type 0} (f : ℕ → X) (a b : ℕ) → a < b → map f (places a b) ≡ f a ∷ map f (places (a + 1) b)
first_place_left f a b h = let n : b - a ≡ suc (b - (a + 1)) = omega arith in ap (λ n. map f (range_with_len a n)) n

pub last_place_left : {X : Type 0} (f : ℕ → X) (a b : ℕ) → a < b →
    map f (places a b) ≡ map f (places a (b - 1)) ++ f (b - 1) ∷ []
last_place_left f a b h =
    let n : b - a ≡ (b - 1 - a) + 1 = omega arith in
    ap (λ n. map f (range_with_len a n)) n ∙ map-range_with_len_more f a (b - 1 - a) (b - 1) (omega arith)

pub none_left : {X : Type 0} (f : ℕ → X) (a b : ℕ) → b ≤ a → map f (places a b) ≡ []
none_left f a b h = let n : b - a ≡ 0 = omega arith in ap (λ n. map f (range_with_len a n)) n

pub ruleset of_lengths = (length-map, length_left)

pub ruleset of_parts = (region_parts)

pub ruleset of_places = (length_left, first_place_left, last_place_left, none_left, count_region)

pub length_at : (region : Region) (place : ℕ) → length (tuple_at region place) ≡ length region
length_at [] place = refl
length_at (span ∷ region) place = let rest : length (tuple_at region (place % count region)) ≡ length region =
    length_at region (place % count region) in omega arith

pub ruleset of_tuple = (region_parts, length_at, length-map)
