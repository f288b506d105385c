-- What holds of a region's tuples and runs inside a shape.
use Rattle.std.proofs.Common.{◌≡◌, ℕ, zero, suc, ◌+◌, ◌<◌, ◌≤◌, ◌^◌, ◌⊎◌, inl, inr, Bool, true, false, ◌&&◌, nat_le}
use Rattle.std.proofs.Common.{List, [], ◌∷◌, ◌++◌, length, map, Some, None, refl, sym, ap, subst, arith}
use Rattle.std.specs.List.{AllByRecursion, range_with_len}
use Rattle.std.proofs.lemmas.List.Elements.{recursion_from_All}
use Rattle.zarr_model.specs.Region.{Span, Region, count, count_of, sizes, whole, contains, tuples, ends_within}
use Rattle.zarr_model.specs.Region.{linear_index}
use Rattle.zarr_model.specs.Cover.{linear_indices}
use Rattle.zarr_model.proofs.RegionLaws.{length-tuples, get_or-tuples, contains-tuple_at}
use Rattle.zarr_model.proofs.ArrayLaws.{inside_shape}
use Rattle.zarrs_array_subset.specs.Errors.{RefusesShape, no_memory}
use Rattle.zarrs_array_subset.specs.declared.error.IndexerError.{IndexerError}
use Rattle.zarrs_array_subset.specs.declared.error.IndexerError.TheVariants.{OutOfMemory, IncompatibleDimensionality}
use Rattle.zarrs_array_subset.specs.declared.error.IndexerError.TheVariants.{OutOfBounds, IncompatibleLength}
use Rattle.zarrs_chunk_grid_iterators.specs.Runs.{joined, runs}
use Rattle.zarrs_chunk_grid_iterators.proofs.RunCover.{runs_in_order, covers_least}
use Rattle.zarrs_chunk_grid_iterators.proofs.Linears.{linear_below}

-- each tuple of a region inside a shape lies in the shape
pub box_inside : (region : Region) (shape : List ℕ) → ends_within region shape ≡ true →
    AllByRecursion (λ tuple. contains (whole shape) tuple ≡ true) (tuples region)
box_inside region shape e = recursion_from_All (λ tuple. contains (whole shape) tuple ≡ true) (tuples region) (λ k d h.
    let below : k < count region = subst (λ n. k < n) (length-tuples region) h in
    subst (λ t. contains (whole shape) t ≡ true) (sym (get_or-tuples region k d below))
    (inside_shape region shape _ e (contains-tuple_at region k below)))

-- its runs, one after another, are its linear indices
pub box_joins : (region : Region) (shape : List ℕ) → ends_within region shape ≡ true →
    joined (runs shape region) ≡ map (linear_index shape) (tuples region)
box_joins region shape e = runs_in_order shape region e

linear_all : (region : Region) (shape : List ℕ) → ends_within region shape ≡ true → (tuples' : List (List ℕ)) →
    AllByRecursion (λ tuple. linear_index shape tuple < count_of shape) tuples' →
    AllByRecursion (λ i. i < count_of shape) (map (linear_index shape) tuples')
linear_all region shape e [] h = tt
linear_all region shape e (t ∷ ts) h = (h.0, linear_all region shape e ts h.1)

linear_small : (region : Region) (shape : List ℕ) → ends_within region shape ≡ true →
    AllByRecursion (λ i. i < count_of shape) (linear_indices shape region)
linear_small region shape e = linear_all region shape e (tuples region)
    (recursion_from_All (λ tuple. linear_index shape tuple < count_of shape) (tuples region) (λ k d h.
    let below : k < count region = subst (λ n. k < n) (length-tuples region) h in
    subst (λ t. linear_index shape t < count_of shape) (sym (get_or-tuples region k d below))
    (linear_below region shape k e below)))

last_in : (n a k : ℕ) (rest : List ℕ) → 0 < k → AllByRecursion (λ i. i < n) (range_with_len a k ++ rest) → a + k ≤ n
last_in n a zero rest h b = absurd (omega arith)
last_in n a (suc zero) rest h b = let first : a < n = b.0 in omega arith
last_in n a (suc (suc k)) rest h b = let r : a + 1 + suc k ≤ n = last_in n (a + 1) (suc k) rest (omega arith) b.1 in
    omega arith

rest_in : (n a k : ℕ) (rest : List ℕ) → AllByRecursion (λ i. i < n) (range_with_len a k ++ rest) →
    AllByRecursion (λ i. i < n) rest
rest_in n a zero rest b = b
rest_in n a (suc k) rest b = rest_in n (a + 1) k rest b.1

all_joined : (n : ℕ) (spans : List Span) → AllByRecursion (λ span. 0 < span.size) spans →
    AllByRecursion (λ i. i < n) (joined spans) → AllByRecursion (λ span. span.start + span.size ≤ n) spans
all_joined n [] a b = tt
all_joined n (s ∷ spans) a b =
    (last_in n s.start s.size (joined spans) a.0 b, all_joined n spans a.1 (rest_in n s.start s.size (joined spans) b))

-- each of its runs ends within the shape's linear indices
pub box_within : (region : Region) (shape : List ℕ) → ends_within region shape ≡ true →
    AllByRecursion (λ span. span.start + span.size ≤ count_of shape) (runs shape region)
box_within region shape e =
    all_joined (count_of shape) (runs shape region)
    (recursion_from_All (λ span. 0 < span.size) (runs shape region) (covers_least shape region e).least.cover.nonempty)
    (subst (AllByRecursion (λ i. i < count_of shape)) (sym (runs_in_order shape region e))
    (linear_small region shape e))

pub box_outputs : (region : Region) → count_of (sizes region) ≡ length (tuples region)
box_outputs region = sym (length-tuples region)

pub box_listable : (region : Region) → length (tuples region) < 2 ^ 64 → count region < 2 ^ 64
box_listable region h = subst (λ n. n < 2 ^ 64) (length-tuples region) h

pub same_region : (a r : Region) → Some a ≡ Some r → (tuples a ≡ tuples r) × (length a ≡ length r)
same_region a r e = let same : a ≡ r = cc in (ap tuples same, ap length same)

pub no_region : (P : Type 0) (r : Region) → None ≡ Some r → P
no_region P r e = cc

-- what a refusal says
pub box_refusal : (region : Region) (shape : List ℕ) (e : IndexerError) → RefusesShape region shape e →
    (e ≡ no_memory) ⊎ (ends_within region shape ≡ false)
box_refusal region shape OutOfMemory h = inl refl
box_refusal region shape (IncompatibleDimensionality e) h = inr (other_rank region shape h.2)
  where
    other_rank : (region : Region) (shape : List ℕ) → (length region ≡ length shape → ⊥) →
        ends_within region shape ≡ false
    other_rank [] [] ne = absurd (ne refl)
    other_rank [] (n ∷ shape) ne = refl
    other_rank (span ∷ region) [] ne = refl
    other_rank (span ∷ region) (n ∷ shape) ne =
        go (nat_le (span.start + span.size) n) (other_rank region shape (λ same. ne (ap suc same)))
      where
        go : (b : Bool) → ends_within region shape ≡ false → (b && ends_within region shape) ≡ false
        go true h = h
        go false h = refl
box_refusal region shape (OutOfBounds end bound) h = inr h.1
box_refusal region shape (IncompatibleLength got expected) h = absurd h
