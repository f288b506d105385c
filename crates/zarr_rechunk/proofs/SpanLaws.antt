-- The band of a chunk, by its starts and lengths in the first dimension.
use Rattle.std.proofs.Common.{◌≡◌, ℕ, zero, suc, ◌+◌, ◌-◌, ◌<◌, ◌≤◌, ◌==◌, true, false, if◌then◌else◌, List, [], ◌∷◌}
use Rattle.std.proofs.Common.{◌++◌, length, map, get_or, drop, replicate, append_assoc, append-nil, refl, sym, ap, ap₂}
use Rattle.std.proofs.Common.{◌∙◌, subst, arith}
use Rattle.std.specs.List.{list_any, range_with_len}
use Rattle.std.proofs.lemmas.Bool.{and_parts, and_from, or_parts, ltb-true}
use Rattle.zarr_model.specs.Region.{Span, Region, starts, sizes, whole, contains, is_in}
use Rattle.zarr_model.specs.Grid.{Grid, IsChunk, CoversShape}
use Rattle.zarr_model.proofs.RegionLaws.{span_in}
use Rattle.zarr_rechunk.specs.Bands.{span_inside, first_span, first_length, band, bands}

start_is : (box : Region) → first_length (starts box) ≡ (first_span box).start
start_is [] = refl
start_is (span ∷ box) = refl

size_is : (box : Region) → first_length (sizes box) ≡ (first_span box).size
size_is [] = refl
size_is (span ∷ box) = refl

pub band_is : (grid : Grid) (n index start size : ℕ) (shape chunk : List ℕ) (r : Region) (span : Span) →
    chunk ≡ index ∷ replicate (length shape) 0 →
    start ≡ first_length (starts (grid.chunk_box chunk)) → size ≡ first_length (sizes (grid.chunk_box chunk)) →
    span ≡ span_inside n (record { start = start; size = size }) → r ≡ span ∷ whole shape → r ≡ band grid n shape index
band_is grid n index start size shape chunk r span chunk_is start_eq size_eq span_eq is =
    is ∙ ap (λ s. s ∷ whole shape) (span_eq
    ∙ (ap₂ (λ a b. span_inside n (record { start = a; size = b })) (start_eq ∙ start_is (grid.chunk_box chunk))
    (size_eq ∙ size_is (grid.chunk_box chunk))
    ∙ ap (λ c. span_inside n (first_span (grid.chunk_box c))) chunk_is))

-- zeros are the indices of a chunk where there is one
low : (index n : ℕ) → is_in index (record { start = 0; size = n }) ≡ true →
    is_in 0 (record { start = 0; size = n }) ≡ true
low index n h =
    let b : index < 0 + n = ltb-true _ _ (and_parts _ _ h).1 in
    span_in 0 (record { start = 0; size = n }) (omega arith) (omega (arith, b))

zeros_in : (shape tuple : List ℕ) → contains (whole shape) tuple ≡ true →
    contains (whole shape) (replicate (length shape) 0) ≡ true
zeros_in [] tuple h = refl
zeros_in (n ∷ shape) [] h = cc
zeros_in (n ∷ shape) (index ∷ tuple) h =
    let parts = and_parts (is_in index (record { start = 0; size = n })) (contains (whole shape) tuple) h in
    and_from _ _ (low index n parts.0) (zeros_in shape tuple parts.1)

positive_in : (shape : List ℕ) → list_any (λ length. length == 0) shape ≡ false →
    contains (whole shape) (replicate (length shape) 0) ≡ true
positive_in [] none = refl
positive_in (zero ∷ shape) none = cc
positive_in (suc n ∷ shape) none =
    and_from _ _ (span_in 0 (record { start = 0; size = suc n }) (omega arith) (omega arith))
    (positive_in shape (or_parts _ _ none).1)

pub first_chunk : (n : ℕ) (shape : List ℕ) (grid : Grid) (index : ℕ) → CoversShape (n ∷ shape) grid →
    list_any (λ length. length == 0) (n ∷ shape) ≡ false → index < first_length grid.grid_shape →
    IsChunk grid (index ∷ replicate (length shape) 0)
first_chunk n shape grid index covers none few = go (covers.all_covered (replicate (length (n ∷ shape)) 0)
    (positive_in (n ∷ shape) none)) grid.grid_shape refl covers.rank few
  where
    go : ((chunk : List ℕ) × IsChunk grid chunk × (contains (grid.chunk_box chunk) (replicate (length (n ∷ shape)) 0) ≡
        true)) → (counts : List ℕ) → grid.grid_shape ≡ counts →
        length grid.grid_shape ≡ suc (length shape) → index < first_length grid.grid_shape →
        contains (whole grid.grid_shape) (index ∷ replicate (length shape) 0) ≡ true
    go (chunk, is_chunk, holds) [] is rank h = let none_there : length grid.grid_shape ≡ 0 = ap length is in
        absurd (omega (arith, none_there, rank))
    go (chunk, is_chunk, holds) (m ∷ counts) is rank h =
        let all : contains (whole (m ∷ counts)) (replicate (length (m ∷ counts)) 0) ≡ true =
        zeros_in (m ∷ counts) chunk (subst (λ s. contains (whole s) chunk ≡ true) is is_chunk) in
        let rest = (and_parts (is_in 0 (record { start = 0; size = m }))
        (contains (whole counts) (replicate (length counts) 0)) all).1 in
        let same : length counts ≡ length shape = omega (arith, rank, ap length is) in
        let below : index < m = subst (λ s. index < first_length s) is h in
        subst (λ s. contains (whole s) (index ∷ replicate (length shape) 0) ≡ true) (sym is)
        (and_from _ _ (span_in index (record { start = 0; size = m }) (omega arith) (omega (arith, below)))
        (subst (λ k. contains (whole counts) (replicate k 0) ≡ true) same rest))

-- bands one after another
pub more_bands : (f : ℕ → Region) (i count : ℕ) (done new all : List Region) (b : Region) → i < count →
    new ≡ done ++ b ∷ [] → b ≡ f i →
    done ++ map f (range_with_len i (count - i)) ≡ all → new ++ map f (range_with_len (i + 1) (count - (i + 1))) ≡ all
more_bands f i count done new all b few is band_eq so_far =
    let next : count - i ≡ suc (count - (i + 1)) = omega (arith, few) in
    ap (λ l. l ++ map f (range_with_len (i + 1) (count - (i + 1)))) is
    ∙ (append_assoc done (b ∷ []) (map f (range_with_len (i + 1) (count - (i + 1))))
    ∙ (ap (λ x. done ++ x ∷ map f (range_with_len (i + 1) (count - (i + 1)))) band_eq
    ∙ (ap (λ n. done ++ map f (range_with_len i n)) (sym next) ∙ so_far)))

pub all_bands : (f : ℕ → Region) (i count : ℕ) (done all : List Region) → count ≤ i →
    done ++ map f (range_with_len i (count - i)) ≡ all → done ≡ all
all_bands f i count done all end so_far =
    let none : count - i ≡ 0 = omega (arith, end) in
    sym (append-nil done) ∙ (ap (λ n. done ++ map f (range_with_len i n)) (sym none) ∙ so_far)

-- a shape by its first length and the others
pub parts_of : (shape : List ℕ) → ¬ (length shape ≡ 0) → shape ≡ get_or shape 0 0 ∷ drop 1 shape
parts_of [] some = absurd (some refl)
parts_of (n ∷ shape) some = refl

-- the cases of bands
pub one_band : (shape : List ℕ) (grid : Grid) → length shape ≡ 0 → bands shape grid ≡ [] ∷ []
one_band [] grid none = refl
one_band (n ∷ shape) grid none = absurd (omega (arith, none))

pub no_bands : (shape : List ℕ) (grid : Grid) → ¬ (length shape ≡ 0) → list_any (λ length. length == 0) shape ≡ true →
    bands shape grid ≡ []
no_bands [] grid some zero_is = absurd (some refl)
no_bands (n ∷ shape) grid some zero_is =
    ap (λ b. if b then [] else map (band grid n shape) (range_with_len 0 (first_length grid.grid_shape))) zero_is

pub some_bands : (shape : List ℕ) (n : ℕ) (others : List ℕ) (grid : Grid) → shape ≡ n ∷ others →
    list_any (λ length. length == 0) shape ≡ false →
    bands shape grid ≡ map (band grid n others) (range_with_len 0 (first_length grid.grid_shape))
some_bands shape n others grid is none =
    ap (λ s. bands s grid) is ∙ ap (λ b. if b then [] else map (band grid n others)
    (range_with_len 0 (first_length grid.grid_shape))) (ap (list_any (λ length. length == 0)) (sym is) ∙ none)
