-- The bands of a product of dimensions.
use Rattle.std.proofs.Common.{◌≡◌, ℕ, zero, suc, ◌+◌, ◌<◌, ◌≤◌, ◌==◌, ◌&&◌, ◌||◌, min, max, Bool, true, false, nat_le}
use Rattle.std.proofs.Common.{nat_lt, if◌then◌else◌, List, [], ◌∷◌, length, map, filter, sum_by, get_or, slice_get}
use Rattle.std.proofs.Common.{Some, refl, sym, ap, ap₂, ◌∙◌, subst, arith}
use Rattle.std.specs.List.{AllZip, list_any, range_with_len}
use Rattle.std.proofs.lemmas.Bool.{and_parts, and_from, leb-true, ltb-true, le-leb}
use Rattle.std.proofs.Math.Dec.{eqb-suc-zero}
use Rattle.zarr_model.specs.Region.{Span, Region, whole, contains, count, is_in, ends_within, share_tuple}
use Rattle.zarr_model.specs.Grid.{Grid, IsChunk, chunks, chunks_meeting, CoversShape, Axis, box_of_axes, grid_of_axes}
use Rattle.zarr_model.specs.Grid.{CutsLength}
use Rattle.zarr_model.proofs.RegionLaws.{span_in, length-tuples, get_or-tuples, contains-tuple_at}
use Rattle.zarr_model.proofs.GridLaws.{axes_cover}
use Rattle.zarr_rechunk.specs.Bands.{span_inside, band, bands, meets_band}
use Rattle.zarr_rechunk.proofs.CountLaws.{kinds_together}

-- a grid is the product of dimensions that are each cut into parts
pub record IsProduct (shape : List ℕ) (grid : Grid) : Type 0 where
  pub axes : List Axis
  pub cut : AllZip CutsLength shape axes
  pub is : grid ≡ grid_of_axes axes

-- bands cut an array into parts, and each chunk meets one
pub record BandsCut (shape : List ℕ) (grid : Grid) : Type 0 where
  -- each lies inside the array
  pub inside : (k : ℕ) (band : Region) → slice_get (bands shape grid) k ≡ Some band → ends_within band shape ≡ true
  -- each tuple of the array is in one
  pub covered : (tuple : List ℕ) → contains (whole shape) tuple ≡ true →
      (k : ℕ) × (band : Region) × (slice_get (bands shape grid) k ≡ Some band) × (contains band tuple ≡ true)
  -- different bands share no tuple
  pub apart : (j k : ℕ) (band other : Region) (tuple : List ℕ) → slice_get (bands shape grid) j ≡ Some band →
      slice_get (bands shape grid) k ≡ Some other →
      contains band tuple ≡ true → contains other tuple ≡ true → j ≡ k
  -- a chunk meets one band at most
  pub one_band : (j k : ℕ) (band other : Region) (chunk : List ℕ) → IsChunk grid chunk →
      slice_get (bands shape grid) j ≡ Some band → slice_get (bands shape grid) k ≡ Some other →
      share_tuple (grid.chunk_box chunk) band ≡ true → share_tuple (grid.chunk_box chunk) other ≡ true → j ≡ k
  -- so the chunks that meet each band are together those that meet some band
  pub counted : sum_by (λ band. length (chunks_meeting grid band)) (bands shape grid) ≡
      length (filter (meets_band grid (bands shape grid)) (chunks grid))

-- an index and its bounds
bounds : (index : ℕ) (span : Span) → is_in index span ≡ true → (span.start ≤ index) × (index < span.start + span.size)
bounds index span h =
    let parts = and_parts (nat_le span.start index) (nat_lt index (span.start + span.size)) h in
    (leb-true _ _ parts.0, ltb-true _ _ parts.1)

below : (index n : ℕ) → is_in index (record { start = 0; size = n }) ≡ true → index < n
below index n h = let b = bounds index (record { start = 0; size = n }) h in omega (arith, b.1)

from_below : (index n : ℕ) → index < n → is_in index (record { start = 0; size = n }) ≡ true
from_below index n h = span_in index (record { start = 0; size = n }) (omega arith) (omega (arith, h))

-- the part of a span inside a length
inside_is : (n index : ℕ) (span : Span) → is_in index (span_inside n span) ≡ true → is_in index span ≡ true
inside_is n index span h =
    let b = bounds index (span_inside n span) h in
    span_in index span (omega (arith, b.0, b.1)) (omega (arith, b.0, b.1))

is_inside : (n index : ℕ) (span : Span) → index < n → is_in index span ≡ true → is_in index (span_inside n span) ≡ true
is_inside n index span low h =
    let b = bounds index span h in
    span_in index (span_inside n span) (omega (arith, b.0, low)) (omega (arith, b.0, b.1, low))

inside_ends : (n : ℕ) (span : Span) → nat_le ((span_inside n span).start + (span_inside n span).size) n ≡ true
inside_ends n span = le-leb _ _ (omega arith)

whole_ends : (shape : List ℕ) → ends_within (whole shape) shape ≡ true
whole_ends [] = refl
whole_ends (n ∷ shape) = and_from _ _ (le-leb (0 + n) n (omega arith)) (whole_ends shape)

-- two spans that share an index have one
shared_index : (a b : Span) → nat_lt (max a.start b.start) (min (a.start + a.size) (b.start + b.size)) ≡ true →
    (is_in (max a.start b.start) a ≡ true) × (is_in (max a.start b.start) b ≡ true)
shared_index a b h =
    let less : max a.start b.start < min (a.start + a.size) (b.start + b.size) = ltb-true _ _ h in (
      span_in (max a.start b.start) a (omega arith) (omega (arith, less)),
      span_in (max a.start b.start) b (omega arith) (omega (arith, less)),
    )

-- one dimension
module _ (n : ℕ) (axis : Axis) (cuts : CutsLength n axis) where
  line : CoversShape (n ∷ []) (grid_of_axes (axis ∷ []))
  line = axes_cover (n ∷ []) (axis ∷ []) (cuts, tt)

  alone : (b : Bool) → b ≡ true → (b && true) ≡ true
  alone b e = and_from b true e refl

  one_part : (index part other : ℕ) → part < axis.chunk_count → other < axis.chunk_count →
      is_in index (axis.chunk_span part) ≡ true → is_in index (axis.chunk_span other) ≡ true → part ≡ other
  one_part index part other within within' first second =
      let same : part ∷ [] ≡ other ∷ [] = line.apart (part ∷ []) (other ∷ [])
      (alone _ (from_below part axis.chunk_count within)) (alone _ (from_below other axis.chunk_count within'))
      (index ∷ []) (alone _ first) (alone _ second) in
      ap (λ chunk. get_or chunk 0 0) same

  part_with : (index : ℕ) → index < n →
      (part : ℕ) × (part < axis.chunk_count) × (is_in index (axis.chunk_span part) ≡ true)
  part_with index low = found (line.all_covered (index ∷ []) (alone _ (from_below index n low)))
    where
      found : ((chunk : List ℕ) × IsChunk (grid_of_axes (axis ∷ [])) chunk ×
          (contains (box_of_axes (axis ∷ []) chunk) (index ∷ []) ≡ true)) →
          (part : ℕ) × (part < axis.chunk_count) × (is_in index (axis.chunk_span part) ≡ true)
      found ([], is_chunk, holds) = cc
      found (part ∷ chunk, is_chunk, holds) =
          (part, below part axis.chunk_count (and_parts _ _ is_chunk).0, (and_parts _ _ holds).0)

-- the items of a list by number
item_is : (f : ℕ → Region) (a m k : ℕ) (r : Region) → slice_get (map f (range_with_len a m)) k ≡ Some r →
    (k < m) × (f (a + k) ≡ r)
item_is f a zero k r e = cc
item_is f a (suc m) zero r e =
    (omega arith, ap f (let same : a + 0 ≡ a = omega arith in same) ∙ (let is : f a ≡ r = cc in is))
item_is f a (suc m) (suc k) r e =
    let rest = item_is f (a + 1) m k r e in
    (omega (arith, rest.0), ap f (let same : a + suc k ≡ a + 1 + k = omega arith in same) ∙ rest.1)

item_at : (f : ℕ → Region) (a m k : ℕ) → k < m → slice_get (map f (range_with_len a m)) k ≡ Some (f (a + k))
item_at f a zero k h = absurd (omega (arith, h))
item_at f a (suc m) zero h = ap (λ n. Some (f n)) (let same : a ≡ a + 0 = omega arith in same)
item_at f a (suc m) (suc k) h = item_at f (a + 1) m k (omega (arith, h))
    ∙ ap (λ n. Some (f n)) (let same : a + 1 + k ≡ a + suc k = omega arith in same)

-- a shape with elements has no length 0
some_lengths : (shape tuple : List ℕ) → contains (whole shape) tuple ≡ true →
    list_any (λ length. length == 0) shape ≡ false
some_lengths [] tuple h = refl
some_lengths (n ∷ shape) [] h = cc
some_lengths (n ∷ shape) (index ∷ tuple) h =
    let parts = and_parts (is_in index (record { start = 0; size = n })) (contains (whole shape) tuple) h in
    ap₂ (λ a b. a || b) (positive n (omega (arith, below index n parts.0))) (some_lengths shape tuple parts.1)
  where
    positive : (m : ℕ) → 0 < m → (m == 0) ≡ false
    positive zero low = absurd (omega (arith, low))
    positive (suc m) low = eqb-suc-zero m

-- the item at a place
within : {X : Type 0} (xs : List X) (k : ℕ) (x : X) → slice_get xs k ≡ Some x →
    (k < length xs) × ((d : X) → get_or xs k d ≡ x)
within [] k x e = cc
within (y ∷ ys) zero x e = (omega arith, λ d. let same : y ≡ x = cc in same)
within (y ∷ ys) (suc k) x e = let (h, each) = within ys k x e in (omega arith, each)

-- the chunks of a grid
listed : (grid : Grid) (i : ℕ) (chunk : List ℕ) → slice_get (chunks grid) i ≡ Some chunk → IsChunk grid chunk
listed grid i chunk e =
    let all : Region = whole grid.grid_shape in
    let here = within (chunks grid) i chunk e in
    let low : i < count all = subst (λ n. i < n) (length-tuples all) here.0 in
    subst (λ c. contains all c ≡ true) (sym (get_or-tuples all i [] low) ∙ here.1 []) (contains-tuple_at all i low)

-- where each chunk meets one band, those that meet each are together those that meet some
counts : (grid : Grid) (list : List Region) →
    ((j k : ℕ) (first second : Region) (chunk : List ℕ) → IsChunk grid chunk → slice_get list j ≡ Some first →
    slice_get list k ≡ Some second →
    share_tuple (grid.chunk_box chunk) first ≡ true → share_tuple (grid.chunk_box chunk) second ≡ true → j ≡ k) →
    sum_by (λ b. length (chunks_meeting grid b)) list ≡ length (filter (meets_band grid list) (chunks grid))
counts grid list one = kinds_together (λ b chunk. share_tuple (grid.chunk_box chunk) b) list (chunks grid)
    (λ i chunk e j k first second at_j at_k meets also.
    one j k first second chunk (listed grid i chunk e) at_j at_k meets also)

-- an array without dimensions
only : (j k : ℕ) (a b : Region) → slice_get ([] ∷ []) j ≡ Some a → slice_get ([] ∷ []) k ≡ Some b → j ≡ k
only zero zero a b e f = refl
only zero (suc k) a b e f = cc
only (suc j) k a b e f = cc

no_dimensions : BandsCut [] (grid_of_axes [])
no_dimensions = record {
  inside = inside;
  covered = covered;
  apart = λ j k a b tuple e f first second. only j k a b e f;
  one_band = λ j k a b chunk is_chunk e f first second. only j k a b e f;
  counted = counts (grid_of_axes []) ([] ∷ []) (λ j k a b chunk is_chunk e f first second. only j k a b e f);
}
  where
    inside : (k : ℕ) (b : Region) → slice_get ([] ∷ []) k ≡ Some b → ends_within b [] ≡ true
    inside zero b e = let same : [] ≡ b = cc in subst (λ r. ends_within r [] ≡ true) same refl
    inside (suc k) b e = cc

    covered : (tuple : List ℕ) → contains (whole []) tuple ≡ true →
        (k : ℕ) × (b : Region) × (slice_get ([] ∷ []) k ≡ Some b) × (contains b tuple ≡ true)
    covered [] h = (0, [], refl, refl)
    covered (index ∷ tuple) h = cc

-- an array with dimensions
module _ (n : ℕ) (shape : List ℕ) (axis : Axis) (axes : List Axis) (cuts : CutsLength n axis) where
  part : ℕ → Region
  part k = span_inside n (axis.chunk_span k) ∷ whole shape

  at_band : (k : ℕ) (r : Region) → slice_get (bands (n ∷ shape) (grid_of_axes (axis ∷ axes))) k ≡ Some r →
      (k < axis.chunk_count) × (part k ≡ r)
  unfolding part
  at_band k r e = go (list_any (λ length. length == 0) (n ∷ shape)) e
    where
      go : (b : Bool) → slice_get (if b then [] else map (band (grid_of_axes (axis ∷ axes)) n shape)
          (range_with_len 0 axis.chunk_count)) k ≡ Some r → (k < axis.chunk_count) × (part k ≡ r)
      go true e = cc
      go false e =
          let found = item_is (band (grid_of_axes (axis ∷ axes)) n shape) 0 axis.chunk_count k r e in
          let same : k ≡ 0 + k = omega arith in
          (found.0, ap part same ∙ found.1)

  is_band : (k : ℕ) → list_any (λ length. length == 0) (n ∷ shape) ≡ false → k < axis.chunk_count →
      slice_get (bands (n ∷ shape) (grid_of_axes (axis ∷ axes))) k ≡ Some (part k)
  unfolding part
  is_band k none h =
      ap (λ b. slice_get
      (if b then [] else map (band (grid_of_axes (axis ∷ axes)) n shape) (range_with_len 0 axis.chunk_count)) k) none
      ∙ (item_at (band (grid_of_axes (axis ∷ axes)) n shape) 0 axis.chunk_count k h
      ∙ ap (λ m. Some (part m)) (let same : 0 + k ≡ k = omega arith in same))

  in_part : (k index : ℕ) (tuple : List ℕ) → contains (part k) (index ∷ tuple) ≡ true →
      is_in index (axis.chunk_span k) ≡ true
  unfolding part
  in_part k index tuple h = inside_is n index (axis.chunk_span k)
      (and_parts (is_in index (span_inside n (axis.chunk_span k))) (contains (whole shape) tuple) h).0

  parts_apart : (j k : ℕ) (tuple : List ℕ) → j < axis.chunk_count → k < axis.chunk_count →
      contains (part j) tuple ≡ true → contains (part k) tuple ≡ true → j ≡ k
  unfolding part
  parts_apart j k [] first second a b = cc
  parts_apart j k (index ∷ tuple) first second a b =
      one_part n axis cuts index j k first second (in_part j index tuple a) (in_part k index tuple b)

  chunk_part : (k index : ℕ) (chunk : List ℕ) → index < axis.chunk_count → k < axis.chunk_count →
      share_tuple (box_of_axes (axis ∷ axes) (index ∷ chunk)) (part k) ≡ true → k ≡ index
  unfolding part
  chunk_part k index chunk own low meets =
      let a = axis.chunk_span index in
      let b = span_inside n (axis.chunk_span k) in
      let both = shared_index a b (and_parts (nat_lt (max a.start b.start)
      (min (a.start + a.size) (b.start + b.size))) (share_tuple (box_of_axes axes chunk) (whole shape)) meets).0 in
      one_part n axis cuts (max a.start b.start) k index low own
      (inside_is n (max a.start b.start) (axis.chunk_span k) both.1) both.0

  one_met : (j k : ℕ) (first second : Region) (chunk : List ℕ) → IsChunk (grid_of_axes (axis ∷ axes)) chunk →
      slice_get (bands (n ∷ shape) (grid_of_axes (axis ∷ axes))) j ≡ Some first →
      slice_get (bands (n ∷ shape) (grid_of_axes (axis ∷ axes))) k ≡ Some second →
      share_tuple (box_of_axes (axis ∷ axes) chunk) first ≡ true →
      share_tuple (box_of_axes (axis ∷ axes) chunk) second ≡ true → j ≡ k
  one_met j k first second [] is_chunk e f a b = cc
  one_met j k first second (index ∷ chunk) is_chunk e f a b =
      let own : index < axis.chunk_count = below index axis.chunk_count (and_parts _ _ is_chunk).0 in
      let at_j = at_band j first e in
      let at_k = at_band k second f in
      chunk_part j index chunk own at_j.0
      (subst (λ r. share_tuple (box_of_axes (axis ∷ axes) (index ∷ chunk)) r ≡ true) (sym at_j.1) a)
      ∙ sym (chunk_part k index chunk own at_k.0
      (subst (λ r. share_tuple (box_of_axes (axis ∷ axes) (index ∷ chunk)) r ≡ true) (sym at_k.1) b))

  inside_of : (k : ℕ) → ends_within (part k) (n ∷ shape) ≡ true
  unfolding part
  inside_of k = and_from _ _ (inside_ends n (axis.chunk_span k)) (whole_ends shape)

  covered_by : (tuple : List ℕ) → contains (whole (n ∷ shape)) tuple ≡ true →
      (k : ℕ) × (r : Region) × (slice_get (bands (n ∷ shape) (grid_of_axes (axis ∷ axes))) k ≡ Some r) ×
      (contains r tuple ≡ true)
  unfolding part
  covered_by [] h = cc
  covered_by (index ∷ tuple) h =
      let parts = and_parts (is_in index (record { start = 0; size = n })) (contains (whole shape) tuple) h in
      let low : index < n = below index n parts.0 in
      let (k, few, holds) = part_with n axis cuts index low in (
        k,
        part k,
        is_band k (some_lengths (n ∷ shape) (index ∷ tuple) h) few,
        and_from _ _ (is_inside n index (axis.chunk_span k) low holds) parts.1,
      )

  some_dimensions : BandsCut (n ∷ shape) (grid_of_axes (axis ∷ axes))
  some_dimensions = record {
    inside = λ k r e. let at = at_band k r e in subst (λ b. ends_within b (n ∷ shape) ≡ true) at.1 (inside_of k);
    covered = covered_by;
    apart = λ j k a b tuple e f first second.
        let at_j = at_band j a e in
        let at_k = at_band k b f in
        parts_apart j k tuple at_j.0 at_k.0 (subst (λ r. contains r tuple ≡ true) (sym at_j.1) first)
        (subst (λ r. contains r tuple ≡ true) (sym at_k.1) second);
    one_band = one_met;
    counted = counts (grid_of_axes (axis ∷ axes)) (bands (n ∷ shape) (grid_of_axes (axis ∷ axes))) one_met;
  }

of_axes : (shape : List ℕ) (axes : List Axis) → AllZip CutsLength shape axes → BandsCut shape (grid_of_axes axes)
of_axes [] [] cut = no_dimensions
of_axes [] (axis ∷ axes) cut = absurd cut
of_axes (n ∷ shape) [] cut = absurd cut
of_axes (n ∷ shape) (axis ∷ axes) cut = some_dimensions n shape axis axes cut.0

pub each_product_is_cut : (shape : List ℕ) (grid : Grid) → IsProduct shape grid → BandsCut shape grid
each_product_is_cut shape grid is = subst (BandsCut shape) (sym is.is) (of_axes shape is.axes is.cut)
