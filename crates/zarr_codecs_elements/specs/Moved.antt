-- Where elements stand once the dimensions of their array are ordered anew.
use Rattle.std.specs.Prelude.{◌≡◌, ℕ, ◌+◌, ◌*◌, ◌^◌, ◌<◌, true, List, [], ◌∷◌, length, map, replicate, None}
use Rattle.std.specs.List.{flat_map, range_with_len}
use Rattle.zarrs_codec_traits.specs.Prelude.{whole, tuples, place, permuted, count_of, ArrayBytes, lengths_refusal}
use Rattle.zarr_codecs_elements.specs.Order.{is_order, scattered, row_major}

-- for each tuple of a shape, in row-major order, the place of the ordered tuple in the ordered
-- shape
abbrev pub moved_places : List ℕ → List ℕ → List ℕ
moved_places order shape =
    map (λ tuple. place (whole (permuted order shape)) (permuted order tuple))
    (tuples (whole shape))

-- numbers over a shape, in row-major order, that grow by a step for each index of a dimension
abbrev pub strided : List ℕ → List ℕ → ℕ → List ℕ
strided (n ∷ shape) (step ∷ steps) from =
    flat_map (λ i. strided shape steps (from + i * step)) (range_with_len 0 n)
strided _ _ from = from ∷ []

-- the step of each dimension of a shape in the list of the ordered shape
abbrev pub moved_steps : List ℕ → List ℕ → List ℕ
moved_steps order shape =
    scattered order (row_major (permuted order shape)) (replicate (length order) 0)

-- the places in runs of one length, by the places of the runs
abbrev pub in_runs : ℕ → List ℕ → List ℕ
in_runs run places = flat_map (λ place. range_with_len (place * run) run) places

-- array bytes are those of so many runs of elements of a size, with as many elements in each: a run
-- for each place of a shape whose dimensions are ordered so, which has these steps
pub record AreRuns (dimensions shape strides : List ℕ) (runs run size : ℕ) (given : ArrayBytes)
    : Type 0 where
  pub order : is_order dimensions ≡ true
  pub rank : length shape ≡ length dimensions
  pub some : 0 < count_of shape
  pub count : runs ≡ count_of shape
  pub steps : strides ≡ moved_steps dimensions shape
  -- the elements and the bytes of a run can be counted, and the lengths are theirs
  pub fits : runs * run < 2 ^ 64
  pub bytes : run * size < 2 ^ 64
  pub long : lengths_refusal size (runs * run) given ≡ None
