-- A value in which a run of a region does not lie has no elements.
use Rattle.std.specs.Prelude.{◌≡◌, ◌==◌, ℕ, ◌+◌, ◌*◌, ◌≤◌, Bool, true, if◌then◌else◌, List, [], ◌∷◌, length, map}
use Rattle.std.specs.Prelude.{Option, Some, None, refl}
use Rattle.std.specs.List.{AllByRecursion}
use Rattle.std.proofs.Common.{subst, eqb-true, ap, ◌∙◌, arith}
use Rattle.std.proofs.lemmas.Bool.{le-leb}
use Rattle.std.proofs.Math.Nat.{mul-le-mul_right}
use Rattle.zarrs_codec_traits.specs.Prelude.{Span, Region, count_of, ends_within, Element, of_bytes, Kind, fixed}
use Rattle.zarrs_codec_traits.specs.Prelude.{variable, optional, kind_of, fixed_size, pieces, size_in, first_invalid}
use Rattle.zarr_model.specs.Codec.{ByteOrder, Level, Options, bytes_codec, decode_array_to_bytes, decode_fixed}
use Rattle.zarr_model.specs.Codec.{from_order, component_size}
use Rattle.zarr_model.proofs.BytesLaws.{when_some}
use Rattle.zarrs_chunk_grid_iterators.specs.Runs.{runs}
use Rattle.zarrs_chunk_grid_iterators.proofs.BoxFacts.{box_within}
use Rattle.zarrs_storage.specs.declared.byte_range.ByteRange.{ByteRange}
use Rattle.zarr_codecs_to_bytes.specs.BytesCodec.{element_bytes, bytes_size}
use Rattle.zarr_codecs_to_bytes.specs.Ranges.{run_range, run_ranges}

-- the range of each run within a count lies within that many elements
all_valid : (n number long : ℕ) (spans : List Span)
    → AllByRecursion (λ span. span.start + span.size ≤ number) spans → long ≡ number * n
    → first_invalid long (map (run_range n) spans) ≡ None
all_valid n number long [] within whole = refl
all_valid n number long (s ∷ spans) within whole =
    let high : (s.start + s.size) * n ≤ number * n = mul-le-mul_right n within.0 in
    let here : s.start * n + s.size * n ≤ long = omega (arith, high, whole) in
    ap (λ (b : Bool). if b then first_invalid long (map (run_range n) spans)
    else Some (run_range n s)) (le-leb _ _ here) ∙ all_valid n number long spans within.1 whole

pub ranges_valid : (n : ℕ) (shape : List ℕ) (box : Region) (value : List ℕ)
    → ends_within box shape ≡ true → length value ≡ count_of shape * n
    → first_invalid (length value) (run_ranges n shape box) ≡ None
ranges_valid n shape box value inside long =
    all_valid n (count_of shape) (length value) (runs shape box) (box_within box shape inside) long

-- a value that decodes has the length of its elements
pub long_value : (order : ByteOrder) (under : Options) (level : Level) (value : List ℕ)
    (xs : List Element)
    → decode_array_to_bytes under (bytes_codec order) level value ≡ Some xs
    → length value ≡ bytes_size level
long_value order under level value xs means = go (kind_of level.data_type) means
  where
    go : (kind : Kind) → decode_fixed order level kind value ≡ Some xs
        → length value ≡ count_of level.shape * size_in (fixed_size kind)
    go (fixed n) means = eqb-true _ _ (when_some (length value == count_of level.shape * n)
        (map (λ piece. of_bytes (from_order order (component_size level.data_type) piece))
        (pieces (count_of level.shape) n value)) xs means).0
    go variable means = cc
    go (optional kind) means = cc

-- so one in which a run does not lie has no elements
pub runs_asked : (order : ByteOrder) (under : Options) (level : Level) (region : Region)
    (value : List ℕ) (ranges : List ByteRange) → ends_within region level.shape ≡ true
    → Some (run_ranges (element_bytes level.data_type) level.shape region) ≡ Some ranges
    → ¬ (first_invalid (length value) ranges ≡ None)
    → decode_array_to_bytes under (bytes_codec order) level value ≡ None
runs_asked order under level region value ranges inside some invalid =
    go (decode_array_to_bytes under (bytes_codec order) level value) refl
  where
    go : (list : Option (List Element))
        → decode_array_to_bytes under (bytes_codec order) level value ≡ list → list ≡ None
    go None is = refl
    go (Some xs) is =
        let same : run_ranges (element_bytes level.data_type) level.shape region ≡ ranges = cc in
        absurd (invalid (subst (λ (r : List ByteRange). first_invalid (length value) r ≡ None) same
        (ranges_valid (element_bytes level.data_type) level.shape region value inside
        (long_value order under level value xs is))))
