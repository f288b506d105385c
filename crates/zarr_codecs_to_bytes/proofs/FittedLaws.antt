-- A value that holds some ranges has the same bytes there as one of the length that decodes.
use Rattle.std.proofs.Common.{◌≡◌, ℕ, zero, suc, ◌+◌, ◌-◌, ◌*◌, ◌≤◌, Bool, nat_le, true, false, if◌then◌else◌, List, []}
use Rattle.std.proofs.Common.{◌∷◌, ◌++◌, length, take, drop, map, replicate, Option, Some, None, IsSome, refl, sym, ap}
use Rattle.std.proofs.Common.{ap₂, ◌∙◌, subst, arith, eq-eqb}
use Rattle.std.specs.List.{AllByRecursion}
use Rattle.std.proofs.lemmas.Bool.{cond-true, leb-true}
use Rattle.std.proofs.lemmas.List.{length-append, length-replicate, length-take-le, take-append-le, drop-take}
use Rattle.std.proofs.Math.Nat.{mul-le-mul_right}
use Rattle.zarrs_codec_traits.specs.Prelude.{Span, Region, count_of, ends_within, DataType, of_bytes, Kind}
use Rattle.zarrs_codec_traits.specs.Prelude.{fixed, kind_of, pieces, bytes_table, slice_of, slices_of, first_invalid}
use Rattle.zarr_model.specs.Codec.{ByteOrder, Level, Options, bytes_codec, decode_array_to_bytes, decode_fixed}
use Rattle.zarr_model.specs.Codec.{from_order, component_size}
use Rattle.zarr_model.specs.declared.endianness.Endianness.{Endianness}
use Rattle.zarrs_chunk_grid_iterators.specs.Runs.{runs}
use Rattle.zarrs_chunk_grid_iterators.proofs.BoxFacts.{box_within}
use Rattle.zarrs_storage.specs.declared.byte_range.ByteRange.{ByteRange}
use Rattle.zarr_codecs_to_bytes.specs.BytesCodec.{stored_order, component_unserved, type_unserved, element_bytes}
use Rattle.zarr_codecs_to_bytes.specs.BytesCodec.{bytes_size}
use Rattle.zarr_codecs_to_bytes.specs.Ranges.{run_range, run_ranges}
use Rattle.zarr_codecs_to_bytes.proofs.OrderLaws.{laid}

-- a value of a length that begins as another
abbrev pub fitted : ℕ → List ℕ → List ℕ
fitted long value = take long (value ++ replicate long 0)

length-fitted : (long : ℕ) (value : List ℕ) → length (fitted long value) ≡ long
length-fitted long value =
    let room : length (value ++ replicate long 0) ≡ length value + long =
    length-append value (replicate long 0) ∙ ap (λ (n : ℕ). length value + n) (length-replicate long 0) in
    length-take-le long (value ++ replicate long 0) (omega (arith, room))

-- fewer of the first bytes
take_fewer : (n m : ℕ) (xs : List ℕ) → n ≤ m → take n (take m xs) ≡ take n xs
take_fewer zero m xs fewer = refl
take_fewer (suc n) zero xs fewer = absurd (omega (arith, fewer))
take_fewer (suc n) (suc m) [] fewer = refl
take_fewer (suc n) (suc m) (x ∷ xs) fewer = ap (λ (l : List ℕ). x ∷ l) (take_fewer n m xs (omega (arith, fewer)))

-- it has the bytes between two places that are there in both
same_between : (start size long : ℕ) (value : List ℕ) → start + size ≤ length value → start + size ≤ long →
    take size (drop start (fitted long value)) ≡ take size (drop start value)
same_between start size long value within room =
    sym (drop-take start size (fitted long value))
    ∙ (ap (drop start) (take_fewer (start + size) long (value ++ replicate long 0) room
    ∙ take-append-le (start + size) value (replicate long 0) within)
    ∙ drop-take start size value)

-- so in a run, and in runs
same_run : (n number long : ℕ) (value : List ℕ) (s : Span) → s.start + s.size ≤ number → long ≡ number * n →
    s.start * n + s.size * n ≤ length value →
    slice_of (run_range n s) (fitted long value) ≡ slice_of (run_range n s) value
same_run n number long value s inside whole within =
    let high : (s.start + s.size) * n ≤ number * n = mul-le-mul_right n inside in
    let room : s.start * n + s.size * n ≤ long = omega (arith, high, whole) in
    let some : s.start * n + s.size * n - s.start * n ≡ s.size * n = omega arith in
    ap (λ (m : ℕ). take m (drop (s.start * n) (fitted long value))) some
    ∙ (same_between (s.start * n) (s.size * n) long value within room
    ∙ ap (λ (m : ℕ). take m (drop (s.start * n) value)) (sym some))

same_runs : (n number long : ℕ) (value : List ℕ) (spans : List Span) →
    AllByRecursion (λ span. span.start + span.size ≤ number) spans → long ≡ number * n →
    first_invalid (length value) (map (run_range n) spans) ≡ None →
    slices_of (map (run_range n) spans) (fitted long value) ≡ slices_of (map (run_range n) spans) value
same_runs n number long value [] inside whole valid = refl
same_runs n number long value (s ∷ spans) inside whole valid =
    go (nat_le (s.start * n + s.size * n) (length value)) refl valid
    (λ rest. same_runs n number long value spans inside.1 whole rest)
  where
    go : (b : Bool) → nat_le (s.start * n + s.size * n) (length value) ≡ b →
        (if b then first_invalid (length value) (map (run_range n) spans) else Some (run_range n s)) ≡ None →
        (first_invalid (length value) (map (run_range n) spans) ≡ None →
        slices_of (map (run_range n) spans) (fitted long value) ≡ slices_of (map (run_range n) spans) value) →
        slices_of (map (run_range n) (s ∷ spans)) (fitted long value) ≡ slices_of (map (run_range n) (s ∷ spans)) value
    go false is valid others = cc
    go true is valid others = ap₂ (λ (p : List ℕ) (ps : List (List ℕ)).
        p ∷ ps) (same_run n number long value s inside.0 whole (leb-true _ _ is)) (others valid)

-- elements that are served are of one size
one_size : (order : Option Endianness) (t : DataType) → type_unserved order t ≡ None →
    kind_of t ≡ fixed (element_bytes t)
one_size order t served = go (bytes_table t) refl served
  where
    go : (n : Option ℕ) → bytes_table t ≡ n → component_unserved order n ≡ None → kind_of t ≡ fixed (element_bytes t)
    go None is served = cc
    go (Some n) is served = (laid t n is).kind

decodes_long : (order : ByteOrder) (level : Level) (kind : Kind) (n : ℕ) (value : List ℕ) → kind ≡ fixed n →
    length value ≡ count_of level.shape * n → IsSome (decode_fixed order level kind value)
decodes_long order level kind n value is long =
    subst (λ (k : Kind). IsSome (decode_fixed order level k value)) (sym is) (subst IsSome (sym found) refl)
  where
    found : decode_fixed order level (fixed n) value ≡ Some (map (λ piece.
        of_bytes (from_order order (component_size level.data_type) piece)) (pieces (count_of level.shape) n value))
    found = cond-true _ _ _ (eq-eqb _ _ long)

-- a value that holds the runs of a region has the same bytes there as some value that decodes
pub runs_of_some : (order : Option Endianness) (under : Options) (level : Level) (region : Region) (value : List ℕ)
    (ranges : List ByteRange) → ends_within region level.shape ≡ true →
    type_unserved order level.data_type ≡ None → Some (run_ranges (element_bytes level.data_type) level.shape region) ≡
    Some ranges → first_invalid (length value) ranges ≡ None →
    (other : List ℕ) × (slices_of ranges other ≡ slices_of ranges value) ×
    IsSome (decode_array_to_bytes under (bytes_codec (stored_order order)) level other)
runs_of_some order under level region value ranges inside served asked valid =
    let is : run_ranges (element_bytes level.data_type) level.shape region ≡ ranges = cc in (
      fitted (bytes_size level) value,
      subst (λ (r : List ByteRange). first_invalid (length value) r ≡ None →
          slices_of r (fitted (bytes_size level) value) ≡ slices_of r value) is
          (same_runs (element_bytes level.data_type) (count_of level.shape) (bytes_size level) value
          (runs level.shape region) (box_within region level.shape inside) refl) valid,
      decodes_long (stored_order order) level (kind_of level.data_type) (element_bytes level.data_type)
          (fitted (bytes_size level) value) (one_size order level.data_type served)
          (length-fitted (bytes_size level) value),
    )
