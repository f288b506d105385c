-- Ranges that lie within a value hand out the bytes of their runs.
use Rattle.std.proofs.Common.{◌≡◌, ℕ, ◌+◌, ◌-◌, ◌*◌, ◌≤◌, Bool, true, false, nat_le, if◌then◌else◌, List, [], ◌∷◌}
use Rattle.std.proofs.Common.{length, take, drop, map, Some, None, refl, ap, ap₂, sym, ◌∙◌, arith}
use Rattle.std.specs.List.{range_with_len}
use Rattle.std.proofs.lemmas.Bool.{leb-true}
use Rattle.std.proofs.lemmas.List.{length-append, length-map, length-take-le, length-drop}
use Rattle.std.proofs.lemmas.List.FromFn.{length-range_with_len}
use Rattle.std.proofs.lemmas.List.Sums.{sum_by-cons}
use Rattle.zarrs_codec_traits.specs.Prelude.{Region, count, ends_within, tuples, linear_index, Span, slice_of}
use Rattle.zarrs_codec_traits.specs.Prelude.{slices_of, first_invalid}
use Rattle.zarr_model.proofs.RegionLaws.{length-tuples}
use Rattle.zarrs_chunk_grid_iterators.specs.Runs.{runs, joined}
use Rattle.zarrs_chunk_grid_iterators.proofs.BoxFacts.{box_joins}
use Rattle.zarrs_codec.specs.Stored.{bytes_in_parts, taken_of}
use Rattle.zarr_codecs_to_bytes.specs.Ranges.{run_range, run_ranges}

runs_taken : (n : ℕ) (value : List ℕ) (spans : List Span) → first_invalid (length value) (map (run_range n) spans) ≡
    None → bytes_in_parts (slices_of (map (run_range n) spans) value) ≡ length (joined spans) * n
runs_taken n value [] within = let e : 0 ≡ 0 * n = omega arith in e
runs_taken n value (s ∷ spans) within =
    go (nat_le (s.start * n + s.size * n) (length value)) refl within (λ rest. runs_taken n value spans rest)
  where
    go : (b : Bool) → nat_le (s.start * n + s.size * n) (length value) ≡ b →
        (if b then first_invalid (length value) (map (run_range n) spans) else Some (run_range n s)) ≡ None →
        (first_invalid (length value) (map (run_range n) spans) ≡ None →
        bytes_in_parts (slices_of (map (run_range n) spans) value) ≡ length (joined spans) * n) →
        bytes_in_parts (slices_of (map (run_range n) (s ∷ spans)) value) ≡ length (joined (s ∷ spans)) * n
    go false is within others = cc
    go true is within others =
        let fits : s.start * n + s.size * n ≤ length value = leb-true _ _ is in
        let left : length (drop (s.start * n) value) ≡ length value - s.start * n = length-drop (s.start * n) value in
        let some : s.start * n + s.size * n - s.start * n ≡ s.size * n = omega arith in
        let here : length (slice_of (run_range n s) value) ≡ s.size * n =
        ap (λ (m : ℕ). length (take m (drop (s.start * n) value))) some
        ∙ length-take-le (s.size * n) (drop (s.start * n) value) (omega (arith, fits, left)) in
        let run : length (range_with_len s.start s.size) ≡ s.size = length-range_with_len s.start s.size in
        let all : length (joined (s ∷ spans)) ≡ s.size + length (joined spans) =
        length-append (range_with_len s.start s.size) (joined spans) ∙ ap (λ (m : ℕ). m + length (joined spans)) run in
        sum_by-cons length (slice_of (run_range n s) value) (slices_of (map (run_range n) spans) value)
        ∙ (ap₂ (λ (a b : ℕ). a + b) here (others within)
        ∙ ((let e : s.size * n + length (joined spans) * n ≡ (s.size + length (joined spans)) * n = omega arith in e)
        ∙ ap (λ (m : ℕ). m * n) (sym all)))

pub part_taken : (n : ℕ) (shape : List ℕ) (box : Region) (value : List ℕ) → ends_within box shape ≡ true →
    first_invalid (length value) (run_ranges n shape box) ≡ None →
    taken_of (Some (run_ranges n shape box)) (Some value) ≡ count box * n
part_taken n shape box value inside within =
    runs_taken n value (runs shape box) within
    ∙ ap (λ (m : ℕ).
    m * n) (ap length (box_joins box shape inside) ∙ (length-map (tuples box) (linear_index shape) ∙ length-tuples box))
