-- Elements that were given to a box, and the runs of their places, with more appended.
use Rattle.std.proofs.Common.{◌≡◌, ℕ, suc, List, [], ◌∷◌, ◌++◌, map, ap₂, ◌∙◌, arith}
use Rattle.std.specs.List.{range_with_len}
use Rattle.std.proofs.lemmas.Grind.{flat_map-append}
use Rattle.std.proofs.lemmas.List.Folds.{flat_map-map}
use Rattle.zarr_model.specs.Region.{Span}
use Rattle.zarrs_chunk_grid_iterators.specs.Runs.{joined, span_of}
use Rattle.zarrs_chunk_grid_indexer.specs.Bytes.{AllWithin}
use Rattle.zarrs_codec_slices.specs.PickedRuns.{run_numbers, AreRunsBelow}
use Rattle.zarrs_codec_array_bytes.proofs.RunLaws.{runs_listed, runs_below}

pub runs_joined : (old new : List (ℕ × ℕ)) (pieces : List Span) (numbers : List ℕ) →
    map span_of new ≡ map span_of old ++ pieces → joined pieces ≡ numbers → run_numbers new ≡ run_numbers old ++ numbers
runs_joined old new pieces numbers is listed =
    runs_listed new (map span_of old ++ pieces) (run_numbers old ++ numbers) is
    (flat_map-append (λ (interval : Span). range_with_len interval.start interval.size) (map span_of old) pieces
    ∙ ap₂ (λ a b. a ++ b) (flat_map-map (λ (interval : Span). range_with_len interval.start interval.size) span_of old)
    listed)

both_within : (number : ℕ) (old : List (ℕ × ℕ)) (pieces : List Span) → AreRunsBelow number old →
    AllWithin number pieces → AllWithin number (map span_of old ++ pieces)
both_within number [] pieces below within = within
both_within number (run ∷ old) pieces below within =
    (below 0 (omega arith), both_within number old pieces (λ k h. below (suc k) (omega (arith, h))) within)

pub joined_below : (number : ℕ) (old new : List (ℕ × ℕ)) (pieces : List Span) → map span_of new ≡
    map span_of old ++ pieces → AllWithin number pieces → AreRunsBelow number old → AreRunsBelow number new
joined_below number old new pieces is within below =
    runs_below number new (map span_of old ++ pieces) is (both_within number old pieces below within)
