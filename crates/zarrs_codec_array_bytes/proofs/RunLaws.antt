-- Runs of linear indices of an indexer.
use Rattle.std.proofs.Common.{◌≡◌, ℕ, zero, suc, List, [], ◌∷◌, map, sym, ap, ◌∙◌, subst, arith}
use Rattle.std.specs.List.{range_with_len}
use Rattle.std.proofs.lemmas.List.Folds.{flat_map-map}
use Rattle.zarr_model.specs.Region.{Span}
use Rattle.zarrs_chunk_grid_indexer.specs.Runs.{joined, span_of}
use Rattle.zarrs_chunk_grid_indexer.specs.Bytes.{AllWithin}
use Rattle.zarrs_codec_slices.specs.PickedRuns.{run_numbers, AreRunsBelow}

pub runs_listed : (runs : List (ℕ × ℕ)) (pieces : List Span) (numbers : List ℕ) → map span_of runs ≡ pieces →
    joined pieces ≡ numbers → run_numbers runs ≡ numbers
runs_listed runs pieces numbers is listed =
    sym (flat_map-map (λ (interval : Span). range_with_len interval.start interval.size) span_of runs)
    ∙ (ap joined is ∙ listed)

each_below : (number : ℕ) (runs : List (ℕ × ℕ)) → AllWithin number (map span_of runs) → AreRunsBelow number runs
each_below number [] all k h = absurd (omega arith)
each_below number (run ∷ runs) all zero h = all.0
each_below number (run ∷ runs) all (suc k) h = each_below number runs all.1 k (omega (arith, h))

pub runs_below : (number : ℕ) (runs : List (ℕ × ℕ)) (pieces : List Span) → map span_of runs ≡ pieces →
    AllWithin number pieces → AreRunsBelow number runs
runs_below number runs pieces is all = each_below number runs (subst (AllWithin number) (sym is) all)
