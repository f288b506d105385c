-- The chunks that a region meets, by their numbers.
use Rattle.std.proofs.Common.{◌≡◌, ℕ, zero, suc, ◌<◌, List, [], ◌∷◌, length, get_or, slice_get, Some, sym, ap, ◌∙◌}
use Rattle.std.proofs.Common.{subst, arith}
use Rattle.zarr_model.specs.Prelude.{Region, count, tuples, tuple_at, Grid, IsChunk, chunks_meeting}
use Rattle.zarr_model.proofs.RegionLaws.{length-tuples, get_or-tuples}
use Rattle.zarr_model.proofs.FailureLaws.{meeting_is}

-- a place of a list
slice_get-at : {A : Type 0} (xs : List A) (k : ℕ) (x : A) → k < length xs → get_or xs k x ≡ x → slice_get xs k ≡ Some x
slice_get-at [] k x h e = absurd (omega arith)
slice_get-at (y ∷ ys) zero x h e = ap Some e
slice_get-at (y ∷ ys) (suc k) x h e = slice_get-at ys k x (omega arith) e

module _ (grid : Grid) (region chunks : Region) (listed : tuples chunks ≡ chunks_meeting grid region) where
  -- the chunk at a place of a box of chunks that lists those that a region meets
  pub met_at : (number : ℕ) → number < count chunks →
      (slice_get (chunks_meeting grid region) number ≡ Some (tuple_at chunks number)) ×
      IsChunk grid (tuple_at chunks number)
  met_at number below =
      let here : slice_get (tuples chunks) number ≡ Some (tuple_at chunks number) =
      slice_get-at (tuples chunks) number (tuple_at chunks number) (subst (λ n. number < n) (sym (length-tuples chunks))
      below) (get_or-tuples chunks number (tuple_at chunks number) below) in
      let met : slice_get (chunks_meeting grid region) number ≡ Some (tuple_at chunks number) =
      ap (λ l. slice_get l number) (sym listed) ∙ here in
      (met, (meeting_is grid region number (tuple_at chunks number) met).0)

  -- how many there are
  pub count_met : count chunks ≡ length (chunks_meeting grid region)
  count_met = sym (length-tuples chunks) ∙ ap length listed
