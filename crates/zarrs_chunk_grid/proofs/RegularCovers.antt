-- The grid `regular` cuts an array into parts.
use Rattle.std.proofs.Common.{◌≡◌, ℕ, List, [], ◌∷◌, length, map, arith}
use Rattle.std.specs.declared.num.NonZeroU64.{NonZeroU64}
use Rattle.std.specs.Int.NonZero.{non_zero_u64_get}
use Rattle.zarr_model.specs.Prelude.{CoversShape, regular_grid}
use Rattle.zarr_model.proofs.GridLaws.{regular_grid-covers, IsChunkShape}

positive_lengths : (shape : List ℕ) (lengths : List NonZeroU64) → length shape ≡ length lengths →
    IsChunkShape shape (map non_zero_u64_get lengths)
positive_lengths [] [] e = tt
positive_lengths [] (p ∷ lengths) e = absurd (omega arith)
positive_lengths (n ∷ shape) [] e = absurd (omega arith)
positive_lengths (n ∷ shape) (p ∷ lengths) e = (p.ok, positive_lengths shape lengths (omega arith))

pub regular_covers : (shape : List ℕ) (lengths : List NonZeroU64) → length shape ≡ length lengths →
    CoversShape shape (regular_grid shape (map non_zero_u64_get lengths))
regular_covers shape lengths e =
    regular_grid-covers shape (map non_zero_u64_get lengths) (positive_lengths shape lengths e)
