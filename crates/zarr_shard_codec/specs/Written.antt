-- An index that was written behind some bytes.
use Rattle.std.specs.Prelude.{◌≡◌, ℕ, ◌^◌, ◌<◌, Bool, List, ◌++◌, length, slice_get, Some, flat_map}
use Rattle.std.specs.List.{AllByRecursion}
use Rattle.zarr_shard_codec.specs.Index.{Pair, pair_bytes, pair_at, index_bytes}
use Rattle.zarr_shard_codec.specs.Finding.{index_found}

-- its numbers have 8 bytes
abbrev pub FitsPair : Pair → Type 0
FitsPair pair = (pair.offset < 2 ^ 64) × (pair.size < 2 ^ 64)

-- it is found, whatever stands before it
abbrev pub WrittenIsFound : Type 0
WrittenIsFound = (checked validate : Bool) (front : List ℕ) (pairs : List Pair)
    → index_found checked validate (length pairs) (front ++ index_bytes checked pairs)
    ≡ Some (flat_map pair_bytes pairs)

-- and it holds these pairs
abbrev pub HoldsPairs : Type 0
HoldsPairs = (pairs : List Pair) (k : ℕ) (pair : Pair) → AllByRecursion FitsPair pairs
    → slice_get pairs k ≡ Some pair → pair_at (flat_map pair_bytes pairs) k ≡ pair
