-- Which elements stand in updated array bytes.
use Rattle.std.specs.Prelude.{ℕ, List, length}
use Rattle.std.specs.List.{range_with_len}
use Rattle.zarrs_codec_slices.specs.Picking.{replaced}

-- which elements of a list, and of an update behind it, stand in the updated list
abbrev pub update_picks : ℕ → List ℕ → List ℕ
update_picks number indices =
    replaced indices (range_with_len number (length indices)) (range_with_len 0 number)
