use Rattle.std.proofs.Common.{◌≡◌, ◌-◌, length}
use Rattle.std.specs.List.{list_all, range_with_len}
use Rattle.zarrs_codec_array_bytes.specs.Raw.{raw_of}
use Rattle.zarrs_codec_slices.specs.Same.{same_under}
use Rattle.zarrs_codec_array_bytes.proofs.array_bytes.equality.are_same_under.Given as goal

abbrev pub invariant-loop-place : goal.invariant-loop-place
invariant-loop-place l =
    list_all (same_under l.mask (raw_of l.a) (raw_of l.b)) (range_with_len 0 (length l.mask))
    ≡ list_all (same_under l.mask (raw_of l.a) (raw_of l.b)) (range_with_len l.place (length l.mask - l.place))
