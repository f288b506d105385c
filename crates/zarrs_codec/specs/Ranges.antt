-- Errors of ranges are no faults of a store.
use Rattle.std.proofs.Common.{ℕ, List, length, Option, Some, None, subst}
use Rattle.zarrs_storage.specs.declared.byte_range.ByteRange.{ByteRange}
use Rattle.zarrs_codec_error.specs.declared.error.CodecError.{CodecError}
use Rattle.zarrs_codec_traits.specs.Prelude.{IsNoFault, IsRangeErrorOf, TellsRangeOf}

pub range_no_fault : (ranges : List ByteRange) (size : ℕ) (e : CodecError)
    → IsRangeErrorOf ranges size e → IsNoFault e
range_no_fault ranges size e told =
    record { unlike = λ fault is. subst (IsRangeErrorOf ranges size) is told }

pub value_no_fault : (asked : Option (List ByteRange)) (value : Option (List ℕ))
    (e : CodecError) → TellsRangeOf asked value e → IsNoFault e
value_no_fault None value e told = absurd told
value_no_fault (Some ranges) None e told = absurd told
value_no_fault (Some ranges) (Some value) e told = range_no_fault ranges (length value) e told
