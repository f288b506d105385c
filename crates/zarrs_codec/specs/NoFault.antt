-- What handles tell of values is no fault of a store.
use Rattle.std.proofs.Common.{ℕ, List, map, Option, Some, None}
use Rattle.zarrs_storage.specs.declared.byte_range.ByteRange.{ByteRange}
use Rattle.zarrs_codec_traits.specs.Prelude.{first_invalid, IsNoFault, Held, IsRangeErrorOf}
use Rattle.zarrs_codec_error.specs.declared.error.CodecError.{CodecError}
use Rattle.zarrs_storage.specs.ByteRange.{shifted}
use Rattle.zarrs_codec_traits.specs.Interval.{range_or, interval_tells}
use Rattle.zarrs_codec_traits.specs.Through.{says_through, through_says}
use Rattle.zarrs_codec.specs.Ranges.{range_no_fault, value_no_fault}

pub interval_no_fault : (offset len : ℕ)
    (tells : Option (List ByteRange) → CodecError → Type 0) (asked : Option (List ByteRange))
    (e : CodecError) → ((there : Option (List ByteRange)) → tells there e → IsNoFault e)
    → interval_tells offset len tells asked e → IsNoFault e
interval_no_fault offset len tells None e law told = law _ told
interval_no_fault offset len tells (Some ranges) e law told = go (first_invalid len ranges) told
  where
    go : (o : Option ByteRange)
        → range_or o (IsRangeErrorOf ranges len) (tells (Some (map (shifted offset len) ranges))) e
        → IsNoFault e
    go (Some range) told = range_no_fault ranges len e told
    go None told = law _ told

pub through_no_fault : (decode : List ℕ → Option (List ℕ))
    (says : List ℕ → CodecError → Type 0) (tells : CodecError → Type 0) (held : Held)
    (asked : Option (List ByteRange)) (e : CodecError) → (tells e → IsNoFault e)
    → ((value : List ℕ) → says value e → IsNoFault e)
    → through_says decode says tells held asked e → IsNoFault e
through_no_fault decode says tells None asked e law codec told = law told
through_no_fault decode says tells (Some None) asked e law codec told = absurd told
through_no_fault decode says tells (Some (Some value)) asked e law codec told =
    go (decode value) told
  where
    go : (o : Option (List ℕ)) → says_through o (says value) asked e → IsNoFault e
    go None told = codec value told
    go (Some bytes) told = value_no_fault asked (Some bytes) e told
