use Rattle.std.proofs.Common.{◌≡◌, List, [], Some, None, take, drop, false}
use Rattle.zarrs_codec_traits.specs.Prelude.{Element, Level, has_long_element, raw_of, list_at}
use Rattle.zarr_codec_chain.specs.Levels.{steps_of, top, AreLinked, elements_above}
use Rattle.zarr_codec_chain.proofs.encode.encode_down.Given as goal

abbrev pub invariant-loop-index : goal.invariant-loop-index
invariant-loop-index g l =
    let steps = steps_of l.codecs l.levels in
    let n = l.index in
    record {
      value : (bottom : Level) (list : List Element) → AreLinked g.A.ArrayToArrayCodecTraits.meaning
          g.A.ArrayCodecTraits.unserved steps bottom → list_at (top steps bottom) (raw_of l.fn.bytes) ≡ Some list →
          elements_above g.A.ArrayToArrayCodecTraits.meaning (take n steps)
          (list_at (top (drop n steps) bottom) (raw_of l.encoded)) ≡ Some list;
      started : (bottom : Level) → AreLinked g.A.ArrayToArrayCodecTraits.meaning g.A.ArrayCodecTraits.unserved steps
          bottom → list_at (top steps bottom) (raw_of l.fn.bytes) ≡ None →
          (n ≡ 0) × (raw_of l.encoded ≡ raw_of l.fn.bytes);
      none : l.codecs ≡ [] → raw_of l.encoded ≡ raw_of l.fn.bytes;
      short : has_long_element (raw_of l.fn.bytes) ≡ false → has_long_element (raw_of l.encoded) ≡ false;
    }
