use Rattle.std.proofs.Common.{◌≡◌, false, List, Some, drop, ◌≤◌, length}
use Rattle.zarrs_codec_traits.specs.Prelude.{Element, Level, has_long_element, raw_of, list_at, Gives}
use Rattle.zarr_codec_chain.specs.Levels.{steps_of, top, AreLinked, elements_above}
use Rattle.zarr_codec_chain.proofs.decode.decode_up.Given as goal

abbrev pub invariant-loop-left : goal.invariant-loop-left
invariant-loop-left g l =
    let steps = steps_of l.codecs l.levels in
    record {
      within : l.left ≤ length l.codecs;
      holds : (bottom : Level) (list : List Element) → AreLinked g.A.ArrayToArrayCodecTraits.meaning
          g.A.ArrayCodecTraits.unserved steps bottom → list_at bottom (raw_of l.fn.bytes) ≡ Some list →
          Gives (list_at (top (drop l.left steps) bottom) (raw_of l.decoded))
          (elements_above g.A.ArrayToArrayCodecTraits.meaning (drop l.left steps) (Some list));
      short : has_long_element (raw_of l.fn.bytes) ≡ false → has_long_element (raw_of l.decoded) ≡ false;
    }

abbrev pub decreases-loop-left : goal.decreases-loop-left
decreases-loop-left g l = l.left
