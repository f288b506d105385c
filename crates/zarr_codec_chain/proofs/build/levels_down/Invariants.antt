use Rattle.std.proofs.Common.{◌≡◌, ℕ, List, length, take, drop, Option}
use Rattle.zarrs_codec_traits.specs.Prelude.{Level, Unserved}
use Rattle.zarr_codec_chain.specs.Levels.{level_at, fill_at, steps_of, first_of, first_fill_of, AreFit, AreLinked}
use Rattle.zarr_codec_chain.specs.Building.{IsReady, levels_unserved}
use Rattle.zarr_codec_chain.proofs.build.levels_down.Given as goal

abbrev pub invariant-loop-codec : goal.invariant-loop-codec
invariant-loop-codec g l =
    let steps = steps_of (take l.codec-index l.codecs) l.levels.items in
    record {
      count : length (take l.codec-index l.codecs) ≡ length l.levels.items;
      first : first_of l.levels.items (level_at l.at) ≡ level_at l.fn.first;
      fill : first_fill_of l.levels.items (fill_at l.at) ≡ fill_at l.fn.first;
      fit : AreFit steps;
      linked : AreLinked g.A.ArrayToArrayCodecTraits.meaning g.A.ArrayCodecTraits.unserved steps (level_at l.at);
      ready : IsReady (level_at l.at) (fill_at l.at);
      reason : (last : Level → List ℕ → Option Unserved) →
          levels_unserved g.A.ArrayToArrayCodecTraits.meaning g.A.ArrayCodecTraits.unserved
          g.A.ArrayToArrayCodecTraits.fill_below last l.codecs (level_at l.fn.first) (fill_at l.fn.first)
          ≡ levels_unserved g.A.ArrayToArrayCodecTraits.meaning g.A.ArrayCodecTraits.unserved
          g.A.ArrayToArrayCodecTraits.fill_below last (drop l.codec-index l.codecs) (level_at l.at) (fill_at l.at);
    }
