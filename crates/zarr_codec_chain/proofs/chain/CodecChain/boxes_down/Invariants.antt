use Rattle.std.proofs.Common.{◌≡◌, ◌++◌, true, map, drop}
use Rattle.zarr_codec_chain.specs.Prelude.{ends_within, region as box_of, bottom_level, steps, boxes_below, last_item}
use Rattle.zarr_codec_chain.specs.Levels.{top, AreLinked}
use Rattle.zarr_codec_chain.proofs.chain.CodecChain.boxes_down.Given as goal

abbrev pub invariant-loop-index : goal.invariant-loop-index
invariant-loop-index g l =
    let left = drop l.index (steps l.self l.levels) in
    let bottom = bottom_level l.levels in
    let above = last_item (map box_of l.boxes.items) (box_of l.region) in
    record {
      linked : AreLinked g.A.ArrayToArrayCodecTraits.meaning g.A.ArrayCodecTraits.unserved left bottom;
      inside : ends_within above (top left bottom).shape ≡ true;
      boxes : map box_of l.boxes.items ++ boxes_below g.A.ArrayToArrayCodecTraits.region_below left above ≡
          boxes_below g.A.ArrayToArrayCodecTraits.region_below (steps l.self l.levels) (box_of l.region);
    }
