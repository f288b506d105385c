use Rattle.std.proofs.Common.{List, [], Option, take, drop, ◌≤◌, length, ◌≡◌, false, IsSome}
use Rattle.zarrs_codec_traits.specs.Prelude.{has_long_element, Element, list_at, at_box, region as box_of, raw_of}
use Rattle.zarr_codec_chain.specs.Chain.{bottom_level, steps}
use Rattle.zarr_codec_chain.specs.Levels.{top}
use Rattle.zarr_codec_chain.specs.Regions.{HoldsBox, IsListCounted, boxes_below, last_item}
use Rattle.zarr_codec_chain.proofs.chain.CodecChain.decode_boxes_up.Given as goal

abbrev pub invariant-loop-left : goal.invariant-loop-left
invariant-loop-left g l =
    let bottom = bottom_level l.levels in
    let boxes = boxes_below g.A.ArrayToArrayCodecTraits.region_below (steps l.self l.levels) (box_of l.region) in
    record {
      within : l.left ≤ length l.self.array_codecs.items;
      holds : (below : Option (List Element)) → IsListCounted bottom below →
          HoldsBox g.A.ArrayToArrayCodecTraits.meaning [] bottom below (last_item boxes (box_of l.region))
          (raw_of l.fn.bytes) →
          HoldsBox g.A.ArrayToArrayCodecTraits.meaning (drop l.left (steps l.self l.levels)) bottom below
          (last_item (take l.left boxes) (box_of l.region)) (raw_of l.decoded);
      valid : IsSome (list_at (at_box (last_item (take l.left boxes) (box_of l.region))
          (top (drop l.left (steps l.self l.levels)) bottom)) (raw_of l.decoded));
      short : has_long_element (raw_of l.fn.bytes) ≡ false → has_long_element (raw_of l.decoded) ≡ false;
    }

abbrev pub decreases-loop-left : goal.decreases-loop-left
decreases-loop-left g l = l.left
