use Rattle.std.proofs.Common.{◌≡◌, ◌++◌, ◌-◌, ◌≤◌, option_map}
use Rattle.zarr_model.specs.Codec.{decode_items}
use Rattle.zarr_codecs_to_bytes.specs.Values.{AreValues, elements_between}
use Rattle.zarr_codecs_to_bytes.proofs.values.decode_items.Given as goal

abbrev pub invariant-loop-left : goal.invariant-loop-left
invariant-loop-left l = record {
  decoded : option_map (λ elements. elements_between l.offsets.items l.bytes.items
      ++ elements) (decode_items l.left l.rest) ≡ decode_items l.elements l.items;
  values : AreValues (l.elements - l.left) l.bytes.items l.offsets.items;
  most : l.left ≤ l.elements;
}

abbrev pub decreases-loop-left : goal.decreases-loop-left
decreases-loop-left l = l.left
