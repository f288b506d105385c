use Rattle.std.proofs.Common.{◌≡◌, ◌∷◌, ◌++◌, drop}
use Rattle.zarr_model.specs.ArrayBytes.{between_offsets}
use Rattle.zarr_codecs_to_bytes.specs.Values.{items_of, AreBetween}
use Rattle.zarr_codecs_to_bytes.proofs.values.push_items.Given as goal

abbrev pub invariant-loop-to : goal.invariant-loop-to
invariant-loop-to l = record {
  items : l.out.items ++ items_of (between_offsets (l.from ∷ drop l.to-index l.rest) l.bytes) ≡
      l.fn.out.items ++ items_of (between_offsets (l.fn.first ∷ l.fn.rest) l.bytes);
  left : AreBetween l.bytes l.from (drop l.to-index l.rest);
}
