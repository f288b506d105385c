use Rattle.std.proofs.Common.{◌≡◌, ◌++◌, drop, map}
use Rattle.std.specs.List.{concat}
use Rattle.zarr_codecs_to_bytes.specs.Ranges.{parts_answer}
use Rattle.zarr_codecs_to_bytes.proofs.joining.joined.Given as goal

abbrev pub invariant-loop-part : goal.invariant-loop-part
invariant-loop-part l = record {
  all : l.part-items ≡ l.fn.parts.items;
  joined : l.bytes.items ++ concat (map (λ part. part.items) (drop l.part-index l.part-items)) ≡ concat (map (λ part.
      part.items) l.part-items);
  left : parts_answer l.part_len (map (λ part. part.items) (drop l.part-index l.part-items)) ≡ parts_answer
      l.part_len (map (λ part. part.items) l.part-items);
}
