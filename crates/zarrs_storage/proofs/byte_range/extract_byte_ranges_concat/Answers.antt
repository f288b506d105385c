use Rattle.std.proofs.Common.{arith, ◌∙◌, sym, ap, ◌++◌, take}
use Rattle.std.proofs.lemmas.Grind.{common_steps}
use Rattle.std.specs.List.{concat}
use Rattle.zarrs_storage.specs.ByteRange.{slices_of}
use Rattle.zarrs_storage.proofs.RangeLemmas.{slices_more}
use Rattle.zarrs_storage.proofs.byte_range.extract_byte_ranges_concat.Goals as goal

pub loop-range-preserved : goal.loop-range-preserved
loop-range-preserved c =
    let before = concat (slices_of (take c.loop-range.range-index c.args.ranges.now) c.args.bytes.now) in
    record {
      left = grind (arith, common_steps);
      joined = c.in_ok-extend_from_slice.ensures.items
          ∙ ap (λ l. l ++ c.in_ok-part.part.now) c.loop-range.invariant.joined
          ∙ ap (λ l. before ++ l) c.in_ok-part.ensures.value
          ∙ sym (slices_more c.args.ranges.now c.args.bytes.now c.loop-range.range-index _
          (omega (c.loop-range-test.true, arith)));
    }
