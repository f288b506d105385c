use Rattle.std.proofs.Common.{ap, ◌∙◌, arith}
use Rattle.zarrs_array_subset.specs.Boxes.{is_box, lengths_to, region_of}
use Rattle.zarrs_array_subset.proofs.Lengths.{between_fits, between_is}
use Rattle.zarrs_array_subset.proofs.array_subset.ArraySubset.between.Goals as goal

pub invariant_of-result : goal.invariant_of-result
invariant_of-result c =
    record {
      is_box = ap (is_box c.args.start.items)
          (c.to_lengths.ensures ∙ ap (lengths_to 0 c.args.end.items) c.deref.ensures.value)
          ∙ between_fits c.args.start.items c.args.end.items c.requires (λ k h. omega arith) (λ k h. omega arith);
    }

pub returns : goal.returns
returns c =
    ap (region_of c.args.start.items) (c.to_lengths.ensures ∙ ap (lengths_to 0 c.args.end.items) c.deref.ensures.value)
    ∙ between_is c.args.start.items c.args.end.items c.requires (λ k h. omega arith)
