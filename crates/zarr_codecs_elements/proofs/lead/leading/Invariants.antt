use Rattle.std.proofs.Common.{◌≡◌, ◌≤◌, ◌-◌, length, drop}
use Rattle.std.specs.List.{range_with_len}
use Rattle.zarr_codecs_elements.proofs.lead.leading.Given as goal

abbrev pub invariant-loop-lead : goal.invariant-loop-lead
invariant-loop-lead l = record {
  few : l.lead ≤ length l.order;
  rest : drop l.lead l.order ≡ range_with_len l.lead (length l.order - l.lead);
}

abbrev pub decreases-loop-lead : goal.decreases-loop-lead
decreases-loop-lead l = l.lead
