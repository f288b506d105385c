use Rattle.std.proofs.Common.{◌≡◌}
use Rattle.zarr_model.specs.Element.{kind_of, fixed}
use Rattle.zarr_codecs_tests.proofs.elements.are_rows.Given as goal

abbrev pub invariant-loop-row : goal.invariant-loop-row
invariant-loop-row g l =
    (goal.iterator-loop-row g).can_next l.row-iterator ×
    (goal.iterator-loop-row g).is_finite l.row-iterator ×
    (kind_of (g.H.ArrayPartialDecoderTraits.seen l.chunk).level.data_type ≡ fixed 1)
