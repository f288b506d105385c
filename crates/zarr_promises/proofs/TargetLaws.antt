-- What was put into a view alone.
use Rattle.std.proofs.Common.{ℕ, List, [], Option, Result, Ok, Err, IfOk, ◌∙◌}
use Rattle.std.proofs.lemmas.Bool.{cond-false}
use Rattle.zarrs_codec_traits.specs.Prelude.{Element, Kind, ArrayBytes, fixed_bytes, variable_bytes, optional_bytes}
use Rattle.zarrs_codec_traits.specs.Prelude.{IsPut}
use Rattle.zarrs_codec_array_bytes_parts.specs.Targets.{ArePut, IsViewWritten}
use Rattle.zarrs_codec_array_bytes_parts.specs.declared.array_bytes_fixed_disjoint_view.ArrayBytesFixedDisjointView.{
  ArrayBytesFixedDisjointView,
}
use Rattle.zarr_promises.specs.Targets.{KeepsOthers}

written_keeps : (value : List ℕ) (from to : ArrayBytesFixedDisjointView) → IsViewWritten value from to →
    KeepsOthers from to
written_keeps value from to written = record {
  part = written.part;
  same_reference = written.same_reference;
  others = λ k d inside outside. written.written.each k d inside ∙ cond-false _ _ _ outside;
}

put_keeps : (bytes : ArrayBytes) (from to : ArrayBytesFixedDisjointView) → ArePut bytes [] [] from to →
    KeepsOthers from to
put_keeps (fixed_bytes value) from to put = written_keeps value from to put.1
put_keeps (variable_bytes value offsets) from to put = absurd put
put_keeps (optional_bytes under mask) from to put = absurd put

pub keeps : {T E : Type 0} (kind : Kind) (number : ℕ) (wanted : Option (List Element))
    (from to : ArrayBytesFixedDisjointView) (result : Result T E) →
    IfOk result (λ _. IsPut kind number wanted [] [] from to) → IfOk result (λ _. KeepsOthers from to)
keeps kind number wanted from to (Ok v) put = put_keeps put.bytes from to put.put
keeps kind number wanted from to (Err e) put = tt
