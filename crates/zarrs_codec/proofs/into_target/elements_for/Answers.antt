use Rattle.std.proofs.Common.{rules}
use Rattle.zarrs_codec.proofs.FaultLaws.{no_fault, count_no_fault}
use Rattle.zarrs_codec.proofs.into_target.elements_for.Goals as goal

pub returns-in-Err-clause-selects : goal.returns-in-Err-clause-selects
returns-in-Err-clause-selects g c = record {
  value = λ list served is. tt;
  valid = λ served filled. tt;
  failed = search rules;
  decodes = λ served there all. tt;
  all = λ served filled all. tt;
  named = search rules;
  short = λ served few. tt;
  fault = no_fault _ _ c.in-Err.error
      (count_no_fault _ _ c.in-Err.error (rw c.in-Err.ensures.other at c.in-Err.ensures.refused));
  reads = search rules;
}
