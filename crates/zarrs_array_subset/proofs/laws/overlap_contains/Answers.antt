use Rattle.zarrs_array_subset.proofs.MoveLaws.{front_is_both, overlap_is_both}
use Rattle.zarrs_array_subset.proofs.laws.overlap_contains.Goals as goal

pub returns-clause-tuples : goal.returns-clause-tuples
returns-clause-tuples c = overlap_is_both

pub returns-clause-calls : goal.returns-clause-calls
returns-clause-calls c = front_is_both
