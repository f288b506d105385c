use Rattle.zarrs_array_subset.proofs.MoveLaws.{ravel_tuples, ravel_places}
use Rattle.zarrs_array_subset.proofs.laws.ravel_inverse.Goals as goal

pub returns-clause-tuples : goal.returns-clause-tuples
returns-clause-tuples c = ravel_tuples

pub returns-clause-places : goal.returns-clause-places
returns-clause-places c = ravel_places
