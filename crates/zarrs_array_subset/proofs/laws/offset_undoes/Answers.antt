use Rattle.zarrs_array_subset.proofs.MoveLaws.{undoes, undoing_fits}
use Rattle.zarrs_array_subset.proofs.laws.offset_undoes.Goals as goal

pub returns-clause-same : goal.returns-clause-same
returns-clause-same c = undoes

pub returns-clause-fits : goal.returns-clause-fits
returns-clause-fits c = undoing_fits
