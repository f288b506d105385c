use Rattle.std.proofs.Common.{refl}
use Rattle.zarrs_chunk_grid_iterators.specs.Places.{IsRun, IsTuple}
use Rattle.zarrs_chunk_grid_iterators.specs.Runs.{span_of}
use Rattle.zarrs_chunk_grid_iterators.specs.Iterators.{tuples_lent, first_lent, tuples_left, first_left, linear_lent}
use Rattle.zarrs_chunk_grid_iterators.specs.Iterators.{linear_left, runs_lent, runs_left, tuple_runs_lent}
use Rattle.zarrs_chunk_grid_iterators.specs.Iterators.{first_run_lent, tuple_runs_left, first_run_left}
use Rattle.zarrs_chunk_grid_iterators.proofs.Always.{always_yields, always_gives}
use Rattle.zarrs_chunk_grid_iterators.proofs.laws.iterators_end.Goals as goal

pub returns-clause-tuples_lent : goal.returns-clause-tuples_lent
returns-clause-tuples_lent c s = always_gives IsTuple tuples_lent first_lent _ s refl

pub returns-clause-tuples : goal.returns-clause-tuples
returns-clause-tuples c s = always_gives IsTuple tuples_left first_left _ s refl

pub returns-clause-linear_lent : goal.returns-clause-linear_lent
returns-clause-linear_lent c s = always_yields (λ x. x) linear_lent _ s refl

pub returns-clause-linear : goal.returns-clause-linear
returns-clause-linear c s = always_yields (λ x. x) linear_left _ s refl

pub returns-clause-runs_lent : goal.returns-clause-runs_lent
returns-clause-runs_lent c s = always_yields span_of runs_lent _ s refl

pub returns-clause-runs : goal.returns-clause-runs
returns-clause-runs c s = always_yields span_of runs_left _ s refl

pub returns-clause-tuple_runs_lent : goal.returns-clause-tuple_runs_lent
returns-clause-tuple_runs_lent c s = always_gives IsRun tuple_runs_lent first_run_lent _ s refl

pub returns-clause-tuple_runs : goal.returns-clause-tuple_runs
returns-clause-tuple_runs c s = always_gives IsRun tuple_runs_left first_run_left _ s refl
