use Rattle.zarr_model.proofs.NeededLaws.{none_taken, one_more_taken, one_more_erased}
use Rattle.zarr_model.proofs.needed.needed_bytes_add_up.Goals as goal

pub returns-clause-none : goal.returns-clause-none
returns-clause-none c = none_taken

pub returns-clause-more : goal.returns-clause-more
returns-clause-more c = one_more_taken

pub returns-clause-erased : goal.returns-clause-erased
returns-clause-erased c = one_more_erased
