use Rattle.zarr_model.proofs.LargestLaws.{no_more_elements}
use Rattle.zarr_model.proofs.boundaries.largest_lengths_bound.Goals as goal

pub returns : goal.returns
returns c = no_more_elements
