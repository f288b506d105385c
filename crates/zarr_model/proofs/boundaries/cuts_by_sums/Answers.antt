use Rattle.zarr_model.proofs.CutLaws.{cuts_words}
use Rattle.zarr_model.proofs.boundaries.cuts_by_sums.Goals as goal

pub returns : goal.returns
returns c = cuts_words
