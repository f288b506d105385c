use Rattle.zarr_model.proofs.LandingLaws.{are_cut_cover}
use Rattle.zarr_model.proofs.boundaries.boundaries_cover.Goals as goal

pub returns : goal.returns
returns c = are_cut_cover
