use Rattle.std.proofs.Common.{length, get_or}
use Rattle.zarr_model.specs.Element.{null}
use Rattle.zarrs_codec_slices.specs.Picking.{replaced, last_given}
use Rattle.zarrs_codec_slices.proofs.LeafLaws.{map_below}
use Rattle.zarrs_codec_slices.proofs.ReplaceLaws.{get_or-replaced}
use Rattle.zarrs_codec_slices.proofs.laws.extract_after_update.Goals as goal

pub returns : goal.returns
returns c = λ indices places given list all.
    map_below (λ place. get_or (replaced indices given list) place null)
    (λ place. last_given place indices given (get_or list place null)) (length list) places
    (λ place h. get_or-replaced null place indices given list h) all
