use Rattle.zarr_model.specs.Element.{fill_element}
use Rattle.zarr_model.specs.ArrayBytes.{meaning}
use Rattle.zarrs_data_type_bytes.specs.FillValue.{fill_bytes}
use Rattle.zarrs_codec_array_bytes.specs.Raw.{raw_of}
use Rattle.zarrs_codec_array_bytes.specs.Steps.{kind_seen}
use Rattle.zarr_array_boxes.proofs.PutLaws.{filled_some}
use Rattle.zarr_array_boxes.proofs.listed.ListedBox.filled.Goals as goal

pub invariant_of-result-clause-blank_means : goal.invariant_of-result-clause-blank_means
invariant_of-result-clause-blank_means c =
    filled_some (fill_element (kind_seen c.args.data_type.now) (fill_bytes c.args.fill_value.now))
    1 (meaning (kind_seen c.args.data_type.now) 1 (raw_of c.in_ok-blank.blank))
    c.requires.denotes c.in_ok-blank.ensures.means
