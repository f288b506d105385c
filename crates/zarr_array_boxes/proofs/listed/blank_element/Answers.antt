use Rattle.zarrs_data_type_bytes.specs.FillValue.{fill_bytes}
use Rattle.zarrs_codec_array_bytes.specs.Steps.{kind_seen}
use Rattle.zarr_array_boxes.proofs.MemoryLaws.{filled_memory}
use Rattle.zarr_array_boxes.proofs.listed.blank_element.Goals as goal

pub only_memory-requires : goal.only_memory-requires
only_memory-requires c =
    filled_memory (kind_seen c.args.data_type.now) (fill_bytes c.args.fill_value.now) c.in-Err.error c.requires
    c.in-Err.ensures.answer
