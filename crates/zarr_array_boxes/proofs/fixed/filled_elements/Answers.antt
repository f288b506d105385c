use Rattle.std.proofs.Common.{IsSome, subst, sym}
use Rattle.std.proofs.lemmas.Result.{IfOk-weaker}
use Rattle.zarr_model.specs.Element.{fill_element}
use Rattle.zarr_model.specs.ArrayBytes.{meaning}
use Rattle.zarrs_data_type_bytes.specs.FillValue.{fill_bytes}
use Rattle.zarrs_codec_array_bytes.specs.Steps.{kind_seen}
use Rattle.zarr_array_boxes.proofs.MemoryLaws.{filled_memory}
use Rattle.zarr_array_boxes.proofs.PutLaws.{filled_some}
use Rattle.zarr_array_boxes.proofs.fixed.filled_elements.Goals as goal

pub returns-in-Ok-clause-means : goal.returns-in-Ok-clause-means
returns-in-Ok-clause-means c =
    IfOk-weaker c.owned_from.result _ _
    (λ v e. subst (λ raw. IsSome (meaning (kind_seen c.args.data_type.now) c.args.number raw)) (sym e)
    (filled_some (fill_element (kind_seen c.args.data_type.now) (fill_bytes c.args.fill_value.now)) c.args.number _
    c.requires.denotes c.in-Ok.ensures.filled))
    c.owned_from.ensures

pub only_memory-requires : goal.only_memory-requires
only_memory-requires c =
    filled_memory (kind_seen c.args.data_type.now) (fill_bytes c.args.fill_value.now) c.in-Err.error
    c.requires.denotes c.in-Err.ensures.answer
