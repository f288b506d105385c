use Rattle.std.proofs.Common.{◌∙◌}
use Rattle.zarrs_codec_array_bytes.specs.Raw.{raw_of}
use Rattle.zarrs_codec_array_bytes.specs.Steps.{kind_seen}
use Rattle.zarr_cli_lines.proofs.CountLaws.{answered}
use Rattle.zarr_cli_lines.proofs.text.are_valid.Goals as goal

pub returns : goal.returns
returns c = c.is_ok.ensures.value ∙ answered (kind_seen c.args.data_type.now) c.args.elements (raw_of c.args.bytes.now)
    c.validate.result c.validate.ensures
