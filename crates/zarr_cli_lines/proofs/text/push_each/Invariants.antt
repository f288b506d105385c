use Rattle.std.proofs.Common.{◌≡◌, ◌++◌, take}
use Rattle.zarrs_codec_array_bytes.specs.Raw.{raw_of}
use Rattle.zarrs_codec_array_bytes.specs.Steps.{kind_seen}
use Rattle.zarr_cli_lines.specs.ElementText.{elements_text}
use Rattle.zarr_cli_lines.specs.Place.{list_of_kind}
use Rattle.zarr_cli_lines.proofs.text.push_each.Given as goal

abbrev pub invariant-loop-index : goal.invariant-loop-index
invariant-loop-index l = l.text.items ≡
    l.fn.text.items ++ elements_text (take l.index (list_of_kind (kind_seen l.data_type) l.elements (raw_of l.bytes)))
