use Rattle.std.proofs.Common.{sym}
use Rattle.zarrs_codec_array_bytes.specs.Raw.{raw_of}
use Rattle.zarrs_codec_array_bytes.specs.Steps.{kind_seen}
use Rattle.zarr_cli_lines.proofs.TextLemmas.{fixed_put}
use Rattle.zarr_cli_lines.proofs.text.push_elements.Goals as goal

pub returns-in-Fixed : goal.returns-in-Fixed
returns-in-Fixed c =
    fixed_put c.push_fixed.result (kind_seen c.args.data_type.now) c.in-Fixed.size (raw_of c.args.bytes.now)
    c.fixed_bytes_in.result.now c.args.text.now.items c.push_fixed.new.text.items
    c.in-Fixed.ensures.kind c.fixed_bytes_in.ensures (c.requires c.in-Fixed.size (sym c.in-Fixed.ensures.kind))
    c.push_fixed.ensures
