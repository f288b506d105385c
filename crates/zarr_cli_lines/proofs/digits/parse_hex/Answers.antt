use Rattle.std.proofs.Common.{None, sym, lit<}
use Rattle.std.proofs.lemmas.Str.Pattern.{strip_prefix_char}
use Rattle.zarr_cli_lines.proofs.ElementSplits.{hex_of-no_h}
use Rattle.zarr_cli_lines.proofs.digits.parse_hex.Goals as goal

pub returns-in_default : goal.returns-in_default
returns-in_default c =
    sym (hex_of-no_h c.args.text.now (strip_prefix_char 104 c.args.text.now None c.in_default.ensures.cases (lit< tt)))
