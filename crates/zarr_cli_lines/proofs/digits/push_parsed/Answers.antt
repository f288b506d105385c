use Rattle.std.proofs.Common.{◌++◌, None, option_map, sym, ap, lit<}
use Rattle.std.proofs.lemmas.Str.Pattern.{strip_prefix_char}
use Rattle.zarr_cli_lines.proofs.ElementSplits.{hex_of-no_h}
use Rattle.zarr_cli_lines.proofs.digits.push_parsed.Goals as goal

pub returns-in_default : goal.returns-in_default
returns-in_default c = ap (option_map (λ bytes. c.args.value.now.items ++ bytes)) (sym (hex_of-no_h c.args.text.now
    (strip_prefix_char 104 c.args.text.now None c.in_default.ensures.cases (lit< tt))))
