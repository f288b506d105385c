use Rattle.std.proofs.Common.{◌∙◌, ap, rules}
use Rattle.std.specs.FinMap as finite
use Rattle.zarrs_metadata_values.specs.Configuration.{configuration_seen}
use Rattle.zarrs_codec_error.specs.CodecSpecificOptions.{options_seen}
use Rattle.zarrs_codec_error.proofs.OptionLemmas.{options_put}
use Rattle.zarrs_codec_error.proofs.codec_specific_options.CodecSpecificOptions.with_option.Goals as goal

pub returns : goal.returns
returns c =
    options_put c.args.self record { options = c.insert.new.self } c.in_ok-name.name c.args.option (search rules)
    ∙ ap (λ name. finite.insert (options_seen c.args.self) name (configuration_seen c.args.option))
    c.in_ok-name.ensures.ok
