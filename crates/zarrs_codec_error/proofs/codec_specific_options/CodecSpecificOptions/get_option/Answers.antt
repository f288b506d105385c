use Rattle.std.proofs.Common.{◌≡◌, ◌∙◌, sym, ap, Option, Some, None, option_map, Bor, refl}
use Rattle.zarrs_metadata_values.specs.declared.configuration.Configuration.{Configuration}
use Rattle.zarrs_metadata_values.specs.Configuration.{configuration_seen}
use Rattle.zarrs_codec_error.proofs.OptionLemmas.{get_seen}
use Rattle.zarrs_codec_error.proofs.codec_specific_options.CodecSpecificOptions.get_option.Goals as goal

seen_of_ref : (r : Option (Bor Configuration)) →
    option_map (λ x. configuration_seen x.now) r ≡ option_map configuration_seen (option_map (λ x. x.now) r)
seen_of_ref None = refl
seen_of_ref (Some x) = refl

pub returns : goal.returns
returns c =
    seen_of_ref c.get.result ∙ ap (option_map configuration_seen) c.get.ensures.value
    ∙ sym (get_seen c.args.self.now c.args.name.now)
