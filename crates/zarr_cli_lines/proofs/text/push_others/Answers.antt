use Rattle.std.proofs.Common.{length, sym, ◌∙◌}
use Rattle.zarrs_codec_array_bytes.specs.Raw.{raw_of}
use Rattle.zarrs_codec_array_bytes.specs.Steps.{kind_seen}
use Rattle.zarr_cli_lines.proofs.CountLaws.{counted, listed_text, none_valid}
use Rattle.zarr_cli_lines.proofs.text.push_others.Goals as goal

pub returns-in_ok-push_each : goal.returns-in_ok-push_each
returns-in_ok-push_each c = λ list means.
    listed_text (kind_seen c.args.data_type.now) c.num_elements-elements.result (raw_of c.args.bytes.now) list
    c.args.text.now.items c.push_each.new.text.items
    (c.num_elements-elements.ensures.count ∙ sym (counted (kind_seen c.args.data_type.now) (length list)
    (raw_of c.args.bytes.now) list c.requires means)) means c.in_ok-push_each.ensures

pub returns-else-are_valid : goal.returns-else-are_valid
returns-else-are_valid c = λ list means.
    absurd (none_valid (kind_seen c.args.data_type.now) c.num_elements-elements.result (raw_of c.args.bytes.now) list
    (c.num_elements-elements.ensures.count ∙ sym (counted (kind_seen c.args.data_type.now) (length list)
    (raw_of c.args.bytes.now) list c.requires means)) means (sym c.if-are_valid.false ∙ c.are_valid.ensures))
