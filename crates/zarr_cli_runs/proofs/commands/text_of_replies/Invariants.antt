use Rattle.std.proofs.Common.{take}
use Rattle.zarrs_codec_array_bytes.specs.Steps.{kind_seen}
use Rattle.zarr_cli_lines.specs.Parts.{IsTextOfReplies}
use Rattle.zarr_cli_runs.proofs.commands.text_of_replies.Given as goal

abbrev pub invariant-loop-reply : goal.invariant-loop-reply
invariant-loop-reply l = IsTextOfReplies (kind_seen l.data_type) (take l.reply-index l.replies) l.text.items
