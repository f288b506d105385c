use Rattle.std.proofs.Common.{◌≡◌, length, sym, arith}
use Rattle.zarrs_codec_array_bytes.specs.Steps.{kind_seen}
use Rattle.zarr_cli_runs.proofs.TextLemmas.{no_text, one_line_more, all_lines}
use Rattle.zarr_cli_runs.proofs.commands.text_of_replies.Goals as goal

pub loop-reply-init : goal.loop-reply-init
loop-reply-init c =
    no_text (kind_seen c.args.data_type.now) c.args.replies.now c.new-text.result.items c.new-text.ensures.items

pub loop-reply-preserved : goal.loop-reply-preserved
loop-reply-preserved c =
    one_line_more (kind_seen c.args.data_type.now) c.args.replies.now c.loop-reply.reply-index c.reply-item.result
    c.loop-reply.text.items c.push_reply.new.text.items
    c.loop-reply-test.true (sym c.reply-item.is) c.loop-reply.invariant c.in_ok-push_reply.ensures

pub returns : goal.returns
returns c =
    let over = c.loop-reply-test.false in
    let most = c.loop-reply.auto.reply-index-end in
    let last : c.loop-reply.reply-index ≡ length c.args.replies.now = omega arith in
    all_lines (kind_seen c.args.data_type.now) c.args.replies.now c.loop-reply.reply-index c.loop-reply.text.items last
    c.loop-reply.invariant
