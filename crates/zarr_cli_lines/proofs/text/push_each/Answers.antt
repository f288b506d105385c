use Rattle.std.proofs.Common.{◌≡◌, arith}
use Rattle.zarrs_codec_array_bytes.specs.Raw.{raw_of}
use Rattle.zarrs_codec_array_bytes.specs.Steps.{kind_seen}
use Rattle.zarr_cli_lines.proofs.CountLaws.{one_more, all_taken}
use Rattle.zarr_cli_lines.proofs.text.push_each.Goals as goal

pub loop-index-preserved : goal.loop-index-preserved
loop-index-preserved c =
    one_more (kind_seen c.args.data_type.now) c.args.elements c.loop-index.index (raw_of c.args.bytes.now)
    c.args.text.now.items c.loop-index.text.items c.push.new.self.items c.push_element_text.new.text.items
    c.loop-index-test.true c.requires c.loop-index.invariant c.in_ok-push.ensures.items
    c.in_ok-push_element_text.ensures

pub returns : goal.returns
returns c =
    let over = c.loop-index-test.false in
    let most = c.loop-index.auto.index-end in
    let last : c.args.elements ≡ c.loop-index.index = omega arith in
    all_taken (kind_seen c.args.data_type.now) c.args.elements c.loop-index.index (raw_of c.args.bytes.now)
    c.args.text.now.items c.loop-index.text.items last c.requires c.loop-index.invariant
