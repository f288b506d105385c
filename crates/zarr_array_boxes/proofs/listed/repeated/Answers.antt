use Rattle.std.proofs.Common.{rules}
use Rattle.zarrs_codec_array_bytes.specs.Raw.{raw_of}
use Rattle.zarrs_codec_array_bytes.specs.Steps.{kind_seen}
use Rattle.zarr_array_boxes.proofs.GatherLemmas.{blank_long, selected_blank, selected_short}
use Rattle.zarr_array_boxes.proofs.listed.repeated.Goals as goal

pub select-requires-clause-long : goal.select-requires-clause-long
select-requires-clause-long c =
    blank_long (kind_seen c.args.data_type.now) (raw_of c.args.blank.now) c.requires c.element_size.result
    c.element_size.ensures

pub returns-in-Ok-clause-means : goal.returns-in-Ok-clause-means
returns-in-Ok-clause-means c =
    selected_blank (kind_seen c.args.data_type.now) c.args.count c.element_size.result c.deref.result.now
    (raw_of c.args.blank.now) (raw_of c.in-Ok.bytes) c.requires c.element_size.ensures (search rules)
    c.in-Ok.ensures.value

pub returns-in-Ok-clause-short : goal.returns-in-Ok-clause-short
returns-in-Ok-clause-short c =
    selected_short (kind_seen c.args.data_type.now) c.args.count c.element_size.result c.deref.result.now
    (raw_of c.args.blank.now) (raw_of c.in-Ok.bytes) c.requires c.element_size.ensures (search rules)
    c.in-Ok.ensures.value
