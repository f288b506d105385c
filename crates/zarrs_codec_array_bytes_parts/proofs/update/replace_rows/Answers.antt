use Rattle.std.proofs.Common.{◌∙◌}
use Rattle.zarrs_codec_array_bytes.specs.Raw.{raw_of}
use Rattle.zarrs_codec_array_bytes.specs.Rows.{outer_box, inner_box, row_element_bytes}
use Rattle.zarrs_codec_array_bytes_parts.specs.OwnedArrayBytes.{owned_raw}
use Rattle.zarrs_codec_array_bytes_parts.proofs.OverlapLaws.{copied_gathered}
use Rattle.zarrs_codec_array_bytes_parts.proofs.update.replace_rows.Goals as goal

pub returns-clause-value : goal.returns-clause-value
returns-clause-value c =
    let copies = rw (c.element_size.ensures.value, c.outer.ensures, c.subset.ensures.value, c.in_ok-elements.ensures) at
    c.copy_overlap.ensures.copies in
    c.in_ok-replaced.ensures
    ∙ copied_gathered (row_element_bytes c.args.rows.now) (outer_box c.args.rows.now) (inner_box c.args.rows.now)
    (raw_of c.args.new.now) (raw_of c.args.old) (owned_raw c.copy_overlap.new.self) c.element_size.ensures.some
    c.requires.inside c.requires.old_long c.requires.new_long copies
