use Rattle.std.proofs.Common.{◌≡◌, ◌*◌, length, rules}
use Rattle.zarr_model.specs.Region.{count}
use Rattle.zarrs_array_subset.specs.ArraySubset.{region}
use Rattle.zarrs_codec_slices.proofs.RowLaws.{rows_taken}
use Rattle.zarrs_codec_slices.proofs.rows.extract_rows.Goals as goal

pub returns : goal.returns
returns c =
    let old_long : length c.in_ok-out.out.items ≡ count (region c.args.subset.now) * c.args.size = search rules in
    rows_taken c.args.size c.requires.some (region c.args.subset.now) (region c.args.outer.now) c.args.bytes.now
    c.in_ok-out.out.items c.copy_into.new.out.items
    c.requires.long old_long c.copy_into.ensures.as_long c.copy_into.ensures.copied c.requires.inside
