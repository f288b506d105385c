use Rattle.std.proofs.Common.{ap, ◌∙◌}
use Rattle.zarr_model.specs.Region.{count}
use Rattle.zarr_model.specs.ArrayBytes.{meaning}
use Rattle.zarrs_array_subset.specs.ArraySubset.{region}
use Rattle.zarrs_codec_array_bytes.specs.Raw.{raw_of}
use Rattle.zarrs_codec_array_bytes.specs.Refusals.{lengths_refusal}
use Rattle.zarrs_codec_array_bytes.specs.Steps.{kind_seen}
use Rattle.zarrs_codec_array_bytes.proofs.ExtractLaws.{lengths_kept}
use Rattle.zarrs_codec_array_bytes_parts.specs.OwnedArrayBytes.{owned_raw}
use Rattle.zarrs_codec_array_bytes_parts.proofs.MeansLaws.{some_list, alike_means, fixed_means}
use Rattle.zarr_array_boxes.proofs.PutLaws.{puts_copied}
use Rattle.zarr_array_boxes.proofs.fixed.put_elements.Goals as goal

pub copy_overlap-requires-clause-fixed : goal.copy_overlap-requires-clause-fixed
copy_overlap-requires-clause-fixed c =
    fixed_means (kind_seen c.args.data_type.now) (count (region c.args.into_subset.now)) (owned_raw c.args.into.now)
    c.requires.some c.requires.held

pub copy_overlap-requires-clause-alike : goal.copy_overlap-requires-clause-alike
copy_overlap-requires-clause-alike c =
    let kind = kind_seen c.args.data_type.now in
    let held = meaning kind (count (region c.args.into_subset.now)) (owned_raw c.args.into.now) in
    let given = meaning kind (count (region c.args.subset.now)) (raw_of c.args.bytes.now) in
    alike_means kind (count (region c.args.into_subset.now)) (count (region c.args.subset.now))
    (owned_raw c.args.into.now) (raw_of c.args.bytes.now) _ _ (some_list held c.requires.held)
    (some_list given c.requires.means)

pub copy_overlap-requires-clause-long : goal.copy_overlap-requires-clause-long
copy_overlap-requires-clause-long c =
    let kind = kind_seen c.args.data_type.now in
    let number = count (region c.args.into_subset.now) in
    ap (λ size. lengths_refusal size number (owned_raw c.args.into.now)) c.element_size.ensures
    ∙ lengths_kept kind number (owned_raw c.args.into.now) _
    (some_list (meaning kind number (owned_raw c.args.into.now)) c.requires.held)

pub copy_overlap-requires-clause-bytes_long : goal.copy_overlap-requires-clause-bytes_long
copy_overlap-requires-clause-bytes_long c =
    let kind = kind_seen c.args.data_type.now in
    let number = count (region c.args.subset.now) in
    ap (λ size. lengths_refusal size number (raw_of c.args.bytes.now)) c.element_size.ensures
    ∙ lengths_kept kind number (raw_of c.args.bytes.now) _
    (some_list (meaning kind number (raw_of c.args.bytes.now)) c.requires.means)

pub returns-clause-puts : goal.returns-clause-puts
returns-clause-puts c =
    puts_copied (kind_seen c.args.data_type.now) c.element_size.result (region c.args.into_subset.now)
    (region c.args.subset.now) (raw_of c.args.bytes.now) (owned_raw c.args.into.now) (owned_raw c.copy_overlap.new.self)
    c.element_size.ensures c.requires.some c.requires.means c.requires.held c.copy_overlap.ensures.copies
