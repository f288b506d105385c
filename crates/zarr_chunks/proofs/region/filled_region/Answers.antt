use Rattle.std.proofs.Common.{◌+◌, ◌<◌, ◌^◌, arith}
use Rattle.zarrs_codec_traits.specs.Prelude.{count, region as box_of, fill_bytes, level_of, at_box}
use Rattle.zarr_model.proofs.ElementLaws.{denoted}
use Rattle.zarrs_codec_traits.proofs.SelectLaws.{box-fits}
use Rattle.zarr_chunks.proofs.FetchLaws.{filled_gives}
use Rattle.zarr_chunks.proofs.region.filled_region.Goals as goal

pub num_elements-requires : goal.num_elements-requires
num_elements-requires c =
    let fits = box-fits (level_of c.args.shape.now c.args.data_type.now c.args.fill_value.now)
    (box_of c.args.region.now) c.requires.inside c.requires.fits in
    let few : count (box_of c.args.region.now) + 1 < 2 ^ 64 = fits.count in
    omega (arith, few)

pub new_fill_value-requires-clause-count : goal.new_fill_value-requires-clause-count
new_fill_value-requires-clause-count c =
    rw c.num_elements.ensures (box-fits (level_of c.args.shape.now c.args.data_type.now c.args.fill_value.now)
    (box_of c.args.region.now) c.requires.inside c.requires.fits).count

pub new_fill_value-requires-clause-bytes : goal.new_fill_value-requires-clause-bytes
new_fill_value-requires-clause-bytes c =
    rw c.num_elements.ensures (box-fits (level_of c.args.shape.now c.args.data_type.now c.args.fill_value.now)
    (box_of c.args.region.now) c.requires.inside c.requires.fits).bytes

pub returns-clause-value : goal.returns-clause-value
returns-clause-value c =
    filled_gives (at_box (box_of c.args.region.now) (level_of c.args.shape.now c.args.data_type.now
    c.args.fill_value.now)) c.num_elements.result (fill_bytes c.args.fill_value.now) c.new_fill_value.result
    c.num_elements.ensures (denoted _ c.requires.denotes) c.new_fill_value.ensures.answer
    c.new_fill_value.ensures.filled
