use Rattle.std.proofs.Common.{◌≤◌, ◌+◌, ◌<◌, ◌^◌, arith}
use Rattle.zarrs_codec_traits.specs.Prelude.{count, count_of, region as box_of, lengths}
use Rattle.zarr_model.proofs.RegionLaws.{count_within}
use Rattle.zarr_chunks.proofs.reading.is_whole.Goals as goal

pub num_elements-requires : goal.num_elements-requires
num_elements-requires c =
    let less : count (box_of c.args.region.now) ≤ count_of (lengths c.args.shape.now) =
    count_within (box_of c.args.region.now) (lengths c.args.shape.now) c.requires.inside in
    let few : count_of (lengths c.args.shape.now) + 1 < 2 ^ 64 = c.requires.few in
    omega (arith, less, few)
