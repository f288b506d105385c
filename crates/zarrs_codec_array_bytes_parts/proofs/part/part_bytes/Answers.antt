use Rattle.std.proofs.Common.{arith, ap, ◌*◌}
use Rattle.zarrs_array_subset.specs.ArraySubset.{region}
use Rattle.zarrs_codec_array_bytes_parts.proofs.ViewLaws.{part_fits}
use Rattle.zarrs_codec_array_bytes_parts.proofs.part.part_bytes.Goals as goal

pub num_elements_usize-requires : goal.num_elements_usize-requires
num_elements_usize-requires c = (part_fits (region c.args.subset.now) c.args.shape.now c.args.size c.args.array_len
    c.requires.some c.ranges.array_len.fits c.requires.inside c.requires.long).0

pub overflow_mul-result : goal.overflow_mul-result
overflow_mul-result c =
    let fits = (part_fits (region c.args.subset.now) c.args.shape.now c.args.size c.args.array_len c.requires.some
    c.ranges.array_len.fits c.requires.inside c.requires.long).1 in
    omega (arith, fits, ap (λ n. n * c.args.size) c.num_elements_usize.ensures)
