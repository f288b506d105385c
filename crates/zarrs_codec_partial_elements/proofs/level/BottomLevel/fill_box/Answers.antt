use Rattle.std.proofs.Common.{◌+◌, ◌<◌, ◌^◌, arith}
use Rattle.zarrs_codec_traits.specs.Prelude.{count, region as box_of}
use Rattle.zarrs_codec_traits.proofs.SelectLaws.{box-fits}
use Rattle.zarrs_codec_partial_elements.specs.Level.{level_of_bottom, bottom_fill}
use Rattle.zarrs_codec_partial_elements.proofs.HeldLaws.{fill_part, fill_told}
use Rattle.zarrs_codec_partial_elements.proofs.level.BottomLevel.fill_box.Goals as goal

pub num_elements-number-requires : goal.num_elements-number-requires
num_elements-number-requires g c =
    let fits =
    box-fits (level_of_bottom c.args.self.now) (box_of c.args.region.now) c.requires.inside c.requires.fits in
    let few : count (box_of c.args.region.now) + 1 < 2 ^ 64 = fits.count in
    omega (arith, few)

pub new_fill_value-requires-clause-count : goal.new_fill_value-requires-clause-count
new_fill_value-requires-clause-count g c = rw c.num_elements-number.ensures
    (box-fits (level_of_bottom c.args.self.now) (box_of c.args.region.now) c.requires.inside c.requires.fits).count

pub new_fill_value-requires-clause-bytes : goal.new_fill_value-requires-clause-bytes
new_fill_value-requires-clause-bytes g c = rw c.num_elements-number.ensures
    (box-fits (level_of_bottom c.args.self.now) (box_of c.args.region.now) c.requires.inside c.requires.fits).bytes

pub returns : goal.returns
returns g c = record {
  gives = fill_part (level_of_bottom c.args.self.now) (bottom_fill c.args.self.now) (box_of c.args.region.now)
      c.new_fill_value.result c.requires.inside c.new_fill_value.ensures.answer
      (rw c.num_elements-number.ensures at c.new_fill_value.ensures.value)
      (rw c.num_elements-number.ensures at c.new_fill_value.ensures.filled) c.new_fill_value.ensures.short;
  failed = fill_told (level_of_bottom c.args.self.now) (bottom_fill c.args.self.now) c.new_fill_value.result
      c.new_fill_value.ensures.answer;
}
