use Rattle.zarrs_codec_partial_elements.specs.Level.{level_of_bottom, bottom_fill}
use Rattle.zarrs_codec_partial_elements.proofs.HeldLaws.{fill_all, fill_told}
use Rattle.zarrs_codec_partial_elements.proofs.level.BottomLevel.fill_whole.Goals as goal

pub returns : goal.returns
returns g c = record {
  gives = fill_all (level_of_bottom c.args.self.now) (bottom_fill c.args.self.now) c.new_fill_value.result
      c.new_fill_value.ensures.answer
      (rw (c.num_elements-number.ensures, c.deref.ensures.value) at c.new_fill_value.ensures.value)
      (rw (c.num_elements-number.ensures, c.deref.ensures.value) at c.new_fill_value.ensures.filled)
      c.new_fill_value.ensures.short;
  failed = fill_told (level_of_bottom c.args.self.now) (bottom_fill c.args.self.now) c.new_fill_value.result
      c.new_fill_value.ensures.answer;
}
