use Rattle.std.proofs.Common.{rules}
use Rattle.zarrs_codec_partial_elements.specs.Level.{level_of_bottom, bottom_fill, ranges_for}
use Rattle.zarrs_codec_partial_elements.proofs.HeldLaws.{list_told}
use Rattle.zarrs_codec_partial_elements.proofs.array_to_bytes_codec_partial_default.ArrayToBytesCodecPartialDefaultArrayPartialDecoderTraits.exists.Goals as goal

pub returns-clause-kept : goal.returns-clause-kept
returns-clause-kept g c = record {
  same = search rules;
  tells = λ under asked e told.
      let level = level_of_bottom c.args.self.now.level in
      let code = g.C.ArrayToBytesCodecTraits in
      let handle = g.H.BytesPartialDecoderTraits in
      let request = code.request c.args.self.now.level.codec level.shape level.data_type in
      let ranges = ranges_for request level.shape asked in
      list_told level (bottom_fill c.args.self.now.level) (code.meaning c.args.self.now.level.codec under level)
      (code.says c.args.self.now.level.codec under level) ranges e
      (handle.tells c.args.self.now.handle under) (handle.tells c.exists.new.self under)
      (handle.seen c.args.self.now.handle) (handle.seen c.exists.new.self) under c.exists.ensures.looks.keeps
      (c.exists.ensures.kept.tells under ranges e) told;
}
