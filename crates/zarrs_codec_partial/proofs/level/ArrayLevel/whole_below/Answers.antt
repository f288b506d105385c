use Rattle.std.proofs.Common.{true, false}
use Rattle.zarrs_codec_partial.specs.Above.{array_level, array_fill}
use Rattle.zarrs_codec_partial.proofs.level.ArrayLevel.whole_below.Goals as goal

pub returns-in-Err : goal.returns-in-Err
returns-in-Err g c =
    let level = array_level c.args.self.now in
    let part = g.met.C.ArrayCodecTraits.serves_parts c.args.self.now.codec level (array_fill c.args.self.now)
    c.requires.served true false false in
    (rw c.deref.ensures.value at c.in-Err.ensures.value) part
