use Rattle.zarrs_codec_traits.specs.Prelude.{Options, unserved_at}
use Rattle.zarrs_codec_partial_elements.specs.Level.{level_of_bottom, bottom_fill}
use Rattle.zarrs_codec_partial_elements.proofs.WriteLaws.{erases}
use Rattle.zarrs_codec_partial_elements.proofs.array_to_bytes_codec_partial_default.ArrayToBytesCodecPartialDefaultArrayPartialEncoderTraits.erase.Goals as goal

pub returns-clause-erases : goal.returns-clause-erases
returns-clause-erases g c =
    let level = level_of_bottom c.args.self.now.level in
    let fill = bottom_fill c.args.self.now.level in
    let code = g.C.ArrayToBytesCodecTraits in
    let unserved = unserved_at (g.C.ArrayCodecTraits.unserved c.args.self.now.level.codec) level fill in
    let means_at = (λ (under : Options). code.meaning c.args.self.now.level.codec under level) in
    let request = code.request c.args.self.now.level.codec level.shape level.data_type in
    let handle = g.H.BytesPartialDecoderTraits in
    erases level fill unserved means_at request (handle.seen c.args.self.now.handle) (handle.seen c.erase.new.self)
    c.erase.result (g.met.H.BytesPartialDecoderTraits.sound c.erase.new.self) c.erase.ensures.writes
