use Rattle.zarrs_codec_traits.specs.Errors.{unserved_at}
use Rattle.zarrs_codec_partial.specs.Above.{array_level, array_fill}
use Rattle.zarrs_codec_partial.proofs.StoreLaws.{erases_above, rest_above}
use Rattle.zarrs_codec_partial.proofs.array_to_array_codec_partial_default.ArrayToArrayCodecPartialDefaultArrayPartialEncoderTraits.erase.Goals as goal

pub returns-clause-erases : goal.returns-clause-erases
returns-clause-erases g c =
    let own = c.args.self.now in
    let level = array_level own.level in
    let fill = array_fill own.level in
    let code = g.C.ArrayToArrayCodecTraits in
    let codec = own.level.codec in
    let unserved = unserved_at (g.C.ArrayCodecTraits.unserved codec) level fill in
    let handle = g.H.ArrayPartialDecoderTraits in
    erases_above (code.meaning codec) (code.fill_below codec) level fill unserved (code.region_below codec)
    (handle.seen own.handle) (handle.seen c.erase.new.self) c.erase.result c.erase.ensures.erases

pub returns-clause-rest : goal.returns-clause-rest
returns-clause-rest g c =
    let own = c.args.self.now in
    let level = array_level own.level in
    let fill = array_fill own.level in
    let code = g.C.ArrayToArrayCodecTraits in
    let codec = own.level.codec in
    let unserved = unserved_at (g.C.ArrayCodecTraits.unserved codec) level fill in
    rest_above (code.meaning codec) (code.fill_below codec) level fill unserved (code.region_below codec) _ _
    c.erase.ensures.rest
