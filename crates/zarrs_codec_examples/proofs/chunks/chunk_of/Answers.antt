use Rattle.std.proofs.Common.{sym, subst}
use Rattle.zarrs_codec_traits.specs.Prelude.{Level, fill_bytes, unserved_at, level_of, IsFit}
use Rattle.zarrs_codec_traits.proofs.LevelLaws.{served_ok}
use Rattle.zarrs_codec_examples.proofs.chunks.chunk_of.Goals as goal

pub new-elements-requires : goal.new-elements-requires
new-elements-requires g c =
    let level = level_of c.args.shape.items c.args.data_type c.args.fill_value in
    let fill = fill_bytes c.args.fill_value in
    let served = served_ok (unserved_at (g.A.ArrayCodecTraits.unserved c.args.array_codec) level fill) _
    (rw c.deref.ensures.value at c.in-Ok.ensures.unserved) in
    let below = (rw c.deref.ensures.value at c.in-Ok.ensures.value) served c.requires.denotes in
    subst (λ (l : Level). IsFit l.shape l.data_type) (sym below.0)
    (g.met.A.ArrayToArrayCodecTraits.keeps_fit c.args.array_codec level fill served c.requires.fits)
