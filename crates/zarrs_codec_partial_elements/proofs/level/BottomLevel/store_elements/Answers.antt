use Rattle.std.proofs.Common.{◌∙◌, not, sym, ap}
use Rattle.zarrs_codec_traits.specs.Prelude.{count_of, Options, raw_of, options_of, unserved_at}
use Rattle.zarrs_codec_traits.proofs.CountLaws.{lengths_some}
use Rattle.zarrs_codec_traits.proofs.LevelLaws.{served_ok}
use Rattle.zarrs_codec.proofs.NamedLaws.{codec_served}
use Rattle.zarrs_codec.proofs.UpdateLaws.{stores_not}
use Rattle.zarrs_codec_partial_elements.specs.Level.{level_of_bottom, bottom_fill, seen_by}
use Rattle.zarrs_codec_partial_elements.specs.Writing.{IsBeyond, IsTaken}
use Rattle.zarrs_codec_partial_elements.proofs.WriteLaws.{stores_value, stores_none, taken_by, beyond_told, short_told}
use Rattle.zarrs_codec_partial_elements.proofs.WriteLaws.{encode_no_fault}
use Rattle.zarrs_codec_partial_elements.proofs.level.BottomLevel.store_elements.Goals as goal

pub returns-then-dropped-clause-stores : goal.returns-then-dropped-clause-stores
returns-then-dropped-clause-stores g c =
    let level = level_of_bottom c.args.self.now in
    let fill = bottom_fill c.args.self.now in
    let code = g.C.ArrayToBytesCodecTraits in
    let unserved = unserved_at (g.C.ArrayCodecTraits.unserved c.args.self.now.codec) level fill in
    let means_at = (λ (under : Options). code.meaning c.args.self.now.codec under level) in
    let request = code.request c.args.self.now.codec level.shape level.data_type in
    let handle = g.H.BytesPartialDecoderTraits in
    let under = options_of c.args.options.now in
    let served = served_ok unserved c.in-Ok.value (rw c.deref.ensures.value at c.in-Ok.ensures.unserved) in
    let exact = rw c.deref.ensures.value at c.in-Ok.ensures.exact in
    stores_none level fill unserved means_at request under (raw_of c.args.bytes) _ _ _ (handle.seen c.args.handle.now)
    (handle.seen c.erase.new.self) c.erase.result (g.met.H.BytesPartialDecoderTraits.sound c.erase.new.self)
    (λ list means. sym (ap not c.if-dropped.true)
    ∙ c.is_dropped-dropped.ensures (count_of level.shape) list (lengths_some c.args.self.now.shape.items) means)
    c.erase.ensures.writes c.erase.ensures.unasked c.erase.ensures.cause (λ list means.
    taken_by level (raw_of c.args.bytes) list (code.beyond c.args.self.now.codec level) (exact served) means) served

pub returns-else-dropped-clause-stores : goal.returns-else-dropped-clause-stores
returns-else-dropped-clause-stores g c =
    let level = level_of_bottom c.args.self.now in
    let fill = bottom_fill c.args.self.now in
    let code = g.C.ArrayToBytesCodecTraits in
    let unserved = unserved_at (g.C.ArrayCodecTraits.unserved c.args.self.now.codec) level fill in
    let means_at = (λ (under : Options). code.meaning c.args.self.now.codec under level) in
    let request = code.request c.args.self.now.codec level.shape level.data_type in
    let handle = g.H.BytesPartialDecoderTraits in
    let under = options_of c.args.options.now in
    let served = served_ok unserved c.in-Ok.value (rw c.deref.ensures.value at c.in-Ok.ensures.unserved) in
    let exact = rw c.deref.ensures.value at c.in-Ok.ensures.exact in
    stores_value level fill unserved means_at request under (raw_of c.args.bytes) _ _ _ c.in-Ok.value.items
    (handle.seen c.args.handle.now) (handle.seen c.replace.new.self) c.replace.result
    (g.met.H.BytesPartialDecoderTraits.sound c.replace.new.self)
    (λ list means. sym (ap not c.if-dropped.false)
    ∙ c.is_dropped-dropped.ensures (count_of level.shape) list (lengths_some c.args.self.now.shape.items) means)
    (rw c.deref.ensures.value at c.in-Ok.ensures.value) (rw c.deref-in-Ok.ensures.value at c.replace.ensures.writes)
    c.replace.ensures.unasked c.replace.ensures.cause
    (λ list means.
    taken_by level (raw_of c.args.bytes) list (code.beyond c.args.self.now.codec level) (exact served) means) served

pub returns-in-Err-clause-stores : goal.returns-in-Err-clause-stores
returns-in-Err-clause-stores g c =
    let level = level_of_bottom c.args.self.now in
    let fill = bottom_fill c.args.self.now in
    let code = g.C.ArrayToBytesCodecTraits in
    let unserved = unserved_at (g.C.ArrayCodecTraits.unserved c.args.self.now.codec) level fill in
    let means_at = (λ (under : Options). code.meaning c.args.self.now.codec under level) in
    let request = code.request c.args.self.now.codec level.shape level.data_type in
    let handle = g.H.BytesPartialDecoderTraits in
    let under = options_of c.args.options.now in
    let exact = rw c.deref.ensures.value at c.in-Err.ensures.exact in
    let beyond = code.beyond c.args.self.now.codec level in
    stores_not under (raw_of c.args.bytes) (IsBeyond beyond level) (IsTaken beyond level)
    (code.takes c.args.self.now.codec level)
    (seen_by g.C.ArrayCodecTraits.unserved g.C.ArrayToBytesCodecTraits.meaning g.C.ArrayToBytesCodecTraits.request
    c.args.self.now (handle.seen c.args.handle.now)) c.in-Err.error
    (λ list served means.
    beyond_told level (raw_of c.args.bytes) list beyond _ _ c.in-Err.error means (exact (codec_served _ served)))
    (λ served few takes there short. short_told level (raw_of c.args.bytes) beyond _ _ c.in-Err.error there
    (g.met.C.ArrayToBytesCodecTraits.taken c.args.self.now.codec level fill (raw_of c.args.bytes)
    (codec_served _ served) takes there short) (exact (codec_served _ served)))
    (encode_no_fault _ level (raw_of c.args.bytes) (beyond (raw_of c.args.bytes)) unserved c.in-Err.error
    (g.met.C.ArrayToBytesCodecTraits.refuses_form c.args.self.now.codec level (raw_of c.args.bytes))
    (rw c.deref.ensures.value at c.in-Err.ensures.unserved) exact)
