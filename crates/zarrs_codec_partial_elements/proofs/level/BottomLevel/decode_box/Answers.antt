use Rattle.std.proofs.Common.{true, false, Err}
use Rattle.zarrs_codec_traits.proofs.FaultLaws.{memory_no_fault, served_no_fault}
use Rattle.zarrs_codec_partial_elements.specs.Level.{level_of_bottom, bottom_fill}
use Rattle.zarrs_codec_partial_elements.proofs.ReadLaws.{unread_so}
use Rattle.zarrs_codec_partial_elements.proofs.level.BottomLevel.decode_box.Goals as goal

pub returns-in-Err : goal.returns-in-Err
returns-in-Err g c =
    let refuses = rw c.deref.ensures.value at c.in-Err.ensures.unserved in
    let memory = rw c.deref.ensures.value at c.in-Err.ensures.value in
    unread_so (g.met.H.BytesPartialDecoderTraits.same_self c.args.handle.now)
    (served_no_fault _ (Err c.in-Err.error) refuses (λ served. memory_no_fault c.in-Err.error (memory served)))
    (λ served ok. memory (g.met.C.ArrayCodecTraits.serves_parts c.args.self.now.codec (level_of_bottom c.args.self.now)
    (bottom_fill c.args.self.now) served true true false))
