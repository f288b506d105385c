use Rattle.std.proofs.Common.{◌≡◌, Some, ap, ◌∙◌}
use Rattle.std.specs.Prelude.{reverse, option_map}
use Rattle.zarrs_storage.specs.Store.{value_bytes}
use Rattle.zarrs_codec_examples.proofs.ChunkLaws.{served_below, list_below}
use Rattle.zarrs_codec_examples.proofs.callers.part_from_the_end.Goals as goal

pub returns : goal.returns
returns g c = λ xs served means.
    let chunk = c.in_ok-chunk.ensures in
    let bottom = c.in_ok-chunk.chunk.handle.level in
    let held : value_bytes c.in_ok-chunk.chunk.handle.handle.value ≡ Some c.args.value.items =
    ap (λ h. value_bytes h.value) chunk.handle ∙ c.new-handle.ensures in
    (rw chunk.level at c.partial_decode.ensures.reads.selects.value) (reverse xs)
    (served_below g.B.ArrayCodecTraits.unserved bottom c.args.codec _ _ _ chunk.below chunk.fill chunk.codec
    c.requires.denotes served)
    (ap (option_map reverse)
    (list_below g.B.ArrayToBytesCodecTraits.meaning bottom c.args.codec _ _ _ _ xs chunk.below chunk.codec held means))
