use Rattle.std.proofs.Common.{◌≡◌, ◌∷◌, [], drop, take, map}
use Rattle.zarrs_codec_examples.specs.SingleBytes.{singles_answer}
use Rattle.zarrs_codec_examples.proofs.joining.joined.Given as goal

abbrev pub invariant-loop-part : goal.invariant-loop-part
invariant-loop-part l = record {
  all : l.part-items ≡ l.fn.parts.items;
  joined : map (λ byte. byte ∷ []) l.bytes.items ≡ map (λ part. part.items) (take l.part-index l.part-items);
  left : singles_answer (map (λ part. part.items) (drop l.part-index l.part-items)) ≡
      singles_answer (map (λ part. part.items) l.part-items);
}
