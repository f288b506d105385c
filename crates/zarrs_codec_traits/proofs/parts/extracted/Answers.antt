use Rattle.std.proofs.Common.{rules, ◌≡◌}
use Rattle.zarrs_codec_traits.specs.Prelude.{region as box_of, raw_of, kind_seen, count_of, ends_within, lengths}
use Rattle.zarrs_codec_traits.proofs.FaultLaws.{answers_no_fault, known_extract}
use Rattle.zarrs_codec_traits.proofs.TakenLaws.{taken_out}
use Rattle.zarrs_codec_traits.proofs.parts.extracted.Goals as goal

pub returns-clause-value : goal.returns-clause-value
returns-clause-value c = λ xs means.
    let same : c.deref.result.now ≡ lengths c.args.shape.now = search rules in
    let answer = rw same at c.extract_array_subset.ensures.answer in
    let selected = rw same at c.extract_array_subset.ensures.selected in
    taken_out raw_of (kind_seen c.args.data_type.now) (lengths c.args.shape.now) (box_of c.args.region.now)
    (raw_of c.args.bytes.now) xs c.extract_array_subset.result c.requires.inside answer selected means

pub returns-clause-no_fault : goal.returns-clause-no_fault
returns-clause-no_fault c =
    let same : c.deref.result.now ≡ lengths c.args.shape.now = search rules in
    let answer = rw same at c.extract_array_subset.ensures.answer in
    answers_no_fault c.extract_array_subset.result _
    (known_extract (kind_seen c.args.data_type.now) (ends_within (box_of c.args.region.now) (lengths c.args.shape.now))
    (count_of (lengths c.args.shape.now)) (raw_of c.args.bytes.now)) answer
