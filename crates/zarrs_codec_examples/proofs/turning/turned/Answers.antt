use Rattle.std.proofs.Common.{◌≡◌, true, sym, subst}
use Rattle.zarrs_codec_traits.specs.Prelude.{Region, ends_within, region as box_of, raw_of, kind_seen, lengths}
use Rattle.zarrs_codec.proofs.BoxLaws.{whole_inside}
use Rattle.zarrs_codec_examples.proofs.MirrorLaws.{all_turned}
use Rattle.zarrs_codec_examples.proofs.turning.turned.Goals as goal

pub turned_region-requires-clause-inside : goal.turned_region-requires-clause-inside
turned_region-requires-clause-inside c =
    let shape = lengths c.args.shape.now in
    subst (λ (box : Region). ends_within box shape ≡ true) (sym c.in-Ok.ensures) (whole_inside shape)

pub returns-in-Ok-clause-value : goal.returns-in-Ok-clause-value
returns-in-Ok-clause-value c =
    all_turned raw_of (kind_seen c.args.data_type.now) (lengths c.args.shape.now) (box_of c.in-Ok.all)
    (raw_of c.args.bytes.now) c.turned_region.result c.in-Ok.ensures c.turned_region.ensures.value
