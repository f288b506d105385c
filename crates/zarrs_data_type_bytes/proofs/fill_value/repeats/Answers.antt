use Rattle.std.proofs.Common.{length, subst, sym, ◌↔◌, IsTrue}
use Rattle.zarrs_data_type_bytes.specs.Pieces.{Repeats}
use Rattle.zarrs_data_type_bytes.proofs.FillLaws.{none_by, some_by, refused, repeats-empty, repeats_none, repeats_whole}
use Rattle.zarrs_data_type_bytes.proofs.FillLaws.{repeats-pieces}
use Rattle.zarrs_data_type_bytes.proofs.fill_value.repeats.Goals as goal

pub returns-then-is_empty : goal.returns-then-is_empty
returns-then-is_empty c =
    subst (λ b. IsTrue b ↔ Repeats c.args.fill.now c.args.bytes.now) (sym c.is_empty-then-is_empty.ensures)
    (repeats-empty c.args.fill.now c.args.bytes.now
    (none_by (length c.args.fill.now) c.is_empty.result c.is_empty.ensures c.if-is_empty.true))

pub returns-then-is_empty-2 : goal.returns-then-is_empty-2
returns-then-is_empty-2 c = refused (repeats_none c.args.fill.now c.args.bytes.now
    (some_by (length c.args.fill.now) c.is_empty.result c.is_empty.ensures c.if-is_empty.false)
    (none_by (length c.args.bytes.now) c.is_empty-2.result c.is_empty-2.ensures c.if-is_empty-2.true))

pub returns-then-bytes-fill-ne0 : goal.returns-then-bytes-fill-ne0
returns-then-bytes-fill-ne0 c = refused (λ r. c.if-bytes-fill-ne0.true (repeats_whole c.args.fill.now c.args.bytes.now
    (some_by (length c.args.fill.now) c.is_empty.result c.is_empty.ensures c.if-is_empty.false) r))

pub returns : goal.returns
returns c =
    let pieces = repeats-pieces c.args.fill.now c.args.bytes.now
    (some_by (length c.args.fill.now) c.is_empty.result c.is_empty.ensures c.if-is_empty.false)
    (some_by (length c.args.bytes.now) c.is_empty-2.result c.is_empty-2.ensures c.if-is_empty-2.false)
    c.if-bytes-fill-ne0.false in
    (λ h. pieces.0 (c.all_fill.ensures.0 h), λ r. c.all_fill.ensures.1 (pieces.1 r))
