use Rattle.std.proofs.Common.{◌≡◌, ◌∙◌, ap, sym, length, Some}
use Rattle.zarrs_codec_traits.specs.Prelude.{kind_of, meaning, count_of, ends_within, tuples, region as box_of, type_of}
use Rattle.zarrs_codec_traits.specs.Prelude.{raw_of, lengths}
use Rattle.zarr_model.proofs.RegionLaws.{length-tuples}
use Rattle.zarr_model.specs.DataTypeSize.{size_seen}
use Rattle.zarr_chunks.specs.Update.{with_box}
use Rattle.zarr_chunks.proofs.UpdateLaws.{update_gives}
use Rattle.zarr_chunks.proofs.updating.with_region.Goals as goal

pub returns-clause-value : goal.returns-clause-value
returns-clause-value c = λ old new was is.
    let kind = kind_of (type_of c.args.data_type.now) in
    let box = box_of c.args.region.now in
    let shape = lengths c.args.shape.now in
    let before = raw_of c.args.whole in
    let bytes = raw_of c.args.bytes.now in
    let same : c.deref.result.now ≡ shape = c.deref.ensures.value ∙ c.in_ok-numbers.ensures in
    let answer = rw same at c.update_owned_array_bytes.ensures.answer in
    let updated = rw same at c.update_owned_array_bytes.ensures.updated in
    let given : meaning kind (length (tuples box)) bytes ≡ Some new =
    ap (λ m. meaning kind m bytes) (length-tuples box) ∙ is in
    update_gives kind (size_seen c.type_size.result) (ends_within box shape) (count_of shape) (length (tuples box))
    before bytes old new
    (λ v. meaning kind (count_of shape) (raw_of v) ≡ Some (with_box shape box new old))
    c.update_owned_array_bytes.result
    (sym c.type_size.ensures) c.requires.inside was given answer
    (updated kind old new (sym c.type_size.ensures) was given)
