use Rattle.std.proofs.Common.{◌≡◌, Some, subst}
use Rattle.zarrs_codec_traits.specs.Prelude.{count_of, kind_of, fill_element, fill_bytes, raw_of}
use Rattle.zarr_model.proofs.BytesLaws.{length-meaning}
use Rattle.zarr_array_open.specs.Parts.{documented_parts}
use Rattle.zarr_array_open.specs.declared.parts.ArrayParts.{ArrayParts}
use Rattle.zarr_chunks.proofs.PutLaws.{blank_is}
use Rattle.zarr_shard_codec.specs.ShardCodec.{own_level}
use Rattle.zarr_shard.proofs.access.is_blank.Goals as goal

pub returns : goal.returns
returns c = λ list means.
    let codec = c.args.codec.now in
    let level = own_level codec in
    let kind = kind_of level.data_type in
    let number = count_of level.shape in
    let denotes : fill_element kind (fill_bytes c.fill_value.result.now) ≡ Some level.fill =
    subst (λ (inner : ArrayParts). fill_element (kind_of (documented_parts inner).data_type) (fill_bytes
    c.fill_value.result.now) ≡ Some (documented_parts inner).fill) c.inner.ensures c.fill_value.ensures.element in
    blank_is c.is_fill_value.result number level.fill list
    (length-meaning kind number (raw_of c.args.elements.now) list means)
    (c.is_fill_value.ensures.elements kind number list level.fill means codec.some denotes)
