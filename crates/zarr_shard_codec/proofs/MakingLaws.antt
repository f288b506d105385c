-- A codec that was made serves what it was made for.
use Rattle.std.proofs.Common.{◌≡◌, true, List, Option, Some, None, sym, ap, subst, bytes_eq}
use Rattle.std.proofs.lemmas.Bool.{and_from}
use Rattle.std.specs.declared.num.NonZeroU64.{NonZeroU64}
use Rattle.zarrs_codec_traits.specs.Prelude.{Element, Extension, fill_bytes, unserved_at, lengths, level_of}
use Rattle.zarr_model.proofs.ElementLaws.{is_same}
use Rattle.zarr_model.proofs.FailureLaws.{bytes_eq-refl}
use Rattle.zarrs_data_type_bytes.specs.declared.fill_value.FillValue.{FillValue}
use Rattle.zarrs_data_type.specs.DataType.{type_of, same_type}
use Rattle.zarrs_data_type.specs.declared.data_type.DataType.{DataType}
use Rattle.zarrs_data_type.proofs.SameTypeLaws.{same_types}
use Rattle.zarr_array_open.proofs.ChunkLaws.{IsMadeFor}
use Rattle.zarr_shard_codec.specs.Fill.{denotes}
use Rattle.zarr_shard_codec.specs.Serving.{is_own_chunk, unserved_unless, shard_unserved}
use Rattle.zarr_shard_codec.specs.ShardCodec.{inner_of, codec_shard_form}
use Rattle.zarr_shard_codec.specs.declared.shard_codec.ShardCodec.{ShardCodec}

pub denotes_fill : (denoted : Option Element) (element : Element) → denoted ≡ Some element →
    denotes denoted element ≡ true
denotes_fill denoted element is = subst (λ o. denotes o element ≡ true) (sym is) (is_same element)

pub made_served : (codec : ShardCodec) (shape : List NonZeroU64) (type : DataType) (fill : FillValue) (e : Extension) →
    IsMadeFor (lengths shape) (type_of type) (fill_bytes fill) e (codec_shard_form codec) →
    fill_bytes codec.fill_value ≡ fill_bytes fill →
    unserved_at (shard_unserved codec) (level_of shape type fill) (fill_bytes fill) ≡ None
made_served codec shape type fill e made same =
    let own = inner_of codec in
    ap unserved_unless (and_from (bytes_eq (fill_bytes codec.fill_value) (fill_bytes fill))
    (is_own_chunk codec (Some (lengths shape)) (Some (type_of type)))
    (subst (λ xs. bytes_eq (fill_bytes codec.fill_value) xs ≡ true) same (bytes_eq-refl (fill_bytes codec.fill_value)))
    (and_from (bytes_eq own.shape (lengths shape)) (same_type own.data_type (type_of type))
    (subst (λ xs. bytes_eq own.shape xs ≡ true) made.shape (bytes_eq-refl own.shape))
    (subst (λ t. same_type own.data_type t ≡ true) made.data_type (same_types own.data_type))))
