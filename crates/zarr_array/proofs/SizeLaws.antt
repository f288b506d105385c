-- The elements of an array have bytes where all have the same number.
use Rattle.std.proofs.Common.{◌≡◌, ℕ, ◌<◌, sym, ap, ◌∙◌}
use Rattle.zarrs_codec_traits.specs.Prelude.{DataType, fixed, kind_of, type_of}
use Rattle.zarr_codecs.specs.Views.{plain_of}
use Rattle.zarr_codecs.proofs.SizeLaws.{sized_some}
use Rattle.zarr_array_open.specs.Chain.{chain_form}
use Rattle.zarr_array_open.specs.Parts.{documented_parts}
use Rattle.zarr_array_open.specs.declared.parts.ArrayParts.{ArrayParts}
use Rattle.zarr_array_open.proofs.ServingLaws.{is_served-serves}

pub some_size : (parts : ArrayParts) (type : DataType) (n : ℕ) → type ≡ (documented_parts parts).data_type →
    kind_of type ≡ fixed n → 0 < n
some_size parts type n same is =
    let serves = is_served-serves (chain_form parts.chain) (type_of parts.data_type) parts.served in
    sized_some (plain_of parts.chain.to_bytes) (type_of parts.data_type) n serves.bytes parts.proper
    (ap kind_of (sym same) ∙ is)
