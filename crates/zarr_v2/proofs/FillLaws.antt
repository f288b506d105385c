-- The fill value of a translated document.
use Rattle.std.proofs.Common.{◌≡◌, ◌∙◌, refl, ℕ, List, replicate, Option, Some, None}
use Rattle.serde_json.specs.Data.{Data, null, boolean, number, string, array, object}
use Rattle.zarrs_data_type.specs.FillMetadata.{fill_of}
use Rattle.zarr_v2.specs.declared.element_type.ElementType.{ElementType}
use Rattle.zarr_v2.specs.declared.element_type.ElementType.TheVariants.{Bool as BoolType, Int8, Int16, Int32, Int64}
use Rattle.zarr_v2.specs.declared.element_type.ElementType.TheVariants.{UInt8, UInt16, UInt32, UInt64}
use Rattle.zarr_v2.specs.ElementType.{element_type}
use Rattle.zarr_v2.specs.Translate.{zero_fill, if_denotes, fill_v2}
use Rattle.zarr_v2.specs.Documents.{element_size, fill_bytes_v2}
use Rattle.zarr_v2.proofs.ServedLaws.{some_is}

-- it has the bytes of the document's own
pub record HasFill (e : ElementType) (d fill : Data) : Type 0 where
  pub filler : List ℕ
  pub own : fill_bytes_v2 e d ≡ Some filler
  pub denotes : fill_of (element_type e) fill ≡ Some filler

zero_denotes : (e : ElementType) → fill_of (element_type e) (zero_fill e) ≡ Some (replicate (element_size e) 0)
zero_denotes BoolType = refl
zero_denotes Int8 = refl
zero_denotes Int16 = refl
zero_denotes Int32 = refl
zero_denotes Int64 = refl
zero_denotes UInt8 = refl
zero_denotes UInt16 = refl
zero_denotes UInt32 = refl
zero_denotes UInt64 = refl

-- a value of the type stays as it is
kept : (e : ElementType) (d fill : Data) → fill_bytes_v2 e d ≡ fill_of (element_type e) d →
    if_denotes (fill_of (element_type e) d) d ≡ Some fill → HasFill e d fill
kept e d fill own given = go (fill_of (element_type e) d) refl given
  where
    go : (o : Option (List ℕ)) → fill_of (element_type e) d ≡ o → if_denotes o d ≡ Some fill → HasFill e d fill
    go None is none = cc
    go (Some filler) is some =
        some_is (λ (f : Data). HasFill e d f) d fill some (record { filler = filler; own = own ∙ is; denotes = is })

pub has_fill : (e : ElementType) (d fill : Data) → fill_v2 e d ≡ Some fill → HasFill e d fill
has_fill e null fill given = some_is (λ (f : Data). HasFill e null f) (zero_fill e) fill given
    (record { filler = replicate (element_size e) 0; own = refl; denotes = zero_denotes e })
has_fill e (boolean b) fill given = kept e (boolean b) fill refl given
has_fill e (number n) fill given = kept e (number n) fill refl given
has_fill e (string s) fill given = kept e (string s) fill refl given
has_fill e (array items) fill given = kept e (array items) fill refl given
has_fill e (object ms) fill given = kept e (object ms) fill refl given
