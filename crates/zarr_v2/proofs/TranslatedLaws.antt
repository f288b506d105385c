-- What a translated document is made of.
use Rattle.std.proofs.Common.{◌≡◌, refl, Bool, true, false, cond, length, Option, Some, None, Ok, Err}
use Rattle.std.specs.Prelude.{◌==◌}
use Rattle.std.proofs.lemmas.Bool.{eqb-true}
use Rattle.serde_json.specs.Data.{Data}
use Rattle.zarrs_metadata.specs.ArrayMetadata.{ArrayFields}
use Rattle.zarrs_metadata_v2.specs.ArrayMetadataV2.{ArrayV2}
use Rattle.zarr_v2.specs.declared.translation_error.V2Error.TheVariants.{RankMismatch, UnsupportedCodec}
use Rattle.zarr_v2.specs.declared.element_type.StoredType.{StoredType}
use Rattle.zarr_v2.specs.ElementType.{stored_type_of}
use Rattle.zarr_v2.specs.Translate.{fill_v2, has_codec, fields_v2, filled_v2, typed_v2, translated}

pub record IsMadeOf (a : ArrayV2) (f : ArrayFields) : Type 0 where
  pub stored : StoredType
  pub typed : stored_type_of a.dtype ≡ Some stored
  pub fill : Data
  pub filled : fill_v2 stored.element a.fill_value ≡ Some fill
  pub ranks : length a.chunks ≡ length a.shape
  pub fields : fields_v2 a stored fill ≡ f

module _ (a : ArrayV2) (f : ArrayFields) where
  plain : (b : Bool) (x : ArrayFields) → cond b (Err UnsupportedCodec) (Ok x) ≡ Ok f → x ≡ f
  plain true x e = cc
  plain false x e = cc

  with_fill : (s : StoredType) (o : Option Data) → length a.chunks ≡ length a.shape → stored_type_of a.dtype ≡ Some s →
      fill_v2 s.element a.fill_value ≡ o → filled_v2 a s o ≡ Ok f → IsMadeOf a f
  with_fill s None ranks typed filled e = cc
  with_fill s (Some fill) ranks typed filled e = record {
    stored = s;
    typed = typed;
    fill = fill;
    filled = filled;
    ranks = ranks;
    fields = plain (has_codec a) (fields_v2 a s fill) e;
  }

  with_type : (o : Option StoredType) → length a.chunks ≡ length a.shape → stored_type_of a.dtype ≡ o →
      typed_v2 a o ≡ Ok f → IsMadeOf a f
  with_type None ranks typed e = cc
  with_type (Some s) ranks typed e = with_fill s (fill_v2 s.element a.fill_value) ranks typed refl e

  pub made_of : translated a ≡ Ok f → IsMadeOf a f
  made_of e = go (length a.chunks == length a.shape) refl e
    where
      go : (b : Bool) → (length a.chunks == length a.shape) ≡ b →
          cond b (typed_v2 a (stored_type_of a.dtype)) (Err RankMismatch) ≡ Ok f → IsMadeOf a f
      go true ranks e = with_type (stored_type_of a.dtype) (eqb-true _ _ ranks) refl e
      go false ranks e = cc
