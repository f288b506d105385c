-- The codecs of a translated document serve its data type.
use Rattle.std.proofs.Common.{◌≡◌, ◌⊎◌, ◌∙◌, ap, refl, subst, ℕ, Bool, true, false, cond, List, [], ◌∷◌, Option, Some}
use Rattle.std.proofs.Common.{None, Ok, Result, inl, inr, ⊎_elim}
use Rattle.std.specs.Prelude.{◌==◌}
use Rattle.zarr_model.specs.Element.{DataType}
use Rattle.zarr_model.specs.declared.endianness.Endianness.{Endianness}
use Rattle.zarr_model.specs.declared.endianness.Endianness.TheVariants.{Little, Big}
use Rattle.zarrs_metadata_parts.specs.DataTypeV2.{DataTypeV2, simple, structured}
use Rattle.zarrs_metadata_v2.specs.declared.array.order.ArrayMetadataV2Order.{ArrayMetadataV2Order}
use Rattle.zarrs_metadata_v2.specs.declared.array.order.ArrayMetadataV2Order.TheVariants.{C, F}
use Rattle.zarr_codecs.specs.Plain.{plain_bytes}
use Rattle.zarr_array_open.specs.Opening.{OpenRefusal, expect_chain, expect_bytes, bottom_type}
use Rattle.zarr_array_open.specs.Opening as opening
use Rattle.zarr_v2.specs.declared.element_type.ElementType.{ElementType}
use Rattle.zarr_v2.specs.declared.element_type.ElementType.TheVariants.{Bool as BoolType, Int8, Int16, Int32, Int64}
use Rattle.zarr_v2.specs.declared.element_type.ElementType.TheVariants.{UInt8, UInt16, UInt32, UInt64}
use Rattle.zarr_v2.specs.declared.element_type.StoredType.{StoredType}
use Rattle.zarr_v2.specs.ElementType.{element_type, lettered, ordered_type, marked, marked_if, element_of_text}
use Rattle.zarr_v2.specs.ElementType.{stored_type_of}
use Rattle.zarr_v2.specs.Documents.{turning, chain_v2}

abbrev IsServed : StoredType → Type 0
IsServed s = expect_bytes (plain_bytes s.order) (element_type s.element) ≡ Ok tt

pub some_is : {A : Type 0} (P : A → Type 0) (x y : A) → Some x ≡ Some y → P x → P y
some_is P x y e p = let is : x ≡ y = cc in subst P is p

ordered_served : (e : ElementType) (mark : Option Endianness) (s : StoredType) → ordered_type e mark ≡ Some s →
    IsServed s
ordered_served BoolType mark s is = some_is IsServed _ s is refl
ordered_served Int8 mark s is = some_is IsServed _ s is refl
ordered_served UInt8 mark s is = some_is IsServed _ s is refl
ordered_served Int16 None s is = cc
ordered_served Int16 (Some Little) s is = some_is IsServed _ s is refl
ordered_served Int16 (Some Big) s is = some_is IsServed _ s is refl
ordered_served Int32 None s is = cc
ordered_served Int32 (Some Little) s is = some_is IsServed _ s is refl
ordered_served Int32 (Some Big) s is = some_is IsServed _ s is refl
ordered_served Int64 None s is = cc
ordered_served Int64 (Some Little) s is = some_is IsServed _ s is refl
ordered_served Int64 (Some Big) s is = some_is IsServed _ s is refl
ordered_served UInt16 None s is = cc
ordered_served UInt16 (Some Little) s is = some_is IsServed _ s is refl
ordered_served UInt16 (Some Big) s is = some_is IsServed _ s is refl
ordered_served UInt32 None s is = cc
ordered_served UInt32 (Some Little) s is = some_is IsServed _ s is refl
ordered_served UInt32 (Some Big) s is = some_is IsServed _ s is refl
ordered_served UInt64 None s is = cc
ordered_served UInt64 (Some Little) s is = some_is IsServed _ s is refl
ordered_served UInt64 (Some Big) s is = some_is IsServed _ s is refl

either : (b : Bool) (x y : Option StoredType) (s : StoredType) → cond b x y ≡ Some s → (x ≡ Some s) ⊎ (y ≡ Some s)
either true x y s is = inl is
either false x y s is = inr is

marked_served : (mark : ℕ) (e : ElementType) (s : StoredType) → marked mark e ≡ Some s → IsServed s
marked_served mark e s is =
    let big = cond (mark == 62) (ordered_type e (Some Big)) None in
    let several = cond (mark == 60) (ordered_type e (Some Little)) big in
    ⊎_elim (λ (one : ordered_type e None ≡ Some s). ordered_served e None s one)
    (λ (rest : several ≡ Some s).
    ⊎_elim (λ (low : ordered_type e (Some Little) ≡ Some s). ordered_served e (Some Little) s low)
    (λ (more : big ≡ Some s).
    ⊎_elim (λ (high : ordered_type e (Some Big) ≡ Some s). ordered_served e (Some Big) s high)
    (λ (none : None ≡ Some s). let f : IsServed s = cc in f)
    (either (mark == 62) (ordered_type e (Some Big)) None s more))
    (either (mark == 60) (ordered_type e (Some Little)) big s rest))
    (either (mark == 124) (ordered_type e None) several s is)

text_served : (text : List ℕ) (s : StoredType) → element_of_text text ≡ Some s → IsServed s
text_served [] s is = cc
text_served (mark ∷ []) s is = cc
text_served (mark ∷ (letter ∷ [])) s is = cc
text_served (mark ∷ (letter ∷ (digit ∷ []))) s is = go (lettered letter digit) is
  where
    go : (o : Option ElementType) → marked_if mark o ≡ Some s → IsServed s
    go None none = cc
    go (Some e) some = marked_served mark e s some
text_served (mark ∷ (letter ∷ (digit ∷ (more ∷ rest)))) s is = cc

type_served : (d : DataTypeV2) (s : StoredType) → stored_type_of d ≡ Some s → IsServed s
type_served (simple text) s is = text_served text s is
type_served (structured fields) s is = cc

same_bottom : (order : ArrayMetadataV2Order) (rank : ℕ) (type : DataType) →
    bottom_type (turning order rank) type ≡ Ok type
same_bottom C rank type = refl
same_bottom F rank type = refl

pub chain_served : (order : ArrayMetadataV2Order) (rank : ℕ) (d : DataTypeV2) (s : StoredType) →
    stored_type_of d ≡ Some s → expect_chain (chain_v2 order rank s.order) (element_type s.element) ≡ Ok tt
chain_served order rank d s is =
    ap (λ (r : Result DataType OpenRefusal). opening.◌>>=◌ r (expect_bytes (plain_bytes s.order)))
    (same_bottom order rank (element_type s.element)) ∙ type_served d s is
