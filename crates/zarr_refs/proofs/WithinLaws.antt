-- References that all lie in their bases' values.
use Rattle.std.proofs.Common.{◌≡◌, ◌∙◌, ap, refl, ℕ, ◌+◌, Bool, true, false, ◌&&◌, nat_le, List, [], ◌∷◌, length}
use Rattle.std.proofs.Common.{Option, Some, None, option_map}
use Rattle.std.specs.Prelude.{bytes_eq}
use Rattle.std.specs.List.{list_all}
use Rattle.std.specs.BTreeMap.{BTreeMap}
use Rattle.std.proofs.lemmas.Bool.{and_parts}
use Rattle.zarrs_codec_traits.specs.Prelude.{Content, Shown, SameContent}
use Rattle.zarr_refs.specs.declared.reference.Reference.{Reference}
use Rattle.zarr_refs.specs.declared.reference.RefError.{RefError}
use Rattle.zarr_refs.specs.declared.slices.Slice.{Slice}
use Rattle.zarr_refs.specs.References.{unfit, reference_unfit, value_unfit, or_error}
use Rattle.zarr_refs.specs.Slices.{slice_by, slice_at, slice_named, bytes_part, slice_held, sliced, lies_in, is_bounded}
use Rattle.zarr_refs.specs.Slices.{is_slice_within}

both : (first second : Option RefError) → or_error first second ≡ None → (first ≡ None) × (second ≡ None)
both None second e = (refl, e)
both (Some error) second e = cc

value_lies : (found : Option (List ℕ)) (r : Reference) → value_unfit found r ≡ None → is_bounded (slice_by r) ≡ true →
    lies_in found (slice_by r) ≡ true
value_lies None r e bounded = cc
value_lies (Some value) r e bounded = go (nat_le (r.offset + r.length) (length value)) refl
  where
    go : (b : Bool) → nat_le (r.offset + r.length) (length value) ≡ b → lies_in (Some value) (slice_by r) ≡ true
    go true is = ap (λ (b : Bool). b && is_bounded (slice_by r)) is ∙ bounded
    go false is = let some : value_unfit (Some value) r ≡
        Some (Rattle.zarr_refs.specs.declared.reference.RefError.TheVariants.SliceOutOfBounds r.key) = rw is refl in cc

within_named : (content : Content) (references : List Reference) → unfit content references ≡ None →
    list_all (λ r. is_bounded (slice_by r)) references ≡ true →
    (key : List ℕ) → is_slice_within content (slice_named key references) ≡ true
within_named content [] fit bounded key = refl
within_named content (r ∷ rs) fit bounded key =
    let f = both (reference_unfit content r) (unfit content rs) fit in
    let b = and_parts (is_bounded (slice_by r)) (list_all (λ r. is_bounded (slice_by r)) rs) bounded in
    go (bytes_eq r.key key) refl (value_lies (content r.base) r f.0 b.0) (within_named content rs f.1 b.1 key)
  where
    go : (t : Bool) → bytes_eq r.key key ≡ t → lies_in (content r.base) (slice_by r) ≡ true →
        is_slice_within content (slice_named key rs) ≡ true → is_slice_within content (slice_named key (r ∷ rs)) ≡ true
    go true is here rest = rw is here
    go false is here rest = rw is rest

within_same : (old new : Content) → ((key : List ℕ) → new key ≡ old key) → (found : Option Slice) →
    is_slice_within old found ≡ true → is_slice_within new found ≡ true
within_same old new same None h = refl
within_same old new same (Some s) h = ap (λ value. lies_in value s) (same s.base) ∙ h

held_same : (old new : Content) → ((key : List ℕ) → new key ≡ old key) → (found : Option Slice) →
    slice_held new found ≡ slice_held old found
held_same old new same None = refl
held_same old new same (Some s) = ap (option_map (bytes_part s.offset s.length)) (same s.base)

module _ (old new : Shown) (slices : BTreeMap (List ℕ) Slice) (references : List Reference) where
  pub all_within : ((key : List ℕ) → slice_at slices key ≡ slice_named key references) →
      unfit old.content references ≡ None →
      list_all (λ r. is_bounded (slice_by r)) references ≡ true → SameContent old new →
      (key : List ℕ) → is_slice_within new.content (slice_at slices key) ≡ true
  all_within kept fit bounded same key = within_same old.content new.content same (slice_at slices key)
      (ap (is_slice_within old.content) (kept key) ∙ within_named old.content references fit bounded key)

  pub all_sliced : ((key : List ℕ) → slice_at slices key ≡ slice_named key references) → SameContent old new →
      (key : List ℕ) → slice_held new.content (slice_at slices key) ≡ sliced references old.content key
  all_sliced kept same key =
      held_same old.content new.content same (slice_at slices key) ∙ ap (slice_held old.content) (kept key)
