-- Parts of a value.
use Rattle.std.proofs.Common.{◌≡◌, ◌⊎◌, ℕ, suc, ◌+◌, ◌-◌, ◌≤◌, Bool, true, false, nat_le, is_some, if◌then◌else◌, List}
use Rattle.std.proofs.Common.{[], ◌∷◌, length, take, drop, Option, Some, None, refl, sym, ap, ◌∙◌, subst, arith, inl}
use Rattle.std.proofs.Common.{inr}
use Rattle.std.proofs.lemmas.List.{length-take-le, length-drop, take-take, drop-drop, drop-take}
use Rattle.std.proofs.lemmas.Bool.{leb-true, le-leb}
use Rattle.zarrs_storage.specs.declared.byte_range.ByteRange.{ByteRange}
use Rattle.zarrs_storage.specs.declared.byte_range.ByteRange.TheVariants.{FromStart}
use Rattle.zarrs_storage.specs.ByteRange.{is_valid, slice_of, slices_of, first_invalid}
use Rattle.zarrs_storage.specs.ByteRange.{IsFirstInvalid}
use Rattle.zarrs_storage.specs.declared.byte_range.ByteRangeFault.{ByteRangeFault}
use Rattle.zarrs_storage.specs.declared.byte_range.ByteRangeFault.TheVariants as range
use Rattle.zarrs_codec_error.specs.declared.error.CodecError.{CodecError}
use Rattle.zarrs_codec_error.specs.declared.error.CodecError.TheVariants as codec
use Rattle.zarrs_codec_error.specs.CodecError.{codec_of_range}
use Rattle.zarrs_codec_traits.specs.Held.{Held, HasPart, value_part, Seen, IsSoundSeen, in_memory}
use Rattle.zarrs_codec_traits.specs.Reads.{AreParts, AreAbsent, RefusesSome, IsRangeErrorOf}

-- the bytes of a slice of a slice
slice_long : (value : List ℕ) (offset len : ℕ) → offset + len ≤ length value →
    length (take (offset + len - offset) (drop offset value)) ≡ len
slice_long value offset len fits =
    let left : length (drop offset value) ≡ length value - offset = length-drop offset value in
    let size : offset + len - offset ≡ len = omega arith in
    ap (λ (n : ℕ). length (take n (drop offset value))) size
    ∙ length-take-le len (drop offset value) (omega (arith, left))

slice_inner : (value : List ℕ) (offset len from n : ℕ) → from + n ≤ len → take (offset + from + n - (offset + from))
    (drop (offset + from) value) ≡ take n (drop from (take (offset + len - offset) (drop offset value)))
slice_inner value offset len from n within =
    let size : offset + from + n - (offset + from) ≡ n = omega arith in
    let rest : ℕ = len - from in
    let whole : offset + len - offset ≡ from + rest = omega arith in
    let fits : n ≤ rest = omega arith in
    ap (λ (m : ℕ). take m (drop (offset + from) value)) size
    ∙ (ap (take n) (sym (drop-drop from offset value))
    ∙ (sym (take-take n rest (drop from (drop offset value)) fits)
    ∙ (ap (take n) (sym (drop-take from rest (drop offset value)))
    ∙ ap (λ (m : ℕ). take n (drop from (take m (drop offset value)))) (sym whole))))

same_bytes : (b c : List ℕ) → Some (Some b) ≡ Some (Some c) → b ≡ c
same_bytes b c e = cc

pub within_value : (held : Option (List ℕ)) (offset len : ℕ) (bytes : List ℕ) →
    value_part held (FromStart offset (Some len)) ≡ Some (Some bytes) → HasPart (value_part held) offset len bytes
within_value None offset len bytes e = cc
within_value (Some value) offset len bytes e = go (nat_le (offset + len) (length value)) refl e
  where
    go : (b : Bool) → nat_le (offset + len) (length value) ≡ b →
        (if b then Some (Some (take (offset + len - offset) (drop offset value))) else None) ≡ Some (Some bytes) →
        HasPart (value_part (Some value)) offset len bytes
    go false is e = cc
    go true is e =
        let same : take (offset + len - offset) (drop offset value) ≡ bytes = same_bytes _ _ e in
        let fits : offset + len ≤ length value = leb-true _ _ is in
        record {
          long = ap length (sym same) ∙ slice_long value offset len fits;
          inner = λ from n within.
              let inside : offset + from + n ≤ length value = omega arith in
              let valid : nat_le (offset + from + n) (length value) ≡ true = le-leb _ _ inside in
              ap (λ (b : Bool). if b then Some
              (Some (take (offset + from + n - (offset + from)) (drop (offset + from) value))) else None) valid
              ∙ ap (λ (bytes : List ℕ). Some (Some bytes))
              (slice_inner value offset len from n within ∙ ap (λ (b : List ℕ). take n (drop from b)) same);
        }

pub value_there : (held : Option (List ℕ)) (range : ByteRange) (value : Option (List ℕ)) →
    value_part held range ≡ Some value → is_some value ≡ is_some held
value_there None range value e = let same : value ≡ None = cc in ap is_some same
value_there (Some bytes) range value e = go (is_valid range (length bytes)) e
  where
    go : (b : Bool) → (if b then Some (Some (slice_of range bytes)) else None) ≡ Some value → is_some value ≡ true
    go true e = let same : value ≡ Some (slice_of range bytes) = cc in ap is_some same
    go false e = cc

same_value : (a b : Option (List ℕ)) → Some a ≡ Some b → a ≡ b
same_value a b e = cc

-- what is read of a value in memory, or of a store, belongs together
module _ (seen : Seen) (value : Option (List ℕ)) (there : seen.there ≡ is_some value) (held : (under : _) → seen.held
    under ≡ Some value) (part : (under : _) (range : ByteRange) → seen.part under range ≡ value_part value range) where
  pub sound_by : IsSoundSeen seen
  sound_by = record {
    whole = λ under v range is. part under range
        ∙ ap (λ (o : Option (List ℕ)). value_part o range) (same_value value (Some v) (sym (held under) ∙ is));
    within = λ under offset len bytes is.
        let got : HasPart (value_part value) offset len bytes =
        within_value value offset len bytes (sym (part under (FromStart offset (Some len))) ∙ is) in
        record {
          long = got.long;
          inner = λ from n within. part under (FromStart (offset + from) (Some n)) ∙ got.inner from n within;
        };
    all_there = λ under v is. ap is_some (same_value v value (sym is ∙ held under)) ∙ sym there;
    part_there = λ under range v is. value_there value range v (sym (part under range) ∙ is) ∙ sym there;
  }

pub sound_memory : (value : Option (List ℕ)) → IsSoundSeen (in_memory value)
sound_memory value = sound_by (in_memory value) value refl (λ under. refl) (λ under range. refl)

-- slices of valid ranges are the parts, and a range that is not valid is refused
slices_of_valid : (value : List ℕ) (ranges : List ByteRange) → first_invalid (length value) ranges ≡ None →
    AreParts (value_part (Some value)) ranges (slices_of ranges value)
slices_of_valid value [] e = refl
slices_of_valid value (range ∷ ranges) e = go (is_valid range (length value)) refl (slices_of_valid value ranges) e
  where
    go : (b : Bool) → is_valid range (length value) ≡ b → (first_invalid (length value) ranges ≡ None →
        AreParts (value_part (Some value)) ranges (slices_of ranges value))
        → (if b then first_invalid (length value) ranges else Some range) ≡ None →
        AreParts (value_part (Some value)) (range ∷ ranges) (slices_of (range ∷ ranges) value)
    go true is rest e = (ap (λ (b : Bool). if b then Some (Some (slice_of range value)) else None) is, rest e)
    go false is rest e = cc

pub slices_given : (value : List ℕ) (ranges : List ByteRange) (parts : List (List ℕ)) → first_invalid (length value)
    ranges ≡ None → parts ≡ slices_of ranges value → AreParts (value_part (Some value)) ranges parts
slices_given value ranges parts valid same = subst (λ (p : List (List ℕ)). AreParts (value_part (Some value)) ranges p)
    (sym same) (slices_of_valid value ranges valid)

pub first_refused : (value : List ℕ) (ranges : List ByteRange) (range : ByteRange) →
    first_invalid (length value) ranges ≡ Some range → RefusesSome (value_part (Some value)) ranges
first_refused value [] range e = cc
first_refused value (first ∷ ranges) range e =
    go (is_valid first (length value)) refl (first_refused value ranges range) e
  where
    go : (b : Bool) → is_valid first (length value) ≡ b →
        (first_invalid (length value) ranges ≡ Some range → RefusesSome (value_part (Some value)) ranges)
        → (if b then first_invalid (length value) ranges else Some first) ≡ Some range →
        RefusesSome (value_part (Some value)) (first ∷ ranges)
    go true is rest e = inr (rest e)
    go false is rest e = inl (ap (λ (b : Bool). if b then Some (Some (slice_of first value)) else None) is)

-- the error of a range
pub fault_told : (value : List ℕ) (ranges : List ByteRange) (fault : ByteRangeFault) (e : CodecError) →
    IsFirstInvalid (first_invalid (length value) ranges) (length value) fault → e ≡ codec_of_range fault
    → (e ≡ codec.OutOfMemory) ⊎ (RefusesSome (value_part (Some value)) ranges × IsRangeErrorOf ranges (length value) e)
fault_told value ranges (range.Invalid error) e first is =
    inr (first_refused value ranges error.range first.0, subst (IsRangeErrorOf ranges (length value)) (sym is) first)
fault_told value ranges range.OutOfMemory e first is = inl is

pub none_absent : (ranges : List ByteRange) → AreAbsent (value_part None) ranges
none_absent [] = tt
none_absent (range ∷ ranges) = (refl, none_absent ranges)

pub as_many : (part : ByteRange → Held) (ranges : List ByteRange) (parts : List (List ℕ)) → AreParts part ranges parts →
    length parts ≡ length ranges
as_many part [] parts e = ap length e
as_many part (range ∷ ranges) [] e = absurd e
as_many part (range ∷ ranges) (bytes ∷ parts) e = ap suc (as_many part ranges parts e.1)
