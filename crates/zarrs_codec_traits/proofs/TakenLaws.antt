-- The elements of a region, taken out of those of the whole.
use Rattle.std.proofs.Common.{◌≡◌, true, ℕ, List, [], ◌∷◌, length, Option, Some, None, IsSome, Result, Ok, Err, IfOk}
use Rattle.std.proofs.Common.{IfErr, MatchResult, refl, sym, ap, ◌∙◌, subst, inl, inr}
use Rattle.std.proofs.lemmas.Simd.{map-map}
use Rattle.zarrs_codec_traits.specs.Prelude.{Region, count_of, sizes, ends_within, tuples, linear_index, ArrayBytes}
use Rattle.zarrs_codec_traits.specs.Prelude.{meaning, picked, linear, Answers, extract_answer, IsDecodeError, select}
use Rattle.zarrs_codec_traits.specs.Prelude.{Level, Gives, DecodesParts, list_at, at_box, raw_of}
use Rattle.zarr_model.specs.Element.{Element, null, Kind}
use Rattle.zarr_model.proofs.RegionLaws.{length-tuples}
use Rattle.zarrs_codec_error.specs.declared.error.CodecError.{CodecError}
use Rattle.zarrs_codec_error.specs.declared.error.CodecError.TheVariants as codec
use Rattle.zarrs_codec_array_bytes.specs.declared.array_bytes.ArrayBytes as code
use Rattle.zarrs_codec_array_bytes.proofs.ExtractLaws.{extract_told}

-- the elements of a region, out of those of the whole
pub taken_out : {T : Type 0} (seen : T → ArrayBytes) (kind : Kind) (shape : List ℕ)
    (box : Region) (old : ArrayBytes) (xs : List Element) (r : Result T CodecError) →
    ends_within box shape ≡ true → Answers (extract_answer kind (ends_within box shape) (count_of shape) old) r →
    ((ys : List Element) → meaning kind (count_of shape) old ≡ Some ys →
    IfOk r (λ v. meaning kind (length (tuples box)) (seen v) ≡ Some (picked null (linear shape (tuples box)) ys))) →
    meaning kind (count_of shape) old ≡ Some xs → MatchResult r
    (λ v. meaning kind (count_of (sizes box)) (seen v) ≡ Some (select shape box xs)) (λ e. e ≡ codec.OutOfMemory)
taken_out seen kind shape box old xs (Ok v) inside answers chosen e =
    subst (λ (n : ℕ). meaning kind n (seen v) ≡ Some (picked null (linear shape (tuples box)) xs)) (length-tuples box)
    (chosen xs e)
    ∙ ap Some (map-map _ (linear_index shape) (tuples box))
taken_out seen kind shape box old xs (Err why) inside answers chosen e =
    extract_told kind (ends_within box shape) (count_of shape) old xs why inside e answers

-- what is taken out of valid array bytes is valid, and fails for want of memory alone
pub taken_valid : {T : Type 0} (r : Result T CodecError) (o : Option (List Element)) (seen : T → Option (List Element))
    (chosen : List Element → List Element) (Q : CodecError → Type 0) → IsSome o →
    ((xs : List Element) → o ≡ Some xs → MatchResult r (λ v. seen v ≡ Some (chosen xs)) Q) →
    IfOk r (λ v. IsSome (seen v))
taken_valid r None seen chosen Q there gives = cc
taken_valid (Ok v) (Some xs) seen chosen Q there gives =
    subst (λ (o : Option (List Element)). IsSome o) (sym (gives xs refl)) refl
taken_valid (Err e) (Some xs) seen chosen Q there gives = tt

pub taken_error : {T : Type 0} (r : Result T CodecError) (o : Option (List Element)) (seen : T → Option (List Element))
    (chosen : List Element → List Element) (wanted : Option (List Element)) (says : CodecError → Type 0) → IsSome o →
    ((xs : List Element) → o ≡ Some xs → MatchResult r (λ v. seen v ≡ Some (chosen xs)) (λ e. e ≡ codec.OutOfMemory)) →
    IfErr r (IsDecodeError wanted says)
taken_error r None seen chosen wanted says there gives = cc
taken_error (Ok v) (Some xs) seen chosen wanted says there gives = tt
taken_error (Err e) (Some xs) seen chosen wanted says there gives = inl (gives xs refl)

pub taken_some : {T : Type 0} (r : Result T CodecError) (o wanted : Option (List Element)) → IsSome o → o ≡ wanted →
    IfOk r (λ _. IsSome wanted)
taken_some (Ok v) o wanted there same = subst (λ (w : Option (List Element)). IsSome w) same there
taken_some (Err e) o wanted there same = tt

pub same_part : (value other : List ℕ) → value ∷ [] ≡ other ∷ [] → value ≡ other
same_part value other e = cc

-- the elements of a region, taken out of a value that was decoded whole
pub whole_taken : (decode : List ℕ → Option (List Element)) (says : List ℕ → CodecError → Type 0) (level : Level)
    (box : Region) (value : List ℕ) (parts : List (List ℕ)) (o : Option (List Element))
    (result : Result code.ArrayBytes CodecError) → parts ≡ value ∷ [] → Gives o (decode value) →
    ((xs : List Element) → o ≡ Some xs → MatchResult result (λ v. list_at (at_box box level) (raw_of v) ≡
    Some (select level.shape box xs)) (λ e. e ≡ codec.OutOfMemory)) →
    DecodesParts None decode says level box parts result
whole_taken decode says level box value parts o result are gives taken = record {
  lengths = tt;
  value = λ other xs is e. taken xs (gives.same ∙ (ap decode (same_part value other (sym are ∙ is)) ∙ e));
  cause = λ other is fits. taken_error result o _ _ (decode other) (says other) gives.there taken;
  valid = taken_valid result o _ _ _ gives.there taken;
  decodes = λ other none is. taken_some result o (decode other) gives.there
      (gives.same ∙ ap decode (same_part value other (sym are ∙ is)));
}

-- and where it does not decode
only_starved : (wanted : Option (List Element)) (says : CodecError → Type 0) (e : CodecError) (xs : List Element) →
    IsDecodeError wanted says e → wanted ≡ Some xs → e ≡ codec.OutOfMemory
only_starved wanted says e xs (inl starved) some = starved
only_starved wanted says e xs (inr told) some = cc told.0

pub whole_refused : (decode : List ℕ → Option (List Element)) (says : List ℕ → CodecError → Type 0) (level : Level)
    (box : Region) (value : List ℕ) (parts : List (List ℕ)) (e : CodecError) → parts ≡ value ∷ [] →
    IsDecodeError (decode value) (says value) e → DecodesParts None decode says level box parts (Err e)
whole_refused decode says level box value parts e are told = record {
  lengths = tt;
  value = λ other xs is some. only_starved (decode value) (says value) e xs told
      (ap decode (same_part value other (sym are ∙ is)) ∙ some);
  cause = λ other is fits. subst (λ (v : List ℕ). IsDecodeError (decode v) (says v) e)
      (same_part value other (sym are ∙ is)) told;
  valid = tt;
  decodes = λ other none is. tt;
}

-- nothing is asked for
pub nothing_asked : {A : Type 0} {x : A} → None ≡ Some x → ⊥
nothing_asked e = cc
