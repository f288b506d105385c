-- Which errors are no faults of a store.
use Rattle.std.proofs.Common.{◌≡◌, ◌⊎◌, ℕ, Bool, true, false, Option, Some, None, Result, Ok, Err, IfErr, MatchResult}
use Rattle.std.proofs.Common.{refl, sym, ap, ◌∙◌, ⊎_elim}
use Rattle.zarrs_codec_traits.specs.Prelude.{Kind, ArrayBytes}
use Rattle.zarr_model.specs.Command as model
use Rattle.zarrs_storage.specs.declared.store.StorageError.{StorageError}
use Rattle.zarrs_codec_error.specs.declared.error.CodecError.{CodecError}
use Rattle.zarrs_codec_error.specs.declared.error.CodecError.TheVariants as codec
use Rattle.zarrs_codec_array_bytes.specs.Refusals.{BytesAnswer, fine, refused, wrong_length, unfit, other_fill}
use Rattle.zarrs_codec_array_bytes.specs.Refusals.{no_memory, odd, told_by, sized_answer, validity}
use Rattle.zarrs_codec_array_bytes.specs.Refusals.{kind_refusal, then_answer, first_answer, extract_answer}
use Rattle.zarrs_codec_array_bytes.specs.Refusals.{Answers}
use Rattle.zarrs_codec_traits.specs.Errors.{Unserved, unsupported, endianness_missing, unserved_error, IsNoFault}
use Rattle.zarrs_codec_traits.specs.Errors.{RefusesBy, IsDecodeError, FillAnswers, IsFormRefusal}

-- a refusal that a call tells, or that nothing is refused
abbrev pub is_known : BytesAnswer → Bool
is_known odd = false
is_known fine = true
is_known (refused why) = true
is_known (wrong_length len expected) = true
is_known unfit = true
is_known other_fill = true
is_known no_memory = true

pub memory_no_fault : (e : CodecError) → e ≡ codec.OutOfMemory → IsNoFault e
memory_no_fault e is = record { unlike = λ fault same. other fault (sym is ∙ same) }
  where
    other : (fault : StorageError) → codec.OutOfMemory ≡ codec.StorageError fault → ⊥
    other fault same = cc

pub told_no_fault : (e : CodecError) (wanted : BytesAnswer) → is_known wanted ≡ true → told_by e ≡ wanted → IsNoFault e
told_no_fault e wanted known told =
    record { unlike = λ fault same. other (ap is_known (sym (ap told_by same) ∙ told) ∙ known) }
  where
    other : false ≡ true → ⊥
    other same = cc

unserved_no_fault : (e : CodecError) (why : Unserved) → e ≡ unserved_error why → IsNoFault e
unserved_no_fault e (unsupported name) is = record { unlike = λ fault same. other fault (sym is ∙ same) }
  where
    other : (fault : StorageError) → unserved_error (unsupported name) ≡ codec.StorageError fault → ⊥
    other fault same = cc
unserved_no_fault e endianness_missing is = record { unlike = λ fault same. other fault (sym is ∙ same) }
  where
    other : (fault : StorageError) → codec.EndiannessMissing ≡ codec.StorageError fault → ⊥
    other fault same = cc

answer_no_fault : (e : CodecError) (wanted : BytesAnswer) → is_known wanted ≡ true →
    (e ≡ codec.OutOfMemory) ⊎ (told_by e ≡ wanted) → IsNoFault e
answer_no_fault e wanted known told = ⊎_elim (λ (m : e ≡ codec.OutOfMemory). memory_no_fault e m)
    (λ (t : told_by e ≡ wanted). told_no_fault e wanted known t) told

pub answers_no_fault : {T : Type 0} (r : Result T CodecError) (wanted : BytesAnswer) → is_known wanted ≡ true →
    Answers wanted r → IfErr r IsNoFault
answers_no_fault (Ok v) wanted known answers = tt
answers_no_fault (Err e) wanted known answers = answer_no_fault e wanted known answers

-- a call that is refused where something is not served, and else answers so
pub served_no_fault : {T : Type 0} (unserved : Option Unserved) (r : Result T CodecError) → RefusesBy unserved r →
    (unserved ≡ None → IfErr r IsNoFault) → IfErr r IsNoFault
served_no_fault unserved (Ok v) refuses given = tt
served_no_fault None (Err e) refuses given = given refl
served_no_fault (Some why) (Err e) refuses given = ⊎_elim (λ (m : e ≡ codec.OutOfMemory). memory_no_fault e m)
    (λ (w : e ≡ unserved_error why). unserved_no_fault e why w) refuses

decode_no_fault : {A : Type 0} (wanted : Option A) (says : CodecError → Type 0) (e : CodecError) →
    ((e : CodecError) → says e → IsNoFault e) → IsDecodeError wanted says e → IsNoFault e
decode_no_fault wanted says e law told =
    ⊎_elim (λ (m : e ≡ codec.OutOfMemory). memory_no_fault e m) (λ (s : (wanted ≡ None) × says e). law e s.1) told

pub decoded_no_fault :
    {T A : Type 0} (P : T → Type 0) (wanted : Option A) (says : CodecError → Type 0) (r : Result T CodecError) →
    ((e : CodecError) → says e → IsNoFault e) → MatchResult r P (IsDecodeError wanted says) → IfErr r IsNoFault
decoded_no_fault P wanted says (Ok v) law told = tt
decoded_no_fault P wanted says (Err e) law told = decode_no_fault wanted says e law told

pub fill_no_fault : {T : Type 0} (b : Bool) (r : Result T CodecError) → FillAnswers b r → IfErr r IsNoFault
fill_no_fault true (Ok v) answers = tt
fill_no_fault false (Ok v) answers = tt
fill_no_fault true (Err e) answers = answer_no_fault e (refused model.expected_fixed_length_bytes) refl answers
fill_no_fault false (Err e) answers = answer_no_fault e other_fill refl answers

-- what calls on array bytes tell
pub known_sized : (len expected : ℕ) (why : Option model.Refusal) → is_known (sized_answer len expected why) ≡ true
known_sized len expected None = refl
known_sized len expected (Some model.incompatible_dimensionality) = refl
known_sized len expected (Some model.subset_out_of_bounds) = refl
known_sized len expected (Some model.region_too_large) = refl
known_sized len expected (Some model.expected_fixed_length_bytes) = refl
known_sized len expected (Some model.expected_variable_length_bytes) = refl
known_sized len expected (Some model.expected_optional_bytes) = refl
known_sized len expected (Some model.invalid_mask) = refl
known_sized len expected (Some model.unexpected_chunk_decoded_size) = refl
known_sized len expected (Some model.invalid_variable_sized_array_offsets) = refl
known_sized len expected (Some model.element_too_long) = refl

pub known_validity : (kind : Kind) (number : ℕ) (value : ArrayBytes) → is_known (validity kind number value) ≡ true
known_validity kind number value = known_sized _ _ (model.bytes_refusal kind number value)

pub known_then : (first next : BytesAnswer) → is_known first ≡ true → is_known next ≡ true →
    is_known (then_answer first next) ≡ true
known_then fine next a b = b
known_then (refused why) next a b = refl
known_then (wrong_length len expected) next a b = refl
known_then unfit next a b = refl
known_then other_fill next a b = refl
known_then no_memory next a b = refl
known_then odd next a b = cc

pub known_first : (why : Option model.Refusal) (fits : Bool) (next : BytesAnswer) → is_known next ≡ true →
    is_known (first_answer why fits next) ≡ true
known_first (Some why) fits next known = refl
known_first None false next known = refl
known_first None true next known = known

pub known_extract : (kind : Kind) (fits : Bool) (number : ℕ) (value : ArrayBytes) →
    is_known (extract_answer kind fits number value) ≡ true
known_extract kind fits number value = known_first (kind_refusal kind value) fits _ (known_sized _ _ _)

pub known_form : (told : BytesAnswer) → IsFormRefusal told → is_known told ≡ true
known_form told is = ⊎_elim (λ (f : told ≡ fine). ap is_known f)
    (λ (r : told ≡ refused model.invalid_variable_sized_array_offsets). ap is_known r) is
