-- A fault is told only where what is below failed.
use Rattle.std.proofs.Common.{◌≡◌, ◌⊎◌, ℕ, zero, suc, ◌≤◌, ◌==◌, ◌*◌, if◌then◌else◌, Bool, true, false, List, [], ◌∷◌}
use Rattle.std.proofs.Common.{length, None, Result, Ok, Err, IfErr, refl, sym, ◌∙◌, ⊎_elim}
use Rattle.zarrs_codec_traits.specs.Prelude.{ArrayBytes, fixed_bytes, variable_bytes, optional_bytes, count}
use Rattle.zarrs_codec_traits.specs.Prelude.{region as box_of, fine, wrong_length, told, IsNoFault, Held, IsFailedRead}
use Rattle.zarrs_codec_traits.specs.Prelude.{IsHandleError, IsReadError, IsPartError, RefusesSome}
use Rattle.zarrs_storage.specs.declared.byte_range.ByteRange.{ByteRange}
use Rattle.zarrs_storage.specs.declared.store.StorageError.{StorageError}
use Rattle.zarrs_codec_error.specs.declared.error.CodecError.{CodecError}
use Rattle.zarrs_codec_error.specs.declared.error.CodecError.TheVariants as codec
use Rattle.zarrs_codec_array_bytes_parts.specs.Targets.{kinds_answer, view_answer, sizes_answer, target_answer}
use Rattle.zarrs_codec_array_bytes_parts.specs.declared.array_bytes_fixed_disjoint_view.ArrayBytesFixedDisjointView.{
  ArrayBytesFixedDisjointView,
}
use Rattle.zarrs_codec_traits.proofs.FaultLaws.{is_known, memory_no_fault, told_no_fault, known_then}
use Rattle.zarrs_codec_traits.proofs.EditLaws.{rose_later}
use Rattle.zarrs_codec.specs.Lists.{TellsFault}

pub no_fault : (before now : ℕ) (e : CodecError) → IsNoFault e → TellsFault before now e
no_fault before now e own = record { rose = λ fault is. absurd (own.unlike fault is) }

pub no_faults : {T : Type 0} (before now : ℕ) (r : Result T CodecError) → IfErr r IsNoFault →
    IfErr r (TellsFault before now)
no_faults before now (Ok v) own = tt
no_faults before now (Err e) own = no_fault before now e own

pub fault_of : (before now : ℕ) (e : CodecError) → IsFailedRead before now e → TellsFault before now e
fault_of before now e told = record { rose = λ fault is. told.1 }

pub handle_fault : (before now : ℕ) (e : CodecError) → IsHandleError before now e → TellsFault before now e
handle_fault before now e told = ⊎_elim (λ (m : e ≡ codec.OutOfMemory). no_fault before now e (memory_no_fault e m))
    (λ (f : IsFailedRead before now e). fault_of before now e f) told

pub handle_faults : {T : Type 0} (before now : ℕ) (r : Result T CodecError) → IfErr r (IsHandleError before now) →
    IfErr r (TellsFault before now)
handle_faults before now (Ok v) told = tt
handle_faults before now (Err e) told = handle_fault before now e told

pub own_faults : {T : Type 0} (before now : ℕ) (r : Result T CodecError) → IfErr r (IsFailedRead before now) →
    IfErr r (TellsFault before now)
own_faults before now (Ok v) told = tt
own_faults before now (Err e) told = fault_of before now e told

pub read_fault : (held : Held) (tells : CodecError → Type 0) (before now : ℕ) (e : CodecError) →
    ((e : CodecError) → tells e → IsNoFault e) → IsReadError held tells before now e → TellsFault before now e
read_fault held tells before now e law told =
    ⊎_elim (λ (h : IsHandleError before now e). handle_fault before now e h)
    (λ (t : (held ≡ None) × tells e). no_fault before now e (law e t.1)) told

pub part_fault : (part : ByteRange → Held) (ranges : List ByteRange) (tells : CodecError → Type 0)
    (before now : ℕ) (e : CodecError) → ((e : CodecError) → tells e → IsNoFault e) →
    IsPartError part ranges tells before now e → TellsFault before now e
part_fault part ranges tells before now e law told =
    ⊎_elim (λ (h : IsHandleError before now e). handle_fault before now e h)
    (λ (t : RefusesSome part ranges × tells e). no_fault before now e (law e t.1)) told

pub fault_after : (first before now : ℕ) (e : CodecError) → first ≤ before → TellsFault before now e →
    TellsFault first now e
fault_after first before now e later told =
    record { rose = λ fault is. rose_later first before now later (told.rose fault is) }

pub faults_after : {T : Type 0} (first before now : ℕ) (r : Result T CodecError) → first ≤ before →
    IfErr r (TellsFault before now) → IfErr r (TellsFault first now)
faults_after first before now (Ok v) later told = tt
faults_after first before now (Err e) later told = fault_after first before now e later told

-- what a target answers is no fault
known_kinds : (num_masks : ℕ) (bytes : ArrayBytes) → is_known (kinds_answer num_masks bytes) ≡ true
known_kinds num_masks (variable_bytes value offsets) = refl
known_kinds zero (fixed_bytes value) = refl
known_kinds zero (optional_bytes under mask) = refl
known_kinds (suc num_masks) (fixed_bytes value) = refl
known_kinds (suc num_masks) (optional_bytes under mask) = known_kinds num_masks under

known_view : (len : ℕ) (view : ArrayBytesFixedDisjointView) → is_known (view_answer len view) ≡ true
known_view len view =
    go (length view.bytes.now == view.part.array_len) (len == count (box_of view.part.subset) * view.part.size)
  where
    go : (a b : Bool) → is_known (if a then (if b then fine else wrong_length len (count (box_of view.part.subset)
        * view.part.size)) else wrong_length (length view.bytes.now) view.part.array_len) ≡ true
    go true true = refl
    go true false = refl
    go false b = refl

known_sizes : (bytes : ArrayBytes) (views : List ArrayBytesFixedDisjointView) (inner : ArrayBytesFixedDisjointView) →
    is_known (sizes_answer bytes views inner) ≡ true
known_sizes (fixed_bytes value) views inner = known_view (length value) inner
known_sizes (variable_bytes value offsets) views inner = refl
known_sizes (optional_bytes under mask) [] inner = refl
known_sizes (optional_bytes under mask) (view ∷ views) inner =
    known_then _ _ (known_view (length mask) view) (known_sizes under views inner)

pub target_no_fault : {T : Type 0} (r : Result T CodecError)
    (bytes : ArrayBytes) (views : List ArrayBytesFixedDisjointView) (inner : ArrayBytesFixedDisjointView) →
    told r ≡ target_answer bytes views inner → IfErr r IsNoFault
target_no_fault (Ok v) bytes views inner same = tt
target_no_fault (Err e) bytes views inner same =
    told_no_fault e _ (known_then _ _ (known_kinds (length views) bytes) (known_sizes bytes views inner)) same

-- nor is another number of elements
pub count_no_fault : (num expected : ℕ) (e : CodecError) → (e ≡ codec.OutOfMemory) ⊎
    (e ≡ codec.InvalidNumberOfElements (record { num = num; expected = expected })) → IsNoFault e
count_no_fault num expected e refuses =
    ⊎_elim (λ (m : e ≡ codec.OutOfMemory). memory_no_fault e m)
    (λ (t : e ≡ codec.InvalidNumberOfElements (record { num = num; expected = expected })). let n : IsNoFault e =
    record { unlike = λ fault is. other fault (sym t ∙ is) } in n) refuses
  where
    other : (fault : StorageError) →
        codec.InvalidNumberOfElements (record { num = num; expected = expected }) ≡ codec.StorageError fault → ⊥
    other fault same = cc
