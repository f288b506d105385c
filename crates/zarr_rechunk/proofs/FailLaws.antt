-- Why a band is not moved.
use Rattle.std.proofs.Common.{◌≡◌, ℕ, zero, suc, List, [], ◌∷◌, slice_get, Option, Some, None, IsSome, Result, Ok}
use Rattle.std.proofs.Common.{Err, IfErr, refl, sym, ap, ◌∙◌, subst, le_trans, inl, inr, ◌⊎◌}
use Rattle.std.proofs.Math.Path.{fun_ext}
use Rattle.std.proofs.lemmas.Bool.{true≢false}
use Rattle.zarrs_codec_traits.proofs.EditLaws.{rose_later}
use Rattle.zarr_model.specs.Prelude.{Region, ArrayBytes, chunks_meeting, chunk_content, box_content, Options, Content}
use Rattle.zarr_model.specs.Prelude.{Description, layout, IsHonest, Command, read, write, refusal, region_refusal}
use Rattle.zarr_model.specs.Prelude.{chunks_under, command_chunks, Shown, Rose, IsUndecoded}
use Rattle.zarr_model.proofs.FailureLaws.{meeting_is}
use Rattle.zarr_array.specs.Session.{HasSessionCause}
use Rattle.zarr_array.specs.parts.Document.{ArrayDocument, describe}
use Rattle.zarr_array.specs.Told.{TellsWhy}
use Rattle.zarr_array.specs.declared.command_error.SessionErrorKind.{SessionErrorKind}
use Rattle.zarr_array.specs.declared.command_error.SessionErrorKind.TheVariants as session
use Rattle.zarr_rechunk.specs.declared.error.RechunkErrorKind.{RechunkErrorKind}
use Rattle.zarr_rechunk.specs.declared.error.RechunkErrorKind.TheVariants as rechunk
use Rattle.zarr_rechunk.specs.Errors.{source_kind, target_kind}
use Rattle.zarr_rechunk.specs.Moved.{AreMoved}
use Rattle.zarr_rechunk.specs.Band.{LeavesBand}
use Rattle.zarr_rechunk.specs.Fails.{IsDamagedIn, ReadFails, WriteFails, BandFails, FailsAtBand, MayMove, IsUnbegun}

-- the chunk of an error of one command, which meets a band
damaged_in : (array : Description) (options : Options) (b : Region) (command : Command) (old new : Content) (key :
    List ℕ) (at : Option (ℕ × ℕ)) →
    command_chunks array command ≡ chunks_meeting array.grid b →
    IsUndecoded array options (command ∷ []) old new key at → IsDamagedIn array options b old key × (new key ≡ old key)
damaged_in array options b command old new key None is undecoded = absurd undecoded
damaged_in array options b command old new key (Some (zero, k)) is
    (other, here, asks, chunk, listed, its_key, kept, none, damaged) =
    let same : command ≡ other = cc in (
      record {
        number = k;
        chunk = chunk;
        met = ap (λ l. slice_get l k) (sym is)
            ∙ (ap (λ c. slice_get (command_chunks array c) k) same ∙ listed);
        its_key = its_key;
        damaged = damaged;
      },
      kept,
    )
damaged_in array options b command old new key (Some (suc m, k)) is
    (other, here, asks, chunk, listed, its_key, kept, none, damaged) = cc

pub read_fails : (source : ArrayDocument) (options : Options) (b : Region) (before now : Shown) (k : RechunkErrorKind)
    (s : SessionErrorKind) (at : Option (ℕ × ℕ)) → region_refusal (describe source) b ≡ None → k ≡ source_kind s →
    HasSessionCause (describe source) options (read b ∷ []) before now at s → TellsWhy (Some b) source options now s →
    ReadFails source options b before now k
read_fails source options b before now k s at accepted is cause told =
    subst (ReadFails source options b before now) (sym is) (go s cause told)
  where
    go : (t : SessionErrorKind) → HasSessionCause (describe source) options (read b ∷ []) before now at t →
        TellsWhy (Some b) source options now t → ReadFails source options b before now (source_kind t)
    go (session.NotOpened error) h tells = absurd h
    go (session.ChunkDecode key error) h tells = (
      (damaged_in (describe source) options b (read b) before.content
          now.content key at (ap (λ why. chunks_under (describe source) why (read b)) accepted) h.0).0,
      tells,
    )
    go session.Store h tells = h.0
    go session.OutOfMemory h tells = tt

pub write_fails : (target : ArrayDocument) (options : Options) (b : Region) (bytes : ArrayBytes) (before now :
    Shown) (k : RechunkErrorKind) (s : SessionErrorKind) (at : Option (ℕ × ℕ)) →
    refusal (describe target) (write b bytes) ≡ None → k ≡ target_kind s →
    HasSessionCause (describe target) options (write b bytes ∷ []) before now at s →
    TellsWhy None target options now s → WriteFails target options b before now k
write_fails target options b bytes before now k s at accepted is cause told =
    subst (WriteFails target options b before now) (sym is) (go s cause told)
  where
    go : (t : SessionErrorKind) → HasSessionCause (describe target) options (write b bytes ∷ []) before now at t →
        TellsWhy None target options now t → WriteFails target options b before now (target_kind t)
    go (session.NotOpened error) h tells = absurd h
    go (session.ChunkDecode key error) h tells =
        let both = damaged_in (describe target) options b (write b bytes) before.content now.content key at
        (ap (λ why. chunks_under (describe target) why (write b bytes)) accepted) h.0 in
        (both.0, both.1, tells)
    go session.Store h tells = h.0
    go session.OutOfMemory h tells = tt

-- an error of a band is one of reading or writing it
module _ (source target : ArrayDocument) (options : Options) (b : Region) (from_before from_now to_before to_now :
    Shown) where
  write_failed : (k : RechunkErrorKind) → WriteFails target options b to_before to_now k →
      BandFails source target options b from_before from_now to_before to_now k
  write_failed (rechunk.TargetChunk key error) h = h
  write_failed rechunk.TargetStore h = h
  write_failed rechunk.OutOfMemory h = tt
  write_failed rechunk.ShapeMismatch h = absurd h
  write_failed rechunk.DataTypeMismatch h = absurd h
  write_failed rechunk.BandTooLarge h = absurd h
  write_failed (rechunk.SourceChunk key error) h = absurd h
  write_failed rechunk.SourceStore h = absurd h

  pub written_failed : {T : Type 0} (r : Result T RechunkErrorKind) → IfErr r (WriteFails target options b to_before
      to_now) → IfErr r (BandFails source target options b from_before from_now to_before to_now)
  written_failed (Ok v) h = tt
  written_failed (Err k) h = write_failed k h

-- the cause of an error at a band, over the stores as they were before the bands that were moved
module _ (source target : ArrayDocument) (options : Options) (list : List Region)
    (n : ℕ) (b : Region) (from_before from_mid from_now to_before to_mid to_now : Shown)
    (moved : AreMoved (describe source) (describe target) options list n from_before from_mid to_before to_mid) where
  stood : (key : List ℕ) (d : IsDamagedIn (describe target) options b to_mid.content key) →
      IsSome (chunk_content (layout (describe target) options) to_mid.content d.chunk) ⊎
      (to_mid.content ((describe target).key d.chunk) ≡ to_before.content ((describe target).key d.chunk)) →
      to_mid.content ((describe target).key d.chunk) ≡ to_before.content ((describe target).key d.chunk)
  stood key d (inl decodes) = absurd (true≢false (sym (subst IsSome d.damaged decodes)))
  stood key d (inr same) = same

  pub cause_on : (k : RechunkErrorKind) → BandFails source target options b from_mid from_now to_mid to_now k →
      BandFails source target options b from_before from_now to_before to_now k
  cause_on (rechunk.SourceChunk key error) (d, why) =
      (subst (λ c. IsDamagedIn (describe source) options b c key) (fun_ext moved.same) d, why)
  cause_on rechunk.SourceStore h = rose_later from_before.faults from_mid.faults from_now.faults moved.later_from h
  cause_on (rechunk.TargetChunk key error) (d, stands, why) =
      let same : to_mid.content ((describe target).key d.chunk) ≡ to_before.content ((describe target).key d.chunk) =
      stood key d (moved.stays d.chunk (meeting_is (describe target).grid b d.number d.chunk d.met).0) in (
        record {
          number = d.number;
          chunk = d.chunk;
          met = d.met;
          its_key = d.its_key;
          damaged = ap (box_content (layout (describe target) options) ((describe target).grid.chunk_box d.chunk))
              (sym same) ∙ d.damaged;
        },
        stands ∙ subst (λ key. to_mid.content key ≡ to_before.content key) d.its_key same,
        why,
      )
  cause_on rechunk.TargetStore h = rose_later to_before.faults to_mid.faults to_now.faults moved.later_to h
  cause_on rechunk.OutOfMemory h = tt
  cause_on rechunk.ShapeMismatch h = absurd h
  cause_on rechunk.DataTypeMismatch h = absurd h
  cause_on rechunk.BandTooLarge h = absurd h

-- what a band leaves, after those that were moved
pub left_on : (source target : Description) (options : Options) (list : List Region)
    (n : ℕ) (from_before from_mid to_before to_mid to_now : Shown) →
    AreMoved source target options list n from_before from_mid to_before to_mid →
    LeavesBand target options to_mid to_now → LeavesBand target options to_before to_now
left_on source target options list n from_before from_mid to_before to_mid to_now moved left = record {
  others = λ key none. left.others key none ∙ moved.others key none;
  later = le_trans moved.later_to left.later;
  honest = λ honest. left.honest (moved.honest honest);
}

-- over honest stores that did not fail, only memory can be wanting
module _ (source target : ArrayDocument) (options : Options) (from_before from_now to_before to_now : Shown)
    (may : MayMove (describe source) (describe target)) (honest_from : IsHonest (layout (describe source) options)
    from_before.content) (honest_to : IsHonest (layout (describe target) options) to_before.content)
    (calm_from : ¬ Rose from_before.faults from_now.faults) (calm_to : ¬ Rose to_before.faults to_now.faults) where
  none_damaged : (array : Description) (store : Content) (b : Region) (key : List ℕ) →
      IsHonest (layout array options) store → IsDamagedIn array options b store key → ⊥
  none_damaged array store b key honest d =
      true≢false (sym (subst IsSome d.damaged (honest d.chunk (meeting_is array.grid b d.number d.chunk d.met).0)))

  at_band : (b : Region) (k : RechunkErrorKind) →
      BandFails source target options b from_before from_now to_before to_now k → k ≡ rechunk.OutOfMemory
  at_band b (rechunk.SourceChunk key error) h =
      absurd (none_damaged (describe source) from_before.content b key honest_from h.0)
  at_band b rechunk.SourceStore h = absurd (calm_from h)
  at_band b (rechunk.TargetChunk key error) h =
      absurd (none_damaged (describe target) to_before.content b key honest_to h.0)
  at_band b rechunk.TargetStore h = absurd (calm_to h)
  at_band b rechunk.OutOfMemory h = refl
  at_band b rechunk.ShapeMismatch h = absurd h
  at_band b rechunk.DataTypeMismatch h = absurd h
  at_band b rechunk.BandTooLarge h = absurd h

  unbegun : (k : RechunkErrorKind) → IsUnbegun (describe source) (describe target) k → k ≡ rechunk.OutOfMemory
  unbegun rechunk.ShapeMismatch h = absurd (h may.alike.shape)
  unbegun rechunk.DataTypeMismatch h = absurd (h.1 may.alike.data_type)
  unbegun rechunk.BandTooLarge h = absurd (true≢false (sym h.1 ∙ may.none_large))
  unbegun rechunk.OutOfMemory h = refl
  unbegun (rechunk.SourceChunk key error) h = absurd h
  unbegun rechunk.SourceStore h = absurd h
  unbegun (rechunk.TargetChunk key error) h = absurd h
  unbegun rechunk.TargetStore h = absurd h

  pub only_memory : (at : Option ℕ) (k : RechunkErrorKind) (list : List Region) →
      ((at ≡ None) × IsUnbegun (describe source) (describe target) k)
      ⊎ (MayMove (describe source) (describe target) ×
      FailsAtBand source target options list from_before from_now to_before to_now at k) → k ≡ rechunk.OutOfMemory
  only_memory at k list (inl h) = unbegun k h.1
  only_memory at k list (inr h) = at_band h.1.band k h.1.cause
