-- What single commands on bands did.
use Rattle.std.proofs.Common.{◌≡◌, ◌+◌, ℕ, zero, suc, true, false, Bool, List, [], ◌∷◌, length, Option, Some, None}
use Rattle.std.proofs.Common.{IsSome, ◌⊎◌, ⊎_elim, inl, inr, ◌||◌, Ok, Err, refl, sym, ap, ◌∙◌, subst, arith}
use Rattle.std.proofs.lemmas.Bool.{true≢false, cases_Bool}
use Rattle.std.proofs.lemmas.List.Sums.{sum_by-cons}
use Rattle.std.specs.List.{Contains}
use Rattle.std.proofs.lemmas.Map.Views.{Contains-from_any}
use Rattle.zarr_model.specs.Prelude.{Region, Element, kind, ArrayBytes, CoversShape}
use Rattle.zarr_model.specs.Prelude.{chunks_meeting, chunk_content, box_content, Options, Content, Description, layout}
use Rattle.zarr_model.specs.Prelude.{IsHonest, IsSound, Means, Command, write, refusal}
use Rattle.zarr_model.specs.Prelude.{reply_of, answered, answered_done, Matches, Shown, counted}
use Rattle.zarr_model.specs.Prelude.{asks_of, puts_of, all_asks, all_puts, command_chunks, chunks_under, is_among}
use Rattle.zarr_model.specs.Prelude.{IsLeftAt, FailedAt, IsDamageMet, IsDamageSeen, MeetsNoDamage}
use Rattle.zarr_model.specs.Prelude.{SeesNoDamage, passes_over, undamaged, stored_array, array_after}
use Rattle.zarr_model.proofs.StoreLaws.{stored_array-meant, Means-from_whole}
use Rattle.zarr_model.proofs.StepLaws.{honest-whole}
use Rattle.zarr_model.proofs.FailureLaws.{same_bytes, cut_short-honest, listed_is_chunk}
use Rattle.zarr_model.proofs.WithoutLaws.{undamaged-honest}
use Rattle.zarr_array.specs.Ended.{Ended}
use Rattle.zarr_array.specs.Runs.{Runs}
use Rattle.zarr_array.specs.Session.{HasSessionCause}
use Rattle.zarr_array.specs.declared.command_error.SessionErrorKind.{SessionErrorKind}
use Rattle.zarr_array.specs.declared.command_error.SessionErrorKind.TheVariants as session
use Rattle.zarr_rechunk.specs.Moved.{DecodedOrStays}
use Rattle.zarr_rechunk.specs.Band.{HasWrittenBand, LeavesBand, StaysOutside}

write_asks : (target : Description) (b : Region) (bytes : ArrayBytes) → refusal target (write b bytes) ≡ None →
    all_asks target (write b bytes ∷ []) ≡ length (chunks_meeting target.grid b)
write_asks target b bytes none =
    sum_by-cons (asks_of target) (write b bytes) []
    ∙ ((let same : asks_of target (write b bytes) + 0 ≡ asks_of target (write b bytes) = omega arith in same)
    ∙ ap (λ why. length (chunks_under target why (write b bytes))) none)

write_puts : (target : Description) (b : Region) (bytes : ArrayBytes) → refusal target (write b bytes) ≡ None →
    all_puts target (write b bytes ∷ []) ≡ length (chunks_meeting target.grid b)
write_puts target b bytes none =
    sum_by-cons (puts_of target) (write b bytes) []
    ∙ ((let same : puts_of target (write b bytes) + 0 ≡ puts_of target (write b bytes) = omega arith in same)
    ∙ ap (λ why. length (chunks_under target why (write b bytes))) none)

module _ (target : Description) (options : Options) (covers : CoversShape target.shape target.grid)
    (sound : IsSound (layout target options)) (command : Command) (before now : Shown) where
  honest_left : (by_store : Bool) (at : Option (ℕ × ℕ)) → IsHonest (layout target options) before.content →
      IsLeftAt target options (command ∷ []) before.content now.content by_store at →
      IsHonest (layout target options) now.content
  honest_left by_store None honest same = λ chunk is_chunk. subst IsSome (sym (ap (box_content (layout target options)
      (target.grid.chunk_box chunk)) (same (target.key chunk)))) (honest chunk is_chunk)
  honest_left by_store (Some place) honest left = go (left (stored_array (layout target options) before.content)
      (stored_array-meant (layout target options) covers sound before.content honest))
    where
      go : FailedAt target options (command ∷ []) place.0 place.1 by_store (stored_array (layout target options)
          before.content) now.content → IsHonest (layout target options) now.content
      go (other, is, cut) = cut_short-honest target covers options sound other place.1 by_store _ _ now.content cut

  honest_failed : (kind : SessionErrorKind) (at : Option (ℕ × ℕ)) → IsHonest (layout target options) before.content →
      HasSessionCause target options (command ∷ []) before now at kind → IsHonest (layout target options) now.content
  honest_failed (session.NotOpened error) at honest cause = absurd cause
  honest_failed (session.ChunkDecode key error) None honest cause = absurd cause.0
  honest_failed (session.ChunkDecode key error) (Some place) honest
      ((other, is, asks, chunk, listed, its_key, kept, none, damaged), noticed) =
      absurd (true≢false (sym (subst IsSome damaged
      (honest chunk (listed_is_chunk target covers (refusal target other) other refl place.1 chunk listed)))))
  honest_failed session.Store at honest cause = honest_left true at honest (cause.2 honest)
  honest_failed session.OutOfMemory None honest cause = honest_left false None honest cause
  honest_failed session.OutOfMemory (Some place) honest cause = honest_left false (Some place) honest (cause honest)

  pub still_honest : (ended : Ended) → Runs target options (command ∷ []) before now ended →
      IsHonest (layout target options) before.content → IsHonest (layout target options) now.content
  still_honest (Ok answers) ran honest =
      honest-whole (layout target options) now.content
      (array_after target (command ∷ []) (stored_array (layout target options) before.content))
      ((ran.on.serves honest).left.whole_chunks (stored_array (layout target options) before.content)
      (stored_array-meant (layout target options) covers sound before.content honest))
  still_honest (Err error) ran honest = honest_failed error.kind error.at honest ran.on.failed.cause

  -- what a command leaves however it ends
  pub leaves : (ended : Ended) → Runs target options (command ∷ []) before now ended →
      LeavesBand target options before now
  leaves ended ran = record { others = ran.on.keys.other_keys; later = ran.on.later; honest = still_honest ended ran }

-- a write changes no chunk that its band does not meet
pub stays_outside : (target : Description) (options : Options) (b : Region) (bytes : ArrayBytes) (before now :
    Shown) (ended : Ended) → refusal target (write b bytes) ≡ None →
    Runs target options (write b bytes ∷ []) before now ended → StaysOutside target b before.content now.content
stays_outside target options b bytes before now ended none ran = λ chunk is_chunk out.
    ran.on.keys.same_chunks chunk is_chunk
    (ap (λ met. met || false) (ap (λ why. is_among (chunks_under target why (write b bytes)) chunk) none ∙ out))

-- each chunk that a write meets decodes before it
write_decodes : (target : Description) (options : Options) (b : Region) (bytes : ArrayBytes) (store : Content) →
    refusal target (write b bytes) ≡ None →
    SeesNoDamage target options (write b bytes ∷ []) store →
    (chunk : List ℕ) → is_among (chunks_meeting target.grid b) chunk ≡ true →
    IsSome (chunk_content (layout target options) store chunk)
write_decodes target options b bytes store none sees chunk inside =
    go (chunk_content (layout target options) store chunk) refl
  where
    met : Contains (command_chunks target (write b bytes)) chunk
    met =
        subst (λ why. Contains (chunks_under target why (write b bytes)) chunk) (sym none)
        (Contains-from_any same_bytes chunk (chunks_meeting target.grid b) inside)

    go : (o : Option (List Element)) → chunk_content (layout target options) store chunk ≡ o → IsSome o
    go None damaged =
        absurd (sees.no_key (target.key chunk) (0, write b bytes, refl, refl, chunk, met, refl, refl, damaged, refl))
    go (Some content) is = refl

write_stood : (target : Description) (b : Region) (options : Options) (old new : Content) →
    StaysOutside target b old new →
    ((chunk : List ℕ) → is_among (chunks_meeting target.grid b) chunk ≡ true →
    IsSome (chunk_content (layout target options) old chunk)) →
    DecodedOrStays target options old new
write_stood target b options old new outside decodes = λ chunk is_chunk. ⊎_elim
    (λ (inside : is_among (chunks_meeting target.grid b) chunk ≡ true). inl (decodes chunk inside))
    (λ (out : is_among (chunks_meeting target.grid b) chunk ≡ false). inr (outside chunk is_chunk out))
    (cases_Bool (is_among (chunks_meeting target.grid b) chunk))

pub write_done : (target : Description) (options : Options) (b : Region) (bytes : ArrayBytes) (before now : Shown) →
    CoversShape target.shape target.grid → IsSound (layout target options) →
    refusal target (write b bytes) ≡ None → Runs target options (write b bytes ∷ []) before now
    (Ok (answered_done ∷ [])) → HasWrittenBand target options b bytes before now
write_done target options b bytes before now covers sound none ran = record {
  accepted = none;
  serves = ran.on.serves;
  asks = ran.asks ∙ ap (counted before.asks) (write_asks target b bytes none);
  puts = ran.on.puts ∙ ap (counted before.puts) (write_puts target b bytes none);
  others = ran.on.keys.other_keys;
  decodes = write_decodes target options b bytes before.content none ran.on.undamaged;
  stays = λ chunk is_chunk. stays (ran.on.damage.each chunk is_chunk);
  stood = write_stood target b options before.content now.content
      (stays_outside target options b bytes before now (Ok (answered_done ∷ [])) none ran)
      (write_decodes target options b bytes before.content none ran.on.undamaged);
  honest = still_honest target options covers sound (write b bytes) before now (Ok (answered_done ∷ [])) ran;
  later = ran.on.later;
}
  where
    stays : {A B C : Type 0} → A ⊎ (B × C) → A ⊎ B
    stays (inl a) = inl a
    stays (inr both) = inr both.0

-- a write is not answered by elements: it sees the damage that it meets
write_meets : (target : Description) (options : Options) (b : Region) (bytes : ArrayBytes) (store : Content) →
    SeesNoDamage target options (write b bytes ∷ []) store → MeetsNoDamage target options (write b bytes ∷ []) store
write_meets target options b bytes store sees = record { no_key = λ key met. sees.no_key key (seen key met) }
  where
    seen : (key : List ℕ) → IsDamageMet target options (write b bytes ∷ []) store key →
        IsDamageSeen target options (write b bytes ∷ []) store key
    seen key (zero, command, is, asks, chunk, listed, its_key, none, damaged) =
        let same : write b bytes ≡ command = cc in (
          zero,
          command,
          is,
          asks,
          chunk,
          listed,
          its_key,
          none,
          damaged,
          subst (λ c. passes_over target options store c chunk ≡ false) same refl,
        )
    seen key (suc m, command, is, asks, chunk, listed, its_key, none, damaged) = cc

pub written_done : (target : Description) (options : Options) (b : Region) (bytes other : ArrayBytes) (before now :
    Shown) → CoversShape target.shape target.grid → IsSound (layout target options) →
    refusal target (write b bytes) ≡ None →
    Runs target options (write b bytes ∷ []) before now (Ok (answered other ∷ [])) → ⊥
written_done target options b bytes other before now covers sound none ran =
    let store = undamaged (layout target options) before.content in
    let array = stored_array (layout target options) store in
    let means : Means (layout target options) store array =
    Means-from_whole (layout target options) covers store array (stored_array-meant (layout target options) covers sound
    store (undamaged-honest (layout target options) sound before.content)) in
    let matches :
    Matches (kind target) (answered other) (reply_of (refusal target (write b bytes)) (write b bytes) array) =
    (ran.on.answers (write_meets target options b bytes before.content ran.on.undamaged) array means).0 in
    subst (λ why. Matches (kind target) (answered other) (reply_of why (write b bytes) array)) none matches
