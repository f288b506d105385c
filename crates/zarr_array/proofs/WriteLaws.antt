-- A write as a command of a session.
use Rattle.std.proofs.Common.{◌≡◌, ℕ, zero, suc, ◌+◌, ◌<◌, ◌≤◌, ◌||◌, ◌&&◌, not, true, false, if◌then◌else◌, Bool}
use Rattle.std.proofs.Common.{bytes_eq, List, [], ◌∷◌, length, slice_get, Contains, Some, None, IsSome, is_some, refl}
use Rattle.std.proofs.Common.{sym, ap, ◌∙◌, subst, arith, ◌⊎◌, inl, inr, ⊎_elim}
use Rattle.std.proofs.lemmas.Bool.{cases_Bool, cases_lt, cond-true, cond-false, true≢false, or_parts}
use Rattle.std.proofs.lemmas.List.Folds.{Any-from_list_any, list_any_at}
use Rattle.std.proofs.lemmas.Option.{slice_get_within, slice_get-get_or, get_or_from_slice_get}
use Rattle.zarr_model.specs.Prelude.{Region, Element, ArrayBytes, Array, written, IsChunk, chunks_meeting, CoversShape}
use Rattle.zarr_model.specs.Prelude.{Options, Content, IsSound, WhollyMeans, chunk_content, Shown, Command, write}
use Rattle.zarr_model.specs.Prelude.{Description, kind, layout, refusal, written_elements, reply_of, array_of, after}
use Rattle.zarr_model.specs.Prelude.{answered_done, Matches, chunks_under, command_chunks, is_among, is_blank, counted}
use Rattle.zarr_model.specs.Prelude.{present_in, present_under, ChunkHas, IsPartWay, IsCutShort, IsDamageSeen}
use Rattle.zarr_model.specs.Prelude.{SeesNoDamage, KeepsDamage, IsLeftAt, LeavesKeys, ServesWhole, LeftAt, ChangedFirst}
use Rattle.zarr_model.proofs.FailureLaws.{same_bytes, bytes_eq-refl, listed_is_chunk, chunks_under-once, part_way-end}
use Rattle.zarr_model.proofs.FailureLaws.{part_way-fails}
use Rattle.zarr_model.proofs.LeftLaws.{left_at}
use Rattle.zarr_model.proofs.RanLaws.{changes-stay, RanOver-write}
use Rattle.zarr_model.proofs.Choices.{alone}
use Rattle.zarr_model.proofs.MendedLaws.{content-same}
use Rattle.zarr_array.specs.declared.command_error.SessionErrorKind.{SessionErrorKind}
use Rattle.zarr_array.specs.declared.command_error.SessionErrorKind.TheVariants.{NotOpened, ChunkDecode, Store}
use Rattle.zarr_array.specs.declared.command_error.SessionErrorKind.TheVariants.{OutOfMemory}
use Rattle.zarr_array.specs.Write.{HoldsChunk, StopsChunk}
use Rattle.zarr_array.specs.PartWay.{ChangedSome, StopsBefore, FailsPartWay}
use Rattle.zarr_array.proofs.HasRun.{HasRun}
use Rattle.zarr_array.proofs.StoredLaws.{stays-append}
use Rattle.zarr_array.specs.Stored.{DecodesForAll, IsChanged, StoresForAll, StaysOrDecodes, DamageStands}
use Rattle.zarr_array.specs.Session.{HasSessionCause, FailsAt, is_store}
use Rattle.zarr_array.proofs.DecodedLaws.{decoded-one}
use Rattle.zarr_array.proofs.PartWayLaws.{changed-kept, changed-outside, met-chunks, met-once}

-- what a write does to an array
abbrev pub write_change : Description → Region → ArrayBytes → Array Element → Array Element
write_change description region value = written region (written_elements description region value)

-- a chunk is among some chunks where it stands at a place
pub among-at : (chunks : List (List ℕ)) (chunk : List ℕ) (place : ℕ) → slice_get chunks place ≡ Some chunk →
    is_among chunks chunk ≡ true
among-at chunks chunk place e = list_any_at (bytes_eq chunk) chunks place chunk (slice_get_within chunks place chunk e)
    (ap (bytes_eq chunk) (get_or_from_slice_get chunks place chunk chunk e) ∙ bytes_eq-refl chunk)

pub at-among : (chunks : List (List ℕ)) (chunk : List ℕ) → is_among chunks chunk ≡ true →
    (place : ℕ) × (slice_get chunks place ≡ Some chunk)
at-among chunks chunk inside =
    let (k, other, below, here, passes) = Any-from_list_any (bytes_eq chunk) chunks inside in
    (k, slice_get-get_or chunks k other below ∙ ap Some (here ∙ sym (same_bytes chunk other passes)))

pub never-among : (chunks : List (List ℕ)) (chunk : List ℕ) → is_among chunks chunk ≡ false → (place : ℕ) →
    ¬ (slice_get chunks place ≡ Some chunk)
never-among chunks chunk outside place e = true≢false (sym (among-at chunks chunk place e) ∙ outside)

-- a command stopped with the store unchanged since its last finished chunk is cut short there
pub part_way-stays : (description : Description) → CoversShape description.shape description.grid →
    (options : Options) (command : Command) (k : ℕ) (by_store : Bool) (before now : Array Element) (old new : Content) →
    k ≤ length (command_chunks description command) → IsPartWay description options command k before now old →
    ((key : List ℕ) → new key ≡ old key) →
    IsCutShort description options command k by_store before now new
part_way-stays description covers options command k by_store before now old new few part same = record {
  few = few;
  finished = λ place chunk h e. content-same (layout description options) old new chunk (same (description.key chunk))
      ∙ part.finished place chunk h e;
  next = λ chunk e. inl (content-same (layout description options) old new chunk (same (description.key chunk))
      ∙ part.others chunk (listed_is_chunk description covers (refusal description command) command refl k chunk e)
      (λ place h e'. let equal : place ≡ k = chunks_under-once description (refusal description command) command place k
      chunk e' e in absurd (omega (arith, h, equal))));
  others =
      λ chunk is_chunk apart. content-same (layout description options) old new chunk (same (description.key chunk))
      ∙ part.others chunk is_chunk (λ place h. apart place (omega (arith, h)));
}

-- a write all of whose chunks decode sees no damage
pub SeesNoDamage-write :
    (description : Description) (options : Options) (region : Region) (value : ArrayBytes) (store : Content) →
    ((place : ℕ) (chunk : List ℕ) → slice_get (command_chunks description (write region value)) place ≡ Some chunk →
    IsSome (chunk_content (layout description options) store chunk)) →
    SeesNoDamage description options (write region value ∷ []) store
SeesNoDamage-write description options region value store decode = record { no_key = unmet }
  where
    unmet : (key : List ℕ) → IsDamageSeen description options (write region value ∷ []) store key → ⊥
    unmet key (zero, command, is, asks, chunk, met, its_key, none, damaged, _) =
        let same : write region value ≡ command = cc in
        let found : Contains (command_chunks description (write region value)) chunk =
        subst (λ c. Contains (command_chunks description c) chunk) (sym same) met in
        let (k, within, here) = found in
        true≢false (sym (subst IsSome damaged (decode k chunk
        (slice_get-get_or (command_chunks description (write region value)) k chunk within ∙ ap Some here))))
    unmet key (suc m, command, is, _, _, _, _, _, _, _) = cc

module _ (description : Description) (covers : CoversShape description.shape description.grid)
    (options : Options) (sound : IsSound (layout description options)) (region : Region) (value : ArrayBytes)
    (accepted : refusal description (write region value) ≡ None) where
  -- the chunks of the write, and the array that it leaves
  write-listed : command_chunks description (write region value) ≡ chunks_meeting description.grid region
  write-listed = ap (λ why. chunks_under description why (write region value)) accepted

  write-left : (array : Array Element) →
      after description (write region value) array ≡ write_change description region value array
  write-left array = ap (λ why. array_of description why (write region value) array) accepted

  in_region : (place : ℕ) (chunk : List ℕ) → slice_get (command_chunks description (write region value)) place ≡
      Some chunk → slice_get (chunks_meeting description.grid region) place ≡ Some chunk
  in_region place chunk e = ap (λ chunks. slice_get chunks place) (sym write-listed) ∙ e

  in_command : (place : ℕ) (chunk : List ℕ) → slice_get (chunks_meeting description.grid region) place ≡ Some chunk →
      slice_get (command_chunks description (write region value)) place ≡ Some chunk
  in_command place chunk e = ap (λ chunks. slice_get chunks place) write-listed ∙ e

  -- the first k chunks have the new.content array's elements, and the others the old.content one's
  pub write-part_way : (k : ℕ) (old now : Shown) (array : Array Element) →
      ChangedSome description options (write_change description region value) (chunks_meeting description.grid region) k
      old now → WhollyMeans (layout description options) old.content array →
      IsPartWay description options (write region value) k array (after description (write region value) array)
      now.content
  write-part_way k old now array changed meant = record {
    finished = λ place chunk h e.
        subst (λ a. ChunkHas (layout description options) now.content a chunk) (sym (write-left array))
        ((changed.holds array place chunk meant.fill h (in_region place chunk e) (meant.each_chunk chunk
        (met-chunks description.grid region place chunk (in_region place chunk e)))).has options);
    others = λ chunk is_chunk apart.
        content-same (layout description options) old.content now.content chunk
        (changed-kept description options sound (write_change description region value)
        (chunks_meeting description.grid region) (met-chunks description.grid region) k old now chunk changed is_chunk
        (λ place h e. apart place h (in_command place chunk e)))
        ∙ meant.each_chunk chunk is_chunk;
  }

  -- the same of the command's chunks, over any store
  pub changed_first : (k : ℕ) (old now : Shown) → ChangedSome description options
      (write_change description region value) (chunks_meeting description.grid region) k old now →
      ChangedFirst description options (after description (write region value))
      (command_chunks description (write region value)) k old.content now.content
  changed_first k old now changed = record {
    decoded = λ place chunk h e. changed.decoded place chunk h (in_region place chunk e);
    holds = λ array place chunk is_fill h e had.
        subst (λ a. ChunkHas (layout description options) now.content a chunk) (sym (write-left array))
        ((changed.holds array place chunk is_fill h (in_region place chunk e) had).has options);
    others = λ key apart. changed.others key (λ place chunk h e. apart place chunk h (in_command place chunk e));
  }

  -- what is not among the write's chunks holds what it held
  module _ (k : ℕ) (old now : Shown)
      (changed : ChangedSome description options (write_change description region value)
      (chunks_meeting description.grid region) k old now) where
    kept : (chunk : List ℕ) → IsChunk description.grid chunk → is_among (chunks_meeting description.grid region) chunk ≡
        false → now.content (description.key chunk) ≡ old.content (description.key chunk)
    kept chunk is_chunk outside = changed-kept description options sound (write_change description region value)
        (chunks_meeting description.grid region) (met-chunks description.grid region) k old now chunk
        changed is_chunk (λ place h. never-among (chunks_meeting description.grid region) chunk outside place)

    pub write-keys : LeavesKeys description options (write region value ∷ []) old.content now.content
    write-keys = record {
      same_chunks = λ chunk is_chunk none. kept chunk is_chunk
          (ap (λ chunks. is_among chunks chunk) (sym write-listed)
          ∙ (or_parts (is_among (command_chunks description (write region value)) chunk) false none).0);
      other_keys = λ key apart. changed-outside description options sound (write_change description region value)
          (chunks_meeting description.grid region) (met-chunks description.grid region) k old now
          key changed (λ chunk is_chunk same. apart (chunk, is_chunk, same));
    }

  module _ (old new : Shown)
      (changed : ChangedSome description options (write_change description region value)
      (chunks_meeting description.grid region) (length (chunks_meeting description.grid region)) old new) where
    full : length (command_chunks description (write region value)) ≡ length (chunks_meeting description.grid region)
    full = ap length write-listed

    -- each of the write's chunks decoded, and decodes
    decoded : (place : ℕ) (chunk : List ℕ) → slice_get (chunks_meeting description.grid region) place ≡ Some chunk →
        IsSome (chunk_content (layout description options) old.content chunk)
    decoded place chunk e =
        changed.decoded place chunk (slice_get_within (chunks_meeting description.grid region) place chunk e) e

    present : (array : Array Element) (chunk : List ℕ) → WhollyMeans (layout description options) old.content array →
        IsChunk description.grid chunk →
        present_in description new.content chunk ≡ (if is_among (chunks_meeting description.grid region) chunk then
        options.store_empty_chunks || not (is_blank description (write_change description region value array) chunk)
        else present_in description old.content chunk)
    present array chunk meant is_chunk = ⊎_elim
        (λ (inside : is_among (chunks_meeting description.grid region) chunk ≡ true).
        let (place, e) = at-among (chunks_meeting description.grid region) chunk inside in
        (changed.holds array place chunk meant.fill (slice_get_within (chunks_meeting description.grid region) place
        chunk e) e (meant.each_chunk chunk is_chunk)).present
        ∙ sym (cond-true (is_among (chunks_meeting description.grid region) chunk) _ _ inside))
        (λ (outside : is_among (chunks_meeting description.grid region) chunk ≡ false).
        ap is_some (kept (length (chunks_meeting description.grid region)) old new changed chunk is_chunk outside)
        ∙ sym (cond-false (is_among (chunks_meeting description.grid region) chunk) _ _ outside))
        (cases_Bool (is_among (chunks_meeting description.grid region) chunk))

    pub write-serves :
        ServesWhole description options (write region value ∷ []) old.content new.content (answered_done ∷ [])
    write-serves = record {
      answers_match = λ array meant. (
        subst (λ why.
            Matches (kind description) answered_done (reply_of why (write region value) array)) (sym accepted) tt,
        tt,
      );
      whole_chunks = λ array meant.
          part_way-end description covers options sound (write region value) array new.content meant.shape meant.fill
          (subst (λ n. IsPartWay description options (write region value) n array
          (after description (write region value) array) new.content) (sym full)
          (write-part_way (length (chunks_meeting description.grid region)) old new array changed meant));
      presence = λ array chunk meant is_chunk. subst
          (λ why. present_in description new.content chunk ≡ present_under description options why (write region value)
          (array_of description why (write region value) array) (present_in description old.content) chunk)
          (sym accepted) (present array chunk meant is_chunk);
      keys = write-keys (length (chunks_meeting description.grid region)) old new changed;
    }

    write-damage : KeepsDamage description options (write region value ∷ []) old.content new.content
    write-damage = record {
      each = λ chunk is_chunk. ⊎_elim
          (λ (inside : is_among (chunks_meeting description.grid region) chunk ≡ true).
          let (place, e) = at-among (chunks_meeting description.grid region) chunk inside in
          inl (changed.mended place chunk (slice_get_within (chunks_meeting description.grid region) place chunk e) e
          options))
          (λ (outside : is_among (chunks_meeting description.grid region) chunk ≡ false).
          inr (kept (length (chunks_meeting description.grid region)) old new changed chunk is_chunk outside, refl))
          (cases_Bool (is_among (chunks_meeting description.grid region) chunk));
      stands = λ chunk is_chunk damaged none. ⊎_elim
          (λ (inside : is_among (chunks_meeting description.grid region) chunk ≡ true).
          let (place, e) = at-among (chunks_meeting description.grid region) chunk inside in
          absurd (true≢false (sym (subst IsSome damaged (decoded place chunk e)))))
          (λ (outside : is_among (chunks_meeting description.grid region) chunk ≡ false).
          kept (length (chunks_meeting description.grid region)) old new changed chunk is_chunk outside)
          (cases_Bool (is_among (chunks_meeting description.grid region) chunk));
    }

    -- each of the write's chunks decodes under all options
    write-stored : StoresForAll description options (write region value ∷ []) old.content new.content
    write-stored = record {
      decodes = λ chunk is under.
          let (place, e) = its_place chunk is in
          changed.mended place chunk (slice_get_within (chunks_meeting description.grid region) place chunk e) e under;
      left = λ meant chunk under means is.
          let (place, e) = its_place chunk is in
          subst (λ a. ChunkHas (layout description under) new.content a chunk) (sym (write-left meant))
          ((changed.holds meant place chunk means.fill (slice_get_within (chunks_meeting description.grid region) place
          chunk e) e (means.each_chunk chunk is.is_chunk)).has under);
    }
      where
        its_place : (chunk : List ℕ) → IsChanged description (write region value ∷ []) chunk →
            (place : ℕ) × (slice_get (chunks_meeting description.grid region) place ≡ Some chunk)
        its_place chunk is = at-among (chunks_meeting description.grid region) chunk
            (ap (λ chunks. is_among chunks chunk) (sym write-listed)
            ∙ alone (is_among (command_chunks description (write region value)) chunk) is.changed)

    -- a write all of whose chunks were changed ran
    pub write-ran : HasRun description options (write region value ∷ []) old new (answered_done ∷ [])
    write-ran = record {
      serves = write-serves;
      refusals = ap (λ why. why ∷ []) (sym accepted);
      refused = λ all. absurd (true≢false (sym all ∙ ap (λ why. is_some why && true) accepted));
      puts = omega (arith, changed.puts, full);
      damage = write-damage;
      erased = λ none array chunk is_chunk. absurd (true≢false none);
      undamaged = SeesNoDamage-write description options region value old.content
          (λ place chunk e. decoded place chunk (in_region place chunk e));
      stored = write-stored;
      over = RanOver-write description options covers sound region value old.content new.content accepted
          (subst (λ n. ChangedFirst description options (after description (write region value))
          (command_chunks description (write region value)) n old.content new.content) (sym full)
          (changed_first (length (chunks_meeting description.grid region)) old new changed)) write-damage;
      later = changed.later;
    }

  -- a write that failed with k of its chunks changed
  module _ (k : ℕ) (old new : Shown) (kind : SessionErrorKind)
      (fails : FailsPartWay description options (write_change description region value)
      (chunks_meeting description.grid region) k old new kind) where
    -- the next chunk holds what it held at the start
    next_kept : (chunk : List ℕ) → slice_get (chunks_meeting description.grid region) k ≡ Some chunk →
        fails.mid.content (description.key chunk) ≡ old.content (description.key chunk)
    next_kept chunk here = changed-kept description options sound (write_change description region value)
        (chunks_meeting description.grid region) (met-chunks description.grid region) k old fails.mid
        chunk fails.changed (met-chunks description.grid region k chunk here)
        (λ place h e. let same : place ≡ k = met-once description region place k chunk e here in
        absurd (omega (arith, h, same)))

    -- the array before and the one after, at the last finished chunk
    part_way : (array : Array Element) → WhollyMeans (layout description options) old.content array →
        IsPartWay description options (write region value) k array (after description (write region value) array)
        fails.mid.content
    part_way array meant = write-part_way k old fails.mid array fails.changed meant

    few : k ≤ length (command_chunks description (write region value))
    few = subst (λ chunks. k ≤ length chunks) (sym write-listed) fails.few

    -- with the store as the last finished chunk left it
    stays : ((key : List ℕ) → new.content key ≡ fails.mid.content key) →
        IsLeftAt description options (write region value ∷ []) old.content new.content false (Some (0, k))
    stays same array meant = (
      write region value,
      refl,
      part_way-stays description covers options (write region value) k false array
          (after description (write region value) array) fails.mid.content new.content few (part_way array meant) same,
    )

    -- with the next chunk old.content, new.content or absent
    stopped : (chunk : List ℕ) → slice_get (chunks_meeting description.grid region) k ≡ Some chunk →
        StopsChunk description options (write_change description region value) chunk fails.mid.content new.content →
        IsLeftAt description options (write region value ∷ []) old.content new.content true (Some (0, k))
    stopped chunk here stops array meant = (
      write region value,
      refl,
      part_way-fails description covers options sound (write region value) k chunk true array (after description
          (write region value) array) fails.mid.content new.content (in_command k chunk here) (part_way array meant)
          (⊎_elim
          (λ (held : new.content (description.key chunk) ≡ fails.mid.content (description.key chunk)). inl held)
          (λ (rest : HoldsChunk description options (write_change description region value array) chunk new.content ⊎
          (new.content (description.key chunk) ≡ None)). ⊎_elim
          (λ (holds : HoldsChunk description options (write_change description region value array) chunk new.content).
          inr (inl (subst (λ a. ChunkHas (layout description options) new.content a chunk) (sym (write-left array))
          (holds.has options))))
          (λ (gone : new.content (description.key chunk) ≡ None). inr (inr (refl, tt, gone)))
          rest)
          (stops.here array meant.fill
          (content-same (layout description options) old.content fails.mid.content chunk (next_kept chunk here)
          ∙ meant.each_chunk chunk (met-chunks description.grid region k chunk here))))
          stops.others,
    )

    -- over any store
    left_staying : (by_store : Bool) → ((key : List ℕ) → new.content key ≡ fails.mid.content key) →
        LeftAt description options (write region value ∷ []) 0 k by_store old.content new.content
    left_staying by_store same = changes-stay description options covers sound (write region value) k by_store
        old.content new.content few (record {
          decoded = before.decoded;
          holds = λ array place chunk is_fill h e had.
              content-same (layout description options) fails.mid.content new.content chunk
              (same (description.key chunk))
              ∙ before.holds array place chunk is_fill h e had;
          others = λ key apart. same key ∙ before.others key apart;
        })
      where
        before : ChangedFirst description options (after description (write region value))
            (command_chunks description (write region value)) k old.content fails.mid.content
        before = changed_first k old fails.mid fails.changed

    left_stopped : (chunk : List ℕ) → slice_get (chunks_meeting description.grid region) k ≡ Some chunk →
        StopsChunk description options (write_change description region value) chunk fails.mid.content new.content →
        LeftAt description options (write region value ∷ []) 0 k true old.content new.content
    left_stopped chunk here stops = left_at description options covers sound (write region value) old.content k
        fails.mid.content (changed_first k old fails.mid fails.changed) chunk (in_command k chunk here) true new.content
        (record {
          here = λ array is_fill had. ⊎_elim
              (λ (held : new.content (description.key chunk) ≡ fails.mid.content (description.key chunk)). inl held)
              (λ (rest : HoldsChunk description options (write_change description region value array) chunk
              new.content ⊎ (new.content (description.key chunk) ≡ None)). inr (⊎_elim
              (λ (holds : HoldsChunk description options (write_change description region value array) chunk
              new.content).
              inl (subst (λ a. ChunkHas (layout description options) new.content a chunk) (sym (write-left array))
              (holds.has options)))
              (λ (gone : new.content (description.key chunk) ≡ None). inr ((refl, tt), gone))
              rest))
              (stops.here array is_fill had);
          others = stops.others;
        })
        (λ asks damaged. ⊎_elim
        (λ (kept : new.content (description.key chunk) ≡ fails.mid.content (description.key chunk)). kept)
        (λ (mended : IsSome (chunk_content (layout description options) fails.mid.content chunk) × DecodesForAll
        description new.content chunk).
        absurd (true≢false (sym (subst IsSome damaged mended.0))))
        stops.stays)

    left_by : (kind : SessionErrorKind) → StopsBefore description options (write_change description region value)
        (chunks_meeting description.grid region) k fails.mid new kind →
        LeftAt description options (write region value ∷ []) 0 k (is_store kind) old.content new.content
    left_by kind (inl (memory, same)) = left_staying (is_store kind) same
    left_by (NotOpened error) (inr (chunk, here, never)) = absurd never
    left_by (ChunkDecode key error) (inr (chunk, here, (its_key, damaged, same))) = left_staying false same
    left_by Store (inr (chunk, here, (rose, stops))) = left_stopped chunk here stops
    left_by OutOfMemory (inr (chunk, here, same)) = left_staying false same

    write-cause : (kind : SessionErrorKind) → StopsBefore description options (write_change description region value)
        (chunks_meeting description.grid region) k fails.mid new kind →
        HasSessionCause description options (write region value ∷ []) old new (Some (0, k)) kind
    write-cause (NotOpened error) (inl (memory, same)) = let none : NotOpened error ≡ OutOfMemory = memory in cc
    write-cause (NotOpened error) (inr (chunk, here, never)) = never
    write-cause (ChunkDecode key error) (inl (memory, same)) = let none : ChunkDecode key error ≡ OutOfMemory =
        memory in cc
    write-cause (ChunkDecode key error) (inr (chunk, here, (its_key, damaged, same))) = (
      (
        write region value,
        refl,
        refl,
        chunk,
        in_command k chunk here,
        its_key,
        same key ∙ subst (λ key. fails.mid.content key ≡ old.content key) its_key (next_kept chunk here),
        refl,
        sym (content-same (layout description options) old.content fails.mid.content chunk (next_kept chunk here))
            ∙ damaged,
      ),
      (write region value, refl, chunk, in_command k chunk here, refl),
    )
    write-cause Store (inl (memory, same)) = let none : Store ≡ OutOfMemory = memory in cc
    write-cause Store (inr (chunk, here, (rose, stops))) =
        (omega (arith, rose, fails.changed.later), refl, λ honest. stopped chunk here stops)
    write-cause OutOfMemory (inl (memory, same)) = λ honest. stays same
    write-cause OutOfMemory (inr (chunk, here, same)) = λ honest. stays same

    -- the keys that such a write leaves
    only_next : (kind : SessionErrorKind) → StopsBefore description options (write_change description region value)
        (chunks_meeting description.grid region) k fails.mid new kind →
        (key : List ℕ) → ((chunk : List ℕ) → slice_get (chunks_meeting description.grid region) k ≡ Some chunk →
        ¬ (key ≡ description.key chunk)) → new.content key ≡ fails.mid.content key
    only_next kind (inl (memory, same)) key apart = same key
    only_next (NotOpened error) (inr (chunk, here, never)) key apart = absurd never
    only_next (ChunkDecode own error) (inr (chunk, here, (its_key, damaged, same))) key apart = same key
    only_next Store (inr (chunk, here, (rose, stops))) key apart = stops.others key (apart chunk here)
    only_next OutOfMemory (inr (chunk, here, same)) key apart = same key

    pub write-fails-keys : LeavesKeys description options (write region value ∷ []) old.content new.content
    write-fails-keys =
        let before = write-keys k old fails.mid fails.changed in
        record {
          same_chunks = λ chunk is_chunk none.
              only_next kind fails.stops (description.key chunk) (λ next here same.
              let equal : chunk ≡ next =
              sound.keys_apart chunk next is_chunk (met-chunks description.grid region k next here) same in
              true≢false (sym (among-at (command_chunks description (write region value)) chunk k
              (in_command k chunk (here ∙ ap Some (sym equal))))
              ∙ (or_parts (is_among (command_chunks description (write region value)) chunk) false none).0))
              ∙ before.same_chunks chunk is_chunk none;
          other_keys = λ key apart.
              only_next kind fails.stops key
              (λ next here same. apart (next, met-chunks description.grid region k next here, sym same))
              ∙ before.other_keys key apart;
        }

    -- the first k chunks decode under all options, and the others hold what they held
    first_stay : StaysOrDecodes description old.content fails.mid.content
    first_stay chunk is_chunk = ⊎_elim
        (λ (inside : is_among (chunks_meeting description.grid region) chunk ≡ true).
        let (place, e) = at-among (chunks_meeting description.grid region) chunk inside in
        ⊎_elim
        (λ (done : place < k). inr (fails.changed.mended place chunk done e))
        (λ (ahead : k ≤ place). inl (held chunk is_chunk (λ other h e'.
        let same : other ≡ place = met-once description region other place chunk e' e in
        absurd (omega (arith, h, same, ahead)))))
        (cases_lt place k))
        (λ (outside : is_among (chunks_meeting description.grid region) chunk ≡ false).
        inl (held chunk is_chunk
        (λ other h e. never-among (chunks_meeting description.grid region) chunk outside other e)))
        (cases_Bool (is_among (chunks_meeting description.grid region) chunk))
      where
        held : (chunk : List ℕ) → IsChunk description.grid chunk →
            ((place : ℕ) → place < k → ¬ (slice_get (chunks_meeting description.grid region) place ≡ Some chunk)) →
            fails.mid.content (description.key chunk) ≡ old.content (description.key chunk)
        held chunk is_chunk apart = changed-kept description options sound (write_change description region value)
            (chunks_meeting description.grid region) (met-chunks description.grid region)
            k old fails.mid chunk fails.changed is_chunk apart

    -- a chunk is the next one, or has another key
    or_next : (chunk : List ℕ) → IsChunk description.grid chunk → (next : List ℕ) →
        slice_get (chunks_meeting description.grid region) k ≡ Some next → (P : Type 0) →
        (chunk ≡ next → P) → (¬ (description.key chunk ≡ description.key next) → P) → P
    or_next chunk is_chunk next here P one apart = ⊎_elim
        (λ (equal : bytes_eq chunk next ≡ true). one (same_bytes chunk next equal))
        (λ (differs : bytes_eq chunk next ≡ false). apart (λ same.
        true≢false (sym (bytes_eq-refl chunk) ∙ (ap (bytes_eq chunk)
        (sound.keys_apart chunk next is_chunk (met-chunks description.grid region k next here) same) ∙ differs))))
        (cases_Bool (bytes_eq chunk next))

    -- and so does the next one
    next_stays : (kind : SessionErrorKind) → StopsBefore description options (write_change description region value)
        (chunks_meeting description.grid region) k fails.mid new kind →
        StaysOrDecodes description fails.mid.content new.content
    next_stays kind (inl (memory, same)) chunk is_chunk = inl (same (description.key chunk))
    next_stays (NotOpened error) (inr (next, here, never)) chunk is_chunk = absurd never
    next_stays (ChunkDecode key error) (inr (next, here, (its_key, damaged, same))) chunk is_chunk =
        inl (same (description.key chunk))
    next_stays OutOfMemory (inr (next, here, same)) chunk is_chunk = inl (same (description.key chunk))
    next_stays Store (inr (next, here, (rose, stops))) chunk is_chunk = or_next chunk is_chunk next here
        ((new.content (description.key chunk) ≡ fails.mid.content (description.key chunk)) ⊎
        DecodesForAll description new.content chunk)
        (λ equal. subst (λ c. (new.content (description.key c) ≡ fails.mid.content (description.key c)) ⊎
        DecodesForAll description new.content c) (sym equal) (⊎_elim
        (λ (kept : new.content (description.key next) ≡ fails.mid.content (description.key next)). inl kept)
        (λ (mended : IsSome (chunk_content (layout description options) fails.mid.content next) × DecodesForAll
        description new.content next). inr mended.1)
        stops.stays))
        (λ apart. inl (stops.others (description.key chunk) apart))

    write-stays : StaysOrDecodes description old.content new.content
    write-stays =
        stays-append description old.content fails.mid.content new.content first_stay (next_stays kind fails.stops)

    -- a value that does not decode is none of the first k
    damaged_then : (chunk : List ℕ) → IsChunk description.grid chunk →
        chunk_content (layout description options) old.content chunk ≡ None →
        fails.mid.content (description.key chunk) ≡ old.content (description.key chunk)
    damaged_then chunk is_chunk damaged = changed-kept description options sound (write_change description region value)
        (chunks_meeting description.grid region) (met-chunks description.grid region)
        k old fails.mid chunk fails.changed is_chunk
        (λ place below e. true≢false (sym (subst IsSome damaged (fails.changed.decoded place chunk below e))))

    -- and the next one does not change it
    damaged_next : (kind : SessionErrorKind) → StopsBefore description options (write_change description region value)
        (chunks_meeting description.grid region) k fails.mid new kind →
        (chunk : List ℕ) → IsChunk description.grid chunk →
        chunk_content (layout description options) fails.mid.content chunk ≡ None →
        new.content (description.key chunk) ≡ fails.mid.content (description.key chunk)
    damaged_next kind (inl (memory, same)) chunk is_chunk damaged = same (description.key chunk)
    damaged_next (NotOpened error) (inr (next, here, never)) chunk is_chunk damaged = absurd never
    damaged_next (ChunkDecode key error) (inr (next, here, (its_key, none, same))) chunk is_chunk damaged =
        same (description.key chunk)
    damaged_next OutOfMemory (inr (next, here, same)) chunk is_chunk damaged = same (description.key chunk)
    damaged_next Store (inr (next, here, (rose, stops))) chunk is_chunk damaged = or_next chunk is_chunk next here
        (new.content (description.key chunk) ≡ fails.mid.content (description.key chunk))
        (λ equal. ⊎_elim
        (λ (kept : new.content (description.key next) ≡ fails.mid.content (description.key next)).
        subst (λ c. new.content (description.key c) ≡ fails.mid.content (description.key c)) (sym equal) kept)
        (λ (mended : IsSome (chunk_content (layout description options) fails.mid.content next) × DecodesForAll
        description new.content next).
        absurd (true≢false (sym (subst IsSome damaged
        (subst (λ c. IsSome (chunk_content (layout description options) fails.mid.content c)) (sym equal) mended.0)))))
        stops.stays)
        (λ apart. stops.others (description.key chunk) apart)

    write-stands : DamageStands description options (write region value ∷ []) old.content new.content
    write-stands chunk is_chunk damaged none =
        let first = damaged_then chunk is_chunk damaged in
        damaged_next kind fails.stops chunk is_chunk
        (content-same (layout description options) old.content fails.mid.content chunk first ∙ damaged) ∙ first

    pub write-fails : FailsAt description options (write region value ∷ []) old new (Some (0, k)) kind
    write-fails = record {
      place = (write region value, refl, few);
      puts = (
        write region value,
        refl,
        ⊎_elim
            (λ (done : new.puts ≡ counted old.puts k). inl (omega (arith, done)))
            (λ (next : (k < length (chunks_meeting description.grid region)) × (new.puts ≡ counted old.puts (k + 1))).
            inr (subst (λ chunks. k < length chunks) (sym write-listed) next.0, omega (arith, next.1)))
            fails.puts,
      );
      keys = write-fails-keys;
      stored = write-stays;
      damage = write-stands;
      left = left_by kind fails.stops;
      decoded = decoded-one description options (write region value) old.content k
          (λ number chunk below here. inl (fails.changed.decoded number chunk below (in_region number chunk here)));
      cause = write-cause kind fails.stops;
    }
