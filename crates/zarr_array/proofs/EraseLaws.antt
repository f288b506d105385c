-- An erase as a command of a session.
use Rattle.std.proofs.Common.{◌≡◌, ℕ, zero, suc, ◌-◌, ◌^◌, ◌≤◌, ◌&&◌, ◌||◌, ◌⊎◌, true, false, if◌then◌else◌, bytes_eq}
use Rattle.std.proofs.Common.{List, [], ◌∷◌, replicate, slice_get, Option, Some, None, IsSome, is_some, refl, sym, ap}
use Rattle.std.proofs.Common.{◌∙◌, subst, arith, inl, inr, ⊎_elim, IsTrue, length}
use Rattle.std.specs.List.{list_any}
use Rattle.std.proofs.lemmas.Bool.{cases_Bool, cond-true, cond-false, true≢false, or_parts, or_from}
use Rattle.zarr_model.specs.Prelude.{count, Element, Array, IsChunk, CoversShape, Options, Content, IsSound}
use Rattle.zarr_model.specs.Prelude.{box_content, chunk_content, Shown, erase, Description, kind, layout, refusal}
use Rattle.zarr_model.specs.Prelude.{reply_of, array_of, after, answered_done, Matches, chunks_under, command_chunks}
use Rattle.zarr_model.specs.Prelude.{asks_store, is_among, present_in, present_under, present_after, erases_chunk}
use Rattle.zarr_model.specs.Prelude.{IsDamageSeen, SeesNoDamage, KeepsDamage, IsLeftAt, Rose, PutsKey, MayPutKey}
use Rattle.zarr_model.specs.Prelude.{ChunkHas, LeavesKeys, ServesWhole, Changes, ChangedFirst, StopsAt, counted}
use Rattle.zarr_model.proofs.FailureLaws.{same_bytes, bytes_eq-refl, listed_is_chunk, part_way-start, part_way-fails}
use Rattle.zarr_model.proofs.FailureLaws.{erase-done}
use Rattle.zarr_model.proofs.LeftLaws.{left_at}
use Rattle.zarr_model.proofs.RanLaws.{RanOver-erase}
use Rattle.zarr_array.specs.declared.command_error.SessionErrorKind.TheVariants.{Store, OutOfMemory}
use Rattle.zarr_array.proofs.HasRun.{HasRun}
use Rattle.zarr_array.specs.Stored.{DecodesForAll, IsChanged, StoresForAll, StaysOrDecodes}
use Rattle.zarr_array.specs.Session.{FailsAt}
use Rattle.zarr_array.proofs.DecodedLaws.{decoded-start}
use Rattle.zarr_array.proofs.StepRuns.{command-starved}

-- what was put may have been put
pub MayPutKey-from : (old new : Content) (key : List ℕ) (value : Option (List ℕ)) → PutsKey old new key value →
    MayPutKey old new key value
MayPutKey-from old new key value puts = record { here = inr (inl puts.here); others = puts.others }

-- an erase asks for no chunk, and so sees no damage
pub SeesNoDamage-erase : (description : Description) (options : Options) (chunk : List ℕ) (store : Content) →
    SeesNoDamage description options (erase chunk ∷ []) store
SeesNoDamage-erase description options chunk store = record { no_key = unmet }
  where
    unmet : (key : List ℕ) → IsDamageSeen description options (erase chunk ∷ []) store key → ⊥
    unmet key (zero, command, is, asks, _, _, _, _, _, _) =
        let same : erase chunk ≡ command = cc in
        true≢false (sym (subst (λ c. asks_store c ≡ true) (sym same) asks))
    unmet key (suc m, command, is, _, _, _, _, _, _, _) = cc

module _ (description : Description) (covers : CoversShape description.shape description.grid)
    (options : Options) (sound : IsSound (layout description options)) (chunk : List ℕ)
    (accepted : refusal description (erase chunk) ≡ None) where
  erase-listed : command_chunks description (erase chunk) ≡ chunk ∷ []
  erase-listed = ap (λ why. chunks_under description why (erase chunk)) accepted

  erased_is_chunk : IsChunk description.grid chunk
  erased_is_chunk = listed_is_chunk description covers None (erase chunk) accepted 0 chunk refl

  -- a chunk is the erased one, or has another key
  one_or_other : (other : List ℕ) → IsChunk description.grid other → (P : Type 0) →
      (other ≡ chunk → bytes_eq other chunk ≡ true → P) →
      (¬ (description.key other ≡ description.key chunk) → bytes_eq other chunk ≡ false → P) → P
  one_or_other other is_other P one apart = ⊎_elim
      (λ (same : bytes_eq other chunk ≡ true). one (same_bytes other chunk same) same)
      (λ (differs : bytes_eq other chunk ≡ false). apart
      (λ same. true≢false (sym (bytes_eq-refl other)
      ∙ (ap (bytes_eq other) (sound.keys_apart other chunk is_other erased_is_chunk same) ∙ differs))) differs)
      (cases_Bool (bytes_eq other chunk))

  -- another chunk is not among those of the erase
  not_erased : (other : List ℕ) → bytes_eq other chunk ≡ false →
      is_among (command_chunks description (erase chunk)) other ≡ false
  not_erased other differs =
      ap (λ chunks. is_among chunks other) erase-listed ∙ or_from (bytes_eq other chunk) false differs refl

  is_erased : is_among (command_chunks description (erase chunk)) chunk ≡ true
  is_erased = ap (λ chunks. is_among chunks chunk) erase-listed ∙ ap (λ b. b || false) (bytes_eq-refl chunk)

  -- no other key is touched
  pub erase-keys : (old new : Content) → MayPutKey old new (description.key chunk) None →
      LeavesKeys description options (erase chunk ∷ []) old new
  erase-keys old new puts = record {
    same_chunks =
        λ other is_other none. one_or_other other is_other (new (description.key other) ≡ old (description.key other))
        (λ same equal. absurd
        (true≢false (sym is_erased ∙ subst (λ c. is_among (command_chunks description (erase chunk)) c ≡ false) same
        (or_parts (is_among (command_chunks description (erase chunk)) other) false none).0)))
        (λ apart differs. puts.others (description.key other) apart);
    other_keys = λ key apart. puts.others key (λ same. apart (chunk, erased_is_chunk, sym same));
  }

  module _ (old new : Content) (puts : PutsKey old new (description.key chunk) None) where
    erase-presence : (array : Array Element) (other : List ℕ) → IsChunk description.grid other → present_in description
        new other ≡ present_after description options (erase chunk ∷ []) array (present_in description old) other
    erase-presence array other is_other = subst
        (λ why. present_in description new other ≡ present_under description options why (erase chunk)
        (array_of description why (erase chunk) array) (present_in description old) other)
        (sym accepted)
        (one_or_other other is_other
        (present_in description new other ≡ (if bytes_eq other chunk then false else present_in description old other))
        (λ same equal. ap (present_in description new) same ∙
        (ap is_some puts.here ∙ sym (cond-true (bytes_eq other chunk) false (present_in description old other) equal)))
        (λ apart differs. ap is_some (puts.others (description.key other) apart)
        ∙ sym (cond-false (bytes_eq other chunk) false (present_in description old other) differs)))

    pub erase-serves : ServesWhole description options (erase chunk ∷ []) old new (answered_done ∷ [])
    erase-serves = record {
      answers_match = λ array meant. (
        subst (λ why.
            Matches (kind description) answered_done (reply_of why (erase chunk) array)) (sym accepted) tt,
        tt,
      );
      whole_chunks = λ array meant. erase-done description covers options sound chunk array old new accepted meant puts;
      presence = λ array other meant is_other. erase-presence array other is_other;
      keys = erase-keys old new (MayPutKey-from old new (description.key chunk) None puts);
    }

    pub KeepsDamage-erase : KeepsDamage description options (erase chunk ∷ []) old new
    KeepsDamage-erase = record {
      each = λ other is_other. one_or_other other is_other
          (IsSome (chunk_content (layout description options) new other) ⊎ ((new (description.key other) ≡
          old (description.key other)) × (list_any (erases_chunk description other) (erase chunk ∷ []) ≡ false)))
          (λ same equal. inl (subst (λ c. IsSome (chunk_content (layout description options) new c)) (sym same)
          (subst IsSome
          (sym (ap (box_content (layout description options) (description.grid.chunk_box chunk)) puts.here)) refl)))
          (λ apart differs. inr (
            puts.others (description.key other) apart,
            or_from (is_among (command_chunks description (erase chunk)) other) false (not_erased other differs) refl,
          ));
      stands = λ other is_other damaged none.
          (erase-keys old new (MayPutKey-from old new (description.key chunk) None puts)).same_chunks other is_other
          none;
    }

    erase-stored : StoresForAll description options (erase chunk ∷ []) old new
    erase-stored = record {
      decodes = λ other is. erased_alone other is (DecodesForAll description new other) (λ same under.
          subst (λ c. IsSome (chunk_content (layout description under) new c)) (sym same)
          (subst IsSome (sym (gone under)) refl));
      left = λ meant other under means is. erased_alone other is
          (ChunkHas (layout description under) new (after description (erase chunk) meant) other) (λ same.
          subst (ChunkHas (layout description under) new (after description (erase chunk) meant)) (sym same)
          (gone under ∙ (sym (gone options) ∙ (erase-done description covers options sound chunk meant old new accepted
          means puts).each_chunk chunk erased_is_chunk)));
    }
      where
        gone : (under : Options) → chunk_content (layout description under) new chunk ≡
            Some (replicate (count (description.grid.chunk_box chunk)) description.fill)
        gone under = ap (box_content (layout description under) (description.grid.chunk_box chunk)) puts.here

        -- the erased chunk alone is changed
        erased_alone : (other : List ℕ) → IsChanged description (erase chunk ∷ []) other → (P : Type 0) →
            (other ≡ chunk → P) → P
        erased_alone other is P one = one_or_other other is.is_chunk P
            (λ same equal. one same)
            (λ apart differs. absurd (true≢false (sym is.changed ∙
            or_from (is_among (command_chunks description (erase chunk)) other) false (not_erased other differs) refl)))

  -- an erase whose key is gone ran
  pub erase-ran : (before now : Shown) → PutsKey before.content now.content (description.key chunk) None →
      now.puts ≡ counted before.puts 1 → before.faults ≤ now.faults →
      HasRun description options (erase chunk ∷ []) before now (answered_done ∷ [])
  erase-ran before now puts put later = record {
    serves = erase-serves before.content now.content puts;
    refusals = ap (λ why. why ∷ []) (sym accepted);
    refused = λ all. absurd (true≢false (sym all ∙ ap (λ why. is_some why && true) accepted));
    puts = omega (arith, put, ap length erase-listed);
    damage = KeepsDamage-erase before.content now.content puts;
    undamaged = SeesNoDamage-erase description options chunk before.content;
    erased = λ none array other is_other. erase-presence before.content now.content puts array other is_other;
    stored = erase-stored before.content now.content puts;
    over = RanOver-erase description options covers sound chunk before.content now.content accepted puts
        (KeepsDamage-erase before.content now.content puts);
    later = later;
  }

  -- a key that is old or absent stays, or decodes
  erase-stays : (old new : Content) → MayPutKey old new (description.key chunk) None →
      StaysOrDecodes description old new
  erase-stays old new puts other is_other = one_or_other other is_other
      ((new (description.key other) ≡ old (description.key other)) ⊎ DecodesForAll description new other)
      (λ same equal. subst (λ c. (new (description.key c) ≡ old (description.key c)) ⊎ DecodesForAll description new c)
      (sym same) (⊎_elim
      (λ (kept : new (description.key chunk) ≡ old (description.key chunk)). inl kept)
      (λ (put : (new (description.key chunk) ≡ None) ⊎ (new (description.key chunk) ≡ None)).
      inr (⊎_elim (absent) (absent) put))
      puts.here))
      (λ apart differs. inl (puts.others (description.key other) apart))
    where
      absent : new (description.key chunk) ≡ None → DecodesForAll description new chunk
      absent gone under =
          subst IsSome (sym (ap (box_content (layout description under) (description.grid.chunk_box chunk)) gone)) refl

  -- the store failed in an erase: the chunk's key is old.content or absent
  pub erase-fails : (old new : Shown) → MayPutKey old.content new.content (description.key chunk) None →
      Rose old.faults new.faults →
      new.puts ≡ counted old.puts 1 → FailsAt description options (erase chunk ∷ []) old new (Some (0, 0)) Store
  erase-fails old new puts rose put = record {
    place = (erase chunk, refl, omega arith);
    puts = (erase chunk, refl, inr (let one = ap length erase-listed in omega (arith, one), put));
    keys = erase-keys old.content new.content puts;
    stored = erase-stays old.content new.content puts;
    damage = λ other is_other damaged none. (erase-keys old.content new.content puts).same_chunks other is_other none;
    left = left_at description options covers sound (erase chunk) old.content 0 old.content none_changed chunk (ap
        (λ chunks. slice_get chunks 0) erase-listed) true new.content stops (λ asks. absurd (true≢false (sym asks)));
    decoded = decoded-start description options (erase chunk) old.content;
    cause = (rose, refl, λ honest. left);
  }
    where
      none_changed : ChangedFirst description options (after description (erase chunk))
          (command_chunks description (erase chunk)) 0 old.content old.content
      none_changed = record {
        decoded = λ place other h e. absurd (omega (arith, h));
        holds = λ array place other is_fill h e had. absurd (omega (arith, h));
        others = λ key apart. refl;
      }

      stops : StopsAt description options (after description (erase chunk)) chunk (IsTrue true × Changes (erase chunk))
          old.content new.content
      stops = record {
        here = λ array is_fill had. ⊎_elim
            (λ (kept : new.content (description.key chunk) ≡ old.content (description.key chunk)). inl kept)
            (λ (put : (new.content (description.key chunk) ≡ None) ⊎ (new.content (description.key chunk) ≡ None)).
            inr (inr (
              (refl, tt),
              ⊎_elim (λ (gone : new.content (description.key chunk) ≡ None). gone)
                  (λ (gone : new.content (description.key chunk) ≡ None). gone) put,
            )))
            puts.here;
        others = puts.others;
      }

      left : IsLeftAt description options (erase chunk ∷ []) old.content new.content true (Some (0, 0))
      left array meant = (
        erase chunk,
        refl,
        part_way-fails description covers options sound (erase chunk) 0 chunk true array (after description
            (erase chunk) array) old.content new.content (ap (λ chunks. slice_get chunks 0) erase-listed)
            (part_way-start description covers options sound (erase chunk) array old.content meant)
            (⊎_elim
            (λ (kept : new.content (description.key chunk) ≡ old.content (description.key chunk)). inl kept)
            (λ (put : (new.content (description.key chunk) ≡ None) ⊎ (new.content (description.key chunk) ≡ None)).
            inr (inr (
              refl,
              tt,
              ⊎_elim (λ (gone : new.content (description.key chunk) ≡ None). gone)
                  (λ (gone : new.content (description.key chunk) ≡ None). gone) put,
            )))
            puts.here)
            puts.others,
      )

-- memory ran out before the call of an erase
pub erase-starved : (description : Description) → CoversShape description.shape description.grid → (options : Options) →
    IsSound (layout description options) → (chunk : List ℕ) (store : Shown) → store.puts ≤ 2 ^ 64 - 1 →
    FailsAt description options (erase chunk ∷ []) store store (Some (0, 0)) OutOfMemory
erase-starved description covers options sound chunk = command-starved description covers options sound (erase chunk)
