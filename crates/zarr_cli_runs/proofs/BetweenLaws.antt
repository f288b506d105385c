-- What a run leaves, also where it ended early.
use Rattle.std.proofs.Common.{◌≡◌, ◌-◌, ◌^◌, ◌<◌, ◌≤◌, ℕ, zero, suc, true, false, take, slice_get, Bool, List, []}
use Rattle.std.proofs.Common.{length, Option, Some, None, IsSome, inl, inr, ⊎_elim, ◌⊎◌, refl, sym, ap, ◌∙◌, subst}
use Rattle.std.proofs.Common.{subst₂, arith, not}
use Rattle.std.proofs.Math.Path.{fun_ext}
use Rattle.std.proofs.lemmas.Option.{same_Some, slice_get_within, get_or_from_slice_get}
use Rattle.zarr_model.specs.Prelude.{Element, Array, Means, is_damaged, Options, Content, IsHonest, IsChunk}
use Rattle.zarr_model.specs.Prelude.{Refusal, read, write, erase, asks_store, with_keys, Command, Description, layout}
use Rattle.zarr_model.specs.Prelude.{chunk_content, Shown, Rose, EndsBetween, SetsSome, LeavesArray, LeavesKeys}
use Rattle.zarr_model.specs.Prelude.{AsksUpTo, PutsUpTo, counted, begun, IsLeftAt, IsLeftBut, IsStarved, IsUndecoded}
use Rattle.zarr_model.specs.Prelude.{SeesNoDamage, IsDamageSeen, MeetsNoDamage, command_chunks, passes_over, refusal}
use Rattle.zarr_model.proofs.KeyLineLaws.{key-lines}
use Rattle.zarr_model.proofs.WithoutLaws.{without-none}
use Rattle.zarr_model.proofs.Choices.{none_some}
use Rattle.zarr_model.proofs.DamageLaws.{listed_at}
use Rattle.zarr_model.specs.Cost.{chunks_under}
use Rattle.zarr_model.proofs.FailureLaws.{meeting_is}
use Rattle.zarr_cli_runs.specs.array.parts.Opening.{OpenRefusal}
use Rattle.zarr_cli_runs.specs.array.parts.OpenError.{open_refusal_of}
use Rattle.zarr_array.specs.Session.{FailsAt, FailsBy, HasSessionCause, IsNoticed, is_store}
use Rattle.zarr_array.specs.Decoded.{AreDecoded}
use Rattle.zarr_array.specs.Stored.{StaysOrDecodes, DamageStands}
use Rattle.zarr_array.specs.declared.command_error.SessionErrorKind.{SessionErrorKind}
use Rattle.zarr_array.specs.declared.command_error.SessionErrorKind.TheVariants.{NotOpened, ChunkDecode}
use Rattle.zarr_array.specs.declared.command_error.SessionErrorKind.TheVariants as Kind
use Rattle.zarr_cli_runs.specs.Ending.{Ending, store_fault, out_of_memory}
use Rattle.zarr_cli_runs.specs.Between.{with_entries, IsBetween, IsEndingBy, EndsAlong, LeavesBetween}
use Rattle.zarr_cli_runs.specs.Commands.{MeansUndamaged, LeavesUndamaged, session_status}
use Rattle.zarr_cli_runs.specs.Status.{ending_of, refused_by}
use Rattle.zarr_cli_runs.specs.declared.status.Status.{Status}
use Rattle.zarr_cli_runs.specs.declared.status.Status.TheVariants.{Document, Store, OutOfMemory}

abbrev no_entries : List (List ℕ × List ℕ)
no_entries = []

none_listed : (n : ℕ) (entry : List ℕ × List ℕ) → slice_get no_entries n ≡ Some entry → ⊥
none_listed zero entry e = cc
none_listed (suc n) entry e = cc

-- the chunks that a read or a write meets are chunks
pub asked_chunk : (description : Description) (why : Option Refusal) (command : Command) (place : ℕ) (chunk : List ℕ) →
    slice_get (chunks_under description why command) place ≡ Some chunk → asks_store command ≡ true →
    IsChunk description.grid chunk
asked_chunk description (Some why) command place chunk e asks = cc
asked_chunk description None (read region) place chunk e asks = (meeting_is description.grid region place chunk e).0
asked_chunk description None (write region value) place chunk e asks =
    (meeting_is description.grid region place chunk e).0
asked_chunk description None (erase own) place chunk e asks = cc

-- an honest store has no damage, so none is seen
pub honest_sees_none : (description : Description) (options : Options) (commands : List Command) (store : Content) →
    IsHonest (layout description options) store →
    SeesNoDamage description options commands store
honest_sees_none description options commands store honest = record {
  no_key = λ key (m, command, which, asks, chunk, listed, its_key, unerased, damage, noticed).
      let (k, here) = listed_at (command_chunks description command) chunk listed in
      none_some (chunk_content (layout description options) store chunk) damage
      (honest chunk (asked_chunk description (refusal description command) command k chunk here asks));
}

-- nor is any met
pub honest_meets_none : (description : Description) (options : Options) (commands : List Command) (store : Content) →
    IsHonest (layout description options) store →
    MeetsNoDamage description options commands store
honest_meets_none description options commands store honest = record {
  no_key = λ key (m, command, which, asks, chunk, listed, its_key, unerased, damage).
      let (k, here) = listed_at (command_chunks description command) chunk listed in
      none_some (chunk_content (layout description options) store chunk) damage
      (honest chunk (asked_chunk description (refusal description command) command k chunk here asks));
}

-- a value at a place that does not decode, and that the command there may not pass over, was seen
pub noticed_seen : (description : Description) (options : Options) (commands : List Command)
    (old new : Content) (key : List ℕ) (m k : ℕ) → IsUndecoded description options commands old new key (Some (m, k)) →
    IsNoticed description options commands old (Some (m, k)) → IsDamageSeen description options commands old key
noticed_seen description options commands old new key m k
    (command, which, asks, chunk, here, its_key, same_value, unerased, damage) (other, too, another, there, noticed) =
    let same : other ≡ command = same_Some other command (sym too ∙ which) in
    let its : another ≡ chunk =
    same_Some another chunk (sym there ∙ (ap (λ c. slice_get (command_chunks description c) k) same ∙ here)) in
    let within : k < length (command_chunks description command) =
    slice_get_within (command_chunks description command) k chunk here in (
      m,
      command,
      which,
      asks,
      chunk,
      (k, within, get_or_from_slice_get (command_chunks description command) k chunk chunk here),
      its_key,
      unerased,
      damage,
      subst₂ (λ c i. passes_over description options old c i ≡ false) same its noticed,
    )

module _ (once : Bool) (description : Description) (options : Options) (entries : List (List ℕ × List ℕ))
    (commands : List Command) (before now : Shown) (ending : Ending) where
  -- some key lines are set
  pub between_set : (n : ℕ) → SetsSome entries n before.content now.content →
      LeavesBetween once description options entries commands before now ending
  between_set n set = record { honest = λ honest. inl (inl (n, set)); along = inl (n, set) }

  -- nothing was changed
  pub between_untouched : ((key : List ℕ) → now.content key ≡ before.content key) →
      LeavesBetween once description options entries commands before now ending
  between_untouched same = between_set 0 (record {
    few = omega arith;
    next = λ entry e. inl (same entry.0);
    others = λ key apart. same key;
  })

  -- all commands ran
  pub between_ran : LeavesArray description options commands (with_keys entries before.content) now.content →
      LeavesUndamaged description options commands (with_keys entries before.content) now.content →
      LeavesBetween once description options entries commands before now ending
  between_ran left mended = record { honest = λ honest. inl (inr (inr left)); along = inr (inr mended) }

-- an error at a place, seen from a store that shows the same
module _ (description : Description) (options : Options) (commands : List Command)
    (before mid now : Shown) (content : mid.content ≡ before.content) (asks : mid.asks ≡ before.asks) (puts : mid.puts ≡
    before.puts) (later : before.faults ≤ mid.faults) where
  earlier_cause : (at : Option (ℕ × ℕ)) (kind : SessionErrorKind) → HasSessionCause description options commands mid now
      at kind → HasSessionCause description options commands before now at kind
  earlier_cause at (NotOpened error) cause = cause
  earlier_cause at (ChunkDecode key error) cause = subst (λ store. IsUndecoded description options commands store
      now.content key at × IsNoticed description options commands store at) content cause
  earlier_cause at Kind.Store cause = (
    (let above = cause.0 in omega (arith, above)),
    cause.1,
    subst (λ store. IsHonest (layout description options) store →
        IsLeftAt description options commands store now.content true at) content cause.2,
  )
  earlier_cause at Kind.OutOfMemory cause =
      subst (λ store. IsStarved description options commands store now.content at) content cause

  earlier_at : (at : Option (ℕ × ℕ)) (kind : SessionErrorKind) → FailsAt description options commands mid now at kind →
      FailsAt description options commands before now at kind
  earlier_at at kind fails = record {
    place = fails.place;
    puts = subst (λ (n : ℕ). PutsUpTo description commands n now.puts at) puts fails.puts;
    keys = subst (λ store. LeavesKeys description options (begun commands at) store now.content) content fails.keys;
    stored = subst (λ store. StaysOrDecodes description store now.content) content fails.stored;
    damage =
        subst (λ store. DamageStands description options (begun commands at) store now.content) content fails.damage;
    left =
        subst (λ store. IsLeftBut description options commands store now.content (is_store kind) at) content fails.left;
    decoded = subst (λ store. AreDecoded description options commands store at) content fails.decoded;
    cause = earlier_cause at kind fails.cause;
  }

  pub earlier_failed : (once : Bool) (at : Option (ℕ × ℕ)) (kind : SessionErrorKind) → FailsBy once description options
      commands mid now at kind → FailsBy once description options commands before now at kind
  earlier_failed once at kind fails = record {
    on = earlier_at at kind fails.on;
    asks = λ told. subst (λ (n : ℕ). AsksUpTo description commands n now.asks at) asks (fails.asks told);
  }

module _ (once : Bool) (description : Description) (options : Options) (commands : List Command)
    (before now : Shown) where
  -- a session ended at a place, over an honest store
  honest_ended : (at : Option (ℕ × ℕ)) (kind : SessionErrorKind) →
      HasSessionCause description options commands before now at kind →
      IsHonest (layout description options) before.content →
      IsBetween description options [] commands before now (ending_of (session_status kind))
  honest_ended at (NotOpened error) cause honest = absurd cause
  honest_ended None (ChunkDecode key error) cause honest = absurd cause.0
  honest_ended (Some place) (ChunkDecode key error) cause honest =
      absurd ((honest_sees_none description options commands before.content honest).no_key key
      (noticed_seen description options commands before.content now.content key place.0 place.1 cause.0 cause.1))
  honest_ended None Kind.Store cause honest = absurd (let none : IsSome none_place = cause.1 in cc)
    where
      none_place : Option (ℕ × ℕ)
      none_place = None
  honest_ended (Some place) Kind.Store cause honest = inr (refl, cause.0, inr (inl (place.0, place.1, cause.2 honest)))
  honest_ended None Kind.OutOfMemory cause honest = inl (inl (
    0,
    record {
      few = omega arith;
      next = λ entry e. inl (cause entry.0);
      others = λ key apart. cause key;
    },
  ))
  honest_ended (Some place) Kind.OutOfMemory cause honest = inl (inr (inl (place.0, place.1, cause honest)))

  told_by : (at : Option (ℕ × ℕ)) (kind : SessionErrorKind) → HasSessionCause description options commands before now at
      kind → IsEndingBy kind (ending_of (session_status kind))
  told_by at (NotOpened error) cause = absurd cause
  told_by at (ChunkDecode key error) cause = inl refl
  told_by at Kind.Store cause = refl
  told_by at Kind.OutOfMemory cause = refl

  -- and over any store
  pub between_failed : before.puts ≤ 2 ^ 64 - 1 → (at : Option (ℕ × ℕ)) (kind : SessionErrorKind) →
      FailsBy once description options commands before now at kind →
      LeavesBetween once description options [] commands before now (ending_of (session_status kind))
  between_failed few at kind fails = record {
    honest = honest_ended at kind fails.on.cause;
    along = inr (inl (
      at,
      kind,
      told_by at kind fails.on.cause,
      earlier_failed description options commands (with_entries [] before) before now refl refl (omega (arith, few))
          (omega arith) once at kind fails,
    ));
  }

  -- what commands leave is left where nothing more was changed
  pub between_still : (mid : Shown) (ending : Ending) → LeavesArray description options commands before.content
      mid.content → LeavesUndamaged description options commands before.content mid.content →
      now.content ≡ mid.content → LeavesBetween once description options [] commands before now ending
  between_still mid ending left mended same = between_ran once description options [] commands before now ending
      (subst (LeavesArray description options commands before.content) (sym same) left)
      (subst (LeavesUndamaged description options commands before.content) (sym same) mended)

-- commands behind key lines that are set
pub between_keys : (once : Bool) (description : Description) (options : Options) (entries : List (List ℕ × List ℕ))
    (commands : List Command) (before mid now : Shown) (ending : Ending) →
    mid.content ≡ with_keys entries before.content → mid.asks ≡ before.asks →
    mid.puts ≡ counted before.puts (length entries) → before.faults ≤ mid.faults →
    LeavesBetween once description options [] commands mid now ending →
    LeavesBetween once description options entries commands before now ending
between_keys once description options entries commands before mid now ending set asks puts later left = record {
  honest = λ honest.
      ⊎_elim
      (λ (ends : EndsBetween description options [] commands false mid.content now.content). inl (behind false ends))
      (λ (stopped : (ending ≡ store_fault) × Rose mid.faults now.faults × EndsBetween description options [] commands
      true mid.content now.content).
      inr (stopped.0, (let above = stopped.1 in omega (arith, above)), behind true stopped.2))
      (left.honest (subst (IsHonest (layout description options)) (sym set) honest));
  along = beyond left.along;
}
  where
    all_set : (n : ℕ) → SetsSome no_entries n mid.content now.content →
        SetsSome entries (length entries) before.content now.content
    all_set n some = (key-lines entries).done before.content now.content
        (λ key. some.others key (λ entry e. absurd (none_listed n entry e))
        ∙ (ap (λ es. with_keys es mid.content key) (none_taken n) ∙ ap (λ store. store key) set))
      where
        none_taken : (n : ℕ) → take n no_entries ≡ []
        none_taken zero = refl
        none_taken (suc n) = refl

    behind : (by_store : Bool) → EndsBetween description options [] commands by_store mid.content now.content →
        EndsBetween description options entries commands by_store before.content now.content
    behind by_store (inl (n, some)) = inl (length entries, all_set n some)
    behind by_store (inr (inl (m, k, cut))) = inr (inl
        (m, k, subst (λ store. IsLeftAt description options commands store now.content by_store (Some (m, k))) set cut))
    behind by_store (inr (inr all)) =
        inr (inr (subst (λ store. LeavesArray description options commands store now.content) set all))

    beyond : EndsAlong once description options [] commands mid now ending →
        EndsAlong once description options entries commands before now ending
    beyond (inl (n, some)) = inl (length entries, all_set n some)
    beyond (inr (inl (at, kind, told, fails))) =
        inr (inl (
          at,
          kind,
          told,
          earlier_failed description options commands (with_entries entries before)
              (with_entries no_entries mid) now set asks (omega (arith, puts)) later once at kind fails,
        ))
    beyond (inr (inr mended)) =
        inr (inr (subst (λ store. LeavesUndamaged description options commands store now.content) set mended))

-- the line of a status other than that of a fault of the store may want memory
pub between_last : (once : Bool) (description : Description) (options : Options) (entries : List (List ℕ × List ℕ))
    (commands : List Command) (before now : Shown) (status last : Status) →
    (last ≡ status) ⊎ (last ≡ OutOfMemory) → (status ≡ Store → last ≡ Store) →
    LeavesBetween once description options entries commands before now (ending_of status) →
    LeavesBetween once description options entries commands before now (ending_of last)
between_last once description options entries commands before now status last (inl same) kept left =
    subst (λ s. LeavesBetween once description options entries commands before now (ending_of s)) (sym same) left
between_last once description options entries commands before now status last (inr memory) kept left =
    subst (λ s. LeavesBetween once description options entries commands before now (ending_of s)) (sym memory)
    (wanting status (λ is. stays (kept is)) left)
  where
    stays : last ≡ Store → ⊥
    stays is = let both : Store ≡ OutOfMemory = sym is ∙ memory in cc

    no_fault : (status : Status) → ¬ (status ≡ Store) → ending_of status ≡ store_fault → ⊥
    no_fault Store other is = other refl
    no_fault (Document error) other is = refused (open_refusal_of error) is
      where
        refused : (why : Option OpenRefusal) → refused_by why ≡ store_fault → ⊥
        refused None e = cc
        refused (Some why) e = cc
    no_fault status other is = cc

    in_place : (status : Status) → ¬ (status ≡ Store) → (kind : SessionErrorKind) → IsEndingBy kind (ending_of status) →
        IsEndingBy kind out_of_memory
    in_place status other (NotOpened error) told = told
    in_place status other (ChunkDecode key error) told = inr refl
    in_place status other Kind.Store told = absurd (no_fault status other told)
    in_place status other Kind.OutOfMemory told = refl

    wanting : (status : Status) → ¬ (status ≡ Store) → LeavesBetween once description options entries commands before
        now (ending_of status) → LeavesBetween once description options entries commands before now out_of_memory
    wanting status other left = record {
      honest = λ honest.
          ⊎_elim
          (λ (ends : EndsBetween description options entries commands false before.content now.content). inl ends)
          (λ (stopped : (ending_of status ≡ store_fault) × Rose before.faults now.faults × EndsBetween description
          options entries commands true before.content now.content). absurd (no_fault status other stopped.0))
          (left.honest honest);
      along = at left.along;
    }
      where
        at : EndsAlong once description options entries commands before now (ending_of status) →
            EndsAlong once description options entries commands before now out_of_memory
        at (inl set) = inl set
        at (inr (inl (place, kind, told, fails))) = inr (inl (place, kind, in_place status other kind told, fails))
        at (inr (inr mended)) = inr (inr mended)

-- an array that a store means is the one that it means without its damage, since it has none
pub means_undamaged : (description : Description) (options : Options) (commands : List Command)
    (store : Content) (array : Array Element) →
    Means (layout description options) store array → MeansUndamaged description options commands store array
means_undamaged description options commands store array meant = (
  honest_meets_none description options commands store meant.honest,
  subst (λ content. Means (layout description options) content array)
      (sym (fun_ext (without-none (layout description options) (is_damaged (layout description options) store) store
      (λ chunk is_chunk. ap not (meant.honest chunk is_chunk))))) meant,
)
