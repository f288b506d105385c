-- A run that is made from a number: its array, its summary, and what it owes.
use Rattle.std.proofs.Common.{◌≡◌, Bool, true, ℕ, ◌-◌, ◌^◌, ◌≤◌, List, [], Some, None, Result, Ok, Err, IfErr, MatchResult}
use Rattle.std.proofs.Common.{Vec, ◌⊎◌, ⊎_elim, inl, inr, refl, sym, ap, ◌∙◌, subst}
use Rattle.std.specs.declared.alloc.Global.{Global}
use Rattle.zarr_model.specs.Prelude.{Options, Description, Command, Shown, Given, Rose, IsDamageSeen, SeesNoDamage}
use Rattle.zarr_cli_runs.specs.MadeCommands.{made_commands}
use Rattle.zarr_cli_runs.specs.array.parts.declared.open_error.OpenError.TheVariants as OpenError
use Rattle.zarr_cli_runs.specs.Between.{LeavesBetween}
use Rattle.zarr_cli_runs.specs.Commands.{IsChangedKey, IsRunFault, EndsAtDamage}
use Rattle.zarr_cli_runs.specs.Job.{job, Did}
use Rattle.zarr_cli_runs.proofs.JobLaws.{alone_fault, no_key}
use Rattle.zarr_cli_runs.proofs.BetweenLaws.{between_ran, between_last}
use Rattle.zarr_cli_runs.specs.Ending.{IsGiven, IsGivenFront, IsGivenLine, ending_line, IsBeforeStore}
use Rattle.zarr_cli_runs.specs.Ending.{IsWritten, damaged_chunk}
use Rattle.zarr_cli_runs.specs.Ending as end
use Rattle.zarr_cli_runs.specs.Status.{ending_of}
use Rattle.zarr_cli_runs.specs.Made.{made_array, SumsAll}
use Rattle.zarr_cli_runs.specs.declared.status.Status.{Status}
use Rattle.zarr_cli_runs.specs.declared.status.Status.TheVariants.{Done, BadWords, BadInput, Document, Chunk, Store}
use Rattle.zarr_cli_runs.specs.declared.status.Status.TheVariants.{Read, Write, TooLong, OutOfMemory}
use Rattle.zarr_cli.specs.Words.{Settings, settings_of, HasBadWords}
use Rattle.zarr_cli.specs.Written.{WritesText, EndsWith}
use Rattle.zarr_cli.proofs.EndingLemmas.{begun, is_done, is_write}
use Rattle.zarr_cli.specs.Made.{AnswersMade}
use Rattle.zarr_cli.specs.ProgramAnswers.{Ends}
use Rattle.zarr_cli.specs.Seen.{ProgramSeen}

-- a made run
abbrev DidMade : ℕ → Options → Shown → Shown → Result (Vec ℕ Global) Status → Type 0
DidMade number options before now result =
    Did (job true made_array options [] (made_commands number)) ⊥ before now result
    (λ text. SumsAll made_array options (made_commands number) before now text.items)

made_fault : (number : ℕ) (options : Options) (before now : Shown) → before.puts ≤ 2 ^ 64 - 1 →
    (result : Result (Vec ℕ Global) Status) → DidMade number options before now result →
    IfErr result (λ status. IsRunFault true made_array options (made_commands number) before now status)
made_fault number options before now few result =
    alone_fault true made_array options (made_commands number) ⊥ before now few result
    (λ text. SumsAll made_array options (made_commands number) before now text.items)

-- what a made run owes, from each of its ends
module _ (number : ℕ) (options : Options) (before now : ProgramSeen) where
  pub made_done : (text : List ℕ) → SumsAll made_array options (made_commands number) before.store now.store text →
      IsGiven text before.sink.bytes now.sink.bytes → now.source ≡ before.source →
      ((key : List ℕ) → ¬ IsChangedKey made_array (made_commands number) key →
      now.store.content key ≡ before.store.content key) →
      AnswersMade number options before now end.done
  made_done text did given unread unchanged = record {
    done = λ is. (text, did.sums, given);
    asks = λ written. did.asks;
    puts = λ written. did.puts;
    unread = unread;
    begun = λ b. b;
    chunk = λ key is. absurd (cc);
    between = between_ran true made_array options [] (made_commands number) before.store now.store _ did.sums.left
        did.sums.mended;
    complete = λ unseen sink store. inl refl;
    front = λ is. absurd (cc);
    unchanged = unchanged;
  }

  pub made_write : (text : List ℕ) → SumsAll made_array options (made_commands number) before.store now.store text →
      IsGivenFront text before.sink.bytes now.sink.bytes → Rose before.sink.faults now.sink.faults →
      now.source ≡ before.source → ((key : List ℕ) → ¬ IsChangedKey made_array (made_commands number) key →
      now.store.content key ≡ before.store.content key) →
      AnswersMade number options before now end.write_fault
  made_write text did given rose unread unchanged = record {
    done = λ is. absurd (cc);
    asks = λ written. did.asks;
    puts = λ written. did.puts;
    unread = unread;
    begun = λ b. b;
    chunk = λ key is. absurd (cc);
    between = between_ran true made_array options [] (made_commands number) before.store now.store _ did.sums.left
        did.sums.mended;
    complete = λ unseen sink store. absurd (sink rose);
    front = λ is. (text, did.sums, given);
    unchanged = unchanged;
  }

  abbrev Fails : Status → Type 0
  Fails status = IsRunFault true made_array options (made_commands number) before.store now.store status

  last_fails : (status last : Status) → (last ≡ status) ⊎ (last ≡ OutOfMemory) → Fails status → Fails last
  last_fails status last (inl same) fault = subst Fails (sym same) fault
  last_fails status last (inr memory) fault = subst Fails (sym memory) tt

  same_chunk : (a b : List ℕ) → damaged_chunk a ≡ damaged_chunk b → a ≡ b
  same_chunk a b e = cc

  fails_chunk : (status : Status) (key : List ℕ) → Fails status → ending_of status ≡ damaged_chunk key →
      IsDamageSeen made_array options (made_commands number) before.store.content key × (now.store.content key ≡
      before.store.content key) × EndsAtDamage true made_array options (made_commands number) before.store now.store key
  fails_chunk (Chunk other) key fault is = subst (λ k. IsDamageSeen made_array options (made_commands number)
      before.store.content k × (now.store.content k ≡ before.store.content k) × EndsAtDamage true made_array options
      (made_commands number) before.store now.store k) (same_chunk other key is) fault
  fails_chunk Store key fault is = absurd (cc)
  fails_chunk OutOfMemory key fault is = absurd (cc)
  fails_chunk Done key fault is = absurd fault
  fails_chunk BadWords key fault is = absurd fault
  fails_chunk (BadInput line) key fault is = absurd fault
  fails_chunk (Document error) key fault is = absurd fault
  fails_chunk Read key fault is = absurd fault
  fails_chunk Write key fault is = absurd fault
  fails_chunk TooLong key fault is = absurd fault

  last_memory : (status last : Status) → (last ≡ status) ⊎ (last ≡ OutOfMemory) → status ≡ OutOfMemory →
      ending_of last ≡ end.out_of_memory
  last_memory status last (inl same) is = ap ending_of (same ∙ is)
  last_memory status last (inr memory) is = ap ending_of memory

  fails_done : (status : Status) → Fails status → status ≡ Done → ⊥
  fails_done status fault is = subst Fails is fault

  fails_write : (status : Status) → Fails status → status ≡ Write → ⊥
  fails_write status fault is = subst Fails is fault

  unwritten : (status : Status) → Fails status → IsWritten (ending_of status) → ⊥
  unwritten status fault written = ⊎_elim
      (λ (is : ending_of status ≡ end.done). fails_done status fault (is_done status is))
      (λ (is : ending_of status ≡ end.write_fault). fails_write status fault (is_write status is))
      written

  pub made_early : (status last : Status) → (last ≡ status) ⊎ (last ≡ OutOfMemory) → (status ≡ Store → last ≡ Store) →
      Fails status → now.source ≡ before.source →
      (SeesNoDamage made_array options (made_commands number) before.store.content →
      ¬ Rose before.store.faults now.store.faults → status ≡ OutOfMemory) →
      LeavesBetween true made_array options [] (made_commands number) before.store now.store (ending_of status) →
      ((key : List ℕ) → ¬ IsChangedKey made_array (made_commands number) key →
      now.store.content key ≡ before.store.content key) →
      AnswersMade number options before now (ending_of last)
  made_early status last which kept fault unread complete left unchanged = let ends =
      last_fails status last which fault in record {
        done = λ is. absurd (fails_done last ends (is_done last is));
        asks = λ written. absurd (unwritten last ends written);
        puts = λ written. absurd (unwritten last ends written);
        unread = unread;
        begun = begun true made_array options (made_commands number) before.store now.store last ends;
        chunk = λ key is. fails_chunk last key ends is;
        between =
            between_last true made_array options [] (made_commands number) before.store now.store status last which
            kept left;
        complete = λ unseen sink store. inr (last_memory status last which (complete unseen store));
        front = λ is. absurd (fails_write last ends (is_write last is));
        unchanged = unchanged;
      }

  -- what a made run and the writing of its text come to
  pub made_answers : (result : Result (Vec ℕ Global) Status) (last : Status) → before.store.puts ≤ 2 ^ 64 - 1 →
      DidMade number options before.store now.store result → now.source ≡ before.source →
      MatchResult result (λ text. WritesText text.items before.sink now.sink last)
      (λ status. EndsWith status before.sink now.sink last) → AnswersMade number options before now (ending_of last)
  made_answers (Ok text) last few did unread (inl (is, given)) =
      subst (λ s. AnswersMade number options before now (ending_of s)) (sym is)
      (made_done text.items did.done given unread (λ key. did.unchanged key (no_key key)))
  made_answers (Ok text) last few did unread (inr (is, rose, given)) =
      subst (λ s. AnswersMade number options before now (ending_of s)) (sym is)
      (made_write text.items did.done given rose unread (λ key. did.unchanged key (no_key key)))
  made_answers (Err status) last few did unread ends =
      made_early status last ends.which ends.kept
      (made_fault number options before.store now.store few (Err status) did) unread did.complete did.between
      (λ key. did.unchanged key (no_key key))

-- the endings of a made run
abbrev IsOfMade : Status → Type 0 → Type 0 → Type 0
IsOfMade Done store sink = Unit {0}
IsOfMade Write store sink = sink
IsOfMade (Chunk key) store sink = Unit {0}
IsOfMade Store store sink = store
IsOfMade OutOfMemory store sink = Unit {0}
IsOfMade _ store sink = ⊥

of_fault : (once : Bool) (description : Description) (options : Options) (commands : List Command) (before now :
    Shown) (sink : Type 0) (status : Status) → IsRunFault once description options commands before now status →
    IsOfMade status (Rose before.faults now.faults) sink
of_fault once description options commands before now sink (Chunk key) fault = tt
of_fault once description options commands before now sink Store fault = fault
of_fault once description options commands before now sink OutOfMemory fault = tt
of_fault once description options commands before now sink Done fault = absurd fault
of_fault once description options commands before now sink BadWords fault = absurd fault
of_fault once description options commands before now sink (BadInput line) fault = absurd fault
of_fault once description options commands before now sink (Document error) fault = absurd fault
of_fault once description options commands before now sink Read fault = absurd fault
of_fault once description options commands before now sink Write fault = absurd fault
of_fault once description options commands before now sink TooLong fault = absurd fault

module _ (number : ℕ) (options : Options) (before now : Shown) (given given_now : Given) where
  pub of_made : (result : Result (Vec ℕ Global) Status) (last : Status) → before.puts ≤ 2 ^ 64 - 1 →
      DidMade number options before now result →
      MatchResult result (λ text. WritesText text.items given given_now last)
      (λ status. EndsWith status given given_now last) →
      IsOfMade last (Rose before.faults now.faults) (Rose given.faults given_now.faults) ×
      IsGivenLine (ending_line (ending_of last)) given given_now
  of_made (Ok text) last few did (inl (is, whole)) =
      subst (λ s. IsOfMade s (Rose before.faults now.faults) (Rose given.faults given_now.faults) ×
      IsGivenLine (ending_line (ending_of s)) given given_now) (sym is) (tt, tt)
  of_made (Ok text) last few did (inr (is, rose, front)) =
      subst (λ s. IsOfMade s (Rose before.faults now.faults) (Rose given.faults given_now.faults) ×
      IsGivenLine (ending_line (ending_of s)) given given_now) (sym is) (rose, tt)
  of_made (Err status) last few did ends = (
    ⊎_elim
        (λ (same : last ≡ status).
        subst (λ s. IsOfMade s (Rose before.faults now.faults) (Rose given.faults given_now.faults)) (sym same)
        (of_fault true made_array options (made_commands number) before now (Rose given.faults given_now.faults) status
        (made_fault number options before now few (Err status) did)))
        (λ (memory : last ≡ OutOfMemory).
        subst (λ s. IsOfMade s (Rose before.faults now.faults) (Rose given.faults given_now.faults)) (sym memory) tt)
        ends.which,
    ends.line,
  )

-- so no made run ends by the words, the reading or an input
pub made_named : (store sink : Type 0) (last : Status) → IsOfMade last store sink →
    ¬ (last ≡ Document OpenError.OutOfMemory)
made_named store sink last own is = subst (λ s. IsOfMade s store sink) is own

pub made_ends : (words : List (List ℕ)) (settings : Settings) (before now : ProgramSeen) (last : Status) →
    settings_of words ≡ Some settings →
    IsOfMade last (Rose before.store.faults now.store.faults) (Rose before.sink.faults now.sink.faults) →
    IsGivenLine (ending_line (ending_of last)) before.sink now.sink → Ends words before now (ending_of last)
made_ends words settings before now last known own line = record {
  bad_words = λ is. absurd (begun_made last own (subst IsBeforeStore (sym is) tt));
  exactly_words = λ bad. absurd (unknown bad);
  unread = λ bad. absurd (unknown bad);
  unstored = λ bad. absurd (unknown bad);
  store = λ is. rises is;
  read = λ is. absurd (begun_made last own (subst IsBeforeStore (sym is) tt));
  write = λ is. falls is;
  line = line;
  untouched = λ early. absurd (begun_made last own early);
}
  where
    unknown : HasBadWords words → ⊥
    unknown bad = let both : Some settings ≡ None = sym known ∙ bad in cc

    begun_made : (s : Status) → IsOfMade s (Rose before.store.faults now.store.faults)
        (Rose before.sink.faults now.sink.faults) → IsBeforeStore (ending_of s) → ⊥
    begun_made Done own early = early
    begun_made Write own early = early
    begun_made (Chunk key) own early = early
    begun_made Store own early = early
    begun_made OutOfMemory own early = early
    begun_made BadWords own early = own
    begun_made (BadInput line) own early = own
    begun_made (Document error) own early = own
    begun_made Read own early = own
    begun_made TooLong own early = own

    rises : ending_of last ≡ end.store_fault → Rose before.store.faults now.store.faults
    rises is = at last own is
      where
        at : (s : Status) → IsOfMade s (Rose before.store.faults now.store.faults) (Rose before.sink.faults
            now.sink.faults) → ending_of s ≡ end.store_fault → Rose before.store.faults now.store.faults
        at Store own is = own
        at Done own is = absurd (cc)
        at Write own is = absurd (cc)
        at (Chunk key) own is = absurd (cc)
        at OutOfMemory own is = absurd (cc)
        at BadWords own is = absurd own
        at (BadInput line) own is = absurd own
        at (Document error) own is = absurd own
        at Read own is = absurd own
        at TooLong own is = absurd own

    falls : ending_of last ≡ end.write_fault → Rose before.sink.faults now.sink.faults
    falls is = subst (λ s. IsOfMade s (Rose before.store.faults now.store.faults)
        (Rose before.sink.faults now.sink.faults)) (is_write last is) own
