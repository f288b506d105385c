-- What a run over references came to, and what was written of it, are what it owes.
use Rattle.std.proofs.Common.{◌≡◌, ◌⊎◌, ℕ, List, [], Vec, Some, None, Result, Ok, Err, IfErr}
use Rattle.std.proofs.Common.{OnOk, MatchResult, inl, inr, ⊎_elim, refl, sym, ap, ◌∙◌, subst}
use Rattle.std.proofs.Math.Path.{fun_ext}
use Rattle.std.specs.declared.alloc.Global.{Global}
use Rattle.zarr_model.specs.Prelude.{Shown, Given, Rose, IsUntouched, SetsSome}
use Rattle.zarr_model.proofs.KeyLineLaws.{key-lines}
use Rattle.zarr_cli_runs.specs.Ending.{IsGiven, IsGivenFront, IsGivenLine}
use Rattle.zarr_cli_runs.specs.Ending as end
use Rattle.zarr_cli_runs.specs.declared.status.Status.TheVariants.{Done, BadWords, BadInput, Document, Chunk, Store}
use Rattle.zarr_cli_runs.specs.declared.status.Status.TheVariants.{Read, Write, TooLong, OutOfMemory}
use Rattle.zarr_cli.specs.Seen.{ProgramSeen}
use Rattle.zarr_refs.specs.declared.reference.RefError.{RefError}
use Rattle.zarr_refs.specs.declared.reference.RefError.TheVariants as RefError
use Rattle.zarr_refs.specs.declared.status.RefStatus.{RefStatus}
use Rattle.zarr_refs.specs.declared.status.RefStatus.TheVariants.{Cli, Reference, ReadOnly}
use Rattle.zarr_refs.specs.Ending.{RefEnding, cli, repeated_key, missing_base, slice_out_of_bounds, read_only, ref_line}
use Rattle.zarr_refs.specs.Ending.{by_reference, ref_ending_of, IsRefOrMemory, IsBehindKeys, IsEarlyRef, IsByReference}
use Rattle.zarr_refs.specs.Input.{RefRun, Verdict, runs, stops, word_options}
use Rattle.zarr_refs.specs.Run.{reference_fault, base_of, AreFitRefs, SeesNone, SeesDamage, IsAllSet}
use Rattle.zarr_refs.specs.Reads.{IsRefsFault, RanRefs}
use Rattle.zarr_cli.specs.Outcome.{Outcome}
use Rattle.zarr_refs.specs.Said.{IsNamed, Stopped, RanBy, Tells, outcome, IsPlainRef}
use Rattle.zarr_refs.specs.Written.{WritesRefs, EndsRef}
use Rattle.zarr_refs.specs.Answers.{AnswersRefs, EndsRefs}

-- what a status or want of memory tells
last_tells : (o : Outcome) (status last : RefStatus) → (last ≡ status) ⊎ (last ≡ Cli OutOfMemory) →
    Tells o (ref_ending_of status) → Tells o (ref_ending_of last)
last_tells o status last (inl same) told = subst (λ (s : RefStatus). Tells o (ref_ending_of s)) (sym same) told
last_tells o status last (inr memory) told = subst (λ (s : RefStatus). Tells o (ref_ending_of s)) (sym memory) tt

last_named : (status last : RefStatus) → (last ≡ status) ⊎ (last ≡ Cli OutOfMemory) → IsNamed status → IsNamed last
last_named status last (inl same) named = subst IsNamed (sym same) named
last_named status last (inr memory) named = subst IsNamed (sym memory) tt

last_ending : (status last : RefStatus) (told : RefEnding) → (last ≡ status) ⊎ (last ≡ Cli OutOfMemory) →
    (ref_ending_of status ≡ told) ⊎ (status ≡ Cli OutOfMemory) → IsRefOrMemory (ref_ending_of last) told
last_ending status last told (inl same) (inl is) = inl (ap ref_ending_of same ∙ is)
last_ending status last told (inl same) (inr memory) = inr (ap ref_ending_of (same ∙ memory))
last_ending status last told (inr memory) which = inr (ap ref_ending_of memory)

-- an early ending leaves the store as before, and is told by its cause
early_untouched : (o : Outcome) (ending : RefEnding) → Tells o ending → IsEarlyRef ending → o.untouched
early_untouched o (cli end.done) told early = absurd early
early_untouched o (cli end.bad_words) told early = told.1
early_untouched o (cli (end.bad_input line)) told early = told
early_untouched o (cli (end.refused_document why)) told early = told
early_untouched o (cli (end.damaged_chunk key)) told early = absurd early
early_untouched o (cli end.store_fault) told early = absurd early
early_untouched o (cli end.read_fault) told early = told.1
early_untouched o (cli end.write_fault) told early = absurd early
early_untouched o (cli end.too_long) told early = told
early_untouched o (cli end.out_of_memory) told early = absurd early
early_untouched o (repeated_key key) told early = absurd early
early_untouched o (missing_base key) told early = absurd early
early_untouched o (slice_out_of_bounds key) told early = absurd early
early_untouched o (read_only line) told early = told

-- the end of a run: its text was written, or the line of its status
abbrev Writes : Result (Vec ℕ Global) RefStatus → Given → Given → RefStatus → Type 0
Writes result before now last =
    MatchResult result (λ text. WritesRefs text.items before now last) (λ status. EndsRef status before now last)

-- over any source
module _ (bad : Type 0) (before now : ProgramSeen) where
  abbrev o : Outcome
  o = outcome bad (Rose before.source.faults now.source.faults) before.store now.store

  ended_plain : (result : Result (Vec ℕ Global) RefStatus) (last : RefStatus) → IfErr result (IsPlainRef o) →
      Writes result before.sink now.sink last →
      ((last ≡ Cli Done) ⊎ ((last ≡ Cli Write) × Rose before.sink.faults now.sink.faults)) ⊎
      (Tells o (ref_ending_of last) × IsNamed last × IsGivenLine (ref_line (ref_ending_of last)) before.sink now.sink)
  ended_plain (Ok text) last plain (inl written) = inl (inl written.0)
  ended_plain (Ok text) last plain (inr (is, rose, front)) = inl (inr (is, rose))
  ended_plain (Err status) last plain ends =
      inr (last_tells o status last ends.which plain.told, last_named status last ends.which plain.named, ends.line)

  pub named_last : (result : Result (Vec ℕ Global) RefStatus) (last : RefStatus) → IfErr result (IsPlainRef o) →
      Writes result before.sink now.sink last → IsNamed last
  named_last result last plain writes = by (ended_plain result last plain writes)
    where
      by : ((last ≡ Cli Done) ⊎ ((last ≡ Cli Write) × Rose before.sink.faults now.sink.faults)) ⊎
          (Tells o (ref_ending_of last) × IsNamed last ×
          IsGivenLine (ref_line (ref_ending_of last)) before.sink now.sink) → IsNamed last
      by (inl (inl is)) = subst IsNamed (sym is) tt
      by (inl (inr is)) = subst IsNamed (sym is.0) tt
      by (inr told) = told.1

-- over any source, by the words
module _ (words : List (List ℕ)) (before now : ProgramSeen) where
  abbrev Ends : RefEnding → Type 0
  Ends ending = EndsRefs words before now ending

  abbrev words_o : Outcome
  words_o = o (word_options words ≡ None) before now

  ends_done : ¬ (word_options words ≡ None) → Ends (cli end.done)
  ends_done known = record {
    bad_words = λ is. absurd (cc);
    exactly_words = λ none. absurd (known none);
    unread = λ none. absurd (known none);
    unstored = λ none. absurd (known none);
    store = λ is. absurd (cc);
    read = λ is. absurd (cc);
    write = λ is. absurd (cc);
    line = tt;
    untouched = λ early. absurd early;
  }

  ends_write : ¬ (word_options words ≡ None) → Rose before.sink.faults now.sink.faults → Ends (cli end.write_fault)
  ends_write known rose = record {
    bad_words = λ is. absurd (cc);
    exactly_words = λ none. absurd (known none);
    unread = λ none. absurd (known none);
    unstored = λ none. absurd (known none);
    store = λ is. absurd (cc);
    read = λ is. absurd (cc);
    write = λ is. rose;
    line = tt;
    untouched = λ early. absurd early;
  }

  ends_early : (last : RefStatus) → Tells words_o (ref_ending_of last) →
      IsGivenLine (ref_line (ref_ending_of last)) before.sink now.sink →
      (word_options words ≡ None →
      (now.source ≡ before.source) × IsRefOrMemory (ref_ending_of last) (cli end.bad_words)) →
      (word_options words ≡ None → IsUntouched before.store now.store) → Ends (ref_ending_of last)
  ends_early last told line unread unstored =
      let at : (ending : RefEnding) → ref_ending_of last ≡ ending → Tells words_o ending =
      λ ending is. subst (Tells words_o) is told in
      record {
        bad_words = λ is. (at (cli end.bad_words) is).0;
        exactly_words = λ none. (unread none).1;
        unread = λ none. (unread none).0;
        unstored = unstored;
        store = λ is. at (cli end.store_fault) is;
        read = λ is. (at (cli end.read_fault) is).0;
        write = λ is. absurd (at (cli end.write_fault) is);
        line = line;
        untouched = early_untouched words_o (ref_ending_of last) told;
      }

  abbrev Unread : Result (Vec ℕ Global) RefStatus → Type 0
  Unread result = word_options words ≡ None → (now.source ≡ before.source) × (result ≡ Err (Cli BadWords))

  text_known : (text : Vec ℕ Global) → Unread (Ok text) → ¬ (word_options words ≡ None)
  text_known text unread none = let never : Ok text ≡ Err (Cli BadWords) = (unread none).1 in cc

  bad_last : (status last : RefStatus) → (last ≡ status) ⊎ (last ≡ Cli OutOfMemory) → Unread (Err status) →
      word_options words ≡ None → (now.source ≡ before.source) × IsRefOrMemory (ref_ending_of last) (cli end.bad_words)
  bad_last status last which unread none =
      let (same, is) = unread none in
      let bad : status ≡ Cli BadWords = cc in
      (same, last_ending status last (cli end.bad_words) which (inl (ap ref_ending_of bad)))

  bad_untouched : (status : RefStatus) → IsPlainRef words_o status → Unread (Err status) → word_options words ≡ None →
      IsUntouched before.store now.store
  bad_untouched status plain unread none =
      let (same, is) = unread none in
      let bad : status ≡ Cli BadWords = cc in
      (subst (λ (s : RefStatus). Tells words_o (ref_ending_of s)) bad plain.told).1

  pub ends_refs : (result : Result (Vec ℕ Global) RefStatus) (last : RefStatus) → IfErr result (IsPlainRef words_o) →
      Unread result → Writes result before.sink now.sink last → Ends (ref_ending_of last)
  ends_refs (Ok text) last plain unread (inl (is, given)) =
      subst (λ (s : RefStatus). Ends (ref_ending_of s)) (sym is) (ends_done (text_known text unread))
  ends_refs (Ok text) last plain unread (inr (is, rose, front)) =
      subst (λ (s : RefStatus). Ends (ref_ending_of s)) (sym is) (ends_write (text_known text unread) rose)
  ends_refs (Err status) last plain unread ends = ends_early last (last_tells words_o status last ends.which plain.told)
      ends.line (bad_last status last ends.which unread) (bad_untouched status plain unread)

-- over a source that tells its bytes
module _ (verdict : Verdict) (before now : ProgramSeen) where
  abbrev Answers : RefEnding → Type 0
  Answers ending = AnswersRefs verdict before now ending

  no_early : (ending : RefEnding) → IsEarlyRef ending ⊎ (ending ≡ cli end.out_of_memory) → (P : RefEnding → Type 0) →
      ¬ P (cli end.out_of_memory) → ((e : RefEnding) → IsEarlyRef e → ¬ P e) → ¬ P ending
  no_early ending (inl early) P memory others p = others ending early p
  no_early ending (inr is) P memory others p = memory (subst P is p)

  -- the store is as before, and the ending is an early one
  answers_untouched : (ending : RefEnding) → IsUntouched before.store now.store →
      IsEarlyRef ending ⊎ (ending ≡ cli end.out_of_memory) →
      ((told : RefEnding) → verdict ≡ stops told → ¬ Rose before.source.faults now.source.faults →
      IsRefOrMemory ending told) →
      (IsEarlyRef ending → ¬ (ending ≡ cli end.read_fault) → verdict ≡ stops ending) →
      ((run : RefRun) → verdict ≡ runs run → Rose before.source.faults now.source.faults) → Answers ending
  answers_untouched ending same which stopped early runs_rose = record {
    stopped = stopped;
    kept = λ told says. same;
    early = early;
    done = λ is.
        absurd (no_early ending which (λ e. e ≡ cli end.done) (λ is. cc) (λ e early is. subst IsEarlyRef is early) is);
    front = λ is. absurd
        (no_early ending which (λ e. e ≡ cli end.write_fault) (λ is. cc) (λ e early is. subst IsEarlyRef is early) is);
    read_whole = λ is.
        absurd (no_early ending which (λ e. e ≡ cli end.done) (λ is. cc) (λ e early is. subst IsEarlyRef is early) is);
    reference = λ is. absurd (no_early ending which IsByReference (λ is. is) not_by is);
    refused = λ run is why found calm. absurd (calm (runs_rose run is));
    chunk = λ key is. absurd (no_early ending which (λ e. e ≡ cli (end.damaged_chunk key)) (λ is. cc)
        (λ e early is. subst IsEarlyRef is early) is);
    complete = λ run is fit sees calm. absurd (calm (runs_rose run is));
    base = λ key free. same.content key;
    set = λ run is. (
      0,
      subst (λ c. SetsSome run.entries 0 before.store.content c) (sym (fun_ext same.content))
          ((key-lines run.entries).start before.store.content),
    );
    all_set = λ run is behind. absurd (no_early ending which IsBehindKeys (λ is. is) not_behind behind);
  }
    where
      not_by : (e : RefEnding) → IsEarlyRef e → ¬ IsByReference e
      not_by (cli ending) early by = by
      not_by (repeated_key key) early by = early
      not_by (missing_base key) early by = early
      not_by (slice_out_of_bounds key) early by = early
      not_by (read_only line) early by = by

      not_behind : (e : RefEnding) → IsEarlyRef e → ¬ IsBehindKeys e
      not_behind (cli end.done) early behind = early
      not_behind (cli end.bad_words) early behind = behind
      not_behind (cli (end.bad_input line)) early behind = behind
      not_behind (cli (end.refused_document why)) early behind = behind
      not_behind (cli (end.damaged_chunk key)) early behind = early
      not_behind (cli end.store_fault) early behind = behind
      not_behind (cli end.read_fault) early behind = behind
      not_behind (cli end.write_fault) early behind = early
      not_behind (cli end.too_long) early behind = behind
      not_behind (cli end.out_of_memory) early behind = behind
      not_behind (repeated_key key) early behind = early
      not_behind (missing_base key) early behind = early
      not_behind (slice_out_of_bounds key) early behind = early
      not_behind (read_only line) early behind = behind

  -- the words and the input stopped it
  answers_stopped : (told : RefEnding) (status last : RefStatus) → verdict ≡ stops told → IsEarlyRef told →
      Stopped {Z = Global} told before.store now.store (Err status) → (last ≡ status) ⊎ (last ≡ Cli OutOfMemory) →
      Answers (ref_ending_of last)
  answers_stopped told status last is early by which =
      let ends : IsRefOrMemory (ref_ending_of last) told = last_ending status last told which by.ends in
      answers_untouched (ref_ending_of last) by.untouched
      (⊎_elim (λ same. inl (subst IsEarlyRef (sym same) early)) (λ memory. inr memory) ends)
      (λ other says calm. (let same : told ≡ other = cc in subst (λ t. IsRefOrMemory (ref_ending_of last) t) same ends))
      (λ own not_read. ⊎_elim (λ same. is ∙ ap stops (sym same)) (λ memory. absurd (subst IsEarlyRef memory own)) ends)
      (λ run says. absurd (let both : stops told ≡ runs run = sym is ∙ says in cc))

  -- the source failed
  answers_unread : (status last : RefStatus) → status ≡ Cli Read → IsUntouched before.store now.store → Rose
      before.source.faults now.source.faults → (last ≡ status) ⊎ (last ≡ Cli OutOfMemory) → Answers (ref_ending_of last)
  answers_unread status last is same rose which =
      let ends : IsRefOrMemory (ref_ending_of last) (cli end.read_fault) =
      last_ending status last (cli end.read_fault) which (inl (ap ref_ending_of is)) in
      answers_untouched (ref_ending_of last) same
      (⊎_elim (λ same. inl (subst IsEarlyRef (sym same) tt)) (λ memory. inr memory) ends)
      (λ other says calm. absurd (calm rose))
      (λ own not_read. ⊎_elim (λ same. absurd (not_read same)) (λ memory. absurd (subst IsEarlyRef memory own)) ends)
      (λ run says. rose)

  -- a run was run
  module _ (run : RefRun) (is : verdict ≡ runs run) where
    never_stops : (told : RefEnding) → verdict ≡ stops told → ⊥
    never_stops told says = let both : runs run ≡ stops told = sym is ∙ says in cc

    one_run : (other : RefRun) → verdict ≡ runs other → run ≡ other
    one_run other says = let both : runs run ≡ runs other = sym is ∙ says in cc

    for_each : (P : RefRun → Type 0) → P run → (other : RefRun) → verdict ≡ runs other → P other
    for_each P p other says = subst P (one_run other says) p

    answers_done : (text : Vec ℕ Global) → RanRefs run before.store now.store (Ok text) →
        IsGiven text.items before.sink.bytes now.sink.bytes → now.source.left ≡ Some [] → Answers (cli end.done)
    answers_done text ran given whole = record {
      stopped = λ told says. absurd (never_stops told says);
      kept = λ told says. absurd (never_stops told says);
      early = λ early. absurd early;
      done = λ e. (run, is, text.items, ran.prints, given);
      front = λ e. absurd (cc);
      read_whole = λ e. whole;
      reference = λ by. absurd by;
      refused = λ other says why found calm. absurd (unfit_not other says why found);
      chunk = λ key e. absurd (cc);
      complete = λ other says fit sees source sink store. inl refl;
      base = λ key free. ran.elsewhere key (free run is);
      set = for_each (λ r. (n : ℕ) × SetsSome r.entries n before.store.content now.store.content) ran.set;
      all_set = λ other says behind. for_each (λ r. IsAllSet r before.store now.store) ran.all_set other says;
    }
      where
        unfit_not : (other : RefRun) → verdict ≡ runs other → (why : RefError) →
            reference_fault other.references (base_of other before.store.content) ≡ Some why → ⊥
        unfit_not other says why found = (let fit : AreFitRefs other before.store.content = for_each (λ r. AreFitRefs r
            before.store.content) ran.prints.fit other says in (let both : None ≡ Some why = sym fit ∙ found in cc))

    answers_write : (text : Vec ℕ Global) → RanRefs run before.store now.store (Ok text) → Rose before.sink.faults
        now.sink.faults → IsGivenFront text.items before.sink.bytes now.sink.bytes → Answers (cli end.write_fault)
    answers_write text ran rose given = record {
      stopped = λ told says. absurd (never_stops told says);
      kept = λ told says. absurd (never_stops told says);
      early = λ early. absurd early;
      done = λ e. absurd (cc);
      front = λ e. (run, is, text.items, ran.prints, given);
      read_whole = λ e. absurd (cc);
      reference = λ by. absurd by;
      refused = λ other says why found calm. absurd (unfit_not other says why found);
      chunk = λ key e. absurd (cc);
      complete = λ other says fit sees source sink store. absurd (sink rose);
      base = λ key free. ran.elsewhere key (free run is);
      set = for_each (λ r. (n : ℕ) × SetsSome r.entries n before.store.content now.store.content) ran.set;
      all_set = λ other says behind. for_each (λ r. IsAllSet r before.store now.store) ran.all_set other says;
    }
      where
        unfit_not : (other : RefRun) → verdict ≡ runs other → (why : RefError) →
            reference_fault other.references (base_of other before.store.content) ≡ Some why → ⊥
        unfit_not other says why found = (let fit : AreFitRefs other before.store.content = for_each (λ r. AreFitRefs r
            before.store.content) ran.prints.fit other says in (let both : None ≡ Some why = sym fit ∙ found in cc))

    -- the cause that an early end of a run tells
    abbrev TellsRun : RefEnding → Type 0
    TellsRun (cli (end.damaged_chunk key)) = AreFitRefs run before.store.content × IsAllSet run before.store now.store ×
        SeesDamage run before.store.content key
    TellsRun (cli end.store_fault) = Unit {0}
    TellsRun (cli end.out_of_memory) = Unit {0}
    TellsRun (cli _) = ⊥
    TellsRun (repeated_key key) = (reference_fault run.references (base_of run before.store.content) ≡
        Some (RefError.RepeatedKey key)) × IsAllSet run before.store now.store
    TellsRun (missing_base key) = (reference_fault run.references (base_of run before.store.content) ≡
        Some (RefError.MissingBase key)) × IsAllSet run before.store now.store
    TellsRun (slice_out_of_bounds key) = (reference_fault run.references (base_of run before.store.content) ≡
        Some (RefError.SliceOutOfBounds key)) × IsAllSet run before.store now.store
    TellsRun (read_only line) = ⊥

    tells_run : (status : RefStatus) → IsRefsFault run before.store now.store status → TellsRun (ref_ending_of status)
    tells_run (Reference (RefError.RepeatedKey key)) fault = (fault.0, fault.3)
    tells_run (Reference (RefError.MissingBase key)) fault = (fault.0, fault.3)
    tells_run (Reference (RefError.SliceOutOfBounds key)) fault = (fault.0, fault.3)
    tells_run (Reference RefError.Store) fault = tt
    tells_run (Reference RefError.OutOfMemory) fault = tt
    tells_run (Cli (Chunk key)) fault = fault
    tells_run (Cli Store) fault = tt
    tells_run (Cli OutOfMemory) fault = tt
    tells_run (Cli Done) fault = fault
    tells_run (Cli BadWords) fault = fault
    tells_run (Cli (BadInput line)) fault = fault
    tells_run (Cli (Document error)) fault = absurd fault
    tells_run (Cli Read) fault = fault
    tells_run (Cli Write) fault = fault
    tells_run (Cli TooLong) fault = fault
    tells_run (ReadOnly line) fault = fault

    last_run : (status last : RefStatus) → (last ≡ status) ⊎ (last ≡ Cli OutOfMemory) →
        IsRefsFault run before.store now.store status → TellsRun (ref_ending_of last)
    last_run status last (inl same) fault =
        subst (λ (s : RefStatus). TellsRun (ref_ending_of s)) (sym same) (tells_run status fault)
    last_run status last (inr memory) fault = subst (λ (s : RefStatus). TellsRun (ref_ending_of s)) (sym memory) tt

    no_run_early : (ending : RefEnding) → TellsRun ending → IsEarlyRef ending → ⊥
    no_run_early (cli end.done) told early = told
    no_run_early (cli end.bad_words) told early = told
    no_run_early (cli (end.bad_input line)) told early = told
    no_run_early (cli (end.refused_document why)) told early = told
    no_run_early (cli (end.damaged_chunk key)) told early = early
    no_run_early (cli end.store_fault) told early = early
    no_run_early (cli end.read_fault) told early = told
    no_run_early (cli end.write_fault) told early = told
    no_run_early (cli end.too_long) told early = told
    no_run_early (cli end.out_of_memory) told early = early
    no_run_early (repeated_key key) told early = early
    no_run_early (missing_base key) told early = early
    no_run_early (slice_out_of_bounds key) told early = early
    no_run_early (read_only line) told early = told

    all_set_by : (ending : RefEnding) → TellsRun ending → IsBehindKeys ending → IsAllSet run before.store now.store
    all_set_by (cli end.done) told behind = absurd told
    all_set_by (cli end.bad_words) told behind = absurd told
    all_set_by (cli (end.bad_input line)) told behind = absurd told
    all_set_by (cli (end.refused_document why)) told behind = absurd told
    all_set_by (cli (end.damaged_chunk key)) told behind = told.1
    all_set_by (cli end.store_fault) told behind = absurd behind
    all_set_by (cli end.read_fault) told behind = absurd told
    all_set_by (cli end.write_fault) told behind = absurd told
    all_set_by (cli end.too_long) told behind = absurd told
    all_set_by (cli end.out_of_memory) told behind = absurd behind
    all_set_by (repeated_key key) told behind = told.1
    all_set_by (missing_base key) told behind = told.1
    all_set_by (slice_out_of_bounds key) told behind = told.1
    all_set_by (read_only line) told behind = absurd told

    by_run : (ending : RefEnding) → TellsRun ending → IsByReference ending →
        (why : RefError) × (reference_fault run.references (base_of run before.store.content) ≡ Some why) ×
        (ending ≡ by_reference why)
    by_run (cli ending) told by = absurd by
    by_run (repeated_key key) told by = (RefError.RepeatedKey key, told.0, refl)
    by_run (missing_base key) told by = (RefError.MissingBase key, told.0, refl)
    by_run (slice_out_of_bounds key) told by = (RefError.SliceOutOfBounds key, told.0, refl)
    by_run (read_only line) told by = absurd by

    answers_ended : (status last : RefStatus) → RanRefs {Z = Global} run before.store now.store (Err status) →
        (last ≡ status) ⊎ (last ≡ Cli OutOfMemory) → Answers (ref_ending_of last)
    answers_ended status last ran which =
        let told : TellsRun (ref_ending_of last) = last_run status last which ran.fault in
        let at : (ending : RefEnding) → ref_ending_of last ≡ ending → TellsRun ending =
        λ ending e. subst TellsRun e told in
        record {
          stopped = λ t says. absurd (never_stops t says);
          kept = λ t says. absurd (never_stops t says);
          early = λ early. absurd (no_run_early (ref_ending_of last) told early);
          done = λ e. absurd (at (cli end.done) e);
          front = λ e. absurd (at (cli end.write_fault) e);
          read_whole = λ e. absurd (at (cli end.done) e);
          reference = λ by. (let found = by_run (ref_ending_of last) told by in (run, is, found.0, found.1, found.2));
          refused = λ other says why found source store. last_refused why (ran.refused why (for_run (λ r.
              reference_fault r.references (base_of r before.store.content) ≡ Some why) other says found) store);
          chunk = λ key e. (let seen = at (cli (end.damaged_chunk key)) e in (run, is, seen.0, seen.2));
          complete = λ other says fit sees source sink store. last_ending status last (cli end.done) which
              (inr (ran.complete (for_run (λ r. AreFitRefs r before.store.content) other says fit)
              (for_run (λ r. SeesNone r before.store.content) other says sees) store));
          base = λ key free. ran.elsewhere key (free run is);
          set = for_each (λ r. (n : ℕ) × SetsSome r.entries n before.store.content now.store.content) ran.set;
          all_set = λ other says behind. for_each (λ r. IsAllSet r before.store now.store)
              (all_set_by (ref_ending_of last) told behind) other says;
        }
      where
        for_run : (P : RefRun → Type 0) (other : RefRun) → verdict ≡ runs other → P other → P run
        for_run P other says p = subst P (sym (one_run other says)) p

        last_refused : (why : RefError) → (status ≡ Reference why) ⊎ (status ≡ Cli OutOfMemory) →
            IsRefOrMemory (ref_ending_of last) (by_reference why)
        last_refused why (inl e) = last_ending status last (by_reference why) which (inl (ap ref_ending_of e))
        last_refused why (inr memory) = last_ending status last (by_reference why) which (inr memory)

  -- whatever was said
  abbrev Ran : Verdict → Result (Vec ℕ Global) RefStatus → Type 0
  Ran said result = RanBy said before.store now.store result ⊎
      (IsUntouched before.store now.store × OnOk result ⊥ × IfErr result (λ status. status ≡ Cli Read))

  answers_by : (said : Verdict) (result : Result (Vec ℕ Global) RefStatus) (last : RefStatus) → verdict ≡ said →
      ((told : RefEnding) → verdict ≡ stops told → IsEarlyRef told) →
      IfErr result (λ status. status ≡ Cli Read → Rose before.source.faults now.source.faults) → Ran said result →
      OnOk result (now.source.left ≡ Some []) →
      Writes result before.sink now.sink last → Answers (ref_ending_of last)
  answers_by (stops told) (Ok text) last is early rose (inl ran) whole writes = absurd ran.failed
  answers_by (stops told) (Err status) last is early rose (inl ran) whole ends =
      answers_stopped told status last is (early told is) ran ends.which
  answers_by (runs run) (Ok text) last is early rose (inl ran) whole (inl (written, given)) =
      subst (λ (s : RefStatus). Answers (ref_ending_of s)) (sym written) (answers_done run is text ran given whole)
  answers_by (runs run) (Ok text) last is early rose (inl ran) whole (inr (written, failed, given)) =
      subst (λ (s : RefStatus). Answers (ref_ending_of s)) (sym written) (answers_write run is text ran failed given)
  answers_by (runs run) (Err status) last is early rose (inl ran) whole ends =
      answers_ended run is status last ran ends.which
  answers_by said (Ok text) last is early rose (inr unread) whole writes = absurd unread.1
  answers_by said (Err status) last is early rose (inr unread) whole ends =
      answers_unread status last unread.2 unread.0 (rose unread.2) ends.which

  pub answers_refs : (result : Result (Vec ℕ Global) RefStatus) (last : RefStatus) →
      ((told : RefEnding) → verdict ≡ stops told → IsEarlyRef told) →
      IfErr result (λ status. status ≡ Cli Read → Rose before.source.faults now.source.faults) → Ran verdict result →
      OnOk result (now.source.left ≡ Some []) →
      Writes result before.sink now.sink last → Answers (ref_ending_of last)
  answers_refs result last early rose ran whole writes = answers_by verdict result last refl early rose ran whole writes

-- the source failed where this is told
pub read_rose : (bad rose : Type 0) (before now : Shown) (result : Result (Vec ℕ Global) RefStatus) →
    IfErr result (IsPlainRef (outcome bad rose before now)) → IfErr result (λ status. status ≡ Cli Read → rose)
read_rose bad rose before now (Ok text) plain = tt
read_rose bad rose before now (Err status) plain =
    λ is. (subst (λ (s : RefStatus). Tells (outcome bad rose before now) (ref_ending_of s)) is plain.told).0
