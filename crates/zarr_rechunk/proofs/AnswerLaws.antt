-- What a move came to, and what was written of it, are what it owes.
use Rattle.std.proofs.Common.{◌≡◌, ◌⊎◌, ℕ, List, [], Vec, Some, Result, Ok, Err, IfErr, OnOk, MatchResult, inl, inr}
use Rattle.std.proofs.Common.{⊎_elim, refl, sym, ap, ◌∙◌, subst}
use Rattle.std.proofs.Math.Path.{fun_ext}
use Rattle.std.specs.declared.alloc.Global.{Global}
use Rattle.zarr_model.specs.Prelude.{Content, Given, Rose, SetsSome, SameOtherKeys, layout}
use Rattle.zarr_model.proofs.KeyLineLaws.{key-lines}
use Rattle.zarr_cli_runs.specs.array.parts.Document.{describe}
use Rattle.zarr_cli_runs.specs.Ending.{Ending, IsGiven, IsGivenFront, IsGivenLine}
use Rattle.zarr_cli_runs.specs.Ending as end
use Rattle.zarr_cli_runs.specs.declared.status.Status.TheVariants.{Done, BadWords, BadInput, Document, Chunk, Store}
use Rattle.zarr_cli_runs.specs.declared.status.Status.TheVariants.{Read, Write, TooLong, OutOfMemory}
use Rattle.zarr_rechunk.specs.declared.status.RechunkRefusal.{RechunkRefusal}
use Rattle.zarr_rechunk.specs.declared.status.RechunkStatus.{RechunkStatus}
use Rattle.zarr_rechunk.specs.declared.status.RechunkStatus.TheVariants.{Cli, Refused}
use Rattle.zarr_rechunk.specs.Ending.{MoveEnding, cli, refused, move_line, move_ending_of, IsMoveOrMemory, IsEarlyMove}
use Rattle.zarr_rechunk.specs.Input.{Move, MoveVerdict, moves, stops}
use Rattle.zarr_rechunk.specs.Program.{SeenBoth, move_options, source_content, IsUnmoved, IsHonestSource}
use Rattle.zarr_rechunk.specs.Program.{IsHonestTarget, IsRefusedMove, MayBeMoved, HasDamage, AnswersMove, EndsMoved}
use Rattle.zarr_cli.specs.Outcome.{Outcome}
use Rattle.zarr_rechunk.specs.Said.{Both, both, IsNamedMove, IsMoveFault, RanMove, AreUntouched, StoppedMove, RanMoveBy}
use Rattle.zarr_rechunk.specs.Said.{TellsOfMove, move_outcome, IsPlainMove}
use Rattle.zarr_rechunk.specs.Written.{WritesKeys, EndsMove}
use Rattle.zarr_rechunk.proofs.ProgramLaws.{may_not}

-- what a status or want of memory tells
last_tells : (o : Outcome) (status last : RechunkStatus) → (last ≡ status) ⊎ (last ≡ Cli OutOfMemory) →
    TellsOfMove o (move_ending_of status) → TellsOfMove o (move_ending_of last)
last_tells o status last (inl same) told =
    subst (λ (s : RechunkStatus). TellsOfMove o (move_ending_of s)) (sym same) told
last_tells o status last (inr memory) told =
    subst (λ (s : RechunkStatus). TellsOfMove o (move_ending_of s)) (sym memory) tt

last_named : (status last : RechunkStatus) → (last ≡ status) ⊎ (last ≡ Cli OutOfMemory) → IsNamedMove status →
    IsNamedMove last
last_named status last (inl same) named = subst IsNamedMove (sym same) named
last_named status last (inr memory) named = subst IsNamedMove (sym memory) tt

last_ending : (status last : RechunkStatus) (told : MoveEnding) → (last ≡ status) ⊎ (last ≡ Cli OutOfMemory) →
    (move_ending_of status ≡ told) ⊎ (status ≡ Cli OutOfMemory) → IsMoveOrMemory (move_ending_of last) told
last_ending status last told (inl same) (inl is) = inl (ap move_ending_of same ∙ is)
last_ending status last told (inl same) (inr memory) = inr (ap move_ending_of (same ∙ memory))
last_ending status last told (inr memory) which = inr (ap move_ending_of memory)

-- an early ending leaves the store as before, and is told by its cause
early_untouched : (o : Outcome) (ending : MoveEnding) → TellsOfMove o ending → IsEarlyMove ending → o.untouched
early_untouched o (cli end.done) told early = absurd early
early_untouched o (cli end.bad_words) told early = told.1
early_untouched o (cli (end.bad_input line)) told early = told
early_untouched o (cli (end.refused_document why)) told early = told
early_untouched o (cli (end.damaged_chunk key)) told early = absurd early
early_untouched o (cli end.store_fault) told early = absurd early
early_untouched o (cli end.read_fault) told early = told.1
early_untouched o (cli end.write_fault) told early = absurd early
early_untouched o (cli end.too_long) told early = told
early_untouched o (cli end.out_of_memory) told early = absurd early
early_untouched o (refused why) told early = absurd early

-- the end of a run: its text was written, or the line of its status
abbrev Writes : Result (Vec ℕ Global) RechunkStatus → Given → Given → RechunkStatus → Type 0
Writes result before now last =
    MatchResult result (λ text. WritesKeys text.items before now last) (λ status. EndsMove status before now last)

-- over any source
module _ (bad : Type 0) (before now : SeenBoth) where
  abbrev o : Outcome
  o = move_outcome bad (Rose before.source.faults now.source.faults) (both before.from before.to) (both now.from now.to)

  ended_plain : (result : Result (Vec ℕ Global) RechunkStatus) (last : RechunkStatus) → IfErr result (IsPlainMove o) →
      Writes result before.sink now.sink last →
      ((last ≡ Cli Done) ⊎ ((last ≡ Cli Write) × Rose before.sink.faults now.sink.faults)) ⊎ (TellsOfMove o
      (move_ending_of last) × IsNamedMove last × IsGivenLine (move_line (move_ending_of last)) before.sink now.sink)
  ended_plain (Ok text) last plain (inl written) = inl (inl written.0)
  ended_plain (Ok text) last plain (inr (is, rose, front)) = inl (inr (is, rose))
  ended_plain (Err status) last plain ends =
      inr (last_tells o status last ends.which plain.told, last_named status last ends.which plain.named, ends.line)

  pub named_last : (result : Result (Vec ℕ Global) RechunkStatus) (last : RechunkStatus) →
      IfErr result (IsPlainMove o) → Writes result before.sink now.sink last → IsNamedMove last
  named_last result last plain writes = by (ended_plain result last plain writes)
    where
      by : ((last ≡ Cli Done) ⊎ ((last ≡ Cli Write) × Rose before.sink.faults now.sink.faults)) ⊎
          (TellsOfMove o (move_ending_of last) × IsNamedMove last ×
          IsGivenLine (move_line (move_ending_of last)) before.sink now.sink) → IsNamedMove last
      by (inl (inl is)) = subst IsNamedMove (sym is) tt
      by (inl (inr is)) = subst IsNamedMove (sym is.0) tt
      by (inr told) = told.1

-- over any source, by the words
module _ (words : List (List ℕ)) (before now : SeenBoth) where
  abbrev Ends : MoveEnding → Type 0
  Ends ending = EndsMoved words before now ending

  abbrev words_o : Outcome
  words_o = o (¬ (words ≡ [])) before now

  ends_done : ¬ ¬ (words ≡ []) → Ends (cli end.done)
  ends_done known = record {
    bad_words = λ is. absurd (cc);
    exactly_words = λ none. absurd (known none);
    unread = λ none. absurd (known none);
    unstored = λ none. absurd (known none);
    store = λ is. absurd (cc);
    read = λ is. absurd (cc);
    write = λ is. absurd (cc);
    line = tt;
    untouched = λ early. absurd early;
  }

  ends_write : ¬ ¬ (words ≡ []) → Rose before.sink.faults now.sink.faults → Ends (cli end.write_fault)
  ends_write known rose = record {
    bad_words = λ is. absurd (cc);
    exactly_words = λ none. absurd (known none);
    unread = λ none. absurd (known none);
    unstored = λ none. absurd (known none);
    store = λ is. absurd (cc);
    read = λ is. absurd (cc);
    write = λ is. rose;
    line = tt;
    untouched = λ early. absurd early;
  }

  ends_early : (last : RechunkStatus) → TellsOfMove words_o (move_ending_of last) →
      IsGivenLine (move_line (move_ending_of last)) before.sink now.sink →
      (¬ (words ≡ []) → (now.source ≡ before.source) × IsMoveOrMemory (move_ending_of last) (cli end.bad_words)) →
      (¬ (words ≡ []) → AreUntouched (both before.from before.to) (both now.from now.to)) → Ends (move_ending_of last)
  ends_early last told line unread unstored =
      let at : (ending : MoveEnding) → move_ending_of last ≡ ending → TellsOfMove words_o ending =
      λ ending is. subst (TellsOfMove words_o) is told in
      record {
        bad_words = λ is. (at (cli end.bad_words) is).0;
        exactly_words = λ none. (unread none).1;
        unread = λ none. (unread none).0;
        unstored = unstored;
        store = λ is. at (cli end.store_fault) is;
        read = λ is. (at (cli end.read_fault) is).0;
        write = λ is. absurd (at (cli end.write_fault) is);
        line = line;
        untouched = early_untouched words_o (move_ending_of last) told;
      }

  abbrev Unread : Result (Vec ℕ Global) RechunkStatus → Type 0
  Unread result = ¬ (words ≡ []) → (now.source ≡ before.source) × (result ≡ Err (Cli BadWords))

  text_known : (text : Vec ℕ Global) → Unread (Ok text) → ¬ ¬ (words ≡ [])
  text_known text unread none = let never : Ok text ≡ Err (Cli BadWords) = (unread none).1 in cc

  bad_last : (status last : RechunkStatus) → (last ≡ status) ⊎ (last ≡ Cli OutOfMemory) → Unread (Err status) →
      ¬ (words ≡ []) → (now.source ≡ before.source) × IsMoveOrMemory (move_ending_of last) (cli end.bad_words)
  bad_last status last which unread none =
      let (same, is) = unread none in
      let bad : status ≡ Cli BadWords = cc in
      (same, last_ending status last (cli end.bad_words) which (inl (ap move_ending_of bad)))

  bad_untouched : (status : RechunkStatus) → IsPlainMove words_o status → Unread (Err status) → ¬ (words ≡ []) →
      AreUntouched (both before.from before.to) (both now.from now.to)
  bad_untouched status plain unread none =
      let (same, is) = unread none in
      let bad : status ≡ Cli BadWords = cc in
      (subst (λ (s : RechunkStatus). TellsOfMove words_o (move_ending_of s)) bad plain.told).1

  pub ends_moved : (result : Result (Vec ℕ Global) RechunkStatus) (last : RechunkStatus) → IfErr result
      (IsPlainMove words_o) → Unread result → Writes result before.sink now.sink last → Ends (move_ending_of last)
  ends_moved (Ok text) last plain unread (inl (is, given)) =
      subst (λ (s : RechunkStatus). Ends (move_ending_of s)) (sym is) (ends_done (text_known text unread))
  ends_moved (Ok text) last plain unread (inr (is, rose, front)) =
      subst (λ (s : RechunkStatus). Ends (move_ending_of s)) (sym is) (ends_write (text_known text unread) rose)
  ends_moved (Err status) last plain unread ends = ends_early last (last_tells words_o status last ends.which
      plain.told) ends.line (bad_last status last ends.which unread) (bad_untouched status plain unread)

-- over a source that tells its bytes
module _ (verdict : MoveVerdict) (before now : SeenBoth) where
  abbrev Answers : MoveEnding → Type 0
  Answers ending = AnswersMove verdict before now ending

  abbrev old : Both
  old = both before.from before.to

  abbrev new : Both
  new = both now.from now.to

  one_cli : (a b : Ending) → cli a ≡ cli b → a ≡ b
  one_cli a b e = cc

  -- both stores are as before, and the ending is an early one
  module _ (ending : MoveEnding) (same : AreUntouched old new)
      (which : (told : Ending) × (ending ≡ cli told) × (end.IsBeforeStore told ⊎ (told ≡ end.out_of_memory))) where
    is_told : (told : Ending) → ending ≡ cli told → ¬ end.IsBeforeStore told → ¬ (told ≡ end.out_of_memory) → ⊥
    is_told told is late other =
        let one : which.0 ≡ told = one_cli which.0 told (sym which.1 ∙ is) in
        ⊎_elim (λ early. late (subst end.IsBeforeStore one early)) (λ memory. other (sym one ∙ memory)) which.2

    no_refusal : (why : RechunkRefusal) → ending ≡ refused why → ⊥
    no_refusal why is = let both_are : cli which.0 ≡ refused why = sym which.1 ∙ is in cc

    pub answers_untouched : ((told : Ending) → verdict ≡ stops told → ¬ Rose before.source.faults now.source.faults →
        IsMoveOrMemory ending (cli told)) →
        ((told : Ending) → ending ≡ cli told → end.IsBeforeStore told → ¬ (told ≡ end.read_fault) →
        verdict ≡ stops told) →
        ((move : Move) → verdict ≡ moves move → Rose before.source.faults now.source.faults) → Answers ending
    answers_untouched stopped early moves_rose = record {
      stopped = stopped;
      kept = λ told says. same;
      early = early;
      done = λ is. absurd (is_told end.done is (λ h. h) (λ h. cc));
      front = λ is. absurd (is_told end.write_fault is (λ h. h) (λ h. cc));
      read_whole = λ is. absurd (is_told end.done is (λ h. h) (λ h. cc));
      refusal = λ why is. absurd (no_refusal why is);
      exactly_refused = λ move is why bad_move calm. absurd (calm (moves_rose move is));
      chunk = λ key is. absurd (is_told (end.damaged_chunk key) is (λ h. h) (λ h. cc));
      complete = λ move is may from to calm. absurd (calm (moves_rose move is));
      set = λ move is. (
        0,
        subst (λ (c : Content). SetsSome move.entries 0 before.from.content c)
            (sym (fun_ext same.0.content)) ((key-lines move.entries).start before.from.content),
      );
      others = λ move is key free. same.1.content key;
      honest = λ move is honest. subst (λ (c : Content). IsHonestTarget move c) (sym (fun_ext same.1.content)) honest;
    }

  -- the words and the input stopped it
  told_as : (status last : RechunkStatus) (told : Ending) → IsMoveOrMemory (move_ending_of last) (cli told) →
      end.IsBeforeStore told →
      (other : Ending) × (move_ending_of last ≡ cli other) × (end.IsBeforeStore other ⊎ (other ≡ end.out_of_memory))
  told_as status last told (inl is) early = (told, is, inl early)
  told_as status last told (inr is) early = (end.out_of_memory, is, inr refl)

  answers_stopped : (told : Ending) (status last : RechunkStatus) → verdict ≡ stops told → end.IsBeforeStore told →
      StoppedMove {Z = Global} told old new (Err status) → (last ≡ status) ⊎ (last ≡ Cli OutOfMemory) →
      Answers (move_ending_of last)
  answers_stopped told status last is early by which =
      let ends : IsMoveOrMemory (move_ending_of last) (cli told) = last_ending status last (cli told) which by.ends in
      answers_untouched (move_ending_of last) by.untouched (told_as status last told ends early)
      (λ other says calm.
      (let same : told ≡ other = cc in subst (λ t. IsMoveOrMemory (move_ending_of last) (cli t)) same ends))
      (λ other own own_early not_read.
      ⊎_elim (λ same. (let one : told ≡ other = one_cli told other (sym same ∙ own) in is ∙ ap stops one))
      (λ memory. (let one : end.out_of_memory ≡ other = one_cli end.out_of_memory other (sym memory ∙ own) in
      absurd (subst end.IsBeforeStore (sym one) own_early))) ends)
      (λ move says. absurd (let both_are : stops told ≡ moves move = sym is ∙ says in cc))

  -- the source failed
  answers_unread : (status last : RechunkStatus) → status ≡ Cli Read → AreUntouched old new → Rose before.source.faults
      now.source.faults → (last ≡ status) ⊎ (last ≡ Cli OutOfMemory) → Answers (move_ending_of last)
  answers_unread status last is same rose which =
      let ends : IsMoveOrMemory (move_ending_of last) (cli end.read_fault) =
      last_ending status last (cli end.read_fault) which (inl (ap move_ending_of is)) in
      answers_untouched (move_ending_of last) same (told_as status last end.read_fault ends tt)
      (λ other says calm. absurd (calm rose))
      (λ other own own_early not_read.
      ⊎_elim (λ read. absurd (not_read (one_cli other end.read_fault (sym own ∙ read))))
      (λ memory. (let one : end.out_of_memory ≡ other = one_cli end.out_of_memory other (sym memory ∙ own) in
      absurd (subst end.IsBeforeStore (sym one) own_early))) ends)
      (λ move says. rose)

  -- a move was made
  module _ (move : Move) (is : verdict ≡ moves move) where
    never_stops : (told : Ending) → verdict ≡ stops told → ⊥
    never_stops told says = let both_are : moves move ≡ stops told = sym is ∙ says in cc

    one_move : (other : Move) → verdict ≡ moves other → move ≡ other
    one_move other says = let both_are : moves move ≡ moves other = sym is ∙ says in cc

    for_each : (P : Move → Type 0) → P move → (other : Move) → verdict ≡ moves other → P other
    for_each P p other says = subst P (one_move other says) p

    for_move : (P : Move → Type 0) (other : Move) → verdict ≡ moves other → P other → P move
    for_move P other says p = subst P (sym (one_move other says)) p

    abbrev Sets : Move → Type 0
    Sets m = (n : ℕ) × SetsSome m.entries n before.from.content now.from.content

    abbrev KeepsOthers : Move → Type 0
    KeepsOthers m = SameOtherKeys (layout (describe m.target) move_options) before.to.content now.to.content

    abbrev StaysHonest : Move → Type 0
    StaysHonest m = IsHonestTarget m before.to.content → IsHonestTarget m now.to.content

    never_refused : MayBeMoved move → (other : Move) → verdict ≡ moves other → (why : RechunkRefusal) →
        IsRefusedMove other why → ⊥
    never_refused may other says why bad_move = may_not (describe move.source) (describe move.target) may why
        (for_move (λ m. IsRefusedMove m why) other says bad_move)

    answers_done : (text : Vec ℕ Global) → RanMove move old new (Ok text) →
        IsGiven text.items before.sink.bytes now.sink.bytes → now.source.left ≡ Some [] → Answers (cli end.done)
    answers_done text ran given whole = record {
      stopped = λ told says. absurd (never_stops told says);
      kept = λ told says. absurd (never_stops told says);
      early = λ told e early.
          absurd (let one : end.done ≡ told = one_cli end.done told e in subst end.IsBeforeStore (sym one) early);
      done = λ e. (move, is, text.items, ran.moved, given);
      front = λ e. absurd (cc);
      read_whole = λ e. whole;
      refusal = λ why e. absurd (cc);
      exactly_refused = λ other says why bad_move. absurd (never_refused ran.moved.may other says why bad_move);
      chunk = λ key e. absurd (cc);
      complete = λ other says may from to source sink c d. inl refl;
      set = for_each Sets ran.set;
      others = for_each KeepsOthers ran.others;
      honest = for_each StaysHonest ran.honest;
    }

    answers_write : (text : Vec ℕ Global) → RanMove move old new (Ok text) → Rose before.sink.faults now.sink.faults →
        IsGivenFront text.items before.sink.bytes now.sink.bytes → Answers (cli end.write_fault)
    answers_write text ran rose given = record {
      stopped = λ told says. absurd (never_stops told says);
      kept = λ told says. absurd (never_stops told says);
      early = λ told e early. absurd (let one : end.write_fault ≡ told = one_cli end.write_fault told e in
          subst end.IsBeforeStore (sym one) early);
      done = λ e. absurd (cc);
      front = λ e. (move, is, text.items, ran.moved, given);
      read_whole = λ e. absurd (cc);
      refusal = λ why e. absurd (cc);
      exactly_refused = λ other says why bad_move. absurd (never_refused ran.moved.may other says why bad_move);
      chunk = λ key e. absurd (cc);
      complete = λ other says may from to source sink c d. absurd (sink rose);
      set = for_each Sets ran.set;
      others = for_each KeepsOthers ran.others;
      honest = for_each StaysHonest ran.honest;
    }

    -- the cause that an early end of a move tells
    abbrev TellsMove : MoveEnding → Type 0
    TellsMove (cli (end.damaged_chunk key)) = MayBeMoved move × (now.from.content ≡
        source_content move before.from.content) × HasDamage move before.from.content before.to.content key
    TellsMove (cli end.store_fault) = Unit {0}
    TellsMove (cli end.out_of_memory) = Unit {0}
    TellsMove (cli _) = ⊥
    TellsMove (refused why) = IsRefusedMove move why × IsUnmoved move before.from now.from before.to now.to

    tells_move : (status : RechunkStatus) → IsMoveFault move old new status → TellsMove (move_ending_of status)
    tells_move (Refused why) fault = fault
    tells_move (Cli (Chunk key)) fault = fault
    tells_move (Cli Store) fault = tt
    tells_move (Cli OutOfMemory) fault = tt
    tells_move (Cli Done) fault = fault
    tells_move (Cli BadWords) fault = fault
    tells_move (Cli (BadInput line)) fault = fault
    tells_move (Cli (Document error)) fault = absurd fault
    tells_move (Cli Read) fault = fault
    tells_move (Cli Write) fault = fault
    tells_move (Cli TooLong) fault = fault

    last_move : (status last : RechunkStatus) → (last ≡ status) ⊎ (last ≡ Cli OutOfMemory) →
        IsMoveFault move old new status → TellsMove (move_ending_of last)
    last_move status last (inl same) fault =
        subst (λ (s : RechunkStatus). TellsMove (move_ending_of s)) (sym same) (tells_move status fault)
    last_move status last (inr memory) fault =
        subst (λ (s : RechunkStatus). TellsMove (move_ending_of s)) (sym memory) tt

    no_move_early : (ending : Ending) → TellsMove (cli ending) → end.IsBeforeStore ending → ⊥
    no_move_early end.done told early = told
    no_move_early end.bad_words told early = told
    no_move_early (end.bad_input line) told early = told
    no_move_early (end.refused_document why) told early = told
    no_move_early (end.damaged_chunk key) told early = early
    no_move_early end.store_fault told early = early
    no_move_early end.read_fault told early = told
    no_move_early end.write_fault told early = told
    no_move_early end.too_long told early = told
    no_move_early end.out_of_memory told early = early

    answers_ended : (status last : RechunkStatus) → RanMove {Z = Global} move old new (Err status) →
        (last ≡ status) ⊎ (last ≡ Cli OutOfMemory) → Answers (move_ending_of last)
    answers_ended status last ran which =
        let told : TellsMove (move_ending_of last) = last_move status last which ran.fault in
        let at : (ending : MoveEnding) → move_ending_of last ≡ ending → TellsMove ending =
        λ ending e. subst TellsMove e told in
        record {
          stopped = λ t says. absurd (never_stops t says);
          kept = λ t says. absurd (never_stops t says);
          early = λ t e early. absurd (no_move_early t (at (cli t) e) early);
          done = λ e. absurd (at (cli end.done) e);
          front = λ e. absurd (at (cli end.write_fault) e);
          read_whole = λ e. absurd (at (cli end.done) e);
          refusal = λ why e. (let seen = at (refused why) e in (move, is, seen.0, seen.1));
          exactly_refused = λ other says why bad_move source from.
              last_refused why (ran.refused why (for_move (λ m. IsRefusedMove m why) other says bad_move) from);
          chunk = λ key e. (let seen = at (cli (end.damaged_chunk key)) e in (move, is, seen.0, seen.1, seen.2));
          complete =
              λ other says may from to source sink calm_from calm_to. last_ending status last (cli end.done) which
              (inr (ran.complete (for_move MayBeMoved other says may)
              (for_move (λ m. IsHonestSource m before.from.content) other says from)
              (for_move (λ m. IsHonestTarget m before.to.content) other says to) calm_from calm_to));
          set = for_each Sets ran.set;
          others = for_each KeepsOthers ran.others;
          honest = for_each StaysHonest ran.honest;
        }
      where
        last_refused : (why : RechunkRefusal) → (status ≡ Refused why) ⊎ (status ≡ Cli OutOfMemory) →
            IsMoveOrMemory (move_ending_of last) (refused why)
        last_refused why (inl e) = last_ending status last (refused why) which (inl (ap move_ending_of e))
        last_refused why (inr memory) = last_ending status last (refused why) which (inr memory)

  -- whatever was said
  abbrev Ran : MoveVerdict → Result (Vec ℕ Global) RechunkStatus → Type 0
  Ran said result = RanMoveBy said old new result ⊎
      (AreUntouched old new × OnOk result ⊥ × IfErr result (λ status. status ≡ Cli Read))

  answers_by : (said : MoveVerdict) (result : Result (Vec ℕ Global) RechunkStatus) (last : RechunkStatus) →
      verdict ≡ said → ((told : Ending) → verdict ≡ stops told → end.IsBeforeStore told) →
      IfErr result (λ status. status ≡ Cli Read → Rose before.source.faults now.source.faults) → Ran said result →
      OnOk result (now.source.left ≡ Some []) →
      Writes result before.sink now.sink last → Answers (move_ending_of last)
  answers_by (stops told) (Ok text) last is early rose (inl ran) whole writes = absurd ran.failed
  answers_by (stops told) (Err status) last is early rose (inl ran) whole ends =
      answers_stopped told status last is (early told is) ran ends.which
  answers_by (moves move) (Ok text) last is early rose (inl ran) whole (inl (written, given)) = subst
      (λ (s : RechunkStatus). Answers (move_ending_of s)) (sym written) (answers_done move is text ran given whole)
  answers_by (moves move) (Ok text) last is early rose (inl ran) whole (inr (written, failed, given)) = subst
      (λ (s : RechunkStatus). Answers (move_ending_of s)) (sym written) (answers_write move is text ran failed given)
  answers_by (moves move) (Err status) last is early rose (inl ran) whole ends =
      answers_ended move is status last ran ends.which
  answers_by said (Ok text) last is early rose (inr unread) whole writes = absurd unread.1
  answers_by said (Err status) last is early rose (inr unread) whole ends =
      answers_unread status last unread.2 unread.0 (rose unread.2) ends.which

  pub answers_move : (result : Result (Vec ℕ Global) RechunkStatus) (last : RechunkStatus) →
      ((told : Ending) → verdict ≡ stops told → end.IsBeforeStore told) →
      IfErr result (λ status. status ≡ Cli Read → Rose before.source.faults now.source.faults) → Ran verdict result →
      OnOk result (now.source.left ≡ Some []) →
      Writes result before.sink now.sink last → Answers (move_ending_of last)
  answers_move result last early rose ran whole writes = answers_by verdict result last refl early rose ran whole writes

-- the source failed where this is told
pub read_rose : (bad rose : Type 0) (before now : Both) (result : Result (Vec ℕ Global) RechunkStatus) →
    IfErr result (IsPlainMove (move_outcome bad rose before now)) → IfErr result (λ status. status ≡ Cli Read → rose)
read_rose bad rose before now (Ok text) plain = tt
read_rose bad rose before now (Err status) plain = λ is.
    (subst (λ (s : RechunkStatus). TellsOfMove (move_outcome bad rose before now) (move_ending_of s)) is plain.told).0
