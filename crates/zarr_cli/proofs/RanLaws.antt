-- From the commands of lines to what a run of the lines owes.
use Rattle.std.proofs.Common.{◌≡◌, ℕ, false, List, length, drop, map, is_some, Result, Ok, Err}
use Rattle.std.proofs.Common.{MatchResult, Vec, ◌⊎◌, inl, inr, refl, sym, ap, ◌∙◌, subst, arith}
use Rattle.std.specs.declared.alloc.Global.{Global}
use Rattle.std.proofs.lemmas.Option.{same_Some}
use Rattle.zarr_model.specs.Prelude.{Command, Description, kind, with_keys, Shown, Rose, SeesNoDamage, AreRefused}
use Rattle.zarr_model.specs.Prelude.{IsUntouched, LeavesArray}
use Rattle.zarr_cli_runs.specs.array.boxes.Command.{command_of}
use Rattle.zarr_cli_runs.specs.lines.Text.{line_command, good_lines}
use Rattle.zarr_cli_runs.specs.lines.Parts.{entry_view}
use Rattle.zarr_cli_runs.specs.lines.declared.parse.ParsedLines.{ParsedLines}
use Rattle.zarr_cli_runs.proofs.TextLaws.{good_lines_all}
use Rattle.zarr_cli_runs.specs.Between.{LeavesBetween}
use Rattle.zarr_cli_runs.specs.Commands.{IsRunFault, LeavesUndamaged}
use Rattle.zarr_cli_runs.proofs.BetweenLaws.{between_ran, between_untouched, between_last}
use Rattle.zarr_cli_runs.specs.array.parts.declared.open_error.OpenError.TheVariants as OpenError
use Rattle.zarr_cli_runs.specs.Ending.{Ending, IsOrMemory, IsWritten, IsGiven, IsGivenFront, IsBeforeStore}
use Rattle.zarr_cli_runs.specs.Ending as end
use Rattle.zarr_cli_runs.specs.Status.{ending_of}
use Rattle.zarr_cli_runs.specs.declared.status.Status.{Status}
use Rattle.zarr_cli_runs.specs.declared.status.Status.TheVariants.{Done, BadWords, BadInput, Document, Chunk, Store}
use Rattle.zarr_cli_runs.specs.declared.status.Status.TheVariants.{Read, Write, TooLong, OutOfMemory}
use Rattle.zarr_cli.specs.Words.{Settings}
use Rattle.zarr_cli.specs.Lines.{LinesRun, IsOutOfForm, line_entries, with_entries}
use Rattle.zarr_cli.specs.Run.{RunCosts, CostsAll, EndedByDamage}
use Rattle.zarr_cli.specs.Written.{WritesText, EndsWith}
use Rattle.zarr_cli_runs.specs.Job.{job, Did}
use Rattle.zarr_cli.specs.Answers.{Outside, AnswersLines, IsOfLines}
use Rattle.zarr_cli.specs.Steps.{SaysLines, IsFormFault, PrintsAll, PrintsLines, IsLinesFault, RanLines}
use Rattle.zarr_cli.proofs.EndingLemmas.{begun}
use Rattle.zarr_cli.proofs.EarlyLaws.{or_memory}

module _ (description : Description) (lines : List (List ℕ)) where
  -- lines in form have one meaning, and no line out of form
  one_run : (a b : LinesRun description lines) → a.commands ≡ b.commands
  one_run a b = same_Some a.commands b.commands (sym a.are_commands ∙ b.are_commands)

  in_form : (line : ℕ) → LinesRun description lines → IsOutOfForm description lines line → ⊥
  in_form line run out =
      let full : good_lines (line_command (kind description)) (drop 1 lines) ≡ length (drop 1 lines) =
      (good_lines_all (line_command (kind description)) (drop 1 lines)).0 (ap is_some run.are_commands) in
      let few = out.inside in omega arith

module _ (costs : RunCosts) (description : Description) (settings : Settings) (lines : List (List ℕ))
    (before now : Shown) (parsed : ParsedLines) (says : SaysLines description lines parsed) where
  abbrev commands : List Command
  commands = map command_of parsed.commands.items

  abbrev its_run : LinesRun description lines
  its_run = record { commands = commands; are_commands = says.commands_are }

  abbrev Done_by : Result (Vec ℕ Global) Status → List (List ℕ × List ℕ) → Type 0
  Done_by result entries =
      Did (job costs.once description settings.options entries commands) (settings.dump ≡ false) before now result
      (λ text. PrintsAll costs description settings commands (with_entries entries before) now text.items)

  its_fault : (status : Status) → IsRunFault costs.once description settings.options commands (with_entries
      (line_entries lines) before) now status → IsLinesFault costs.once description settings lines before now status
  its_fault (Chunk key) fault = (its_run, record { seen = fault.0; stands = fault.1; cut = fault.2 })
  its_fault Store fault = (its_run, fault)
  its_fault OutOfMemory fault = tt
  its_fault Done fault = fault
  its_fault BadWords fault = fault
  its_fault (BadInput line) fault = absurd fault
  its_fault (Document error) fault = fault
  its_fault Read fault = fault
  its_fault Write fault = fault
  its_fault TooLong fault = fault

  of_lines : (result : Result (Vec ℕ Global) Status) → Done_by result (line_entries lines) →
      RanLines costs description settings lines before now result
  of_lines (Ok text) did = record {
    told = record { run = its_run; prints = did.done; refused = did.refused };
    between = tt;
    complete = λ run sees calm. tt;
    untouched = tt;
    unchanged = λ key free. (let none = free its_run in did.unchanged key none.0 none.1);
    unasked =
        λ run all none. did.unasked (subst (AreRefused description) (one_run description lines run its_run) all) none;
  }
  of_lines (Err status) did = record {
    told = its_fault status did.fault;
    between = λ run. subst (λ c. LeavesBetween costs.once description settings.options (line_entries lines) c before now
        (ending_of status)) (one_run description lines its_run run) did.between;
    complete = λ run sees calm. did.complete (subst (λ c. SeesNoDamage description settings.options c
        (with_keys (line_entries lines) before.content)) (one_run description lines run its_run) sees) calm;
    untouched = λ early. absurd (begun costs.once description settings.options commands
        (with_entries (line_entries lines) before) now status did.fault early);
    unchanged = λ key free. (let none = free its_run in did.unchanged key none.0 none.1);
    unasked =
        λ run all none. did.unasked (subst (AreRefused description) (one_run description lines run its_run) all) none;
  }

  -- the lines said what was run
  pub ran_lines : (result : Result (Vec ℕ Global) Status) → Done_by result (map entry_view parsed.entries.items) →
      RanLines costs description settings lines before now result
  ran_lines result did = of_lines result (subst (Done_by result) says.entries_are did)

module _ (costs : RunCosts) (description : Description) (settings : Settings) (lines : List (List ℕ))
    (store : Shown) where
  its_form : (status : Status) → IsFormFault description lines status →
      IsLinesFault costs.once description settings lines store store status
  its_form (BadInput line) fault = fault
  its_form OutOfMemory fault = tt
  its_form Done fault = fault
  its_form BadWords fault = fault
  its_form (Document error) fault = fault
  its_form (Chunk key) fault = absurd fault
  its_form Store fault = absurd fault
  its_form Read fault = fault
  its_form Write fault = fault
  its_form TooLong fault = fault

  only_memory : (status : Status) → LinesRun description lines → IsFormFault description lines status →
      status ≡ OutOfMemory
  only_memory (BadInput line) run fault = absurd (in_form description lines line run fault)
  only_memory OutOfMemory run fault = refl
  only_memory Done run fault = absurd fault
  only_memory BadWords run fault = absurd fault
  only_memory (Document error) run fault = absurd fault
  only_memory (Chunk key) run fault = absurd fault
  only_memory Store run fault = absurd fault
  only_memory Read run fault = absurd fault
  only_memory Write run fault = absurd fault
  only_memory TooLong run fault = absurd fault

  -- a line is out of form, and nothing was run
  pub not_run : (status : Status) → IsFormFault description lines status →
      RanLines {Z = Global} costs description settings lines store store (Err status)
  not_run status fault = record {
    told = its_form status fault;
    between = λ run. between_untouched costs.once description settings.options (line_entries lines) run.commands store
        store (ending_of status) (λ key. refl);
    complete = λ run sees calm. only_memory status run fault;
    untouched = λ early. record { content = λ key. refl; asks = refl; taken = refl; puts = refl };
    unchanged = λ key free. refl;
    unasked = λ run all none. (refl, refl);
  }

module _ (costs : RunCosts) (description : Description) (settings : Settings) (lines : List (List ℕ))
    (before now : Outside) where
  abbrev Answers : Ending → Type 0
  Answers ending = AnswersLines costs description settings lines before now ending

  all_cost : (text : List ℕ) → PrintsLines costs description settings lines before.store now.store text →
      (run : LinesRun description lines) →
      CostsAll costs settings run.commands (with_entries (line_entries lines) before.store) now.store
  all_cost text did run = subst (λ c. CostsAll costs settings c (with_entries (line_entries lines) before.store)
      now.store) (one_run description lines did.run run) did.prints.cost

  all_left : (text : List ℕ) → PrintsLines costs description settings lines before.store now.store text →
      (ending : Ending) → (run : LinesRun description lines) →
      LeavesBetween costs.once description settings.options (line_entries lines) run.commands before.store now.store
      ending
  all_left text did ending run = between_ran costs.once description settings.options (line_entries lines) run.commands
      before.store now.store ending
      (subst (λ c. LeavesArray description settings.options c (with_keys (line_entries lines) before.store.content)
      now.store.content) (one_run description lines did.run run) did.prints.prints.left)
      (subst (λ c. LeavesUndamaged description settings.options c (with_keys (line_entries lines) before.store.content)
      now.store.content) (one_run description lines did.run run) did.prints.prints.mended)

  all_refused : (text : List ℕ) → PrintsLines costs description settings lines before.store now.store text →
      (run : LinesRun description lines) → AreRefused description run.commands → settings.dump ≡ false →
      IsUntouched (with_entries (line_entries lines) before.store) now.store
  all_refused text did run all none =
      did.refused (subst (AreRefused description) (one_run description lines run did.run) all) none

  answers_done : (text : Vec ℕ Global) → RanLines costs description settings lines before.store now.store (Ok text) →
      IsGiven text.items before.sink.bytes now.sink.bytes → Answers end.done
  answers_done text ran given = record {
    done = λ is. (ran.told.run, text.items, ran.told.prints.prints, given);
    front = λ is. absurd (cc);
    cost = λ run written. all_cost text.items ran.told run;
    bad_input = λ line is. absurd (cc);
    exactly_input = λ line out. absurd (in_form description lines line ran.told.run out);
    chunk = λ key is. absurd (cc);
    complete = λ run sees sink store. inl refl;
    unchanged = ran.unchanged;
    between = all_left text.items ran.told end.done;
    refused = λ run written all none. all_refused text.items ran.told run all none;
    unasked = ran.unasked;
    store = λ is. absurd (cc);
    write = λ is. absurd (cc);
    line = tt;
    untouched = λ early. absurd early;
    own = tt;
  }

  answers_write : (text : Vec ℕ Global) → RanLines costs description settings lines before.store now.store (Ok text) →
      Rose before.sink.faults now.sink.faults → IsGivenFront text.items before.sink.bytes now.sink.bytes →
      Answers end.write_fault
  answers_write text ran rose given = record {
    done = λ is. absurd (cc);
    front = λ is. (ran.told.run, text.items, ran.told.prints.prints, given);
    cost = λ run written. all_cost text.items ran.told run;
    bad_input = λ line is. absurd (cc);
    exactly_input = λ line out. absurd (in_form description lines line ran.told.run out);
    chunk = λ key is. absurd (cc);
    complete = λ run sees sink store. absurd (sink rose);
    unchanged = ran.unchanged;
    between = all_left text.items ran.told end.write_fault;
    refused = λ run written all none. all_refused text.items ran.told run all none;
    unasked = ran.unasked;
    store = λ is. absurd (cc);
    write = λ is. rose;
    line = tt;
    untouched = λ early. absurd early;
    own = tt;
  }

  -- the cause that an early ending tells
  abbrev Tells : Ending → Type 0
  Tells (end.bad_input line) = IsOutOfForm description lines line
  Tells (end.damaged_chunk key) = (run : LinesRun description lines) × EndedByDamage costs.once description
      settings.options run.commands (with_entries (line_entries lines) before.store) now.store key
  Tells end.store_fault = (run : LinesRun description lines) × Rose before.store.faults now.store.faults
  Tells end.out_of_memory = Unit {0}
  Tells _ = ⊥

  abbrev Fails : Status → Type 0
  Fails status = IsLinesFault costs.once description settings lines before.store now.store status

  tells : (status : Status) → Fails status → Tells (ending_of status)
  tells (BadInput line) fault = fault
  tells (Chunk key) fault = fault
  tells Store fault = fault
  tells OutOfMemory fault = tt
  tells Done fault = fault
  tells BadWords fault = fault
  tells (Document error) fault = absurd fault
  tells Read fault = fault
  tells Write fault = fault
  tells TooLong fault = fault

  own_ending : (ending : Ending) → Tells ending → IsOfLines ending
  own_ending (end.bad_input line) told = tt
  own_ending (end.damaged_chunk key) told = tt
  own_ending end.store_fault told = tt
  own_ending end.out_of_memory told = tt
  own_ending end.done told = tt
  own_ending end.bad_words told = told
  own_ending (end.refused_document why) told = told
  own_ending end.read_fault told = told
  own_ending end.write_fault told = tt
  own_ending end.too_long told = told

  is_bad : (status : Status) (line : ℕ) → Fails status → IsOutOfForm description lines line →
      IsOrMemory (ending_of status) (end.bad_input line)
  is_bad (BadInput other) line fault out = inl (ap end.bad_input (fault.first ∙ sym out.first))
  is_bad (Chunk key) line fault out = absurd (in_form description lines line fault.0 out)
  is_bad Store line fault out = absurd (in_form description lines line fault.0 out)
  is_bad OutOfMemory line fault out = inr refl
  is_bad Done line fault out = absurd fault
  is_bad BadWords line fault out = absurd fault
  is_bad (Document error) line fault out = absurd fault
  is_bad Read line fault out = absurd fault
  is_bad Write line fault out = absurd fault
  is_bad TooLong line fault out = absurd fault

  last_tells : (status last : Status) → (last ≡ status) ⊎ (last ≡ OutOfMemory) → Fails status → Tells (ending_of last)
  last_tells status last (inl same) fault = subst (λ s. Tells (ending_of s)) (sym same) (tells status fault)
  last_tells status last (inr memory) fault = subst (λ s. Tells (ending_of s)) (sym memory) tt

  last_untouched : (status last : Status) → (last ≡ status) ⊎ (last ≡ OutOfMemory) → (IsBeforeStore (ending_of status) →
      IsUntouched before.store now.store) → IsBeforeStore (ending_of last) → IsUntouched before.store now.store
  last_untouched status last (inl same) untouched early =
      untouched (subst (λ s. IsBeforeStore (ending_of s)) same early)
  last_untouched status last (inr memory) untouched early =
      absurd (subst (λ s. IsBeforeStore (ending_of s)) memory early)

  answers_early : (status last : Status) → RanLines {Z = Global} costs description settings lines before.store now.store
      (Err status) → EndsWith status before.sink now.sink last → Answers (ending_of last)
  answers_early status last ran ends =
      let told = last_tells status last ends.which ran.told in
      let at : (ending : Ending) → ending_of last ≡ ending → Tells ending = λ ending is. subst Tells is told in
      record {
        done = λ is. absurd (at end.done is);
        front = λ is. absurd (at end.write_fault is);
        cost = λ run written. absurd (unwritten at written);
        bad_input = λ line is. at (end.bad_input line) is;
        exactly_input =
            λ line out. or_memory status last (end.bad_input line) ends.which (is_bad status line ran.told out);
        chunk = λ key is. at (end.damaged_chunk key) is;
        complete = λ run sees sink store.
            or_memory status last end.done ends.which (inr (ap ending_of (ran.complete run sees store)));
        unchanged = ran.unchanged;
        between = λ run. between_last costs.once description settings.options (line_entries lines) run.commands
            before.store now.store status last ends.which ends.kept (ran.between run);
        refused = λ run written all none. absurd (unwritten at written);
        unasked = ran.unasked;
        store = λ is. at end.store_fault is;
        write = λ is. absurd (at end.write_fault is);
        line = ends.line;
        untouched = last_untouched status last ends.which ran.untouched;
        own = own_ending (ending_of last) told;
      }
    where
      unwritten : ((ending : Ending) → ending_of last ≡ ending → Tells ending) → IsWritten (ending_of last) → ⊥
      unwritten at (inl is) = at end.done is
      unwritten at (inr is) = at end.write_fault is

  -- what was run and written answers
  pub answers_lines : (result : Result (Vec ℕ Global) Status) (last : Status) →
      RanLines costs description settings lines before.store now.store result →
      MatchResult result (λ text. WritesText text.items before.sink now.sink last)
      (λ status. EndsWith status before.sink now.sink last) → Answers (ending_of last)
  answers_lines (Ok text) last ran (inl (is, given)) =
      subst (λ s. Answers (ending_of s)) (sym is) (answers_done text ran given)
  answers_lines (Ok text) last ran (inr (is, rose, given)) =
      subst (λ s. Answers (ending_of s)) (sym is) (answers_write text ran rose given)
  answers_lines (Err status) last ran ends = answers_early status last ran ends

  -- and want of memory is told as such
  pub named_lines : (result : Result (Vec ℕ Global) Status) (last : Status) →
      RanLines costs description settings lines before.store now.store result →
      MatchResult result (λ text. WritesText text.items before.sink now.sink last)
      (λ status. EndsWith status before.sink now.sink last) → ¬ (last ≡ Document OpenError.OutOfMemory)
  named_lines (Ok text) last ran (inl (done, given)) is = let both : Done ≡ Document OpenError.OutOfMemory =
      sym done ∙ is in cc
  named_lines (Ok text) last ran (inr (failed, rose, given)) is = let both : Write ≡ Document OpenError.OutOfMemory =
      sym failed ∙ is in cc
  named_lines (Err status) last ran ends is = by ends.which
    where
      by : (last ≡ status) ⊎ (last ≡ OutOfMemory) → ⊥
      by (inl same) = subst Fails (sym same ∙ is) ran.told
      by (inr memory) = let both : OutOfMemory ≡ Document OpenError.OutOfMemory = sym memory ∙ is in cc
