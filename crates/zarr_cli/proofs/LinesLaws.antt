-- What a run of lines owes is what a run of the input owes that has them.
use Rattle.std.proofs.Common.{◌≡◌, true, ℕ, ◌+◌, ◌<◌, ◌≤◌, false, List, [], length, Some, None, IsUtf8, inl, inr}
use Rattle.std.proofs.Common.{sym, ap, ◌∙◌, subst, arith}
use Rattle.std.proofs.lemmas.Option.{same_Some}
use Rattle.zarr_model.specs.Prelude.{Command, SeesNoDamage, Shown, AreRefused, IsUntouched, counted}
use Rattle.zarr_model.specs.Prelude.{all_asks, all_puts}
use Rattle.zarr_cli_runs.specs.array.parts.Document.{ArrayDocument, describe}
use Rattle.zarr_cli_runs.specs.array.parts.Opening.{opened, not_opened, open_builtin}
use Rattle.zarr_cli_runs.specs.lines.Text.{input_lines, commands_of, good_lines}
use Rattle.zarr_cli_runs.specs.Ending.{Ending, IsWritten, IsOrMemory}
use Rattle.zarr_cli_runs.specs.Ending as end
use Rattle.zarr_cli_runs.specs.Between.{LeavesBetween}
use Rattle.zarr_cli_runs.specs.Commands.{TakesRun}
use Rattle.zarr_cli_runs.specs.Keys.{IsDumpAsks}
use Rattle.zarr_cli_runs.proofs.DocumentLawsBelow.{same_opened}
use Rattle.zarr_cli.specs.Words.{Settings, ReadsBy, HasBadWords}
use Rattle.zarr_cli.specs.Lines.{LinesRun, IsOutOfForm}
use Rattle.zarr_cli_runs.specs.Job.{IsUnasked}
use Rattle.zarr_cli.specs.Run.{open_costs, CostsAll}
use Rattle.zarr_cli.specs.Answers.{AnswersLines, IsOfLines, outside}
use Rattle.zarr_cli.specs.ProgramInput.{input_limit, command_grammar, document_line, lines_after_document}
use Rattle.zarr_cli.specs.ProgramInput.{input_entries, with_entries, store_after_keys, HasBadLine}
use Rattle.zarr_cli.specs.Program.{Run}
use Rattle.zarr_cli.specs.Seen.{ProgramSeen}
use Rattle.zarr_cli.specs.ProgramAnswers.{AnswersWords, Ends}
use Rattle.zarr_cli.proofs.OutcomeLemmas.{valid_up_to-not}

module _ (words : List (List ℕ)) (settings : Settings) (reads : ReadsBy words settings) where
  -- lines have no ending by the words, the reading or the document
  other : (ending called_for : Ending) → IsOfLines ending → (IsOfLines called_for → ⊥) → ending ≡ called_for → ⊥
  other ending called_for own not is = not (subst IsOfLines is own)

  unknown : HasBadWords words → ⊥
  unknown bad = let both : Some settings ≡ None = sym reads.0 ∙ bad in cc

  -- whatever the input is
  pub ends_of_lines : (document : ArrayDocument) (lines : List (List ℕ)) (before now : ProgramSeen) (ending : Ending) →
      AnswersLines (open_costs document) (describe document) settings lines (outside before.sink before.store)
      (outside now.sink now.store) ending → Ends words before now ending
  ends_of_lines document lines before now ending ran = record {
    bad_words = λ is. absurd (other ending end.bad_words ran.own (λ h. h) is);
    exactly_words = λ bad. absurd (unknown bad);
    unread = λ bad. absurd (unknown bad);
    unstored = λ bad. absurd (unknown bad);
    store = λ is. (ran.store is).1;
    read = λ is. absurd (other ending end.read_fault ran.own (λ h. h) is);
    write = ran.write;
    line = ran.line;
    untouched = ran.untouched;
  }

  module _ (input : List ℕ) (document : ArrayDocument) (within : length input ≤ input_limit) (utf8 : IsUtf8 input)
      (opens : open_builtin (document_line input) ≡ opened document) where
    -- the run of the input that has the commands of the lines
    abbrev its_run : LinesRun (describe document) (input_lines input) → Run words input
    its_run lines = record {
      settings = settings;
      document = document;
      commands = lines.commands;
      are_words = reads;
      within = within;
      is_text = utf8;
      is_opened = opens;
      are_commands = lines.are_commands;
    }

    -- what holds of the commands of the lines holds of each run of the input
    along : (P : Settings → ArrayDocument → List Command → Type 0) →
        ((lines : LinesRun (describe document) (input_lines input)) → P settings document lines.commands) →
        (run : Run words input) → P run.settings run.document run.commands
    along P holds run =
        let set : run.settings ≡ settings = same_Some run.settings settings (sym run.are_words.0 ∙ reads.0) in
        let which : run.document ≡ document = same_opened run.document document (sym run.is_opened ∙ opens) in
        let lines : LinesRun (describe document) (input_lines input) = record {
          commands = run.commands;
          are_commands = subst (λ d. commands_of (command_grammar d) (lines_after_document input) ≡ Some run.commands)
              which run.are_commands;
        } in
        subst (λ s. P s run.document run.commands) (sym set)
        (subst (λ d. P settings d run.commands) (sym which) (holds lines))

    -- a line out of form, by each document that the first line opens as
    out_of_form : (line : ℕ) → HasBadLine words input line → IsOutOfForm (describe document) (input_lines input) line
    out_of_form line (reading, short, inl (n, up, is)) = absurd (valid_up_to-not input n utf8 up)
    out_of_form line (reading, short, inr (text, d, opened_as, inside, first)) =
        let same : d ≡ document = same_opened d document (sym opened_as ∙ opens) in record {
          inside = subst (λ (e : ArrayDocument). good_lines (command_grammar e) (lines_after_document input)
              < length (lines_after_document input)) same inside;
          first =
              first ∙ ap (λ (e : ArrayDocument). good_lines (command_grammar e) (lines_after_document input) + 2) same;
        }

    all_put : (settings : Settings) (commands : List Command) (before now : Shown) →
        CostsAll (open_costs document) settings commands (with_entries (input_entries input) before) now →
        now.puts ≡ counted before.puts (length (input_entries input) + all_puts (describe document) commands)
    all_put settings commands before now cost = let first = cost.commanded.puts in let last = cost.puts in
        omega (arith, first, last)

    -- the calls and the bytes of commands and of a dump
    all_asked : (settings : Settings) (commands : List Command) (before now : Shown) →
        CostsAll (open_costs document) settings commands before now →
        (more : ℕ) × IsDumpAsks settings.dump now.content more ×
        (now.asks ≡ counted before.asks (all_asks (describe document) commands + more))
    all_asked settings commands before now cost = (
      cost.more,
      cost.dumped,
      (let first = cost.commanded.asks in let last = cost.asks in omega (arith, first, last)),
    )

    all_taken : (settings : Settings) (commands : List Command) (before now : Shown) →
        CostsAll (open_costs document) settings commands before now → settings.dump ≡ false →
        TakesRun document settings.options commands before now
    all_taken settings commands before now cost none alone array tells =
        cost.taken none ∙ cost.commanded.taken alone array tells

    -- all that a run of the input owes
    pub answers_of_lines : (before now : ProgramSeen) (ending : Ending) → now.source.left ≡ Some [] →
        AnswersLines (open_costs document) (describe document) settings (input_lines input) (outside before.sink
        before.store) (outside now.sink now.store) ending → AnswersWords words input before now ending
    answers_of_lines before now ending whole ran = record {
      done = λ is. (let went = ran.done is in (its_run went.0, went.1, went.2, went.3));
      read_whole = λ is. whole;
      asks = along (λ s d commands. IsWritten ending → (more : ℕ) × IsDumpAsks s.dump now.store.content more ×
          (now.store.asks ≡ counted before.store.asks (all_asks (describe d) commands + more)))
          (λ lines written. all_asked settings lines.commands (with_entries (input_entries input) before.store)
          now.store (ran.cost lines written));
      puts = along (λ s d commands. IsWritten ending →
          now.store.puts ≡ counted before.store.puts (length (input_entries input) + all_puts (describe d) commands))
          (λ lines written. all_put settings lines.commands before.store now.store (ran.cost lines written));
      taken = along (λ s d commands. IsWritten ending → s.dump ≡ false →
          TakesRun d s.options commands (with_entries (input_entries input) before.store) now.store)
          (λ lines written none. all_taken settings lines.commands (with_entries (input_entries input) before.store)
          now.store (ran.cost lines written) none);
      bad_input = λ line is. (let bad = ran.bad_input line is in
          ((settings, reads), within, inr (utf8, document, opens, bad.inside, bad.first)));
      document = λ why is. absurd (other ending (end.refused_document why) ran.own (λ h. h) is);
      too_long = λ is. absurd (other ending end.too_long ran.own (λ h. h) is);
      chunk = λ key is.
          (let met = ran.chunk key is in ((its_run met.0, met.1.seen), met.1.stands, (its_run met.0, met.1.cut)));
      exactly_long = λ calm long. absurd (let above : input_limit < length input = long.1 in omega (arith, within));
      exactly_input = λ line calm bad. ran.exactly_input line (out_of_form line bad);
      exactly_document =
          λ why calm refused. absurd (let both : opened document ≡ not_opened why = sym opens ∙ refused.3 in cc);
      complete = λ runs source sink store. along (λ s d commands. SeesNoDamage (describe d) s.options commands
          (store_after_keys input before.store.content) → IsOrMemory ending end.done)
          (λ lines sees. ran.complete lines sees sink store) runs.0 runs.1;
      front = λ is. (let went = ran.front is in (its_run went.0, went.1, went.2, went.3));
      unchanged = λ key free. ran.unchanged key (λ lines. free (its_run lines));
      between = along (λ s d commands. LeavesBetween true (describe d) s.options (input_entries input) commands
          before.store now.store ending) (λ lines. ran.between lines);
      refused = along (λ s d commands. IsWritten ending → AreRefused (describe d) commands → s.dump ≡ false →
          IsUntouched (with_entries (input_entries input) before.store) now.store)
          (λ lines. ran.refused lines);
      unasked = along (λ s d commands. AreRefused (describe d) commands → s.dump ≡ false →
          IsUnasked before.store now.store) (λ lines. ran.unasked lines);
    }
