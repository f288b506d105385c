-- What a run of lines owes is what a run over a version 2 document owes that has them.
use Rattle.std.proofs.Common.{◌≡◌, ◌∙◌, inl, inr, refl, sym, ap, subst, ℕ, Bool, true, false, cond, nat_lt, List, []}
use Rattle.std.proofs.Common.{length, drop, Some, is_some, arith}
use Rattle.std.proofs.lemmas.Option.{same_Some}
use Rattle.std.proofs.lemmas.Bool.{lt-ltb, le-ltb, ltb-true}
use Rattle.zarr_model.specs.Prelude.{Content, IsHonest, kind, layout}
use Rattle.zarr_array_open.specs.Document.{ArrayDocument, describe}
use Rattle.zarr_cli_runs.specs.lines.Text.{line_command, input_lines, commands_of}
use Rattle.zarr_cli_runs.specs.Ending.{Ending, IsOrMemory}
use Rattle.zarr_cli_runs.specs.Ending as end
use Rattle.zarr_cli_runs.proofs.BetweenLaws.{honest_sees_none}
use Rattle.zarr_cli_runs.proofs.TextLaws.{good_lines_all}
use Rattle.zarr_cli.specs.Words.{Settings}
use Rattle.zarr_cli.specs.Lines.{LinesRun, IsOutOfForm, document_line, store_after_keys}
use Rattle.zarr_cli.specs.Run.{open_costs}
use Rattle.zarr_cli.specs.Answers.{AnswersLines, IsOfLines, outside}
use Rattle.zarr_cli.specs.Seen.{ProgramSeen}
use Rattle.zarr_v2.specs.ChunksV2.{ChunksV2, layout_v2}
use Rattle.zarr_v2.proofs.MeansLaws.{honest}
use Rattle.zarr_v2.specs.Opening.{opened_v2, open_builtin_v2, chunks_text}
use Rattle.zarr_v2.specs.Ending.{EndingV2, cli, IsOrMemoryV2}
use Rattle.zarr_v2.specs.Says.{stops, runs, stops_cli, good_behind_v2, lines_say_v2, says_v2, IsOfInputV2}
use Rattle.zarr_v2.specs.Run.{RunV2}
use Rattle.zarr_v2.specs.Answers.{AnswersV2}
use Rattle.zarr_v2.proofs.BuiltinLaws.{lie_as_opened}
use Rattle.zarr_v2.proofs.LyingLaws.{HasChunksV2, has_chunks, met_v2, prints_v2}
use Rattle.zarr_v2.proofs.SaysLaws.{number, by_form, one_document}

same_ending : (a b : Ending) → cli a ≡ cli b → a ≡ b
same_ending a b e = cc

or_memory : (ending called_for : Ending) → IsOrMemory ending called_for → IsOrMemoryV2 (cli ending) (cli called_for)
or_memory ending called_for (inl is) = inl (ap cli is)
or_memory ending called_for (inr memory) = inr (ap cli memory)

module _ (settings : Settings) (input : List ℕ)
    (document : ArrayDocument) (said : says_v2 input ≡ lines_say_v2 document (input_lines input))
    (opens : open_builtin_v2 (document_line input) ≡ opened_v2 document) where
  has : HasChunksV2 (chunks_text (document_line input)) document
  has = has_chunks (chunks_text (document_line input)) document (lie_as_opened (document_line input) document opens)

  -- lines that are in form
  in_form : LinesRun (describe document) (input_lines input) → lines_say_v2 document (input_lines input) ≡ runs document
  in_form lines =
      let all : good_behind_v2 document (input_lines input) ≡ length (drop 1 (input_lines input)) =
      (good_lines_all (line_command (kind (describe document))) (drop 1 (input_lines input))).0
      (ap is_some lines.are_commands) in
      let test : nat_lt (good_behind_v2 document (input_lines input)) (length (drop 1 (input_lines input))) ≡ false =
      le-ltb _ _ (omega (arith, all)) in
      rw test refl

  abbrev its_run : LinesRun (describe document) (input_lines input) → RunV2 input
  its_run lines = record {
    document = document;
    is_run = said ∙ in_form lines;
    chunks = has.chunks;
    are_chunks = has.are_chunks;
    lines = lines;
  }

  its_document : (run : RunV2 input) → run.document ≡ document
  its_document run = one_document document (input_lines input) run.document (sym said ∙ run.is_run)

  its_lines : (run : RunV2 input) → LinesRun (describe document) (input_lines input)
  its_lines run = record {
    commands = run.lines.commands;
    are_commands = subst (λ d.
        commands_of (line_command (kind (describe d))) (drop 1 (input_lines input)) ≡ Some run.lines.commands)
        (its_document run) run.lines.are_commands;
  }

  its_chunks : (run : RunV2 input) → run.chunks ≡ has.chunks
  its_chunks run = same_Some run.chunks has.chunks (sym run.are_chunks ∙ has.are_chunks)

  honest_lines : (store : Content) (run : RunV2 input) →
      IsHonest (layout_v2 run.chunks) (store_after_keys input store) →
      IsHonest (layout (describe document) settings.options) (store_after_keys input store)
  honest_lines store run h =
      honest (layout_v2 has.chunks) (layout (describe document) settings.options) (has.lie settings.options)
      (store_after_keys input store)
      (subst (λ (c : ChunksV2). IsHonest (layout_v2 c) (store_after_keys input store)) (its_chunks run) h)

  -- and one that is not
  stop_said : (line : ℕ) → IsOutOfForm (describe document) (input_lines input) line →
      lines_say_v2 document (input_lines input) ≡ stops_cli (end.bad_input line)
  stop_said line out =
      let test : nat_lt (good_behind_v2 document (input_lines input)) (length (drop 1 (input_lines input))) ≡ true =
      lt-ltb _ _ out.inside in
      rw test (ap (λ (n : ℕ). stops_cli (end.bad_input n)) (sym out.first))

  module _ (before now : ProgramSeen) (ending : Ending) (whole : now.source.left ≡ Some [])
      (ran : AnswersLines (open_costs document) (describe document) settings (input_lines input)
      (outside before.sink before.store)
      (outside now.sink now.store) ending) where
    other : (called_for : Ending) → (IsOfLines called_for → ⊥) → cli ending ≡ cli called_for → ⊥
    other called_for not is = not (subst IsOfLines (same_ending ending called_for is) ran.own)

    cause_of : (e : Ending) → ending ≡ e → IsOfInputV2 (cli e) → says_v2 input ≡ stops (cli e)
    cause_of (end.bad_input line) is of_input = said ∙ stop_said line (ran.bad_input line is)
    cause_of end.too_long is of_input = absurd (subst IsOfLines is ran.own)
    cause_of (end.refused_document why) is of_input = absurd (subst IsOfLines is ran.own)
    cause_of end.done is of_input = absurd of_input
    cause_of end.bad_words is of_input = absurd of_input
    cause_of (end.damaged_chunk key) is of_input = absurd of_input
    cause_of end.store_fault is of_input = absurd of_input
    cause_of end.read_fault is of_input = absurd of_input
    cause_of end.write_fault is of_input = absurd of_input
    cause_of end.out_of_memory is of_input = absurd of_input

    called : (called_for : EndingV2) → lines_say_v2 document (input_lines input) ≡ stops called_for →
        IsOrMemoryV2 (cli ending) called_for
    called called_for =
        by_form document (input_lines input) (λ s. s ≡ stops called_for → IsOrMemoryV2 (cli ending) called_for) each
      where
        each : (b : Bool) →
            nat_lt (good_behind_v2 document (input_lines input)) (length (drop 1 (input_lines input))) ≡ b →
            cond b (stops_cli (end.bad_input (number document (input_lines input)))) (runs document) ≡
            stops called_for → IsOrMemoryV2 (cli ending) called_for
        each true test e =
            let which : cli (end.bad_input (number document (input_lines input))) ≡ called_for = cc in
            subst (IsOrMemoryV2 (cli ending)) which
            (or_memory ending (end.bad_input (number document (input_lines input)))
            (ran.exactly_input (number document (input_lines input))
            (record { inside = ltb-true _ _ test; first = refl })))
        each false test e = absurd cc

    pub answers_of_lines : AnswersV2 settings input before now (cli ending)
    answers_of_lines = record {
      done = λ is. (let went = ran.done (same_ending ending end.done is) in (
        its_run went.0,
        went.1,
        prints_v2 has.chunks (describe document) settings (has.lie settings.options) (went.0).commands
            (store_after_keys input before.store.content) now.store.content went.1 went.2,
        went.3,
      ));
      front = λ is. (let went = ran.front (same_ending ending end.write_fault is) in (
        its_run went.0,
        went.1,
        prints_v2 has.chunks (describe document) settings (has.lie settings.options) (went.0).commands
            (store_after_keys input before.store.content) now.store.content went.1 went.2,
        went.3,
      ));
      read_whole = λ is. whole;
      cause = cause_of ending refl;
      exactly = λ called_for says calm. called called_for (sym said ∙ says);
      only_large = λ why is. absurd (other (end.refused_document why) (λ h. h) is);
      chunk = λ key is. (let met = ran.chunk key (same_ending ending (end.damaged_chunk key) is) in (
        its_run met.0,
        met_v2 has.chunks (describe document) settings.options (has.lie settings.options) (met.0).commands
            (store_after_keys input before.store.content) key met.1.seen,
      ));
      complete = λ honest_run source sink store. or_memory ending end.done (ran.complete (its_lines honest_run.0)
          (honest_sees_none (describe document) settings.options (its_lines honest_run.0).commands
          (store_after_keys input before.store.content)
          (honest_lines before.store.content honest_run.0 honest_run.1)) sink store);
      unchanged = λ key free. ran.unchanged key (λ lines. free (its_run lines));
      lines = λ run calm. (
        ending,
        refl,
        subst (λ d.
            AnswersLines (open_costs d) (describe d) settings (input_lines input) (outside before.sink before.store)
            (outside now.sink now.store) ending) (sym (its_document run)) ran,
      );
    }
