-- What a run of lines owes is what a run over a sharded document owes that has them.
use Rattle.std.proofs.Common.{◌≡◌, ◌∙◌, refl, sym, ap, subst, ℕ, Bool, true, false, cond, nat_lt, List, [], length}
use Rattle.std.proofs.Common.{drop, Some, is_some, arith}
use Rattle.std.proofs.lemmas.Bool.{lt-ltb, le-ltb, ltb-true}
use Rattle.zarr_model.specs.Prelude.{kind}
use Rattle.zarr_cli_runs.specs.lines.Text.{line_command, input_lines}
use Rattle.zarr_cli_runs.specs.Ending.{Ending, IsOrMemory}
use Rattle.zarr_cli_runs.specs.Ending as end
use Rattle.zarr_cli_runs.proofs.TextLaws.{good_lines_all}
use Rattle.zarr_cli.specs.Words.{Settings}
use Rattle.zarr_cli.specs.Lines.{LinesRun, IsOutOfForm}
use Rattle.zarr_cli.specs.Answers.{IsOfLines}
use Rattle.zarr_cli.specs.Seen.{ProgramSeen}
use Rattle.zarr_array_open.specs.ShardDocument.{ShardDocument}
use Rattle.zarr_shard.specs.Answers.{AnswersShard}
use Rattle.zarr_shard.specs.Run.{ShardRun, IsOfRun, RunsLines}
use Rattle.zarr_shard.specs.Says.{stops, runs, good_behind, lines_say, input_says, IsOfInput}
use Rattle.zarr_shard.specs.ShardArray.{describe_sharded}
use Rattle.zarr_shard.proofs.SaysLaws.{number, by_form, one_document}

module _ (settings : Settings) (input : List ℕ)
    (document : ShardDocument) (said : input_says input ≡ lines_say document (input_lines input)) where
  -- lines that are in form
  in_form : LinesRun (describe_sharded document) (input_lines input) →
      lines_say document (input_lines input) ≡ runs document
  in_form lines =
      let all : good_behind document (input_lines input) ≡ length (drop 1 (input_lines input)) =
      (good_lines_all (line_command (kind (describe_sharded document))) (drop 1 (input_lines input))).0
      (ap is_some lines.are_commands) in
      let test : nat_lt (good_behind document (input_lines input)) (length (drop 1 (input_lines input))) ≡ false =
      le-ltb _ _ (omega (arith, all)) in
      rw test refl

  abbrev its_run : LinesRun (describe_sharded document) (input_lines input) → ShardRun input
  its_run lines = record {
    document = document;
    is_run = said ∙ in_form lines;
    lines = lines;
  }

  its_document : (run : ShardRun input) → run.document ≡ document
  its_document run = one_document document (input_lines input) run.document (sym said ∙ run.is_run)

  -- and one that is not
  stop_said : (line : ℕ) → IsOutOfForm (describe_sharded document) (input_lines input) line →
      lines_say document (input_lines input) ≡ stops (end.bad_input line)
  stop_said line out =
      let test : nat_lt (good_behind document (input_lines input)) (length (drop 1 (input_lines input))) ≡ true =
      lt-ltb _ _ out.inside in
      rw test (ap (λ (n : ℕ). stops (end.bad_input n)) (sym out.first))

  module _ (before now : ProgramSeen) (ending : Ending) (whole : now.source.left ≡
      Some []) (ran : RunsLines document settings input before now ending) where
    cause_of : (e : Ending) → ending ≡ e → IsOfInput e → input_says input ≡ stops e
    cause_of (end.bad_input line) is of_input = said ∙ stop_said line (ran.bad_input line is)
    cause_of end.too_long is of_input = absurd (subst IsOfLines is ran.own)
    cause_of (end.refused_document why) is of_input = absurd (subst IsOfLines is ran.own)
    cause_of end.done is of_input = absurd of_input
    cause_of end.bad_words is of_input = absurd of_input
    cause_of (end.damaged_chunk key) is of_input = absurd of_input
    cause_of end.store_fault is of_input = absurd of_input
    cause_of end.read_fault is of_input = absurd of_input
    cause_of end.write_fault is of_input = absurd of_input
    cause_of end.out_of_memory is of_input = absurd of_input

    called : (called_for : Ending) → lines_say document (input_lines input) ≡ stops called_for →
        IsOrMemory ending called_for
    called called_for =
        by_form document (input_lines input) (λ s. s ≡ stops called_for → IsOrMemory ending called_for) each
      where
        each : (b : Bool) →
            nat_lt (good_behind document (input_lines input)) (length (drop 1 (input_lines input))) ≡ b →
            cond b (stops (end.bad_input (number document (input_lines input)))) (runs document) ≡ stops called_for →
            IsOrMemory ending called_for
        each true test e =
            let which : end.bad_input (number document (input_lines input)) ≡ called_for = cc in
            subst (IsOrMemory ending) which
            (ran.exactly_input (number document (input_lines input))
            (record { inside = ltb-true _ _ test; first = refl }))
        each false test e = absurd cc

    -- an ending that a run in form alone has
    run_of : (e : Ending) → ending ≡ e → IsOfRun e → ShardRun input
    run_of end.done is of_run = its_run (ran.done is).0
    run_of end.write_fault is of_run = its_run (ran.front is).0
    run_of (end.damaged_chunk key) is of_run = its_run (ran.chunk key is).0
    run_of end.store_fault is of_run = its_run (ran.store is).0
    run_of end.bad_words is of_run = absurd of_run
    run_of (end.bad_input line) is of_run = absurd of_run
    run_of (end.refused_document why) is of_run = absurd of_run
    run_of end.read_fault is of_run = absurd of_run
    run_of end.too_long is of_run = absurd of_run
    run_of end.out_of_memory is of_run = absurd of_run

    pub answers_of_lines : AnswersShard settings input before now ending
    answers_of_lines = record {
      cause = cause_of ending refl;
      exactly = λ called_for says calm. called called_for (sym said ∙ says);
      in_form = run_of ending refl;
      lines = λ run calm. subst (λ d. RunsLines d settings input before now ending) (sym (its_document run)) ran;
      read_whole = λ is. whole;
      unchanged = λ key free. ran.unchanged key (λ lines. free (its_run lines));
    }
