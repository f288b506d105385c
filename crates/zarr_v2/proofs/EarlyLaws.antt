-- What is owed where the reading or the document decided.
use Rattle.std.proofs.Common.{◌≡◌, ◌∙◌, ◌⊎◌, inl, inr, refl, sym, ap, subst, ℕ, ◌≤◌, List, length, Option, Some}
use Rattle.std.proofs.Common.{None, IsUtf8}
use Rattle.zarr_model.specs.Prelude.{Told, Given, Rose}
use Rattle.zarr_array_open.specs.Document.{describe}
use Rattle.zarr_array_open.specs.Opening.{OpenRefusal, chunk_too_large}
use Rattle.zarr_array_open.specs.OpenError.{open_refusal_of}
use Rattle.zarr_cli_runs.specs.lines.Text.{input_lines}
use Rattle.zarr_cli_runs.specs.Ending.{IsGivenLine}
use Rattle.zarr_cli_runs.specs.Ending as end
use Rattle.zarr_cli_runs.specs.Status.{ending_of, refused_by}
use Rattle.zarr_cli_runs.specs.declared.status.Status.{Status}
use Rattle.zarr_cli_runs.specs.declared.status.Status.TheVariants.{Done, BadWords, BadInput, Document, Chunk, Store}
use Rattle.zarr_cli_runs.specs.declared.status.Status.TheVariants.{Read, Write, TooLong, OutOfMemory}
use Rattle.zarr_cli.specs.Words.{Settings}
use Rattle.zarr_cli.specs.Input.{input_limit, IsInputFault}
use Rattle.zarr_cli.specs.Lines.{document_line}
use Rattle.zarr_cli.specs.Status.{fault_status}
use Rattle.zarr_cli.specs.Run.{open_costs}
use Rattle.zarr_cli.specs.Seen.{ProgramSeen}
use Rattle.zarr_cli.specs.Written.{EndsWith}
use Rattle.zarr_cli.specs.declared.lines.InputFault.{InputFault}
use Rattle.zarr_cli.specs.declared.lines.InputFault.TheVariants as Fault
use Rattle.zarr_cli.proofs.InputLaws.{lines_said, fault_said}
use Rattle.zarr_cli.proofs.StarvedLaws.{same, lines_starved}
use Rattle.zarr_v2.specs.Opening.{open_builtin_v2, IsNotOpened}
use Rattle.zarr_v2.specs.Ending.{EndingV2, cli, ending_v2, line_v2, IsOrMemoryV2}
use Rattle.zarr_v2.specs.Says.{stops, stops_cli, answer_says_v2, all_say_v2, says_v2, IsOfInputV2}
use Rattle.zarr_v2.specs.Run.{RunV2}
use Rattle.zarr_v2.specs.Steps.{EndsWithV2, IsOpenFaultV2, IsEarlyV2}
use Rattle.zarr_v2.specs.Answers.{AnswersV2}
use Rattle.zarr_v2.specs.declared.status.V2Status.{V2Status}
use Rattle.zarr_v2.specs.declared.status.V2Status.TheVariants.{Cli, Refused}
use Rattle.zarr_v2.proofs.SaysLaws.{one_stop, no_run, large_said}

-- an ending of a run that went on is none of these
not_late : (input : List ℕ) (rose : Type 0) (ending : EndingV2) → (IsOfInputV2 ending → ⊥) →
    (ending ≡ cli end.read_fault → ⊥) →
    (ending ≡ cli end.out_of_memory → ⊥) → IsEarlyV2 input rose ending → ⊥
not_late input rose ending told read memory (inl called) = told called.1
not_late input rose ending told read memory (inr (inl failed)) = read failed.0
not_late input rose ending told read memory (inr (inr is)) = memory is

large : (input : List ℕ) (rose : Type 0) (why : OpenRefusal) → IsEarlyV2 input rose (cli (end.refused_document why)) →
    why ≡ chunk_too_large
large input rose why (inl called) = large_said input why called.0
large input rose why (inr (inl failed)) = let is : cli (end.refused_document why) ≡ cli end.read_fault = failed.0 in
    absurd cc
large input rose why (inr (inr is)) = absurd cc

module _ (settings : Settings) (input : List ℕ) (before now : ProgramSeen) where
  abbrev Failed : Type 0
  Failed = Rose before.source.faults now.source.faults

  cause : (ending : EndingV2) → IsEarlyV2 input Failed ending → IsOfInputV2 ending → says_v2 input ≡ stops ending
  cause ending (inl called) of_input = called.0
  cause ending (inr (inl failed)) of_input = absurd (subst IsOfInputV2 failed.0 of_input)
  cause ending (inr (inr is)) of_input = absurd (subst IsOfInputV2 is of_input)

  exactly : (ending called_for : EndingV2) → IsEarlyV2 input Failed ending → says_v2 input ≡ stops called_for →
      ¬ Failed → IsOrMemoryV2 ending called_for
  exactly ending called_for (inl called) says calm = inl (one_stop input ending called_for called.0 says)
  exactly ending called_for (inr (inl failed)) says calm = absurd (calm failed.1)
  exactly ending called_for (inr (inr is)) says calm = inr is

  starved : (ending : EndingV2) → IsEarlyV2 input Failed ending → (ending ≡ cli end.read_fault → ⊥) → RunV2 input →
      ending ≡ cli end.out_of_memory
  starved ending (inl called) read run = absurd (no_run input ending run.document called.0 run.is_run)
  starved ending (inr (inl failed)) read run = absurd (read failed.0)
  starved ending (inr (inr is)) read run = is

  complete : (ending : EndingV2) → IsEarlyV2 input Failed ending → RunV2 input → ¬ Failed →
      IsOrMemoryV2 ending (cli end.done)
  complete ending (inl called) run calm = absurd (no_run input ending run.document called.0 run.is_run)
  complete ending (inr (inl failed)) run calm = absurd (calm failed.1)
  complete ending (inr (inr is)) run calm = inr is

  pub answers_early : (ending : EndingV2) → IsEarlyV2 input Failed ending →
      IsGivenLine (line_v2 ending) before.sink now.sink → now.store ≡ before.store →
      AnswersV2 settings input before now ending
  answers_early ending early line still =
      let at : (other : EndingV2) → ending ≡ other → IsEarlyV2 input Failed other =
      λ other is. subst (IsEarlyV2 input Failed) is early in
      record {
        done = λ is. absurd (not_late input Failed (cli end.done) (λ h. h) (λ e. cc) (λ e. cc) (at (cli end.done) is));
        front = λ is. absurd
            (not_late input Failed (cli end.write_fault) (λ h. h) (λ e. cc) (λ e. cc) (at (cli end.write_fault) is));
        read_whole =
            λ is. absurd (not_late input Failed (cli end.done) (λ h. h) (λ e. cc) (λ e. cc) (at (cli end.done) is));
        cause = cause ending early;
        exactly = λ called_for. exactly ending called_for early;
        only_large = λ why is. large input Failed why (at (cli (end.refused_document why)) is);
        chunk = λ key is. absurd (not_late input Failed (cli (end.damaged_chunk key)) (λ h. h) (λ e. cc) (λ e. cc)
            (at (cli (end.damaged_chunk key)) is));
        complete = λ honest calm sink store. complete ending early honest.0 calm;
        unchanged = λ key free. same before.store now.store still key;
        lines = λ run read. (let memory = starved ending early read run in (
          end.out_of_memory,
          memory,
          lines_starved before.store now.store still (open_costs run.document) (describe run.document) settings
              (input_lines input) before.sink now.sink
              (subst (λ (e : EndingV2). IsGivenLine (line_v2 e) before.sink now.sink) memory line),
        ));
      }

-- an ending, or want of memory in its place
last_early : (input : List ℕ) (rose : Type 0) (status last : V2Status) → (last ≡ status) ⊎ (last ≡ Cli OutOfMemory) →
    IsEarlyV2 input rose (ending_v2 status) →
    IsEarlyV2 input rose (ending_v2 last)
last_early input rose status last (inl is) early = subst (λ s. IsEarlyV2 input rose (ending_v2 s)) (sym is) early
last_early input rose status last (inr memory) early = inr (inr (ap ending_v2 memory))

pub answers_ended : (settings : Settings) (input : List ℕ) (before now : ProgramSeen) (status last : V2Status) →
    EndsWithV2 status before.sink now.sink last →
    IsEarlyV2 input (Rose before.source.faults now.source.faults) (ending_v2 status) →
    now.store ≡ before.store → AnswersV2 settings input before now (ending_v2 last)
answers_ended settings input before now status last ended early still =
    answers_early settings input before now (ending_v2 last)
    (last_early input (Rose before.source.faults now.source.faults) status last ended.which early) ended.line still

-- a status of the program's own
pub of_cli : (status last : Status) (before now : Given) → EndsWith status before now last →
    EndsWithV2 (Cli status) before now (Cli last)
of_cli status last before now ended = record { which = which ended.which; line = ended.line }
  where
    which : (last ≡ status) ⊎ (last ≡ OutOfMemory) → (Cli last ≡ Cli status) ⊎ (Cli last ≡ Cli OutOfMemory)
    which (inl is) = inl (ap Cli is)
    which (inr memory) = inr (ap Cli memory)

-- an input that was not read
pub fault_early : (before now : Told) (input : List ℕ) → before.left ≡ Some input → (fault : InputFault) →
    IsInputFault before now fault →
    IsEarlyV2 input (Rose before.faults now.faults) (cli (ending_of (fault_status fault)))
fault_early before now input left Fault.Read is = inr (inl (refl, is))
fault_early before now input left Fault.TooLong is =
    inl (fault_said stops_cli all_say_v2 input before now Fault.TooLong left is, tt)
fault_early before now input left (Fault.NotUtf8 line) is =
    inl (fault_said stops_cli all_say_v2 input before now (Fault.NotUtf8 line) left is, tt)
fault_early before now input left Fault.OutOfMemory is = inr (inr refl)

-- a first line that is not opened
module _ (input : List ℕ) (within : length input ≤ input_limit) (utf8 : IsUtf8 input) where
  pub said : says_v2 input ≡ answer_says_v2 (input_lines input) (open_builtin_v2 (document_line input))
  said = lines_said stops_cli all_say_v2 input (input_lines input) within utf8 refl

  unopened : (rose : Type 0) (why : Option OpenRefusal) → IsNotOpened why (open_builtin_v2 (document_line input)) →
      IsEarlyV2 input rose (cli (refused_by why))
  unopened rose None is = absurd is
  unopened rose (Some why) is = inl (said ∙ ap (answer_says_v2 (input_lines input)) is, tt)

  pub open_early : (rose : Type 0) (status : V2Status) → IsOpenFaultV2 status (open_builtin_v2 (document_line input)) →
      IsEarlyV2 input rose (ending_v2 status)
  open_early rose (Cli (Document error)) fault = unopened rose (open_refusal_of error) fault
  open_early rose (Cli OutOfMemory) fault = inr (inr refl)
  open_early rose (Cli Done) fault = absurd fault
  open_early rose (Cli BadWords) fault = absurd fault
  open_early rose (Cli (BadInput line)) fault = absurd fault
  open_early rose (Cli (Chunk key)) fault = absurd fault
  open_early rose (Cli Store) fault = absurd fault
  open_early rose (Cli Read) fault = absurd fault
  open_early rose (Cli Write) fault = absurd fault
  open_early rose (Cli TooLong) fault = absurd fault
  open_early rose (Refused why) fault = inl (said ∙ ap (answer_says_v2 (input_lines input)) fault.0, tt)
