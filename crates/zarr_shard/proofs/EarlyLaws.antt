-- What is owed where the reading or the document decided.
use Rattle.std.proofs.Common.{◌≡◌, ◌∙◌, ◌⊎◌, inl, inr, refl, sym, ap, subst, ℕ, ◌≤◌, List, length, Option, Some, None}
use Rattle.std.proofs.Common.{IsUtf8}
use Rattle.zarr_model.specs.Prelude.{Told, Rose}
use Rattle.zarr_array_open.specs.Opening.{OpenRefusal}
use Rattle.zarr_array_open.specs.OpenError.{open_refusal_of}
use Rattle.zarr_cli_runs.specs.lines.Text.{input_lines}
use Rattle.zarr_cli_runs.specs.Ending.{Ending, IsGivenLine, ending_line, IsOrMemory}
use Rattle.zarr_cli_runs.specs.Ending as end
use Rattle.zarr_cli_runs.specs.Status.{ending_of, refused_by}
use Rattle.zarr_cli_runs.specs.declared.status.Status.{Status}
use Rattle.zarr_cli_runs.specs.declared.status.Status.TheVariants.{Done, BadWords, BadInput, Document, Chunk, Store}
use Rattle.zarr_cli_runs.specs.declared.status.Status.TheVariants.{Read, Write, TooLong, OutOfMemory}
use Rattle.zarr_cli.specs.Words.{Settings}
use Rattle.zarr_cli.specs.Input.{input_limit, IsInputFault}
use Rattle.zarr_cli.specs.Lines.{document_line}
use Rattle.zarr_cli.specs.Status.{fault_status}
use Rattle.zarr_cli.specs.Seen.{ProgramSeen}
use Rattle.zarr_cli.specs.Written.{EndsWith}
use Rattle.zarr_cli.specs.declared.lines.InputFault.{InputFault}
use Rattle.zarr_cli.specs.declared.lines.InputFault.TheVariants as Fault
use Rattle.zarr_cli.proofs.InputLaws.{fault_said, lines_said}
use Rattle.zarr_cli.proofs.StarvedLaws.{same, lines_starved}
use Rattle.zarr_array_open.specs.ShardOpening.{open_builtin_sharded}
use Rattle.zarr_shard.specs.Answers.{AnswersShard}
use Rattle.zarr_shard.specs.Costs.{shard_costs}
use Rattle.zarr_shard.specs.Run.{ShardRun, IsOfRun, RunsLines}
use Rattle.zarr_shard.specs.Says.{stops, answer_says, all_say, input_says, IsOfInput}
use Rattle.zarr_shard.specs.ShardArray.{describe_sharded}
use Rattle.zarr_shard.specs.Steps.{IsShardRefusal, IsShardOpenFault, IsEarly}
use Rattle.zarr_shard.proofs.SaysLaws.{one_stop, no_run}

module _ (settings : Settings) (input : List ℕ) (before now : ProgramSeen) where
  abbrev Failed : Type 0
  Failed = Rose before.source.faults now.source.faults

  -- an ending that a run in form alone has is none of these
  not_run : (ending : Ending) → (IsOfRun ending) → IsOfInput ending → ⊥
  not_run end.done of_run of_input = of_input
  not_run end.write_fault of_run of_input = of_input
  not_run (end.damaged_chunk key) of_run of_input = of_input
  not_run end.store_fault of_run of_input = of_input
  not_run end.bad_words of_run of_input = of_run
  not_run (end.bad_input line) of_run of_input = of_run
  not_run (end.refused_document why) of_run of_input = of_run
  not_run end.read_fault of_run of_input = of_run
  not_run end.too_long of_run of_input = of_run
  not_run end.out_of_memory of_run of_input = of_run

  not_early : (ending : Ending) → IsEarly input Failed ending → IsOfRun ending → ⊥
  not_early ending (inl called) of_run = not_run ending of_run called.1
  not_early ending (inr (inl failed)) of_run = subst IsOfRun failed.0 of_run
  not_early ending (inr (inr is)) of_run = subst IsOfRun is of_run

  cause : (ending : Ending) → IsEarly input Failed ending → IsOfInput ending → input_says input ≡ stops ending
  cause ending (inl called) of_input = called.0
  cause ending (inr (inl failed)) of_input = absurd (subst IsOfInput failed.0 of_input)
  cause ending (inr (inr is)) of_input = absurd (subst IsOfInput is of_input)

  exactly : (ending called_for : Ending) → IsEarly input Failed ending → input_says input ≡ stops called_for →
      ¬ Failed → IsOrMemory ending called_for
  exactly ending called_for (inl called) says calm = inl (one_stop input ending called_for called.0 says)
  exactly ending called_for (inr (inl failed)) says calm = absurd (calm failed.1)
  exactly ending called_for (inr (inr is)) says calm = inr is

  starved : (ending : Ending) → IsEarly input Failed ending → ¬ (ending ≡ end.read_fault) → ShardRun input →
      ending ≡ end.out_of_memory
  starved ending (inl called) read run = absurd (no_run input ending run.document called.0 run.is_run)
  starved ending (inr (inl failed)) read run = absurd (read failed.0)
  starved ending (inr (inr is)) read run = is

  answers_early : (ending : Ending) → IsEarly input Failed ending → IsGivenLine (ending_line ending) before.sink
      now.sink → now.store ≡ before.store → AnswersShard settings input before now ending
  answers_early ending early line still = record {
    cause = cause ending early;
    exactly = λ called_for. exactly ending called_for early;
    in_form = λ of_run. absurd (not_early ending early of_run);
    lines = λ run read. (let memory = starved ending early read run in
        subst (λ (e : Ending). RunsLines run.document settings input before now e) (sym memory)
        (lines_starved before.store now.store still (shard_costs run.document) (describe_sharded run.document) settings
        (input_lines input) before.sink now.sink
        (subst (λ (e : Ending). IsGivenLine (ending_line e) before.sink now.sink) memory line)));
    read_whole = λ is. absurd (not_early ending early (subst IsOfRun (sym is) tt));
    unchanged = λ key free. same before.store now.store still key;
  }

-- an ending, or want of memory in its place
last_early : (input : List ℕ) (rose : Type 0) (status last : Status) → (last ≡ status) ⊎ (last ≡ OutOfMemory) →
    IsEarly input rose (ending_of status) → IsEarly input rose (ending_of last)
last_early input rose status last (inl is) early = subst (λ s. IsEarly input rose (ending_of s)) (sym is) early
last_early input rose status last (inr memory) early = inr (inr (ap ending_of memory))

pub answers_ended : (settings : Settings) (input : List ℕ) (before now : ProgramSeen) (status last : Status) →
    EndsWith status before.sink now.sink last →
    IsEarly input (Rose before.source.faults now.source.faults) (ending_of status) → now.store ≡ before.store →
    AnswersShard settings input before now (ending_of last)
answers_ended settings input before now status last ended early still =
    answers_early settings input before now (ending_of last)
    (last_early input (Rose before.source.faults now.source.faults) status last ended.which early) ended.line still

-- an input that was not read
pub fault_early : (before now : Told) (input : List ℕ) → before.left ≡ Some input → (fault : InputFault) →
    IsInputFault before now fault →
    IsEarly input (Rose before.faults now.faults) (ending_of (fault_status fault))
fault_early before now input left Fault.Read is = inr (inl (refl, is))
fault_early before now input left Fault.TooLong is =
    inl (fault_said stops all_say input before now Fault.TooLong left is, tt)
fault_early before now input left (Fault.NotUtf8 line) is =
    inl (fault_said stops all_say input before now (Fault.NotUtf8 line) left is, tt)
fault_early before now input left Fault.OutOfMemory is = inr (inr refl)

-- a first line that is not opened
module _ (input : List ℕ) (within : length input ≤ input_limit) (utf8 : IsUtf8 input) where
  pub said : input_says input ≡ answer_says (input_lines input) (open_builtin_sharded (document_line input))
  said = lines_said stops all_say input (input_lines input) within utf8 refl

  unopened : (rose : Type 0) (why : Option OpenRefusal) →
      IsShardRefusal why (open_builtin_sharded (document_line input)) → IsEarly input rose (refused_by why)
  unopened rose None is = absurd is
  unopened rose (Some why) is = inl (said ∙ ap (answer_says (input_lines input)) is, tt)

  pub open_early : (rose : Type 0) (status : Status) →
      IsShardOpenFault status (open_builtin_sharded (document_line input)) → IsEarly input rose (ending_of status)
  open_early rose (Document error) fault = unopened rose (open_refusal_of error) fault
  open_early rose OutOfMemory fault = inr (inr refl)
  open_early rose Done fault = absurd fault
  open_early rose BadWords fault = absurd fault
  open_early rose (BadInput line) fault = absurd fault
  open_early rose (Chunk key) fault = absurd fault
  open_early rose Store fault = absurd fault
  open_early rose Read fault = absurd fault
  open_early rose Write fault = absurd fault
  open_early rose TooLong fault = absurd fault
