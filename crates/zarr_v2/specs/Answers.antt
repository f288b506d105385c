-- What a run over a version 2 document owes.
use Rattle.std.specs.Prelude.{◌≡◌, ℕ, List, [], Some}
use Rattle.zarr_model.specs.Prelude.{Rose, IsUntouched}
use Rattle.zarr_array_open.specs.Document.{describe}
use Rattle.zarr_array_open.specs.Opening.{OpenRefusal, chunk_too_large}
use Rattle.zarr_cli_runs.specs.lines.Text.{input_lines}
use Rattle.zarr_cli_runs.specs.Ending.{Ending, IsGiven, IsGivenFront, IsGivenLine}
use Rattle.zarr_cli_runs.specs.Ending as end
use Rattle.zarr_cli.specs.Words.{Settings, HasNoReading}
use Rattle.zarr_cli.specs.Run.{open_costs}
use Rattle.zarr_cli.specs.Answers.{AnswersLines, outside}
use Rattle.zarr_cli.specs.Ends.{EndsBy}
use Rattle.zarr_cli.specs.Seen.{ProgramSeen}
use Rattle.zarr_v2.specs.declared.translation_error.V2Error.{V2Error}
use Rattle.zarr_v2.specs.Ending.{EndingV2, cli, refused, line_v2, IsOrMemoryV2}
use Rattle.zarr_v2.specs.Says.{says_v2, stops, IsOfInputV2}
use Rattle.zarr_v2.specs.Run.{RunV2, WentV2, IsHonestRun, HasDamageV2, SameButChangedV2}

-- what a run of the lines behind its document owes: its replies, its causes, what it costs and what
-- it leaves in any store, by the document of version 3 that the first line is translated to
abbrev pub RunsLinesV2 : {input : List ℕ} → Settings → RunV2 input → ProgramSeen → ProgramSeen
    → EndingV2 → Type 0
RunsLinesV2 {input = input} settings run before now ending = (own : Ending) × (ending ≡ cli own)
    × AnswersLines (open_costs run.document) (describe run.document) settings (input_lines input)
    (outside before.sink before.store) (outside now.sink now.store) own

-- what a run owes over a source that tells its bytes, which are the input
pub record AnswersV2 (settings : Settings) (input : List ℕ) (before now : ProgramSeen)
    (ending : EndingV2) : Type 0 where
  -- done: the sink has the replies of one plain array that the store meant by the version 2
  -- document, and the keys that were asked for; and the store means the array that is left
  pub done : ending ≡ cli end.done → WentV2 settings input before.store.content now.store.content
      (λ output. IsGiven output before.sink.bytes now.sink.bytes)
  -- a sink that failed on the replies has a front of them
  pub front : ending ≡ cli end.write_fault →
      WentV2 settings input before.store.content now.store.content
      (λ output. IsGivenFront output before.sink.bytes now.sink.bytes)
  -- the source has no byte left
  pub read_whole : ending ≡ cli end.done → now.source.left ≡ Some []
  -- an ending by the input is the first that it calls for; and where the source did not fail, what
  -- it calls for is answered, but for want of memory
  pub cause : IsOfInputV2 ending → says_v2 input ≡ stops ending
  pub exactly : (called_for : EndingV2) → says_v2 input ≡ stops called_for →
      ¬ Rose before.source.faults now.source.faults → IsOrMemoryV2 ending called_for
  -- a translated document is not opened for chunks that are too large alone
  pub only_large : (why : OpenRefusal) → ending ≡ cli (end.refused_document why) →
      why ≡ chunk_too_large
  -- a damaged chunk is one that a command met
  pub chunk : (key : List ℕ) → ending ≡ cli (end.damaged_chunk key) →
      HasDamageV2 input before.store.content key
  -- a run in form over an honest store is done, where nothing failed
  pub complete : IsHonestRun input before.store.content →
      ¬ Rose before.source.faults now.source.faults →
      ¬ Rose before.sink.faults now.sink.faults → ¬ Rose before.store.faults now.store.faults →
      IsOrMemoryV2 ending (cli end.done)
  -- after every end: all keys but those of key lines and of chunks that an accepted command changes
  -- are as before
  pub unchanged : SameButChangedV2 input before.store.content now.store.content
  -- and of an input in form, unless the source failed, all that a run of lines owes
  pub lines : (run : RunV2 input) → ¬ (ending ≡ cli end.read_fault) →
      RunsLinesV2 settings run before now ending

-- what a run with a refused document owes over any source
pub record EndsRefused (words : List (List ℕ)) (before now : ProgramSeen) (why : V2Error)
    : Type 0 where
  pub known : ¬ HasNoReading words
  pub line : IsGivenLine (line_v2 (refused why)) before.sink now.sink
  pub untouched : IsUntouched before.store now.store

-- and what each run does
abbrev pub EndsV2 : List (List ℕ) → ProgramSeen → ProgramSeen → EndingV2 → Type 0
EndsV2 words before now (cli ending) = EndsBy (HasNoReading words) before now ending
EndsV2 words before now (refused why) = EndsRefused words before now why
