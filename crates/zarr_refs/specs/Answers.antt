-- What a run over references owes.
use Rattle.std.specs.Prelude.{◌≡◌, ℕ, List, [], Some, None}
use Rattle.zarr_model.specs.Prelude.{Rose, SetsSome, IsUntouched}
use Rattle.zarr_cli_runs.specs.Ending.{IsGiven, IsGivenFront, IsGivenLine}
use Rattle.zarr_cli_runs.specs.Ending as end
use Rattle.zarr_cli.specs.Lines.{IsKeyOf}
use Rattle.zarr_cli.specs.Seen.{ProgramSeen}
use Rattle.zarr_refs.specs.declared.reference.RefError.{RefError}
use Rattle.zarr_refs.specs.Ending.{RefEnding, cli, ref_line, by_reference, IsRefOrMemory, IsBehindKeys, IsEarlyRef}
use Rattle.zarr_refs.specs.Ending.{IsByReference}
use Rattle.zarr_refs.specs.Input.{RefRun, Verdict, runs, stops, word_options}
use Rattle.zarr_refs.specs.Run.{reference_fault, base_of, AreFitRefs, SeesNone, SeesDamage, IsAllSet, PrintsReads}

-- what a run over references owes, by what the words and the input say, over a source that tells
-- its bytes, which are the input
pub record AnswersRefs (verdict : Verdict) (before now : ProgramSeen) (ending : RefEnding)
    : Type 0 where
  -- where they stop it, it ends so, but for want of memory or of a source that failed
  pub stopped : (told : RefEnding) → verdict ≡ stops told →
      ¬ Rose before.source.faults now.source.faults → IsRefOrMemory ending told
  -- and the store is as before
  pub kept : (told : RefEnding) → verdict ≡ stops told → IsUntouched before.store now.store
  -- an early ending has its cause
  pub early : IsEarlyRef ending → ¬ (ending ≡ cli end.read_fault) → verdict ≡ stops ending
  -- done: the sink has the replies of the plain array that the slices mean
  pub done : ending ≡ cli end.done → (run : RefRun) × (verdict ≡ runs run) × (text : List ℕ)
      × PrintsReads run before.store.content text × IsGiven text before.sink.bytes now.sink.bytes
  -- a sink that failed on the replies has a front of them
  pub front : ending ≡ cli end.write_fault → (run : RefRun) × (verdict ≡ runs run)
      × (text : List ℕ) × PrintsReads run before.store.content text
      × IsGivenFront text before.sink.bytes now.sink.bytes
  -- the source has no byte left
  pub read_whole : ending ≡ cli end.done → now.source.left ≡ Some []
  -- a reference is refused where it has to be, by its cause
  pub reference : IsByReference ending → (run : RefRun) × (verdict ≡ runs run) × (why : RefError)
      × (reference_fault run.references (base_of run before.store.content) ≡ Some why)
      × (ending ≡ by_reference why)
  pub refused : (run : RefRun) → verdict ≡ runs run → (why : RefError) →
      reference_fault run.references (base_of run before.store.content) ≡ Some why →
      ¬ Rose before.source.faults now.source.faults →
      ¬ Rose before.store.faults now.store.faults → IsRefOrMemory ending (by_reference why)
  -- a damaged chunk is one that a read saw among the slices
  pub chunk : (key : List ℕ) → ending ≡ cli (end.damaged_chunk key) → (run : RefRun)
      × (verdict ≡ runs run) × AreFitRefs run before.store.content
      × SeesDamage run before.store.content key
  -- a run whose references make a store in which no read sees damage is done, where nothing failed
  pub complete : (run : RefRun) → verdict ≡ runs run → AreFitRefs run before.store.content →
      SeesNone run before.store.content → ¬ Rose before.source.faults now.source.faults →
      ¬ Rose before.sink.faults now.sink.faults → ¬ Rose before.store.faults now.store.faults →
      IsRefOrMemory ending (cli end.done)
  -- whatever the ending, nothing but key lines is set, the first of them, and the next one perhaps
  pub base : (key : List ℕ) → ((run : RefRun) → verdict ≡ runs run → ¬ IsKeyOf run.entries key) →
      now.store.content key ≡ before.store.content key
  pub set : (run : RefRun) → verdict ≡ runs run →
      (n : ℕ) × SetsSome run.entries n before.store.content now.store.content
  -- all of them before a reference is refused or a chunk is read, each by one writing call
  pub all_set : (run : RefRun) → verdict ≡ runs run → IsBehindKeys ending →
      IsAllSet run before.store now.store

-- what a run over references owes over any source
pub record EndsRefs (words : List (List ℕ)) (before now : ProgramSeen) (ending : RefEnding)
    : Type 0 where
  -- bad words are answered as such, but for want of memory, and nothing is read
  pub bad_words : ending ≡ cli end.bad_words → word_options words ≡ None
  pub exactly_words : word_options words ≡ None → IsRefOrMemory ending (cli end.bad_words)
  pub unread : word_options words ≡ None → now.source ≡ before.source
  pub unstored : word_options words ≡ None → IsUntouched before.store now.store
  -- a fault from outside is answered only where its count rose
  pub store : ending ≡ cli end.store_fault → Rose before.store.faults now.store.faults
  pub read : ending ≡ cli end.read_fault → Rose before.source.faults now.source.faults
  pub write : ending ≡ cli end.write_fault → Rose before.sink.faults now.sink.faults
  -- on an early end the sink was given its line, or a front of it where the sink failed
  pub line : IsGivenLine (ref_line ending) before.sink now.sink
  -- where the words, the reading or the input decided, the store is as before
  pub untouched : IsEarlyRef ending → IsUntouched before.store now.store
