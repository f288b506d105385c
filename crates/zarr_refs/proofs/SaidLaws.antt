-- From what words and an input say to what a run over references owes.
use Rattle.std.proofs.Common.{◌≡◌, ◌⊎◌, ℕ, ◌+◌, ◌≤◌, Bool, true, false, nat_lt, List, length}
use Rattle.std.proofs.Common.{drop, map, Vec, Option, Some, None, IsUtf8, Result, Ok, Err, IfErr}
use Rattle.std.proofs.Common.{inl, inr, refl, sym, ap, ◌∙◌, subst, cond, le_refl}
use Rattle.std.specs.declared.alloc.Global.{Global}
use Rattle.std.specs.Str.Lossy.{utf8_valid_len}
use Rattle.zarr_model.specs.Prelude.{Options, Description, kind, Command, Shown, Told, Rose, IsUntouched}
use Rattle.zarr_model.proofs.KeyLineLaws.{key-lines}
use Rattle.zarr_array.specs.boxes.Command.{command_of}
use Rattle.zarr_cli_lines.specs.Text.{first_entries, input_lines, line_at}
use Rattle.zarr_cli_lines.specs.Parts.{entry_view}
use Rattle.zarr_cli_runs.specs.array.parts.Document.{describe}
use Rattle.zarr_cli_runs.specs.array.parts.Opening.{OpenAnswer, opened, not_opened, open_builtin}
use Rattle.zarr_cli_runs.specs.Ending.{Ending}
use Rattle.zarr_cli_runs.specs.Ending as end
use Rattle.zarr_cli_runs.specs.Status.{ending_of}
use Rattle.zarr_cli_runs.specs.declared.status.Status.{Status}
use Rattle.zarr_cli_runs.specs.declared.status.Status.TheVariants.{Done, BadWords, BadInput, Document, Chunk, Store}
use Rattle.zarr_cli_runs.specs.declared.status.Status.TheVariants.{Read, Write, TooLong, OutOfMemory}
use Rattle.zarr_cli.specs.Input.{input_limit, IsInputFault}
use Rattle.zarr_cli.specs.Lines.{first_line}
use Rattle.zarr_cli.proofs.InputLaws.{lines_said, fault_said}
use Rattle.zarr_cli.specs.Status.{fault_status}
use Rattle.zarr_cli.specs.declared.lines.InputFault.{InputFault}
use Rattle.zarr_cli.specs.declared.lines.InputFault.TheVariants as Fault
use Rattle.zarr_refs.specs.declared.reference.Reference.{Reference as Ref}
use Rattle.zarr_refs.specs.declared.reference.RefError.{RefError}
use Rattle.zarr_refs.specs.declared.reference.RefError.TheVariants as RefError
use Rattle.zarr_refs.specs.declared.lines.RefLines.{RefLines}
use Rattle.zarr_refs.specs.declared.status.RefStatus.{RefStatus}
use Rattle.zarr_refs.specs.declared.status.RefStatus.TheVariants.{Cli, Reference, ReadOnly}
use Rattle.zarr_refs.specs.Lines.{lines_after_references, reads_of, changes_first, good_ref_lines}
use Rattle.zarr_refs.specs.Ending.{RefEnding, cli, repeated_key, missing_base, slice_out_of_bounds, read_only}
use Rattle.zarr_refs.specs.Ending.{ref_ending_of, IsEarlyRef}
use Rattle.zarr_refs.specs.Input.{RefRun, Verdict, runs, stops, stopped, with_reads, ref_lines_say, document_says}
use Rattle.zarr_refs.specs.Input.{all_lines_say, input_says_refs, word_options, words_say, verdict}
use Rattle.zarr_refs.specs.Steps.{SaysRefs, StopsRefs}
use Rattle.zarr_refs.specs.Reads.{run_of, IsRefsFault, RanRefs}
use Rattle.zarr_refs.specs.Said.{Stopped, RanBy, RanInput, Tells, outcome, IsPlainRef}

-- a store as before
pub untouched_self : (store : Shown) → IsUntouched store store
untouched_self store = record { content = λ key. refl; asks = refl; taken = refl; puts = refl }

-- an early end of a run is told under its own name
pub ran_plain : (run : RefRun) (before now : Shown) (status : RefStatus) → IsRefsFault run before now status →
    IsPlainRef (outcome ⊥ ⊥ before now) status
ran_plain run before now (Reference (RefError.RepeatedKey key)) fault = record { told = tt; named = (fault.1, fault.2) }
ran_plain run before now (Reference (RefError.MissingBase key)) fault = record { told = tt; named = (fault.1, fault.2) }
ran_plain run before now (Reference (RefError.SliceOutOfBounds key)) fault =
    record { told = tt; named = (fault.1, fault.2) }
ran_plain run before now (Reference RefError.Store) fault = absurd (fault.1 refl)
ran_plain run before now (Reference RefError.OutOfMemory) fault = absurd (fault.2 refl)
ran_plain run before now (Cli (Chunk key)) fault = record { told = tt; named = tt }
ran_plain run before now (Cli Store) fault = record { told = fault; named = tt }
ran_plain run before now (Cli OutOfMemory) fault = record { told = tt; named = tt }
ran_plain run before now (Cli Done) fault = absurd fault
ran_plain run before now (Cli BadWords) fault = absurd fault
ran_plain run before now (Cli (BadInput line)) fault = absurd fault
ran_plain run before now (Cli (Document error)) fault = absurd fault
ran_plain run before now (Cli Read) fault = absurd fault
ran_plain run before now (Cli Write) fault = absurd fault
ran_plain run before now (Cli TooLong) fault = absurd fault
ran_plain run before now (ReadOnly line) fault = absurd fault

pub all_plain : {Z : Type 0} (run : RefRun) (before now : Shown) (result : Result (Vec ℕ Z) RefStatus) →
    RanRefs run before now result → IfErr result (IsPlainRef (outcome ⊥ ⊥ before now))
all_plain run before now (Ok text) ran = tt
all_plain run before now (Err status) ran = ran_plain run before now status ran.fault

-- a run was stopped before the store was touched
pub stop : (told : RefEnding) (store : Shown) (status : RefStatus) →
    (ref_ending_of status ≡ told) ⊎ (status ≡ Cli OutOfMemory) → Stopped {Z = Global} told store store (Err status)
stop told store status which = record { untouched = untouched_self store; failed = tt; ends = which }

-- want of memory stands in place of whatever was said
pub memory_out : (verdict : Verdict) (store : Shown) → RanBy {Z = Global} verdict store store (Err (Cli OutOfMemory))
memory_out (stops told) store = stop told store (Cli OutOfMemory) (inr refl)
memory_out (runs run) store = record {
  prints = tt;
  fault = tt;
  refused = λ why found calm. inr refl;
  complete = λ fit sees calm. refl;
  set = (0, (key-lines run.entries).start store.content);
  all_set = tt;
  elsewhere = λ key free. refl;
  later = le_refl store.faults;
}

module _ (description : Description) (options : Options) (lines : List (List ℕ)) where
  abbrev run_with : List (List ℕ × List ℕ) → List Ref → List Command → RefRun
  run_with entries references reads =
      record { description = description; options = options; entries = entries; references = references; reads = reads }

  -- the lines said what was run
  pub says_ran : {Z : Type 0} (parsed : RefLines) (before now : Shown) (result : Result (Vec ℕ Z) RefStatus) →
      SaysRefs (kind description) lines parsed →
      RanRefs (run_of description options (map entry_view parsed.entries.items) parsed) before now result →
      RanBy (ref_lines_say description options lines) before now result
  says_ran parsed before now result says ran =
      let reads : List Command = map command_of parsed.reads.items in
      subst (λ (r : Option (List Command)). RanBy (with_reads description options lines r) before now result)
      (sym says.reads)
      (subst (λ (references : List Ref). RanRefs (run_with (first_entries lines) references reads) before now result)
      says.references
      (subst (λ (entries : List (List ℕ × List ℕ)).
      RanRefs (run_with entries parsed.references.items reads) before now result) says.entries ran))

  -- or a line stopped it
  pub line_stops : (good : ℕ) (changes : Bool) (store : Shown) (status : RefStatus) →
      StopsRefs (kind description) lines good changes → ref_ending_of status ≡ stopped changes (good + 2) →
      RanBy {Z = Global} (ref_lines_say description options lines) store store (Err status)
  line_stops good changes store status by is =
      subst (λ (r : Option (List Command)).
      RanBy {Z = Global} (with_reads description options lines r) store store (Err status)) (sym by.none)
      (stop _ store status (inl (is ∙ (ap (λ (b : Bool). stopped b (good + 2)) (sym by.which)
      ∙ ap (λ (n : ℕ). stopped (changes_first (kind description) (lines_after_references lines)) (n + 2)) by.first))))

-- a first line that is opened, or is not

-- an input that was not read
module _ (options : Options) (input : List ℕ) where
  abbrev stops_cli : Ending → Verdict
  stops_cli ending = stops (cli ending)

  abbrev Unread : Shown → Status → Type 0
  Unread store status = RanBy {Z = Global} (input_says_refs options input) store store (Err (Cli status)) ⊎
      (IsUntouched store store × Unit {0} × (Cli status ≡ Cli Read))

  stops_text : (ending : Ending) (store : Shown) (status : Status) →
      input_says_refs options input ≡ stops (cli ending) → ending_of status ≡ ending → Unread store status
  stops_text ending store status says is = inl (subst (λ (v : Verdict).
      RanBy {Z = Global} v store store (Err (Cli status))) (sym says) (stop _ store (Cli status) (inl (ap cli is))))

  pub not_read : (before now : Told) (store : Shown) (fault : InputFault) → before.left ≡ Some input →
      IsInputFault before now fault → Unread store (fault_status fault)
  not_read before now store Fault.Read left is = inr (untouched_self store, tt, refl)
  not_read before now store Fault.TooLong left is = stops_text end.too_long store TooLong
      (fault_said stops_cli (all_lines_say options) input before now Fault.TooLong left is) refl
  not_read before now store (Fault.NotUtf8 line) left is =
      stops_text (end.bad_input line) store (BadInput line)
      (fault_said stops_cli (all_lines_say options) input before now (Fault.NotUtf8 line) left is) refl
  not_read before now store Fault.OutOfMemory left is = inl (memory_out (input_says_refs options input) store)

-- an input whose lines were read
pub input_ran : {Z : Type 0} (options : Options) (input : List ℕ) (lines : List (List ℕ)) (before now : Shown) (result :
    Result (Vec ℕ Z) RefStatus) → length input ≤ input_limit → IsUtf8 input → lines ≡ input_lines input →
    RanBy (all_lines_say options lines) before now result → RanBy (input_says_refs options input) before now result
input_ran options input lines before now result within utf8 same ran =
    subst (λ (v : Verdict). RanBy v before now result)
    (sym (lines_said (λ ending. stops (cli ending)) (all_lines_say options) input lines within utf8 same)) ran

-- an input that was not read, unless its bytes are known
pub input_unread : (options : Options) (before now : Told) (store : Shown) (fault : InputFault) → IsInputFault before
    now fault → RanInput {Z = Global} (input_says_refs options) before now store store (Err (Cli (fault_status fault)))
input_unread options before now store fault is = record {
  ran = λ input left. not_read options input before now store fault left is;
  whole = λ input left. tt;
}

pub not_read_plain : (before now : Told) (store : Shown) (fault : InputFault) → IsInputFault before now fault →
    IsPlainRef (outcome ⊥ (Rose before.faults now.faults) store store) (Cli (fault_status fault))
not_read_plain before now store Fault.Read is = record { told = (is, untouched_self store); named = tt }
not_read_plain before now store Fault.TooLong is = record { told = untouched_self store; named = tt }
not_read_plain before now store (Fault.NotUtf8 line) is = record { told = untouched_self store; named = tt }
not_read_plain before now store Fault.OutOfMemory is = record { told = tt; named = tt }

-- what is told with less known is told
wider_told : (bad read_failed : Type 0) (before now : Shown) (ending : RefEnding) →
    Tells (outcome ⊥ ⊥ before now) ending → Tells (outcome bad read_failed before now) ending
wider_told bad read_failed before now (cli end.done) told = told
wider_told bad read_failed before now (cli end.bad_words) told = absurd told.0
wider_told bad read_failed before now (cli (end.bad_input line)) told = told
wider_told bad read_failed before now (cli (end.refused_document why)) told = told
wider_told bad read_failed before now (cli (end.damaged_chunk key)) told = tt
wider_told bad read_failed before now (cli end.store_fault) told = told
wider_told bad read_failed before now (cli end.read_fault) told = absurd told.0
wider_told bad read_failed before now (cli end.write_fault) told = told
wider_told bad read_failed before now (cli end.too_long) told = told
wider_told bad read_failed before now (cli end.out_of_memory) told = tt
wider_told bad read_failed before now (repeated_key key) told = tt
wider_told bad read_failed before now (missing_base key) told = tt
wider_told bad read_failed before now (slice_out_of_bounds key) told = tt
wider_told bad read_failed before now (read_only line) told = told

pub wider_plain : {Z : Type 0} (bad read_failed : Type 0) (before now : Shown) (result : Result (Vec ℕ Z) RefStatus) →
    IfErr result (IsPlainRef (outcome ⊥ ⊥ before now)) → IfErr result (IsPlainRef (outcome bad read_failed before now))
wider_plain bad read_failed before now (Ok text) plain = tt
wider_plain bad read_failed before now (Err status) plain =
    record { told = wider_told bad read_failed before now (ref_ending_of status) plain.told; named = plain.named }

-- whatever stops a run does so early
one_stop : (a b : RefEnding) → stops a ≡ stops b → a ≡ b
one_stop a b e = cc

no_stop : (run : RefRun) (told : RefEnding) → runs run ≡ stops told → ⊥
no_stop run told e = cc

early_as : (a told : RefEnding) → stops a ≡ stops told → IsEarlyRef a → IsEarlyRef told
early_as a told e early = subst IsEarlyRef (one_stop a told e) early

stopped_early : (changes : Bool) (line : ℕ) → IsEarlyRef (stopped changes line)
stopped_early true line = tt
stopped_early false line = tt

reads_early : (description : Description) (options : Options) (lines : List (List ℕ)) (reads : Option (List Command))
    (told : RefEnding) → with_reads description options lines reads ≡ stops told → IsEarlyRef told
reads_early description options lines None told e =
    early_as _ told e (stopped_early (changes_first (kind description) (lines_after_references lines))
    (good_ref_lines (kind description) lines + 2))
reads_early description options lines (Some reads) told e = absurd (no_stop _ told e)

document_early : (options : Options) (answer : OpenAnswer) (lines : List (List ℕ)) (told : RefEnding) →
    document_says options answer lines ≡ stops told → IsEarlyRef told
document_early options (not_opened why) lines told e = early_as _ told e tt
document_early options (opened document) lines told e =
    reads_early (describe document) options lines (reads_of (kind (describe document)) lines) told e

input_early : (options : Options) (input : List ℕ) (told : RefEnding) → input_says_refs options input ≡ stops told →
    IsEarlyRef told
input_early options input told e =
    by (nat_lt input_limit (length input)) (nat_lt (utf8_valid_len input) (length input)) e
  where
    by : (long bad : Bool) → cond long (stops (cli end.too_long))
        (cond bad (stops (cli (end.bad_input (line_at input (utf8_valid_len input)))))
        (all_lines_say options (input_lines input))) ≡ stops told → IsEarlyRef told
    by true bad e = early_as _ told e tt
    by false true e = early_as _ told e tt
    by false false e =
        document_early options (open_builtin (first_line (input_lines input))) (drop 1 (input_lines input)) told e

pub verdict_early : (words : List (List ℕ)) (input : List ℕ) (told : RefEnding) → verdict words input ≡ stops told →
    IsEarlyRef told
verdict_early words input told e = by (word_options words) e
  where
    by : (options : Option Options) → words_say options input ≡ stops told → IsEarlyRef told
    by None e = early_as _ told e tt
    by (Some options) e = input_early options input told e
