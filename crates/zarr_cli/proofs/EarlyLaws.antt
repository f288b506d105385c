-- What is owed where the words, the reading or the document decided.
use Rattle.std.proofs.Common.{◌≡◌, true, ℕ, ◌<◌, ◌≤◌, List, length, Option, Some, None, IsUtf8, ◌⊎◌, inl, inr, refl}
use Rattle.std.proofs.Common.{sym, ap, ◌∙◌, subst, arith}
use Rattle.zarr_model.specs.Prelude.{Shown, Told, Rose, IsUntouched}
use Rattle.zarr_cli_runs.specs.array.parts.Document.{describe}
use Rattle.zarr_cli_runs.specs.array.parts.Opening.{OpenRefusal, OpenAnswer, open_builtin}
use Rattle.zarr_cli_runs.specs.array.parts.declared.open_error.OpenError.TheVariants as OpenError
use Rattle.zarr_cli_runs.specs.Opening.{IsRefusal, IsOpenFault}
use Rattle.zarr_cli_runs.specs.array.parts.OpenError.{open_refusal_of}
use Rattle.zarr_cli_runs.specs.Ending.{Ending, IsOrMemory, IsWritten}
use Rattle.zarr_cli_runs.specs.Ending as end
use Rattle.zarr_cli_runs.specs.Status.{ending_of, refused_by}
use Rattle.zarr_cli_runs.specs.declared.status.Status.{Status}
use Rattle.zarr_cli_runs.specs.declared.status.Status.TheVariants.{Done, BadWords, BadInput, Document, Chunk, Store}
use Rattle.zarr_cli_runs.specs.declared.status.Status.TheVariants.{Read, Write, TooLong, OutOfMemory}
use Rattle.zarr_cli_runs.proofs.BetweenLaws.{between_untouched}
use Rattle.zarr_cli_runs.proofs.DocumentLawsBelow.{same_refusal}
use Rattle.zarr_cli.specs.Words.{Settings, settings_of, HasBadWords, IsReading, ReadsBy}
use Rattle.zarr_cli.specs.Input.{IsInputFault}
use Rattle.zarr_cli.specs.declared.lines.InputFault.{InputFault}
use Rattle.zarr_cli.specs.declared.lines.InputFault.TheVariants as Fault
use Rattle.zarr_cli.specs.Written.{EndsWith}
use Rattle.zarr_cli.specs.ProgramInput.{input_limit, document_line, input_entries, HasLongInput, HasBadLine}
use Rattle.zarr_cli.specs.ProgramInput.{HasRefusedDocument}
use Rattle.zarr_cli.specs.Program.{Run}
use Rattle.zarr_cli.specs.Status.{fault_status}
use Rattle.zarr_cli.specs.ProgramSteps.{RefusesInput, IsEarlyFault, IsPlainFault}
use Rattle.zarr_cli.specs.Seen.{ProgramSeen}
use Rattle.zarr_cli.specs.ProgramAnswers.{AnswersWords, Ends}
use Rattle.zarr_cli.proofs.OutcomeLemmas.{run_not_bad, run_not_refused, refused_not_bad, one_bad_line}

-- words are known, or not
not_reading : (words : List (List ℕ)) → HasBadWords words → IsReading words → ⊥
not_reading words none (settings, reads) = let both : None ≡ Some settings = sym none ∙ reads.0 in cc

pub not_both : (words : List (List ℕ)) (settings : Settings) → HasBadWords words → settings_of words ≡ Some settings → ⊥
not_both words settings none some = let both : None ≡ Some settings = sym none ∙ some in cc

too_long : (input : List ℕ) → length input ≤ input_limit → input_limit < length input → ⊥
too_long input within above = omega (arith, within, above)

-- an early cause excludes a run in form, and each other cause
no_run : (words : List (List ℕ)) (input : List ℕ) (rose : Type 0) (status : Status) →
    IsEarlyFault words input rose status → ¬ rose → Run words input → status ≡ OutOfMemory
no_run words input rose BadWords fault calm run = absurd (not_reading words fault (run.settings, run.are_words))
no_run words input rose (BadInput line) fault calm run = absurd (run_not_bad words input line run fault.2)
no_run words input rose (Document error) fault calm run = absurd (refused (open_refusal_of error) fault)
  where
    refused : (why : Option OpenRefusal) → RefusesInput words input why → ⊥
    refused None h = h
    refused (Some why) h = run_not_refused words input why run h.3
no_run words input rose Read fault calm run = absurd (calm fault)
no_run words input rose TooLong fault calm run = absurd (too_long input run.within fault.1)
no_run words input rose OutOfMemory fault calm run = refl
no_run words input rose Done fault calm run = absurd fault
no_run words input rose (Chunk key) fault calm run = absurd fault
no_run words input rose Store fault calm run = absurd fault
no_run words input rose Write fault calm run = absurd fault

is_long : (words : List (List ℕ)) (input : List ℕ) (rose : Type 0) (status : Status) → IsEarlyFault words input rose
    status → ¬ rose → HasLongInput words input → IsOrMemory (ending_of status) end.too_long
is_long words input rose BadWords fault calm long = absurd (not_reading words fault long.0)
is_long words input rose (BadInput line) fault calm long = absurd (too_long input fault.1 long.1)
is_long words input rose (Document error) fault calm long = absurd (refused (open_refusal_of error) fault)
  where
    refused : (why : Option OpenRefusal) → RefusesInput words input why → ⊥
    refused None h = h
    refused (Some why) h = too_long input h.1 long.1
is_long words input rose Read fault calm long = absurd (calm fault)
is_long words input rose TooLong fault calm long = inl refl
is_long words input rose OutOfMemory fault calm long = inr refl
is_long words input rose Done fault calm long = absurd fault
is_long words input rose (Chunk key) fault calm long = absurd fault
is_long words input rose Store fault calm long = absurd fault
is_long words input rose Write fault calm long = absurd fault

is_bad : (words : List (List ℕ)) (input : List ℕ) (rose : Type 0) (status : Status) (line : ℕ) → IsEarlyFault words
    input rose status → ¬ rose → HasBadLine words input line → IsOrMemory (ending_of status) (end.bad_input line)
is_bad words input rose BadWords line fault calm bad = absurd (not_reading words fault bad.0)
is_bad words input rose (BadInput other) line fault calm bad =
    inl (ap end.bad_input (one_bad_line input other line fault.2 bad.2))
is_bad words input rose (Document error) line fault calm bad = absurd (refused (open_refusal_of error) fault)
  where
    refused : (why : Option OpenRefusal) → RefusesInput words input why → ⊥
    refused None h = h
    refused (Some why) h = refused_not_bad input line why h.2 h.3 bad.2
is_bad words input rose Read line fault calm bad = absurd (calm fault)
is_bad words input rose TooLong line fault calm bad = absurd (too_long input bad.1 fault.1)
is_bad words input rose OutOfMemory line fault calm bad = inr refl
is_bad words input rose Done line fault calm bad = absurd fault
is_bad words input rose (Chunk key) line fault calm bad = absurd fault
is_bad words input rose Store line fault calm bad = absurd fault
is_bad words input rose Write line fault calm bad = absurd fault

is_refused : (words : List (List ℕ)) (input : List ℕ) (rose : Type 0) (status : Status) (why : OpenRefusal) →
    IsEarlyFault words input rose status → ¬ rose → HasRefusedDocument words input why →
    IsOrMemory (ending_of status) (end.refused_document why)
is_refused words input rose BadWords why fault calm refused = absurd (not_reading words fault refused.0)
is_refused words input rose (BadInput line) why fault calm refused =
    absurd (refused_not_bad input line why refused.2 refused.3 fault.2)
is_refused words input rose (Document error) why fault calm refused = one (open_refusal_of error) fault
  where
    one : (other : Option OpenRefusal) → RefusesInput words input other →
        IsOrMemory (refused_by other) (end.refused_document why)
    one None h = absurd h
    one (Some other) h = inl (ap end.refused_document (same_refusal other why (sym h.3 ∙ refused.3)))
is_refused words input rose Read why fault calm refused = absurd (calm fault)
is_refused words input rose TooLong why fault calm refused = absurd (too_long input refused.1 fault.1)
is_refused words input rose OutOfMemory why fault calm refused = inr refl
is_refused words input rose Done why fault calm refused = absurd fault
is_refused words input rose (Chunk key) why fault calm refused = absurd fault
is_refused words input rose Store why fault calm refused = absurd fault
is_refused words input rose Write why fault calm refused = absurd fault

-- the cause that an ending tells
abbrev Tells : List (List ℕ) → List ℕ → Ending → Type 0
Tells words input end.done = ⊥
Tells words input end.bad_words = HasBadWords words
Tells words input (end.bad_input line) = HasBadLine words input line
Tells words input (end.refused_document why) = HasRefusedDocument words input why
Tells words input (end.damaged_chunk key) = ⊥
Tells words input end.store_fault = ⊥
Tells words input end.read_fault = Unit {0}
Tells words input end.write_fault = ⊥
Tells words input end.too_long = HasLongInput words input
Tells words input end.out_of_memory = Unit {0}

tells : (words : List (List ℕ)) (input : List ℕ) (rose : Type 0) (status : Status) →
    IsEarlyFault words input rose status → Tells words input (ending_of status)
tells words input rose BadWords fault = fault
tells words input rose (BadInput line) fault = fault
tells words input rose (Document error) fault = refused (open_refusal_of error) fault
  where
    refused : (why : Option OpenRefusal) → RefusesInput words input why → Tells words input (refused_by why)
    refused None h = tt
    refused (Some why) h = h
tells words input rose Read fault = tt
tells words input rose TooLong fault = fault
tells words input rose OutOfMemory fault = tt
tells words input rose Done fault = absurd fault
tells words input rose (Chunk key) fault = absurd fault
tells words input rose Store fault = absurd fault
tells words input rose Write fault = absurd fault

pub or_memory : (status last : Status) (called_for : Ending) → (last ≡ status) ⊎ (last ≡ OutOfMemory) →
    IsOrMemory (ending_of status) called_for → IsOrMemory (ending_of last) called_for
or_memory status last called_for (inl same) h = subst (λ s. IsOrMemory (ending_of s) called_for) (sym same) h
or_memory status last called_for (inr memory) h = inr (ap ending_of memory)

last_tells : (words : List (List ℕ)) (input : List ℕ) (rose : Type 0) (status last : Status) →
    (last ≡ status) ⊎ (last ≡ OutOfMemory) → IsEarlyFault words input rose status → Tells words input (ending_of last)
last_tells words input rose status last (inl same) fault =
    subst (λ s. Tells words input (ending_of s)) (sym same) (tells words input rose status fault)
last_tells words input rose status last (inr memory) fault =
    subst (λ s. Tells words input (ending_of s)) (sym memory) tt

module _ (words : List (List ℕ)) (input : List ℕ) (before now : ProgramSeen) where
  -- it ended before its lines were run, and the store is as before
  pub answers_early : (status last : Status) → EndsWith status before.sink now.sink last →
      IsEarlyFault words input (Rose before.source.faults now.source.faults) status → now.store ≡ before.store →
      AnswersWords words input before now (ending_of last)
  answers_early status last ends fault still =
      let which = ends.which in
      let told = last_tells words input (Rose before.source.faults now.source.faults) status last which fault in
      let at : (ending : Ending) → ending_of last ≡ ending → Tells words input ending =
      λ ending is. subst (Tells words input) is told in
      let same : (key : List ℕ) → now.store.content key ≡ before.store.content key =
      λ key. ap (λ (store : Shown). store.content key) still in
      record {
        done = λ is. absurd (at end.done is);
        read_whole = λ is. absurd (at end.done is);
        asks = λ run written. absurd (unwritten at written);
        puts = λ run written. absurd (unwritten at written);
        taken = λ run written none. absurd (unwritten at written);
        bad_input = λ line is. at (end.bad_input line) is;
        document = λ why is. at (end.refused_document why) is;
        too_long = λ is. at end.too_long is;
        chunk = λ key is. absurd (at (end.damaged_chunk key) is);
        exactly_long = λ calm long. or_memory status last end.too_long which
            (is_long words input (Rose before.source.faults now.source.faults) status fault calm long);
        exactly_input = λ line calm bad. or_memory status last (end.bad_input line) which
            (is_bad words input (Rose before.source.faults now.source.faults) status line fault calm bad);
        exactly_document = λ why calm refused. or_memory status last (end.refused_document why) which
            (is_refused words input (Rose before.source.faults now.source.faults) status why fault calm refused);
        complete = λ runs calm sink store. or_memory status last end.done which (inr (ap ending_of
            (no_run words input (Rose before.source.faults now.source.faults) status fault calm runs.0)));
        front = λ is. absurd (at end.write_fault is);
        unchanged = λ key free. same key;
        between = λ run. between_untouched true (describe run.document) run.settings.options (input_entries input)
            run.commands before.store now.store _ same;
        refused = λ run written all none. absurd (unwritten at written);
        unasked = λ run all none. (ap (λ (store : Shown). store.asks) still, ap (λ (store : Shown). store.taken) still);
      }
    where
      unwritten : ((ending : Ending) → ending_of last ≡ ending → Tells words input ending) →
          IsWritten (ending_of last) → ⊥
      unwritten at (inl is) = at end.done is
      unwritten at (inr is) = at end.write_fault is

-- the same where the input is not known
abbrev TellsPlain : List (List ℕ) → Type 0 → Ending → Type 0
TellsPlain words rose end.bad_words = HasBadWords words
TellsPlain words rose end.read_fault = rose
TellsPlain words rose end.store_fault = ⊥
TellsPlain words rose end.write_fault = ⊥
TellsPlain words rose _ = Unit {0}

tells_plain : (words : List (List ℕ)) (rose : Type 0) (status : Status) → IsPlainFault words rose status →
    TellsPlain words rose (ending_of status)
tells_plain words rose BadWords fault = fault
tells_plain words rose (BadInput line) fault = tt
tells_plain words rose (Document error) fault = refused (open_refusal_of error)
  where
    refused : (why : Option OpenRefusal) → TellsPlain words rose (refused_by why)
    refused None = tt
    refused (Some why) = tt
tells_plain words rose Read fault = fault
tells_plain words rose TooLong fault = tt
tells_plain words rose OutOfMemory fault = tt
tells_plain words rose Done fault = absurd fault
tells_plain words rose (Chunk key) fault = absurd fault
tells_plain words rose Store fault = absurd fault
tells_plain words rose Write fault = absurd fault

last_plain : (words : List (List ℕ)) (rose : Type 0) (status last : Status) → (last ≡ status) ⊎ (last ≡ OutOfMemory) →
    IsPlainFault words rose status → TellsPlain words rose (ending_of last)
last_plain words rose status last (inl same) fault =
    subst (λ s. TellsPlain words rose (ending_of s)) (sym same) (tells_plain words rose status fault)
last_plain words rose status last (inr memory) fault = subst (λ s. TellsPlain words rose (ending_of s)) (sym memory) tt

module _ (words : List (List ℕ)) (before now : ProgramSeen) where
  pub ends_early : (status last : Status) → EndsWith status before.sink now.sink last →
      IsPlainFault words (Rose before.source.faults now.source.faults) status → now.store ≡ before.store →
      (HasBadWords words → (status ≡ BadWords) × (now.source ≡ before.source)) → Ends words before now (ending_of last)
  ends_early status last ends fault still known =
      let told = last_plain words (Rose before.source.faults now.source.faults) status last ends.which fault in
      let at : (ending : Ending) → ending_of last ≡ ending →
      TellsPlain words (Rose before.source.faults now.source.faults) ending =
      λ ending is. subst (TellsPlain words (Rose before.source.faults now.source.faults)) is told in
      record {
        bad_words = λ is. at end.bad_words is;
        exactly_words = λ bad. or_memory status last end.bad_words ends.which (inl (ap ending_of (known bad).0));
        unread = λ bad. (known bad).1;
        unstored = λ bad. untouched;
        store = λ is. absurd (at end.store_fault is);
        read = λ is. at end.read_fault is;
        write = λ is. absurd (at end.write_fault is);
        line = ends.line;
        untouched = λ early. untouched;
      }
    where
      untouched : IsUntouched before.store now.store
      untouched = record {
        content = λ key. ap (λ (store : Shown). store.content key) still;
        asks = ap (λ (store : Shown). store.asks) still;
        puts = ap (λ (store : Shown). store.puts) still;
        taken = ap (λ (store : Shown). store.taken) still;
      }

-- a first line that is not opened
module _ (words : List (List ℕ)) (settings : Settings) (reads : ReadsBy words settings) (input : List ℕ)
    (within : length input ≤ input_limit) (utf8 : IsUtf8 input) where
  refused_input : (why : Option OpenRefusal) → IsRefusal why (open_builtin (document_line input)) →
      RefusesInput words input why
  refused_input None refused = refused
  refused_input (Some why) refused = ((settings, reads), within, utf8, refused)

  pub open_early : (rose : Type 0) (status : Status) → IsOpenFault status (open_builtin (document_line input)) →
      IsEarlyFault words input rose status
  open_early rose (Document error) fault = refused_input (open_refusal_of error) fault
  open_early rose OutOfMemory fault = tt
  open_early rose Done fault = absurd fault
  open_early rose BadWords fault = absurd fault
  open_early rose (BadInput line) fault = absurd fault
  open_early rose (Chunk key) fault = absurd fault
  open_early rose Store fault = absurd fault
  open_early rose Read fault = absurd fault
  open_early rose Write fault = absurd fault
  open_early rose TooLong fault = absurd fault

no_memory : (answer : OpenAnswer) (why : Option OpenRefusal) → IsRefusal why answer → ¬ (why ≡ None)
no_memory answer None refused is = refused
no_memory answer (Some why) refused is = cc

pub open_plain : (words : List (List ℕ)) (answer : OpenAnswer) (rose : Type 0) (status : Status) →
    IsOpenFault status answer → IsPlainFault words rose status
open_plain words answer rose (Document error) fault = no_memory answer (open_refusal_of error) fault
open_plain words answer rose OutOfMemory fault = tt
open_plain words answer rose Done fault = absurd fault
open_plain words answer rose BadWords fault = absurd fault
open_plain words answer rose (BadInput line) fault = absurd fault
open_plain words answer rose (Chunk key) fault = absurd fault
open_plain words answer rose Store fault = absurd fault
open_plain words answer rose Read fault = absurd fault
open_plain words answer rose Write fault = absurd fault
open_plain words answer rose TooLong fault = absurd fault

-- an input that was not read
pub fault_early : (words : List (List ℕ)) (settings : Settings) → ReadsBy words settings → (before now : Told) (input :
    List ℕ) → before.left ≡ Some input → (fault : InputFault) → IsInputFault before now fault →
    IsEarlyFault words input (Rose before.faults now.faults) (fault_status fault)
fault_early words settings reads before now input e Fault.Read is = is
fault_early words settings reads before now input e Fault.TooLong is = ((settings, reads), is input e)
fault_early words settings reads before now input e (Fault.NotUtf8 line) is =
    (let bad = is input e in ((settings, reads), bad.0, inl bad.1))
fault_early words settings reads before now input e Fault.OutOfMemory is = tt

pub fault_plain : (words : List (List ℕ)) (before now : Told) (fault : InputFault) → IsInputFault before now fault →
    IsPlainFault words (Rose before.faults now.faults) (fault_status fault)
fault_plain words before now Fault.Read is = is
fault_plain words before now Fault.TooLong is = tt
fault_plain words before now (Fault.NotUtf8 line) is = tt
fault_plain words before now Fault.OutOfMemory is = tt

-- want of memory is told as such
refuses_memory : open_refusal_of OpenError.OutOfMemory ≡ None
refuses_memory = refl

never_memory : (words : List (List ℕ)) (rose : Type 0) (status : Status) → IsPlainFault words rose status →
    ¬ (status ≡ Document OpenError.OutOfMemory)
never_memory words rose status fault is = subst (IsPlainFault words rose) is fault refuses_memory

pub named_early : (words : List (List ℕ)) (rose : Type 0) (status last : Status) →
    (last ≡ status) ⊎ (last ≡ OutOfMemory) → IsPlainFault words rose status → ¬ (last ≡ Document OpenError.OutOfMemory)
named_early words rose status last (inl same) fault is = never_memory words rose status fault (sym same ∙ is)
named_early words rose status last (inr memory) fault is = let both : OutOfMemory ≡ Document OpenError.OutOfMemory =
    sym memory ∙ is in cc
