-- From what words and an input say to what a move comes to.
use Rattle.std.proofs.Common.{◌≡◌, ◌⊎◌, ℕ, ◌+◌, ◌≤◌, nat_lt, Bool, true, false, List, [], ◌∷◌, length, drop, Vec}
use Rattle.std.proofs.Common.{Option, Some, None, IsUtf8, Result, Err, inl, inr, refl, sym, ap, ◌∙◌}
use Rattle.std.proofs.Common.{subst, cond}
use Rattle.std.proofs.lemmas.Bool.{lt-ltb}
use Rattle.std.specs.declared.alloc.Global.{Global}
use Rattle.std.specs.Str.Lossy.{utf8_valid_len}
use Rattle.zarr_model.specs.Prelude.{Told}
use Rattle.zarr_model.proofs.KeyLineLaws.{key-lines}
use Rattle.zarr_cli_lines.specs.Text.{first_entries, input_lines, line_at}
use Rattle.zarr_cli_runs.specs.array.parts.Document.{ArrayDocument}
use Rattle.zarr_cli_runs.specs.array.parts.Opening.{OpenRefusal, OpenAnswer, opened, not_opened, open_builtin}
use Rattle.zarr_cli_runs.specs.array.parts.OpenError.{open_refusal_of}
use Rattle.zarr_cli_runs.specs.Opening.{IsRefusal, IsOpenFault}
use Rattle.zarr_cli_runs.specs.Ending.{Ending}
use Rattle.zarr_cli_runs.specs.Ending as end
use Rattle.zarr_cli_runs.specs.Status.{refused_by}
use Rattle.zarr_cli_runs.specs.declared.status.Status.{Status}
use Rattle.zarr_cli_runs.specs.declared.status.Status.TheVariants.{Done, BadWords, BadInput, Document, Chunk, Store}
use Rattle.zarr_cli_runs.specs.declared.status.Status.TheVariants.{Read, Write, TooLong, OutOfMemory}
use Rattle.zarr_cli.specs.Input.{input_limit, IsInputFault, text_says}
use Rattle.zarr_cli.specs.Lines.{first_line}
use Rattle.zarr_cli.specs.Status.{fault_status}
use Rattle.zarr_cli.specs.declared.lines.InputFault.{InputFault}
use Rattle.zarr_cli.specs.declared.lines.InputFault.TheVariants as Fault
use Rattle.zarr_cli.proofs.InputLaws.{lines_said, fault_said}
use Rattle.zarr_rechunk.specs.declared.status.RechunkStatus.{RechunkStatus}
use Rattle.zarr_rechunk.specs.declared.status.RechunkStatus.TheVariants.{Cli}
use Rattle.zarr_rechunk.specs.Ending.{cli, refused, move_ending_of}
use Rattle.zarr_rechunk.specs.Input.{Move, MoveVerdict, moves, stops, keys_say, target_says, source_says}
use Rattle.zarr_rechunk.specs.Input.{move_lines_say, move_verdict}
use Rattle.zarr_rechunk.specs.Said.{Both, move_of, AreUntouched, StoppedMove, RanMoveBy}
use Rattle.zarr_rechunk.specs.Said.{RanMoveInput, IsKeysFault}

-- stores as before
pub untouched_self : (stores : Both) → AreUntouched stores stores
untouched_self stores = (
  record { content = λ key. refl; asks = refl; taken = refl; puts = refl },
  record { content = λ key. refl; asks = refl; taken = refl; puts = refl },
)

-- a move was stopped before a store was touched
stop : (told : Ending) (stores : Both) (status : RechunkStatus) → (move_ending_of status ≡ cli told) ⊎
    (status ≡ Cli OutOfMemory) → StoppedMove {Z = Global} told stores stores (Err status)
stop told stores status which = record { untouched = untouched_self stores; failed = tt; ends = which }

-- want of memory stands in place of whatever was said
pub memory_out : (said : MoveVerdict) (stores : Both) →
    RanMoveBy {Z = Global} said stores stores (Err (Cli OutOfMemory))
memory_out (stops told) stores = stop told stores (Cli OutOfMemory) (inr refl)
memory_out (moves move) stores = record {
  moved = tt;
  fault = tt;
  refused = λ why bad_move calm. inr refl;
  complete = λ may from to c d. refl;
  set = (0, (key-lines move.entries).start stores.from.content);
  others = λ key free. refl;
  honest = λ honest. honest;
}

-- whatever stops a move is told by a status with that ending
stops_by : (said : MoveVerdict) (told : Ending) (stores : Both) (status : RechunkStatus) → said ≡ stops told →
    move_ending_of status ≡ cli told → RanMoveBy {Z = Global} said stores stores (Err status)
stops_by said told stores status says is = subst (λ (v : MoveVerdict).
    RanMoveBy {Z = Global} v stores stores (Err status)) (sym says) (stop told stores status (inl is))

-- the lines behind two documents
module _ (source target : ArrayDocument) (lines : List (List ℕ)) where
  pub keys_stop : (stores : Both) (status : Status) → IsKeysFault lines status →
      RanMoveBy {Z = Global} (keys_say source target lines) stores stores (Err (Cli status))
  keys_stop stores (BadInput line) fault =
      let some : nat_lt (length (first_entries lines)) (length lines) ≡ true =
      lt-ltb (length (first_entries lines)) (length lines) fault.0 in
      rw some (stop (end.bad_input (length (first_entries lines) + 3)) stores (Cli (BadInput line))
      (inl (ap (λ (n : ℕ). cli (end.bad_input n)) fault.1)))
  keys_stop stores OutOfMemory fault = memory_out (keys_say source target lines) stores
  keys_stop stores Done fault = absurd fault
  keys_stop stores BadWords fault = absurd fault
  keys_stop stores (Document error) fault = absurd fault
  keys_stop stores (Chunk key) fault = absurd fault
  keys_stop stores Store fault = absurd fault
  keys_stop stores Read fault = absurd fault
  keys_stop stores Write fault = absurd fault
  keys_stop stores TooLong fault = absurd fault

-- a line that is opened, or is not: what it says then by an answer
module _ (line : List ℕ) (says : OpenAnswer → MoveVerdict) (refuses : (why : OpenRefusal) →
    says (not_opened why) ≡ stops (end.refused_document why)) where
  pub opened_says : {Z : Type 0} (document : ArrayDocument) (before now : Both) (result : Result (Vec ℕ Z)
      RechunkStatus) → open_builtin line ≡ opened document → RanMoveBy (says (opened document)) before now result →
      RanMoveBy (says (open_builtin line)) before now result
  opened_says document before now result is ran =
      subst (λ (answer : OpenAnswer). RanMoveBy (says answer) before now result) (sym is) ran

  pub not_opened_says : (stores : Both) (status : Status) → IsOpenFault status (open_builtin line) →
      RanMoveBy {Z = Global} (says (open_builtin line)) stores stores (Err (Cli status))
  not_opened_says stores (Document error) fault = by (open_refusal_of error) refl fault
    where
      by : (o : Option OpenRefusal) → open_refusal_of error ≡ o → IsRefusal o (open_builtin line) →
          RanMoveBy {Z = Global} (says (open_builtin line)) stores stores (Err (Cli (Document error)))
      by None is h = absurd h
      by (Some why) is h = stops_by (says (open_builtin line)) (end.refused_document why) stores (Cli (Document error))
          (ap says h ∙ refuses why) (ap (λ (o : Option OpenRefusal). cli (refused_by o)) is)
  not_opened_says stores OutOfMemory fault = memory_out (says (open_builtin line)) stores
  not_opened_says stores Done fault = absurd fault
  not_opened_says stores BadWords fault = absurd fault
  not_opened_says stores (BadInput n) fault = absurd fault
  not_opened_says stores (Chunk key) fault = absurd fault
  not_opened_says stores Store fault = absurd fault
  not_opened_says stores Read fault = absurd fault
  not_opened_says stores Write fault = absurd fault
  not_opened_says stores TooLong fault = absurd fault

-- an input that was not read
module _ (input : List ℕ) where
  abbrev Unread : Both → Status → Type 0
  Unread stores status = RanMoveBy {Z = Global} (text_says stops move_lines_say input) stores stores
      (Err (Cli status)) ⊎ (AreUntouched stores stores × Unit {0} × (Cli status ≡ Cli Read))

  pub not_read : (before now : Told) (stores : Both) (fault : InputFault) → before.left ≡ Some input →
      IsInputFault before now fault → Unread stores (fault_status fault)
  not_read before now stores Fault.Read left is = inr (untouched_self stores, tt, refl)
  not_read before now stores Fault.TooLong left is =
      inl (stops_by (text_says stops move_lines_say input) end.too_long stores (Cli TooLong)
      (fault_said stops move_lines_say input before now Fault.TooLong left is) refl)
  not_read before now stores (Fault.NotUtf8 line) left is =
      inl (stops_by (text_says stops move_lines_say input) (end.bad_input line) stores (Cli (BadInput line))
      (fault_said stops move_lines_say input before now (Fault.NotUtf8 line) left is) refl)
  not_read before now stores Fault.OutOfMemory left is = inl (memory_out (text_says stops move_lines_say input) stores)

-- an input whose lines were read
pub input_ran : {Z : Type 0} (input : List ℕ) (lines : List (List ℕ)) (before now : Both) (result :
    Result (Vec ℕ Z) RechunkStatus) → length input ≤ input_limit → IsUtf8 input → lines ≡ input_lines input →
    RanMoveBy (move_lines_say lines) before now result →
    RanMoveBy (text_says stops move_lines_say input) before now result
input_ran input lines before now result within utf8 same ran = subst (λ (v : MoveVerdict).
    RanMoveBy v before now result) (sym (lines_said stops move_lines_say input lines within utf8 same)) ran

-- an input that was not read, unless its bytes are known
pub input_unread : (before now : Told) (stores : Both) (fault : InputFault) → IsInputFault before now fault →
    RanMoveInput {Z = Global} (text_says stops move_lines_say) before now stores stores (Err (Cli (fault_status fault)))
input_unread before now stores fault is = record {
  ran = λ input left. not_read input before now stores fault left is;
  whole = λ input left. tt;
}

-- whatever stops a move does so early
one_stop : (a b : Ending) → stops a ≡ stops b → a ≡ b
one_stop a b e = cc

no_stop : (move : Move) (told : Ending) → moves move ≡ stops told → ⊥
no_stop move told e = cc

early_as : (a told : Ending) → stops a ≡ stops told → end.IsBeforeStore a → end.IsBeforeStore told
early_as a told e early = subst end.IsBeforeStore (one_stop a told e) early

keys_early : (source target : ArrayDocument) (lines : List (List ℕ)) (told : Ending) →
    keys_say source target lines ≡ stops told → end.IsBeforeStore told
keys_early source target lines told e = by (nat_lt (length (first_entries lines)) (length lines)) e
  where
    by : (b : Bool) → cond b (stops (end.bad_input (length (first_entries lines) + 3)))
        (moves (move_of source target (first_entries lines))) ≡ stops told → end.IsBeforeStore told
    by true e = early_as _ told e tt
    by false e = absurd (no_stop _ told e)

target_early : (source : ArrayDocument) (answer : OpenAnswer) (lines : List (List ℕ)) (told : Ending) →
    target_says source answer lines ≡ stops told → end.IsBeforeStore told
target_early source (not_opened why) lines told e = early_as _ told e tt
target_early source (opened target) lines told e = keys_early source target lines told e

source_early : (answer : OpenAnswer) (lines : List (List ℕ)) (told : Ending) → source_says answer lines ≡ stops told →
    end.IsBeforeStore told
source_early (not_opened why) lines told e = early_as _ told e tt
source_early (opened source) lines told e = target_early source (open_builtin (first_line lines)) (drop 1 lines) told e

text_early : (input : List ℕ) (told : Ending) → text_says stops move_lines_say input ≡ stops told →
    end.IsBeforeStore told
text_early input told e = by (nat_lt input_limit (length input)) (nat_lt (utf8_valid_len input) (length input)) e
  where
    by : (long bad : Bool) → cond long (stops end.too_long)
        (cond bad (stops (end.bad_input (line_at input (utf8_valid_len input)))) (move_lines_say (input_lines input))) ≡
        stops told → end.IsBeforeStore told
    by true bad e = early_as _ told e tt
    by false true e = early_as _ told e tt
    by false false e = source_early (open_builtin (first_line (input_lines input))) (drop 1 (input_lines input)) told e

pub verdict_early : (words : List (List ℕ)) (input : List ℕ) (told : Ending) → move_verdict words input ≡ stops told →
    end.IsBeforeStore told
verdict_early [] input told e = text_early input told e
verdict_early (word ∷ words) input told e = early_as _ told e tt
