-- The made document, keys that were counted, and replies that were summed up.
use Rattle.std.proofs.Common.{◌≡◌, ℕ, List, length, map, Option, Some, None, Result, Ok, Err, IfOk, IfErr, refl, sym}
use Rattle.std.proofs.Common.{ap, ◌∙◌, subst}
use Rattle.std.specs.List.{AllZip}
use Rattle.zarr_model.specs.Prelude.{fixed, Options, Matches, Description, Command, Shown, kind, all_asks, counted}
use Rattle.zarr_model.specs.Prelude.{LeavesArray}
use Rattle.zarrs_storage.specs.Store.{ListsKeys}
use Rattle.zarr_cli_runs.specs.array.parts.Document.{ArrayDocument, describe}
use Rattle.zarr_cli_runs.specs.array.parts.Opening.{OpenRefusal, OpenAnswer, opened}
use Rattle.zarr_cli_runs.specs.array.parts.OpenError.{open_refusal_of}
use Rattle.zarr_array.specs.OpenArray.{documented, described_array}
use Rattle.zarr_array.specs.boxes.Command.{answer_of}
use Rattle.zarr_array.specs.Stored.{StoresForAll}
use Rattle.zarr_array.specs.declared.open.OpenArray.{OpenArray}
use Rattle.zarr_array.specs.boxes.declared.command.Reply.{Reply}
use Rattle.zarr_cli_runs.specs.Document.{made_document}
use Rattle.zarr_cli_runs.specs.Summary.{summary_text}
use Rattle.zarr_cli_runs.specs.Opening.{IsRefusal, OpensLine}
use Rattle.zarr_cli_runs.specs.Made.{made_array, SumsAll}
use Rattle.zarr_cli_runs.specs.Commands.{RepliedBy, LeavesUndamaged}
use Rattle.zarr_cli_runs.specs.Tally.{summary_held}
use Rattle.zarr_cli_runs.proofs.DocumentLawsBelow.{same_opened}
use Rattle.zarr_cli_runs.proofs.KeyLemmas.{counted_more}
use Rattle.zarr_cli_runs.proofs.CountLemmas.{counts}
use Rattle.zarr_cli_runs.specs.declared.status.Status.{Status}
use Rattle.zarr_cli_runs.specs.declared.status.Status.TheVariants.{Done, BadWords, BadInput, Document, Chunk, Store}
use Rattle.zarr_cli_runs.specs.declared.status.Status.TheVariants.{Read, Write, TooLong, OutOfMemory}
use Rattle.zarr_model.specs.Command as Model

-- the made document is opened as its array, but for want of memory
described_as : (array : OpenArray) → documented array ≡ made_document → described_array array ≡ made_array
unfolding made_array
described_as array same = ap describe same

-- whose elements have two bytes
pub made_kind : kind made_array ≡ fixed 2
unfolding made_array
made_kind = refl

pub made_sized : (result : Result OpenArray Status) → IfOk result (λ array. described_array array ≡ made_array) →
    IfOk result (λ array. kind (described_array array) ≡ fixed 2)
made_sized (Ok array) is = ap kind is ∙ made_kind
made_sized (Err status) is = tt

pub made_opened : (answer : OpenAnswer) (result : Result OpenArray Status) → answer ≡ opened made_document →
    OpensLine result answer → IfOk result (λ array. described_array array ≡ made_array)
made_opened answer (Ok array) opens is =
    described_as array (same_opened (documented array) made_document (sym is ∙ opens))
made_opened answer (Err status) opens is = tt

not_refused : (answer : OpenAnswer) (document : ArrayDocument) (why : Option OpenRefusal) → answer ≡ opened document →
    IsRefusal why answer → ⊥
not_refused answer document None opens is = is
not_refused answer document (Some why) opens is = cc

only_memory : (answer : OpenAnswer) (document : ArrayDocument) (status : Status) → answer ≡ opened document →
    OpensLine (Err status) answer → status ≡ OutOfMemory
only_memory answer document (Document error) opens is =
    absurd (not_refused answer document (open_refusal_of error) opens is)
only_memory answer document OutOfMemory opens is = refl
only_memory answer document Done opens is = absurd is
only_memory answer document BadWords opens is = absurd is
only_memory answer document (BadInput line) opens is = absurd is
only_memory answer document (Chunk key) opens is = absurd is
only_memory answer document Store opens is = absurd is
only_memory answer document Read opens is = absurd is
only_memory answer document Write opens is = absurd is
only_memory answer document TooLong opens is = absurd is

pub made_fails : (answer : OpenAnswer) (result : Result OpenArray Status) → answer ≡ opened made_document →
    OpensLine result answer → IfErr result (λ status. status ≡ OutOfMemory)
made_fails answer (Ok array) opens is = tt
made_fails answer (Err status) opens is = only_memory answer made_document status opens is

-- replies and keys that were summed up
pub summed_up : (description : Description) (n count : ℕ) (options : Options) (commands : List Command)
    (before mid now : Shown) (held : List Reply) (text : List ℕ) →
    kind description ≡ fixed n → RepliedBy description options commands before mid held →
    mid.asks ≡ counted before.asks (all_asks description commands) →
    (keys : List (List ℕ)) × ListsKeys now.content keys × (count ≡ length keys) → now.content ≡ mid.content →
    now.asks ≡ counted mid.asks 1 → now.puts ≡ mid.puts →
    ((answers : List Model.Reply) → AllZip (Matches (fixed n)) (map answer_of held) answers →
    text ≡ summary_text answers count) →
    (lines : List ℕ) × (text ≡ summary_held n held count lines) → SumsAll description options commands before now text
summed_up description n count options commands before mid now held text sized ran asked keys same asks unput sums is =
    record {
      sums = record {
        summed = λ array means. (
          keys.0,
          keys.1,
          sums (Model.replies description commands array)
              (subst (λ k. AllZip (Matches k) (map answer_of held) (Model.replies description commands array)) sized
              (ran.matched array means)) ∙ ap (summary_text (Model.replies description commands array)) keys.2,
        );
        numbers = counts n count description commands held now.content text is.0 ran.refusals keys is.1;
        mended =
            subst (λ content. LeavesUndamaged description options commands before.content content) (sym same)
            ran.mended;
        left = subst (λ content. LeavesArray description options commands before.content content) (sym same) ran.left;
        stored =
            subst (λ content. StoresForAll description options commands before.content content) (sym same) ran.stored;
        undamaged = ran.undamaged;
      };
      asks = counted_more before.asks mid.asks now.asks (all_asks description commands) 1 asked asks;
      puts = unput ∙ ran.puts;
    }
