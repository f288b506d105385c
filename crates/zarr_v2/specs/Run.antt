-- A run over a version 2 document: what its input says, what it prints, and what it leaves in the
-- store, which means an array by that document alone.
use Rattle.std.specs.Prelude.{◌≡◌, ℕ, Bool, true, false, List, take, slice_get, Contains, Some, None}
use Rattle.std.specs.List.{list_any}
use Rattle.zarr_model.specs.Prelude.{Element, Array, Content, IsHonest, Means, WhollyMeans, SameOtherKeys}
use Rattle.zarr_model.specs.Prelude.{chunk_content, Command, Description, array_after, command_chunks, asks_store}
use Rattle.zarr_model.specs.Prelude.{erases_chunk}
use Rattle.zarr_array_open.specs.Document.{ArrayDocument, describe}
use Rattle.zarr_cli_runs.specs.Commands.{IsChangedKey}
use Rattle.zarr_cli_runs.specs.lines.Text.{input_lines}
use Rattle.zarr_cli.specs.Words.{Settings}
use Rattle.zarr_cli.specs.Lines.{LinesRun, document_line, IsLineKey, store_after_keys}
use Rattle.zarr_cli.specs.Run.{IsOutput}
use Rattle.zarr_v2.specs.ChunksV2.{ChunksV2, layout_v2}
use Rattle.zarr_v2.specs.Opening.{chunks_text}
use Rattle.zarr_v2.specs.Says.{says_v2, runs}

-- what an input says that is in form: the document that its first line is translated to, how the
-- chunks lie in a store by the version 2 document itself, and the commands; there is one such run,
-- or none
pub record RunV2 (input : List ℕ) : Type 0 where
  pub document : ArrayDocument
  pub is_run : says_v2 input ≡ runs document
  pub chunks : ChunksV2
  pub are_chunks : chunks_text (document_line input) ≡ Some chunks
  pub lines : LinesRun (describe document) (input_lines input)

-- Commands ran to their end over a store, and this was printed: the replies of one plain array that
-- the store meant, and the final keys. The store means the array that is left, also past the shape,
-- and all keys but those of chunks are as before.
pub record PrintsV2 (chunks : ChunksV2) (description : Description) (commands : List Command)
    (dump : Bool) (old new : Content) (output : List ℕ) : Type 0 where
  pub replied : (array : Array Element) → Means (layout_v2 chunks) old array →
      IsOutput description commands array dump new output
  pub left : (array : Array Element) → Means (layout_v2 chunks) old array →
      Means (layout_v2 chunks) new (array_after description commands array)
  pub whole : (array : Array Element) → WhollyMeans (layout_v2 chunks) old array →
      WhollyMeans (layout_v2 chunks) new (array_after description commands array)
  pub keys : SameOtherKeys (layout_v2 chunks) old new

-- a run in form went through from its key lines on, and wrote what passes the test: all of its
-- output, or a front of it
abbrev pub WentV2 : Settings → List ℕ → Content → Content → (List ℕ → Type 0) → Type 0
WentV2 settings input old new wrote = (run : RunV2 input) × (output : List ℕ)
    × PrintsV2 run.chunks (describe run.document) run.lines.commands settings.dump
    (store_after_keys input old) new output × wrote output

-- once the key lines of a run in form are set, each chunk's key is absent, or has a value that is
-- as long as the chunk's elements
abbrev pub IsHonestRun : List ℕ → Content → Type 0
IsHonestRun input old = (run : RunV2 input)
    × IsHonest (layout_v2 run.chunks) (store_after_keys input old)

-- a key is that of a chunk that has no elements in a store, and that an accepted read or write
-- meets with no accepted erase of it before
abbrev pub IsDamageMetV2 : ChunksV2 → Description → List Command → Content → List ℕ → Type 0
IsDamageMetV2 chunks description commands store key =
    (m : ℕ) × (command : Command) × (slice_get commands m ≡ Some command)
    × (asks_store command ≡ true)
    × (chunk : List ℕ) × Contains (command_chunks description command) chunk
    × ((layout_v2 chunks).key chunk ≡ key)
    × (list_any (erases_chunk description chunk) (take m commands) ≡ false)
    × (chunk_content (layout_v2 chunks) store chunk ≡ None)

-- the cause of a damaged chunk: a run in form met its value as the key lines left it
abbrev pub HasDamageV2 : List ℕ → Content → List ℕ → Type 0
HasDamageV2 input old key = (run : RunV2 input)
    × IsDamageMetV2 run.chunks (describe run.document) run.lines.commands
    (store_after_keys input old) key

-- Each key that is neither a key line's nor that of a chunk that an accepted command writes or
-- erases holds what it held. Without a run in form each key does.
abbrev pub SameButChangedV2 : List ℕ → Content → Content → Type 0
SameButChangedV2 input old new = (key : List ℕ) → ((run : RunV2 input) → ¬ IsLineKey input key
    × ¬ IsChangedKey (describe run.document) run.lines.commands key) →
    new key ≡ old key
