-- What a move of an array prints, leaves and owes.
use Rattle.std.specs.Prelude.{◌≡◌, ◌⊎◌, ℕ, ◌+◌, List, [], length, filter, slice_get, Some, true, false}
use Rattle.zarr_model.specs.Prelude.{Region, Element, Array, Options, Content, Shown, Told, Given, Rose, counted}
use Rattle.zarr_model.specs.Prelude.{with_keys, chunks, layout, IsHonest, Means, SameOtherKeys, SetsSome, IsUntouched}
use Rattle.zarr_cli_runs.specs.array.parts.Document.{describe}
use Rattle.zarr_cli_runs.specs.Ending.{IsGiven, IsGivenFront, IsGivenLine}
use Rattle.zarr_cli_runs.specs.Ending as end
use Rattle.zarr_cli_runs.specs.Keys.{IsDump, IsDumpAsks}
use Rattle.zarr_cli.specs.Lines.{with_entries}
use Rattle.zarr_rechunk.specs.declared.error.RechunkErrorKind.{RechunkErrorKind}
use Rattle.zarr_rechunk.specs.declared.error.RechunkErrorKind.TheVariants as kind
use Rattle.zarr_rechunk.specs.declared.status.RechunkRefusal.{RechunkRefusal}
use Rattle.zarr_rechunk.specs.declared.status.RechunkRefusal.TheVariants.{ShapeMismatch, DataTypeMismatch, BandTooLarge}
use Rattle.zarr_rechunk.specs.Bands.{bands, meets_band}
use Rattle.zarr_rechunk.specs.Moved.{chunks_of_each, in_description, MeetsNone}
use Rattle.zarr_rechunk.specs.Fails.{MayMove, IsUnbegun, IsDamagedIn}
use Rattle.zarr_rechunk.specs.Ending.{MoveEnding, cli, refused, move_line, IsMoveOrMemory, IsEarlyMove}
use Rattle.zarr_rechunk.specs.Input.{Move, MoveVerdict, moves, stops}

-- what a source, a sink and two stores show to the contract of the program
pub record SeenBoth : Type 0 where
  pub source : Told
  pub sink : Given
  pub from : Shown
  pub to : Shown

abbrev pub seen_both : Told → Given → Shown → Shown → SeenBoth
seen_both source sink from to = record { source = source; sink = sink; from = from; to = to }

-- the options of a move
abbrev pub move_options : Options
move_options = record { store_empty_chunks = false; validate_checksums = true }

-- the bands of a move, and how many chunks of the target they meet
abbrev pub move_bands : Move → List Region
move_bands move = bands (describe move.target).shape (describe move.target).grid

abbrev pub target_chunks : Move → ℕ
target_chunks move = length (filter (meets_band (describe move.target).grid (move_bands move))
    (chunks (describe move.target).grid))

-- what the source's store holds once the key lines are set
abbrev pub source_content : Move → Content → Content
source_content move content = with_keys move.entries content

-- whether a store is honest for the source, and for the target
abbrev pub IsHonestSource : Move → Content → Type 0
IsHonestSource move content =
    IsHonest (layout (describe move.source) move_options) (source_content move content)

abbrev pub IsHonestTarget : Move → Content → Type 0
IsHonestTarget move content = IsHonest (layout (describe move.target) move_options) content

-- the error that a refusal tells
abbrev pub kind_of_refusal : RechunkRefusal → RechunkErrorKind
kind_of_refusal ShapeMismatch = kind.ShapeMismatch
kind_of_refusal DataTypeMismatch = kind.DataTypeMismatch
kind_of_refusal BandTooLarge = kind.BandTooLarge

-- the array may not be moved, and this is why
abbrev pub IsRefusedMove : Move → RechunkRefusal → Type 0
IsRefusedMove move why =
    IsUnbegun (describe move.source) (describe move.target) (kind_of_refusal why)

abbrev pub MayBeMoved : Move → Type 0
MayBeMoved move = MayMove (describe move.source) (describe move.target)

-- the array was moved, and the text has the keys of the target's store
pub record IsMoved (move : Move) (from_before from_now to_before to_now : Shown) (text : List ℕ)
    : Type 0 where
  pub may : MayBeMoved move
  -- no band met damage
  pub undamaged : MeetsNone (describe move.source) (describe move.target) move_options
      (move_bands move) (source_content move from_before.content) to_before.content
  -- the target means the array of its shape and fill that has the elements of the source
  pub means : (array : Array Element) →
      Means (layout (describe move.source) move_options) (source_content move from_before.content)
      array → IsHonestTarget move to_before.content →
      Means (layout (describe move.target) move_options) to_now.content
      (in_description (describe move.target) array)
  pub set : from_now.content ≡ source_content move from_before.content
  pub keys : IsDump true to_now.content text
  -- each chunk of the source was asked for once for each band that meets it, each of the target
  -- once, and then its keys; there were as many writing calls as key lines and chunks of the target
  pub asked_from : from_now.asks
      ≡ counted from_before.asks (chunks_of_each (describe move.source).grid (move_bands move))
  pub put_from : from_now.puts ≡ counted from_before.puts (length move.entries)
  pub asked_to : (more : ℕ) × IsDumpAsks true to_now.content more
      × (to_now.asks ≡ counted to_before.asks (target_chunks move + more))
  pub put_to : to_now.puts ≡ counted to_before.puts (target_chunks move)

-- neither store was touched, but for the key lines of the source's
pub record IsUnmoved (move : Move) (from_before from_now to_before to_now : Shown) : Type 0 where
  pub from : IsUntouched (with_entries move.entries from_before) from_now
  pub to : IsUntouched to_before to_now

-- a band of a move meets a chunk with this key whose value does not decode, of the source or of the
-- target
pub record HasDamage (move : Move) (from to : Content) (key : List ℕ) : Type 0 where
  pub number : ℕ
  pub band : Region
  pub here : slice_get (move_bands move) number ≡ Some band
  pub damaged : IsDamagedIn (describe move.source) move_options band (source_content move from) key
      ⊎ IsDamagedIn (describe move.target) move_options band to key

-- what a move owes, by what the words and the input say, over a source that tells its bytes, which
-- are the input
pub record AnswersMove (verdict : MoveVerdict) (before now : SeenBoth) (ending : MoveEnding)
    : Type 0 where
  -- where they stop it, it ends so, but for want of memory or of a source that failed
  pub stopped : (told : end.Ending) → verdict ≡ stops told →
      ¬ Rose before.source.faults now.source.faults → IsMoveOrMemory ending (cli told)
  -- and both stores are as before
  pub kept : (told : end.Ending) → verdict ≡ stops told →
      IsUntouched before.from now.from × IsUntouched before.to now.to
  -- an early ending has its cause
  pub early : (told : end.Ending) → ending ≡ cli told → end.IsBeforeStore told →
      ¬ (told ≡ end.read_fault) → verdict ≡ stops told
  -- done: the array was moved, and the sink has the keys of the target's store
  pub done : ending ≡ cli end.done → (move : Move) × (verdict ≡ moves move) × (text : List ℕ)
      × IsMoved move before.from now.from before.to now.to text
      × IsGiven text before.sink.bytes now.sink.bytes
  -- a sink that failed on them has a front of them
  pub front : ending ≡ cli end.write_fault → (move : Move) × (verdict ≡ moves move)
      × (text : List ℕ) × IsMoved move before.from now.from before.to now.to text
      × IsGivenFront text before.sink.bytes now.sink.bytes
  -- the source has no byte left
  pub read_whole : ending ≡ cli end.done → now.source.left ≡ Some []
  -- it is refused where the array may not be moved, by the first reason and before any band
  pub refusal : (why : RechunkRefusal) → ending ≡ refused why → (move : Move)
      × (verdict ≡ moves move) × IsRefusedMove move why
      × IsUnmoved move before.from now.from before.to now.to
  pub exactly_refused : (move : Move) → verdict ≡ moves move → (why : RechunkRefusal) →
      IsRefusedMove move why → ¬ Rose before.source.faults now.source.faults →
      ¬ Rose before.from.faults now.from.faults → IsMoveOrMemory ending (refused why)
  -- a damaged chunk is one that a band meets, and all key lines are set then
  pub chunk : (key : List ℕ) → ending ≡ cli (end.damaged_chunk key) → (move : Move)
      × (verdict ≡ moves move) × MayBeMoved move
      × (now.from.content ≡ source_content move before.from.content)
      × HasDamage move before.from.content before.to.content key
  -- a move over honest stores that may be is done, where nothing failed
  pub complete : (move : Move) → verdict ≡ moves move → MayBeMoved move →
      IsHonestSource move before.from.content → IsHonestTarget move before.to.content →
      ¬ Rose before.source.faults now.source.faults → ¬ Rose before.sink.faults now.sink.faults →
      ¬ Rose before.from.faults now.from.faults → ¬ Rose before.to.faults now.to.faults →
      IsMoveOrMemory ending (cli end.done)
  -- whatever the ending, in the source's store nothing but key lines is set, the first of them, and
  -- the next one perhaps
  pub set : (move : Move) → verdict ≡ moves move →
      (n : ℕ) × SetsSome move.entries n before.from.content now.from.content
  -- and in the target's store the keys that are no chunk's are as before; it is honest where it was
  pub others : (move : Move) → verdict ≡ moves move →
      SameOtherKeys (layout (describe move.target) move_options) before.to.content now.to.content
  pub honest : (move : Move) → verdict ≡ moves move → IsHonestTarget move before.to.content →
      IsHonestTarget move now.to.content

-- what a move owes over any source
pub record EndsMoved (words : List (List ℕ)) (before now : SeenBoth) (ending : MoveEnding)
    : Type 0 where
  -- any word is answered as a bad one, but for want of memory, and nothing is read
  pub bad_words : ending ≡ cli end.bad_words → ¬ (words ≡ [])
  pub exactly_words : ¬ (words ≡ []) → IsMoveOrMemory ending (cli end.bad_words)
  pub unread : ¬ (words ≡ []) → now.source ≡ before.source
  pub unstored : ¬ (words ≡ []) → IsUntouched before.from now.from × IsUntouched before.to now.to
  -- a fault from outside is answered only where its count rose
  pub store : ending ≡ cli end.store_fault →
      Rose before.from.faults now.from.faults ⊎ Rose before.to.faults now.to.faults
  pub read : ending ≡ cli end.read_fault → Rose before.source.faults now.source.faults
  pub write : ending ≡ cli end.write_fault → Rose before.sink.faults now.sink.faults
  -- on an early end the sink was given its line, or a front of it where the sink failed
  pub line : IsGivenLine (move_line ending) before.sink now.sink
  -- where the words, the reading or the input decided, both stores are as before
  pub untouched : IsEarlyMove ending → IsUntouched before.from now.from
      × IsUntouched before.to now.to
