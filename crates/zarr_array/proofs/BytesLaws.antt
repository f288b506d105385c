-- Reads and writes of an array as commands of the model.
use Rattle.std.proofs.Common.{◌≡◌, ◌≤◌, ◌^◌, ◌-◌, ℕ, List, inl, inr, Bool, true, false, [], ◌∷◌, length, Option, Some}
use Rattle.std.proofs.Common.{None, refl, sym, ap, ◌∙◌}
use Rattle.zarr_model.specs.Prelude.{Region, count, layout, chunks_meeting, kind, ArrayBytes, meaning, bytes_refusal}
use Rattle.zarr_model.specs.Prelude.{has_long_element, ends_within, Options, Shown, read, write, Refusal, refusal}
use Rattle.zarr_model.specs.Prelude.{region_refusal, refused_if, or_then, element_too_long, answered, answered_done}
use Rattle.zarr_model.specs.Prelude.{LeavesKeys}
use Rattle.zarr_model.proofs.BytesLaws.{refusal-meaning}
use Rattle.zarr_model.proofs.MendedLaws.{content-same}
use Rattle.zarr_array.specs.Access.{Access, IsServed, described}
use Rattle.zarr_array.proofs.AcceptedLaws.{accepted}
use Rattle.zarr_array.specs.declared.command_error.CommandError.{CommandError}
use Rattle.zarr_array.specs.Read.{HasReadRegion}
use Rattle.zarr_array.specs.Write.{IsWritable, region_change}
use Rattle.zarr_array.specs.PartWay.{StopsBefore, HasWrittenRegion, NotWrittenRegion}
use Rattle.zarr_array.specs.declared.command_error.SessionErrorKind.{SessionErrorKind}
use Rattle.zarr_array.specs.declared.command_error.SessionErrorKind.TheVariants.{NotOpened, ChunkDecode, Store}
use Rattle.zarr_array.specs.declared.command_error.SessionErrorKind.TheVariants.{OutOfMemory}
use Rattle.zarr_array.specs.WritesUpTo.{ChangedUpTo, WritesUpTo}
use Rattle.zarr_array.proofs.ChunkLaws.{some_list}
use Rattle.zarr_array.specs.Session.{FailsAt}
use Rattle.zarr_array.proofs.HasRun.{HasRun}
use Rattle.zarr_array.proofs.WriteLaws.{write-ran, write-fails, write-fails-keys}
use Rattle.zarr_array.proofs.StepRuns.{read-ran}

-- array bytes that mean the region of each array that has the chunks met answer a read
pub bytes-read : (array : Access) (served : IsServed (described array)) (options : Options) (region : Region) (old new :
    Shown) (bytes : ArrayBytes) → refusal (described array) (read region) ≡ None →
    HasReadRegion array options region old new bytes → new.puts ≡ old.puts → old.puts ≤ 2 ^ 64 - 1 →
    HasRun (described array) options (read region ∷ []) old new (answered bytes ∷ [])
bytes-read array served options region old new bytes none has unput few =
    read-ran (described array) options (served.sound options) region old new bytes none has.read.same has.read.readable
    (λ a met.
    let is = has.read.elements a met in
    ap (λ n. meaning (kind (described array)) n bytes) (ap length (sym is) ∙ has.read.as_long)
    ∙ (some_list (meaning (kind (described array)) (count region) bytes) has.means ∙ ap Some is)) unput few
    has.read.later

-- what is not refused can be written
none_then : (o : Option Refusal) (next : Option Refusal) → or_then o next ≡ None → (o ≡ None) × (next ≡ None)
none_then None next e = (refl, e)
none_then (Some why) next e = cc

not_refused : (b : Bool) (why : Refusal) → refused_if b why ≡ None → b ≡ false
not_refused false why e = refl
not_refused true why e = cc

pub writable : (array : Access) (region : Region) (bytes : ArrayBytes) →
    refusal (described array) (write region bytes) ≡ None → IsWritable array region bytes
writable array region bytes none =
    let first = none_then (region_refusal (described array) region) _ none in
    let then = none_then (bytes_refusal (kind (described array)) (count region) bytes)
    (refused_if (has_long_element bytes) element_too_long) first.1 in
    let room = accepted (described array) region first.0 in
    record {
      means = (refusal-meaning (kind (described array)) (count region) bytes).0 then.0;
      short = not_refused (has_long_element bytes) element_too_long then.1;
      few = room.few;
      room = room.room;
    }

pub inside : (array : Access) (region : Region) (bytes : ArrayBytes) →
    refusal (described array) (write region bytes) ≡ None → ends_within region (described array).shape ≡ true
inside array region bytes none =
    (accepted (described array) region (none_then (region_refusal (described array) region) _ none).0).inside

module _ (array : Access) (served : IsServed (described array)) (options : Options) (region : Region) (bytes :
    ArrayBytes) (none : refusal (described array) (write region bytes) ≡ None) (old new : Shown) where
  pub bytes-written : HasWrittenRegion array options region bytes old new →
      HasRun (described array) options (write region bytes ∷ []) old new (answered_done ∷ [])
  bytes-written has =
      write-ran (described array) served.covers options (served.sound options) region bytes none old new has.changed

  module _ (error : CommandError) (fails : NotWrittenRegion array options region bytes old new error) where
    pub bytes-fail :
        FailsAt (described array) options (write region bytes ∷ []) old new (Some (0, error.chunks_done)) error.kind
    bytes-fail = write-fails (described array) served.covers options (served.sound options) region bytes none
        error.chunks_done old new error.kind fails.failed

    -- the first chunks were changed, and nothing else
    pub bytes-first : WritesUpTo (described array) options region bytes error.chunks_done old new error.kind
    bytes-first = by_kind error.kind fails.failed.stops
      where
        firsts : ((key : List ℕ) → new.content key ≡ fails.failed.mid.content key) →
            ChangedUpTo (described array) options region bytes error.chunks_done old new
        firsts same = record {
          decoded = fails.failed.changed.decoded;
          holds = λ a place chunk is_fill h e had.
              content-same (layout (described array) options) fails.failed.mid.content new.content chunk
              (same ((described array).key chunk))
              ∙ (fails.failed.changed.holds a place chunk is_fill h e had).has options;
          others = λ key apart. same key ∙ fails.failed.changed.others key apart;
        }

        by_kind : (kind : SessionErrorKind) → StopsBefore (described array) options (region_change array region bytes)
            (chunks_meeting (described array).grid region) error.chunks_done fails.failed.mid new kind →
            WritesUpTo (described array) options region bytes error.chunks_done old new kind
        by_kind (NotOpened why) stops = tt
        by_kind Store stops = tt
        by_kind (ChunkDecode key why) (inl (memory, same)) = firsts same
        by_kind (ChunkDecode key why) (inr (chunk, here, (its_key, damaged, same))) = firsts same
        by_kind OutOfMemory (inl (memory, same)) = firsts same
        by_kind OutOfMemory (inr (chunk, here, same)) = firsts same

    pub bytes-fail-keys : LeavesKeys (described array) options (write region bytes ∷ []) old.content new.content
    bytes-fail-keys = write-fails-keys (described array) served.covers options (served.sound options) region bytes none
        error.chunks_done old new error.kind fails.failed
