-- The steps of writing to a region.
use Rattle.std.proofs.Common.{◌≡◌, ℕ, ◌+◌, ◌-◌, ◌^◌, ◌≤◌, false, List, length, slice_get, Some, None}
use Rattle.std.proofs.Common.{Result, Ok, Err, sym, ap, ◌∙◌, subst, subst₂, arith, le_trans, inl, inr, ⊎_elim}
use Rattle.zarr_model.specs.Prelude.{Region, count, Element, Kind, kind, ArrayBytes, meaning}
use Rattle.zarr_model.specs.Prelude.{written_elements, Array, chunks_meeting, Options, Shown, layout, chunk_content}
use Rattle.zarr_model.specs.Prelude.{counted}
use Rattle.zarr_model.proofs.BytesLaws.{length-meaning}
use Rattle.zarrs_storage.specs.declared.store.StorageError.{StorageError}
use Rattle.zarrs_codec_slices.specs.Overlap.{Copied}
use Rattle.zarr_array_boxes.specs.Elements.{list_in}
use Rattle.zarr_array.specs.Access.{Access, IsServed, described}
use Rattle.zarr_array.specs.declared.command_error.CommandError.{CommandError}
use Rattle.zarr_array.specs.declared.command_error.SessionErrorKind.{SessionErrorKind}
use Rattle.zarr_array.specs.declared.command_error.SessionErrorKind.TheVariants.{NotOpened, ChunkDecode, Store}
use Rattle.zarr_array.specs.declared.command_error.SessionErrorKind.TheVariants.{OutOfMemory}
use Rattle.zarr_array.specs.Chunk.{storage_kind, FailsToFetch}
use Rattle.zarr_array.specs.CommandError.{before_chunks}
use Rattle.zarr_array.specs.Fetch.{HasRead, chunk_list, HasElements, NotFetched}
use Rattle.zarr_array.specs.Pays.{PaysWhole, PaysChanges}
use Rattle.zarr_array.specs.Store.{StoresElements}
use Rattle.zarr_array.specs.Write.{region_change, FailsToChange, HasWrittenChunk, NotWrittenChunk}
use Rattle.zarr_array.specs.PartWay.{ChangedSome, HasWrittenRegion, NotWrittenRegion}
use Rattle.zarr_array.proofs.ChunkLaws.{some_list}
use Rattle.zarr_array.proofs.RegionStoredLaws.{chunk-changed, chunk-stops}
use Rattle.zarr_array.proofs.PaysLaws.{pays_whole, pays_change, pays_then, changes_none, changes_more, changes_stop}
use Rattle.zarr_array.proofs.PaysLaws.{pays_at_start}
use Rattle.zarr_array.proofs.TellsLaws.{told_of_storage, told_why}
use Rattle.zarr_array.proofs.PartWayLaws.{changed-kept, changed-start, changed-step, changed-fails, changed-starved}
use Rattle.zarr_array.proofs.PartWayLaws.{met-chunks, met-once}

-- a call that ended so
abbrev pub as_error : (T : Type 0) → StorageError → Result T StorageError
as_error T error = Err error

-- one chunk
module _ (array : Access) (options : Options) (region : Region) (chunk : List ℕ) (bytes : ArrayBytes) where
  abbrev change : Array Element → Array Element
  change = region_change array region bytes

  abbrev box : Region
  box = (described array).grid.chunk_box chunk

  -- what is not fetched is not changed
  pub unfetched : (before now : Shown) (kind : SessionErrorKind) → NotFetched None array options chunk before now kind →
      NotWrittenChunk array options change chunk before now kind
  unfetched before now kind fails = record {
    failed = by_kind kind fails.failed;
    told = fails.told;
    paid = fails.paid;
    puts = inl fails.puts;
    later = fails.later;
  }
    where
      by_kind : (kind : SessionErrorKind) → FailsToFetch (chunk_content (layout (described array) options)
          before.content chunk) false ((described array).key chunk) before now kind →
          FailsToChange (described array) options change chunk before now kind
      by_kind (NotOpened error) none = none
      by_kind (ChunkDecode key error) (its_key, damaged, unfound) = (sym its_key, damaged, fails.same)
      by_kind Store rose = (
        rose,
        record {
          here = λ plain filler has. inl (fails.same ((described array).key chunk));
          stays = inl (fails.same ((described array).key chunk));
          others = λ other apart. fails.same other;
        },
      )
      by_kind OutOfMemory none = fails.same

  module _ (key : List ℕ) (value list : ArrayBytes) (before mid now : Shown) (its_key : key ≡
      (described array).key chunk) (held : HasElements array options chunk before value) (asked : HasRead before mid)
      (takes : PaysWhole array.costs (described array) options chunk before mid)
      (copied : Copied box region (written_elements (described array) region bytes) (chunk_list array chunk value)
      (chunk_list array chunk list)) where
    long : length (chunk_list array chunk value) ≡ count box
    long = length-meaning (kind (described array)) (count box) value (chunk_list array chunk value)
        (some_list (meaning (kind (described array)) (count box) value) held.mean.means)

    -- its elements with the region's in them were stored
    pub is_written : {T : Type 0} (v : T) → StoresElements array options chunk (chunk_list array chunk list) key mid now
        (Ok v) → HasWrittenChunk array options change chunk before now
    is_written v stores = record {
      changed = chunk-changed (described array) options region chunk key (written_elements (described array) region
          bytes) (chunk_list array chunk value) (chunk_list array chunk list) before
          its_key held.elements long copied mid.content now.content asked.same stores.ok;
      paid = pays_change array.costs (described array) options chunk before mid now stores.asks stores.taken takes;
      puts = stores.puts ∙ ap (λ n. counted n 1) asked.puts;
      later = le_trans asked.later stores.cause.later;
    }

    -- or were not
    pub not_written : {T : Type 0} (error : StorageError) →
        StoresElements array options chunk (chunk_list array chunk list) key mid now (as_error T error) →
        NotWrittenChunk array options change chunk before now (storage_kind error)
    not_written error stores = record {
      failed = chunk-stops (described array) options region chunk key (written_elements (described array) region bytes)
          (chunk_list array chunk value) (chunk_list array chunk list) before
          its_key held.elements long copied mid now error asked.same stores.failed (λ e. stores.memory (ap Err e))
          stores.cause.failed asked.later stores.plain;
      told = told_of_storage (described array) array.says options chunk None now error;
      paid = pays_then array.costs before mid now stores.asks
          (pays_whole array.costs (described array) options chunk before mid takes);
      puts = ⊎_elim (λ (none : now.puts ≡ mid.puts). inl (none ∙ asked.puts)) (λ (one : now.puts ≡ counted mid.puts 1).
          inr (one ∙ ap (λ n. counted n 1) asked.puts)) stores.puts;
      later = le_trans asked.later stores.cause.later;
    }

-- what was copied between the box that a chunk was found to have and the region
module _ (array : Access) (region : Region) (chunk : List ℕ) (of_kind : Kind) (own : Region) (kind_is : of_kind ≡
    kind (described array)) (lies : own ≡ (described array).grid.chunk_box chunk) where
  pub copied_so : (bytes value list : ArrayBytes) →
      Copied own region (list_in of_kind region bytes) (list_in of_kind own value) (list_in of_kind own list) →
      Copied ((described array).grid.chunk_box chunk) region (written_elements (described array) region bytes)
      (chunk_list array chunk value) (chunk_list array chunk list)
  copied_so bytes value list copied =
      subst₂ (λ k b. Copied b region (list_in k region bytes) (list_in k b value) (list_in k b list)) kind_is lies
      copied

-- those that a region meets
module _ (array : Access) (options : Options) (region : Region) (bytes : ArrayBytes) where
  abbrev met : List (List ℕ)
  met = chunks_meeting (described array).grid region

  abbrev all : Array Element → Array Element
  all = region_change array region bytes

  -- the first k chunks were changed, by the bytes that they need
  pub record HasWrittenSome (k : ℕ) (before now : Shown) : Type 0 where
    pub changed : ChangedSome (described array) options all met k before now
    pub paid : PaysChanges array.costs (described array) met k before now

  pub none_written : IsServed (described array) → (store : Shown) → store.asks ≤ 2 ^ 64 - 1 → store.taken ≤ 2 ^ 64 - 1 →
      store.puts ≤ 2 ^ 64 - 1 → HasWrittenSome 0 store store
  none_written served store fits room few = record {
    changed = changed-start (described array) options (served.sound options) all met
        (met-chunks (described array).grid region) store few;
    paid = changes_none (described array) met array.costs store fits room;
  }

  pub one_written : IsServed (described array) → (k : ℕ) (chunk : List ℕ) (before mid now : Shown) →
      slice_get met k ≡ Some chunk → HasWrittenSome k before mid →
      HasWrittenChunk array options all chunk mid now → HasWrittenSome (k + 1) before now
  one_written served k chunk before mid now here so_far step = record {
    changed =
        changed-step (described array) options (served.sound options) all met (met-chunks (described array).grid region)
        (met-once (described array) region) k before mid now chunk so_far.changed here step.changed step.puts
        step.later;
    paid = changes_more (described array) met array.costs k chunk before mid now here was so_far.paid step.paid;
  }
    where
      was : mid.content ((described array).key chunk) ≡ before.content ((described array).key chunk)
      was = changed-kept (described array) options (served.sound options) all met
          (met-chunks (described array).grid region) k before mid chunk so_far.changed
          (met-chunks (described array).grid region k chunk here)
          (λ place h e. let same : place ≡ k = met-once (described array) region place k chunk e here in
          absurd (omega (arith, h, same)))

  -- all were
  pub all_written : (k : ℕ) (before now : Shown) → k ≡ length met → HasWrittenSome k before now →
      HasWrittenRegion array options region bytes before now
  all_written k before now all_of some = record {
    changed = subst (λ n. ChangedSome (described array) options all met n before now) all_of some.changed;
    paid = subst (λ n. PaysChanges array.costs (described array) met n before now) all_of some.paid;
  }

  stopped : IsServed (described array) → (k : ℕ) (chunk : List ℕ)
      (before mid now : Shown) (kind : SessionErrorKind) → slice_get met k ≡ Some chunk → HasWrittenSome k before mid →
      NotWrittenChunk array options all chunk mid now kind →
      NotWrittenRegion array options region bytes before now (record { chunks_done = k; kind = kind })
  stopped served k chunk before mid now kind here so_far stop = record {
    failed = changed-fails (described array) options (served.sound options) all met
        (met-chunks (described array).grid region)
        k before mid now chunk kind so_far.changed here stop.failed stop.puts stop.later;
    paid = changes_stop (described array) met array.costs k chunk before mid now here so_far.paid stop.paid;
    told = told_why (described array) array.says options None chunk now kind
        (met-chunks (described array).grid region k chunk here) stop.told;
  }

  pub stops_written : IsServed (described array) → (k : ℕ) (chunk : List ℕ) (before mid now : Shown) (error :
      CommandError) → error.chunks_done ≡ k → slice_get met k ≡ Some chunk → HasWrittenSome k before mid →
      NotWrittenChunk array options all chunk mid now error.kind →
      NotWrittenRegion array options region bytes before now error
  stops_written served k chunk before mid now error at here so_far stop =
      subst (λ n. NotWrittenRegion array options region bytes before now
      (record { chunks_done = n; kind = error.kind })) (sym at)
      (stopped served k chunk before mid now error.kind here so_far stop)

  -- memory ran out before the first chunk
  pub starved_writing : IsServed (described array) → (store : Shown) → store.asks ≤ 2 ^ 64 - 1 →
      store.puts ≤ 2 ^ 64 - 1 → NotWrittenRegion array options region bytes store store before_chunks
  starved_writing served store fits few = record {
    failed = changed-starved (described array) options (served.sound options) all met
        (met-chunks (described array).grid region) store few;
    paid = pays_at_start array.costs (length met) store fits;
    told = tt;
  }
