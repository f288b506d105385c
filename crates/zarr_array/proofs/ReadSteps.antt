-- The steps of reading a region.
use Rattle.std.proofs.Common.{[], ◌≡◌, ℕ, ◌+◌, ◌-◌, ◌^◌, ◌<◌, ◌≤◌, ◌⊎◌, true, false, List, length, slice_get, Option}
use Rattle.std.proofs.Common.{Some, IsSome, unwrap_or, refl, sym, ap, ◌∙◌, subst, subst₂, arith, le_trans}
use Rattle.std.proofs.lemmas.Option.{slice_get_within}
use Rattle.zarr_model.specs.Prelude.{Region, count, ends_within, Element, Kind, kind, ArrayBytes, meaning}
use Rattle.zarr_model.specs.Prelude.{has_long_element, Array, chunks_meeting, HasMet, Options, box_content}
use Rattle.zarr_model.specs.Prelude.{chunk_content, Shown, Description, layout, finds_shared}
use Rattle.zarrs_codec_traits.specs.Prelude.{SameContent}
use Rattle.zarr_array_boxes.proofs.ReadLaws.{HasRead, read-start, read-step, read-end}
use Rattle.zarr_array_boxes.proofs.DecodeLaws.{each-step, each-all}
use Rattle.zarr_array.specs.Access.{Access, IsServed, described}
use Rattle.zarrs_codec_traits.proofs.EditLaws.{rose_later}
use Rattle.zarr_array.specs.declared.command_error.CommandError.{CommandError}
use Rattle.zarr_array.specs.declared.command_error.SessionErrorKind.{SessionErrorKind}
use Rattle.zarr_array.specs.declared.command_error.SessionErrorKind.TheVariants.{NotOpened, ChunkDecode, Store}
use Rattle.zarr_array.specs.declared.command_error.SessionErrorKind.TheVariants.{OutOfMemory}
use Rattle.zarr_array.specs.Asked.{chunk_asked, finds_asked}
use Rattle.zarr_array.specs.Chunk.{FailsToFetch}
use Rattle.zarr_array.specs.Fetch.{NotFetched}
use Rattle.zarr_array.specs.Shared.{IsReadable}
use Rattle.zarr_array.specs.Pays.{PaysFirst}
use Rattle.zarr_array.specs.Read.{HasReadCause, FailsToRead, HasReadChunk, HasReadList, HasReadRegion, NotReadRegion}
use Rattle.zarr_array.proofs.AskedLaws.{asked_shared}
use Rattle.zarr_array.proofs.PartWayLaws.{met-chunks}
use Rattle.zarr_array.proofs.PaysLaws.{pays_none, pays_more, pays_all, pays_stops, pays_ends}
use Rattle.zarr_array.proofs.TellsLaws.{told_why}

-- a chunk that could not be fetched stops the reading of its region
pub stops_reading : (description : Description) (options : Options) (region : Region) (k : ℕ) (old mid new :
    Shown) (chunk : List ℕ) (kind : SessionErrorKind) →
    slice_get (chunks_meeting description.grid region) k ≡ Some chunk →
    k ≤ length (chunks_meeting description.grid region) →
    ((key : List ℕ) → mid.content key ≡ old.content key) → old.faults ≤ mid.faults →
    FailsToFetch (chunk_content (layout description options) mid.content chunk) (finds_asked description options chunk
    (chunk_asked description (Some region) chunk) (mid.content (description.key chunk))) (description.key chunk) mid new
    kind →
    FailsToRead description options region k old new kind
stops_reading description options region k old mid new chunk kind here few same later fails = record {
  few = few;
  cause = by_kind kind fails;
}
  where
    by_kind : (kind : SessionErrorKind) → FailsToFetch (chunk_content (layout description options) mid.content chunk)
        (finds_asked description options chunk (chunk_asked description (Some region) chunk)
        (mid.content (description.key chunk))) (description.key chunk) mid new kind →
        HasReadCause description options region k old new kind
    by_kind (NotOpened error) fails = fails
    by_kind (ChunkDecode key error) fails = (
      chunk,
      here,
      sym fails.0,
      ap (box_content (layout description options) (description.grid.chunk_box chunk))
          (sym (same (description.key chunk))) ∙ fails.1,
      ap (λ k. finds_shared description options region chunk (old.content k)) fails.0
          ∙ (ap (finds_shared description options region chunk) (sym (same (description.key chunk)))
          ∙ (sym (asked_shared description options region chunk (mid.content (description.key chunk))) ∙ fails.2)),
    )
    by_kind Store fails = rose_later old.faults mid.faults new.faults later fails
    by_kind OutOfMemory fails = tt

-- the first k of the chunks that a region meets were read into the region's elements
pub record HasReadSome (array : Access) (options : Options) (region : Region) (k : ℕ) (list : List Element)
    (before now : Shown) : Type 0 where
  pub as_long : length list ≡ count region
  pub same : SameContent before now
  pub paid :
      PaysFirst array.costs (described array) options region (chunks_meeting (described array).grid region) k before now
  pub later : before.faults ≤ now.faults
  pub readable : (place : ℕ) (chunk : List ℕ) → place < k → slice_get (chunks_meeting (described array).grid region)
      place ≡ Some chunk → IsReadable (described array) options region before.content chunk
  pub read : (plain : Array Element) → HasMet (described array) options region before.content plain →
      HasRead (described array).grid region (chunks_meeting (described array).grid region) k plain list

module _ (array : Access) (options : Options) (region : Region) where
  abbrev met : List (List ℕ)
  met = chunks_meeting (described array).grid region

  -- what makes a chunk readable, of what stands under its key
  abbrev readable_by : List ℕ → Option (List ℕ) → Type 0
  readable_by chunk value =
      IsSome (box_content (layout (described array) options) ((described array).grid.chunk_box chunk) value) ⊎
      (finds_shared (described array) options region chunk value ≡ true)

  pub none_read : (list : List Element) (store : Shown) → length list ≡ count region → store.asks ≤ 2 ^ 64 - 1 →
      store.taken ≤ 2 ^ 64 - 1 → HasReadSome array options region 0 list store store
  none_read list store long fits room = record {
    as_long = long;
    same = λ key. refl;
    paid = pays_none (described array) options region met array.costs store fits room;
    later = omega arith;
    readable = λ place chunk below e. absurd (omega (arith, below));
    read = λ plain has. read-start (described array).grid region met plain list long;
  }

  pub one_read : (k : ℕ) (chunk : List ℕ) (old new : List Element) (before mid now : Shown) →
      slice_get met k ≡ Some chunk →
      HasReadSome array options region k old before mid → HasReadChunk array options region chunk old new mid now →
      HasReadSome array options region (k + 1) new before now
  one_read k chunk old new before mid now here so_far step = record {
    as_long = step.as_long ∙ so_far.as_long;
    same = λ key. step.has_read.same key ∙ so_far.same key;
    paid = pays_more (described array) options region met array.costs k chunk before mid now here so_far.same
        so_far.paid step.paid;
    later = le_trans so_far.later step.has_read.later;
    readable = each-step readable_by (described array).key met before.content mid.content k chunk here so_far.same
        so_far.readable step.readable;
    read = λ plain has. read-step (described array).grid region met plain k chunk old new here (so_far.read plain has)
        (step.copied plain (ap (box_content (layout (described array) options) ((described array).grid.chunk_box chunk))
        (so_far.same ((described array).key chunk)) ∙ has k chunk here));
  }

  stopped : (k : ℕ) (chunk : List ℕ) (list : List Element) (before mid now : Shown) (kind : SessionErrorKind) →
      slice_get met k ≡ Some chunk →
      HasReadSome array options region k list before mid →
      NotFetched (chunk_asked (described array) (Some region) chunk) array options chunk mid now kind →
      NotReadRegion array options region before now (record { chunks_done = k; kind = kind })
  stopped k chunk list before mid now kind here so_far stop = record {
    same = λ key. stop.same key ∙ so_far.same key;
    later = le_trans so_far.later stop.later;
    failed =
        let within : k < length met = slice_get_within met k chunk here in
        stops_reading (described array) options region k before mid now chunk kind here (omega (arith, within))
        so_far.same so_far.later stop.failed;
    readable = so_far.readable;
    paid =
        pays_stops (described array) options region met array.costs k chunk before mid now here so_far.paid stop.paid;
    told = told_why (described array) array.says options (Some region) chunk now kind
        (met-chunks (described array).grid region k chunk here) stop.told;
  }

  pub stops_read : (k : ℕ) (chunk : List ℕ) (list : List Element) (before mid now : Shown) (error : CommandError) →
      error.chunks_done ≡ k → slice_get met k ≡ Some chunk → HasReadSome array options region k list before mid →
      NotFetched (chunk_asked (described array) (Some region) chunk) array options chunk mid now error.kind →
      NotReadRegion array options region before now error
  stops_read k chunk list before mid now error at here so_far stop =
      subst (λ n. NotReadRegion array options region before now (record { chunks_done = n; kind = error.kind }))
      (sym at) (stopped k chunk list before mid now error.kind here so_far stop)

  pub all_read : IsServed (described array) → (list : List Element) (before now : Shown) → ends_within region
      (described array).shape ≡ true → HasReadSome array options region (length met) list before now →
      HasReadList array options region before now list
  all_read served list before now inside all = record {
    as_long = all.as_long;
    elements = λ plain has. read-end (described array).shape (described array).grid region met plain list served.covers
        inside refl (all.read plain has);
    readable = each-all readable_by (described array).key met before.content (length met) (omega arith) all.readable;
    same = all.same;
    paid = pays_all (described array) options region met array.costs before now all.paid;
    later = all.later;
  }

  -- a region that meets no chunk
  pub none_to_read : IsServed (described array) → (list : List Element) (store : Shown) →
      ends_within region (described array).shape ≡ true → met ≡ [] → length list ≡ count region →
      store.asks ≤ 2 ^ 64 - 1 → store.taken ≤ 2 ^ 64 - 1 →
      HasReadList array options region store store list
  none_to_read served list store inside none long fits room =
      all_read served list store store inside (subst (λ n. HasReadSome array options region n list store store)
      (sym (ap length none)) (none_read list store long fits room))

  -- array bytes that mean what was read
  pub read_means : (bytes : ArrayBytes) (of_kind : Kind) (over : Region) (list : List Element) (before now : Shown) →
      of_kind ≡ kind (described array) → over ≡ region → meaning of_kind (count over) bytes ≡ Some list →
      has_long_element bytes ≡ false →
      HasReadList array options region before now list → HasReadRegion array options region before now bytes
  read_means bytes of_kind over list before now kind_is over_is means short read =
      let here : meaning (kind (described array)) (count region) bytes ≡ Some list =
      subst₂ (λ k r. meaning k (count r) bytes ≡ Some list) kind_is over_is means in
      record {
        means = subst IsSome (sym here) refl;
        read = subst (HasReadList array options region before now) (sym (ap (λ o. unwrap_or o []) here)) read;
        short = short;
      }

  -- memory ran out once all chunks were read
  pub starved_read : (list : List Element) (before now : Shown) (k : ℕ) → k ≡ length met →
      HasReadList array options region before now list →
      NotReadRegion array options region before now (record { chunks_done = k; kind = OutOfMemory })
  starved_read list before now k all read = record {
    same = read.same;
    later = read.later;
    failed = record { few = omega (arith, all); cause = tt };
    readable = λ place chunk below. read.readable place chunk;
    paid = pays_ends (described array) options region met array.costs k before now all read.paid;
    told = tt;
  }
