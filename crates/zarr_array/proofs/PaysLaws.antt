-- What fetching chunks costs, one after another.
use Rattle.std.proofs.Common.{◌≡◌, ℕ, ◌+◌, ◌-◌, ◌*◌, ◌^◌, ◌<◌, ◌≤◌, List, length, take, filter}
use Rattle.std.proofs.Common.{if◌then◌else◌, is_some, slice_get, Some, unwrap_or, sym, ap, ◌∙◌, subst, arith}
use Rattle.std.proofs.Common.{inl, inr, ⊎_elim}
use Rattle.std.specs.List.{sum_by}
use Rattle.std.proofs.lemmas.List.{take_all}
use Rattle.std.proofs.lemmas.List.Sums.{sum_by_more}
use Rattle.std.proofs.lemmas.Option.{slice_get_within, get_or_from_slice_get}
use Rattle.zarr_model.specs.Prelude.{Region, count, contains, tuples, overlap_of}
use Rattle.zarr_model.specs.Prelude.{part_of_box, kind, fixed_size, Options, Content, Shown, Description, counted}
use Rattle.zarr_model.specs.Prelude.{present_in, read_bytes, write_bytes}
use Rattle.zarr_model.proofs.MeetingLaws.{shared_count}
use Rattle.zarr_array.specs.Access.{Cost, Costs, by_chunk, by_part}
use Rattle.zarr_array.specs.Pays.{Pays, PaysWhole, PaysBox, PaysShared, PaysAtMost, PaysChange, cost_of, costs_of}
use Rattle.zarr_array.specs.Pays.{PaysFirst, PaysRead, PaysChanges, PaysPart}

-- counts that stop at the greatest number
pub counted_more : (before mid now k more : ℕ) → mid ≡ counted before k → now ≡ counted mid more →
    now ≡ counted before (k + more)
counted_more before mid now k more first second = omega (arith, first, second)

-- what a sum over the first k of some chunks has more
pub one_more : (chunks : List (List ℕ)) (k : ℕ) (chunk : List ℕ) → slice_get chunks k ≡ Some chunk →
    (needs : List ℕ → ℕ) (before mid now : ℕ) →
    mid ≡ counted before (sum_by needs (take k chunks)) → now ≡ counted mid (needs chunk) →
    now ≡ counted before (sum_by needs (take (k + 1) chunks))
one_more chunks k chunk here needs before mid now first second =
    let within : k < length chunks = slice_get_within chunks k chunk here in
    let more : sum_by needs (take (k + 1) chunks) ≡ sum_by needs (take k chunks) + needs chunk =
    sum_by_more needs chunks k chunk within
    ∙ ap (λ c. sum_by needs (take k chunks) + needs c) (get_or_from_slice_get chunks k chunk chunk here) in
    omega (arith, first, second, more)

-- what a chunk needs depends on whether it is present
pub read_bytes-same : (description : Description) (region : Region) (old mid : Content) (chunk : List ℕ) →
    mid (description.key chunk) ≡ old (description.key chunk) →
    read_bytes description region mid chunk ≡ read_bytes description region old chunk
read_bytes-same description region old mid chunk same =
    ap (λ v. if is_some v then unwrap_or (fixed_size (kind description))
    0 * length (filter (contains (description.grid.chunk_box chunk)) (tuples region)) else 0) same

pub write_bytes-same : (description : Description) (old mid : Content) (chunk : List ℕ) → mid (description.key chunk) ≡
    old (description.key chunk) → write_bytes description mid chunk ≡ write_bytes description old chunk
write_bytes-same description old mid chunk same =
    ap (λ v. if is_some v then unwrap_or (fixed_size (kind description)) 0 * count (description.grid.chunk_box chunk)
    else 0) same

-- what a region shares with a chunk, by the box of it
pub pays_shared : (costs : Costs) (description : Description) (options : Options) (region within : Region) (chunk :
    List ℕ) (before now : Shown) → length region ≡ length (description.grid.chunk_box chunk) →
    within ≡ part_of_box region (description.grid.chunk_box chunk) →
    count within ≡ count (overlap_of region (description.grid.chunk_box chunk)) →
    PaysBox costs description options within chunk before now →
    PaysShared costs description options region chunk before now
pays_shared (by_chunk alone) description options region within chunk before now rank is as_many paid = record {
  asks = paid.asks;
  taken = λ told. paid.taken told
      ∙ ap (λ (n : ℕ). counted before.taken
      (if present_in description before.content chunk then unwrap_or (fixed_size (kind description)) 0 * n else 0))
      (as_many ∙ sym (shared_count region (description.grid.chunk_box chunk) rank));
}
pays_shared (by_part cost) description options region within chunk before now rank is as_many paid =
    subst (λ w. Pays (cost options chunk w (before.content (description.key chunk))) before now) is paid

-- a chunk that was not fetched cost nothing, or was asked for once
pub pays_nothing : (costs : Costs) (before now : Shown) → now.asks ≡ before.asks → PaysAtMost costs before now
pays_nothing (by_chunk alone) before now same = inl same
pays_nothing (by_part cost) before now same = tt

pub pays_whole : (costs : Costs) (description : Description) (options : Options) (chunk : List ℕ) (before now : Shown) →
    PaysWhole costs description options chunk before now → PaysAtMost costs before now
pays_whole (by_chunk alone) description options chunk before now paid = inr paid.asks
pays_whole (by_part cost) description options chunk before now paid = tt

-- what was put asks for nothing
pub pays_change : (costs : Costs) (description : Description) (options : Options) (chunk : List ℕ)
    (before mid now : Shown) → now.asks ≡ mid.asks → now.taken ≡ mid.taken →
    PaysWhole costs description options chunk before mid → PaysChange costs description chunk before now
pays_change (by_chunk alone) description options chunk before mid now unasked untaken paid =
    record { asks = unasked ∙ paid.asks; taken = λ told. untaken ∙ paid.taken told }
pays_change (by_part cost) description options chunk before mid now unasked untaken paid = tt

pub pays_then : (costs : Costs) (before mid now : Shown) → now.asks ≡ mid.asks → PaysAtMost costs before mid →
    PaysAtMost costs before now
pays_then (by_chunk alone) before mid now unasked paid =
    ⊎_elim (λ (none : mid.asks ≡ before.asks). inl (unasked ∙ none)) (λ (one : mid.asks ≡ counted before.asks 1).
    inr (unasked ∙ one)) paid
pays_then (by_part cost) before mid now unasked paid = tt

-- the first chunks of those that a region meets
module _ (description : Description) (options : Options) (region : Region) (chunks : List (List ℕ)) where
  pub pays_none : (costs : Costs) (store : Shown) → store.asks ≤ 2 ^ 64 - 1 → store.taken ≤ 2 ^ 64 - 1 →
      PaysFirst costs description options region chunks 0 store store
  pays_none (by_chunk alone) store fits room =
      record { asks = omega (arith, fits); taken = λ told. omega (arith, room) }
  pays_none (by_part cost) store fits room = record { asks = omega (arith, fits); taken = omega (arith, room) }

  pub pays_more : (costs : Costs) (k : ℕ) (chunk : List ℕ) (before mid now : Shown) → slice_get chunks k ≡ Some chunk →
      ((key : List ℕ) → mid.content key ≡ before.content key) →
      PaysFirst costs description options region chunks k before mid → PaysShared costs description options region chunk
      mid now → PaysFirst costs description options region chunks (k + 1) before now
  pays_more (by_chunk alone) k chunk before mid now here same first next = record {
    asks = counted_more before.asks mid.asks now.asks k 1 first.asks next.asks;
    taken = λ told. one_more chunks k chunk here (read_bytes description region before.content) before.taken mid.taken
        now.taken (first.taken told)
        (next.taken told ∙ ap (counted mid.taken)
        (read_bytes-same description region before.content mid.content chunk (same (description.key chunk))));
  }
  pays_more (by_part cost) k chunk before mid now here same first next =
      let each : List ℕ → Cost = cost_of cost description options region before.content in
      let now_is : cost_of cost description options region mid.content chunk ≡ each chunk =
      ap (cost options chunk (part_of_box region (description.grid.chunk_box chunk))) (same (description.key chunk)) in
      record {
        asks = one_more chunks k chunk here (λ c. (each c).asks) before.asks mid.asks now.asks first.asks
            (next.asks ∙ ap (λ (c : Cost). counted mid.asks c.asks) now_is);
        taken = one_more chunks k chunk here (λ c. (each c).taken) before.taken mid.taken now.taken first.taken
            (next.taken ∙ ap (λ (c : Cost). counted mid.taken c.taken) now_is);
      }

  pub pays_all : (costs : Costs) (before now : Shown) → PaysFirst costs description options region chunks
      (length chunks) before now → PaysRead costs description options region chunks before now
  pays_all (by_chunk alone) before now paid = record {
    asks = paid.asks;
    taken = λ told. paid.taken told ∙ ap (λ cs. counted before.taken
        (sum_by (read_bytes description region before.content) cs)) (take_all (length chunks) chunks (omega arith));
  }
  pays_all (by_part cost) before now paid =
      subst (λ cs. Pays (costs_of (cost_of cost description options region before.content) cs) before now)
      (take_all (length chunks) chunks (omega arith)) paid

  -- the next one was not fetched
  pub pays_stops : (costs : Costs) (k : ℕ) (chunk : List ℕ) (before mid now : Shown) → slice_get chunks k ≡ Some chunk →
      PaysFirst costs description options region chunks k before mid →
      PaysAtMost costs mid now → PaysPart costs k (length chunks) before now
  pays_stops (by_chunk alone) k chunk before mid now here first next =
      ⊎_elim (λ (none : now.asks ≡ mid.asks). inl (none ∙ first.asks))
      (λ (one : now.asks ≡ counted mid.asks 1).
      inr (slice_get_within chunks k chunk here, counted_more before.asks mid.asks now.asks k 1 first.asks one)) next
  pays_stops (by_part cost) k chunk before mid now here first next = tt

  pub pays_ends : (costs : Costs) (k : ℕ) (before now : Shown) → k ≡ length chunks →
      PaysRead costs description options region chunks before now → PaysPart costs k (length chunks) before now
  pays_ends (by_chunk alone) k before now all paid = inl (paid.asks ∙ ap (counted before.asks) (sym all))
  pays_ends (by_part cost) k before now all paid = tt

-- or of those that are changed
module _ (description : Description) (chunks : List (List ℕ)) where
  pub changes_none : (costs : Costs) (store : Shown) → store.asks ≤ 2 ^ 64 - 1 → store.taken ≤ 2 ^ 64 - 1 →
      PaysChanges costs description chunks 0 store store
  changes_none (by_chunk alone) store fits room =
      record { asks = omega (arith, fits); taken = λ told. omega (arith, room) }
  changes_none (by_part cost) store fits room = tt

  pub changes_more : (costs : Costs) (k : ℕ) (chunk : List ℕ) (before mid now : Shown) →
      slice_get chunks k ≡ Some chunk → mid.content (description.key chunk) ≡ before.content (description.key chunk) →
      PaysChanges costs description chunks k before mid → PaysChange costs description chunk mid now →
      PaysChanges costs description chunks (k + 1) before now
  changes_more (by_chunk alone) k chunk before mid now here same first next = record {
    asks = counted_more before.asks mid.asks now.asks k 1 first.asks next.asks;
    taken = λ told. one_more chunks k chunk here (write_bytes description before.content) before.taken mid.taken
        now.taken (first.taken told)
        (next.taken told ∙ ap (counted mid.taken) (write_bytes-same description before.content mid.content chunk same));
  }
  changes_more (by_part cost) k chunk before mid now here same first next = tt

  pub changes_stop : (costs : Costs) (k : ℕ) (chunk : List ℕ) (before mid now : Shown) →
      slice_get chunks k ≡ Some chunk → PaysChanges costs description chunks k before mid →
      PaysAtMost costs mid now → PaysPart costs k (length chunks) before now
  changes_stop (by_chunk alone) k chunk before mid now here first next =
      ⊎_elim (λ (none : now.asks ≡ mid.asks). inl (none ∙ first.asks))
      (λ (one : now.asks ≡ counted mid.asks 1).
      inr (slice_get_within chunks k chunk here, counted_more before.asks mid.asks now.asks k 1 first.asks one)) next
  changes_stop (by_part cost) k chunk before mid now here first next = tt

-- memory ran out before the first
pub pays_at_start : (costs : Costs) (all : ℕ) (store : Shown) → store.asks ≤ 2 ^ 64 - 1 →
    PaysPart costs 0 all store store
pays_at_start (by_chunk alone) all store fits = inl (omega (arith, fits))
pays_at_start (by_part cost) all store fits = tt
