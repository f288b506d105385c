-- What fetching chunks costs a store.
use Rattle.std.specs.Prelude.{◌≡◌, ◌+◌, ◌*◌, ◌<◌, ◌⊎◌, if◌then◌else◌, ℕ, Bool, true, List, take, length, unwrap_or}
use Rattle.std.specs.List.{sum_by}
use Rattle.zarr_model.specs.Prelude.{Region, count, sizes, whole, part_of_box, fixed_size, kind, Options, Content}
use Rattle.zarr_model.specs.Prelude.{Description, Shown, counted, present_in, read_bytes, write_bytes}
use Rattle.zarr_array.specs.Access.{Cost, PartCost, Costs, by_chunk, by_part}

-- one call was made, and took so many bytes where that is told
pub record PaysOne (alone : Bool) (needed : ℕ) (before now : Shown) : Type 0 where
  pub asks : now.asks ≡ counted before.asks 1
  pub taken : alone ≡ true → now.taken ≡ counted before.taken needed

-- what a chunk costs for what it shares with a region
abbrev pub cost_of : PartCost → Description → Options → Region → Content → List ℕ → Cost
cost_of cost description options region store chunk = cost options chunk
    (part_of_box region (description.grid.chunk_box chunk)) (store (description.key chunk))

-- what all of a list cost
abbrev pub costs_of : {A : Type 0} → (A → Cost) → List A → Cost
costs_of cost items = record {
  asks = sum_by (λ item. (cost item).asks) items;
  taken = sum_by (λ item. (cost item).taken) items;
}

-- so many calls were made and so many bytes taken
pub record Pays (cost : Cost) (before now : Shown) : Type 0 where
  pub asks : now.asks ≡ counted before.asks cost.asks
  pub taken : now.taken ≡ counted before.taken cost.taken

-- the bytes of a box of a chunk, if the chunk is present
abbrev pub box_bytes : Description → Region → Content → List ℕ → ℕ
box_bytes description within store chunk = if present_in description store chunk
    then unwrap_or (fixed_size (kind description)) 0 * count within else 0

-- all of a chunk was fetched, or a box of it, or what it shares with a region
abbrev pub PaysWhole : Costs → Description → Options → List ℕ → Shown → Shown → Type 0
PaysWhole (by_chunk alone) description options chunk before now =
    PaysOne alone (write_bytes description before.content chunk) before now
PaysWhole (by_part cost) description options chunk before now =
    Pays (cost options chunk (whole (sizes (description.grid.chunk_box chunk)))
    (before.content (description.key chunk))) before now

abbrev pub PaysBox : Costs → Description → Options → Region → List ℕ → Shown → Shown → Type 0
PaysBox (by_chunk alone) description options within chunk before now =
    PaysOne alone (box_bytes description within before.content chunk) before now
PaysBox (by_part cost) description options within chunk before now =
    Pays (cost options chunk within (before.content (description.key chunk))) before now

abbrev pub PaysShared : Costs → Description → Options → Region → List ℕ → Shown → Shown → Type 0
PaysShared (by_chunk alone) description options region chunk before now =
    PaysOne alone (read_bytes description region before.content chunk) before now
PaysShared (by_part cost) description options region chunk before now =
    Pays (cost_of cost description options region before.content chunk) before now

-- a chunk was not fetched
abbrev pub PaysAtMost : Costs → Shown → Shown → Type 0
PaysAtMost (by_chunk alone) before now =
    (now.asks ≡ before.asks) ⊎ (now.asks ≡ counted before.asks 1)
PaysAtMost (by_part cost) before now = Unit {0}

-- a chunk was fetched, and put again
abbrev pub PaysChange : Costs → Description → List ℕ → Shown → Shown → Type 0
PaysChange (by_chunk alone) description chunk before now =
    PaysOne alone (write_bytes description before.content chunk) before now
PaysChange (by_part cost) description chunk before now = Unit {0}

-- so many calls were made for some chunks, and so many bytes taken where that is told
pub record PaysEach (alone : Bool) (k needed : ℕ) (before now : Shown) : Type 0 where
  pub asks : now.asks ≡ counted before.asks k
  pub taken : alone ≡ true → now.taken ≡ counted before.taken needed

-- what the first k of some chunks share with a region was fetched
abbrev pub PaysFirst : Costs → Description → Options → Region → List (List ℕ) → ℕ → Shown → Shown
    → Type 0
PaysFirst (by_chunk alone) description options region chunks k before now = PaysEach alone k
    (sum_by (read_bytes description region before.content) (take k chunks)) before now
PaysFirst (by_part cost) description options region chunks k before now =
    Pays (costs_of (cost_of cost description options region before.content) (take k chunks))
    before now

-- what all of some chunks share with a region was fetched
abbrev pub PaysRead : Costs → Description → Options → Region → List (List ℕ) → Shown → Shown
    → Type 0
PaysRead (by_chunk alone) description options region chunks before now = PaysEach alone
    (length chunks) (sum_by (read_bytes description region before.content) chunks) before now
PaysRead (by_part cost) description options region chunks before now =
    Pays (costs_of (cost_of cost description options region before.content) chunks) before now

-- the first k of some chunks were changed
abbrev pub PaysChanges : Costs → Description → List (List ℕ) → ℕ → Shown → Shown → Type 0
PaysChanges (by_chunk alone) description chunks k before now = PaysEach alone k
    (sum_by (write_bytes description before.content) (take k chunks)) before now
PaysChanges (by_part cost) description chunks k before now = Unit {0}

-- one call for each of the first k of some chunks, and perhaps one for the next
abbrev pub CountsFirst : ℕ → ℕ → ℕ → ℕ → Type 0
CountsFirst k all before now = (now ≡ counted before k)
    ⊎ ((k < all) × (now ≡ counted before (k + 1)))

-- the next chunk after the first k was not fetched
abbrev pub PaysPart : Costs → ℕ → ℕ → Shown → Shown → Type 0
PaysPart (by_chunk alone) k all before now = CountsFirst k all before.asks now.asks
PaysPart (by_part cost) k all before now = Unit {0}
