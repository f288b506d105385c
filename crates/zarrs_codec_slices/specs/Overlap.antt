-- What a copy between two boxes does.
use Rattle.std.specs.Prelude.{◌≡◌, ℕ, ◌+◌, ◌-◌, ◌<◌, max, min, if◌then◌else◌, List, ◌++◌, length, get_or, take, drop}
use Rattle.std.specs.Prelude.{[], ◌∷◌}
use Rattle.zarr_model.specs.Prelude.{Span, Region, count, contains, place, tuple_at}
pub use Rattle.zarr_model.specs.Region.{span_at}

-- where the first index that two spans share is in the one span, and how many they share
abbrev pub shared_from : Span → Span → ℕ
shared_from span other = max span.start other.start - span.start

abbrev pub shared_size : Span → Span → ℕ
shared_size span other = min (span.size - shared_from span other)
    (other.size - shared_from other span)

-- a list that holds another list's run of elements in the place of as many of its own
abbrev pub with_run : {A : Type 0} → List A → ℕ → List A → ℕ → ℕ → List A
with_run old target_at source source_at len =
    take target_at old ++ (take len (drop source_at source) ++ drop (target_at + len) old)

-- a list over a box took the elements of another box's list at each tuple that both boxes have, and
-- kept its others
pub record Copied {A : Type 0} (target_box source_box : Region) (source old new : List A) : Type 0
  where
    pub as_long : length new ≡ length old
    pub each : (k : ℕ) (d : A) → k < count target_box → get_or new k d ≡
        (if contains source_box (tuple_at target_box k)
        then get_or source (place source_box (tuple_at target_box k)) d else get_or old k d)

-- the bytes of a box's elements as a box of their own, whose last dimension are the n bytes of an
-- element
abbrev pub in_bytes : ℕ → Region → Region
in_bytes n box = box ++ (record { start = 0; size = n } ∷ [])
