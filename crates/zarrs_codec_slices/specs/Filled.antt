-- What filling a box does.
use Rattle.std.specs.Prelude.{◌≡◌, ℕ, ◌<◌, if◌then◌else◌, List, length, get_or}
use Rattle.zarr_model.specs.Prelude.{Region, count, contains, tuple_at}

-- a list over a box has one element at each tuple of another box, and kept its others
pub record Filled {A : Type 0} (target_box box : Region) (fill : A) (old new : List A) : Type 0
  where
    pub as_long : length new ≡ length old
    pub each : (k : ℕ) (d : A) → k < count target_box → get_or new k d ≡
        (if contains box (tuple_at target_box k) then fill else get_or old k d)
