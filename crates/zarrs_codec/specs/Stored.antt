-- A value under a key of a store.
use Rattle.std.specs.Prelude.{ℕ, List, ◌∷◌, length, is_some, Option, Some, None, refl}
use Rattle.std.specs.List.{sum_by}
use Rattle.zarrs_codec_traits.specs.Prelude.{Shown, slices_of, Seen, IsSoundSeen, value_part}
use Rattle.zarrs_storage.specs.declared.byte_range.ByteRange.{ByteRange}
use Rattle.zarrs_codec_traits.proofs.PartLaws.{sound_by}

-- how many bytes lists have together
abbrev pub bytes_in_parts : List (List ℕ) → ℕ
bytes_in_parts parts = sum_by length parts

-- how many bytes of a value a read of ranges, or of all of it, hands out
abbrev pub taken_of : Option (List ByteRange) → Option (List ℕ) → ℕ
taken_of asked None = 0
taken_of None (Some value) = length value
taken_of (Some ranges) (Some value) = bytes_in_parts (slices_of ranges value)

-- what a handle shows that holds a reference of this name to a store
abbrev pub stored : ℕ → List ℕ → Shown → Seen
stored name key shown = record {
  there = is_some (shown.content key);
  held = λ under. Some (shown.content key);
  part = λ under. value_part (shown.content key);
  shown = shown;
  key = key;
  place = name ∷ key;
  cost = 1;
  taking = λ asked. taken_of asked (shown.content key);
  size = 0;
}

-- what is read of it belongs together
pub stored_sound : (name : ℕ) (key : List ℕ) (shown : Shown) → IsSoundSeen (stored name key shown)
stored_sound name key shown = sound_by (stored name key shown) (shown.content key) refl
    (λ under. refl) (λ under range. refl)
