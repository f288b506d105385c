-- The map of slices: under the key of each reference the bytes that it refers to.
use Rattle.std.specs.Prelude.{ℕ, ◌+◌, nat_le, nat_lt, ◌^◌, ◌&&◌, if◌then◌else◌, Bool, true, false, List, [], ◌∷◌}
use Rattle.std.specs.Prelude.{length, take, drop, bytes_eq, Option, Some, None, option_map}
use Rattle.std.specs.Ordering.{nat_cmp}
use Rattle.std.specs.Cmp.Lexicographic.{slice_cmp}
use Rattle.std.specs.BTreeMap as tree
use Rattle.std.specs.BTreeMap.{BTreeMap}
use Rattle.zarr_model.specs.Prelude.{Content}
use Rattle.zarr_refs.specs.declared.reference.Reference.{Reference}
use Rattle.zarr_refs.specs.declared.slices.Slice.{Slice}

-- the slice that a reference is to
abbrev pub slice_by : Reference → Slice
slice_by r = record { base = r.base; offset = r.offset; length = r.length }

-- the slice that the first reference of a key is to
abbrev pub slice_named : List ℕ → List Reference → Option Slice
slice_named key [] = None
slice_named key (r ∷ rs) = if bytes_eq r.key key then Some (slice_by r) else slice_named key rs

-- the slice under a key
abbrev pub slice_at : BTreeMap (List ℕ) Slice → List ℕ → Option Slice
slice_at slices key = tree.get (slice_cmp nat_cmp) slices key

-- the bytes of a value from an offset on, so many
abbrev pub bytes_part : ℕ → ℕ → List ℕ → List ℕ
bytes_part offset len value = take len (drop offset value)

-- the bytes of a slice, if its base is there
abbrev pub slice_bytes : Content → Slice → Option (List ℕ)
slice_bytes content s = option_map (bytes_part s.offset s.length) (content s.base)

-- the bytes of the slice under a key, if there is one
abbrev pub slice_held : Content → Option Slice → Option (List ℕ)
slice_held content None = None
slice_held content (Some s) = slice_bytes content s

-- the map of slices
abbrev pub sliced : List Reference → Content → Content
sliced references content = λ key. slice_held content (slice_named key references)

-- whether a slice's end has a `u64`'s range
abbrev pub is_bounded : Slice → Bool
is_bounded s = nat_lt (s.offset + s.length) (2 ^ 64)

-- whether a value is there that a slice lies in
abbrev pub lies_in : Option (List ℕ) → Slice → Bool
lies_in None s = false
lies_in (Some value) s = nat_le (s.offset + s.length) (length value) && is_bounded s

-- the slice under a key lies in its base's value, if there is one
abbrev pub is_slice_within : Content → Option Slice → Bool
is_slice_within content None = true
is_slice_within content (Some s) = lies_in (content s.base) s
