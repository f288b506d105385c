-- Parts of a value, one after another.
use Rattle.std.proofs.Common.{◌≡◌, ◌∙◌, ap, ℕ, ◌+◌, ◌<◌, List, [], ◌∷◌, ◌++◌, length, take, get_or, sym, min, ◌-◌, ◌^◌}
use Rattle.std.proofs.Common.{Some, None, ◌≤◌, true, arith}
use Rattle.std.proofs.lemmas.Bool.{leb-true}
use Rattle.std.specs.List.{concat}
use Rattle.std.proofs.lemmas.List.{append-nil, map_more, length-append}
use Rattle.std.proofs.lemmas.List.Folds.{concat-append}
use Rattle.zarrs_storage.specs.declared.byte_range.ByteRange.{ByteRange}
use Rattle.zarrs_storage.specs.declared.byte_range.ByteRange.TheVariants.{FromStart, Suffix}
use Rattle.zarrs_storage.specs.declared.byte_range.ByteRangeFault.{ByteRangeFault}
use Rattle.zarrs_storage.specs.declared.byte_range.ByteRangeFault.TheVariants.{Invalid, OutOfMemory}
use Rattle.zarrs_storage.specs.ByteRange.{is_valid, start_in, end_in, slice_of, slices_of, room_of, first_invalid}
use Rattle.zarrs_storage.specs.ByteRange.{IsFirstInvalid}
use Rattle.zarrs_storage.specs.Store.{IsRangeError, range_fault}

-- one more part stands at the end
concat_more : (parts : List (List ℕ)) (part : List ℕ) → concat (parts ++ part ∷ []) ≡ concat parts ++ part
concat_more parts part = concat-append parts (part ∷ []) ∙ ap (λ xs. concat parts ++ xs) (append-nil part)

-- and so does the slice of one more range
pub slices_more : (ranges : List ByteRange) (value : List ℕ) (i : ℕ) (d : ByteRange) → i < length ranges →
    concat (slices_of (take (i + 1) ranges) value) ≡
    concat (slices_of (take i ranges) value) ++ slice_of (get_or ranges i d) value
slices_more ranges value i d h =
    ap concat (map_more (λ range. slice_of range value) ranges i d h)
    ∙ concat_more (slices_of (take i ranges) value) (slice_of (get_or ranges i d) value)

least_more : (n m k : ℕ) → min (min n k + m) k ≡ min (n + m) k
least_more n m k = omega arith

-- the room of one more range
pub room_more : (ranges : List ByteRange) (value : List ℕ) (i : ℕ) (d : ByteRange) → i < length ranges →
    min (room_of (take i ranges) value + length (slice_of (get_or ranges i d) value)) (2 ^ 64 - 1) ≡
    room_of (take (i + 1) ranges) value
room_more ranges value i d h =
    let before = concat (slices_of (take i ranges) value) in
    let part = slice_of (get_or ranges i d) value in
    least_more (length before) (length part) (2 ^ 64 - 1)
    ∙ ap (λ n. min n (2 ^ 64 - 1)) (sym (length-append before part) ∙ ap length (sym (slices_more ranges value i d h)))

-- a fault of ranges as an error of a store that holds the value
pub range_error : (ranges : List ByteRange) (value : List ℕ) (fault : ByteRangeFault) →
    IsFirstInvalid (first_invalid (length value) ranges) (length value) fault →
    IsRangeError ranges (Some value) (range_fault fault)
range_error ranges value (Invalid error) told = told
range_error ranges value OutOfMemory told = tt

-- where a valid range lies
pub record Lies (range : ByteRange) (size : ℕ) : Type 0 where
  pub rises : start_in range size ≤ end_in range size
  pub within : end_in range size ≤ size

pub lies : (range : ByteRange) (size : ℕ) → is_valid range size ≡ true → Lies range size
lies (FromStart offset None) size is = let fits : offset ≤ size = leb-true _ _ is in
    record { rises = fits; within = omega arith }
lies (FromStart offset (Some len)) size is = let fits : offset + len ≤ size = leb-true _ _ is in
    record { rises = omega arith; within = fits }
lies (Suffix len) size is = record { rises = omega arith; within = omega arith }

-- so does one that is moved
pub shift_fits : (range : ByteRange) (offset len : ℕ) → is_valid range len ≡ true → offset + len < 2 ^ 64 →
    offset + start_in range len < 2 ^ 64
shift_fits range offset len is fits = let l = lies range len is in let rises : start_in range len ≤ end_in range len =
    l.rises in let within : end_in range len ≤ len = l.within in omega arith
