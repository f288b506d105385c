-- Parts put into a value, one after another.
use Rattle.std.proofs.Common.{◌≡◌, ◌∙◌, ap, ap₂, refl, sym, subst, ℕ, zero, suc, ◌+◌, ◌-◌, ◌≤◌, ◌<◌, max}
use Rattle.std.proofs.Common.{List, [], ◌∷◌, ◌++◌, length, take, drop, replicate, get_or, arith, slice_index_or}
use Rattle.std.proofs.lemmas.List.{append_assoc, append-nil, take_more, take-append-le, drop-append-le, length-append}
use Rattle.std.proofs.lemmas.List.{length-take-le, length-drop, length-replicate, replicate-append-replicate}
use Rattle.zarrs_storage.specs.declared.byte_range.OffsetBytes.{OffsetBytes}
use Rattle.zarrs_storage.specs.Parts.{filled_to, replaced_at, part_end, with_part, with_parts, end_of}

greatest : (a b c : ℕ) → max a (max b c) ≡ max (max a b) c
greatest a b c = omega arith

zero_least : (a : ℕ) → max a 0 ≡ max 0 a
zero_least a = omega arith

-- the end of one more part
pub end_more : (parts : List OffsetBytes) (i : ℕ) (d : OffsetBytes) → i < length parts →
    max (end_of (take i parts)) (part_end (get_or parts i d)) ≡ end_of (take (i + 1) parts)
end_more [] i d h = absurd (omega (arith, h))
end_more (part ∷ parts) zero d h = sym (zero_least (part_end part))
end_more (part ∷ parts) (suc i) d h =
    let later : max (end_of (take i parts)) (part_end (get_or parts i d)) ≡ end_of (take (i + 1) parts) =
    end_more parts i d (omega (arith, h)) in
    let next : suc i + 1 ≡ suc (i + 1) = omega arith in
    sym (greatest (part_end part) (end_of (take i parts)) (part_end (get_or parts i d)))
    ∙ ap (max (part_end part)) later ∙ sym (ap (λ n. end_of (take n (part ∷ parts))) next)

-- no part ends past the end of all
pub end_at : (parts : List OffsetBytes) (i : ℕ) (d : OffsetBytes) → i < length parts →
    part_end (get_or parts i d) ≤ end_of parts
end_at [] i d h = absurd (omega (arith, h))
end_at (part ∷ parts) zero d h = omega arith
end_at (part ∷ parts) (suc i) d h = omega (arith, end_at parts i d (omega (arith, h)))

-- the same of an item of a loop
pub item_end : (parts : List OffsetBytes) (i : ℕ) (part : OffsetBytes) → i < length parts →
    part ≡ slice_index_or parts i part →
    part_end part ≤ end_of parts
item_end parts i part h is = subst (λ p. part_end p ≤ end_of parts) (sym is) (end_at parts i part h)

pub item_more : (parts : List OffsetBytes) (i end : ℕ) (part : OffsetBytes) → i < length parts →
    part ≡ slice_index_or parts i part →
    end ≡ end_of (take i parts) → max end (part_end part) ≡ end_of (take (i + 1) parts)
item_more parts i end part h is before =
    ap₂ (λ end part. max end (part_end part)) before is ∙ end_more parts i part h

-- a value that is long enough is not filled up
pub filled_same : (n : ℕ) (value : List ℕ) → n ≤ length value → filled_to n value ≡ value
filled_same n value h =
    let none : n - length value ≡ 0 = omega (arith, h) in
    ap (λ k. value ++ replicate k 0) none ∙ append-nil value

pub length-filled : (n : ℕ) (value : List ℕ) → length (filled_to n value) ≡ max n (length value)
length-filled n value =
    let zeros : List ℕ = replicate (n - length value) 0 in
    let long : length zeros ≡ n - length value = length-replicate (n - length value) 0 in
    omega (arith, length-append value zeros, long)

-- filled up twice is filled up to the farther end
filled-filled : (n m : ℕ) (value : List ℕ) → filled_to n (filled_to m value) ≡ filled_to (max n m) value
filled-filled n m value =
    append_assoc value (replicate (m - length value) 0) (replicate (n - length (filled_to m value)) 0)
    ∙ ap (λ zeros. value ++ zeros)
    (replicate-append-replicate (m - length value) (n - length (filled_to m value)) 0
    ∙ ap (λ k. replicate k 0) (omega (arith, length-filled m value)))

filled_either : (n m : ℕ) (value : List ℕ) → filled_to n (filled_to m value) ≡ filled_to m (filled_to n value)
filled_either n m value =
    filled-filled n m value ∙ ap (λ k. filled_to k value) (omega arith) ∙ sym (filled-filled m n value)

pub length-replaced : (offset : ℕ) (bytes value : List ℕ) → offset + length bytes ≤ length value →
    length (replaced_at offset bytes value) ≡ length value
length-replaced offset bytes value h = omega (
  arith,
  h,
  length-append (take offset value ++ bytes) (drop (offset + length bytes) value),
  length-append (take offset value) bytes,
  length-take-le offset value (omega (arith, h)),
  length-drop (offset + length bytes) value,
)

-- bytes past the place of a part may be put on before or after it
replaced-filled : (offset : ℕ) (bytes value : List ℕ) (n : ℕ) → offset + length bytes ≤ length value →
    replaced_at offset bytes (filled_to n value) ≡ filled_to n (replaced_at offset bytes value)
replaced-filled offset bytes value n h =
    let zeros : List ℕ = replicate (n - length value) 0 in
    let end = offset + length bytes in
    ap₂ (λ front rest. front ++ bytes ++ rest) (take-append-le offset value zeros (omega (arith, h)))
    (drop-append-le end value zeros h)
    ∙ sym (append_assoc (take offset value ++ bytes) (drop end value) zeros)
    ∙ ap (λ k. replaced_at offset bytes value ++ replicate (n - k) 0) (sym (length-replaced offset bytes value h))

length-with_part : (part : OffsetBytes) (value : List ℕ) →
    length (with_part part value) ≡ max (part_end part) (length value)
length-with_part part value =
    length-replaced part.offset part.bytes.items (filled_to (part_end part) value)
    (omega (arith, length-filled (part_end part) value))
    ∙ length-filled (part_end part) value

pub length-with_parts : (parts : List OffsetBytes) (value : List ℕ) →
    length (with_parts parts value) ≡ max (end_of parts) (length value)
length-with_parts [] value = omega arith
length-with_parts (part ∷ parts) value =
    length-with_parts parts (with_part part value) ∙ omega (arith, length-with_part part value)

part-filled : (part : OffsetBytes) (value : List ℕ) (n : ℕ) →
    with_part part (filled_to n value) ≡ filled_to n (with_part part value)
part-filled part value n =
    ap (replaced_at part.offset part.bytes.items) (filled_either (part_end part) n value)
    ∙ replaced-filled part.offset part.bytes.items (filled_to (part_end part) value) n
    (omega (arith, length-filled (part_end part) value))

parts-filled : (parts : List OffsetBytes) (value : List ℕ) (n : ℕ) →
    with_parts parts (filled_to n value) ≡ filled_to n (with_parts parts value)
parts-filled [] value n = refl
parts-filled (part ∷ parts) value n =
    ap (with_parts parts) (part-filled part value n) ∙ parts-filled parts (with_part part value) n

-- a value that is filled up to the last end at once takes the parts as one that is not
pub filled_before : (parts : List OffsetBytes) (value : List ℕ) →
    with_parts parts (filled_to (end_of parts) value) ≡ with_parts parts value
filled_before parts value =
    parts-filled parts value (end_of parts)
    ∙ filled_same (end_of parts) (with_parts parts value) (omega (arith, length-with_parts parts value))

with_parts-append : (parts more : List OffsetBytes) (value : List ℕ) →
    with_parts (parts ++ more) value ≡ with_parts more (with_parts parts value)
with_parts-append [] more value = refl
with_parts-append (part ∷ parts) more value = with_parts-append parts more (with_part part value)

-- one more part is put into a value that has room for it
pub with_more : (parts : List OffsetBytes) (value : List ℕ) (i : ℕ) (d : OffsetBytes) → i < length parts →
    end_of parts ≤ length value →
    let part = get_or parts i d in
    with_parts (take (i + 1) parts) value ≡ replaced_at part.offset part.bytes.items (with_parts (take i parts) value)
with_more parts value i d h room =
    let part = get_or parts i d in
    ap (λ ps. with_parts ps value) (take_more parts i d h)
    ∙ with_parts-append (take i parts) (part ∷ []) value
    ∙ ap (replaced_at part.offset part.bytes.items)
    (filled_same (part_end part) (with_parts (take i parts) value)
    (omega (arith, length-with_parts (take i parts) value, end_at parts i d h, room)))

pub item_put : (parts : List OffsetBytes) (first value : List ℕ) (i : ℕ) (part : OffsetBytes) → i < length parts →
    part ≡ slice_index_or parts i part →
    end_of parts ≤ length first → value ≡ with_parts (take i parts) first →
    replaced_at part.offset part.bytes.items value ≡ with_parts (take (i + 1) parts) first
item_put parts first value i part h is room before =
    ap₂ (λ p v. replaced_at p.offset p.bytes.items v) is before ∙ sym (with_more parts first i part h room)
