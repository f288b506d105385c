-- Elements between offsets: one more, and within their bytes.
use Rattle.std.proofs.Common.{◌≡◌, ℕ, zero, suc, ◌+◌, ◌-◌, ◌^◌, ◌<◌, ◌≤◌, Bool, true, false, ◌==◌, ◌&&◌, ◌||◌, nat_le}
use Rattle.std.proofs.Common.{List, [], ◌∷◌, ◌++◌, length, map, take, drop, flat_map, Option, Some, None, option_map}
use Rattle.std.proofs.Common.{refl, sym, ap, ap₂, ◌∙◌, subst, arith, if◌then◌else◌, eq-eqb, eqb-true, append_assoc}
use Rattle.std.proofs.Common.{append-nil, slice_index_or}
use Rattle.std.specs.List.{AllByRecursion}
use Rattle.std.proofs.lemmas.List.{length-append, drop_at, length-drop, length-map, map-append, take-append-le}
use Rattle.std.proofs.lemmas.List.{drop-append-le, drop-drop, length-take}
use Rattle.zarr_model.proofs.VlenLaws.{decode_vlen-of}
use Rattle.std.proofs.Math.Seq.{take-length, drop-cons}
use Rattle.std.proofs.lemmas.Bool.{and_parts, and_from, le-leb, leb-true, leb-false, lt-leb, cond-true, cond-false}
use Rattle.std.proofs.lemmas.Bool.{ne_eqb}
use Rattle.std.specs.List.{IsSplitAt}
use Rattle.zarrs_codec_traits.specs.Prelude.{Element, of_bytes, has_long_step}
use Rattle.zarr_model.specs.ArrayBytes.{between_offsets, offsets_rise_to, bytes_of}
use Rattle.zarr_model.specs.Codec.{low_bytes, decode_items, decode_vlen, vlen_value, number_of_bytes}
use Rattle.zarr_model.proofs.RefusalLaws.{rise_within}
use Rattle.zarr_model.proofs.BytesLaws.{length-between_offsets}
use Rattle.zarr_codecs_to_bytes.specs.Values.{items_of, AreValues, AreBetween, IsFirstItem, HoldsElements, HoldsItems}
use Rattle.zarr_codecs_to_bytes.specs.Values.{elements_between}

no_long : (from to : ℕ) (offsets : List ℕ) → has_long_step (from ∷ to ∷ offsets) ≡ false →
    (to < from + 2 ^ 32) × (has_long_step (to ∷ offsets) ≡ false)
no_long from to offsets short = go (nat_le (from + 2 ^ 32) to) refl short
  where
    go : (b : Bool) → nat_le (from + 2 ^ 32) to ≡ b → (b || has_long_step (to ∷ offsets)) ≡ false →
        (to < from + 2 ^ 32) × (has_long_step (to ∷ offsets) ≡ false)
    go true is e = cc
    go false is e = (leb-false (from + 2 ^ 32) to is, e)

pub step_within : (value : List ℕ) (from to : ℕ) (offsets : List ℕ) → AreBetween value from (to ∷ offsets) →
    (from ≤ to) × (to ≤ length value) × (to - from < 2 ^ 32) × AreBetween value to offsets
step_within value from to offsets all =
    let parts = and_parts (nat_le from to) (offsets_rise_to (length value) to offsets) all.rise in
    let steps = no_long from to offsets all.short in
    let low = leb-true from to parts.0 in (
      low,
      rise_within (length value) to offsets parts.1,
      let fits : to - from < 2 ^ 32 = omega (arith, steps.0) in
          fits,
      record { rise = parts.1; short = steps.1 },
    )

pub between_first : (number first : ℕ) (value offsets : List ℕ) → AreValues number value (first ∷ offsets) →
    AreBetween value first offsets
between_first number first value offsets all =
    let counted =
    and_parts (length offsets == number) ((first == 0) && offsets_rise_to (length value) first offsets) all.rise in
    record {
      rise = (and_parts (first == 0) (offsets_rise_to (length value) first offsets) counted.1).1;
      short = all.short;
    }

-- one offset more, at the end
pub rise_more : (end size from : ℕ) (offsets : List ℕ) → offsets_rise_to end from offsets ≡ true →
    offsets_rise_to (end + size) from (offsets ++ (end + size) ∷ []) ≡ true
rise_more end size from [] rises = let low : from ≤ end + size = omega (arith, eqb-true from end rises) in
    and_from (nat_le from (end + size)) (end + size == end + size) (le-leb from (end + size) low) (eq-eqb _ _ refl)
rise_more end size from (to ∷ offsets) rises =
    let parts = and_parts (nat_le from to) (offsets_rise_to end to offsets) rises in
    and_from _ _ parts.0 (rise_more end size to offsets parts.1)

pub short_more : (end size from : ℕ) (offsets : List ℕ) → size < 2 ^ 32 → offsets_rise_to end from offsets ≡ true →
    has_long_step (from ∷ offsets) ≡ false → has_long_step (from ∷ (offsets ++ (end + size) ∷ [])) ≡ false
short_more end size from [] small rises short =
    let same = eqb-true from end rises in
    ap (λ b. b || false) (lt-leb (from + 2 ^ 32) (end + size) (omega arith))
short_more end size from (to ∷ offsets) small rises short =
    let parts = and_parts (nat_le from to) (offsets_rise_to end to offsets) rises in
    let steps = no_long from to offsets short in
    ap₂ (λ a b. a || b) (lt-leb (from + 2 ^ 32) to steps.0) (short_more end size to offsets small parts.1 steps.1)

pub between_more : (value item : List ℕ) (from : ℕ) (offsets : List ℕ) →
    offsets_rise_to (length value) from offsets ≡ true →
    between_offsets (from ∷ (offsets ++ (length value + length item) ∷ [])) (value ++ item) ≡
    between_offsets (from ∷ offsets) value ++ item ∷ []
between_more value item from [] rises =
    let same : from ≡ length value = eqb-true from (length value) rises in
    ap (λ x. x ∷ []) (ap₂ (λ n xs. take n xs) (let e : length value + length item - from ≡ length item = omega arith in
    e) (drop_at value item from (sym same)) ∙ take-length item)
between_more value item from (to ∷ offsets) rises =
    let parts = and_parts (nat_le from to) (offsets_rise_to (length value) to offsets) rises in
    let low = leb-true from to parts.0 in
    let high = rise_within (length value) to offsets parts.1 in
    ap₂ (λ x xs. x ∷ xs) (take_front from to value item low high) (between_more value item to offsets parts.1)
  where
    take_front : (from to : ℕ) (value item : List ℕ) → from ≤ to → to ≤ length value →
        take (to - from) (drop from (value ++ item)) ≡ take (to - from) (drop from value)
    take_front from to value item low high =
        let fits : to - from ≤ length (drop from value) = omega (arith, length-drop from value, low, high) in
        ap (take (to - from)) (drop-append-le from value item (omega (arith, low, high)))
        ∙ take-append-le (to - from) (drop from value) item fits

-- the value that was appended is one element more
pub more_values : (number : ℕ) (bytes offsets item : List ℕ) → AreValues number bytes offsets → length item < 2 ^ 32 →
    AreValues (suc number) (bytes ++ item) (offsets ++ length (bytes ++ item) ∷ [])
more_values number bytes [] item all small = absurd (let no = all.rise in cc)
more_values number bytes (first ∷ offsets) item all small =
    let counted =
    and_parts (length offsets == number) ((first == 0) && offsets_rise_to (length bytes) first offsets) all.rise in
    let begins = and_parts (first == 0) (offsets_rise_to (length bytes) first offsets) counted.1 in
    let long : length (bytes ++ item) ≡ length bytes + length item = length-append bytes item in
    let count : length (offsets ++ length (bytes ++ item) ∷ []) ≡ suc number =
    omega (arith, length-append offsets (length (bytes ++ item) ∷ []), eqb-true (length offsets) number counted.0) in
    record {
      rise = and_from _ _ (eq-eqb _ _ count) (and_from _ _ begins.0 (subst (λ n. offsets_rise_to n first
          (offsets ++ n ∷ []) ≡ true) (sym long) (rise_more (length bytes) (length item) first offsets begins.1)));
      short = subst (λ n. has_long_step (first ∷ (offsets ++ n ∷ [])) ≡ false) (sym long)
          (short_more (length bytes) (length item) first offsets small begins.1 all.short);
    }

pub more_elements : (number : ℕ) (bytes offsets item : List ℕ) → AreValues number bytes offsets → elements_between
    (offsets ++ length (bytes ++ item) ∷ []) (bytes ++ item) ≡ elements_between offsets bytes ++ of_bytes item ∷ []
more_elements number bytes [] item all = absurd (let no = all.rise in cc)
more_elements number bytes (first ∷ offsets) item all =
    let counted =
    and_parts (length offsets == number) ((first == 0) && offsets_rise_to (length bytes) first offsets) all.rise in
    let begins = and_parts (first == 0) (offsets_rise_to (length bytes) first offsets) counted.1 in
    ap (λ n. map of_bytes (between_offsets (first ∷ (offsets ++ n ∷ [])) (bytes ++ item))) (length-append bytes item)
    ∙ (ap (map of_bytes) (between_more bytes item first offsets begins.1)
    ∙ map-append of_bytes (between_offsets (first ∷ offsets) bytes) (item ∷ []))

mapped_on : (front : List Element) (element : Element) (o : Option (List Element)) → option_map (λ es.
    (front ++ element ∷ []) ++ es) o ≡ option_map (λ es. front ++ es) (option_map (λ es. element ∷ es) o)
mapped_on front element None = refl
mapped_on front element (Some es) = ap Some (append_assoc front (element ∷ []) es)

pub one_more : (left number : ℕ) (items behind item bytes offsets : List ℕ) (all : Option (List Element)) → 0 < left →
    AreValues number bytes offsets → IsFirstItem items item behind →
    option_map (λ es. elements_between offsets bytes ++ es) (decode_items left items) ≡ all →
    option_map (λ es. elements_between (offsets ++ length (bytes ++ item) ∷ []) (bytes ++ item)
    ++ es) (decode_items (left - 1) behind) ≡ all
one_more zero number items behind item bytes offsets all some values first so_far = absurd (omega (arith, some))
one_more (suc k) number items behind item bytes offsets all some values first so_far =
    let one : suc k - 1 ≡ k = omega arith in
    ap (λ n. option_map
    (λ es. elements_between (offsets ++ length (bytes ++ item) ∷ []) (bytes ++ item) ++ es) (decode_items n behind)) one
    ∙ (ap (λ front. option_map (λ es. front ++ es) (decode_items k behind))
    (more_elements number bytes offsets item values)
    ∙ (mapped_on (elements_between offsets bytes) (of_bytes item) (decode_items k behind)
    ∙ (ap (option_map (λ es. elements_between offsets bytes ++ es)) (sym (first.decoded k)) ∙ so_far)))

-- an item that is missing
pub no_length : (items : List ℕ) (k : ℕ) → length items < 4 → decode_items (suc k) items ≡ None
no_length items k short =
    cond-false _ _ _ (lt-leb (4 + number_of_bytes (take 4 items)) (length items) (omega (arith, short)))

pub no_item : (items behind : List ℕ) (size k : ℕ) → size ≡ number_of_bytes (take 4 items) →
    length behind + 4 ≡ length items → length behind < size → decode_items (suc k) items ≡ None
no_item items behind size k is long short =
    cond-false _ _ _ (lt-leb (4 + number_of_bytes (take 4 items)) (length items) (omega (arith, is, long, short)))

pub first_item : (items behind item rest : List ℕ) (size : ℕ) → size < 2 ^ 32 → size ≡ number_of_bytes (take 4 items) →
    behind ≡ drop 4 items → length behind + 4 ≡ length items → IsSplitAt behind size item rest →
    IsFirstItem items item rest
first_item items behind item rest size small is cut long split = record {
  short = omega (arith, split.3, small);
  decoded = λ k.
      let fits : 4 + number_of_bytes (take 4 items) ≤ length items = omega (arith, is, long, split.0) in
      cond-true _ _ _ (le-leb (4 + number_of_bytes (take 4 items)) (length items) fits)
      ∙ (ap (λ n. option_map
      (λ elements. of_bytes (take n (drop 4 items)) ∷ elements) (decode_items k (drop (4 + n) items))) (sym is)
      ∙ ap₂ (λ v r. option_map (λ elements. of_bytes v ∷ elements) (decode_items k r))
      (ap (take size) (sym cut) ∙ sym split.1)
      (sym (drop-drop size 4 items) ∙ (ap (drop size) (sym cut) ∙ sym split.2)));
}

-- a number that is missing, or another one
pub no_number : (elements : ℕ) (value : List ℕ) → length value < 4 → decode_vlen elements value ≡ None
no_number elements value short = ap (λ b. if b && (number_of_bytes (take 4 value) == elements) then decode_items
    elements (drop 4 value) else None) (lt-leb 4 (length value) short)

pub other_number : (elements number : ℕ) (value behind : List ℕ) → length behind + 4 ≡ length value →
    number ≡ number_of_bytes (take 4 value) → ¬ (number ≡ elements) → decode_vlen elements value ≡ None
other_number elements number value behind long is other =
    ap₂ (λ a b. if a && b then decode_items elements (drop 4 value) else None) (le-leb 4 (length value)
    (omega (arith, long))) (ne_eqb (number_of_bytes (take 4 value)) elements (λ e. other (is ∙ e)))

pub same_number : (elements number : ℕ) (value behind : List ℕ) → length behind + 4 ≡ length value →
    number ≡ number_of_bytes (take 4 value) → number ≡ elements → behind ≡ drop 4 value →
    decode_vlen elements value ≡ decode_items elements behind
same_number elements number value behind long is same cut =
    ap₂ (λ a b. if a && b then decode_items elements (drop 4 value) else None)
    (le-leb 4 (length value) (omega (arith, long))) (eq-eqb (number_of_bytes (take 4 value)) elements (sym is ∙ same))
    ∙ ap (decode_items elements) (sym cut)

pub held_items : (elements : ℕ) (value behind bytes offsets : List ℕ) → decode_vlen elements value ≡
    decode_items elements behind → HoldsItems elements behind bytes offsets → HoldsElements elements value bytes offsets
held_items elements value behind bytes offsets same holds =
    record { decoded = same ∙ holds.decoded; values = holds.values }

-- a walk over the offsets behind the first one
drop_next : (rest : List ℕ) (i : ℕ) → i < length rest → drop i rest ≡ slice_index_or rest i 0 ∷ drop (i + 1) rest
drop_next rest i some = let one : suc i ≡ i + 1 = omega arith in
    drop-cons rest i 0 some ∙ ap (λ n. slice_index_or rest i 0 ∷ drop n rest) one

pub step_values : (value rest : List ℕ) (i from : ℕ) → i < length rest → AreBetween value from (drop i rest) →
    AreBetween value from (slice_index_or rest i 0 ∷ drop (i + 1) rest)
step_values value rest i from some all = subst (AreBetween value from) (drop_next rest i some) all

pub step_items : (out new all value rest : List ℕ) (i from : ℕ) → i < length rest →
    out ++ items_of (between_offsets (from ∷ drop i rest) value) ≡ all →
    new ≡ out ++ items_of (take (slice_index_or rest i 0 - from) (drop from value) ∷ []) →
    new ++ items_of (between_offsets (slice_index_or rest i 0 ∷ drop (i + 1) rest) value) ≡ all
step_items out new all value rest i from some so_far made =
    let to = slice_index_or rest i 0 in
    let piece = take (to - from) (drop from value) in
    let more = items_of (between_offsets (to ∷ drop (i + 1) rest) value) in
    let one : items_of (piece ∷ []) ≡ low_bytes 4 (length piece) ++ piece =
    append-nil (low_bytes 4 (length piece) ++ piece) in
    ap (λ front. front ++ more) (made ∙ ap (λ item. out ++ item) one)
    ∙ (append_assoc out (low_bytes 4 (length piece) ++ piece) more
    ∙ (ap (λ offsets. out ++ items_of (between_offsets (from ∷ offsets) value)) (sym (drop_next rest i some)) ∙ so_far))

-- no item there
pub none_left : (left : ℕ) (items bytes offsets : List ℕ) (all : Option (List Element)) → 0 < left →
    ((k : ℕ) → decode_items (suc k) items ≡ None) →
    option_map (λ es. elements_between offsets bytes ++ es) (decode_items left items) ≡ all → all ≡ None
none_left zero items bytes offsets all some none so_far = absurd (omega (arith, some))
none_left (suc k) items bytes offsets all some none so_far =
    sym so_far ∙ ap (option_map (λ es. elements_between offsets bytes ++ es)) (none k)

pub more_left : (left : ℕ) (items bytes offsets : List ℕ) (all : Option (List Element)) → left ≤ 0 → ¬ (length items ≡
    0) → option_map (λ es. elements_between offsets bytes ++ es) (decode_items left items) ≡ all → all ≡ None
more_left zero [] bytes offsets all over some so_far = absurd (some refl)
more_left zero (b ∷ items) bytes offsets all over some so_far = sym so_far
more_left (suc k) items bytes offsets all over some so_far = absurd (omega (arith, over))

pub all_taken : (left elements : ℕ) (items bytes offsets : List ℕ) (all : Option (List Element)) → left ≤ 0 →
    length items ≡ 0 → option_map (λ es. elements_between offsets bytes ++ es) (decode_items left items) ≡ all →
    all ≡ Some (elements_between offsets bytes)
all_taken zero elements [] bytes offsets all over none so_far =
    sym so_far ∙ ap Some (append-nil (elements_between offsets bytes))
all_taken zero elements (b ∷ items) bytes offsets all over none so_far = absurd (omega (arith, none))
all_taken (suc k) elements items bytes offsets all over none so_far = absurd (omega (arith, over))

pub next_decoded : (left elements : ℕ) (items behind item bytes offsets new_bytes new_offsets : List ℕ) (all :
    Option (List Element)) → 0 < left → AreValues (elements - left) bytes offsets → IsFirstItem items item behind →
    option_map (λ es. elements_between offsets bytes ++ es) (decode_items left items) ≡ all →
    new_bytes ≡ bytes ++ item → new_offsets ≡ offsets ++ length (bytes ++ item) ∷ [] →
    option_map (λ es. elements_between new_offsets new_bytes ++ es) (decode_items (left - 1) behind) ≡ all
next_decoded left elements items behind item bytes offsets new_bytes new_offsets all some values first so_far made
    ends =
    ap₂ (λ os bs. option_map (λ es. elements_between os bs ++ es) (decode_items (left - 1) behind)) ends made
    ∙ one_more left (elements - left) items behind item bytes offsets all some values first so_far

pub next_values : (left elements : ℕ) (item bytes offsets new_bytes new_offsets : List ℕ) → 0 < left → left ≤ elements →
    AreValues (elements - left) bytes offsets → length item < 2 ^ 32 →
    new_bytes ≡ bytes ++ item → new_offsets ≡ offsets ++ length (bytes ++ item) ∷ [] →
    AreValues (elements - (left - 1)) new_bytes new_offsets
next_values left elements item bytes offsets new_bytes new_offsets some most values small made ends =
    let count : elements - (left - 1) ≡ suc (elements - left) = omega (arith, some, most) in
    rw (count, made, ends) (more_values (elements - left) bytes offsets item values small)

-- what a value has is what the model says of it
values_of : (list : List (List ℕ)) → flat_map (λ element. low_bytes 4 (length (bytes_of element)) ++ bytes_of element)
    (map of_bytes list) ≡ items_of list
values_of [] = refl
values_of (value ∷ list) = ap (λ rest. (low_bytes 4 (length value) ++ value) ++ rest) (values_of list)

short_values : (value : List ℕ) (first : ℕ) (offsets : List ℕ) → AreBetween value first offsets →
    AllByRecursion (λ element. (element ≡ of_bytes (bytes_of element)) ×
    (length (bytes_of element) < 2 ^ 32)) (elements_between (first ∷ offsets) value)
short_values value first [] all = tt
short_values value first (to ∷ offsets) all =
    let step = step_within value first to offsets all in
    ((refl, omega (arith, step.2, length-take (to - first) (drop first value))), short_values value to offsets step.3)

-- what the value of some elements is, and that it decodes to them
pub value_is : (number : ℕ) (bytes offsets value : List ℕ) → AreValues number bytes offsets →
    value ≡ low_bytes 4 (length offsets - 1) ++ items_of (between_offsets offsets bytes) →
    value ≡ vlen_value (elements_between offsets bytes)
value_is number bytes [] value all made = absurd (let no = all.rise in cc)
value_is number bytes (first ∷ offsets) value all made =
    let count : length (first ∷ offsets) - 1 ≡ length (elements_between (first ∷ offsets) bytes) = omega (
      arith,
      length-map (between_offsets (first ∷ offsets) bytes) of_bytes,
      length-between_offsets first offsets bytes,
    ) in
    made ∙ ap₂ (λ n items. low_bytes 4 n ++ items) count (sym (values_of (between_offsets (first ∷ offsets) bytes)))

pub value_decodes : (number : ℕ) (bytes offsets : List ℕ) → AreValues number bytes offsets → number < 2 ^ 32 →
    decode_vlen number (vlen_value (elements_between offsets bytes)) ≡ Some (elements_between offsets bytes)
value_decodes number bytes [] all few = absurd (let no = all.rise in cc)
value_decodes number bytes (first ∷ offsets) all few =
    let counted =
    and_parts (length offsets == number) ((first == 0) && offsets_rise_to (length bytes) first offsets) all.rise in
    let elements = elements_between (first ∷ offsets) bytes in
    let count : length elements ≡ number = length-map (between_offsets (first ∷ offsets) bytes) of_bytes
    ∙ (length-between_offsets first offsets bytes ∙ eqb-true (length offsets) number counted.0) in
    subst (λ n. decode_vlen n (vlen_value elements) ≡ Some elements) count
    (decode_vlen-of elements (subst (λ n. n < 2 ^ 32) (sym count) few)
    (short_values bytes first offsets (between_first number first bytes offsets all)))
