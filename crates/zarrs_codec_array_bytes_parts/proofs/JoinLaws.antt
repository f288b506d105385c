-- Array bytes that are joined mean both lists, one behind the other, and no element of them is longer than it was.
use Rattle.std.proofs.Common.{◌≡◌, ℕ, zero, suc, ◌+◌, ◌-◌, ◌*◌, ◌^◌, ◌≤◌, ◌==◌, ◌&&◌, ◌||◌, true, false, nat_le}
use Rattle.std.proofs.Common.{List, [], ◌∷◌, ◌++◌, length, map, take, drop, Some, option_map, arith, ap}
use Rattle.std.proofs.Common.{ap₂, sym, refl, ◌∙◌, subst, eqb-true, eq-eqb}
use Rattle.std.specs.List.{list_all}
use Rattle.std.proofs.lemmas.Bool.{cond-true, and_parts, and_from, or_parts, leb-true, le-leb}
use Rattle.std.proofs.lemmas.Bool.Decides.{nat_tests}
use Rattle.std.proofs.lemmas.List.{length-map, length-append, length-drop, take-append-le, drop-append-le, map-append}
use Rattle.std.proofs.Math.Nat.{suc-mul, add-mul}
use Rattle.zarr_model.specs.Element.{Element, of_bytes, Kind, fixed, variable, optional}
use Rattle.zarr_model.specs.ArrayBytes.{ArrayBytes, fixed_bytes, variable_bytes, optional_bytes, pieces}
use Rattle.zarr_model.specs.ArrayBytes.{between_offsets, offsets_rise_to, are_offsets, is_mask, mask_over, meaning}
use Rattle.zarr_model.specs.Command.{has_long_step, has_long_element}
use Rattle.zarr_model.proofs.BytesLaws.{when_some, length-meaning, mask_length}
use Rattle.zarr_model.proofs.ListLaws.{list_all_joined, mask_over-append}
use Rattle.zarr_model.proofs.RefusalLaws.{rise_within}
use Rattle.zarrs_codec_slices.proofs.MaskLaws.{masked_parts}
use Rattle.zarrs_codec_array_bytes_parts.specs.Joined.{bytes_joined, joined_offsets}

-- elements of one size
pieces-append : (n k m : ℕ) (value more : List ℕ) → length value ≡ k * n →
    pieces (k + m) n (value ++ more) ≡ pieces k n value ++ pieces m n more
pieces-append n zero m [] more e = ap (λ j. pieces j n more) (let none : 0 + m ≡ m = omega arith in none)
pieces-append n zero m (x ∷ value) more e = absurd (omega (arith, e))
pieces-append n (suc k) m value more e =
    let long : n ≤ length value = omega (arith, e, suc-mul k n) in
    ap (λ j. pieces j n (value ++ more)) (let one : suc k + m ≡ suc (k + m) = omega arith in one)
    ∙ ap₂ (λ a b. a ∷ b) (take-append-le n value more long)
    (ap (pieces (k + m) n) (drop-append-le n value more long)
    ∙ pieces-append n k m (drop n value) more (omega (arith, length-drop n value, e, suc-mul k n)))

-- offsets
rise-shift : (place end from : ℕ) (offsets : List ℕ) → offsets_rise_to end from offsets ≡ true →
    offsets_rise_to (place + end) (place + from) (map (λ offset. place + offset) offsets) ≡ true
rise-shift place end from [] e = let same : from ≡ end = eqb-true from end e in
    eq-eqb (place + from) (place + end) (ap (λ n. place + n) same)
rise-shift place end from (to ∷ offsets) e =
    let parts = and_parts (nat_le from to) (offsets_rise_to end to offsets) e in
    let rises : from ≤ to = leb-true _ _ parts.0 in
    and_from (nat_le (place + from) (place + to)) (offsets_rise_to (place + end) (place + to) (map (λ offset. place
    + offset) offsets)) (le-leb (place + from) (place + to) (omega arith)) (rise-shift place end to offsets parts.1)

rise-append : (place end first : ℕ) (from to : List ℕ) → offsets_rise_to place first from ≡ true → offsets_rise_to end 0
    to ≡ true → offsets_rise_to (place + end) first (from ++ map (λ offset. place + offset) to) ≡ true
rise-append place end first [] to e f =
    let same : first ≡ place = eqb-true first place e in
    subst (λ n. offsets_rise_to (place + end) n (map (λ offset. place + offset) to) ≡ true) (let turned : place + 0 ≡
    first = omega arith in turned) (rise-shift place end 0 to f)
rise-append place end first (next ∷ from) to e f =
    let parts = and_parts (nat_le first next) (offsets_rise_to place next from) e in
    and_from (nat_le first next) (offsets_rise_to (place + end) next (from ++ map (λ offset. place + offset) to))
    parts.0 (rise-append place end next from to parts.1 f)

drop-past : (value more : List ℕ) (place : ℕ) → drop (length value + place) (value ++ more) ≡ drop place more
drop-past [] more place = ap (λ n. drop n more) (let none : 0 + place ≡ place = omega arith in none)
drop-past (x ∷ value) more place =
    ap (λ n. drop n (x ∷ (value ++ more))) (let one : suc (length value) + place ≡ suc (length value + place) =
    omega arith in one) ∙ drop-past value more place

between-shift : (value more to : List ℕ) →
    between_offsets (map (λ offset. length value + offset) to) (value ++ more) ≡ between_offsets to more
between-shift value more [] = refl
between-shift value more (from ∷ []) = refl
between-shift value more (from ∷ next ∷ to) =
    ap₂ (λ a b. a ∷ b)
    (ap₂ (λ n rest. take n rest) (let same : length value + next - (length value + from) ≡ next - from = omega arith in
    same) (drop-past value more from))
    (between-shift value more (next ∷ to))

between-append : (value more : List ℕ) (first : ℕ) (from to : List ℕ) →
    offsets_rise_to (length value) first from ≡ true →
    between_offsets (first ∷ (from ++ map (λ offset. length value + offset) to)) (value ++ more) ≡
    between_offsets (first ∷ from) value ++ between_offsets (0 ∷ to) more
between-append value more first [] to e =
    let same : first ≡ length value + 0 =
    eqb-true first (length value) e ∙ (let none : length value ≡ length value + 0 = omega arith in none) in
    ap (λ n. between_offsets (n ∷ map (λ offset. length value + offset) to) (value ++ more)) same
    ∙ between-shift value more (0 ∷ to)
between-append value more first (next ∷ from) to e =
    let parts = and_parts (nat_le first next) (offsets_rise_to (length value) next from) e in
    let rises : first ≤ next = leb-true _ _ parts.0 in
    let within : next ≤ length value = rise_within (length value) next from parts.1 in
    ap₂ (λ a b. a ∷ b)
    (ap (take (next - first)) (drop-append-le first value more (omega arith))
    ∙ take-append-le (next - first) (drop first value) more (omega (arith, length-drop first value)))
    (between-append value more next from to parts.1)

both_masks : (n m : ℕ) (mask over : List ℕ) → is_mask n mask ≡ true → is_mask m over ≡ true →
    is_mask (n + m) (mask ++ over) ≡ true
both_masks n m mask over e f =
    let flags =
    λ (k : ℕ) (l : List ℕ) (h : is_mask k l ≡ true). (and_parts (length l == k) (list_all (λ b. nat_le b 1) l) h).1 in
    and_from (length (mask ++ over) == n + m) (list_all (λ b. nat_le b 1) (mask ++ over))
    (eq-eqb _ _ (length-append mask over ∙ ap₂ (λ p q. p + q) (mask_length n mask e) (mask_length m over f)))
    (list_all_joined (λ b. nat_le b 1) mask over (flags n mask e) (flags m over f))

both_offsets : (n m : ℕ) (value more from to : List ℕ) → are_offsets n (length value) from ≡ true →
    are_offsets m (length more) to ≡ true →
    (are_offsets (n + m) (length (value ++ more)) (joined_offsets (length value) from to) ≡ true)
    × (between_offsets (joined_offsets (length value) from to) (value ++ more) ≡
    between_offsets from value ++ between_offsets to more)
both_offsets n m value more [] to e f = cc
both_offsets n m value more (first ∷ from) [] e f = cc
both_offsets n m value more (first ∷ from) (start ∷ to) e f =
    let a = and_parts (length from == n) ((first == 0) && offsets_rise_to (length value) first from) e in
    let b = and_parts (length to == m) ((start == 0) && offsets_rise_to (length more) start to) f in
    let c = and_parts (first == 0) (offsets_rise_to (length value) first from) a.1 in
    let d = and_parts (start == 0) (offsets_rise_to (length more) start to) b.1 in
    let zero_start : start ≡ 0 = eqb-true start 0 d.0 in
    let rises : offsets_rise_to (length more) 0 to ≡ true =
    subst (λ k. offsets_rise_to (length more) k to ≡ true) zero_start d.1 in
    let moved = map (λ offset. length value + offset) to in
    let many : length from ≡ n = eqb-true (length from) n a.0 in
    let others : length to ≡ m = eqb-true (length to) m b.0 in
    let as_many : length (from ++ moved) ≡ n + m =
    length-append from moved ∙ ap₂ (λ p q. p + q) many (length-map to (λ offset. length value + offset) ∙ others) in (
      and_from (length (from ++ moved) == n + m) ((first == 0)
          && offsets_rise_to (length (value ++ more)) first (from ++ moved)) (eq-eqb _ _ as_many)
          (and_from (first == 0) (offsets_rise_to (length (value ++ more)) first (from ++ moved)) c.0
          (subst (λ k. offsets_rise_to k first (from ++ moved) ≡ true) (sym (length-append value more))
          (rise-append (length value) (length more) first from to c.1 rises))),
      between-append value more first from to c.1
          ∙ ap (λ k. between_offsets (first ∷ from) value ++ between_offsets (k ∷ to) more) (sym zero_start),
    )

-- joined array bytes mean the one list behind the other
pub joined_means : (kind : Kind) (n m : ℕ) (first second : ArrayBytes) (xs ys : List Element) →
    meaning kind n first ≡ Some xs → meaning kind m second ≡ Some ys →
    meaning kind (n + m) (bytes_joined first second) ≡ Some (xs ++ ys)
joined_means (fixed size) n m (fixed_bytes value) (fixed_bytes more) xs ys e f =
    let a = when_some (length value == n * size) (map of_bytes (pieces n size value)) xs e in
    let b = when_some (length more == m * size) (map of_bytes (pieces m size more)) ys f in
    let long : length value ≡ n * size = eqb-true _ _ a.0 in
    cond-true (length (value ++ more) == (n + m) * size) _ _
    (eq-eqb _ _ (length-append value more ∙ (ap₂ (λ p q. p + q) long (eqb-true _ _ b.0) ∙ sym (add-mul n m size))))
    ∙ ap Some (ap (map of_bytes) (pieces-append size n m value more long)
    ∙ (map-append of_bytes (pieces n size value) (pieces m size more) ∙ ap₂ (λ p q. p ++ q) a.1 b.1))
joined_means (fixed size) n m (fixed_bytes value) (variable_bytes more to) xs ys e f = cc
joined_means (fixed size) n m (fixed_bytes value) (optional_bytes more over) xs ys e f = cc
joined_means (fixed size) n m (variable_bytes value from) second xs ys e f = cc
joined_means (fixed size) n m (optional_bytes under mask) second xs ys e f = cc
joined_means variable n m (variable_bytes value from) (variable_bytes more to) xs ys e f =
    let a = when_some (are_offsets n (length value) from) (map of_bytes (between_offsets from value)) xs e in
    let b = when_some (are_offsets m (length more) to) (map of_bytes (between_offsets to more)) ys f in
    let all = both_offsets n m value more from to a.0 b.0 in
    cond-true (are_offsets (n + m) (length (value ++ more)) (joined_offsets (length value) from to)) _ _ all.0
    ∙ ap Some (ap (map of_bytes) all.1
    ∙ (map-append of_bytes (between_offsets from value) (between_offsets to more) ∙ ap₂ (λ p q. p ++ q) a.1 b.1))
joined_means variable n m (variable_bytes value from) (fixed_bytes more) xs ys e f = cc
joined_means variable n m (variable_bytes value from) (optional_bytes more over) xs ys e f = cc
joined_means variable n m (fixed_bytes value) second xs ys e f = cc
joined_means variable n m (optional_bytes under mask) second xs ys e f = cc
joined_means (optional kind) n m (optional_bytes under mask) (optional_bytes more over) xs ys e f =
    let a = masked_parts kind n mask under xs e in
    let b = masked_parts kind m over more ys f in
    cond-true (is_mask (n + m) (mask ++ over)) _ _ (both_masks n m mask over a.mask_is b.mask_is)
    ∙ (ap (option_map (mask_over (mask ++ over))) (joined_means kind n m under more a.list b.list a.inner b.inner)
    ∙ ap Some (mask_over-append mask over a.list b.list (mask_length n mask a.mask_is
    ∙ sym (length-meaning kind n under a.list a.inner)) ∙ ap₂ (λ p q. p ++ q) a.over b.over))
joined_means (optional kind) n m (optional_bytes under mask) (fixed_bytes more) xs ys e f = cc
joined_means (optional kind) n m (optional_bytes under mask) (variable_bytes more to) xs ys e f = cc
joined_means (optional kind) n m (fixed_bytes value) second xs ys e f = cc
joined_means (optional kind) n m (variable_bytes value from) second xs ys e f = cc

-- offsets that are moved on, and those of a piece behind others
moved_step : (place from to : ℕ) → nat_le (from + 2 ^ 32) to ≡ false →
    nat_le (place + from + 2 ^ 32) (place + to) ≡ false
moved_step place from to e = grind (arith, nat_tests)

moved_steps : (place : ℕ) (offsets : List ℕ) → has_long_step offsets ≡ false →
    has_long_step (map (λ offset. place + offset) offsets) ≡ false
moved_steps place [] e = refl
moved_steps place (from ∷ []) e = refl
moved_steps place (from ∷ to ∷ offsets) e =
    let parts = or_parts (nat_le (from + 2 ^ 32) to) (has_long_step (to ∷ offsets)) e in
    ap (λ b. b || has_long_step (map (λ offset. place + offset) (to ∷ offsets))) (moved_step place from to parts.0)
    ∙ moved_steps place (to ∷ offsets) parts.1

joined_steps : (place first : ℕ) (from to : List ℕ) → offsets_rise_to place first from ≡ true →
    has_long_step (first ∷ from) ≡ false → has_long_step (0 ∷ to) ≡ false →
    has_long_step (first ∷ (from ++ map (λ offset. place + offset) to)) ≡ false
joined_steps place first [] to e a b =
    let same : first ≡ place + 0 = eqb-true first place e ∙ (let none : place ≡ place + 0 = omega arith in none) in
    ap (λ n. has_long_step (n ∷ map (λ offset. place + offset) to)) same ∙ moved_steps place (0 ∷ to) b
joined_steps place first (next ∷ from) to e a b =
    let rises = and_parts (nat_le first next) (offsets_rise_to place next from) e in
    let parts = or_parts (nat_le (first + 2 ^ 32) next) (has_long_step (next ∷ from)) a in
    ap (λ b. b || has_long_step (next ∷ (from ++ map (λ offset. place + offset) to))) parts.0
    ∙ joined_steps place next from to rises.1 parts.1 b

offsets_short : (n m place end : ℕ) (from to : List ℕ) → are_offsets n place from ≡ true → are_offsets m end to ≡ true →
    has_long_step from ≡ false → has_long_step to ≡ false →
    has_long_step (joined_offsets place from to) ≡ false
offsets_short n m place end [] to e f a b = cc
offsets_short n m place end (first ∷ from) [] e f a b = cc
offsets_short n m place end (first ∷ from) (start ∷ to) e f a b =
    let rises = and_parts (first == 0) (offsets_rise_to place first from)
    (and_parts (length from == n) ((first == 0) && offsets_rise_to place first from) e).1 in
    let starts = and_parts (start == 0) (offsets_rise_to end start to)
    (and_parts (length to == m) ((start == 0) && offsets_rise_to end start to) f).1 in
    joined_steps place first from to rises.1 a
    (subst (λ n. has_long_step (n ∷ to) ≡ false) (eqb-true start 0 starts.0) b)

pub joined_short : (kind : Kind) (n m : ℕ) (first second : ArrayBytes) (xs ys : List Element) →
    meaning kind n first ≡ Some xs → meaning kind m second ≡ Some ys →
    has_long_element first ≡ false → has_long_element second ≡ false →
    has_long_element (bytes_joined first second) ≡ false
joined_short (fixed size) n m (fixed_bytes value) (fixed_bytes more) xs ys e f a b = refl
joined_short (fixed size) n m (fixed_bytes value) (variable_bytes more to) xs ys e f a b = a
joined_short (fixed size) n m (fixed_bytes value) (optional_bytes more over) xs ys e f a b = a
joined_short (fixed size) n m (variable_bytes value from) second xs ys e f a b = cc
joined_short (fixed size) n m (optional_bytes under mask) second xs ys e f a b = cc
joined_short variable n m (variable_bytes value from) (variable_bytes more to) xs ys e f a b =
    offsets_short n m (length value) (length more) from to
    (when_some (are_offsets n (length value) from) (map of_bytes (between_offsets from value)) xs e).0
    (when_some (are_offsets m (length more) to) (map of_bytes (between_offsets to more)) ys f).0 a b
joined_short variable n m (variable_bytes value from) (fixed_bytes more) xs ys e f a b = a
joined_short variable n m (variable_bytes value from) (optional_bytes more over) xs ys e f a b = a
joined_short variable n m (fixed_bytes value) second xs ys e f a b = cc
joined_short variable n m (optional_bytes under mask) second xs ys e f a b = cc
joined_short (optional kind) n m (optional_bytes under mask) (optional_bytes more over) xs ys e f a b =
    let below = masked_parts kind n mask under xs e in
    let above = masked_parts kind m over more ys f in
    joined_short kind n m under more below.list above.list below.inner above.inner a b
joined_short (optional kind) n m (optional_bytes under mask) (fixed_bytes more) xs ys e f a b = a
joined_short (optional kind) n m (optional_bytes under mask) (variable_bytes more to) xs ys e f a b = a
joined_short (optional kind) n m (fixed_bytes value) second xs ys e f a b = cc
joined_short (optional kind) n m (variable_bytes value from) second xs ys e f a b = cc
