-- What is gathered means the elements that are picked.
use Rattle.std.proofs.Common.{◌≡◌, ℕ, zero, suc, ◌+◌, ◌-◌, ◌*◌, ◌<◌, ◌≤◌, Bool, true, false, nat_lt, nat_le, ◌==◌}
use Rattle.std.proofs.Common.{if◌then◌else◌, List, [], ◌∷◌, ◌++◌, length, take, drop, map, get_or, Option, Some, None}
use Rattle.std.proofs.Common.{option_map, arith, ap, ap₂, sym, refl, ◌∙◌, subst, eq-eqb, inl, inr, ◌⊎◌}
use Rattle.std.specs.List.{flat_map, list_all}
use Rattle.std.proofs.lemmas.Bool.{and_parts, and_from, cond-true, cond-false, cases_lt}
use Rattle.std.proofs.lemmas.Bool.Decides.{nat_tests}
use Rattle.std.proofs.lemmas.List.{length-map, get_or_append_left, get_or-append_right, length-take-le, length-drop}
use Rattle.std.proofs.lemmas.List.{length-append, drop_more}
use Rattle.zarr_model.specs.Element.{Element, of_bytes, null, Kind, fixed, variable, optional, fixed_size}
use Rattle.zarr_model.specs.ArrayBytes.{ArrayBytes, fixed_bytes, variable_bytes, optional_bytes, is_mask, masked}
use Rattle.zarr_model.specs.ArrayBytes.{mask_over, meaning}
use Rattle.zarr_model.proofs.BytesLaws.{length-meaning, mask_length}
use Rattle.zarr_model.proofs.ListLaws.{list_all-at, list_all_joined, mask_over-append}
use Rattle.zarrs_codec_slices.specs.Picking.{AllBelow, piece_of, value_of, picked, picked_piece, picked_value, gathered}
use Rattle.zarrs_codec_slices.specs.Picking.{size_in, replaced}
use Rattle.zarrs_codec_slices.proofs.PieceLaws.{piece_ends}
use Rattle.zarrs_codec_slices.proofs.LeafLaws.{below_rest, map_below, pick_of, fixed_at, fixed_long, variable_at}
use Rattle.zarrs_codec_slices.proofs.LeafLaws.{joined_fixed, joined_variable}
use Rattle.zarrs_codec_slices.proofs.ReplaceLaws.{picks_below, length-picks, picked-picks}
use Rattle.std.specs.List.{range_with_len}

is_below : (w number : ℕ) → w < number → nat_lt w number ≡ true
is_below w number low = grind (arith, nat_tests)

not_below : (w number : ℕ) → number ≤ w → nat_lt w number ≡ false
not_below w number high = grind (arith, nat_tests)

-- a picked element of bytes of one length
piece_long : (n number i : ℕ) (value : List ℕ) → length value ≡ number * n → i < number →
    length (piece_of n value i) ≡ n
piece_long n number i value long h =
    length-take-le n (drop (i * n) value)
    (omega (arith, length-drop (i * n) value, piece_ends i number n (length value) h long))

picked_long : (n number m : ℕ) (old new : List ℕ) → length old ≡ number * n → length new ≡ m * n → (w : ℕ) →
    w < number + m → length (picked_piece n number old new w) ≡ n
picked_long n number m old new old_long new_long w h = go (cases_lt w number)
  where
    go : (w < number) ⊎ (number ≤ w) → length (picked_piece n number old new w) ≡ n
    go (inl low) = ap length (cond-true (nat_lt w number) (piece_of n old w)
        (piece_of n new (w - number)) (is_below w number low)) ∙ piece_long n number w old old_long low
    go (inr high) = ap length (cond-false (nat_lt w number) (piece_of n old w) (piece_of n new
        (w - number)) (not_below w number high)) ∙ piece_long n m (w - number) new new_long (omega (arith, h, high))

-- elements that are bytes by a function of their place, in two lists
module _ (number m : ℕ) (xs ys : List Element) (f g : ℕ → List ℕ) (xs_long : length xs ≡ number)
    (old_at : (i : ℕ) → i < number → get_or xs i null ≡ of_bytes (f i))
    (new_at : (i : ℕ) → i < m → get_or ys i null ≡ of_bytes (g i)) where
  chosen_at : (w : ℕ) → w < number + m →
      get_or (xs ++ ys) w null ≡ of_bytes (if nat_lt w number then f w else g (w - number))
  chosen_at w h = pick_of null xs ys number w xs_long ∙ go (cases_lt w number)
    where
      go : (w < number) ⊎ (number ≤ w) → (if nat_lt w number then get_or xs w null else get_or ys (w - number) null) ≡
          of_bytes (if nat_lt w number then f w else g (w - number))
      go (inl low) = cond-true (nat_lt w number) _ _ (is_below w number low) ∙ (old_at w low
          ∙ ap of_bytes (sym (cond-true (nat_lt w number) (f w) (g (w - number)) (is_below w number low))))
      go (inr high) =
          cond-false (nat_lt w number) _ _ (not_below w number high) ∙ (new_at (w - number) (omega (arith, h, high))
          ∙ ap of_bytes (sym (cond-false (nat_lt w number) (f w) (g (w - number)) (not_below w number high))))

  pub chosen : (picks : List ℕ) → AllBelow (number + m) picks →
      map (λ w. of_bytes (if nat_lt w number then f w else g (w - number))) picks ≡ picked null picks (xs ++ ys)
  chosen picks all = sym (map_below (λ w. get_or (xs ++ ys) w null)
      (λ w. of_bytes (if nat_lt w number then f w else g (w - number))) (number + m) picks chosen_at all)

-- masks
picked-flags : (f : ℕ → Bool) (xs picks : List ℕ) → list_all f xs ≡ true → AllBelow (length xs) picks →
    list_all f (picked 0 picks xs) ≡ true
picked-flags f xs [] a all = refl
picked-flags f xs (p ∷ picks) a all = and_from (f (get_or xs p 0)) (list_all f (picked 0 picks xs))
    (list_all-at f xs p a (all 0 (omega arith))) (picked-flags f xs picks a (below_rest (length xs) p picks all))

pub get_or-mask_over : (mask : List ℕ) (xs : List Element) (i : ℕ) → length mask ≡ length xs → i < length mask →
    get_or (mask_over mask xs) i null ≡ masked (get_or mask i 0) (get_or xs i null)
get_or-mask_over [] xs i e h = absurd (omega arith)
get_or-mask_over (b ∷ mask) [] i e h = absurd (omega (arith, e))
get_or-mask_over (b ∷ mask) (x ∷ xs) zero e h = refl
get_or-mask_over (b ∷ mask) (x ∷ xs) (suc i) e h = get_or-mask_over mask xs i (omega (arith, e)) (omega (arith, h))

picked-mask_over : (mask : List ℕ) (xs : List Element) (picks : List ℕ) → length mask ≡ length xs →
    AllBelow (length mask) picks →
    mask_over (picked 0 picks mask) (picked null picks xs) ≡ picked null picks (mask_over mask xs)
picked-mask_over mask xs [] e all = refl
picked-mask_over mask xs (p ∷ picks) e all = ap₂ (λ a b. a ∷ b) (sym (get_or-mask_over mask xs p e
    (all 0 (omega arith)))) (picked-mask_over mask xs picks e (below_rest (length mask) p picks all))

-- single bytes
one_piece : (value : List ℕ) (i : ℕ) → i < length value → piece_of 1 value i ≡ get_or value i 0 ∷ []
one_piece value i h =
    ap (λ m. take 1 (drop m value)) (let e : i * 1 ≡ i = omega arith in e) ∙ ap (take 1) (drop_more value i 0 h)

picked_bytes : (number m : ℕ) (mask over picks : List ℕ) → length mask ≡ number → length over ≡ m →
    AllBelow (number + m) picks → flat_map (picked_piece 1 number mask over) picks ≡ picked 0 picks (mask ++ over)
picked_bytes number m mask over [] e f all = refl
picked_bytes number m mask over (p ∷ picks) e f all = ap₂ (λ a b. a ++ b) (one (cases_lt p number))
    (picked_bytes number m mask over picks e f (below_rest (number + m) p picks all))
  where
    one : (p < number) ⊎ (number ≤ p) → picked_piece 1 number mask over p ≡ get_or (mask ++ over) p 0 ∷ []
    one (inl low) = cond-true (nat_lt p number) _ _ (is_below p number low) ∙ (one_piece mask p (subst (λ n. p
        < n) (sym e) low) ∙ ap (λ x. x ∷ []) (sym (get_or_append_left mask over 0 p (subst (λ n. p < n) (sym e) low))))
    one (inr high) =
        let here : p < number + m = all 0 (omega arith) in
        cond-false (nat_lt p number) _ _ (not_below p number high) ∙ (one_piece over (p - number)
        (omega (arith, here, high, f)) ∙ ap (λ x. x ∷ []) (sym (get_or-append_right mask over number p 0 e high)))

-- what is gathered means the elements that are picked
pub gathered_means : (kind : Kind) (number m : ℕ) (picks : List ℕ) (old new : ArrayBytes) (xs ys : List Element) →
    AllBelow (number + m) picks →
    meaning kind number old ≡ Some xs → meaning kind m new ≡ Some ys → meaning kind (length picks)
    (gathered (size_in (fixed_size kind)) number picks old new) ≡ Some (picked null picks (xs ++ ys))
gathered_means (fixed n) number m picks (fixed_bytes old) (fixed_bytes new) xs ys all e f =
    joined_fixed (picked_piece n number old new) n (number + m) picks
    (picked_long n number m old new (fixed_long n number old xs e) (fixed_long n m new ys f)) all
    ∙ ap Some (chosen number m xs ys (piece_of n old) (piece_of n new) (length-meaning (fixed n) number
    (fixed_bytes old) xs e) (fixed_at n number old xs e) (fixed_at n m new ys f) picks all)
gathered_means (fixed n) number m picks (fixed_bytes old) (variable_bytes new to) xs ys all e f = cc
gathered_means (fixed n) number m picks (fixed_bytes old) (optional_bytes new over) xs ys all e f = cc
gathered_means (fixed n) number m picks (variable_bytes old from) new xs ys all e f = cc
gathered_means (fixed n) number m picks (optional_bytes old mask) new xs ys all e f = cc
gathered_means variable number m picks (variable_bytes old from) (variable_bytes new to) xs ys all e f =
    joined_variable (picked_value number old from new to) picks
    ∙ ap Some (chosen number m xs ys (value_of old from) (value_of new to) (length-meaning variable number
    (variable_bytes old from) xs e) (variable_at number old from xs e) (variable_at m new to ys f) picks all)
gathered_means variable number m picks (variable_bytes old from) (fixed_bytes new) xs ys all e f = cc
gathered_means variable number m picks (variable_bytes old from) (optional_bytes new over) xs ys all e f = cc
gathered_means variable number m picks (fixed_bytes old) new xs ys all e f = cc
gathered_means variable number m picks (optional_bytes old mask) new xs ys all e f = cc
gathered_means (optional kind) number m picks (fixed_bytes old) new xs ys all e f = cc
gathered_means (optional kind) number m picks (variable_bytes old from) new xs ys all e f = cc
gathered_means (optional kind) number m picks (optional_bytes old mask) (fixed_bytes new) xs ys all e f = cc
gathered_means (optional kind) number m picks (optional_bytes old mask) (variable_bytes new to) xs ys all e f = cc
gathered_means (optional kind) number m picks (optional_bytes old mask) (optional_bytes new over) xs ys all e f =
    let a = when_optional number mask (meaning kind number old) xs e in
    let b = when_optional m over (meaning kind m new) ys f in
    joined a.0 b.0 a.1 b.1 a.2 b.2 a.3 b.3 (gathered_means kind number m picks old new a.0 b.0 all a.2 b.2)
  where
    when_optional : (k : ℕ) (mask : List ℕ) (inner : Option (List Element)) (zs : List Element) →
        (if is_mask k mask then option_map (mask_over mask) inner else None) ≡ Some zs →
        (list : List Element) × (is_mask k mask ≡ true) × (inner ≡ Some list) × (mask_over mask list ≡ zs)
    when_optional k mask inner zs e = go (is_mask k mask) refl inner refl e
      where
        go : (t : Bool) → is_mask k mask ≡ t → (o : Option (List Element)) → inner ≡ o →
            (if t then option_map (mask_over mask) o else None) ≡ Some zs →
            (list : List Element) × (is_mask k mask ≡ true) × (inner ≡ Some list) × (mask_over mask list ≡ zs)
        go false t o is e = cc
        go true t None is e = cc
        go true t (Some list) is e = (list, t, is, (let same : mask_over mask list ≡ zs = cc in same))

    joined : (list others : List Element) → is_mask number mask ≡ true → is_mask m over ≡ true →
        meaning kind number old ≡ Some list → meaning kind m new ≡ Some others →
        mask_over mask list ≡ xs → mask_over over others ≡ ys →
        meaning kind (length picks) (gathered (size_in (fixed_size kind)) number picks old new) ≡
        Some (picked null picks (list ++ others)) →
        (if is_mask (length picks) (flat_map (picked_piece 1 number mask over) picks)
        then option_map (mask_over (flat_map (picked_piece 1 number mask over) picks))
        (meaning kind (length picks) (gathered (size_in (fixed_size kind)) number picks old new)) else None)
        ≡ Some (picked null picks (xs ++ ys))
    joined list others is_old is_new old_is new_is xs_is ys_is inner =
        ap (λ flags. if is_mask (length picks) flags then option_map (mask_over flags)
        (meaning kind (length picks) (gathered (size_in (fixed_size kind)) number picks old new)) else None) flags_are
        ∙ (cond-true (is_mask (length picks) (picked 0 picks (mask ++ over))) _ _ still_mask
        ∙ (ap (option_map (mask_over (picked 0 picks (mask ++ over)))) inner
        ∙ ap Some (picked-mask_over (mask ++ over) (list ++ others) picks same_long within
        ∙ ap (λ l. picked null picks l) (mask_over-append mask over list others
        (old_long ∙ sym (length-meaning kind number old list old_is)) ∙ ap₂ (λ p q. p ++ q) xs_is ys_is))))
      where
        old_long : length mask ≡ number
        old_long = mask_length number mask is_old

        new_long : length over ≡ m
        new_long = mask_length m over is_new

        both_long : length (mask ++ over) ≡ number + m
        both_long = length-append mask over ∙ ap₂ (λ p q. p + q) old_long new_long

        same_long : length (mask ++ over) ≡ length (list ++ others)
        same_long = both_long ∙ sym (length-append list others
            ∙ ap₂ (λ p q. p + q) (length-meaning kind number old list old_is) (length-meaning kind m new others new_is))

        within : AllBelow (length (mask ++ over)) picks
        within = λ k h. subst (λ n. get_or picks k 0 < n) (sym both_long) (all k h)

        flags_are : flat_map (picked_piece 1 number mask over) picks ≡ picked 0 picks (mask ++ over)
        flags_are = picked_bytes number m mask over picks old_long new_long all

        flags : (k : ℕ) (list : List ℕ) → is_mask k list ≡ true → list_all (λ b. nat_le b 1) list ≡ true
        flags k list h = (and_parts (length list == k) (list_all (λ b. nat_le b 1) list) h).1

        still_mask : is_mask (length picks) (picked 0 picks (mask ++ over)) ≡ true
        still_mask = and_from (length (picked 0 picks (mask ++ over)) == length picks)
            (list_all (λ b. nat_le b 1) (picked 0 picks (mask ++ over)))
            (eq-eqb _ _ (length-map picks (λ place. get_or (mask ++ over) place 0)))
            (picked-flags (λ b. nat_le b 1) (mask ++ over) picks
            (list_all_joined (λ b. nat_le b 1) mask over (flags number mask is_old) (flags m over is_new)) within)

-- an update means the replaced list
pub update_means : (kind : Kind) (number : ℕ) (indices : List ℕ) (old new : ArrayBytes) (xs ys : List Element) →
    meaning kind number old ≡ Some xs → meaning kind (length indices) new ≡ Some ys →
    meaning kind number (gathered (size_in (fixed_size kind)) number (replaced indices
    (range_with_len number (length indices)) (range_with_len 0 number)) old new) ≡ Some (replaced indices ys xs)
update_means kind number indices old new xs ys e f =
    let picks = replaced indices (range_with_len number (length indices)) (range_with_len 0 number) in
    let long : length xs ≡ number = length-meaning kind number old xs e in
    ap (λ k. meaning kind k (gathered (size_in (fixed_size kind)) number picks old new))
    (sym (length-picks number indices))
    ∙ (gathered_means kind number (length indices) picks old new xs ys
    (picks_below number (length indices) indices refl) e f
    ∙ ap Some (ap (λ k.
    picked null (replaced indices (range_with_len k (length indices)) (range_with_len 0 k)) (xs ++ ys)) (sym long)
    ∙ picked-picks null indices xs ys (sym (length-meaning kind (length indices) new ys f))))

-- an extraction means the selected list, whatever stands in the place of an update
pub extract_means : (kind : Kind) (number : ℕ) (indices : List ℕ) (old : ArrayBytes) (xs : List Element) →
    AllBelow number indices → meaning kind number old ≡ Some xs →
    meaning kind (length indices) (gathered (size_in (fixed_size kind)) number indices old old) ≡
    Some (picked null indices xs)
extract_means kind number indices old xs all e =
    gathered_means kind number number indices old old xs xs
    (λ k h. let below : get_or indices k 0 < number = all k h in omega (arith, below)) e e
    ∙ ap Some (map_below (λ place. get_or (xs ++ xs) place null) (λ place. get_or xs place null) number indices
    (λ k h. get_or_append_left xs xs null k (subst (λ n. k < n) (sym (length-meaning kind number old xs e)) h)) all)
