-- On valid bytes of one kind and count equality is that of the lists that they mean.
use Rattle.std.proofs.Common.{◌≡◌, ℕ, zero, suc, ◌+◌, ◌*◌, ◌/◌, ◌<◌, ◌≤◌, ◌==◌, ◌↔◌, true, nat_lt, nat_le, List, []}
use Rattle.std.proofs.Common.{◌∷◌, length, map, get_or, Some, None, arith, ap, sym, refl, ◌∙◌, subst, eqb-true}
use Rattle.std.specs.List.{list_all}
use Rattle.std.proofs.lemmas.Bool.{and_parts, cond-true, lt-ltb, leb-true}
use Rattle.std.proofs.lemmas.List.{same_lists, get_or_default}
use Rattle.std.proofs.lemmas.Nat.{div-mul-add}
use Rattle.std.proofs.Math.Nat.{mul_comm}
use Rattle.zarr_model.specs.Element.{Element, of_bytes, null, some, Kind, fixed, variable, optional}
use Rattle.zarr_model.specs.ArrayBytes.{ArrayBytes, fixed_bytes, variable_bytes, optional_bytes, masked, meaning}
use Rattle.zarr_model.specs.ArrayBytes.{are_offsets, between_offsets}
use Rattle.zarr_model.proofs.BytesLaws.{when_some, length-meaning, mask_length}
use Rattle.zarrs_codec_slices.specs.Picking.{piece_of, value_of}
use Rattle.zarrs_codec_slices.proofs.LeafLaws.{fixed_at, fixed_long, variable_at}
use Rattle.zarrs_codec_slices.proofs.GatherLaws.{get_or-mask_over}
use Rattle.zarrs_codec_slices.proofs.MaskLaws.{IsMasked, masked_parts}
use Rattle.zarrs_codec_slices.specs.Same.{SeenBytes, nothing, fixed_seen, variable_seen, flag_seen, odd, flagged}
use Rattle.zarrs_codec_slices.specs.Same.{seen_at, fixed_shape, optional_shape, shape_of, IsSame}

-- what is seen of an element by its kind
abbrev pub seen_of : Kind → Element → SeenBytes
seen_of (fixed n) (of_bytes value) = fixed_seen value
seen_of (fixed n) null = odd null
seen_of (fixed n) (some element) = odd (some element)
seen_of variable (of_bytes value) = variable_seen (Some value)
seen_of variable null = odd null
seen_of variable (some element) = odd (some element)
seen_of (optional kind) null = flag_seen (Some 0) nothing
seen_of (optional kind) (some element) = flag_seen (Some 1) (seen_of kind element)
seen_of (optional kind) (of_bytes value) = odd (of_bytes value)

-- it shows the element
pub seen_shows : (kind : Kind) (x y : Element) → seen_of kind x ≡ seen_of kind y → x ≡ y
seen_shows (fixed n) (of_bytes a) (of_bytes b) e = let same : a ≡ b = cc in ap of_bytes same
seen_shows (fixed n) (of_bytes a) null e = cc
seen_shows (fixed n) (of_bytes a) (some y) e = cc
seen_shows (fixed n) null (of_bytes b) e = cc
seen_shows (fixed n) null null e = refl
seen_shows (fixed n) null (some y) e = cc
seen_shows (fixed n) (some x) (of_bytes b) e = cc
seen_shows (fixed n) (some x) null e = cc
seen_shows (fixed n) (some x) (some y) e = let same : some x ≡ some y = cc in same
seen_shows variable (of_bytes a) (of_bytes b) e = let same : a ≡ b = cc in ap of_bytes same
seen_shows variable (of_bytes a) null e = cc
seen_shows variable (of_bytes a) (some y) e = cc
seen_shows variable null (of_bytes b) e = cc
seen_shows variable null null e = refl
seen_shows variable null (some y) e = cc
seen_shows variable (some x) (of_bytes b) e = cc
seen_shows variable (some x) null e = cc
seen_shows variable (some x) (some y) e = let same : some x ≡ some y = cc in same
seen_shows (optional kind) (of_bytes a) (of_bytes b) e = let same : of_bytes a ≡ of_bytes b = cc in same
seen_shows (optional kind) (of_bytes a) null e = cc
seen_shows (optional kind) (of_bytes a) (some y) e = cc
seen_shows (optional kind) null (of_bytes b) e = cc
seen_shows (optional kind) null null e = refl
seen_shows (optional kind) null (some y) e = let number : ◌≡◌ {A = ℕ} 0 1 = cc in absurd (omega (arith, number))
seen_shows (optional kind) (some x) (of_bytes b) e = cc
seen_shows (optional kind) (some x) null e = let number : ◌≡◌ {A = ℕ} 1 0 = cc in absurd (omega (arith, number))
seen_shows (optional kind) (some x) (some y) e = let under : seen_of kind x ≡ seen_of kind y = cc in
    ap some (seen_shows kind x y under)

-- a mask byte that is 0 or 1
flag_of : (kind : Kind) (b : ℕ) (element : Element) (s : SeenBytes) → nat_le b 1 ≡ true → s ≡ seen_of kind element →
    flagged b s ≡ seen_of (optional kind) (masked b element)
flag_of kind zero element s low is = refl
flag_of kind (suc zero) element s low is = ap (flag_seen (Some 1)) is
flag_of kind (suc (suc b)) element s low is = let small : suc (suc b) ≤ 1 = leb-true (suc (suc b)) 1 low in
    absurd (omega (arith, small))

flag_at : (mask : List ℕ) (i : ℕ) → list_all (λ b. nat_le b 1) mask ≡ true → i < length mask →
    nat_le (get_or mask i 0) 1 ≡ true
flag_at [] i a h = absurd (omega arith)
flag_at (b ∷ mask) zero a h = (and_parts (nat_le b 1) (list_all (λ b. nat_le b 1) mask) a).0
flag_at (b ∷ mask) (suc i) a h =
    flag_at mask i (and_parts (nat_le b 1) (list_all (λ b. nat_le b 1) mask) a).1 (omega arith)

-- what is seen at a place of valid bytes is the element there
pub seen_element : (kind : Kind) (number i : ℕ) (a : ArrayBytes) (xs : List Element) → meaning kind number a ≡ Some xs →
    i < number → seen_at number i a ≡ seen_of kind (get_or xs i null)
seen_element (fixed n) number i (fixed_bytes a) xs e h =
    ap (λ k. fixed_seen (piece_of k a i)) size ∙ ap (seen_of (fixed n)) (sym (fixed_at n number a xs e i h))
  where
    size : length a / number ≡ n
    size = ap (λ l. l / number) (fixed_long n number a xs e ∙ (let same : number * n ≡ n * number + 0 =
        omega (arith, mul_comm number n) in same)) ∙ div-mul-add n number 0 (omega arith)
seen_element (fixed n) number i (variable_bytes a p) xs e h = cc
seen_element (fixed n) number i (optional_bytes a m) xs e h = cc
seen_element variable number i (fixed_bytes a) xs e h = cc
seen_element variable number i (variable_bytes a []) xs e h = cc
seen_element variable number i (variable_bytes a (first ∷ offsets)) xs e h =
    ap variable_seen (cond-true (nat_lt (i + 1) (length (first ∷ offsets))) (Some (value_of a (first ∷ offsets) i)) None
    (lt-ltb (i + 1) (length (first ∷ offsets)) (omega (arith, counted, h))))
    ∙ ap (seen_of variable) (sym (variable_at number a (first ∷ offsets) xs e i h))
  where
    counted : length offsets ≡ number
    counted = eqb-true _ _ (and_parts (length offsets == number) _ (when_some (are_offsets number (length a)
        (first ∷ offsets)) (map of_bytes (between_offsets (first ∷ offsets) a)) xs e).0).0
seen_element variable number i (optional_bytes a m) xs e h = cc
seen_element (optional kind) number i (fixed_bytes a) xs e h = cc
seen_element (optional kind) number i (variable_bytes a p) xs e h = cc
seen_element (optional kind) number i (optional_bytes a m) xs e h =
    let parts = masked_parts kind number m a xs e in
    let long : length m ≡ number = mask_length number m parts.mask_is in
    let here : i < length m = omega (arith, h, long) in
    cond-true (nat_lt i (length m)) _ _ (lt-ltb i (length m) here)
    ∙ (flag_of kind (get_or m i 0) (get_or parts.list i null) (seen_at number i a)
    (flag_at m i (and_parts (length m == number) (list_all (λ b. nat_le b 1) m) parts.mask_is).1 here)
    (seen_element kind number i a parts.list parts.inner h)
    ∙ ap (seen_of (optional kind)) (sym (get_or-mask_over m parts.list i
    (long ∙ sym (length-meaning kind number a parts.list parts.inner)) here) ∙ ap (λ l. get_or l i null) parts.over))

-- valid bytes of one kind and count have one form
pub same_form : (kind : Kind) (number : ℕ) (a b : ArrayBytes) (xs ys : List Element) → meaning kind number a ≡ Some xs →
    meaning kind number b ≡ Some ys → shape_of a ≡ shape_of b
same_form (fixed n) number (fixed_bytes a) (fixed_bytes b) xs ys e f =
    ap fixed_shape (fixed_long n number a xs e ∙ sym (fixed_long n number b ys f))
same_form (fixed n) number (fixed_bytes a) (variable_bytes b q) xs ys e f = cc
same_form (fixed n) number (fixed_bytes a) (optional_bytes b k) xs ys e f = cc
same_form (fixed n) number (variable_bytes a p) b xs ys e f = cc
same_form (fixed n) number (optional_bytes a m) b xs ys e f = cc
same_form variable number (variable_bytes a p) (variable_bytes b q) xs ys e f = refl
same_form variable number (variable_bytes a p) (fixed_bytes b) xs ys e f = cc
same_form variable number (variable_bytes a p) (optional_bytes b k) xs ys e f = cc
same_form variable number (fixed_bytes a) b xs ys e f = cc
same_form variable number (optional_bytes a m) b xs ys e f = cc
same_form (optional kind) number (fixed_bytes a) b xs ys e f = cc
same_form (optional kind) number (variable_bytes a p) b xs ys e f = cc
same_form (optional kind) number (optional_bytes a m) (fixed_bytes b) xs ys e f = cc
same_form (optional kind) number (optional_bytes a m) (variable_bytes b q) xs ys e f = cc
same_form (optional kind) number (optional_bytes a m) (optional_bytes b k) xs ys e f =
    let p = masked_parts kind number m a xs e in
    let q = masked_parts kind number k b ys f in
    ap optional_shape (same_form kind number a b p.list q.list p.inner q.inner)

-- equality of valid bytes is that of their lists
pub valid_same :
    (kind : Kind) (number : ℕ) (m : List ℕ) (a : ArrayBytes) (k : List ℕ) (b : ArrayBytes) (xs ys : List Element) →
    meaning (optional kind) number (optional_bytes a m) ≡ Some xs →
    meaning (optional kind) number (optional_bytes b k) ≡ Some ys → IsSame m a k b ↔ (xs ≡ ys)
valid_same kind number m a k b xs ys e f = (forth, back)
  where
    p : IsMasked kind number m a xs
    p = masked_parts kind number m a xs e

    q : IsMasked kind number k b ys
    q = masked_parts kind number k b ys f

    m_long : length m ≡ number
    m_long = mask_length number m p.mask_is

    k_long : length k ≡ number
    k_long = mask_length number k q.mask_is

    xs_long : length xs ≡ number
    xs_long = length-meaning (optional kind) number (optional_bytes a m) xs e

    ys_long : length ys ≡ number
    ys_long = length-meaning (optional kind) number (optional_bytes b k) ys f

    -- what is seen of both at a place
    whole_at : (n i : ℕ) (mask : List ℕ) (under : ArrayBytes) → i < length mask →
        seen_at n i (optional_bytes under mask) ≡ flagged (get_or mask i 0) (seen_at n i under)
    whole_at n i mask under h = cond-true (nat_lt i (length mask)) _ _ (lt-ltb i (length mask) h)

    flags_same : (x y : ℕ) (s u : SeenBytes) → x ≡ y → ((x ≡ 0 → ⊥) → s ≡ u) → flagged x s ≡ flagged y u
    flags_same x y s u is under = go x under ∙ ap (λ z. flagged z u) is
      where
        go : (x : ℕ) → ((x ≡ 0 → ⊥) → s ≡ u) → flagged x s ≡ flagged x u
        go zero under = refl
        go (suc x) under = ap (flag_seen (Some (suc x))) (under (λ h. absurd (omega (arith, h))))

    forth : IsSame m a k b → xs ≡ ys
    forth same = same_lists xs ys (xs_long ∙ sym ys_long) (λ i d h.
        let here : i < number = omega (arith, h, xs_long) in
        let in_m : i < length m = omega (arith, here, m_long) in
        let in_k : i < length k = omega (arith, here, k_long) in
        let seen : seen_of (optional kind) (get_or xs i null) ≡ seen_of (optional kind) (get_or ys i null) =
        sym (seen_element (optional kind) number i (optional_bytes a m) xs e here)
        ∙ (whole_at number i m a in_m
        ∙ (flags_same (get_or m i 0) (get_or k i 0) (seen_at number i a) (seen_at number i b)
        (ap (λ l. get_or l i 0) same.masks)
        (λ there. subst (λ n. seen_at n i a ≡ seen_at n i b) m_long (same.each i in_m there))
        ∙ (sym (whole_at number i k b in_k) ∙ seen_element (optional kind) number i (optional_bytes b k) ys f here))) in
        get_or_default xs i d null h ∙ (seen_shows (optional kind) (get_or xs i null) (get_or ys i null) seen
        ∙ sym (get_or_default ys i d null (omega (arith, here, ys_long)))))

    flag_parts : (x y : ℕ) (s u : SeenBytes) → flagged x s ≡ flagged y u → (x ≡ y) × ((x ≡ 0 → ⊥) → s ≡ u)
    flag_parts zero zero s u h = (refl, (λ there. absurd (there refl)))
    flag_parts zero (suc y) s u h = let number : ◌≡◌ {A = ℕ} 0 (suc y) = cc in absurd (omega (arith, number))
    flag_parts (suc x) zero s u h = let number : ◌≡◌ {A = ℕ} (suc x) 0 = cc in absurd (omega (arith, number))
    flag_parts (suc x) (suc y) s u h = let number : suc x ≡ suc y = cc in let under : s ≡ u = cc in
        (number, (λ there. under))

    parts_at : xs ≡ ys → (i : ℕ) → i < number →
        (get_or m i 0 ≡ get_or k i 0) × ((get_or m i 0 ≡ 0 → ⊥) → seen_at number i a ≡ seen_at number i b)
    parts_at same i here = flag_parts (get_or m i 0) (get_or k i 0) (seen_at number i a) (seen_at number i b)
        (sym (whole_at number i m a (omega (arith, here, m_long)))
        ∙ (seen_element (optional kind) number i (optional_bytes a m) xs e here
        ∙ (ap (λ l. seen_of (optional kind) (get_or l i null)) same
        ∙ (sym (seen_element (optional kind) number i (optional_bytes b k) ys f here)
        ∙ whole_at number i k b (omega (arith, here, k_long))))))

    back : xs ≡ ys → IsSame m a k b
    back same = record {
      masks = same_lists m k (m_long ∙ sym k_long) (λ i d h.
          let here : i < number = omega (arith, h, m_long) in
          get_or_default m i d 0 h
          ∙ ((parts_at same i here).0 ∙ sym (get_or_default k i d 0 (omega (arith, here, k_long)))));
      shape = same_form kind number a b p.list q.list p.inner q.inner;
      each = λ i h there. subst (λ n. seen_at n i a ≡ seen_at n i b) (sym m_long)
          ((parts_at same i (omega (arith, h, m_long))).1 there);
    }
