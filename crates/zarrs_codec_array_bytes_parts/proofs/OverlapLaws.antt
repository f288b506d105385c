-- Elements of one size, optional or not, that were copied between boxes.
use Rattle.std.proofs.Common.{◌≡◌, ℕ, suc, ◌*◌, ◌<◌, ◌==◌, Bool, true, false, nat_le, if◌then◌else◌, List, [], ◌∷◌}
use Rattle.std.proofs.Common.{length, map, take, drop, get_or, Some, None, option_map, arith, ap, ap₂, sym, refl, ◌∙◌}
use Rattle.std.proofs.Common.{subst, eq-eqb}
use Rattle.std.specs.List.{list_all, AllByRecursion}
use Rattle.std.proofs.lemmas.Bool.{and_parts, and_from, cond-true}
use Rattle.std.proofs.lemmas.List.{get_or_default, drop_more}
use Rattle.std.proofs.lemmas.Option.{same_Some}
use Rattle.zarr_model.specs.Region.{Region, count, contains, place, tuple_at, tuples}
use Rattle.zarr_model.specs.Element.{Element, of_bytes, null, Kind, fixed, variable, optional, fixed_size}
use Rattle.zarr_model.specs.ArrayBytes.{ArrayBytes, fixed_bytes, variable_bytes, optional_bytes, is_mask, masked}
use Rattle.zarr_model.specs.ArrayBytes.{mask_over, meaning}
use Rattle.zarr_model.proofs.BytesLaws.{length-meaning, length-mask_over, mask_length}
use Rattle.zarr_model.proofs.RegionLaws.{place_below}
use Rattle.zarr_model.proofs.ListLaws.{list_all-at}
use Rattle.zarrs_codec_slices.specs.Elements.{fixed_elements}
use Rattle.zarrs_codec_slices.specs.Overlap.{Copied}
use Rattle.zarrs_codec_slices.specs.Picking.{gathered, piece_of, size_in}
use Rattle.zarrs_codec_slices.proofs.FixedLaws.{meaning_is}
use Rattle.zarrs_codec_slices.proofs.LeafLaws.{fixed_at, fixed_long}
use Rattle.zarrs_codec_slices.proofs.GatherLaws.{get_or-mask_over}
use Rattle.zarrs_codec_slices.proofs.MaskLaws.{masked_parts}
use Rattle.zarrs_codec_slices.proofs.RowLaws.{rows_put}
use Rattle.zarrs_codec_array_bytes.specs.Refusals.{lengths_refusal}
use Rattle.zarrs_codec_array_bytes.proofs.CheckLaws as check
use Rattle.zarrs_codec_array_bytes_parts.specs.Overlaps.{TakesOverlap, CopiesOverlap}
use Rattle.zarrs_codec_array_bytes_parts.specs.Picks.{update_picks}

-- elements of one byte, by their places
one_byte : (a b : ℕ) → of_bytes (a ∷ []) ≡ of_bytes (b ∷ []) → a ≡ b
one_byte a b e = cc

byte_at : (bytes : List ℕ) (i : ℕ) → i < length bytes →
    get_or (fixed_elements 1 bytes) i null ≡ of_bytes (get_or bytes i 0 ∷ [])
byte_at bytes i h =
    let long : length bytes ≡ length bytes * 1 = omega arith in
    fixed_at 1 (length bytes) bytes (fixed_elements 1 bytes) (meaning_is 1 (omega arith) (length bytes) bytes long) i h
    ∙ ap of_bytes one_piece
  where
    one_piece : piece_of 1 bytes i ≡ get_or bytes i 0 ∷ []
    one_piece =
        ap (λ m. take 1 (drop m bytes)) (let e : i * 1 ≡ i = omega arith in e) ∙ ap (take 1) (drop_more bytes i 0 h)

list_all-from : (f : ℕ → Bool) (xs : List ℕ) → ((i : ℕ) → i < length xs → f (get_or xs i 0) ≡ true) →
    list_all f xs ≡ true
list_all-from f [] each = refl
list_all-from f (x ∷ xs) each =
    and_from (f x) (list_all f xs) (each 0 (omega arith)) (list_all-from f xs (λ i h. each (suc i) (omega (arith, h))))

-- masks and what stands under them, of two boxes
module _ (target source : Region) (mask was_mask new_mask : List ℕ)
    (is_mask_source : is_mask (count source) mask ≡ true) (is_mask_target : is_mask (count target) was_mask ≡ true)
    (as_long : length new_mask ≡ length was_mask) (copied :
    Copied target source (fixed_elements 1 mask) (fixed_elements 1 was_mask) (fixed_elements 1 new_mask)) where
  mask_long : length mask ≡ count source
  mask_long = mask_length (count source) mask is_mask_source

  was_long : length was_mask ≡ count target
  was_long = mask_length (count target) was_mask is_mask_target

  new_long : length new_mask ≡ count target
  new_long = as_long ∙ was_long

  -- a byte of the new mask where the source has it, and where it has not
  module _ (k : ℕ) (within : k < count target) where
    new_at : get_or (fixed_elements 1 new_mask) k null ≡ of_bytes (get_or new_mask k 0 ∷ [])
    new_at = byte_at new_mask k (subst (λ n. k < n) (sym new_long) within)

    from_source : contains source (tuple_at target k) ≡ true → place source (tuple_at target k) < length mask
    from_source inside = subst (λ n. place source (tuple_at target k) < n) (sym mask_long)
        (place_below source (tuple_at target k) inside)

    flag_taken : contains source (tuple_at target k) ≡ true →
        get_or new_mask k 0 ≡ get_or mask (place source (tuple_at target k)) 0
    flag_taken inside =
        let there = byte_at mask (place source (tuple_at target k)) (from_source inside) in
        let same : get_or (fixed_elements 1 new_mask) k null ≡
        get_or (fixed_elements 1 mask) (place source (tuple_at target k)) null =
        copied.each k null within ∙ ap (λ b. if b then get_or (fixed_elements 1 mask) (place source (tuple_at target k))
        null else get_or (fixed_elements 1 was_mask) k null) inside in
        one_byte (get_or new_mask k 0) (get_or mask (place source (tuple_at target k)) 0) (sym new_at ∙ (same ∙ there))

    flag_kept : contains source (tuple_at target k) ≡ false → get_or new_mask k 0 ≡ get_or was_mask k 0
    flag_kept outside =
        let there = byte_at was_mask k (subst (λ n. k < n) (sym was_long) within) in
        let same : get_or (fixed_elements 1 new_mask) k null ≡ get_or (fixed_elements 1 was_mask) k null =
        copied.each k null within ∙ ap (λ b. if b then get_or (fixed_elements 1 mask) (place source (tuple_at target k))
        null else get_or (fixed_elements 1 was_mask) k null) outside in
        one_byte (get_or new_mask k 0) (get_or was_mask k 0) (sym new_at ∙ (same ∙ there))

  flags : (n : ℕ) (list : List ℕ) → is_mask n list ≡ true → list_all (λ b. nat_le b 1) list ≡ true
  flags n list h = (and_parts (length list == n) (list_all (λ b. nat_le b 1) list) h).1

  pub still_mask : is_mask (count target) new_mask ≡ true
  still_mask = and_from (length new_mask == count target) (list_all (λ b. nat_le b 1) new_mask) (eq-eqb _ _ new_long)
      (list_all-from (λ b. nat_le b 1) new_mask
      (λ k h. at k (subst (λ n. k < n) new_long h) (contains source (tuple_at target k)) refl))
    where
      at : (k : ℕ) → k < count target → (b : Bool) → contains source (tuple_at target k) ≡ b →
          nat_le (get_or new_mask k 0) 1 ≡ true
      at k h true inside = ap (λ n. nat_le n 1) (flag_taken k h inside) ∙ list_all-at (λ b. nat_le b 1) mask
          (place source (tuple_at target k)) (flags (count source) mask is_mask_source) (from_source k h inside)
      at k h false outside = ap (λ n. nat_le n 1) (flag_kept k h outside) ∙ list_all-at (λ b. nat_le b 1) was_mask k
          (flags (count target) was_mask is_mask_target) (subst (λ n. k < n) (sym was_long) h)

  module _ (xs was new : List Element) (xs_long : length xs ≡ count source) (old_long : length was ≡ count target)
      (below : Copied target source xs was new) where
    after_long : length new ≡ count target
    after_long = below.as_long ∙ old_long

    pub masks_copied : Copied target source (mask_over mask xs) (mask_over was_mask was) (mask_over new_mask new)
    masks_copied = record {
      as_long = length-mask_over new_mask new (new_long ∙ sym after_long)
          ∙ (as_long ∙ sym (length-mask_over was_mask was (was_long ∙ sym old_long)));
      each = λ k d h. get_or_default (mask_over new_mask new) k d null
          (subst (λ n. k < n) (sym (length-mask_over new_mask new (new_long ∙ sym after_long) ∙ new_long)) h)
          ∙ (get_or-mask_over new_mask new k (new_long ∙ sym after_long) (subst (λ n. k < n) (sym new_long) h)
          ∙ at k d h (contains source (tuple_at target k)) refl);
    }
      where
        at : (k : ℕ) (d : Element) → k < count target → (b : Bool) → contains source (tuple_at target k) ≡ b →
            masked (get_or new_mask k 0) (get_or new k null)
            ≡ (if b then get_or (mask_over mask xs) (place source (tuple_at target k)) d else get_or
            (mask_over was_mask was) k d)
        at k d h true inside =
            let i = place source (tuple_at target k) in
            ap₂ masked (flag_taken k h inside)
            (below.each k null h ∙ ap (λ b. if b then get_or xs i null else get_or was k null) inside)
            ∙ (sym (get_or-mask_over mask xs i (mask_long ∙ sym xs_long) (from_source k h inside))
            ∙ get_or_default (mask_over mask xs) i null d
            (subst (λ n. i < n) (sym (length-mask_over mask xs (mask_long ∙ sym xs_long))) (from_source k h inside)))
        at k d h false outside =
            ap₂ masked (flag_kept k h outside) (below.each k null h
            ∙ ap (λ b. if b then get_or xs (place source (tuple_at target k)) null else get_or was k null) outside)
            ∙ (sym (get_or-mask_over was_mask was k (was_long ∙ sym old_long) (subst (λ n. k < n) (sym was_long) h))
            ∙ get_or_default (mask_over was_mask was) k null d
            (subst (λ n. k < n) (sym (length-mask_over was_mask was (was_long ∙ sym old_long) ∙ was_long)) h))

-- array bytes that mean a list which took the elements that two boxes share
pub record IsCopied (kind : Kind) (target source : Region) (xs was : List Element) (new : ArrayBytes) : Type 0 where
  pub list : List Element
  pub means : meaning kind (count target) new ≡ Some list
  pub copied : Copied target source xs was list

elements_copied : (size : ℕ) (target source : Region) (bytes old new : List ℕ) (xs was : List Element) → 0 < size →
    meaning (fixed size) (count source) (fixed_bytes bytes) ≡ Some xs →
    meaning (fixed size) (count target) (fixed_bytes old) ≡ Some was → TakesOverlap size target source bytes old new →
    IsCopied (fixed size) target source xs was (fixed_bytes new)
elements_copied size target source bytes old new xs was some e f takes =
    let old_long : length old ≡ count target * size = fixed_long size (count target) old was f in
    let given : fixed_elements size bytes ≡ xs = same_Some (fixed_elements size bytes) xs
    (sym (meaning_is size some (count source) bytes (fixed_long size (count source) bytes xs e)) ∙ e) in
    let before : fixed_elements size old ≡ was =
    same_Some (fixed_elements size old) was (sym (meaning_is size some (count target) old old_long) ∙ f) in
    record {
      list = fixed_elements size new;
      means = meaning_is size some (count target) new (takes.as_long ∙ old_long);
      copied = subst (λ l. Copied target source l was (fixed_elements size new)) given
          (subst (λ l. Copied target source (fixed_elements size bytes) l (fixed_elements size new)) before
          takes.copied);
    }

pub copied_means : (kind : Kind) (target source : Region) (bytes old new : ArrayBytes) (xs was : List Element) →
    0 < size_in (fixed_size kind) → meaning kind (count source) bytes ≡ Some xs →
    meaning kind (count target) old ≡ Some was → CopiesOverlap (size_in (fixed_size kind)) target source bytes old new →
    IsCopied kind target source xs was new
copied_means (fixed size) target source (fixed_bytes bytes) (fixed_bytes old) (fixed_bytes new) xs was some e f takes =
    elements_copied size target source bytes old new xs was some e f takes
copied_means (fixed size) target source (fixed_bytes bytes) (fixed_bytes old) (variable_bytes new to) xs was some e f
    takes = absurd takes
copied_means (fixed size) target source (fixed_bytes bytes) (fixed_bytes old) (optional_bytes new taken) xs was some e f
    takes = absurd takes
copied_means (fixed size) target source (fixed_bytes bytes) (variable_bytes old from) new xs was some e f takes = cc
copied_means (fixed size) target source (fixed_bytes bytes) (optional_bytes old mask) new xs was some e f takes = cc
copied_means (fixed size) target source (variable_bytes bytes by) old new xs was some e f takes = cc
copied_means (fixed size) target source (optional_bytes bytes over) old new xs was some e f takes = cc
copied_means variable target source bytes old new xs was some e f takes = absurd (omega arith)
copied_means (optional kind) target source (fixed_bytes bytes) old new xs was some e f takes = cc
copied_means (optional kind) target source (variable_bytes bytes by) old new xs was some e f takes = cc
copied_means (optional kind) target source (optional_bytes bytes over) (fixed_bytes old) new xs was some e f takes = cc
copied_means (optional kind) target source (optional_bytes bytes over) (variable_bytes old from) new xs was some e f
    takes = cc
copied_means (optional kind) target source (optional_bytes bytes over) (optional_bytes old mask) (fixed_bytes new) xs
    was some e f takes = absurd takes
copied_means (optional kind) target source (optional_bytes bytes over) (optional_bytes old mask) (variable_bytes new to)
    xs was some e f takes = absurd takes
copied_means (optional kind) target source (optional_bytes bytes over) (optional_bytes old mask)
    (optional_bytes new taken) xs was some e f takes =
    let a = masked_parts kind (count source) over bytes xs e in
    let b = masked_parts kind (count target) mask old was f in
    let below = copied_means kind target source bytes old new a.list b.list some a.inner b.inner takes.0 in
    record {
      list = mask_over taken below.list;
      means = cond-true (is_mask (count target) taken) _ _ (still_mask target source over mask taken a.mask_is b.mask_is
          takes.1.as_long takes.1.copied) ∙ ap (option_map (mask_over taken)) below.means;
      copied = subst (λ l. Copied target source l was (mask_over taken below.list)) a.over
          (subst (λ l. Copied target source (mask_over over a.list) l (mask_over taken below.list)) b.over
          (masks_copied target source over mask taken a.mask_is b.mask_is takes.1.as_long takes.1.copied a.list b.list
          below.list (length-meaning kind (count source) bytes a.list a.inner)
          (length-meaning kind (count target) old b.list b.inner) below.copied));
    }

-- and they are what is picked element by element, where the one box lies in the other
pub copied_gathered : (size : ℕ) (target source : Region) (bytes old new : ArrayBytes) → 0 < size →
    AllByRecursion (λ tuple. contains target tuple ≡ true) (tuples source) →
    lengths_refusal size (count target) old ≡ None → lengths_refusal size (count source) bytes ≡ None →
    CopiesOverlap size target source bytes old new →
    new ≡ gathered size (count target) (update_picks (count target) (map (place target) (tuples source))) old bytes
copied_gathered size target source (fixed_bytes bytes) (fixed_bytes old) (fixed_bytes new) some inside e f takes =
    ap fixed_bytes (rows_put size some target source bytes old new (check.fixed_long size (count source) bytes f)
    (check.fixed_long size (count target) old e) takes.as_long takes.copied inside)
copied_gathered size target source (fixed_bytes bytes) (fixed_bytes old) (variable_bytes new to) some inside e f takes =
    absurd takes
copied_gathered size target source (fixed_bytes bytes) (fixed_bytes old) (optional_bytes new taken) some inside e f
    takes = absurd takes
copied_gathered size target source (fixed_bytes bytes) (variable_bytes old from) new some inside e f takes =
    absurd takes
copied_gathered size target source (fixed_bytes bytes) (optional_bytes old mask) new some inside e f takes =
    absurd takes
copied_gathered size target source (variable_bytes bytes by) old new some inside e f takes = absurd takes
copied_gathered size target source (optional_bytes bytes over) (fixed_bytes old) new some inside e f takes =
    absurd takes
copied_gathered size target source (optional_bytes bytes over) (variable_bytes old from) new some inside e f takes =
    absurd takes
copied_gathered size target source (optional_bytes bytes over) (optional_bytes old mask) (fixed_bytes new) some inside e
    f takes = absurd takes
copied_gathered size target source (optional_bytes bytes over) (optional_bytes old mask) (variable_bytes new to) some
    inside e f takes = absurd takes
copied_gathered size target source (optional_bytes bytes over) (optional_bytes old mask) (optional_bytes new taken) some
    inside e f takes =
    ap₂ optional_bytes (copied_gathered size target source bytes old new some inside
    (check.inner_long size (count target) old mask e) (check.inner_long size (count source) bytes over f) takes.0)
    (rows_put 1 (omega arith) target source over mask taken (check.mask_long size (count source) bytes over f)
    (check.mask_long size (count target) old mask e) takes.1.as_long takes.1.copied inside)
