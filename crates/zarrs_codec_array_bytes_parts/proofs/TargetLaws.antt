-- Array bytes that are put into views, level by level.
use Rattle.std.proofs.Common.{◌≡◌, ℕ, ◌+◌, ◌<◌, ◌≤◌, ◌-◌, List, [], ◌∷◌, length, get_or, drop, refl, sym, ap, ◌∙◌}
use Rattle.std.proofs.Common.{subst, subst₂, arith, ⊎_elim}
use Rattle.std.proofs.lemmas.Bool.{cases_lt}
use Rattle.std.proofs.lemmas.List.{drop_more, drop_all, same_lists, get_or-drop, length-drop}
use Rattle.zarr_model.specs.ArrayBytes.{ArrayBytes, optional_bytes}
use Rattle.zarrs_codec_array_bytes_parts.specs.declared.array_bytes_fixed_disjoint_view.ArrayBytesFixedDisjointView.{
  ArrayBytesFixedDisjointView,
}
use Rattle.zarrs_codec_array_bytes.specs.Refusals.{BytesAnswer, fine, refused, wrong_length, unfit, other_fill}
use Rattle.zarrs_codec_array_bytes.specs.Refusals.{no_memory, odd, then_answer}
use Rattle.zarrs_codec_array_bytes_parts.specs.Targets.{kinds_answer, view_answer, sizes_answer, target_answer}
use Rattle.zarrs_codec_array_bytes_parts.specs.Targets.{IsViewWritten, ArePut}

both : (a b : BytesAnswer) → then_answer a b ≡ fine → (a ≡ fine) × (b ≡ fine)
both fine b h = (refl, h)
both (refused why) b h = cc
both (wrong_length len expected) b h = cc
both unfit b h = cc
both other_fill b h = cc
both no_memory b h = cc
both odd b h = cc

-- optional ones have a mask, and what is under it
pub optional_opened : (under : ArrayBytes) (mask : List ℕ) (views : List ArrayBytesFixedDisjointView)
    (i : ℕ) (inner d : ArrayBytesFixedDisjointView) →
    target_answer (optional_bytes under mask) (drop i views) inner ≡ fine →
    (i < length views) × (view_answer (length mask) (get_or views i d) ≡ fine) ×
    (target_answer under (drop (i + 1) views) inner ≡ fine)
optional_opened under mask views i inner d h = ⊎_elim
    (λ (low : i < length views).
    some low (subst (λ l. target_answer (optional_bytes under mask) l inner ≡ fine) (drop_more views i d low) h))
    (λ (high : length views ≤ i).
    absurd (none (subst (λ l. target_answer (optional_bytes under mask) l inner ≡ fine) (drop_all i views high) h)))
    (cases_lt i (length views))
  where
    none : target_answer (optional_bytes under mask) [] inner ≡ fine → ⊥
    none h = cc

    some : i < length views →
        target_answer (optional_bytes under mask) (get_or views i d ∷ drop (i + 1) views) inner ≡ fine →
        (i < length views) × (view_answer (length mask) (get_or views i d) ≡ fine) ×
        (target_answer under (drop (i + 1) views) inner ≡ fine)
    some low h =
        let outer = both (kinds_answer (length (drop (i + 1) views)) under) (then_answer (view_answer (length mask)
        (get_or views i d)) (sizes_answer under (drop (i + 1) views) inner)) h in
        let sizes =
        both (view_answer (length mask) (get_or views i d)) (sizes_answer under (drop (i + 1) views) inner) outer.1 in
        (low, sizes.0, ap (λ k. then_answer k (sizes_answer under (drop (i + 1) views) inner)) outer.0 ∙ sizes.1)

pub drop_same : {A : Type 0} (xs ys : List A) (i : ℕ) → length xs ≡ length ys →
    ((k : ℕ) (d : A) → i ≤ k → get_or xs k d ≡ get_or ys k d) → drop i xs ≡ drop i ys
drop_same xs ys i long same =
    same_lists (drop i xs) (drop i ys) (length-drop i xs ∙ (ap (λ n. n - i) long ∙ sym (length-drop i ys)))
    (λ k d h. get_or-drop i xs k d ∙ (same (i + k) d (omega arith) ∙ sym (get_or-drop i ys k d)))

-- a mask and what is under it are put
pub optional_put : (under : ArrayBytes) (mask : List ℕ) (old new : List ArrayBytesFixedDisjointView)
    (i : ℕ) (from to d : ArrayBytesFixedDisjointView) →
    i < length old → length new ≡ length old → IsViewWritten mask (get_or old i d) (get_or new i d) →
    ArePut under (drop (i + 1) old) (drop (i + 1) new) from to →
    ArePut (optional_bytes under mask) (drop i old) (drop i new) from to
optional_put under mask old new i from to d low long written rest =
    subst₂ (λ a b. ArePut (optional_bytes under mask) a b from to) (sym (drop_more old i d low))
    (sym (drop_more new i d (omega (arith, low, long)))) (written, rest)
