-- What is stored decodes under all options.
use Rattle.std.proofs.Common.{◌≡◌, ℕ, true, false, List, ◌++◌, IsSome, sym, ◌∙◌, subst, inl, inr, ⊎_elim}
use Rattle.std.specs.List.{list_any}
use Rattle.std.proofs.lemmas.Bool.{true≢false, cases_Bool, or_cases}
use Rattle.std.proofs.lemmas.List.Folds.{list_any-append}
use Rattle.zarr_model.specs.Prelude.{Element, Array, Options, Content, WhollyMeans, Command, Description, layout}
use Rattle.zarr_model.specs.Prelude.{array_after, changes_chunk, ChunkHas, LeavesKeys}
use Rattle.zarr_model.proofs.RunLaws.{array_after-append}
use Rattle.zarr_model.proofs.StepLaws.{both_none}
use Rattle.zarr_model.proofs.MendedLaws.{content-same}
use Rattle.zarr_array.specs.Stored.{DecodesForAll, IsChanged, StoresForAll, StaysOrDecodes, DamageStands}

-- commands of which none changes a chunk
pub stores-none : (array : Description) (options : Options) (commands : List Command) (old new : Content) →
    ((chunk : List ℕ) → list_any (changes_chunk array chunk) commands ≡ false) →
    StoresForAll array options commands old new
stores-none array options commands old new none = record {
  decodes = λ chunk changed. absurd (true≢false (sym changed.changed ∙ none chunk));
  left = λ meant chunk under means changed. absurd (true≢false (sym changed.changed ∙ none chunk));
}

-- commands after others
module _ (array : Description) (options : Options) (commands more : List Command) (old mid new : Content) where
  -- a chunk is changed by the later ones, or by the earlier ones alone
  changed_by : (chunk : List ℕ) → IsChanged array (commands ++ more) chunk → (P : Type 0) →
      (IsChanged array more chunk → P) →
      (IsChanged array commands chunk → list_any (changes_chunk array chunk) more ≡ false → P) → P
  changed_by chunk is P later earlier = ⊎_elim
      (λ (now : list_any (changes_chunk array chunk) more ≡ true).
      later (record { is_chunk = is.is_chunk; changed = now }))
      (λ (not_now : list_any (changes_chunk array chunk) more ≡ false). ⊎_elim
      (λ (before : list_any (changes_chunk array chunk) commands ≡ true).
      earlier (record { is_chunk = is.is_chunk; changed = before }) not_now)
      (λ (now : list_any (changes_chunk array chunk) more ≡ true). absurd (true≢false (sym now ∙ not_now)))
      (or_cases (list_any (changes_chunk array chunk) commands) (list_any (changes_chunk array chunk) more)
      (sym (list_any-append (changes_chunk array chunk) commands more) ∙ is.changed)))
      (cases_Bool (list_any (changes_chunk array chunk) more))

  module _ (keys : LeavesKeys array options more mid new) where
    pub stores-append : StoresForAll array options commands old mid → StoresForAll array options more mid new →
        ((meant : Array Element) → WhollyMeans (layout array options) old meant →
        WhollyMeans (layout array options) mid (array_after array commands meant)) →
        ((meant : Array Element) → WhollyMeans (layout array options) mid meant →
        WhollyMeans (layout array options) new (array_after array more meant)) →
        StoresForAll array options (commands ++ more) old new
    stores-append first second first_whole second_whole = record {
      decodes = λ chunk is. changed_by chunk is (DecodesForAll array new chunk)
          (λ later. second.decodes chunk later)
          (λ earlier apart under. subst IsSome
          (sym (content-same (layout array under) mid new chunk (keys.same_chunks chunk is.is_chunk apart)))
          (first.decodes chunk earlier under));
      left = λ meant chunk under means is.
          let then = first_whole meant means in
          let after = array_after array more (array_after array commands meant) in
          subst (λ a. ChunkHas (layout array under) new a chunk) (sym (array_after-append array commands more meant))
          (changed_by chunk is (ChunkHas (layout array under) new after chunk)
          (λ later. second.left (array_after array commands meant) chunk under then later)
          (λ earlier apart.
          let same = keys.same_chunks chunk is.is_chunk apart in
          content-same (layout array under) mid new chunk same
          ∙ (first.left meant chunk under means earlier
          ∙ (sym (then.each_chunk chunk is.is_chunk)
          ∙ (sym (content-same (layout array options) mid new chunk same)
          ∙ (second_whole (array_after array commands meant) then).each_chunk chunk is.is_chunk)))));
    }

-- what stays or decodes, after what stays or decodes
pub stays-append : (array : Description) (old mid new : Content) → StaysOrDecodes array old mid →
    StaysOrDecodes array mid new → StaysOrDecodes array old new
stays-append array old mid new first second chunk is_chunk = ⊎_elim
    (λ (same : new (array.key chunk) ≡ mid (array.key chunk)). ⊎_elim
    (λ (before : mid (array.key chunk) ≡ old (array.key chunk)). inl (same ∙ before))
    (λ (decodes : DecodesForAll array mid chunk). inr (λ under.
    subst IsSome (sym (content-same (layout array under) mid new chunk same)) (decodes under)))
    (first chunk is_chunk))
    (λ (decodes : DecodesForAll array new chunk). inr decodes)
    (second chunk is_chunk)

-- where the chunks that are changed decode, each stays or decodes
pub stays-changed : (array : Description) (options : Options) (commands : List Command) (old new : Content) →
    LeavesKeys array options commands old new →
    StoresForAll array options commands old new → StaysOrDecodes array old new
stays-changed array options commands old new keys stores chunk is_chunk = ⊎_elim
    (λ (changed : list_any (changes_chunk array chunk) commands ≡ true).
    inr (stores.decodes chunk (record { is_chunk = is_chunk; changed = changed })))
    (λ (apart : list_any (changes_chunk array chunk) commands ≡ false). inl (keys.same_chunks chunk is_chunk apart))
    (cases_Bool (list_any (changes_chunk array chunk) commands))

-- a value that does not decode stands after commands, and after more of them
pub stands-append : (array : Description) (options : Options) (commands more : List Command) (old mid new : Content) →
    DamageStands array options commands old mid → DamageStands array options more mid new →
    DamageStands array options (commands ++ more) old new
stands-append array options commands more old mid new first second chunk is_chunk damaged none =
    let parts = both_none array commands more chunk none in
    let before : mid (array.key chunk) ≡ old (array.key chunk) = first chunk is_chunk damaged parts.0 in
    second chunk is_chunk (content-same (layout array options) old mid chunk before ∙ damaged) parts.1 ∙ before
