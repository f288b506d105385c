-- Commands that ran over any store, one after another.
use Rattle.std.proofs.Common.{◌≡◌, ℕ, ◌+◌, ◌<◌, false, List, ◌++◌, length, take, is_some, IsSome, refl, sym, ap, ◌∙◌}
use Rattle.std.proofs.Common.{subst, arith, ⊎_elim}
use Rattle.std.specs.List.{AllZip, list_any}
use Rattle.std.proofs.lemmas.Bool.{or_from, true≢false}
use Rattle.std.proofs.lemmas.List.{take-append-le}
use Rattle.std.proofs.lemmas.List.Folds.{list_any-append}
use Rattle.std.proofs.lemmas.Option.{slice_get_within}
use Rattle.std.proofs.Math.Seq.{take-append-add}
use Rattle.zarr_model.specs.Prelude.{IsChunk, CoversShape, Options, Content, IsSound, WhollyMeans, chunk_content}
use Rattle.zarr_model.specs.Prelude.{stored_array, Command, Description, Answer, kind, layout, refusal, replies}
use Rattle.zarr_model.specs.Prelude.{array_after, Matches, command_chunks, erases_chunk, undamaged, IsDamageMet}
use Rattle.zarr_model.specs.Prelude.{KeepsDamage, MeetsNoDamage, RanOver, AnswersUndamaged}
use Rattle.zarr_model.proofs.StoreLaws.{stored_array-meant, meant-same, Means-from_whole}
use Rattle.zarr_model.proofs.RunLaws.{replies-append, array_after-append, replies-same}
use Rattle.zarr_model.proofs.SessionLaws.{AllZip-append}
use Rattle.zarr_model.proofs.StepLaws.{KeepsDamage-append}
use Rattle.zarr_model.proofs.FailureLaws.{listed_is_chunk}
use Rattle.zarr_model.proofs.DamageLaws.{listed_at, slice_get-left, slice_get-right}
use Rattle.zarr_model.proofs.MendedLaws.{content-same}

module _ (description : Description) (options : Options) (commands more : List Command) where
  -- what meets no damage, in two parts
  pub unmet-front : (old : Content) → MeetsNoDamage description options (commands ++ more) old →
      MeetsNoDamage description options commands old
  unmet-front old unmet = record { no_key = at }
    where
      at : (key : List ℕ) → IsDamageMet description options commands old key → ⊥
      at key (m, command, is, asks, chunk, met, its_key, none, damaged) =
          let below : m < length commands = slice_get_within commands m command is in
          unmet.no_key key (
            m,
            command,
            slice_get-left commands more m below ∙ is,
            asks,
            chunk,
            met,
            its_key,
            subst (λ l. list_any (erases_chunk description chunk) l ≡ false)
                (sym (take-append-le m commands more (omega (arith, below)))) none,
            damaged,
          )

  pub unmet-rest : CoversShape description.shape description.grid → (old mid : Content) →
      KeepsDamage description options commands old mid →
      MeetsNoDamage description options (commands ++ more) old → MeetsNoDamage description options more mid
  unmet-rest covers old mid keeps unmet = record { no_key = at }
    where
      at : (key : List ℕ) → IsDamageMet description options more mid key → ⊥
      at key (m, command, is, asks, chunk, met, its_key, none, damaged) =
          let (k, here) = listed_at (command_chunks description command) chunk met in
          let is_chunk : IsChunk description.grid chunk =
          listed_is_chunk description covers (refusal description command) command refl k chunk here in
          ⊎_elim
          (λ (good : IsSome (chunk_content (layout description options) mid chunk)). absurd
          (true≢false (sym good ∙ ap is_some damaged)))
          (λ (same : (mid (description.key chunk) ≡ old (description.key chunk))
          × (list_any (erases_chunk description chunk) commands ≡ false)).
          unmet.no_key key (
            length commands + m,
            command,
            slice_get-right commands more m ∙ is,
            asks,
            chunk,
            met,
            its_key,
            subst (λ l. list_any (erases_chunk description chunk) l ≡ false) (sym (take-append-add commands more m))
                (list_any-append (erases_chunk description chunk) commands (take m more)
                ∙ or_from (list_any (erases_chunk description chunk) commands)
                (list_any (erases_chunk description chunk) (take m more)) same.1 none),
            sym (content-same (layout description options) old mid chunk same.0) ∙ damaged,
          ))
          (keeps.each chunk is_chunk)

  pub RanOver-append : CoversShape description.shape description.grid →
      (old mid new : Content) (answers others : List Answer) → RanOver description options commands old mid answers →
      RanOver description options more mid new others → RanOver description options (commands ++ more) old new
      (answers ++ others)
  RanOver-append covers old mid new answers others first second = record {
    keeps = KeepsDamage-append description options commands more old mid new first.keeps second.keeps;
    whole = λ array meant. subst
        (WhollyMeans (layout description options) (undamaged (layout description options) new))
        (sym (array_after-append description commands more array))
        (second.whole (array_after description commands array) (first.whole array meant));
    matches = λ unmet array meant. subst (AllZip (Matches (kind description)) (answers ++ others))
        (sym (replies-append description commands more array))
        (AllZip-append (Matches (kind description)) answers others (replies description commands array)
        (replies description more (array_after description commands array))
        (first.matches (unmet-front old unmet) array meant)
        (second.matches (unmet-rest covers old mid first.keeps unmet) (array_after description commands array)
        (first.whole array meant)));
  }

-- the answers are those of each array that the store means without its damage
pub answers-meant : (description : Description) (options : Options) → CoversShape description.shape description.grid →
    IsSound (layout description options) →
    (commands : List Command) (old new : Content) (answers : List Answer) →
    RanOver description options commands old new answers → AnswersUndamaged description options commands old answers
answers-meant description options covers sound commands old new answers ran unmet array meant =
    let here = layout description options in
    let clean = undamaged here old in
    let start = stored_array here clean in
    let whole : WhollyMeans here clean start = stored_array-meant here covers sound clean meant.honest in
    subst (AllZip (Matches (kind description)) answers)
    (replies-same description commands start array refl
    (meant-same here covers clean start array (Means-from_whole here covers clean start whole) meant))
    (ran.matches unmet start whole)
