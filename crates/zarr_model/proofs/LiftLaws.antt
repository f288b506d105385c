-- A command's end after others is that of the whole list.
use Rattle.std.proofs.Common.{◌≡◌, ℕ, suc, not, Bool, true, List, [], ◌∷◌, take, slice_get, Some, is_some, sym, ap, ◌∙◌}
use Rattle.std.proofs.Common.{subst}
use Rattle.std.specs.List.{list_any}
use Rattle.std.proofs.lemmas.Bool.{and_parts, and_from, or_parts}
use Rattle.std.proofs.lemmas.List.Folds.{list_any-append}
use Rattle.zarr_model.specs.Prelude.{Element, Array, Options, Content, chunk_content, Command, Description, Answer}
use Rattle.zarr_model.specs.Prelude.{layout, after, array_after, erases_chunk, IsCutShort, FailedAt, is_damaged}
use Rattle.zarr_model.specs.Prelude.{is_still_damaged, mended, RanOver, LeftAt}
use Rattle.zarr_model.proofs.StepLaws.{take_one, arrays_step}
use Rattle.zarr_model.proofs.WithoutLaws.{without-same}
use Rattle.zarr_model.proofs.Choices.{none_of, not_true}
use Rattle.zarr_model.proofs.MendedLaws.{content-same, still-start, still-ran}
use Rattle.zarr_model.proofs.LeftLaws.{cut_short-same}

module _ (description : Description) (options : Options) (commands : List Command) (m k : ℕ) (command : Command)
    (by_store : Bool) (here : slice_get commands m ≡ Some command) where
  pub left-lifts : (old mid new : Content) (answers : List Answer) →
      RanOver description options (take m commands) old mid answers →
      LeftAt description options (command ∷ []) 0 k by_store mid new →
      LeftAt description options commands m k by_store old new
  left-lifts old mid new answers ran single = record {
    stands = λ chunk is_chunk still.
        let parts = and_parts (is_damaged (layout description options) old chunk)
        (not (list_any (erases_chunk description chunk) (take (suc m) commands))) still in
        let none = not_true (list_any (erases_chunk description chunk) (take (suc m) commands)) parts.1 in
        let both = or_parts (list_any (erases_chunk description chunk) (take m commands))
        (list_any (erases_chunk description chunk) (command ∷ []))
        (sym (ap (list_any (erases_chunk description chunk)) (take_one commands m command here)
        ∙ list_any-append (erases_chunk description chunk) (take m commands) (command ∷ [])) ∙ none) in
        let then : mid (description.key chunk) ≡ old (description.key chunk) =
        ran.keeps.stands chunk is_chunk (none_of (chunk_content (layout description options) old chunk) parts.0)
        both.0 in
        let hurt : is_damaged (layout description options) mid chunk ≡ true =
        ap (λ o. not (is_some o)) (content-same (layout description options) old mid chunk then) ∙ parts.0 in
        single.stands chunk is_chunk
        (and_from (is_damaged (layout description options) mid chunk)
        (not (list_any (erases_chunk description chunk) (command ∷ []))) hurt (ap not both.1))
        ∙ then;
    left = λ array meant. turn array (single.left (array_after description (take m commands) array)
        (ran.whole array meant));
  }
    where
      same_mended : (key : List ℕ) → mended description options (take m commands) old new key
          ≡ mended description options [] mid new key
      same_mended = without-same (layout description options)
          (is_still_damaged description options (take m commands) old) (is_still_damaged description options [] mid)
          new
          (λ chunk is_chunk. sym (still-ran description options (take m commands) old mid ran.keeps chunk is_chunk)
          ∙ sym (still-start description options mid chunk))

      turn : (array : Array Element) → FailedAt description options (command ∷ []) 0 k by_store
          (array_after description (take m commands) array) (mended description options [] mid new) →
          FailedAt description options commands m k by_store array
          (mended description options (take m commands) old new)
      turn array (other, is, cut) =
          let same : other ≡ command = cc in (
            command,
            here,
            subst (λ now. IsCutShort description options command k by_store
                (array_after description (take m commands) array) now
                (mended description options (take m commands) old new))
                (sym (arrays_step description options commands m command here array))
                (subst (λ c. IsCutShort description options c k by_store
                (array_after description (take m commands) array)
                (after description command (array_after description (take m commands) array))
                (mended description options (take m commands) old new)) same
                (cut_short-same description options other k by_store (array_after description (take m commands) array)
                _ (mended description options [] mid new) (mended description options (take m commands) old new)
                same_mended cut)),
          )
