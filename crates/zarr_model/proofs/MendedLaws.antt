-- The damage that stands after commands, and a store without it.
use Rattle.std.proofs.Common.{◌≡◌, ℕ, ◌&&◌, not, Bool, true, false, List, [], None, is_some, IsSome, refl, sym, ap, ◌∙◌}
use Rattle.std.proofs.Common.{⊎_elim}
use Rattle.std.specs.List.{list_any}
use Rattle.std.proofs.lemmas.Bool.{true≢false}
use Rattle.zarr_model.specs.Prelude.{IsChunk, Options, Content, Layout, IsHonest, box_content, chunk_content, Command}
use Rattle.zarr_model.specs.Prelude.{Description, layout, erases_chunk, KeepsDamage, without_chunks, is_damaged}
use Rattle.zarr_model.specs.Prelude.{is_still_damaged, mended}
use Rattle.zarr_model.proofs.WithoutLaws.{without-none, without-same}
use Rattle.zarr_model.proofs.Choices.{none_of}

-- a chunk whose key holds the same has the same content
pub content-same : {E : Type 0} (place : Layout E) (old new : Content) (chunk : List ℕ) → new (place.key chunk)
    ≡ old (place.key chunk) →
    chunk_content place new chunk ≡ chunk_content place old chunk
content-same place old new chunk same = ap (box_content place (place.grid.chunk_box chunk)) same

pub and_not_false : (a b : Bool) → b ≡ false → (a && not b) ≡ a
and_not_false true b e = ap not e
and_not_false false b e = refl

not_both : (a b : Bool) → (a ≡ true → b ≡ false → ⊥) → (a && not b) ≡ false
not_both false b h = refl
not_both true true h = refl
not_both true false h = absurd (h refl refl)

-- of no command: what is damaged at the start
pub still-start : (description : Description) (options : Options) (old : Content) (chunk : List ℕ) →
    is_still_damaged description options [] old chunk ≡ is_damaged (layout description options) old chunk
still-start description options old chunk = and_not_false (is_damaged (layout description options) old chunk) false
    refl

pub honest-mended : (description : Description) (options : Options) (commands : List Command) (old new : Content) →
    IsHonest (layout description options) old → (key : List ℕ) →
    mended description options commands old new key ≡ new key
honest-mended description options commands old new honest = without-none (layout description options)
    (is_still_damaged description options commands old) new
    (λ chunk is_chunk. not_both (is_damaged (layout description options) old chunk)
    (list_any (erases_chunk description chunk) commands) (λ damaged none.
    true≢false (sym damaged ∙ ap not (honest chunk is_chunk))))

-- after commands that ran a chunk is damaged exactly where it still is
pub still-ran : (description : Description) (options : Options) (commands : List Command) (old mid : Content) →
    KeepsDamage description options commands old mid →
    (chunk : List ℕ) → IsChunk description.grid chunk → is_damaged (layout description options) mid chunk
    ≡ is_still_damaged description options commands old chunk
still-ran description options commands old mid keeps chunk is_chunk = ⊎_elim
    (λ (good : IsSome (chunk_content (layout description options) mid chunk)).
    ap not good ∙ sym (not_both (is_damaged (layout description options) old chunk)
    (list_any (erases_chunk description chunk) commands) (λ damaged none.
    let gone : chunk_content (layout description options) old chunk ≡ None =
    none_of (chunk_content (layout description options) old chunk) damaged in
    let stands = keeps.stands chunk is_chunk gone none in
    let then : chunk_content (layout description options) mid chunk ≡ None =
    content-same (layout description options) old mid chunk stands ∙ gone in
    true≢false (sym good ∙ ap is_some then))))
    (λ (same : (mid (description.key chunk) ≡ old (description.key chunk))
    × (list_any (erases_chunk description chunk) commands ≡ false)).
    ap (λ o. not (is_some o)) (content-same (layout description options) old mid chunk same.0)
    ∙ sym (and_not_false (is_damaged (layout description options) old chunk)
    (list_any (erases_chunk description chunk) commands) same.1))
    (keeps.each chunk is_chunk)

pub ran-mended : (description : Description) (options : Options) (commands : List Command) (old mid : Content) →
    KeepsDamage description options commands old mid → (store : Content) → (key : List ℕ) →
    without_chunks (layout description options) (is_damaged (layout description options) mid) store key
    ≡ mended description options commands old store key
ran-mended description options commands old mid keeps store =
    without-same (layout description options) (is_damaged (layout description options) mid)
    (is_still_damaged description options commands old) store
    (still-ran description options commands old mid keeps)
