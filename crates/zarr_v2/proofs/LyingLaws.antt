-- How the chunks of an opened version 2 document lie, and what a run prints where a store means an array by
-- that document alone.
use Rattle.std.proofs.Common.{◌≡◌, ◌∙◌, ap, sym, subst, refl, ℕ, List, Option, Some, None}
use Rattle.zarr_model.specs.Prelude.{Grid, IsChunk, Content, Options, Command, Description, layout}
use Rattle.zarr_model.specs.Prelude.{refusal, command_chunks, IsDamageSeen}
use Rattle.zarr_model.proofs.DamageLaws.{listed_at}
use Rattle.zarr_array_open.specs.Document.{ArrayDocument, describe}
use Rattle.zarr_cli_runs.proofs.BetweenLaws.{means_undamaged, asked_chunk}
use Rattle.zarr_cli.specs.Words.{Settings}
use Rattle.zarr_cli.specs.Run.{Prints}
use Rattle.zarr_v2.specs.ChunksV2.{ChunksV2, layout_v2}
use Rattle.zarr_v2.specs.Alike.{DecodeAlike}
use Rattle.zarr_v2.specs.Documents.{LieAlike}
use Rattle.zarr_v2.proofs.MeansLaws.{turned, same_content, means, wholly, other_keys}
use Rattle.zarr_v2.specs.Run.{PrintsV2, IsDamageMetV2}

-- there are such chunks
pub record HasChunksV2 (found : Option ChunksV2) (document : ArrayDocument) : Type 0 where
  pub chunks : ChunksV2
  pub are_chunks : found ≡ Some chunks
  pub lie : (options : Options) → DecodeAlike (layout_v2 chunks) (layout (describe document) options)

pub has_chunks : (found : Option ChunksV2) (document : ArrayDocument) → LieAlike found document →
    HasChunksV2 found document
has_chunks None document lie = absurd lie
has_chunks (Some chunks) document lie = record { chunks = chunks; are_chunks = refl; lie = lie }

-- damage that was seen is met by the version 2 document too
pub met_v2 : (chunks : ChunksV2) (description : Description) (options : Options) →
    DecodeAlike (layout_v2 chunks) (layout description options) →
    (commands : List Command) (store : Content) (key : List ℕ) →
    IsDamageSeen description options commands store key → IsDamageMetV2 chunks description commands store key
met_v2 chunks description options lie commands store key
    (m, command, which, asks, chunk, listed, its_key, unerased, damage, noticed) =
    let (k, here) = listed_at (command_chunks description command) chunk listed in
    let is_chunk = subst (λ (g : Grid). IsChunk g chunk) lie.grid
    (asked_chunk description (refusal description command) command k chunk here asks) in (
      m,
      command,
      which,
      asks,
      chunk,
      listed,
      sym (ap (λ (f : List ℕ → List ℕ). f chunk) lie.key) ∙ its_key,
      unerased,
      sym (same_content (layout_v2 chunks) (layout description options) lie store chunk is_chunk) ∙ damage,
    )

-- what was printed, for an array that the store meant by the version 2 document
pub prints_v2 : (chunks : ChunksV2) (description : Description) (settings : Settings) →
    DecodeAlike (layout_v2 chunks) (layout description settings.options) →
    (commands : List Command) (old new : Content) (output : List ℕ) →
    Prints description settings commands old new output →
    PrintsV2 chunks description commands settings.dump old new output
prints_v2 chunks description settings lie commands old new output prints =
    let first = layout_v2 chunks in
    let second = layout description settings.options in
    let away = turned first second lie in record {
      replied = λ array meant. prints.replied array
          (means_undamaged description settings.options commands old array (means first second lie old array meant));
      left = λ array meant.
          means second first away new _ (prints.left.array_left array (means first second lie old array meant));
      whole = λ array meant.
          wholly second first away new _ (prints.left.whole_chunks array (wholly first second lie old array meant));
      keys = other_keys second first away old new prints.left.keys.other_keys;
    }
