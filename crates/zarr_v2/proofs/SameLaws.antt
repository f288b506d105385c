-- A store means the same arrays by a version 2 document as by the one that it is translated to.
use Rattle.std.proofs.Common.{◌≡◌, ◌⊎◌, ◌∙◌, ap, sym, subst, refl, ℕ, Bool, true, false, List, length, Option, Some}
use Rattle.std.proofs.Common.{None, Ok, Err, Result, inl, inr}
use Rattle.std.specs.Prelude.{◌==◌}
use Rattle.std.specs.Bool.{⊤}
use Rattle.std.proofs.lemmas.Bool.{eq-eqb}
use Rattle.zarr_model.specs.Prelude.{v2_keys, KeyEncoding, DataType, layout}
use Rattle.zarrs_metadata_parts.specs.Names.{separator_code}
use Rattle.zarrs_metadata.specs.ArrayMetadata.{ArrayFields}
use Rattle.zarrs_metadata_v2.specs.ArrayMetadataV2.{ArrayV2, HasChunks}
use Rattle.zarr_basics.specs.GridConfigurations.{are_chunk_lengths}
use Rattle.zarr_basics.specs.GridForms.{ChunkGrid, regular, grid_of}
use Rattle.zarr_basics.specs.Registries.{builtin_names}
use Rattle.zarr_array_open.specs.Document.{ChainForm, ArrayDocument, describe, document_with}
use Rattle.zarr_array_open.specs.Opening.{OpenRefusal, plugin_create, expect_chain, is_large}
use Rattle.zarr_array_open.specs.Opening.{document_of, served_document, chunk_too_large}
use Rattle.zarr_array_open.specs.Opening as opening
use Rattle.zarr_v2.specs.ElementType.{element_type}
use Rattle.zarr_v2.specs.Translate.{fields_v2, translated}
use Rattle.zarr_v2.specs.ChunksV2.{ChunksV2, layout_v2}
use Rattle.zarr_v2.specs.Documents.{chunks_with, chunks_filled, chunks_typed, chunks_of, chain_v2, LieAlike}
use Rattle.zarr_v2.specs.Documents.{MeansTheSame}
use Rattle.zarr_v2.proofs.MeansLaws.{means, turned}
use Rattle.zarr_v2.proofs.StepLaws.{described, not_described}
use Rattle.zarr_v2.proofs.FillLaws.{HasFill, has_fill}
use Rattle.zarr_v2.proofs.ServedLaws.{chain_served}
use Rattle.zarr_v2.proofs.TranslatedLaws.{IsMadeOf, made_of}
use Rattle.zarr_v2.proofs.AlikeLaws.{document_by, alike}

only_large : (keys : KeyEncoding) (chain : ChainForm) (type : DataType) (dims : List ℕ)
    (grid : ChunkGrid) (filler : List ℕ) → expect_chain chain type ≡ Ok tt →
    ((d : ArrayDocument) × (served_document keys chain type dims grid filler ≡ Ok d)) ⊎
    (served_document keys chain type dims grid filler ≡ Err chunk_too_large)
only_large keys chain type dims grid filler h = go (is_large chain.to_bytes type filler (grid_of dims grid)) refl
  where
    go : (b : Bool) → is_large chain.to_bytes type filler (grid_of dims grid) ≡ b →
        ((d : ArrayDocument) × (served_document keys chain type dims grid filler ≡ Ok d)) ⊎
        (served_document keys chain type dims grid filler ≡ Err chunk_too_large)
    go true is = inr (rw (h, is) refl)
    go false is = inl (document_with keys chain type dims grid filler, rw (h, is) refl)

pub only_chunks : (a : ArrayV2) (f : ArrayFields) → HasChunks a → translated a ≡ Ok f →
    ((d : ArrayDocument) × (document_of builtin_names f ≡ Ok d)) ⊎ (document_of builtin_names f ≡ Err chunk_too_large)
only_chunks a f positive answers =
    let made = made_of a f answers in
    let s = made.stored in
    let fill = has_fill s.element a.fill_value made.fill made.filled in
    let ranks : (length a.chunks == length a.shape) ≡ true = eq-eqb (length a.chunks) (length a.shape) made.ranks in
    let fits : are_chunk_lengths a.shape a.chunks ≡ true = rw (ranks, positive) refl in
    let is : document_of builtin_names f
    ≡ served_document (v2_keys (separator_code a.dimension_separator)) (chain_v2 a.order (length a.shape) s.order)
    (element_type s.element) a.shape
    (regular a.chunks) fill.filler =
    sym (ap (document_of builtin_names) made.fields) ∙ described a s made.fill fill.filler fits fill.denotes in
    subst (λ (answer : Result ArrayDocument OpenRefusal). ((d : ArrayDocument) × (answer ≡ Ok d)) ⊎
    (answer ≡ Err chunk_too_large)) (sym is)
    (only_large (v2_keys (separator_code a.dimension_separator)) (chain_v2 a.order (length a.shape) s.order)
    (element_type s.element) a.shape
    (regular a.chunks) fill.filler
    (chain_served a.order (length a.shape) a.dtype s made.typed))

-- two steps that are passed give what stands behind them
passed : {A : Type 0} (first second : Result ⊤ OpenRefusal) (x y : A) →
    opening.◌>>=◌ first (λ _. opening.◌>>=◌ second (λ _. Ok x)) ≡ Ok y → x ≡ y
passed (Ok _) (Ok _) x y e = cc
passed (Ok _) (Err why) x y e = cc
passed (Err why) second x y e = cc

not_opened : (P : Type 0) (d : ArrayDocument) → Err plugin_create ≡ Ok d → P
not_opened P d e = cc

-- the chunks lie as those of the document that is opened
pub lie_alike : (a : ArrayV2) (f : ArrayFields) (d : ArrayDocument) → translated a ≡ Ok f →
    document_of builtin_names f ≡ Ok d → LieAlike (chunks_of a) d
lie_alike a f d answers opens = go (are_chunk_lengths a.shape a.chunks) refl
  where
    made : IsMadeOf a f
    made = made_of a f answers

    fill : HasFill made.stored.element a.fill_value made.fill
    fill = has_fill made.stored.element a.fill_value made.fill made.filled

    opened : document_of builtin_names (fields_v2 a made.stored made.fill) ≡ Ok d
    opened = ap (document_of builtin_names) made.fields ∙ opens

    chunks : chunks_of a ≡ Some (chunks_with a made.stored fill.filler)
    chunks = ap (chunks_typed a) made.typed ∙ ap (chunks_filled a made.stored) fill.own

    go : (b : Bool) → are_chunk_lengths a.shape a.chunks ≡ b → LieAlike (chunks_of a) d
    go true fits =
        let is : document_by a made.stored fill.filler ≡ d = passed _ _ (document_by a made.stored fill.filler) d
        (sym (described a made.stored made.fill fill.filler fits fill.denotes) ∙ opened) in
        subst (λ (o : Option ChunksV2). LieAlike o d) (sym chunks)
        (subst (LieAlike (Some (chunks_with a made.stored fill.filler))) is
        (λ options. alike a made.stored fill.filler options fits))
    go false fits = not_opened (LieAlike (chunks_of a) d) d (sym (not_described a made.stored made.fill fits) ∙ opened)

-- so a store means the same arrays by both
pub both_ways : (o : Option ChunksV2) (d : ArrayDocument) → LieAlike o d → MeansTheSame o d
both_ways None d lie = lie
both_ways (Some chunks) d lie = λ options store array.
    let first = layout_v2 chunks in
    let second = layout (describe d) options in
    (means first second (lie options) store array, means second first (turned first second (lie options)) store array)

pub means_the_same : (a : ArrayV2) (f : ArrayFields) (d : ArrayDocument) → translated a ≡ Ok f →
    document_of builtin_names f ≡ Ok d →
    MeansTheSame (chunks_of a) d
means_the_same a f d answers opens = both_ways (chunks_of a) d (lie_alike a f d answers opens)
