-- Layouts that decode alike: what a store means by one it means by the other.
use Rattle.std.proofs.Common.{◌≡◌, ◌∙◌, ap, ap₂, sym, subst, ℕ, List, Option, Some, None, IsSome, IsTrue}
use Rattle.std.specs.Prelude.{get_or, replicate}
use Rattle.zarr_model.specs.Prelude.{count, sizes, whole, contains, place, Element, Array, elements_in, Content, Layout}
use Rattle.zarr_model.specs.Prelude.{Grid, IsChunk, IsHonest, Means, WhollyMeans, SameOtherKeys, box_content}
use Rattle.zarr_model.specs.Prelude.{chunk_content}
use Rattle.zarr_v2.specs.Alike.{DecodeAlike}

module _ (first second : Layout Element) (alike : DecodeAlike first second) where
  pub turned : DecodeAlike second first
  turned = record {
    shape = sym alike.shape;
    fill = sym alike.fill;
    grid = sym alike.grid;
    key = sym alike.key;
    decode = λ chunk value is.
        let here = subst (λ (g : Grid). IsChunk g chunk) alike.grid is in
        subst (λ (g : Grid). first.decode (sizes (g.chunk_box chunk)) value ≡
        second.decode (sizes (g.chunk_box chunk)) value) (sym alike.grid)
        (sym (alike.decode chunk value here));
  }

  same_box : (chunk : List ℕ) (found : Option (List ℕ)) → IsChunk first.grid chunk →
      box_content second (first.grid.chunk_box chunk) found ≡ box_content first (first.grid.chunk_box chunk) found
  same_box chunk None is = ap (λ (f : Element). Some (replicate (count (first.grid.chunk_box chunk)) f)) alike.fill
  same_box chunk (Some value) is = alike.decode chunk value is

  pub same_content : (store : Content) (chunk : List ℕ) → IsChunk first.grid chunk →
      chunk_content second store chunk ≡ chunk_content first store chunk
  same_content store chunk is =
      ap₂ (λ (g : Grid) (k : List ℕ → List ℕ). box_content second (g.chunk_box chunk) (store (k chunk))) alike.grid
      alike.key
      ∙ same_box chunk (store (first.key chunk)) is

  pub honest : (store : Content) → IsHonest first store → IsHonest second store
  honest store h = λ chunk is.
      let here = subst (λ (g : Grid). IsChunk g chunk) alike.grid is in
      subst (λ (o : Option (List Element)). IsSome o) (sym (same_content store chunk here)) (h chunk here)

  pub wholly : (store : Content) (array : Array Element) → WhollyMeans first store array →
      WhollyMeans second store array
  wholly store array w = record {
    shape = w.shape ∙ sym alike.shape;
    fill = w.fill ∙ sym alike.fill;
    each_chunk = λ chunk is.
        let here = subst (λ (g : Grid). IsChunk g chunk) alike.grid is in
        same_content store chunk here
        ∙ (w.each_chunk chunk here ∙ ap (λ (g : Grid). Some (elements_in (g.chunk_box chunk) array)) (sym alike.grid));
  }

  -- keys that are no chunk's by one are none by the other
  pub other_keys : (old new : Content) → SameOtherKeys first old new → SameOtherKeys second old new
  other_keys old new same key free = same key (λ (chunk, is, its).
      free (
        chunk,
        subst (λ (g : Grid). IsChunk g chunk) (sym alike.grid) is,
        ap (λ (k : List ℕ → List ℕ). k chunk) alike.key ∙ its,
      ))

  pub means : (store : Content) (array : Array Element) → Means first store array → Means second store array
  means store array m = record {
    shape = m.shape ∙ sym alike.shape;
    fill = m.fill ∙ sym alike.fill;
    honest = honest store m.honest;
    inside = λ chunk elements tuple is has box inside.
        let here = subst (λ (g : Grid). IsChunk g chunk) alike.grid is in
        let has_first = sym (same_content store chunk here) ∙ has in
        let box_first = subst (λ (g : Grid). IsTrue (contains (g.chunk_box chunk) tuple)) alike.grid box in
        let shape_first = subst (λ (s : List ℕ). IsTrue (contains (whole s) tuple)) alike.shape inside in
        ap₂ (λ (g : Grid) (f : Element). get_or elements (place (g.chunk_box chunk) tuple) f) alike.grid alike.fill
        ∙ m.inside chunk elements tuple here has_first box_first shape_first;
  }
