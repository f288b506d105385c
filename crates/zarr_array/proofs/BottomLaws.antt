-- The level and the box below the array-to-array codecs of a document.
use Rattle.std.proofs.Common.{◌≡◌, ℕ, true, List, [], ◌∷◌, map, refl, sym, ap, ◌∙◌}
use Rattle.zarr_codec_chain.specs.Prelude.{Region, ends_within, Level, box_under, first_level, bottom_level, steps}
use Rattle.zarr_codec_chain.specs.Prelude.{boxes_below, last_item, bottom_box}
use Rattle.zarr_codec_chain.specs.Levels.{Step, above, top, AreLinked}
use Rattle.zarr_codec_chain.specs.declared.levels.ChunkLevels.{ChunkLevels}
use Rattle.zarr_codec_chain.proofs.RegionLaws.{inside-bottom}
use Rattle.zarr_codec_chain.proofs.StepLaws.{codecs_are, top_is, inside_top}
use Rattle.zarr_array_open.specs.kinds.array_to_array.ArrayToArray.{array_codec_of}
use Rattle.zarr_array_open.specs.kinds.array_to_array.Laws.{box_inside}
use Rattle.zarr_array_open.specs.kinds.array_to_array.Views.{array_form}
use Rattle.zarr_array_open.specs.kinds.array_to_array.declared.array_to_array.BasicArrayToArray.{BasicArrayToArray}
use Rattle.zarr_array_open.specs.Chain.{BasicChain}
use Rattle.zarr_array_open.specs.ChunkLevels.{chunk_shape, chunk_level, ServesShape}
use Rattle.zarr_array_open.specs.Codecs.{array_meaning, array_unserved}
use Rattle.zarr_array_open.specs.Document.{ArrayDocument, ChainForm}
use Rattle.zarr_array_open.specs.Parts.{documented_parts, described_parts}
use Rattle.zarr_array_open.specs.declared.parts.ArrayParts.{ArrayParts}
use Rattle.zarr_array.specs.Codecs.{box_below}
use Rattle.zarr_array.specs.Told.{level_below_all}

-- the level of the array-to-bytes codec is the one below the document's array-to-array codecs
level_is : (down : List (Step BasicArrayToArray)) (bottom : Level) → AreLinked array_meaning array_unserved down
    bottom → bottom ≡ level_below_all (map (λ s. array_form s.codec) down) (top down bottom)
level_is [] bottom linked = refl
level_is (step ∷ down) bottom linked =
    level_is down bottom linked.1 ∙ ap (level_below_all (map (λ s. array_form s.codec) down)) (sym linked.0.below)

-- the box at the bottom is the one below the document's array-to-array codecs
bottom_box_is : (down : List (Step BasicArrayToArray)) (bottom : Level) (box : Region) →
    AreLinked array_meaning array_unserved down bottom →
    last_item (boxes_below box_below down box) box ≡
    box_under (map array_codec_of (map (λ s. array_form s.codec) down)) (top down bottom) box
bottom_box_is [] bottom box linked = refl
bottom_box_is (step ∷ down) bottom box linked =
    let below : Region = box_below step.codec (above step).shape box in
    bottom_box_is down bottom below linked.1
    ∙
    ap (λ (l : Level). box_under (map array_codec_of (map (λ s. array_form s.codec) down)) l below) (sym linked.0.below)

module _ (array : ArrayParts) (chain : BasicChain) (levels : ChunkLevels) (chunk : List ℕ)
    (serves : ServesShape array (chunk_shape (described_parts array) chunk) chain levels) where
  abbrev document : ArrayDocument
  document = documented_parts array

  pub bottom_is : bottom_level levels ≡
      level_below_all document.array_codecs (chunk_level (described_parts array) chunk)
  bottom_is =
      level_is (steps chain levels) (bottom_level levels) serves.serves.served.linked
      ∙ (ap (λ l. level_below_all l (top (steps chain levels) (bottom_level levels)))
      (codecs_are array_form chain.array_codecs.items levels.above.items serves.serves.served.count
      ∙ ap (λ (f : ChainForm). f.array_codecs) serves.forms)
      ∙ ap (level_below_all document.array_codecs) (top_is chain.array_codecs.items levels.above.items
      (bottom_level levels) serves.serves.served.count ∙ serves.level))

  -- the box at the bottom that a box of the chunk needs
  abbrev pub below : Region → Region
  below within = bottom_box box_below (steps chain levels) within

  pub below_inside : (within : Region) → ends_within within (first_level levels).shape ≡ true →
      ends_within (below within) (bottom_level levels).shape ≡ true
  below_inside within inside =
      inside-bottom array_meaning array_unserved box_below (bottom_level levels) (λ c level fill region served lies.
      box_inside c level region served lies) (steps chain levels) within serves.serves.served.linked
      (inside_top chain.array_codecs.items levels.above.items (bottom_level levels) within serves.serves.served.count
      inside)

  pub below_is : (within : Region) → below within ≡
      box_under (map array_codec_of document.array_codecs) (chunk_level (described_parts array) chunk) within
  below_is within =
      bottom_box_is (steps chain levels) (bottom_level levels) within serves.serves.served.linked
      ∙ (ap (λ l. box_under (map array_codec_of l) (top (steps chain levels) (bottom_level levels)) within)
      (codecs_are array_form chain.array_codecs.items levels.above.items serves.serves.served.count
      ∙ ap (λ (f : ChainForm). f.array_codecs) serves.forms)
      ∙ ap (λ (l : Level). box_under (map array_codec_of document.array_codecs) l within)
      (top_is chain.array_codecs.items levels.above.items (bottom_level levels) serves.serves.served.count
      ∙ serves.level))
