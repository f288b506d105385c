-- Bands of an array that were moved from one store to another.
use Rattle.std.specs.Prelude.{◌≡◌, ◌≤◌, ◌⊎◌, ℕ, List, [], ◌∷◌, length, take, sum_by, slice_get, true, Some, IsSome}
use Rattle.zarr_model.specs.Prelude.{Region, Element, Array, Grid, IsChunk, chunks_meeting, is_among, chunk_content}
use Rattle.zarr_model.specs.Prelude.{Options, Description, layout, IsHonest, Means, Content, SameOtherKeys, Shown}
use Rattle.zarr_model.specs.Prelude.{counted, elements_in, written, read, reply, SeesNoDamage}

-- an array with the elements of another one at the tuples of some regions
abbrev pub with_regions : {E : Type 0} → Array E → List Region → Array E → Array E
with_regions array [] onto = onto
with_regions array (region ∷ regions) onto =
    with_regions array regions (written region (elements_in region array) onto)

-- how many chunks the regions meet, one after another
abbrev pub chunks_of_each : Grid → List Region → ℕ
chunks_of_each grid regions = sum_by (λ region. length (chunks_meeting grid region)) regions

-- the array of another shape and fill that has an array's elements
abbrev pub in_description : Description → Array Element → Array Element
in_description description array = record {
  shape = description.shape;
  fill = description.fill;
  element = array.element;
}

-- each read of two arrays has the same reply, over these stores
abbrev pub RepliesAlike : Description → Description → Options → Content → Content → Type 0
RepliesAlike source target options from to = (array other : Array Element) (region : Region) →
    Means (layout source options) from array → Means (layout target options) to other →
    reply target (read region) other ≡ reply source (read region) array

-- each chunk decodes, or its key holds what it held
abbrev pub DecodesOrStays : Description → Options → Content → Content → Type 0
DecodesOrStays description options old new = (chunk : List ℕ) → IsChunk description.grid chunk →
    IsSome (chunk_content (layout description options) new chunk)
    ⊎ (new (description.key chunk) ≡ old (description.key chunk))

-- each chunk decoded, or its key holds what it held
abbrev pub DecodedOrStays : Description → Options → Content → Content → Type 0
DecodedOrStays description options old new = (chunk : List ℕ) → IsChunk description.grid chunk →
    IsSome (chunk_content (layout description options) old chunk)
    ⊎ (new (description.key chunk) ≡ old (description.key chunk))

-- some bands meet no damage: reading one sees none in the source, where each chunk that it meets
-- decodes, or holds the part that is read; and each chunk of the target that it meets decodes
pub record MeetsNone (source target : Description) (options : Options) (bands : List Region)
    (from to : Content) : Type 0 where
  pub sees : (number : ℕ) (band : Region) → slice_get bands number ≡ Some band →
      SeesNoDamage source options (read band ∷ []) from
  pub decodes : (number : ℕ) (band : Region) → slice_get bands number ≡ Some band →
      (chunk : List ℕ) → is_among (chunks_meeting target.grid band) chunk ≡ true →
      IsSome (chunk_content (layout target options) to chunk)

-- the first so many bands were moved
pub record AreMoved (source target : Description) (options : Options) (bands : List Region)
    (done : ℕ) (from_before from_now to_before to_now : Shown) : Type 0 where
  -- the source is as it was, and each chunk that a band meets was asked for once
  pub same : (key : List ℕ) → from_now.content key ≡ from_before.content key
  pub asked_from : from_now.asks
      ≡ counted from_before.asks (chunks_of_each source.grid (take done bands))
  pub later_from : from_before.faults ≤ from_now.faults
  -- in the target each chunk that a band meets was asked for once, and there were as many writing
  -- calls
  pub asked_to : to_now.asks
      ≡ counted to_before.asks (chunks_of_each target.grid (take done bands))
  pub put_to : to_now.puts
      ≡ counted to_before.puts (chunks_of_each target.grid (take done bands))
  pub later_to : to_before.faults ≤ to_now.faults
  -- neither store had damage that the bands meet
  pub undamaged : MeetsNone source target options (take done bands) from_before.content
      to_before.content
  -- the other keys are as they were, what was damaged stands, and the bands are written
  pub others : SameOtherKeys (layout target options) to_before.content to_now.content
  pub stays : DecodesOrStays target options to_before.content to_now.content
  pub stood : DecodedOrStays target options to_before.content to_now.content
  pub honest : IsHonest (layout target options) to_before.content →
      IsHonest (layout target options) to_now.content
  pub means : (array onto : Array Element) →
      Means (layout source options) from_before.content array →
      Means (layout target options) to_before.content onto →
      Means (layout target options) to_now.content (with_regions array (take done bands) onto)
