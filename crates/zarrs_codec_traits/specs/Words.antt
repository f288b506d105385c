-- Levels, lists of elements and regions of them.
use Rattle.std.specs.Prelude.{◌≡◌, ℕ, ◌+◌, ◌*◌, ◌^◌, ◌<◌, Bool, true, false, List, map, get_or, Option, Some, None}
use Rattle.std.specs.Prelude.{IsSome, replicate}
use Rattle.std.specs.List.{AllByRecursion}
use Rattle.zarr_model.specs.Region.{Region, whole, tuples, place, sizes, count_of}
use Rattle.zarr_model.specs.Element.{Element, of_bytes, null, some, DataType, kind_of, fixed_size}
use Rattle.zarr_model.specs.ArrayBytes.{ArrayBytes, meaning}
use Rattle.zarr_model.specs.Codec.{Level}
use Rattle.zarrs_codec_slices.specs.Picking.{size_in}
use Rattle.zarrs_codec_array_bytes.specs.declared.array_bytes.ArrayBytes as code
use Rattle.zarrs_codec_array_bytes.specs.Raw.{raw_of}

-- the list that array bytes mean at a level, if they are valid
abbrev pub list_at : Level → ArrayBytes → Option (List Element)
list_at level bytes = meaning (kind_of level.data_type) (count_of level.shape) bytes

-- array bytes are the fill everywhere in a level
abbrev pub IsBlank : Level → code.ArrayBytes → Type 0
IsBlank level bytes =
    list_at level (raw_of bytes) ≡ Some (replicate (count_of level.shape) level.fill)

-- what was given is what is wanted, and is there
pub record Gives {A : Type 0} (given wanted : Option A) : Type 0 where
  pub same : given ≡ wanted
  pub there : IsSome given

-- the elements of a shape's list at a region, in its order
abbrev pub select : List ℕ → Region → List Element → List Element
select shape region xs =
    map (λ tuple. get_or xs (place (whole shape) tuple) null) (tuples region)

-- the level of a box
abbrev pub at_box : Region → Level → Level
at_box region level = record level { shape = sizes region }

-- the elements of a shape can be counted and their bytes be addressed
pub record IsFit (shape : List ℕ) (data_type : DataType) : Type 0 where
  pub count : count_of shape + 1 < 2 ^ 64
  pub bytes : count_of shape * size_in (fixed_size (kind_of data_type)) < 2 ^ 64

-- the numbers in an element are bytes
abbrev pub AreBytes : Element → Type 0
AreBytes (of_bytes value) = AllByRecursion (λ b. b < 256) value
AreBytes null = Unit {0}
AreBytes (some element) = AreBytes element

-- an argument that a call takes, or does not take
abbrev pub taken : {A : Type 0} → Bool → A → Option A
taken true x = Some x
taken false x = None
