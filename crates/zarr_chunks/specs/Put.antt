-- What putting a chunk into a store leaves.
use Rattle.std.specs.Prelude.{◌≡◌, ◌⊎◌, ◌&&◌, not, ℕ, Bool, true, false, List, Option, Some, None}
use Rattle.std.specs.List.{list_all}
use Rattle.zarrs_codec_traits.specs.Prelude.{Element, same_element, Level, Options, Content}

-- whether all elements are the fill, and whether a chunk of these is not stored
abbrev pub is_blank_list : Level → List Element → Bool
is_blank_list level list = list_all (same_element level.fill) list

abbrev pub is_list_dropped : Options → Level → List Element → Bool
is_list_dropped options level list = not options.store_empty_chunks && is_blank_list level list

-- what values decode to, under each choice of options
abbrev pub Decoding : Type 0
Decoding = Options → List ℕ → Option (List Element)

-- what stands under a key decodes to a list, under all options
abbrev pub HoldsDecoded : Decoding → List Element → Option (List ℕ) → Type 0
HoldsDecoded decode list None = ⊥
HoldsDecoded decode list (Some value) = (under : Options) → decode under value ≡ Some list

-- a chunk was put: absent where it is dropped, else by a value that decodes to it
abbrev pub IsPutValue : Decoding → Bool → List Element → Option (List ℕ) → Type 0
IsPutValue decode true list value = value ≡ None
IsPutValue decode false list value = HoldsDecoded decode list value

-- and no other key was changed
pub record PutsChunk (decode : Decoding) (drops : Bool) (list : List Element) (old new : Content)
    (key : List ℕ) : Type 0 where
  pub here : IsPutValue decode drops list (new key)
  pub others : (other : List ℕ) → ¬ (other ≡ key) → new other ≡ old other

-- a chunk was put, or its key is as before or absent
pub record MayPutChunk (decode : Decoding) (drops : Bool) (list : List Element) (old new : Content)
    (key : List ℕ) : Type 0 where
  pub here : (new key ≡ old key) ⊎ (IsPutValue decode drops list (new key) ⊎ (new key ≡ None))
  pub others : (other : List ℕ) → ¬ (other ≡ key) → new other ≡ old other
