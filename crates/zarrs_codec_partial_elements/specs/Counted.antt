-- What is held has an element for each place, and is the fill's where the value is absent.
use Rattle.std.specs.Prelude.{◌≡◌, ℕ, Bool, true, false, is_some, List, length, Option, Some, None}
use Rattle.zarrs_codec.specs.Prelude.{count_of, Element, Level, Held, fills}
use Rattle.zarrs_codec.proofs.CountLaws.{no_list, fills_count, no_value, still_there}
use Rattle.zarrs_codec_partial_elements.specs.Level.{list_of, found}

-- by what the value is: refused, absent, or some bytes
pub listed_count : (decode : List ℕ → Option (List Element)) (level : Level) (fill : List ℕ)
    (held : Held) (xs : List Element)
    → ((value : List ℕ) → decode value ≡ Some xs → length xs ≡ count_of level.shape)
    → list_of decode (fills level fill) held ≡ Some xs → length xs ≡ count_of level.shape
listed_count decode level fill None xs all is = no_list xs is
listed_count decode level fill (Some None) xs all is = fills_count level fill xs is
listed_count decode level fill (Some (Some value)) xs all is = all value is

-- by what a read gives
pub listed_absent : (decode : List ℕ → Option (List Element)) (absent : Option (List Element))
    (there : Bool) (held : Held)
    → ((value : Option (List ℕ)) → held ≡ Some value → is_some value ≡ there)
    → there ≡ false → list_of decode absent (found there held) ≡ absent
listed_absent decode absent there (Some None) all gone = λ i. absent
listed_absent decode absent there (Some (Some value)) all gone =
    no_value there (all (Some value) (λ i. Some (Some value))) gone
listed_absent decode absent false None all gone = λ i. absent
listed_absent decode absent true None all gone = still_there gone
