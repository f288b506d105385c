-- Codecs that serve their level, and what a chunk over two codecs has.
use Rattle.std.proofs.Common.{◌≡◌, ℕ, List, Option, Some, None, IsSome, option_map, ap, ◌∙◌}
use Rattle.zarrs_codec.specs.Prelude.{Element, DataType, Level, Options, Unserved, unserved_at, by_codec}
use Rattle.zarrs_codec_partial_elements.specs.Level.{level_of_bottom, bottom_fill, bottom_list_in}
use Rattle.zarrs_codec_partial_elements.specs.declared.level.BottomLevel.{BottomLevel}
use Rattle.zarrs_codec_traits.specs.Held.{in_memory}
use Rattle.zarrs_codec_partial.specs.Above.{first_unserved}

-- a codec below that serves its level leaves nothing unserved
pub served_below : {B : Type 0} (unserved : B → Option (List ℕ) → Option DataType → Option (List ℕ) → Option Unserved)
    (bottom : BottomLevel B) (codec : B) (level : Level) (fill : List ℕ) (element : Option Element)
    → level_of_bottom bottom ≡ level → bottom_fill bottom ≡ fill → bottom.codec ≡ codec → IsSome element →
    unserved_at (unserved codec) level fill ≡ None
    → first_unserved None (option_map by_codec
    (unserved_at (unserved bottom.codec) (level_of_bottom bottom) (bottom_fill bottom))) element ≡ None
served_below unserved bottom codec level fill None below same code denotes served = cc
served_below unserved bottom codec level fill (Some element) below same code denotes served =
    ap (option_map by_codec)
    (ap (λ l. unserved_at (unserved bottom.codec) l (bottom_fill bottom)) below
    ∙ (ap (unserved_at (unserved bottom.codec) level) same
    ∙ (ap (λ c. unserved_at (unserved c) level fill) code ∙ served)))

-- a value in memory below has the list that it decodes to
pub list_below : {B : Type 0} (meaning : B → Options → Level → List ℕ → Option (List Element)) (bottom : BottomLevel B)
    (codec : B) (level : Level) (under : Options) (held : Option (List ℕ)) (value : List ℕ) (xs : List Element)
    → level_of_bottom bottom ≡ level → bottom.codec ≡ codec → held ≡ Some value →
    meaning codec under level value ≡ Some xs → bottom_list_in meaning bottom (in_memory held) under ≡ Some xs
list_below meaning bottom codec level under held value xs below code there means =
    ap (λ h. bottom_list_in meaning bottom (in_memory h) under) there
    ∙ (ap (λ l. meaning bottom.codec under l value) below ∙ (ap (λ c. meaning c under level value) code ∙ means))
