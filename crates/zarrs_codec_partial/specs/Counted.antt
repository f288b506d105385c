-- What is decoded has an element for each place, and is the fill's where the value is absent.
use Rattle.std.specs.Prelude.{◌≡◌, ℕ, false, List, length, replicate, Option, Some, None, IsSome, option_and_then}
use Rattle.std.specs.Prelude.{option_map}
use Rattle.std.proofs.Common.{refl, sym, ap, ◌∙◌}
use Rattle.zarrs_codec_traits.specs.Prelude.{count_of, Element, DataType, fill_element, kind_of, Level, ArrayCodec}
use Rattle.zarrs_codec_traits.specs.Prelude.{Options, Unserved, unserved_at}
use Rattle.zarrs_codec.specs.Lists.{Refused, by_codec, by_fill, ListSeen, fills}
use Rattle.zarrs_codec.proofs.CountLaws.{no_list, no_reason, same_long}
use Rattle.zarrs_codec_partial_elements.proofs.AbsentLaws.{fills_raised}
use Rattle.zarrs_codec_partial.specs.Above.{IsBelow, IsFilled, first_unserved}

-- by why nothing is served, and by the list below
pub raised_count : (codec : ArrayCodec)
    (unserved : Option (List ℕ) → Option DataType → Option (List ℕ) → Option Unserved)
    (level : Level) (fill : List ℕ) (below : ListSeen) (under : Options) (xs : List Element)
    → (unserved_at unserved level fill ≡ None
    → below.level.shape ≡ (codec.level_below level).shape)
    → ((ys zs : List Element) → unserved_at unserved level fill ≡ None
    → length ys ≡ count_of (codec.level_below level).shape → codec.decode_list level ys ≡ Some zs
    → length zs ≡ count_of level.shape)
    → ((ys : List Element) → below.unserved ≡ None → below.list under ≡ Some ys
    → length ys ≡ count_of below.level.shape)
    → first_unserved (unserved_at unserved level fill) below.unserved
    (fill_element (kind_of level.data_type) fill) ≡ None
    → option_and_then (codec.decode_list level) (below.list under) ≡ Some xs
    → length xs ≡ count_of level.shape
raised_count codec unserved level fill below under xs shape counted counted_below served is =
    by (unserved_at unserved level fill) below.unserved
    (fill_element (kind_of level.data_type) fill) (below.list under) shape counted counted_below
    served is
  where
    by : (own : Option Unserved) (other : Option Refused) (element : Option Element)
        (list : Option (List Element))
        → (own ≡ None → below.level.shape ≡ (codec.level_below level).shape)
        → ((ys zs : List Element) → own ≡ None
        → length ys ≡ count_of (codec.level_below level).shape
        → codec.decode_list level ys ≡ Some zs → length zs ≡ count_of level.shape)
        → ((ys : List Element) → other ≡ None → list ≡ Some ys
        → length ys ≡ count_of below.level.shape)
        → first_unserved own other element ≡ None
        → option_and_then (codec.decode_list level) list ≡ Some xs
        → length xs ≡ count_of level.shape
    by own other None list s c d e is = no_reason by_fill e
    by (Some why) other (Some x) list s c d e is = no_reason (by_codec why) e
    by None (Some why) (Some x) list s c d e is = no_reason why e
    by None None (Some x) None s c d e is = no_list xs is
    by None None (Some x) (Some ys) s c d e is =
        c ys xs (λ i. None) (same_long ys (d ys (λ i. None) (λ i. Some ys)) (s (λ i. None))) is

-- the list of the fill below decodes to that of the fill
pub raised_fills : (codec : ArrayCodec) (fill_below : DataType → List ℕ → List ℕ) (level : Level)
    (fill : List ℕ) (below : ListSeen) → IsFilled codec fill_below level fill
    → IsBelow codec fill_below level fill below
    → option_and_then (codec.decode_list level) (fills below.level below.fill)
    ≡ fills level fill
raised_fills codec fill_below level fill below facts is =
    fills_raised codec level below.fill below.level.shape (kind_of below.level.data_type) is.shape
    is.kind (ap (λ f. fill_element (kind_of (codec.level_below level).data_type) f) is.fill
    ∙ facts.below) facts.decodes
    ∙ sym (ap (λ e. option_map (replicate (count_of level.shape)) e) facts.own)

-- by why nothing is served
pub raised_absent : (codec : ArrayCodec) (fill_below : DataType → List ℕ → List ℕ)
    (unserved : Option Unserved) (level : Level) (fill : List ℕ) (below : ListSeen)
    (under : Options) → (unserved ≡ None → IsBelow codec fill_below level fill below)
    → (unserved ≡ None → IsSome (fill_element (kind_of level.data_type) fill)
    → IsFilled codec fill_below level fill)
    → (below.unserved ≡ None → below.there ≡ false
    → below.list under ≡ fills below.level below.fill)
    → first_unserved unserved below.unserved (fill_element (kind_of level.data_type) fill) ≡ None
    → below.there ≡ false
    → option_and_then (codec.decode_list level) (below.list under) ≡ fills level fill
raised_absent codec fill_below unserved level fill below under is facts absent served gone =
    by unserved below.unserved (fill_element (kind_of level.data_type) fill) is facts absent
    served
  where
    by : (own : Option Unserved) (other : Option Refused) (element : Option Element)
        → (own ≡ None → IsBelow codec fill_below level fill below)
        → (own ≡ None → IsSome element → IsFilled codec fill_below level fill)
        → (other ≡ None → below.there ≡ false
        → below.list under ≡ fills below.level below.fill)
        → first_unserved own other element ≡ None
        → option_and_then (codec.decode_list level) (below.list under) ≡ fills level fill
    by own other None i f a e = no_reason by_fill e
    by (Some why) other (Some x) i f a e = no_reason (by_codec why) e
    by None (Some why) (Some x) i f a e = no_reason why e
    by None None (Some x) i f a e =
        ap (λ l. option_and_then (codec.decode_list level) l) (a refl gone)
        ∙ raised_fills codec fill_below level fill below (f refl refl) (i refl)
