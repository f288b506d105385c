-- Elements at an indexer's indices, and a target that they are put into.
use Rattle.std.specs.Prelude.{◌≡◌, ◌==◌, ◌&&◌, ◌⊎◌, ℕ, Bool, true, false, List, length, Option, Some, None, IsSome}
use Rattle.std.specs.Prelude.{Result, IfOk, IfErr, OnOk}
use Rattle.zarrs_codec_traits.specs.Prelude.{Region, ArrayBytes, meaning, Level, Options, picked, raw_of, BytesAnswer}
use Rattle.zarrs_codec_traits.specs.Prelude.{fine, told_by, linear, ArePut, count, count_of, region as box_of, select}
use Rattle.zarrs_codec_traits.specs.Prelude.{has_long_element, first_answer, IfUnfit, RefusesAs, RefusesCount}
use Rattle.zarrs_codec_traits.specs.Prelude.{into_answer, held_by, IsTargetOf, IsPut}
use Rattle.zarr_model.specs.Element.{Element, null, kind_of}
use Rattle.zarrs_array_subset.specs.declared.error.IndexerError.{IndexerError}
use Rattle.zarrs_codec_error.specs.declared.error.CodecError.{CodecError}
use Rattle.zarrs_codec_array_bytes.specs.declared.array_bytes.ArrayBytes as code
use Rattle.zarrs_codec_array_bytes_parts.specs.declared.array_bytes_fixed_disjoint_view.ArrayBytesFixedDisjointView.{
  ArrayBytesFixedDisjointView,
}
use Rattle.zarrs_codec.specs.Boxes.{is_all}
use Rattle.zarrs_codec.specs.Lists.{ListSeen, HasListFill, HasShortFill, ReadsList, IsListError, IsUnread}
use Rattle.zarrs_codec.specs.Lists.{RefusesFor, TellsFault}

-- those of a level's list at some places
abbrev pub chosen : Level → List (List ℕ) → List Element → List Element
chosen level places list = picked null (linear level.shape places) list

-- elements that are asked for: how many, and which of a list
pub record Choice : Type 0 where
  pub number : ℕ
  pub pick : List Element → List Element

-- all of a level's, those of a box, and those at some tuples
abbrev pub every : Level → Choice
every level = record { number = count_of level.shape; pick = λ list. list }

abbrev pub boxed : Region → Level → Choice
boxed box level = record { number = count box; pick = select level.shape box }

abbrev pub placed : List (List ℕ) → Level → Choice
placed places level = record { number = length places; pick = chosen level places }

-- an indexer over a shape: whether it fits, how it is refused where it does not, the box that it
-- is, if it is one, and its places
pub record Indexed : Type 1 where
  pub fits : Bool
  pub refuses : IndexerError → Type 0
  pub asked : Option Region
  pub places : List (List ℕ)

abbrev pub indexed : {I : Type 0} → (I → List ℕ → Bool) → (I → List ℕ → IndexerError → Type 0)
    → (I → Option Region) → (I → List (List ℕ)) → List ℕ → I → Indexed
indexed fits refuses as_region places shape indexer = record {
  fits = fits indexer shape;
  refuses = refuses indexer shape;
  asked = as_region indexer;
  places = places indexer;
}

-- some elements of what is held, where what was tested is in order
pub record Selects (under : Options) (asked : Option Region) (choice : Choice) (in_order : Bool)
    (tells : CodecError → Type 0) (old new : ListSeen) (result : Result code.ArrayBytes CodecError)
    : Type 0 where
  -- of what has a list it gives the list's; of what has none, but a fill value, valid ones
  pub value : (list : List Element) → old.unserved ≡ None → old.list under ≡ Some list
      → IfOk result (λ v. meaning (kind_of old.level.data_type) choice.number (raw_of v)
      ≡ Some (choice.pick list))
  pub valid : old.unserved ≡ None → HasListFill old → IfOk result
      (λ v. IsSome (meaning (kind_of old.level.data_type) choice.number (raw_of v)))
  -- it fails for a reason that is told of what is held
  pub failed : old.unserved ≡ None → in_order ≡ true → IfErr result
      (IsListError old.there (old.list under) tells old.shown.faults new.shown.faults)
  -- what is read as a whole has a list, and so has what all is read of
  pub decodes : old.unserved ≡ None → old.there ≡ true → old.whole asked ≡ true
      → OnOk result (IsSome (old.list under))
  pub all : old.unserved ≡ None → HasListFill old → is_all old.level.shape asked ≡ true
      → OnOk result (IsSome (old.list under))
  pub named : in_order ≡ true → RefusesFor old.unserved result
  -- where none that is held is long, none that is given is
  pub short : old.unserved ≡ None → HasShortFill old
      → IfOk result (λ v. has_long_element (raw_of v) ≡ false)
  pub fault : IfErr result (TellsFault old.shown.faults new.shown.faults)
  pub reads : ReadsList asked old new result

-- a read at an indexer's indices: one that does not fit is refused first, by its own refusal, and
-- nothing is read
pub record ReadsIndexed (under : Options) (at : Indexed)
    (tells : Options → Option Region → CodecError → Type 0) (old new : ListSeen)
    (result : Result code.ArrayBytes CodecError) : Type 0 where
  pub unfit : RefusesAs (first_answer None at.fits fine) result
  pub refusal : at.fits ≡ false → IfErr result (IfUnfit at.refuses)
  pub unread : at.fits ≡ false → IsUnread old.shown new.shown
  pub selects : Selects under at.asked (placed at.places old.level) at.fits
      (tells under at.asked) old new result

-- a read for a target of so many elements: another number than the indexer's is refused first, and
-- then an indexer that does not fit, and nothing is read in either case
pub record CountsIndexed {T : Type 0} (num : ℕ) (at : Indexed) (old new : ListSeen)
    (result : Result T CodecError) : Type 0 where
  pub counted : RefusesCount (num == length at.places) num (length at.places) result
  pub unfit : (num == length at.places) ≡ true
      → RefusesAs (first_answer None at.fits fine) result
  pub refusal : (num == length at.places) ≡ true → at.fits ≡ false
      → IfErr result (IfUnfit at.refuses)
  pub unread : ((num == length at.places) && at.fits) ≡ false → IsUnread old.shown new.shown

-- what is held has a list, or its fill value denotes an element
abbrev pub HasListOrFill : Options → ListSeen → Type 0
HasListOrFill under seen = IsSome (seen.list under) ⊎ HasListFill seen

-- the same for a target, which answers so to these elements
pub record SelectsInto {T : Type 0} (under : Options) (asked : Option Region) (in_order : Bool)
    (tells : CodecError → Type 0) (answer : BytesAnswer) (old new : ListSeen)
    (result : Result T CodecError) : Type 0 where
  pub taken : old.unserved ≡ None → HasListOrFill under old → OnOk result (answer ≡ fine)
  pub failed : old.unserved ≡ None → HasListOrFill under old → in_order ≡ true → IfErr result
      (λ e. IsListError old.there (old.list under) tells old.shown.faults new.shown.faults e
      ⊎ (told_by e ≡ answer))
  -- of a value that is read as a whole and does not decode, the target is not asked
  pub undecoded : old.unserved ≡ None → in_order ≡ true → old.there ≡ true
      → old.whole asked ≡ true → old.list under ≡ None → IfErr result
      (IsListError old.there (old.list under) tells old.shown.faults new.shown.faults)
  pub decodes : old.unserved ≡ None → old.there ≡ true → old.whole asked ≡ true
      → OnOk result (IsSome (old.list under))
  pub all : old.unserved ≡ None → HasListFill old → is_all old.level.shape asked ≡ true
      → OnOk result (IsSome (old.list under))
  pub named : in_order ≡ true → RefusesFor old.unserved result
  pub fault : IfErr result (TellsFault old.shown.faults new.shown.faults)
  pub reads : ReadsList asked old new result

-- a read into a target's views, of which the innermost has as many elements as the target
pub record ReadsInto {T : Type 0} (under : Options) (at : Indexed)
    (tells : Options → Option Region → CodecError → Type 0)
    (masks : List ArrayBytesFixedDisjointView) (view : ArrayBytesFixedDisjointView)
    (old new : ListSeen) (result : Result T CodecError) : Type 0 where
  pub counts : CountsIndexed (count (box_of view.part.subset)) at old new result
  pub selects : SelectsInto under at.asked
      ((count (box_of view.part.subset) == length at.places) && at.fits) (tells under at.asked)
      (into_answer (kind_of old.level.data_type) (length at.places) masks view) old new result

-- some array bytes were put into a target's views, each into its view's box, and nothing else of
-- the views' bytes changed
pub record KeepsFrame (olds news : List ArrayBytesFixedDisjointView)
    (from to : ArrayBytesFixedDisjointView) : Type 0 where
  pub bytes : ArrayBytes
  pub put : ArePut bytes olds news from to

-- what is put into a target's views: the elements at the places, or nothing
pub record PutsInto {T : Type 0} (under : Options) (places : List (List ℕ)) (seen : ListSeen)
    (olds news : List ArrayBytesFixedDisjointView) (from to : ArrayBytesFixedDisjointView)
    (result : Result T CodecError) : Type 0 where
  -- as a list, where the target is one for so many elements
  pub put : (list : List Element) → seen.unserved ≡ None → seen.list under ≡ Some list
      → IsTargetOf (kind_of seen.level.data_type) (length places) olds from
      → IfOk result (λ _. held_by news to ≡ chosen seen.level places list)
  -- in bytes: those that were put, and those that are as before
  pub written : (list : List Element) → seen.unserved ≡ None → seen.list under ≡ Some list
      → IfOk result (λ _. IsPut (kind_of seen.level.data_type) (length places)
      (Some (chosen seen.level places list)) olds news from to)
  pub framed : IfOk result (λ _. KeepsFrame olds news from to)
  pub kept : IfErr result (λ _. (to ≡ from) × (news ≡ olds))
