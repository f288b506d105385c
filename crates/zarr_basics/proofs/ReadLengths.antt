-- A configuration that says lengths is the one that is written for them.
use Rattle.std.proofs.Common.{◌≡◌, ℕ, Bool, true, false, if◌then◌else◌, List, [], ◌∷◌, map, Option, Some, None, refl}
use Rattle.std.proofs.Common.{ap, ap₂, ◌∙◌}
use Rattle.std.specs.Prelude.{codes, bytes_eq}
use Rattle.serde_json.specs.Data.{Data, null, boolean, number, string, array, object, unsigned, negative, float}
use Rattle.serde_json.specs.Data.{Items, no_items, item, Members, no_members, member}
use Rattle.serde_json.specs.View.{items_of}
use Rattle.zarr_model.specs.Prelude.{are_cut}
use Rattle.zarr_model.proofs.FailureLaws.{same_bytes}
use Rattle.zarrs_metadata_values.specs.Configuration.{only_member}
use Rattle.zarrs_metadata_values.specs.Reading.{◌>>=◌, each, whole_number, whole_numbers}
use Rattle.zarrs_metadata_values.specs.Writing.{number_data, numbers_data}
use Rattle.zarrs_metadata_values.proofs.EachLemmas.{bind_some}
use Rattle.zarr_basics.specs.BoundaryConfigurations.{number_lists, number_lists_data, if_cut, lengths_in}
use Rattle.zarr_basics.specs.BoundaryConfigurations.{lengths_members}

whole_number_back : (d : Data) (n : ℕ) → whole_number d ≡ Some n → d ≡ number_data n
whole_number_back (number (unsigned m)) n e = let same : m ≡ n = cc in ap number_data same
whole_number_back (number (negative z)) n e = cc
whole_number_back (number (float f)) n e = cc
whole_number_back null n e = cc
whole_number_back (boolean b) n e = cc
whole_number_back (string s) n e = cc
whole_number_back (array ds) n e = cc
whole_number_back (object ms) n e = cc

-- items that are read one by one
each_back : {Y : Type 0} (read : Data → Option Y) (written : Y → Data) →
    ((d : Data) (y : Y) → read d ≡ Some y → d ≡ written y) →
    (ds : Items) (ys : List Y) → each read ds ≡ Some ys → ds ≡ items_of (map written ys)
each_back read written back no_items [] e = refl
each_back read written back no_items (y ∷ ys) e = cc
each_back {Y = Y} read written back (item d ds) ys e =
    let first = bind_some (read d) (λ y. each read ds >>= λ rest. Some (y ∷ rest)) ys e in
    let rest = bind_some (each read ds) (λ rest. Some (first.0 ∷ rest)) ys first.2 in
    let whole : first.0 ∷ rest.0 ≡ ys = let is : Some (first.0 ∷ rest.0) ≡ Some ys = rest.2 in cc in
    ap₂ item (back d first.0 first.1) (each_back read written back ds rest.0 rest.1)
    ∙ ap (λ (l : List Y). items_of (map written l)) whole

pub whole_numbers_back : (d : Data) (ns : List ℕ) → whole_numbers d ≡ Some ns → d ≡ numbers_data ns
unfolding whole_numbers
whole_numbers_back (array ds) ns e = ap array (each_back whole_number number_data whole_number_back ds ns e)
whole_numbers_back null ns e = cc
whole_numbers_back (boolean b) ns e = cc
whole_numbers_back (number n) ns e = cc
whole_numbers_back (string s) ns e = cc
whole_numbers_back (object ms) ns e = cc

lists_back : (d : Data) (lists : List (List ℕ)) → number_lists d ≡ Some lists → d ≡ number_lists_data lists
unfolding number_lists
lists_back (array ds) lists e = ap array (each_back whole_numbers numbers_data whole_numbers_back ds lists e)
lists_back null lists e = cc
lists_back (boolean b) lists e = cc
lists_back (number n) lists e = cc
lists_back (string s) lists e = cc
lists_back (object ms) lists e = cc

-- the only member
pub only_member_back : (name : List ℕ) (ms : Members) (value : Data) → only_member name ms ≡ Some value →
    ms ≡ member name value no_members
only_member_back name no_members value e = cc
only_member_back name (member k d (member l d2 ms)) value e = cc
only_member_back name (member k d no_members) value e = go (bytes_eq k name) refl e
  where
    go : (b : Bool) → bytes_eq k name ≡ b → (if b then Some d else None) ≡ Some value →
        member k d no_members ≡ member name value no_members
    go true is some = let same : d ≡ value = cc in
        ap₂ (λ (key : List ℕ) (v : Data). member key v no_members) (same_bytes k name is) same
    go false is some = cc

-- what a test lets through
pub if_back : {A : Type 0} (b : Bool) (x y : A) → (if b then Some x else None) ≡ Some y → x ≡ y
if_back true x y e = cc
if_back false x y e = cc

pub is_written : (shape : List ℕ) (configuration : Option Members) (lengths : List (List ℕ)) →
    lengths_in shape configuration ≡ Some lengths → configuration ≡ Some (lengths_members lengths)
unfolding lengths_in
is_written shape None lengths e = cc
is_written shape (Some ms) lengths e =
    let value = bind_some (only_member (codes "lengths") ms) (λ v. number_lists v >>= if_cut shape) lengths e in
    let lists = bind_some (number_lists value.0) (if_cut shape) lengths value.2 in
    ap Some (only_member_back (codes "lengths") ms value.0 value.1
    ∙ ap (λ (v : Data). member (codes "lengths") v no_members) (lists_back value.0 lists.0 lists.1
    ∙ ap number_lists_data (if_back (are_cut shape lists.0) lists.0 lengths lists.2)))
