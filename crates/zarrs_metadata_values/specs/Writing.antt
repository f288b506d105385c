-- Values that documents are written with.
use Rattle.std.specs.Prelude.{◌≡◌, ◌≤◌, ℕ, List, map, Option, Some, None, String, string_bytes}
use Rattle.std.specs.declared.alloc.Global.{Global}
use Rattle.serde_json.specs.Data.{Data, null, number, array, object, unsigned, Items, no_items, item, Members, no_members}
use Rattle.serde_json.specs.Data.{member, put, depth}
use Rattle.serde_json.specs.Read.{read, max_depth}
use Rattle.serde_json.specs.View.{items_of}

-- null where there is none
abbrev pub null_or_data : {Y : Type 0} → (Y → Data) → Option Y → Data
null_or_data written None = null
null_or_data written (Some y) = written y

-- the list of what each is written as
abbrev pub list_data : {Y : Type 0} → (Y → Data) → List Y → Data
list_data written ys = array (items_of (map written ys))

abbrev pub number_data : ℕ → Data
number_data n = number (unsigned n)

abbrev pub numbers_data : List ℕ → Data
numbers_data ns = list_data number_data ns

-- A text of a value reads as it, where it nests no deeper than a text may.
abbrev pub IsTextOf : Data → String Global → Type 0
IsTextOf d text = depth d ≤ max_depth → read (string_bytes text) ≡ Some d

-- a member that is written only where it isn't empty
abbrev pub put_object : List ℕ → Members → Members → Members
put_object key no_members ms = ms
put_object key (member k d ns) ms = put key (object (member k d ns)) ms

abbrev pub put_list : List ℕ → Items → Members → Members
put_list key no_items ms = ms
put_list key (item d ds) ms = put key (array (item d ds)) ms
