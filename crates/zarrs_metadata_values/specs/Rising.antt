-- Values whose objects have their keys in rising order, each once, as those of a `Value` are.
use Rattle.std.specs.Prelude.{◌≡◌, ℕ, List}
use Rattle.std.specs.Ordering.{nat_cmp}
use Rattle.std.specs.Cmp.Lexicographic.{slice_cmp}
use Rattle.std.specs.declared.cmp.Ordering.TheVariants.{Less}
use Rattle.serde_json.specs.Data.{Data, null, boolean, number, string, array, object, Items, no_items, item, Members}
use Rattle.serde_json.specs.Data.{no_members, member}

-- a key comes before those of the members
abbrev pub IsBelowMembers : List ℕ → Members → Type 0
IsBelowMembers key no_members = Unit {0}
IsBelowMembers key (member l d ms) = (slice_cmp nat_cmp key l ≡ Less) × IsBelowMembers key ms

abbrev mutual
  pub Rises : Data → Type 0
  Rises null = Unit {0}
  Rises (boolean b) = Unit {0}
  Rises (number n) = Unit {0}
  Rises (string s) = Unit {0}
  Rises (array ds) = ItemsRise ds
  Rises (object ms) = MembersRise ms

  pub ItemsRise : Items → Type 0
  ItemsRise no_items = Unit {0}
  ItemsRise (item d ds) = Rises d × ItemsRise ds

  pub MembersRise : Members → Type 0
  MembersRise no_members = Unit {0}
  MembersRise (member key d ms) = Rises d × IsBelowMembers key ms × MembersRise ms
