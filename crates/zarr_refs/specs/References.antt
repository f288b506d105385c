-- References: which of them are refused, and why.
use Rattle.std.specs.Prelude.{◌≡◌, ℕ, ◌+◌, nat_le, Bool, if◌then◌else◌, List, [], ◌∷◌, ◌++◌, length, bytes_eq, Option}
use Rattle.std.specs.Prelude.{Some, None}
use Rattle.std.specs.List.{list_any}
use Rattle.zarr_model.specs.Prelude.{Content, Shown, Rose, counted}
use Rattle.zarr_refs.specs.declared.reference.Reference.{Reference}
use Rattle.zarr_refs.specs.declared.reference.RefError.{RefError}
use Rattle.zarr_refs.specs.declared.reference.RefError.TheVariants.{RepeatedKey, MissingBase, SliceOutOfBounds, Store}
use Rattle.zarr_refs.specs.declared.reference.RefError.TheVariants.{OutOfMemory}

-- whether one of these references has the key
abbrev pub has_key : List Reference → List ℕ → Bool
has_key references key = list_any (λ r. bytes_eq r.key key) references

-- the first of references whose key one of those before it has, where these stand before them
abbrev pub repeated_after : List Reference → List Reference → Option (List ℕ)
repeated_after before [] = None
repeated_after before (r ∷ rs) =
    if has_key before r.key then Some r.key else repeated_after (before ++ r ∷ []) rs

abbrev pub first_repeated : List Reference → Option (List ℕ)
first_repeated references = repeated_after [] references

-- why a reference does not lie in its base's value
abbrev pub value_unfit : Option (List ℕ) → Reference → Option RefError
value_unfit None r = Some (MissingBase r.key)
value_unfit (Some value) r =
    if nat_le (r.offset + r.length) (length value) then None else Some (SliceOutOfBounds r.key)

abbrev pub reference_unfit : Content → Reference → Option RefError
reference_unfit content r = value_unfit (content r.base) r

-- the first of two errors
abbrev pub or_error : Option RefError → Option RefError → Option RefError
or_error None second = second
or_error (Some error) second = Some error

-- why the first reference that does not lie in its base's value does not
abbrev pub unfit : Content → List Reference → Option RefError
unfit content [] = None
unfit content (r ∷ rs) = or_error (reference_unfit content r) (unfit content rs)

-- an error that names the key that is there already, or tells of memory
abbrev pub IsRepeat : Option (List ℕ) → RefError → Type 0
IsRepeat first (RepeatedKey key) = first ≡ Some key
IsRepeat first (MissingBase key) = ⊥
IsRepeat first (SliceOutOfBounds key) = ⊥
IsRepeat first Store = ⊥
IsRepeat first OutOfMemory = Unit {0}

-- an error that is this one, or that tells of a fault or of memory
abbrev pub IsUnfit : Option RefError → ℕ → ℕ → RefError → Type 0
IsUnfit first before now (RepeatedKey key) = ⊥
IsUnfit first before now (MissingBase key) = first ≡ Some (MissingBase key)
IsUnfit first before now (SliceOutOfBounds key) = first ≡ Some (SliceOutOfBounds key)
IsUnfit first before now Store = Rose before now
IsUnfit first before now OutOfMemory = Unit {0}

-- why references make no store: the first key that an earlier one has, before the base is asked,
-- else the first that does not lie in its base's value, or a fault of the base, or memory
abbrev pub IsRefusedRefs : List Reference → Shown → Shown → RefError → Type 0
IsRefusedRefs references old new (RepeatedKey key) =
    (first_repeated references ≡ Some key) × (new ≡ old)
IsRefusedRefs references old new (MissingBase key) =
    (first_repeated references ≡ None) × (unfit old.content references ≡ Some (MissingBase key))
IsRefusedRefs references old new (SliceOutOfBounds key) =
    (first_repeated references ≡ None) × (unfit old.content references
    ≡ Some (SliceOutOfBounds key))
IsRefusedRefs references old new Store = (first_repeated references ≡ None)
    × Rose old.faults new.faults
IsRefusedRefs references old new OutOfMemory = Unit {0}

-- the same without what the base's count says
abbrev pub IsRefusedApart : List Reference → Content → RefError → Type 0
IsRefusedApart references content (RepeatedKey key) = first_repeated references ≡ Some key
IsRefusedApart references content (MissingBase key) =
    (first_repeated references ≡ None) × (unfit content references ≡ Some (MissingBase key))
IsRefusedApart references content (SliceOutOfBounds key) =
    (first_repeated references ≡ None) × (unfit content references ≡ Some (SliceOutOfBounds key))
IsRefusedApart references content Store = first_repeated references ≡ None
IsRefusedApart references content OutOfMemory = Unit {0}

-- a base was asked so many times by calls that hand out nothing
pub record IsAsked (times : ℕ) (old new : Shown) : Type 0 where
  pub asks : new.asks ≡ counted old.asks times
  pub taken : new.taken ≡ old.taken
  pub puts : new.puts ≡ old.puts
