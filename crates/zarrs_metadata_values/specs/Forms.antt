-- What is of one of two forms.
use Rattle.std.specs.Prelude.{Option, Some, None}
use Rattle.serde_json.specs.Data.{Data}
use Rattle.zarrs_metadata_values.specs.Reading.{◌>>=◌}

-- what is of one form, or of another
pub data Either (A B : Type 0) : Type 0 where
  first : A → Either A B
  second : B → Either A B

-- what the first grammar reads, else what the second does
abbrev pub or_second : {A B : Type 0} → Option B → Option A → Option (Either A B)
or_second other (Some a) = Some (first a)
or_second other None = other >>= λ b. Some (second b)

-- the same of a value
abbrev pub either_of : {A B : Type 0} → (Data → Option A) → (Data → Option B) → Data
    → Option (Either A B)
either_of one other d = or_second (other d) (one d)

-- the value that it is written as
abbrev pub either_data : {A B : Type 0} → (A → Data) → (B → Data) → Either A B → Data
either_data one other (first a) = one a
either_data one other (second b) = other b

-- the same form, changed as those of the form are
abbrev pub in_form : {A B : Type 0} → (A → A) → (B → B) → Either A B → Either A B
in_form one other (first a) = first (one a)
in_form one other (second b) = second (other b)
