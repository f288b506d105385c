-- The words of the command line.
use Rattle.std.specs.Prelude.{◌≡◌, ◌⊎◌, ℕ, Bool, true, false, if◌then◌else◌, List, [], ◌∷◌, codes, bytes_eq, Option}
use Rattle.std.specs.Prelude.{Some, None, option_and_then}
use Rattle.zarr_model.specs.Prelude.{Options}
use Rattle.zarrs_plugin.specs.Number.{number_of}

-- what the words set; with a number to make from, the input is not read
pub record Settings : Type 0 where
  pub dump : Bool
  pub options : Options
  pub make : Option ℕ

abbrev pub first_settings : Settings
first_settings = record {
  dump = false;
  options = record { store_empty_chunks = false; validate_checksums = true };
  make = None;
}

-- the settings after one more word that takes no number, if it is one of the words
abbrev pub with_word : List ℕ → Settings → Option Settings
with_word word settings =
    if bytes_eq word (codes "--dump") then Some (record settings { dump = true })
    else if bytes_eq word (codes "--store-empty-chunks")
    then Some (record settings { options = record settings.options { store_empty_chunks = true } })
    else if bytes_eq word (codes "--no-checksums")
    then Some (record settings { options = record settings.options { validate_checksums = false } })
    else None

-- The settings after a list of words, if each is known and `--make` has its number behind it. The
-- test says whether the first word has to be that number.
abbrev pub with_words : (List ℕ → Bool) → Bool → List (List ℕ) → Settings → Option Settings
with_words knows false [] settings = Some settings
with_words knows true [] settings = None
with_words knows false (word ∷ words) settings =
    if knows word
    then (if bytes_eq word (codes "--make") then with_words knows true words settings
    else option_and_then (with_words knows false words) (with_word word settings))
    else None
with_words knows true (word ∷ words) settings =
    option_and_then (λ n. with_words knows false words (record settings { make = Some n }))
    (number_of word)

-- whether the program knows a word
abbrev pub is_known : List ℕ → Bool
is_known word = if bytes_eq word (codes "--dump") then true
    else if bytes_eq word (codes "--make") then true
    else if bytes_eq word (codes "--store-empty-chunks") then true
    else bytes_eq word (codes "--no-checksums")

-- the settings of the words, if each is known and each `--make` has its number
abbrev pub settings_of : List (List ℕ) → Option Settings
settings_of words = with_words is_known false words first_settings

-- a word is not known, or a `--make` has no number behind it
abbrev pub HasBadWords : List (List ℕ) → Type 0
HasBadWords words = settings_of words ≡ None

-- the settings of words that call for the input to be read
abbrev pub unless_made : Option ℕ → Settings → Option Settings
unless_made None settings = Some settings
unless_made (Some number) settings = None

abbrev pub reading_settings : List (List ℕ) → Option Settings
reading_settings words =
    option_and_then (λ settings. unless_made settings.make settings) (settings_of words)

-- a word is not known to a program that reads its input whatever the words say, which has no
-- `--make`
abbrev pub HasNoReading : List (List ℕ) → Type 0
HasNoReading words = reading_settings words ≡ None

-- the words are known, and call for the input to be read
abbrev pub ReadsBy : List (List ℕ) → Settings → Type 0
ReadsBy words settings = (settings_of words ≡ Some settings) × (settings.make ≡ None)

abbrev pub IsReading : List (List ℕ) → Type 0
IsReading words = (settings : Settings) × ReadsBy words settings

-- the words are known, and say that the run is made from a number, under these options
abbrev pub MakesFrom : List (List ℕ) → ℕ → Options → Type 0
MakesFrom words number options = (settings : Settings) × (settings_of words ≡ Some settings)
    × (settings.make ≡ Some number) × (settings.options ≡ options)

-- the words do not say so: they are bad, or call for the input to be read
abbrev pub MakesNothing : List (List ℕ) → Type 0
MakesNothing words = HasBadWords words ⊎ IsReading words
