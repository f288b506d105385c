-- The words, one after another.
use Rattle.std.proofs.Common.{◌≡◌, ℕ, ◌+◌, ◌<◌, Bool, List, ◌∷◌, length, drop, get_or}
use Rattle.std.proofs.Common.{Option, Some, None, inl, inr, option_and_then, String, string_bytes, refl, sym, ap, ap₂}
use Rattle.std.proofs.Common.{add-one, ◌∙◌, subst}
use Rattle.std.proofs.Math.Seq.{drop-cons}
use Rattle.zarr_model.specs.Prelude.{Options}
use Rattle.zarr_cli.specs.Words.{Settings, is_known, with_words, settings_of, unless_made, reading_settings}
use Rattle.zarr_cli.specs.Words.{ReadsBy, MakesFrom, MakesNothing}
use Rattle.zarr_cli.specs.Status.{words_of}

-- the word at a place, and those behind it
pub words_left : {Z : Type 0} (words : List (String Z)) (i : ℕ) (word : String Z) → i < length words →
    word ≡ get_or words i word →
    words_of (drop i words) ≡ string_bytes word ∷ words_of (drop (i + 1) words)
words_left words i word within here =
    let dropped : drop i words ≡ word ∷ drop (i + 1) words =
    drop-cons words i word within ∙ ap₂ (λ w n. w ∷ drop n words) (sym here) (sym (add-one i)) in
    ap words_of dropped

pub word_refused : {Z : Type 0} (words : List (String Z)) (i : ℕ) (word : String Z)
    (pending : Bool) (settings : Settings) → i < length words → word ≡ get_or words i word →
    with_words is_known pending (string_bytes word ∷ words_of (drop (i + 1) words)) settings ≡ None →
    with_words is_known pending (words_of (drop i words)) settings ≡ settings_of (words_of words) →
    None ≡ settings_of (words_of words)
word_refused words i word pending settings within here is so_far =
    sym is ∙ (ap (λ l. with_words is_known pending l settings) (sym (words_left words i word within here)) ∙ so_far)

-- words have one setting
one_setting : (a b : Settings) → Some a ≡ Some b → a ≡ b
one_setting a b e = cc

one_number : (a b : ℕ) → Some a ≡ Some b → a ≡ b
one_number a b e = cc

-- what holds of the number and the options of the words' settings holds of those that the words make from
pub from_made : (P : ℕ → Options → Type 0) (words : List (List ℕ)) (settings : Settings) (held : ℕ) →
    settings_of words ≡ Some settings → settings.make ≡ Some held → P held settings.options →
    (number : ℕ) (options : Options) → MakesFrom words number options → P number options
from_made P words settings held set is holds number options makes =
    let same : settings ≡ makes.0 = one_setting settings makes.0 (sym set ∙ makes.1) in
    let many : held ≡ number = one_number held number (sym is ∙ (ap (λ s. s.make) same ∙ makes.2)) in
    let under : settings.options ≡ options = ap (λ s. s.options) same ∙ makes.3 in
    subst (λ n. P n options) many (subst (λ o. P held o) under holds)

-- words that read, and bad ones, make nothing
pub not_made : (words : List (List ℕ)) (settings : Settings) (number : ℕ) (options : Options) →
    settings_of words ≡ Some settings → settings.make ≡ None → MakesFrom words number options → ⊥
not_made words settings number options set none makes =
    let same : settings ≡ makes.0 = one_setting settings makes.0 (sym set ∙ makes.1) in
    let both : None ≡ Some number = sym none ∙ (ap (λ s. s.make) same ∙ makes.2) in cc

pub bad_not_made : (words : List (List ℕ)) (number : ℕ) (options : Options) → settings_of words ≡ None →
    MakesFrom words number options → ⊥
bad_not_made words number options bad makes = let both : None ≡ Some makes.0 = sym bad ∙ makes.1 in cc

pub made_not : (words : List (List ℕ)) (settings : Settings) (number : ℕ) → settings_of words ≡ Some settings →
    settings.make ≡ Some number → MakesNothing words → ⊥
made_not words settings number set is (inl bad) = let both : None ≡ Some settings = sym bad ∙ set in cc
made_not words settings number set is (inr (other, reads)) =
    let same : settings ≡ other = one_setting settings other (sym set ∙ reads.0) in
    let both : Some number ≡ None = sym is ∙ (ap (λ s. s.make) same ∙ reads.1) in cc

-- words that call for the input to be read have their settings without a number
pub reading_is : (words : List (List ℕ)) (settings : Settings) → ReadsBy words settings →
    reading_settings words ≡ Some settings
reading_is words settings reads =
    ap (option_and_then (λ (s : Settings). unless_made s.make s)) reads.0 ∙ ap (λ o. unless_made o settings) reads.1

pub reads_by : (words : List (List ℕ)) (settings : Settings) → reading_settings words ≡ Some settings →
    ReadsBy words settings
reads_by words settings is = go (settings_of words) refl is
  where
    at : (s : Settings) → settings_of words ≡ Some s → (o : Option ℕ) → s.make ≡ o → unless_made o s ≡ Some settings →
        ReadsBy words settings
    at s known None none one = let same : s ≡ settings = cc in
        (known ∙ ap Some same, ap (λ (t : Settings). t.make) (sym same) ∙ none)
    at s known (Some n) some one = absurd cc

    go : (o : Option Settings) → settings_of words ≡ o →
        option_and_then (λ (s : Settings). unless_made s.make s) o ≡ Some settings → ReadsBy words settings
    go None known one = absurd cc
    go (Some s) known one = at s known s.make refl one
