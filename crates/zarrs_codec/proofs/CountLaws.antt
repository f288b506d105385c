-- How many elements lists have.
use Rattle.std.proofs.Common.{◌≡◌, ℕ, Bool, true, false, List, length, replicate, Option, Some, None, option_map, sym}
use Rattle.std.proofs.Common.{ap, ◌∙◌}
use Rattle.std.proofs.lemmas.List.{length-replicate}
use Rattle.zarrs_codec.specs.Prelude.{count_of, Element, fill_element, kind_of, Level, fills}

pub no_list : {P : Type 0} (xs : List Element) → None ≡ Some xs → P
no_list xs is = cc

repeated : (element : Option Element) (n : ℕ) (xs : List Element) → option_map (replicate n) element ≡ Some xs →
    length xs ≡ n
repeated None n xs is = cc
repeated (Some x) n xs is = let same : replicate n x ≡ xs = cc in ap length (sym same) ∙ length-replicate n x

pub fills_count : (level : Level) (fill : List ℕ) (xs : List Element) → fills level fill ≡ Some xs →
    length xs ≡ count_of level.shape
fills_count level fill xs is = repeated (fill_element (kind_of level.data_type) fill) (count_of level.shape) xs is

pub no_reason : {P A : Type 0} (why : A) → Some why ≡ None → P
no_reason why is = cc

pub same_long : {a b : List ℕ} (ys : List Element) → length ys ≡ count_of a → a ≡ b → length ys ≡ count_of b
same_long ys long same = long ∙ ap count_of same

-- a value is there, or is not
pub no_value : {P : Type 0} (there : Bool) → true ≡ there → there ≡ false → P
no_value true here gone = cc
no_value false here gone = cc

pub still_there : {P : Type 0} → true ≡ false → P
still_there gone = cc
