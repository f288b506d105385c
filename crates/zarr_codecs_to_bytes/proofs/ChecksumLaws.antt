-- Bytes with their CRC-32C behind them.
use Rattle.std.proofs.Common.{◌≡◌, ℕ, zero, suc, ◌+◌, ◌-◌, ◌/◌, ◌%◌, ◌≤◌, ◌<◌, Bool, true, false, not, ◌||◌, ◌&&◌}
use Rattle.std.proofs.Common.{nat_le, List, [], ◌∷◌, ◌++◌, length, take, drop, Some, None, refl, sym, ap, ap₂, ◌∙◌}
use Rattle.std.proofs.Common.{subst, arith, inr}
use Rattle.std.proofs.lemmas.List.{length-append, take_at, drop_at}
use Rattle.std.proofs.lemmas.Bool.{cond-true, cond-false, le-leb, lt-leb}
use Rattle.std.specs.Prelude.{bytes_eq}
use Rattle.zarrs_codec_traits.specs.Prelude.{low_bytes, told_by, wrong_length, IsDecodeError}
use Rattle.zarr_model.proofs.FailureLaws.{bytes_eq-refl}
use Rattle.zarrs_codec_error.specs.declared.error.CodecError.{CodecError}
use Rattle.zarrs_codec_error.specs.declared.error.CodecError.TheVariants as codec
use Rattle.zarr_codecs_to_bytes.specs.Crc32c.{crc32c, crc32c_bytes, crc32c_codec, ends_in_crc32c}
use Rattle.zarr_codecs_to_bytes.specs.Crc32cCodec.{says_number, crc32c_says}

any : (validate : Bool) → (true && (not validate || true)) ≡ true
any true = refl
any false = refl

none : (room : Bool) → (room && false) ≡ false
none true = refl
none false = refl

pub length-low : (n number : ℕ) → length (low_bytes n number) ≡ n
length-low zero number = refl
length-low (suc n) number = ap suc (length-low n (number / 256))

pub length-number : (bytes : List ℕ) → length (crc32c_bytes bytes) ≡ 4
length-number bytes = length-low 4 (crc32c bytes)

pub number_back : (validate : Bool) (bytes all : List ℕ) → all ≡ bytes ++ crc32c_bytes bytes →
    crc32c_codec validate all ≡ Some bytes
number_back validate bytes all is =
    let long : length all ≡ length bytes + 4 = ap length is
    ∙ (length-append bytes (crc32c_bytes bytes) ∙ ap (λ (n : ℕ). length bytes + n) (length-number bytes)) in
    let less : length all - 4 ≡ length bytes = omega (arith, long) in
    let room : 4 ≤ length all = omega (arith, long) in
    let front : take (length all - 4) all ≡ bytes =
    ap₂ (λ (n : ℕ) (l : List ℕ). take n l) less is ∙ take_at bytes (crc32c_bytes bytes) (length bytes) refl in
    let back : drop (length all - 4) all ≡ crc32c_bytes bytes =
    ap₂ (λ (n : ℕ) (l : List ℕ). drop n l) less is ∙ drop_at bytes (crc32c_bytes bytes) (length bytes) refl in
    let right : ends_in_crc32c all ≡ true =
    ap₂ bytes_eq (ap crc32c_bytes front) back ∙ bytes_eq-refl (crc32c_bytes bytes) in
    let fine : (nat_le 4 (length all) && (not validate || ends_in_crc32c all)) ≡ true =
    ap₂ (λ a b. a && (not validate || b)) (le-leb _ _ room) right ∙ any validate in
    cond-true _ _ _ fine ∙ ap Some front

pub number_kept : (validate : Bool) (value : List ℕ) → 4 ≤ length value →
    (not validate || ends_in_crc32c value) ≡ true → crc32c_codec validate value ≡ Some (take (length value - 4) value)
number_kept validate value room intact = cond-true _ _ _ (ap₂ (λ a b. a && b) (le-leb _ _ room) intact)

pub wrong_number : (validate : Bool) (value : List ℕ) → 4 ≤ length value → (not validate || ends_in_crc32c value) ≡
    false → IsDecodeError (crc32c_codec validate value) (crc32c_says value) codec.InvalidChecksum
wrong_number validate value room broken =
    let nothing : crc32c_codec validate value ≡ None =
    cond-false _ _ _ (ap (λ b. nat_le 4 (length value) && b) broken ∙ none (nat_le 4 (length value))) in
    inr (nothing, subst (λ b. says_number b value codec.InvalidChecksum) (sym (le-leb _ _ room)) refl)

pub too_short : (validate : Bool) (value : List ℕ) (e : CodecError) → length value < 4 →
    told_by e ≡ wrong_length (length value) 4 → IsDecodeError (crc32c_codec validate value) (crc32c_says value) e
too_short validate value e short tells =
    let room : nat_le 4 (length value) ≡ false = lt-leb _ _ short in
    let nothing : crc32c_codec validate value ≡ None =
    cond-false _ _ _ (ap (λ b. b && (not validate || ends_in_crc32c value)) room) in
    inr (nothing, subst (λ b. says_number b value e) (sym room) tells)

pub of_number : (n : ℕ) → low_bytes 4 n ≡ n % 256 ∷ n / 256 % 256 ∷ n / 256 / 256 % 256 ∷ n / 256 / 256 / 256 % 256 ∷ []
of_number n = refl
