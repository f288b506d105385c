-- Bytes with their digest behind them.
use Rattle.std.proofs.Common.{◌≡◌, ℕ, ◌+◌, ◌-◌, ◌≤◌, ◌<◌, Bool, true, false, not, ◌||◌, ◌&&◌, nat_le, List, ◌++◌}
use Rattle.std.proofs.Common.{length, take, drop, Some, None, refl, sym, ap, ap₂, ◌∙◌, subst, arith, inr}
use Rattle.std.proofs.lemmas.List.{length-append, take_at, drop_at}
use Rattle.std.proofs.lemmas.Bool.{cond-true, cond-false, le-leb, lt-leb}
use Rattle.std.specs.Prelude.{bytes_eq}
use Rattle.sha2.specs.Sha256.{sha256}
use Rattle.sha2.proofs.Facts256.{length-sha256}
use Rattle.zarr_model.specs.Codec.{checksum_codec}
use Rattle.zarr_model.proofs.FailureLaws.{bytes_eq-refl}
use Rattle.zarrs_codec_error.specs.declared.error.CodecError.{CodecError}
use Rattle.zarrs_codec_error.specs.declared.error.CodecError.TheVariants as codec
use Rattle.zarrs_codec_traits.specs.Prelude.{told_by, wrong_length, IsDecodeError}
use Rattle.zarr_codecs_to_bytes.specs.Sha256.{ends_in_digest, says_digest, sha256_says}

any : (validate : Bool) → (true && (not validate || true)) ≡ true
any true = refl
any false = refl

none : (room : Bool) → (room && false) ≡ false
none true = refl
none false = refl

pub digest_back : (validate : Bool) (bytes all : List ℕ) → all ≡ bytes ++ sha256 bytes →
    checksum_codec validate all ≡ Some bytes
digest_back validate bytes all is =
    let long : length all ≡ length bytes + 32 =
    ap length is ∙ (length-append bytes (sha256 bytes) ∙ ap (λ (n : ℕ). length bytes + n) (length-sha256 bytes)) in
    let less : length all - 32 ≡ length bytes = omega (arith, long) in
    let room : 32 ≤ length all = omega (arith, long) in
    let front : take (length all - 32) all ≡ bytes =
    ap₂ (λ (n : ℕ) (l : List ℕ). take n l) less is ∙ take_at bytes (sha256 bytes) (length bytes) refl in
    let back : drop (length all - 32) all ≡ sha256 bytes =
    ap₂ (λ (n : ℕ) (l : List ℕ). drop n l) less is ∙ drop_at bytes (sha256 bytes) (length bytes) refl in
    let right : ends_in_digest all ≡ true = ap₂ bytes_eq (ap sha256 front) back ∙ bytes_eq-refl (sha256 bytes) in
    let fine : (nat_le 32 (length all) && (not validate || ends_in_digest all)) ≡ true =
    ap₂ (λ a b. a && (not validate || b)) (le-leb _ _ room) right ∙ any validate in
    cond-true _ _ _ fine ∙ ap Some front

-- each value is what some value decodes to
pub digested : (validate : Bool) (value : List ℕ) → (stored : List ℕ) × (checksum_codec validate stored ≡ Some value)
digested validate value = (value ++ sha256 value, digest_back validate value (value ++ sha256 value) refl)

pub digest_kept : (validate : Bool) (value : List ℕ) → 32 ≤ length value → (not validate || ends_in_digest value) ≡
    true → checksum_codec validate value ≡ Some (take (length value - 32) value)
digest_kept validate value room intact = cond-true _ _ _ (ap₂ (λ a b. a && b) (le-leb _ _ room) intact)

pub wrong_digest : (validate : Bool) (value : List ℕ) → 32 ≤ length value → (not validate || ends_in_digest value) ≡
    false → IsDecodeError (checksum_codec validate value) (sha256_says value) codec.InvalidChecksum
wrong_digest validate value room broken =
    let nothing : checksum_codec validate value ≡ None =
    cond-false _ _ _ (ap (λ b. nat_le 32 (length value) && b) broken ∙ none (nat_le 32 (length value))) in
    inr (nothing, subst (λ b. says_digest b value codec.InvalidChecksum) (sym (le-leb _ _ room)) refl)

pub too_short : (validate : Bool) (value : List ℕ) (e : CodecError) → length value < 32 →
    told_by e ≡ wrong_length (length value) 32 → IsDecodeError (checksum_codec validate value) (sha256_says value) e
too_short validate value e short tells =
    let room : nat_le 32 (length value) ≡ false = lt-leb _ _ short in
    let nothing : checksum_codec validate value ≡ None =
    cond-false _ _ _ (ap (λ b. b && (not validate || ends_in_digest value)) room) in
    inr (nothing, subst (λ b. says_digest b value e) (sym room) tells)
