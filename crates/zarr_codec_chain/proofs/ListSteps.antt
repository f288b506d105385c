-- Lists walked from the back, and what codecs make of values one after another.
use Rattle.std.proofs.Common.{◌≡◌, ℕ, zero, suc, ◌-◌, ◌<◌, ◌≤◌, List, [], ◌∷◌, ◌++◌, map, length, get_or, take, drop}
use Rattle.std.proofs.Common.{◌+◌, Option, Some, None, option_and_then, sym, ap, ◌∙◌, arith, inl, inr, ⊎_elim, subst}
use Rattle.std.proofs.Math.Seq.{drop-cons, take-suc}
use Rattle.zarr_codec_chain.specs.Prelude.{Options, decode_bytes, IsDecodeError, byte_codecs, bytes_says, said_at}
use Rattle.zarrs_codec_error.specs.declared.error.CodecError.{CodecError}
use Rattle.zarrs_codec_error.specs.declared.error.CodecError.TheVariants.{OutOfMemory}

-- one element more at the front of what was walked
pub at-back : {X : Type 0} (xs : List X) (n : ℕ) (x : X) → 0 < n → n ≤ length xs → x ≡ get_or xs (n - 1) x →
    drop (n - 1) xs ≡ x ∷ drop n xs
at-back {X} xs n x some within here =
    let next : suc (n - 1) ≡ n = omega arith in
    drop-cons xs (n - 1) x (omega arith)
    ∙ (ap (λ (y : X). y ∷ drop (suc (n - 1)) xs) (sym here) ∙ ap (λ (k : ℕ). x ∷ drop k xs) next)

-- one codec more
pub decode-step : {C : Type 0} (f : C → List ℕ → Option (List ℕ)) (cs : List C)
    (n : ℕ) (c : C) (value before : List ℕ) → 0 < n → n ≤ length cs → c ≡ get_or cs (n - 1) c →
    decode_bytes (map f (drop n cs)) value ≡ Some before → decode_bytes (map f (drop (n - 1) cs)) value ≡ f c before
decode-step {C} f cs n c value before some within here done =
    ap (λ (l : List C). decode_bytes (map f l) value) (at-back cs n c some within here)
    ∙ ap (option_and_then (f c)) done

-- where the last codecs give nothing, all give nothing
pub decode-none : {C : Type 0} (f : C → List ℕ → Option (List ℕ)) (cs : List C) (n : ℕ) (value : List ℕ) →
    decode_bytes (map f (drop n cs)) value ≡ None → decode_bytes (map f cs) value ≡ None
decode-none f cs zero value none = none
decode-none f [] (suc n) value none = none
decode-none f (c ∷ cs) (suc n) value none = ap (option_and_then (f c)) (decode-none f cs n value none)

module _ {C : Type 0} (f : C → Options → List ℕ → Option (List ℕ)) (says : C → Options → List ℕ → CodecError → Type 0)
    (under : Options) where
  -- and the errors of the last ones are those of all
  says-up : (cs : List C) (n : ℕ) (value : List ℕ) (e : CodecError) → decode_bytes (byte_codecs f under (drop n cs))
      value ≡ None → bytes_says f says under (drop n cs) value e → bytes_says f says under cs value e
  says-up cs zero value e none said = said
  says-up [] (suc n) value e none said = said
  says-up (c ∷ cs) (suc n) value e none said =
      subst (λ (o : Option (List ℕ)). said_at o (bytes_says f says under cs value) (says c under) e)
      (sym (decode-none (λ (x : C). f x under) cs n value none)) (says-up cs n value e none said)

  -- so an error of the next codec is one of all
  pub decode-error : (cs : List C) (n : ℕ) (c : C) (value before : List ℕ) (e : CodecError) → 0 < n → n ≤ length cs →
      c ≡ get_or cs (n - 1) c →
      decode_bytes (byte_codecs f under (drop n cs)) value ≡ Some before → IsDecodeError (f c under before) (says c
      under before) e → IsDecodeError (decode_bytes (byte_codecs f under cs) value) (bytes_says f says under cs value) e
  decode-error cs n c value before e some within here done cause = ⊎_elim (λ (m : e ≡ OutOfMemory). inl m)
      (λ (nothing : (f c under before ≡ None) × says c under before e).
      let none = decode-step (λ (x : C). f x under) cs n c value before some within here done ∙ nothing.0 in
      inr (
        decode-none (λ (x : C). f x under) cs (n - 1) value none,
        says-up cs (n - 1) value e none
            (subst (λ (l : List C). bytes_says f says under l value e) (sym (at-back cs n c some within here))
            (subst (λ (o : Option (List ℕ)). said_at o (bytes_says f says under (drop n cs) value) (says c under) e)
            (sym done) nothing.1)),
      )) cause

-- what a codec more encodes decodes to what was encoded before
pub decode-more : {C : Type 0} (f : C → List ℕ → Option (List ℕ)) (cs : List C) (c : C) (value before : List ℕ) →
    f c value ≡ Some before → decode_bytes (map f (cs ++ (c ∷ []))) value ≡ decode_bytes (map f cs) before
decode-more f [] c value before e = e
decode-more f (first ∷ cs) c value before e = ap (option_and_then (f first)) (decode-more f cs c value before e)

pub at-next : {X : Type 0} (xs : List X) (n : ℕ) (x : X) → n < length xs → x ≡ get_or xs n x →
    take (n + 1) xs ≡ take n xs ++ (x ∷ [])
at-next {X} xs n x within here = let one : suc n ≡ n + 1 = omega arith in
    ap (λ (k : ℕ). take k xs) (sym one) ∙ (take-suc xs n x within ∙ ap (λ (y : X). take n xs ++ (y ∷ [])) (sym here))

-- the element that a walk from the front is at
pub at-front : {X : Type 0} (xs : List X) (n : ℕ) (x : X) → n < length xs → x ≡ get_or xs n x →
    drop n xs ≡ x ∷ drop (n + 1) xs
at-front {X} xs n x within here = let one : suc n ≡ n + 1 = omega arith in
    drop-cons xs n x within ∙ (ap (λ (y : X). y ∷ drop (suc n) xs) (sym here) ∙ ap (λ (k : ℕ). x ∷ drop k xs) one)
