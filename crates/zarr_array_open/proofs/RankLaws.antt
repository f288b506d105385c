-- Each array-to-array codec of an opened chain serves shapes of the array's rank.
use Rattle.std.proofs.Common.{◌≡◌, ℕ, Bool, true, false, if◌then◌else◌, List, [], ◌∷◌, Option, Some, None, option_map}
use Rattle.std.proofs.Common.{Result, Ok, Err, refl, ap, subst}
use Rattle.std.proofs.lemmas.Bool.{and_from}
use Rattle.zarrs_codec_traits.specs.Prelude.{Names, Extension}
use Rattle.zarr_codecs.specs.Plain.{Plain}
use Rattle.zarr_basics.specs.kinds.array_to_array.ArrayToArray.{ArrayToArray, array_has_rank}
use Rattle.zarr_codecs.specs.BytesToBytes.{BytesToBytes}
use Rattle.zarr_codecs.specs.CodecForm.{CodecForm}
use Rattle.zarr_codecs.specs.CodecForm as code
use Rattle.zarr_codecs.specs.declared.codec_kind.CodecKind.{CodecKind}
use Rattle.zarr_array_open.specs.Document.{ChainForm}
use Rattle.zarr_array_open.specs.Chain.{leading, behind, all_byte_codecs, chain_behind, chain_in, all_ranked}
use Rattle.zarr_array_open.specs.Opening.{OpenRefusal, plugin_create, chain_order, or_refused, codec_by, has_rank}
use Rattle.zarr_array_open.specs.Opening.{if_ranked, codec_at, codecs_by}
use Rattle.zarr_array_open.proofs.OpeningLaws.{codecs_are, bind_ok, joined}

-- an answer is of one codec or chain alone
abbrev form_is : CodecForm → Result CodecForm OpenRefusal
form_is codec = Ok codec

same_form : (c d : CodecForm) → form_is c ≡ form_is d → c ≡ d
same_form c d e = cc

same_forms : (cs ds : List CodecForm) → codecs_are cs ≡ codecs_are ds → cs ≡ ds
same_forms cs ds e = cc

abbrev chain_is : ChainForm → Result ChainForm OpenRefusal
chain_is chain = Ok chain

same_chain : (c d : ChainForm) → chain_is c ≡ chain_is d → c ≡ d
same_chain c d e = cc

-- a codec that passes the test has the rank
its_rank : (rank : ℕ) (c d : CodecForm) → if_ranked rank c ≡ Ok d → has_rank rank d ≡ true
its_rank rank c d e = go (has_rank rank c) refl e
  where
    go : (b : Bool) → has_rank rank c ≡ b → (if b then Ok c else Err plugin_create) ≡ Ok d → has_rank rank d ≡ true
    go true is e = subst (λ x. has_rank rank x ≡ true) (same_form c d e) is
    go false is e = absurd cc

one_more_ranked : (rank : ℕ) (c : CodecForm) (cs : List CodecForm) → has_rank rank c ≡ true →
    all_ranked rank (leading cs) ≡ true → all_ranked rank (leading (c ∷ cs)) ≡ true
one_more_ranked rank (code.array_codec c) cs here rest =
    and_from (array_has_rank rank c) (all_ranked rank (leading cs)) here rest
one_more_ranked rank (code.to_bytes c) cs here rest = refl
one_more_ranked rank (code.byte_codec c) cs here rest = refl

-- and so has each of the codecs that a document's list begins with
pub codecs_ranked : (rank : ℕ) (names : Names CodecKind) (es : List Extension) (cs : List CodecForm) →
    codecs_by rank names es ≡ Ok cs → all_ranked rank (leading cs) ≡ true
codecs_ranked rank names [] cs e = subst (λ l. all_ranked rank (leading l) ≡ true) (same_forms [] cs e) refl
codecs_ranked rank names (x ∷ es) cs e =
    let a = bind_ok (codec_at rank names x) (joined rank names es) cs e in
    let b = bind_ok (codecs_by rank names es) (λ zs. Ok (a.0 ∷ zs)) cs a.2 in
    let made = bind_ok (codec_by names x) (if_ranked rank) a.0 a.1 in
    subst (λ l. all_ranked rank (leading l) ≡ true) (same_forms (a.0 ∷ b.0) cs b.2)
    (one_more_ranked rank a.0 b.0 (its_rank rank made.0 a.0 made.2) (codecs_ranked rank names es b.0 b.1))

-- which are the array-to-array codecs of the chain that the list is
abbrev chain_with : List ArrayToArray → Plain → List BytesToBytes → ChainForm
chain_with arrays codec others = record { array_codecs = arrays; to_bytes = codec; byte_codecs = others }

arrays_with : (arrays : List ArrayToArray) (codec : Plain) (others : Option (List BytesToBytes)) (chain : ChainForm) →
    or_refused chain_order (option_map (chain_with arrays codec) others) ≡ Ok chain → arrays ≡ chain.array_codecs
arrays_with arrays codec None chain e = absurd cc
arrays_with arrays codec (Some others) chain e =
    ap (λ (f : ChainForm). f.array_codecs) (same_chain (chain_with arrays codec others) chain e)

pub arrays_behind : (arrays : List ArrayToArray) (rest : List CodecForm) (chain : ChainForm) →
    or_refused chain_order (chain_behind arrays rest) ≡ Ok chain → arrays ≡ chain.array_codecs
arrays_behind arrays [] chain e = absurd cc
arrays_behind arrays (code.array_codec c ∷ rest) chain e = absurd cc
arrays_behind arrays (code.to_bytes c ∷ rest) chain e = arrays_with arrays c (all_byte_codecs rest) chain e
arrays_behind arrays (code.byte_codec c ∷ rest) chain e = absurd cc

pub chain_ranked : (rank : ℕ) (names : Names CodecKind) (es : List Extension) (cs : List CodecForm)
    (chain : ChainForm) → codecs_by rank names es ≡ Ok cs → or_refused chain_order (chain_in cs) ≡ Ok chain →
    all_ranked rank chain.array_codecs ≡ true
chain_ranked rank names es cs chain made is =
    subst (λ l. all_ranked rank l ≡ true) (arrays_behind (leading cs) (behind cs) chain is)
    (codecs_ranked rank names es cs made)
