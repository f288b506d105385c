-- The steps of opening, one after another.
use Rattle.std.proofs.Common.{◌≡◌, ℕ, nat_le, zero, suc, ◌+◌, ◌^◌, ◌<◌, Bool, true, false, if◌then◌else◌, List, [], ◌∷◌}
use Rattle.std.proofs.Common.{◌++◌, length, take, get_or, Option, Some, None, is_some, Result, Ok, Err, IfOk, Fits, w64}
use Rattle.std.proofs.Common.{refl, ap, arith, add-one}
use Rattle.std.proofs.lemmas.Bool.{and_from, le-leb}
use Rattle.serde_json.specs.Data.{Data}
use Rattle.zarrs_codec_traits.specs.Prelude.{DataType, kind_of, fill_element, Names, extension_seen, extensions_seen}
use Rattle.zarrs_codec_traits.specs.Prelude.{Extension, fill_bytes, type_of, is_type}
use Rattle.zarrs_metadata_parts.specs.declared.v3.metadata.MetadataV3.{MetadataV3}
use Rattle.zarrs_plugin.specs.declared.error.PluginCreateError.{PluginCreateError}
use Rattle.zarrs_data_type_bytes.specs.declared.fill_value.FillValue.{FillValue}
use Rattle.zarrs_plugin.specs.Making.{other}
use Rattle.zarrs_data_type.specs.Making.{MakesType, type_by, type_in}
use Rattle.zarrs_data_type.specs.declared.data_type.DataType as types
use Rattle.zarrs_data_type.specs.declared.data_type.kind.DataTypeKind.{DataTypeKind}
use Rattle.zarrs_data_type.proofs.TypeLaws.{named_is}
use Rattle.zarrs_data_type.specs.FillMetadata.{Fills, fill_of}
use Rattle.zarrs_data_type.specs.declared.fill_metadata.FillMetadataFault.{FillMetadataFault}
use Rattle.zarrs_data_type.proofs.FillLaws.{fill_denotes}
use Rattle.zarrs_metadata_values.specs.Configuration.{members_or_none}
use Rattle.zarr_array_open.specs.Sizes.{are_countable}
use Rattle.zarr_codecs.specs.CodecForm.{CodecForm}
use Rattle.zarr_codecs.specs.declared.codec_kind.CodecKind.{CodecKind}
use Rattle.zarr_array_open.specs.Document.{ArrayDocument}
use Rattle.zarr_array_open.specs.Opening.{OpenRefusal, open_answer, ◌>>=◌, codec_at, codecs_by}
use Rattle.zarr_array_open.specs.OpenError.{open_refusal_of, IsRefusedBy}
use Rattle.zarr_array_open.specs.Parts.{documented_parts, StopsBy, Opens, OpensAs}
use Rattle.zarr_array_open.specs.declared.parts.ArrayParts.{ArrayParts}
use Rattle.zarr_array_open.specs.declared.open_error.OpenError.{OpenError}

-- a step that fails is the failure of all
pub fails_after : {A B : Type 0} (why : Option OpenRefusal) (o : Result A OpenRefusal) (f : A → Result B OpenRefusal) →
    StopsBy why o → StopsBy why (o >>= f)
fails_after None o f fails = tt
fails_after (Some why) o f fails = ap (λ r. r >>= f) fails

-- an answer of opening from the last step
pub opens_as : (result : Result ArrayParts OpenError) (expected : Result ArrayDocument OpenRefusal) →
    Opens documented_parts result expected → OpensAs result (open_answer expected)
opens_as (Ok array) expected is = ap open_answer is
opens_as (Err error) expected fails = refused (open_refusal_of error) expected fails
  where
    refused : (why : Option OpenRefusal) (expected : Result ArrayDocument OpenRefusal) → StopsBy why expected →
        IsRefusedBy why (open_answer expected)
    refused None expected fails = tt
    refused (Some why) expected fails = ap open_answer fails

-- one more codec of a list, and one that is refused
abbrev pub codecs_are : List CodecForm → Result (List CodecForm) OpenRefusal
codecs_are cs = Ok cs

pub bind_ok : {A B : Type 0} (o : Result A OpenRefusal) (f : A → Result B OpenRefusal) (y : B) → (o >>= f) ≡ Ok y →
    (x : A) × (o ≡ Ok x) × (f x ≡ Ok y)
bind_ok (Ok x) f y e = (x, refl, e)
bind_ok (Err why) f y e = absurd cc

module _ (rank : ℕ) (names : Names CodecKind) where
  -- the codecs behind one
  abbrev pub joined : List Extension → CodecForm → Result (List CodecForm) OpenRefusal
  joined es c = codecs_by rank names es >>= λ cs. Ok (c ∷ cs)

  more : (ms : List MetadataV3) (i : ℕ) (m : MetadataV3) (cs : List CodecForm) (c : CodecForm) → i < length ms →
      m ≡ get_or ms i m
      → codecs_by rank names (extensions_seen (take i ms)) ≡ Ok cs → codec_at rank names (extension_seen m) ≡ Ok c →
      codecs_by rank names (extensions_seen (take (suc i) ms)) ≡ Ok (cs ++ c ∷ [])
  more [] i m cs c lt is front here = absurd (omega arith)
  more (n ∷ ms) zero m [] c lt is front here = let it : codec_at rank names (extension_seen n) ≡ Ok c =
      rw (← is) here in rw it refl
  more (n ∷ ms) zero m (d ∷ cs) c lt is front here = absurd cc
  more (n ∷ ms) (suc i) m cs c lt is front here =
      let a = bind_ok (codec_at rank names (extension_seen n)) (joined (extensions_seen (take i ms))) cs front in
      let b = bind_ok (codecs_by rank names (extensions_seen (take i ms))) (λ zs. Ok (a.0 ∷ zs)) cs a.2 in
      let e : codecs_are (a.0 ∷ b.0) ≡ codecs_are cs = b.2 in
      let whole : a.0 ∷ b.0 ≡ cs = cc in
      rw (a.1, more ms i m b.0 c (omega arith) is b.1 here)
      (ap (λ (o : List CodecForm). codecs_are (o ++ c ∷ [])) whole)

  pub codecs_push : (ms : List MetadataV3) (i : ℕ) (m : MetadataV3) (cs : List CodecForm) (c : CodecForm) →
      i < length ms → m ≡ get_or ms i m
      → codecs_by rank names (extensions_seen (take i ms)) ≡ Ok cs → codec_at rank names (extension_seen m) ≡ Ok c →
      codecs_by rank names (extensions_seen (take (i + 1) ms)) ≡ Ok (cs ++ c ∷ [])
  codecs_push ms i m cs c lt is front here = rw add-one (more ms i m cs c lt is front here)

  pub codecs_fail : (ms : List MetadataV3) (i : ℕ) (m : MetadataV3) (cs : List CodecForm) (why : Option OpenRefusal) →
      i < length ms → m ≡ get_or ms i m
      → codecs_by rank names (extensions_seen (take i ms)) ≡ Ok cs →
      StopsBy why (codec_at rank names (extension_seen m)) → StopsBy why (codecs_by rank names (extensions_seen ms))
  codecs_fail [] i m cs why lt is front fails = absurd (omega arith)
  codecs_fail (n ∷ ms) zero m cs why lt is front fails =
      fails_after why (codec_at rank names (extension_seen n)) (joined (extensions_seen ms)) (rw (← is) fails)
  codecs_fail (n ∷ ms) (suc i) m cs why lt is front fails =
      let a = bind_ok (codec_at rank names (extension_seen n)) (joined (extensions_seen (take i ms))) cs front in
      let b = bind_ok (codecs_by rank names (extensions_seen (take i ms))) (λ zs. Ok (a.0 ∷ zs)) cs a.2 in
      rw a.1 (fails_after why (codecs_by rank names (extensions_seen ms))
      (λ zs. Ok (a.0 ∷ zs)) (codecs_fail ms i m b.0 why (omega arith) is b.1 fails))

-- numbers of 64 bits are countable
pub counts_fit : (counts : List ℕ) → ((i : ℕ) → Fits w64 (get_or counts i 0)) → are_countable counts ≡ true
counts_fit [] all = refl
counts_fit (n ∷ counts) all =
    and_from (nat_le n (2 ^ 64)) (are_countable counts) (le-leb n (2 ^ 64) (let h : Fits w64 n = all 0 in omega arith))
    (counts_fit counts (λ i. all (suc i)))

-- a type that a document names is proper, and a fill value that it gives denotes an element
pub proper_type : (names : Names DataTypeKind) (e : Extension) (made : Result types.DataType PluginCreateError) →
    MakesType type_of made (type_by names e) → IfOk made (λ t. is_type (type_of t) ≡ true)
proper_type names e (Err error) is = tt
proper_type names e (Ok t) is = go e.must_understand is
  where
    go : (b : Bool) → (if b then type_in names e.name (members_or_none e.configuration) else Err other) ≡
        Ok (type_of t) → is_type (type_of t) ≡ true
    go true is = named_is names e.name (members_or_none e.configuration) (type_of t) is
    go false is = cc

pub denoted_fill : (t : DataType) (d : Data) (filled : Result FillValue FillMetadataFault) →
    Fills filled (fill_of t d) → IfOk filled (λ fill. is_some (fill_element (kind_of t) (fill_bytes fill)) ≡ true)
denoted_fill t d (Ok fill) is = fill_denotes t d (fill_bytes fill) is
denoted_fill t d (Err error) is = tt

pub ruleset of_served = (fails_after)
