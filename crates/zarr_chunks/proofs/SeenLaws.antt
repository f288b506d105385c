-- What is fetched and read for a region.
use Rattle.std.proofs.Common.{◌≡◌, ◌≤◌, ◌&&◌, ◌||◌, not, is_some, inl, refl, ℕ, Bool, true, false, List, Option, Some}
use Rattle.std.proofs.Common.{None, Result, Ok, Err, OnOk, IfErr, MatchResult, sym, subst}
use Rattle.zarrs_codec.specs.Prelude.{Options, counted, Element, Region, Shown, IsHandleError, taken_of, SameContent}
use Rattle.zarrs_codec_error.specs.declared.error.CodecError.{CodecError}
use Rattle.zarrs_codec_error.specs.declared.error.CodecError.TheVariants as codec
use Rattle.zarrs_storage.specs.declared.byte_range.ByteRange.{ByteRange}
use Rattle.zarr_chunks.specs.Seen.{ChainSeen, RegionTells, IsAlikeIn, AsksPart, FetchesBy, ReadsChunkBy}
use Rattle.zarr_chunks.specs.Regions.{IsGivenAsked, is_whole_chunk}
use Rattle.zarr_chunks.specs.declared.fetched.Fetched.TheVariants as fetched
use Rattle.zarrs_codec_array_bytes.specs.declared.array_bytes.ArrayBytes as code
use Rattle.zarr_chunks.proofs.PartLaws.{asks_any}
use Rattle.zarr_model.proofs.Choices.{always_ok}

-- a read by ranges
pub by_ranges : {T : Type 0} (chain : ChainSeen) (under : Options) (region : Region) (ranges : List ByteRange)
    (key : List ℕ) (before now : Shown) (r : Result T CodecError) →
    OnOk r (IsGivenAsked (Some ranges) (chain.given under (before.content key))) →
    IfErr r (RegionTells chain under (Some ranges) (before.content key) before.faults now.faults) →
    SameContent before now → before.faults ≤ now.faults → now.asks ≡ counted before.asks 1 →
    OnOk r (now.taken ≡ counted before.taken (taken_of (chain.stored (Some ranges)) (before.content key))) →
    AsksPart chain under region (Some ranges) key before now r
by_ranges chain under region ranges key before now r given why same later once took = record {
  decodes = λ none. absurd (never none);
  given = given;
  why = why;
  same = same;
  later = later;
  asks = asks_any before.asks now.asks r once;
  whole = λ all. once;
  taken = took;
}
  where
    never : Some ranges ≡ None → ⊥
    never e = cc

-- a region that was not read is not fetched
pub not_fetched : (chain : ChainSeen) (under : Options) (region : Region) (asked : Option (List ByteRange))
    (ranges : List ByteRange) (key : List ℕ) (before now : Shown) (e : CodecError) → asked ≡ Some ranges →
    ReadsChunkBy chain under region (Some ranges) key before now (Err e) →
    FetchesBy chain under region asked key before now (Err e)
not_fetched chain under region asked ranges key before now e is read =
    subst (λ (a : Option (List ByteRange)). FetchesBy chain under region a key before now (Err e)) (sym is) (record {
      elements = λ list has. tt;
      alike = read.alike;
      valid = tt;
      short = tt;
      which = tt;
      asked = record {
        decodes = read.asked.decodes;
        given = read.asked.given;
        why = read.asked.why;
        same = read.asked.same;
        later = read.asked.later;
        asks = read.asked.asks;
        whole = read.asked.whole;
        taken = read.asked.taken;
      };
    })

-- one that was read is fetched alone
region_alone : (whole bare there : Bool) → whole ≡ false → false ≡ (whole || (bare && (there && not true)))
region_alone true bare there part = cc
region_alone false false there part = refl
region_alone false true false part = refl
region_alone false true true part = refl

pub part_fetched : (chain : ChainSeen) (under : Options) (region : Region) (asked : Option (List ByteRange))
    (ranges : List ByteRange) (key : List ℕ) (before now : Shown) (v : code.ArrayBytes) → asked ≡ Some ranges →
    is_whole_chunk chain.level region ≡ false →
    ReadsChunkBy chain under region (Some ranges) key before now (Ok v) →
    FetchesBy chain under region asked key before now (Ok (fetched.Region v))
part_fetched chain under region asked ranges key before now v is part read = subst (λ (a : Option (List ByteRange)).
    FetchesBy chain under region a key before now (Ok (fetched.Region v))) (sym is) (record {
      elements = read.elements;
      alike = read.alike;
      valid = read.valid;
      short = read.short;
      which = region_alone (is_whole_chunk chain.level region) chain.bare (is_some (before.content key)) part;
      asked = record {
        decodes = read.asked.decodes;
        given = read.asked.given;
        why = read.asked.why;
        same = read.asked.same;
        later = read.asked.later;
        asks = read.asked.asks;
        whole = read.asked.whole;
        taken = read.asked.taken;
      };
    })

-- what was fetched, and then cut, which only want of memory ends
pub cut_asks : {T X : Type 0} (chain : ChainSeen) (under : Options) (region : Region) (ranges : Option (List ByteRange))
    (key : List ℕ) (before now : Shown) (got : X) (P : T → Type 0) (r : Result T CodecError) →
    MatchResult r P (λ e. e ≡ codec.OutOfMemory) →
    AsksPart {T = X} chain under region ranges key before now (Ok got) →
    AsksPart chain under region ranges key before now r
cut_asks {T} chain under region ranges key before now got P r cut read = record {
  decodes = λ none. always_ok r (read.decodes none);
  given = always_ok r read.given;
  why = go r cut;
  same = read.same;
  later = read.later;
  asks = asks_any before.asks now.asks r read.asks;
  whole = read.whole;
  taken = always_ok r read.taken;
}
  where
    go : (r : Result T CodecError) → MatchResult r P (λ e. e ≡ codec.OutOfMemory) →
        IfErr r (RegionTells chain under ranges (before.content key) before.faults now.faults)
    go (Ok v) cut = tt
    go (Err e) cut = inl (inl cut)

pub cut_alike : {T X : Type 0} (chain : ChainSeen) (under : Options) (asked : Option (List ByteRange))
    (value : Option (List ℕ)) (before now : ℕ) (got : X) (Gives : List Element → X → Type 0)
    (Cut : List Element → T → Type 0) (r : Result T CodecError) →
    ((list : List Element) → Gives list got → MatchResult r (Cut list) (λ e. e ≡ codec.OutOfMemory)) →
    IsAlikeIn {T = X} Gives chain under asked value before now (Ok got) →
    IsAlikeIn {T = T} Cut chain under asked value before now r
cut_alike chain under None value before now got Gives Cut r cut alike = tt
cut_alike {T} chain under (Some ranges) value before now got Gives Cut r cut alike =
    λ bytes other list given valid same is. go r list (cut list (alike bytes other list given valid same is))
  where
    go : (r : Result T CodecError) (list : List Element) → MatchResult r (Cut list) (λ e. e ≡ codec.OutOfMemory) →
        MatchResult r (Cut list) (IsHandleError before now)
    go (Ok v) list cut = cut
    go (Err e) list cut = inl cut
