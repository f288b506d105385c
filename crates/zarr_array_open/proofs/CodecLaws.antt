-- The codecs of a document, in its order.
use Rattle.std.proofs.Common.{◌≡◌, ℕ, zero, suc, ◌+◌, ◌<◌, Bool, true, false, if◌then◌else◌, List, [], ◌∷◌, ◌++◌}
use Rattle.std.proofs.Common.{length, take, get_or, is_some, Option, Some, None, Result, Ok, refl, sym, ap, ◌∙◌, arith}
use Rattle.std.proofs.Common.{add-one}
use Rattle.std.specs.Str.{bytes_eq}
use Rattle.std.specs.Prelude.{codes}
use Rattle.serde_json.specs.Data.{Members}
use Rattle.zarrs_codec_traits.specs.Prelude.{Names, Extension, extension_seen, extensions_seen}
use Rattle.zarrs_metadata_values.specs.Reading.{Fails}
use Rattle.zarrs_metadata_values.specs.declared.error.MetadataError.{MetadataError}
use Rattle.zarrs_metadata_values.specs.declared.error.MetadataError.TheVariants as Read
use Rattle.zarrs_metadata_parts.specs.declared.v3.metadata.MetadataV3.{MetadataV3}
use Rattle.zarr_codecs.specs.declared.codec_kind.CodecKind.{CodecKind}
use Rattle.zarr_array_open.specs.Opening.{OpenRefusal, plugin_create, chain_order, ◌>>=◌, or_refused, codec_at}
use Rattle.zarr_array_open.specs.Opening.{codecs_by}
use Rattle.zarr_array_open.specs.OpenError.{open_refusal_of}
use Rattle.zarr_array_open.specs.Parts.{StopsBy}
use Rattle.zarr_array_open.proofs.OpeningLaws.{fails_after, bind_ok}
use Rattle.zarr_array_open.specs.Sharding.{Sharding, sharding_in}
use Rattle.zarr_array_open.specs.ShardOpening.{ShardCodecs, DocumentCodec, sharding, other, shard_codecs, sharding_by}
use Rattle.zarr_array_open.specs.ShardOpening.{document_codec, document_codecs, only_sharding}
use Rattle.zarr_array_open.specs.Views.{unconfigured_as}

-- a configuration that is read, and one that is not
pub configured_is : {Y : Type 0} (o : Option Y) (y : Y) → o ≡ Some y → or_refused plugin_create o ≡ Ok y
configured_is o y is = ap (or_refused plugin_create) is

pub not_configured : {Y : Type 0} (o : Option Y) (e : MetadataError) → Fails e o →
    StopsBy (open_refusal_of (unconfigured_as e)) (or_refused plugin_create o)
not_configured o Read.OutOfMemory fails = tt
not_configured o Read.InvalidMetadata fails = ap (or_refused plugin_create) fails
not_configured o Read.InvalidJson fails = absurd fails
not_configured o Read.FloatNumber fails = absurd fails

-- one that is read is there
read_some : (dims : List ℕ) (configuration : Option Members) (read : Sharding) →
    or_refused plugin_create (sharding_in dims configuration) ≡ Ok read → is_some configuration ≡ true
unfolding sharding_in
read_some dims None read is = absurd cc
read_some dims (Some ms) read is = refl

pub ruleset of_configurations = (configured_is, not_configured)

-- one more codec of a list, and one that is refused
abbrev pub codecs_are : List DocumentCodec → Result (List DocumentCodec) OpenRefusal
codecs_are cs = Ok cs

same_codecs : (cs ds : List DocumentCodec) → codecs_are cs ≡ codecs_are ds → cs ≡ ds
same_codecs cs ds e = cc

module _ (dims : List ℕ) (names : Names CodecKind) where
  -- the codecs behind one
  abbrev joined : List Extension → DocumentCodec → Result (List DocumentCodec) OpenRefusal
  joined es c = document_codecs dims names es >>= λ cs. Ok (c ∷ cs)

  more : (ms : List MetadataV3) (i : ℕ) (m : MetadataV3) (cs : List DocumentCodec) (c : DocumentCodec) → i < length ms →
      m ≡ get_or ms i m
      → document_codecs dims names (extensions_seen (take i ms)) ≡ Ok cs → document_codec dims names
      (extension_seen m) ≡ Ok c → document_codecs dims names (extensions_seen (take (suc i) ms)) ≡ Ok (cs ++ c ∷ [])
  more [] i m cs c lt is front here = absurd (omega arith)
  more (n ∷ ms) zero m [] c lt is front here = let it : document_codec dims names (extension_seen n) ≡ Ok c =
      rw (← is) here in rw it refl
  more (n ∷ ms) zero m (d ∷ cs) c lt is front here = absurd cc
  more (n ∷ ms) (suc i) m cs c lt is front here =
      let a = bind_ok (document_codec dims names (extension_seen n)) (joined (extensions_seen (take i ms))) cs front in
      let b = bind_ok (document_codecs dims names (extensions_seen (take i ms))) (λ zs. Ok (a.0 ∷ zs)) cs a.2 in
      let whole : a.0 ∷ b.0 ≡ cs = same_codecs (a.0 ∷ b.0) cs b.2 in
      rw (a.1, more ms i m b.0 c (omega arith) is b.1 here)
      (ap (λ (o : List DocumentCodec). codecs_are (o ++ c ∷ [])) whole)

  pub codecs_push : (ms : List MetadataV3) (i : ℕ) (m : MetadataV3) (cs : List DocumentCodec) (c : DocumentCodec) →
      i < length ms → m ≡ get_or ms i m
      → document_codecs dims names (extensions_seen (take i ms)) ≡ Ok cs → document_codec dims names
      (extension_seen m) ≡ Ok c → document_codecs dims names (extensions_seen (take (i + 1) ms)) ≡ Ok (cs ++ c ∷ [])
  codecs_push ms i m cs c lt is front here = rw add-one (more ms i m cs c lt is front here)

  pub codecs_fail : (ms : List MetadataV3) (i : ℕ) (m : MetadataV3) (cs : List DocumentCodec)
      (why : Option OpenRefusal) → i < length ms → m ≡ get_or ms i m
      → document_codecs dims names (extensions_seen (take i ms)) ≡ Ok cs → StopsBy why
      (document_codec dims names (extension_seen m)) → StopsBy why (document_codecs dims names (extensions_seen ms))
  codecs_fail [] i m cs why lt is front fails = absurd (omega arith)
  codecs_fail (n ∷ ms) zero m cs why lt is front fails =
      fails_after why (document_codec dims names (extension_seen n)) (joined (extensions_seen ms)) (rw (← is) fails)
  codecs_fail (n ∷ ms) (suc i) m cs why lt is front fails =
      let a = bind_ok (document_codec dims names (extension_seen n)) (joined (extensions_seen (take i ms))) cs front in
      let b = bind_ok (document_codecs dims names (extensions_seen (take i ms))) (λ zs. Ok (a.0 ∷ zs)) cs a.2 in
      rw a.1 (fails_after why (document_codecs dims names (extensions_seen ms))
      (λ zs. Ok (a.0 ∷ zs)) (codecs_fail ms i m b.0 why (omega arith) is b.1 fails))

  -- the codec of shards is for chunks of the shape that it was made for
  abbrev codec_is : DocumentCodec → Result DocumentCodec OpenRefusal
  codec_is c = Ok c

  abbrev shard_is : ShardCodecs → Result ShardCodecs OpenRefusal
  shard_is s = Ok s

  same_shard : (a b : ShardCodecs) → shard_is a ≡ shard_is b → a ≡ b
  same_shard a b e = cc

  sharding_is : (a b : ShardCodecs) → codec_is (sharding a) ≡ codec_is (sharding b) → a ≡ b
  sharding_is a b e = cc

  made_for : (read : Sharding) (shard : ShardCodecs) → shard_codecs dims names read ≡ Ok shard →
      shard.chunk_shape ≡ dims
  made_for read shard e =
      let a = bind_ok (codecs_by (length dims) names read.codecs)
      (λ codecs.
      shard_is (record { chunk_shape = dims; inner_shape = read.inner_shape; codecs = codecs; checked = read.checked }))
      shard e in
      sym (ap (λ (s : ShardCodecs). s.chunk_shape) (same_shard
      (record { chunk_shape = dims; inner_shape = read.inner_shape; codecs = a.0; checked = read.checked }) shard a.2))

  codec_for : (e : Extension) (shard : ShardCodecs) → document_codec dims names e ≡ Ok (sharding shard) →
      shard.chunk_shape ≡ dims
  codec_for e shard made = go (bytes_eq e.name (codes "sharding_indexed")) made
    where
      go : (b : Bool) → (if b then (sharding_by dims names e >>= λ s. Ok (sharding s)) else
          (codec_at (length dims) names e >>= λ c. Ok (other c))) ≡ Ok (sharding shard) → shard.chunk_shape ≡ dims
      go true made =
          let a = bind_ok (sharding_by dims names e) (λ s. codec_is (sharding s)) (sharding shard) made in
          let b =
          bind_ok (or_refused plugin_create (sharding_in dims e.configuration)) (shard_codecs dims names) a.0 a.1 in
          ap (λ (s : ShardCodecs). s.chunk_shape) (sym (sharding_is a.0 shard a.2)) ∙ made_for b.0 a.0 b.2
      go false made =
          let a = bind_ok (codec_at (length dims) names e) (λ c. codec_is (other c)) (sharding shard) made in absurd cc

  -- and its metadata has a configuration
  pub configured_for : (e : Extension) (shard : ShardCodecs) → document_codec dims names e ≡ Ok (sharding shard) →
      is_some e.configuration ≡ true
  configured_for e shard made = go (bytes_eq e.name (codes "sharding_indexed")) made
    where
      go : (b : Bool) → (if b then (sharding_by dims names e >>= λ s. Ok (sharding s)) else
          (codec_at (length dims) names e >>= λ c. Ok (other c))) ≡ Ok (sharding shard) → is_some e.configuration ≡ true
      go true made =
          let a = bind_ok (sharding_by dims names e) (λ s. codec_is (sharding s)) (sharding shard) made in
          let b =
          bind_ok (or_refused plugin_create (sharding_in dims e.configuration)) (shard_codecs dims names) a.0 a.1 in
          read_some dims e.configuration b.0 b.1
      go false made =
          let a = bind_ok (codec_at (length dims) names e) (λ c. codec_is (other c)) (sharding shard) made in absurd cc

  pub alone : (c : DocumentCodec) (cs : List DocumentCodec) (shard : ShardCodecs) →
      or_refused chain_order (only_sharding (c ∷ cs)) ≡ Ok shard → c ≡ sharding shard
  alone (sharding s) [] shard e = ap sharding (same_shard s shard e)
  alone (sharding s) (d ∷ cs) shard e = absurd cc
  alone (other c) cs shard e = absurd cc

  pub only_for : (es : List Extension) (cs : List DocumentCodec) (shard : ShardCodecs) → document_codecs dims names es ≡
      Ok cs → or_refused chain_order (only_sharding cs) ≡ Ok shard → shard.chunk_shape ≡ dims
  only_for es [] shard made only = absurd cc
  only_for [] (c ∷ cs) shard made only = absurd cc
  only_for (e ∷ es) (c ∷ cs) shard made only =
      let a = bind_ok (document_codec dims names e) (joined es) (c ∷ cs) made in
      let b = bind_ok (document_codecs dims names es) (λ zs. Ok (a.0 ∷ zs)) (c ∷ cs) a.2 in
      let whole : a.0 ∷ b.0 ≡ c ∷ cs = same_codecs (a.0 ∷ b.0) (c ∷ cs) b.2 in
      let first : a.0 ≡ c = cc in
      codec_for e shard (a.1 ∙ ap codec_is (first ∙ alone c cs shard only))
