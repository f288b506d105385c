-- An error of a chunk tells why its value does not decode, and what was asked for is not in it.
use Rattle.std.proofs.Common.{◌≡◌, ℕ, List, [], ◌∷◌, map, Option, Some, None, refl, sym, ap, ◌∙◌, subst, subst₂}
use Rattle.zarr_codec_chain.specs.Prelude.{Region, count_of, Options, Level, decode_bytes, box_under, TellsRangeOf}
use Rattle.zarr_codec_chain.specs.Prelude.{bottom_level, byte_codecs, said_at}
use Rattle.zarrs_storage.specs.declared.byte_range.ByteRange.{ByteRange}
use Rattle.zarrs_codec_error.specs.declared.error.CodecError.{CodecError}
use Rattle.zarrs_codec_error.specs.declared.error.CodecError.TheVariants as codec
use Rattle.zarrs_storage.specs.declared.store.StorageError.{StorageError}
use Rattle.zarr_codec_chain.specs.Values as values
use Rattle.zarr_chunks.specs.Fetch as stored
use Rattle.zarr_codec_chain.specs.declared.levels.ChunkLevels.{ChunkLevels}
use Rattle.zarr_codecs.specs.Laws.{plain_no_fault}
use Rattle.zarr_codecs.specs.Plain.{Plain, says_by, request_by, asked_says, part_says}
use Rattle.zarr_codecs.specs.Views.{plain_of}
use Rattle.zarr_array_open.specs.kinds.array_to_array.ArrayToArray.{ArrayToArray, array_codec_of}
use Rattle.zarr_codecs.specs.BytesToBytes.{BytesToBytes, byte_codec_of, byte_no_fault, byte_says_by, byte_form}
use Rattle.zarr_codecs.specs.declared.bytes_to_bytes.BasicBytesToBytes.{BasicBytesToBytes}
use Rattle.zarr_array_open.specs.Chain.{BasicChain}
use Rattle.zarr_array_open.specs.ChunkLevels.{chunk_shape, chunk_level, ServesShape}
use Rattle.zarr_array_open.specs.Codecs.{list_says, bytes_meaning, bytes_codec_says}
use Rattle.zarr_array_open.specs.Document.{ArrayDocument, ChainForm, describe}
use Rattle.zarr_array_open.specs.Parts.{documented_parts, described_parts}
use Rattle.zarr_array_open.specs.declared.parts.ArrayParts.{ArrayParts}
use Rattle.zarr_array_open.proofs.ChainLaws.{byte_codecs_mean}
use Rattle.zarr_array.specs.Access.{stored_by}
use Rattle.zarr_array.specs.Told.{byte_codecs_say, level_below_all, to_bytes_says, value_says}
use Rattle.zarr_array.proofs.BottomLaws.{bottom_is, below, below_is}

-- what is said by one of two is said by one of two that are said by each
pub either_says : (before : Option (List ℕ)) (earlier other : CodecError → Type 0)
    (says tells : List ℕ → CodecError → Type 0) (e : CodecError) → (earlier e → other e) →
    ((value : List ℕ) → before ≡ Some value → says value e → tells value e) →
    said_at before earlier says e → said_at before other tells e
either_says None earlier other says tells e first last said = first said
either_says (Some value) earlier other says tells e first last said = last value refl said

-- no codec tells that it gives nothing by an error of the store
module _ (fault : StorageError) where
  said : (before : Option (List ℕ)) (earlier : CodecError → Type 0) (says : List ℕ → CodecError → Type 0) →
      (earlier (codec.StorageError fault) → ⊥) →
      ((value : List ℕ) → says value (codec.StorageError fault) → ⊥) →
      said_at before earlier says (codec.StorageError fault) → ⊥
  said None earlier says first last tells = first tells
  said (Some value) earlier says first last tells = last value tells

  bytes_say : (options : Options) (codecs : List BytesToBytes) (value : List ℕ) →
      byte_codecs_say options codecs value (codec.StorageError fault) → ⊥
  bytes_say options [] value tells = tells
  bytes_say options (c ∷ codecs) value tells =
      said (decode_bytes (map (byte_codec_of options) codecs) value) (byte_codecs_say options codecs value)
      (byte_says_by c) (bytes_say options codecs value)
      (λ before told. (byte_no_fault c before (codec.StorageError fault) told).unlike fault refl) tells

  plain_say : (plain : Plain) (level : Level) (value : List ℕ) →
      says_by plain (count_of level.shape) level.data_type value (codec.StorageError fault) → ⊥
  plain_say plain level value told = (plain_no_fault plain (count_of level.shape) level.data_type value
      (codec.StorageError fault) told).unlike fault refl

  asked_say : (asked : Option (List ByteRange)) (plain : Plain) (level : Level) (value : List ℕ) →
      asked_says asked (says_by plain (count_of level.shape) level.data_type) value (codec.StorageError fault) → ⊥
  asked_say None plain level value told = plain_say plain level value told
  asked_say (Some ranges) plain level value told = told

  to_bytes_say : (plain : Plain) (codecs : List ArrayToArray) (level : Level) (asked : Option Region) (value : List ℕ) →
      to_bytes_says plain codecs level asked value (codec.StorageError fault) → ⊥
  to_bytes_say plain codecs level None value told = plain_say plain (level_below_all codecs level) value told
  to_bytes_say plain codecs level (Some box) value told =
      let under = level_below_all codecs level in
      asked_say (request_by plain under.shape under.data_type (box_under (map array_codec_of codecs) level box)) plain
      under value told

  pub no_fault_says : (document : ArrayDocument) (options : Options) (chunk : List ℕ) (asked : Option Region) (value :
      Option (List ℕ)) → stored_by (value_says document) options chunk asked value (codec.StorageError fault) → ⊥
  no_fault_says document options chunk asked None told = told
  no_fault_says document options chunk asked (Some value) told =
      said (decode_bytes (map (byte_codec_of options) document.byte_codecs) value)
      (byte_codecs_say options document.byte_codecs value)
      (to_bytes_says document.to_bytes document.array_codecs (chunk_level (describe document) chunk) asked)
      (bytes_say options document.byte_codecs value)
      (λ bytes said. to_bytes_say document.to_bytes document.array_codecs (chunk_level (describe document) chunk) asked
      bytes said) told

-- bytes-to-bytes codecs tell what those of the document's names do
codecs_say : (options : Options) (codecs : List BasicBytesToBytes) (value : List ℕ) (e : CodecError) → values.bytes_says
    bytes_meaning bytes_codec_says options codecs value e → byte_codecs_say options (map byte_form codecs) value e
codecs_say options [] value e says = says
codecs_say options (c ∷ codecs) value e says =
    subst (λ before.
    said_at before (byte_codecs_say options (map byte_form codecs) value) (byte_says_by (byte_form c)) e)
    (ap (λ l. decode_bytes l value) (byte_codecs_mean options codecs))
    (either_says (decode_bytes (byte_codecs bytes_meaning options codecs) value) (values.bytes_says bytes_meaning
    bytes_codec_says options codecs value) (byte_codecs_say options (map byte_form codecs) value)
    (bytes_codec_says c options) (byte_says_by (byte_form c)) e (codecs_say options codecs value e) (λ v is said. said)
    says)

module _ (array : ArrayParts) (chain : BasicChain) (levels : ChunkLevels) (options : Options) (chunk : List ℕ)
    (serves : ServesShape array (chunk_shape (described_parts array) chunk) chain levels) where
  abbrev document : ArrayDocument
  document = documented_parts array

  abbrev level : Level
  level = chunk_level (described_parts array) chunk

  abbrev its_codecs : List BasicBytesToBytes
  its_codecs = chain.byte_codecs.items

  -- which errors the chain's own names tell, and so those of the document
  abbrev tells : Option Region → ChainForm → List ℕ → CodecError → Type 0
  tells asked form value e = said_at (decode_bytes (map (byte_codec_of options) form.byte_codecs) value)
      (byte_codecs_say options form.byte_codecs value)
      (to_bytes_says form.to_bytes document.array_codecs level asked) e

  -- what is said behind the bytes-to-bytes codecs of the chain is said of the document's
  says_value : (asked : Option Region) (value : List ℕ) (e : CodecError) (says : List ℕ → CodecError → Type 0) →
      ((bytes : List ℕ) → decode_bytes (byte_codecs bytes_meaning options its_codecs) value ≡ Some bytes →
      says bytes e →
      to_bytes_says (plain_of chain.to_bytes) document.array_codecs level asked bytes e) →
      said_at (decode_bytes (byte_codecs bytes_meaning options its_codecs) value)
      (values.bytes_says bytes_meaning bytes_codec_says options its_codecs value) says e →
      value_says document options chunk asked value e
  says_value asked value e says last said = subst (λ form. tells asked form value e) serves.forms
      (subst (λ before. said_at before (byte_codecs_say options (map byte_form its_codecs) value)
      (to_bytes_says (plain_of chain.to_bytes) document.array_codecs level asked) e)
      (ap (λ l. decode_bytes l value) (byte_codecs_mean options its_codecs))
      (either_says (decode_bytes (byte_codecs bytes_meaning options its_codecs) value) (values.bytes_says bytes_meaning
      bytes_codec_says options its_codecs value) (byte_codecs_say options (map byte_form its_codecs) value)
      says (to_bytes_says (plain_of chain.to_bytes) document.array_codecs level asked) e
      (codecs_say options its_codecs value e) last said))

  -- what the bottom says of all of a value, and of a part
  abbrev bottom_says : List ℕ → CodecError → Type 0
  bottom_says = list_says chain.to_bytes options (bottom_level levels)

  abbrev at_bottom : Region → Region
  at_bottom = below array chain levels chunk serves

  abbrev requested : Region → Option (List ByteRange)
  requested within = request_by (plain_of chain.to_bytes) (bottom_level levels).shape (bottom_level levels).data_type
      (at_bottom within)

  whole_says : (bytes : List ℕ) (e : CodecError) → bottom_says bytes e →
      to_bytes_says (plain_of chain.to_bytes) document.array_codecs level None bytes e
  whole_says bytes e said = subst (λ (l : Level). says_by (plain_of chain.to_bytes) (count_of l.shape) l.data_type bytes
      e) (bottom_is array chain levels chunk serves) said

  part_told : (within : Region) (bytes : List ℕ) (e : CodecError) → asked_says (requested within) bottom_says bytes e →
      to_bytes_says (plain_of chain.to_bytes) document.array_codecs level (Some within) bytes e
  part_told within bytes e said = subst₂ (λ (l : Level) (b : Region). part_says (plain_of chain.to_bytes) l b bytes e)
      (bottom_is array chain levels chunk serves) (below_is array chain levels chunk serves within) said

  -- all of a chunk was asked for
  pub says_whole : (value : Option (List ℕ)) (e : CodecError) → stored.chunk_says list_says bytes_meaning
      bytes_codec_says chain levels options value e → stored_by (value_says document) options chunk None value e
  says_whole None e says = says
  says_whole (Some value) e says =
      says_value None value e bottom_says (λ bytes given said. whole_says bytes e said) says

  -- a part, for which all of its value is needed
  pub says_all : (within : Region) → requested within ≡ None → (value : Option (List ℕ)) (e : CodecError) →
      stored.chunk_says list_says bytes_meaning bytes_codec_says chain levels options value e →
      stored_by (value_says document) options chunk (Some within) value e
  says_all within none None e says = says
  says_all within none (Some value) e says = says_value (Some within) value e bottom_says
      (λ bytes given said. part_told within bytes e (subst (λ a. asked_says a bottom_says bytes e) (sym none) said))
      says

  -- or ranges of what the bytes-to-bytes codecs give: nothing, where one of them refuses it
  pub says_nothing : (within : Region) (value : List ℕ) (e : CodecError) →
      decode_bytes (byte_codecs bytes_meaning options its_codecs) value ≡ None →
      stored.chunk_says list_says bytes_meaning bytes_codec_says chain levels options (Some value) e →
      stored_by (value_says document) options chunk (Some within) (Some value) e
  says_nothing within value e nothing says = says_value (Some within) value e bottom_says
      (λ bytes given said. absurd (differ bytes (sym given ∙ nothing))) says
    where
      differ : (bytes : List ℕ) → Some bytes ≡ None → ⊥
      differ bytes e = cc

  -- or bytes, of which a range lies outside
  pub says_range : (within : Region) (ranges : List ByteRange) → requested within ≡ Some ranges →
      (value bytes : List ℕ) (e : CodecError) →
      decode_bytes (byte_codecs bytes_meaning options its_codecs) value ≡ Some bytes → TellsRangeOf (Some ranges)
      (Some bytes) e → stored_by (value_says document) options chunk (Some within) (Some value) e
  says_range within ranges some value bytes e given told =
      says_value (Some within) value e (λ own other. TellsRangeOf (Some ranges) (Some own) other)
      (λ own own_given said. part_told within own e (subst (λ a. asked_says a bottom_says own e) (sym some) said))
      (subst (λ before. said_at before (values.bytes_says bytes_meaning bytes_codec_says options its_codecs value)
      (λ own other. TellsRangeOf (Some ranges) (Some own) other) e) (sym given) told)
