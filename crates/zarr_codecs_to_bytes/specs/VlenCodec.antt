-- The codecs `vlen-utf8`, which stores texts, and `vlen-bytes`, which stores byte strings.
use Rattle.std.specs.Prelude.{◌≡◌, ◌<◌, ◌^◌, ◌&&◌, not, ℕ, nat_lt, if◌then◌else◌, Bool, true, false, List, codes}
use Rattle.std.specs.Prelude.{bytes_eq, Result, Ok, Err, Option, Some, None, option_and_then, refl}
use Rattle.std.proofs.Common.{inl, inr}
use Rattle.std.proofs.lemmas.Bool.{lt-ltb}
use Rattle.serde_json.specs.Data.{Members, no_members}
use Rattle.zarrs_codec_traits.specs.Prelude.{DataType, string_type, bytes_type, ArrayBytes, has_long_element}
use Rattle.zarrs_codec_traits.specs.Prelude.{invalid_variable_sized_array_offsets, is_none_or_empty, Extension, Unmade}
use Rattle.zarrs_codec_traits.specs.Prelude.{config, taken}
use Rattle.zarrs_plugin.specs.Making as making
use Rattle.zarrs_data_type_bytes.specs.declared.codec_support.CodecName.{CodecName}
use Rattle.zarrs_data_type_bytes.specs.declared.codec_support.CodecName.TheVariants as names
use Rattle.zarrs_codec_array_bytes.specs.Refusals.{BytesAnswer, fine, refused}
use Rattle.zarrs_codec_traits.specs.Errors.{Unserved, unsupported, IsFormRefusal}

-- the names of the codec of texts and of that of byte strings
abbrev pub vlen_name_of : Bool → List ℕ
vlen_name_of true = codes "vlen-utf8"
vlen_name_of false = codes "vlen-bytes"

-- whether a name is that of the codec of texts, if it is one of the two
abbrev pub text_named : List ℕ → Option Bool
text_named name = if bytes_eq name (codes "vlen-utf8") then Some true
    else if bytes_eq name (codes "vlen-bytes") then Some false else None

-- the same in errors
abbrev pub error_name : Bool → CodecName
error_name true = names.VlenUtf8
error_name false = names.VlenBytes

-- `vlen-utf8` serves texts alone, `vlen-bytes` byte strings alone
abbrev pub serves : Bool → DataType → Bool
serves text string_type = text
serves text bytes_type = not text
serves text _ = false

abbrev pub vlen_type_unserved : Bool → DataType → Option Unserved
vlen_type_unserved text data_type =
    if serves text data_type then None else Some (unsupported (error_name text))

-- why a call with this type, or with none, is refused
abbrev pub vlen_unserved : Bool → Option DataType → Option Unserved
vlen_unserved text data_type = option_and_then (vlen_type_unserved text) data_type

-- a type that is served is so by a call that takes only some of a level
pub vlen_serves : (text : Bool) (data_type : DataType) (with_type : Bool)
    → vlen_unserved text (Some data_type) ≡ None
    → vlen_unserved text (taken with_type data_type) ≡ None
vlen_serves text data_type true served = served
vlen_serves text data_type false served = refl

-- neither the number of elements nor the length of one takes more than 4 bytes
abbrev pub are_short : ℕ → ArrayBytes → Bool
are_short number bytes = nat_lt number (2 ^ 32) && not (has_long_element bytes)

-- what is refused of valid elements
abbrev pub refusal_unless : Bool → BytesAnswer
refusal_unless true = fine
refusal_unless false = refused invalid_variable_sized_array_offsets

abbrev pub vlen_beyond : ℕ → ArrayBytes → BytesAnswer
vlen_beyond number bytes = refusal_unless (are_short number bytes)

-- nothing is where there are few elements and all are short, and else their form
pub few_taken : (number : ℕ) (bytes : ArrayBytes) → number < 2 ^ 32
    → has_long_element bytes ≡ false → vlen_beyond number bytes ≡ fine
few_taken number bytes few short =
    go (nat_lt number (2 ^ 32)) (has_long_element bytes) (lt-ltb number (2 ^ 32) few) short
  where
    go : (a b : Bool) → a ≡ true → b ≡ false → refusal_unless (a && not b) ≡ fine
    go true false few short = refl
    go true true few short = cc
    go false b few short = cc

pub form_refused : (number : ℕ) (bytes : ArrayBytes) → IsFormRefusal (vlen_beyond number bytes)
form_refused number bytes = go (are_short number bytes)
  where
    go : (b : Bool) → IsFormRefusal (refusal_unless b)
    go true = inl refl
    go false = inr refl

-- which of the two codecs metadata denotes: it has one of the names, and no configuration or an
-- empty one
abbrev pub text_if_named : Option Bool → Extension → Result Bool Unmade
text_if_named None e = Err (making.unsupported e.name)
text_if_named (Some text) e = if is_none_or_empty e.configuration then Ok text else Err config

abbrev pub text_in : Extension → Result Bool Unmade
text_in e = text_if_named (text_named e.name) e

-- its own configuration, which is empty
abbrev pub without_members : Result Bool Unmade → Result (Option Members) Unmade
without_members (Ok text) = Ok (Some no_members)
without_members (Err why) = Err why

abbrev pub vlen_created : Extension → Result (Option Members) Unmade
vlen_created e = without_members (text_in e)
