-- Optional elements by the codec inside: served, decoded and encoded.
use Rattle.std.proofs.Common.{◌≡◌, ℕ, ◌*◌, Bool, true, false, not, ◌&&◌, nat_le, List, ◌++◌, length, take}
use Rattle.std.proofs.Common.{drop, Option, Some, None, Result, Ok, Err, IfErr, Vec, IsSome, option_map, refl, sym, ap}
use Rattle.std.proofs.Common.{ap₂, ◌∙◌, subst, if◌then◌else◌, inl, inr, arith}
use Rattle.std.proofs.lemmas.Bool.{cond-true, and_from, le-leb}
use Rattle.std.proofs.lemmas.List.{take_at, drop_at, length-append}
use Rattle.zarrs_codec_traits.specs.Prelude.{count_of, Element, DataType, bool_type, int_type, uint_type, raw_type}
use Rattle.zarrs_codec_traits.specs.Prelude.{string_type, bytes_type, optional_type, kind_of, Kind, fixed, variable}
use Rattle.zarrs_codec_traits.specs.Prelude.{optional, fixed_size, has_long_element, invalid_mask, bytes_refusal}
use Rattle.zarrs_codec_traits.specs.Prelude.{refused_if, or_then, size_in, inner_length, raw_of, list_at}
use Rattle.zarr_model.specs.ArrayBytes.{ArrayBytes, optional_bytes, meaning, is_mask}
use Rattle.zarr_model.specs.ArrayBytes.{mask_over, held}
use Rattle.zarr_model.proofs.BytesLaws.{mask_length}
use Rattle.zarr_model.specs.Codec.{Level, Options, ArrayToBytes, bytes_codec, vlen_codec, optional_codec, decode_fixed}
use Rattle.zarr_model.specs.Codec.{decode_array_to_bytes}
use Rattle.zarrs_codec_array_bytes.specs.declared.array_bytes.ArrayBytes as code
use Rattle.zarrs_codec_array_bytes.specs.Refusals.{BytesAnswer, fine, refused, validity, sized_answer}
use Rattle.zarrs_codec_array_bytes.specs.Refusals.{then_answer, Answers}
use Rattle.zarrs_codec_error.specs.declared.error.CodecError.{CodecError}
use Rattle.zarrs_codec_error.specs.declared.error.CodecError.TheVariants as codec
use Rattle.zarrs_codec_traits.specs.Errors.{Unserved, IsNoFault, RefusesBy}
use Rattle.zarrs_codec_traits.specs.Errors.{IsDecodeError}
use Rattle.zarrs_codec_traits.proofs.FaultLaws.{served_no_fault, decoded_no_fault}
use Rattle.zarr_codecs.specs.Plain.{Plain, plain_optional, codec_of, unserved_by, beyond_by, says_by, says_optional}
use Rattle.zarr_codecs.specs.Plain.{held_type, mask_answer}
use Rattle.zarr_codecs.specs.Laws.{plain_no_fault}
use Rattle.zarr_codecs.specs.Answers.{Decodes, Encodes, IsSplit}

-- no codec looks at the fill
unseen : (under : Options) (codec : ArrayToBytes) (dims : List ℕ) (type : DataType) (a b : Element) (value : List ℕ) →
    decode_array_to_bytes under codec (record { shape = dims; data_type = type; fill = a }) value ≡
    decode_array_to_bytes under codec (record { shape = dims; data_type = type; fill = b }) value
unseen under (bytes_codec order) dims type a b value = go (kind_of type)
  where
    go : (kind : Kind) → decode_fixed order (record { shape = dims; data_type = type; fill = a }) kind value ≡
        decode_fixed order (record { shape = dims; data_type = type; fill = b }) kind value
    go (fixed n) = refl
    go variable = refl
    go (optional kind) = refl
unseen under vlen_codec dims type a b value = refl
unseen under (optional_codec inner) dims bool_type a b value = refl
unseen under (optional_codec inner) dims (int_type n) a b value = refl
unseen under (optional_codec inner) dims (uint_type n) a b value = refl
unseen under (optional_codec inner) dims (raw_type n) a b value = refl
unseen under (optional_codec inner) dims string_type a b value = refl
unseen under (optional_codec inner) dims bytes_type a b value = refl
unseen under (optional_codec inner) dims (optional_type type) a b value =
    ap (λ list. if nat_le (count_of dims) (length value) && is_mask (count_of dims) (take (count_of dims) value) then
    option_map (mask_over (take (count_of dims) value)) list else None)
    (unseen under inner dims type (held (kind_of type) a) (held (kind_of type) b) (drop (count_of dims) value))

-- what a value of optional elements decodes to, where its mask is there
decode_masked : (under : Options) (codec : ArrayToBytes) (dims : List ℕ)
    (type : DataType) (a b : Element) (value mask rest : List ℕ) → IsSplit (count_of dims) value mask rest →
    decode_array_to_bytes under (optional_codec codec)
    (record { shape = dims; data_type = optional_type type; fill = a }) value ≡ option_map (mask_over mask)
    (decode_array_to_bytes under codec (record { shape = dims; data_type = type; fill = b }) rest)
decode_masked under codec dims type a b value mask rest split =
    cond-true (nat_le (count_of dims) (length value) && is_mask (count_of dims) (take (count_of dims) value)) _ None
    (and_from _ _ (le-leb (count_of dims) (length value) split.long)
    (subst (λ m. is_mask (count_of dims) m ≡ true) split.front split.valid))
    ∙ (ap (option_map (mask_over (take (count_of dims) value)))
    (unseen under codec dims type (held (kind_of type) a) b (drop (count_of dims) value))
    ∙ ap₂ (λ m r. option_map (mask_over m) (decode_array_to_bytes under codec
    (record { shape = dims; data_type = type; fill = b }) r)) (sym split.front) (sym split.back))

mapped_there : {A B : Type 0} (f : A → B) (o : Option A) → IsSome o → IsSome (option_map f o)
mapped_there f None there = there
mapped_there f (Some x) there = refl

-- what is refused as not served
no_reason : {T : Type 0} (why : Option Unserved) (r : Result T CodecError) → why ≡ None → RefusesBy why r
no_reason None r none = tt
no_reason (Some reason) r none = cc

memory_refused : (T : Type 0) (why : Option Unserved) (e : CodecError) → e ≡ codec.OutOfMemory →
    RefusesBy {T = T} why (Err e)
memory_refused T None e memory = tt
memory_refused T (Some reason) e memory = inl memory

-- an optional type is served as what it holds is
served_inside : (plain : Plain) (type inner : DataType) → type ≡ optional_type inner →
    unserved_by (plain_optional plain) type ≡ unserved_by plain inner
served_inside plain type inner is = ap (unserved_by (plain_optional plain)) is

none_inside : (plain : Plain) (type inner : DataType) → type ≡ optional_type inner → unserved_by plain inner ≡ None →
    unserved_by (plain_optional plain) type ≡ None
none_inside plain type inner is served = served_inside plain type inner is ∙ served

pub decode_starved : (plain : Plain) (under : Options) (level : Level) (value : List ℕ) (e : CodecError) →
    e ≡ codec.OutOfMemory → Decodes plain under level value (Err e)
decode_starved plain under level value e memory = record {
  unserved = memory_refused code.ArrayBytes (unserved_by plain level.data_type) e memory;
  value = λ served. inl memory;
  short = tt;
}

-- what the codec inside says of the rest
rest_says : (number : ℕ) (value mask rest : List ℕ) (inner : List ℕ → CodecError → Type 0) (e : CodecError) →
    IsSplit number value mask rest → inner rest e →
    says_optional (nat_le number (length value)) (is_mask number (take number value)) (inner (drop number value))
    (length value) number e
rest_says number value mask rest inner e split says =
    subst (λ x. says_optional x (is_mask number (take number value)) (inner (drop number value)) (length value) number
    e) (sym (le-leb number (length value) split.long))
    (subst (λ x. says_optional true x (inner (drop number value)) (length value) number e)
    (sym (subst (λ m. is_mask number m ≡ true) split.front split.valid))
    (subst (λ r. inner r e) split.back says))

pub decode_inner_error :
    (plain : Plain) (under : Options) (level : Level) (inner : DataType) (b : Element) (value mask rest : List ℕ)
    (e : CodecError) → level.data_type ≡ optional_type inner → unserved_by plain inner ≡ None →
    IsSplit (count_of level.shape) value mask rest →
    Decodes plain under (record { shape = level.shape; data_type = inner; fill = b }) rest (Err e) →
    Decodes (plain_optional plain) under level value (Err e)
decode_inner_error plain under level inner b value mask rest e is served split told = go (told.value served)
  where
    wanted : decode_array_to_bytes under (codec_of plain) (record { shape = level.shape; data_type = inner; fill = b })
        rest ≡ None → decode_array_to_bytes under (optional_codec (codec_of plain)) level value ≡ None
    wanted none = ap (λ t. decode_array_to_bytes under (optional_codec (codec_of plain))
        (record { shape = level.shape; data_type = t; fill = level.fill }) value) is
        ∙ (decode_masked under (codec_of plain) level.shape inner level.fill b value mask rest split
        ∙ ap (option_map (mask_over mask)) none)

    go : IsDecodeError (decode_array_to_bytes under (codec_of plain)
        (record { shape = level.shape; data_type = inner; fill = b }) rest)
        (says_by plain (count_of level.shape) inner rest) e → Decodes (plain_optional plain) under level value (Err e)
    go (inl memory) = decode_starved (plain_optional plain) under level value e memory
    go (inr both) = record {
      unserved = no_reason (unserved_by (plain_optional plain) level.data_type) (Err e)
          (none_inside plain level.data_type inner is served);
      value = λ _. inr (
        wanted both.0,
        rest_says (count_of level.shape) value mask rest
            (says_by plain (count_of level.shape) (held_type level.data_type)) e split
            (subst (λ t. says_by plain (count_of level.shape) (held_type t) rest e) (sym is) both.1),
      );
      short = tt;
    }

-- and a value that decodes
pub decode_held : (plain : Plain) (under : Options) (level : Level) (inner : DataType) (b : Element) (value mask rest :
    List ℕ) (w v : code.ArrayBytes) → level.data_type ≡ optional_type inner → unserved_by plain inner ≡ None →
    IsSplit (count_of level.shape) value mask rest →
    Decodes plain under (record { shape = level.shape; data_type = inner; fill = b }) rest (Ok w) →
    raw_of v ≡ optional_bytes (raw_of w) mask → Decodes (plain_optional plain) under level value (Ok v)
decode_held plain under level inner b value mask rest w v is served split told made =
    let gives = told.value served in
    let means : list_at level (raw_of v) ≡
    option_map (mask_over mask) (list_at (record { shape = level.shape; data_type = inner; fill = b }) (raw_of w)) =
    ap₂ (λ t bytes. meaning (kind_of t) (count_of level.shape) bytes) is made
    ∙ cond-true (is_mask (count_of level.shape) mask) _ None split.valid in
    let wanted : decode_array_to_bytes under (optional_codec (codec_of plain)) level value ≡ option_map (mask_over mask)
    (decode_array_to_bytes under (codec_of plain) (record { shape = level.shape; data_type = inner; fill = b }) rest) =
    ap (λ t. decode_array_to_bytes under (optional_codec (codec_of plain))
    (record { shape = level.shape; data_type = t; fill = level.fill }) value) is
    ∙ decode_masked under (codec_of plain) level.shape inner level.fill b value mask rest split in
    record {
      unserved = no_reason (unserved_by (plain_optional plain) level.data_type) (Ok v)
          (none_inside plain level.data_type inner is served);
      value = λ _. record {
        same = means ∙ (ap (option_map (mask_over mask)) gives.same ∙ sym wanted);
        there =
            subst (λ (o : Option (List Element)). IsSome o) (sym means) (mapped_there (mask_over mask) _ gives.there);
      };
      short = ap has_long_element made ∙ told.short;
    }

-- what is said of optional elements: first of their mask, then of what is under it
masked_validity : (kind : Kind) (number : ℕ) (under : ArrayBytes) (mask : List ℕ) → is_mask number mask ≡ true →
    validity (optional kind) number (optional_bytes under mask) ≡ validity kind number under
masked_validity kind number under mask valid =
    ap (λ (m : Bool). sized_answer (inner_length under) (number * size_in (fixed_size kind))
    (or_then (refused_if (not m) invalid_mask) (bytes_refusal kind number under))) valid

-- the mask is right where nothing is told of it
mask_right : (number : ℕ) (under : ArrayBytes) (mask : List ℕ) → fine ≡ mask_answer number (optional_bytes under mask) →
    is_mask number mask ≡ true
mask_right number under mask told = go (is_mask number mask) told
  where
    go : (m : Bool) → fine ≡ (if m then fine else refused invalid_mask) → m ≡ true
    go true told = refl
    go false told = cc

same_answer : (plain : Plain) (level : Level) (inner : DataType) (under : ArrayBytes) (mask : List ℕ) →
    level.data_type ≡ optional_type inner → is_mask (count_of level.shape) mask ≡ true →
    then_answer (validity (kind_of inner) (count_of level.shape) under) (beyond_by plain (count_of level.shape) under) ≡
    then_answer (validity (kind_of level.data_type) (count_of level.shape) (optional_bytes under mask))
    (beyond_by (plain_optional plain) (count_of level.shape) (optional_bytes under mask))
same_answer plain level inner under mask is valid =
    ap (λ a. then_answer a (beyond_by plain (count_of level.shape) under))
    (sym (ap (λ t. validity (kind_of t) (count_of level.shape) (optional_bytes under mask)) is
    ∙ masked_validity (kind_of inner) (count_of level.shape) under mask valid))

pub encode_held : {Z : Type 0}
    (plain : Plain) (level : Level) (inner : DataType) (b : Element) (bytes under : ArrayBytes) (mask : List ℕ)
    (v w : Vec ℕ Z) → level.data_type ≡ optional_type inner → unserved_by plain inner ≡ None →
    bytes ≡ optional_bytes under mask → fine ≡ mask_answer (count_of level.shape) bytes →
    Encodes plain (record { shape = level.shape; data_type = inner; fill = b }) under (Ok v) →
    w.items ≡ mask ++ v.items → Encodes (plain_optional plain) level bytes (Ok w)
encode_held {Z = Z} plain level inner b bytes under mask v w is served made answer told joined =
    let valid = mask_right (count_of level.shape) under mask
    (subst (λ (raw : ArrayBytes). fine ≡ mask_answer (count_of level.shape) raw) made answer) in
    let counted : length mask ≡ count_of level.shape = mask_length (count_of level.shape) mask valid in
    let split : IsSplit (count_of level.shape) w.items mask v.items = record {
      long = omega (arith, counted, ap length joined, length-append mask v.items);
      front = sym (ap (take (count_of level.shape)) joined ∙ take_at mask v.items (count_of level.shape) counted);
      back = sym (ap (drop (count_of level.shape)) joined ∙ drop_at mask v.items (count_of level.shape) counted);
      valid = valid;
    } in
    let means : list_at level (optional_bytes under mask) ≡
    option_map (mask_over mask) (list_at (record { shape = level.shape; data_type = inner; fill = b }) under) =
    ap (λ t. meaning (kind_of t) (count_of level.shape) (optional_bytes under mask)) is
    ∙ cond-true (is_mask (count_of level.shape) mask) _ None valid in
    let here : Encodes (plain_optional plain) level (optional_bytes under mask) (Ok w) = record {
      unserved = no_reason (unserved_by (plain_optional plain) level.data_type) (Ok w)
          (none_inside plain level.data_type inner is served);
      exact = λ _. subst (λ (a : BytesAnswer). Answers {T = Vec ℕ Z} a (Ok w))
          (same_answer plain level inner under mask is valid) (told.exact served);
      value = λ _ options.
          ap (λ t. decode_array_to_bytes options (optional_codec (codec_of plain))
          (record { shape = level.shape; data_type = t; fill = level.fill }) w.items) is
          ∙ (decode_masked options (codec_of plain) level.shape inner level.fill b w.items mask v.items split
          ∙ (ap (option_map (mask_over mask)) (told.value served options) ∙ sym means));
    } in
    subst (λ (raw : ArrayBytes). Encodes {Z = Z} (plain_optional plain) level raw (Ok w)) (sym made) here

-- an error of decoding is no fault of a store
pub decodes_no_fault : (plain : Plain) (under : Options) (level : Level) (encoded : List ℕ)
    (r : Result code.ArrayBytes CodecError) → Decodes plain under level encoded r → IfErr r IsNoFault
decodes_no_fault plain under level encoded r decodes =
    served_no_fault (unserved_by plain level.data_type) r decodes.unserved
    (λ served. decoded_no_fault _ (decode_array_to_bytes under (codec_of plain) level encoded)
    (says_by plain (count_of level.shape) level.data_type encoded) r
    (λ e told. plain_no_fault plain (count_of level.shape) level.data_type encoded e told) (decodes.value served))
