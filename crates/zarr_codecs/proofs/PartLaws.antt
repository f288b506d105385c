-- Where the ranges that a codec asks for lie, it finds the part; and what `bytes` asks for and decodes.
use Rattle.std.proofs.Common.{◌≡◌, ℕ, ◌*◌, true, false, List, length, Option, Some, None, unwrap_or, refl, sym, ap, ◌∙◌}
use Rattle.std.proofs.Common.{subst}
use Rattle.zarrs_codec_traits.specs.Prelude.{Region, count_of, ends_within, Element, DataType, kind_of, fixed_size}
use Rattle.zarrs_codec_traits.specs.Prelude.{Level, Options, decode_array_to_bytes, first_invalid, size_in}
use Rattle.zarr_model.specs.Parts.{finds_part}
use Rattle.zarrs_storage.specs.declared.byte_range.ByteRange.{ByteRange}
use Rattle.zarrs_codec_traits.proofs.TakenLaws.{nothing_asked}
use Rattle.zarr_codecs_to_bytes.specs.Asking.{long_value}
use Rattle.zarr_codecs_to_bytes.specs.BytesCodec.{stored_order, element_bytes}
use Rattle.zarr_codecs_to_bytes.specs.Ranges.{run_ranges}
use Rattle.zarr_codecs_to_bytes.proofs.PieceLaws.{ranges_held, pieces_valid}
use Rattle.zarr_codecs.specs.Plain.{Plain, plain_bytes, plain_vlen, plain_optional, codec_of, request_by, is_bytes}

-- the size of elements, as the model says it
pub size_is : (size : Option ℕ) → size_in size ≡ unwrap_or size 0
size_is None = refl
size_is (Some n) = refl

runs_find : (level : Level) (box : Region) (ranges : List ByteRange) (value : List ℕ) →
    run_ranges (element_bytes level.data_type) level.shape box ≡ ranges → first_invalid (length value) ranges ≡ None →
    first_invalid (length value) (run_ranges (unwrap_or (fixed_size (kind_of level.data_type)) 0) level.shape box) ≡
    None
runs_find level box ranges value same valid =
    subst (λ (n : ℕ).
    first_invalid (length value) (run_ranges n level.shape box) ≡ None) (size_is (fixed_size (kind_of level.data_type)))
    (ap (first_invalid (length value)) same ∙ valid)

-- a region whose ranges lie within bytes is found in them
pub plain_finds : (plain : Plain) (level : Level) (box : Region) (ranges : List ByteRange) (value : List ℕ) →
    ends_within box level.shape ≡ true →
    request_by plain level.shape level.data_type box ≡ Some ranges → first_invalid (length value) ranges ≡ None →
    finds_part (codec_of plain) level box value ≡ true
plain_finds (plain_bytes order) level box ranges value inside some valid =
    let same : run_ranges (element_bytes level.data_type) level.shape box ≡ ranges = cc in
    ranges_held (unwrap_or (fixed_size (kind_of level.data_type)) 0) (length value) level.shape box inside
    (runs_find level box ranges value same valid)
plain_finds (plain_vlen text) level box ranges value inside some valid = absurd (nothing_asked some)
plain_finds (plain_optional inner) level box ranges value inside some valid = absurd (nothing_asked some)

-- and one that is found lies there; a codec that asks for no ranges finds nothing
runs_found : (level : Level) (box : Region) (ranges : List ByteRange) (value : List ℕ) →
    run_ranges (element_bytes level.data_type) level.shape box ≡ ranges →
    first_invalid (length value) (run_ranges (unwrap_or (fixed_size (kind_of level.data_type)) 0) level.shape box) ≡
    None →
    first_invalid (length value) ranges ≡ None
runs_found level box ranges value same valid =
    ap (first_invalid (length value)) (sym same)
    ∙ subst (λ (n : ℕ). first_invalid (length value) (run_ranges n level.shape box) ≡
    None) (sym (size_is (fixed_size (kind_of level.data_type)))) valid

pub plain_found : (plain : Plain) (level : Level) (box : Region) (ranges : List ByteRange) (value : List ℕ) →
    ends_within box level.shape ≡ true →
    request_by plain level.shape level.data_type box ≡ Some ranges →
    finds_part (codec_of plain) level box value ≡ true →
    first_invalid (length value) ranges ≡ None
plain_found (plain_bytes order) level box ranges value inside some found =
    let same : run_ranges (element_bytes level.data_type) level.shape box ≡ ranges = cc in
    runs_found level box ranges value same
    (pieces_valid (unwrap_or (fixed_size (kind_of level.data_type)) 0) (length value) level.shape box inside found)
plain_found (plain_vlen text) level box ranges value inside some found = absurd (nothing_asked some)
plain_found (plain_optional inner) level box ranges value inside some found = absurd (nothing_asked some)

pub plain_unfound : (plain : Plain) (level : Level) (box : Region) (value : List ℕ) →
    request_by plain level.shape level.data_type box ≡ None → finds_part (codec_of plain) level box value ≡ false
plain_unfound (plain_bytes order) level box value none = cc
plain_unfound (plain_vlen text) level box value none = refl
plain_unfound (plain_optional inner) level box value none = refl

-- `bytes` asks for the runs of a region, and a value that decodes by it is as long as its elements
pub bytes_asks : (plain : Plain) → is_bytes plain ≡ true → (shape : List ℕ) (data_type : DataType) (box : Region) →
    request_by plain shape data_type box ≡ Some (run_ranges (element_bytes data_type) shape box)
bytes_asks (plain_bytes order) is shape data_type box = refl
bytes_asks (plain_vlen text) is shape data_type box = cc
bytes_asks (plain_optional inner) is shape data_type box = cc

pub bytes_long : (plain : Plain) → is_bytes plain ≡ true →
    (options : Options) (level : Level) (value : List ℕ) (list : List Element) →
    decode_array_to_bytes options (codec_of plain) level value ≡ Some list →
    length value ≡ count_of level.shape * element_bytes level.data_type
bytes_long (plain_bytes order) is options level value list means =
    long_value (stored_order order) options level value list means
bytes_long (plain_vlen text) is options level value list means = cc
bytes_long (plain_optional inner) is options level value list means = cc
