-- What is written for a version 2 array, read again.
use Rattle.std.proofs.Common.{◌≡◌, ℕ, ◌≤◌, nat_le, ◌&&◌, Bool, true, false, List, [], ◌∷◌, map, Option, Some, None}
use Rattle.std.proofs.Common.{codes, arith, refl}
use Rattle.std.proofs.lemmas.Bool.{leb-true, le-leb, ne_eqb}
use Rattle.std.specs.List.{list_all}
use Rattle.std.specs.Int.NonZero.{non_zero_u64_get}
use Rattle.std.specs.declared.num.NonZeroU64.{NonZeroU64}
use Rattle.serde_json.specs.Data.{string, Members, no_members}
use Rattle.serde_json.specs.Find.{get_member}
use Rattle.serde_json.specs.View.{items_of}
use Rattle.serde_json.proofs.Views.{get_member-put}
use Rattle.zarrs_metadata_values.specs.Reading.{◌>>=◌, each, positive_number, is_number}
use Rattle.zarrs_metadata_values.specs.Writing.{number_data}
use Rattle.zarrs_metadata_values.proofs.EachLemmas.{each_written}
use Rattle.zarrs_metadata_values.proofs.PutLemmas.{look}
use Rattle.zarrs_metadata_values.proofs.NumberLists.{whole_numbers_read_back}
use Rattle.zarrs_metadata_values.proofs.PutObject.{look_object, object_back}
use Rattle.zarrs_metadata_parts.specs.MetadataV2.{CodecV2, codec_v2_of, codec_v2_members, codec_v2_data}
use Rattle.zarrs_metadata_parts.proofs.ReadBackV2.{data_type_v2_reads_back}
use Rattle.zarrs_metadata_parts.specs.Names.{separator_text}
use Rattle.zarrs_metadata_parts.specs.declared.array.chunk_key_separator.ChunkKeySeparator.{ChunkKeySeparator}
use Rattle.zarrs_metadata_parts.specs.declared.array.chunk_key_separator.ChunkKeySeparator.TheVariants.{Slash, Dot}
use Rattle.zarrs_metadata_v2.specs.CodecsV2.{compressor_of, filters_of, compressor_data, filters_data, normal_codec_v2}
use Rattle.zarrs_metadata_v2.specs.CodecsV2.{normal_compressor, normal_filters}
use Rattle.zarrs_metadata_v2.specs.ArrayMetadataV2.{ArrayV2, array_order_of, order_text, separator_of_text}
use Rattle.zarrs_metadata_v2.specs.ArrayMetadataV2.{dimension_separator_of, required_v2, optional_v2, array_v2_members}
use Rattle.zarrs_metadata_v2.specs.ArrayMetadataV2.{array_v2_of, optional_data_v2, required_data_v2, array_v2_data}
use Rattle.zarrs_metadata_v2.specs.ArrayMetadataV2.{normal_array_v2, required_part_v2, optional_part_v2, HasChunks}
use Rattle.zarrs_metadata_v2.specs.declared.array.order.ArrayMetadataV2Order.{ArrayMetadataV2Order}
use Rattle.zarrs_metadata_v2.specs.declared.array.order.ArrayMetadataV2Order.TheVariants.{C, F}

order_back : (o : ArrayMetadataV2Order) → array_order_of (order_text o) ≡ Some o
unfolding array_order_of
order_back C = refl
order_back F = refl

positive_back : (n : ℕ) → nat_le 1 n ≡ true → positive_number (number_data n) ≡ Some n
unfolding positive_number
positive_back n h = let low : 1 ≤ n = leb-true 1 n h in rw (ne_eqb n 0 (λ (e : n ≡ 0). omega (arith, low, e))) refl

both : (a b : Bool) → (a && b) ≡ true → (a ≡ true) × (b ≡ true)
both true b h = (refl, h)
both false b h = absurd cc

positives_back : (ns : List ℕ) → list_all (λ n. nat_le 1 n) ns ≡ true →
    each positive_number (items_of (map number_data ns)) ≡ Some ns
positives_back [] h = refl
positives_back (n ∷ ns) h =
    let p = both (nat_le 1 n) (list_all (λ m. nat_le 1 m) ns) h in
    rw (positive_back n p.0, positives_back ns p.1) refl

format_again : (f : ArrayV2) (ms : Members) →
    (get_member (codes "zarr_format") (required_data_v2 f ms) >>= is_number 2) ≡ Some tt
unfolding required_data_v2 is_number
format_again f ms = simp look

-- the parts that are always there
required_back : (f : ArrayV2) (ms : Members) → HasChunks f →
    required_v2 (required_data_v2 f ms) ≡ Some (required_part_v2 f)
unfolding required_v2 required_data_v2
required_back f ms h = simp (
  look,
  order_back,
  whole_numbers_read_back,
  positives_back f.chunks h,
  data_type_v2_reads_back,
)

separator_back : (s : ChunkKeySeparator) → dimension_separator_of (Some (string (separator_text s))) ≡ Some s
unfolding separator_of_text
separator_back Slash = refl
separator_back Dot = refl

codec_back : (c : CodecV2) → codec_v2_of (codec_v2_data c) ≡ Some (normal_codec_v2 c)
unfolding codec_v2_members
codec_back c = rw get_member-put refl

compressor_back : (o : Option CodecV2) → compressor_of (Some (compressor_data o)) ≡ Some (normal_compressor o)
compressor_back None = refl
compressor_back (Some c) = rw (codec_back c) refl

filters_back : (o : Option (List CodecV2)) → filters_of (Some (filters_data o)) ≡ Some (normal_filters o)
filters_back None = refl
filters_back (Some []) = refl
filters_back (Some (c ∷ cs)) =
    rw (codec_back c, each_written codec_v2_of codec_v2_data normal_codec_v2 codec_back cs) refl

-- the parts that may be there
optional_back : (f : ArrayV2) →
    optional_v2 (required_data_v2 f (optional_data_v2 f no_members)) ≡ Some (optional_part_v2 (normal_array_v2 f))
unfolding optional_v2 required_data_v2 optional_data_v2
optional_back f = simp (
  look,
  look_object,
  separator_back,
  compressor_back,
  filters_back,
  object_back,
)

pub array_v2_reads_back : (f : ArrayV2) → HasChunks f → array_v2_of (array_v2_data f) ≡ Some (normal_array_v2 f)
unfolding array_v2_members
array_v2_reads_back f h =
    let ms : Members = optional_data_v2 f no_members in
    rw (format_again f ms, required_back f ms h, optional_back f)

-- the chunks of a document in memory
pub lengths_positive : (lengths : List NonZeroU64) → list_all (λ n. nat_le 1 n) (map non_zero_u64_get lengths) ≡ true
lengths_positive [] = refl
lengths_positive (p ∷ lengths) = rw (le-leb 1 (non_zero_u64_get p) p.ok, lengths_positive lengths) refl
