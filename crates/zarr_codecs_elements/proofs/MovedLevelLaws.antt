-- The level below an order of dimensions, and the laws of its codec.
use Rattle.std.proofs.Common.{◌≡◌, ℕ, ◌+◌, ◌*◌, ◌<◌, ◌≤◌, ◌==◌, ◌^◌, Bool, true, false, if◌then◌else◌, List, length}
use Rattle.std.proofs.Common.{replicate, Option, Some, None, option_map, Result, Ok, Err, IfOk, refl, sym, ap, ◌∙◌}
use Rattle.std.proofs.Common.{subst, arith, eqb-true}
use Rattle.std.proofs.Math.Nat.{mul-le-mul_right}
use Rattle.std.proofs.lemmas.List.{length-map}
use Rattle.zarr_model.proofs.RegionLaws.{count_within, rank_within}
use Rattle.zarrs_codec_traits.specs.Prelude.{Span, Region, count, count_of, sizes, ends_within, ArrayBytes, meaning}
use Rattle.zarrs_codec_traits.specs.Prelude.{size_in, Gives, IsFit, taken, select}
use Rattle.zarr_model.specs.Element.{Element, null, DataType, Kind, kind_of, fixed_size}
use Rattle.zarr_model.specs.Codec.{Level, permuted, transpose_codec}
use Rattle.zarr_model.proofs.BytesLaws.{length-meaning}
use Rattle.zarr_codecs_elements.specs.Order.{is_order, inverse}
use Rattle.zarr_model.specs.Codec.{permuted_box}
use Rattle.zarr_codecs_elements.proofs.OrderLaws.{permuted_forth}
use Rattle.zarr_codecs_elements.proofs.CountLaws.{count_of-permuted}
use Rattle.zarr_codecs_elements.proofs.MoveLaws.{picked-moved, moved_same, moved_back}
use Rattle.zarr_codecs_elements.proofs.BoxLaws.{box_permuted, sizes-permuted, region_moved}
use Rattle.zarr_codecs_elements.specs.Moving.{rank_unserved, shape_above_of, moved_list}

-- a shape that is served has the order's rank
pub rank_of : (order shape : List ℕ) → rank_unserved order (Some shape) ≡ None → length shape ≡ length order
rank_of order shape served = go (length shape == length order) refl served
  where
    go : (b : Bool) → (length shape == length order) ≡ b → rank_unserved order (Some shape) ≡ None →
        length shape ≡ length order
    go true is s = eqb-true (length shape) (length order) is
    go false is s = cc

pub rank_serves : (order shape : List ℕ) (with_shape : Bool) → rank_unserved order (Some shape) ≡ None →
    rank_unserved order (taken with_shape shape) ≡ None
rank_serves order shape true served = served
rank_serves order shape false served = refl

-- what the codec decodes is the moved list
pub decodes_moved : (order : List ℕ) (level : Level) (list : List Element) →
    (transpose_codec order).decode_list level list ≡ Some (moved_list order level.shape list)
decodes_moved order level list = ap Some (sym (picked-moved null order level.shape list))

pub fill_stays : (order : List ℕ) (level : Level) → is_order order ≡ true →
    rank_unserved order (Some level.shape) ≡ None →
    (transpose_codec order).decode_list level (replicate (count_of (permuted order level.shape)) level.fill) ≡
    Some (replicate (count_of level.shape) level.fill)
fill_stays order level e served =
    decodes_moved order level (replicate (count_of (permuted order level.shape)) level.fill)
    ∙ ap Some (moved_same null level.fill order level.shape e (rank_of order level.shape served))

-- the shape below
pub count_kept : (order shape : List ℕ) → is_order order ≡ true → rank_unserved order (Some shape) ≡ None →
    count_of (permuted order shape) ≤ count_of shape
count_kept order shape e served = let same = count_of-permuted order shape e (rank_of order shape served) in
    omega (arith, same)

pub fit_below : (order shape : List ℕ) (data_type : DataType) → is_order order ≡ true → length shape ≡ length order →
    IsFit shape data_type → IsFit (permuted order shape) data_type
fit_below order shape data_type e rank fits =
    let same = count_of-permuted order shape e rank in
    record {
      count = subst (λ n. n + 1 < 2 ^ 64) (sym same) fits.count;
      bytes = subst (λ n. n * size_in (fixed_size (kind_of data_type)) < 2 ^ 64) (sym same) fits.bytes;
    }

pub fit_kept : (order shape : List ℕ) (data_type : DataType) → is_order order ≡ true →
    rank_unserved order (Some shape) ≡ None → IsFit shape data_type → IsFit (permuted order shape) data_type
fit_kept order shape data_type e served fits = fit_below order shape data_type e (rank_of order shape served) fits

pub region_stays : (order shape : List ℕ) (box : Region) → is_order order ≡ true → rank_unserved order (Some shape) ≡
    None → ends_within box shape ≡ true → ends_within (permuted_box order box) (permuted order shape) ≡ true
region_stays order shape box e served inside = box_permuted order shape box e (rank_of order shape served) inside

pub above_below : (order shape other : List ℕ) → is_order order ≡ true → shape_above_of order shape ≡ Some other →
    permuted order other ≡ shape
above_below order shape other e is = go (length shape == length order) refl is
  where
    go : (b : Bool) → (length shape == length order) ≡ b →
        (if b then Some (permuted (inverse order) shape) else None) ≡ Some other → permuted order other ≡ shape
    go true same given =
        let is_other : permuted (inverse order) shape ≡ other = cc in
        ap (permuted order) (sym is_other) ∙ permuted_forth order shape e (eqb-true (length shape) (length order) same)
    go false same given = cc

-- calls
module _ {T E : Type 0} (seen : T → ArrayBytes) (kind : Kind) (order shape : List ℕ)
    (raw : ArrayBytes) (e : is_order order ≡ true) (rank : length shape ≡ length order) where
  pub decode_gives : (r : Result T E) → IfOk r (λ v. Gives (meaning kind (count_of shape) (seen v))
      (option_map (moved_list order shape) (meaning kind (count_of shape) raw))) →
      (list : List Element) → meaning kind (count_of (permuted order shape)) raw ≡ Some list →
      IfOk r (λ v. Gives (meaning kind (count_of shape) (seen v)) (Some (moved_list order shape list)))
  decode_gives (Err x) gives list is = tt
  decode_gives (Ok v) gives list is = record {
    same = gives.same ∙ ap (option_map (moved_list order shape))
        (ap (λ n. meaning kind n raw) (sym (count_of-permuted order shape e rank)) ∙ is);
    there = gives.there;
  }

  pub encode_gives : (r : Result T E) →
      IfOk r (λ v. Gives (meaning kind (count_of (permuted order shape)) (seen v)) (option_map
      (moved_list (inverse order) (permuted order shape)) (meaning kind (count_of (permuted order shape)) raw))) →
      IfOk r (λ v. option_map (moved_list order shape) (meaning kind (count_of (permuted order shape)) (seen v)) ≡
      meaning kind (count_of shape) raw)
  encode_gives (Err x) gives = tt
  encode_gives (Ok v) gives =
      ap (option_map (moved_list order shape)) gives.same
      ∙ (go (meaning kind (count_of (permuted order shape)) raw) refl
      ∙ ap (λ n. meaning kind n raw) (count_of-permuted order shape e rank))
    where
      go : (o : Option (List Element)) → meaning kind (count_of (permuted order shape)) raw ≡ o →
          option_map (moved_list order shape) (option_map (moved_list (inverse order) (permuted order shape)) o) ≡ o
      go None is = refl
      go (Some list) is = ap Some (moved_back null order shape list e rank
          (length-meaning kind (count_of (permuted order shape)) raw list is ∙ count_of-permuted order shape e rank))

pub box_rank : (order shape : List ℕ) (box : Region) → length shape ≡ length order → ends_within box shape ≡ true →
    length (sizes box) ≡ length order
box_rank order shape box rank inside = length-map box (λ (s : Span). s.size) ∙ (rank_within box shape inside ∙ rank)

pub box_count : (order shape : List ℕ) (box : Region) → is_order order ≡ true → length shape ≡ length order →
    ends_within box shape ≡ true → count_of (sizes (permuted_box order box)) ≡ count box
box_count order shape box e rank inside = ap count_of (sizes-permuted order box)
    ∙ count_of-permuted order (sizes box) e (box_rank order shape box rank inside)

-- a region of what is decoded
module _ {T E : Type 0} (seen : T → ArrayBytes) (kind : Kind) (order shape : List ℕ) (box : Region) (raw : ArrayBytes)
    (e : is_order order ≡ true) (rank : length shape ≡ length order) (inside : ends_within box shape ≡ true) where
  pub region_gives : (r : Result T E) → IfOk r (λ v. Gives (meaning kind (count box) (seen v))
      (option_map (moved_list order (sizes box)) (meaning kind (count box) raw))) →
      (list : List Element) → meaning kind (count_of (sizes (permuted_box order box))) raw ≡
      Some (select (permuted order shape) (permuted_box order box) list) →
      IfOk r (λ v. meaning kind (count box) (seen v) ≡ Some (select shape box (moved_list order shape list)))
  region_gives (Err x) gives list is = tt
  region_gives (Ok v) gives list is =
      gives.same
      ∙ (ap (option_map (moved_list order (sizes box)))
      (ap (λ n. meaning kind n raw) (sym (box_count order shape box e rank inside)) ∙ is)
      ∙ ap Some (region_moved null order shape box list e rank inside))

-- a box fits where its shape does
pub box_fit : (shape : List ℕ) (box : Region) (data_type : DataType) → ends_within box shape ≡ true →
    IsFit shape data_type → IsFit (sizes box) data_type
box_fit shape box data_type inside fits =
    let few = count_within box shape inside in
    let more : count box * size_in (fixed_size (kind_of data_type)) ≤ count_of shape
    * size_in (fixed_size (kind_of data_type)) = mul-le-mul_right (size_in (fixed_size (kind_of data_type))) few in
    record { count = omega (arith, few, fits.count); bytes = omega (arith, more, fits.bytes) }
