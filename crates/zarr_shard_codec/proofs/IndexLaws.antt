-- An index that was written behind some bytes.
use Rattle.std.proofs.Common.{◌≡◌, ℕ, zero, suc, ◌+◌, ◌-◌, ◌*◌, ◌≤◌, Bool, true, false, List, [], ◌∷◌, ◌++◌, length}
use Rattle.std.proofs.Common.{take, drop, flat_map, Some, option_and_then, refl, sym, ap, ap₂, ◌∙◌, arith}
use Rattle.std.proofs.lemmas.List.{length-append, append-nil, take_at, drop_at, drop-drop}
use Rattle.std.proofs.lemmas.Bool.{cond-true, le-leb}
use Rattle.zarr_model.specs.Codec.{number_of_bytes, low_bytes}
use Rattle.zarr_model.proofs.VlenLaws.{number_of_bytes-low_bytes}
use Rattle.zarr_array_open.specs.ShardDocument.{index_size}
use Rattle.zarr_codecs_to_bytes.specs.Crc32c.{crc32c_bytes}
use Rattle.zarr_codecs_to_bytes.proofs.ChecksumLaws.{number_back, length-low, length-number}
use Rattle.zarr_shard_codec.specs.Index.{Pair, pair_of, pair_bytes, index_in, index_part, index_bytes, index_ended}
use Rattle.zarr_shard_codec.specs.Written.{FitsPair, WrittenIsFound, HoldsPairs}

length-pair : (pair : Pair) → length (pair_bytes pair) ≡ 16
length-pair pair = length-append (low_bytes 8 pair.offset) (low_bytes 8 pair.size)
    ∙ ap₂ (λ (a b : ℕ). a + b) (length-low 8 pair.offset) (length-low 8 pair.size)

length-pairs : (pairs : List Pair) → length (flat_map pair_bytes pairs) ≡ 16 * length pairs
length-pairs [] = refl
length-pairs (pair ∷ pairs) =
    let rest : length (flat_map pair_bytes pairs) ≡ 16 * length pairs = length-pairs pairs in
    length-append (pair_bytes pair) (flat_map pair_bytes pairs) ∙ omega (arith, length-pair pair, rest)

-- the pair that its bytes hold
pair-back : (pair : Pair) → FitsPair pair → pair_of (pair_bytes pair) ≡ pair
pair-back pair fits =
    let front : take 8 (pair_bytes pair) ≡ low_bytes 8 pair.offset =
    take_at (low_bytes 8 pair.offset) (low_bytes 8 pair.size) 8 (length-low 8 pair.offset) in
    let back : drop 8 (pair_bytes pair) ≡ low_bytes 8 pair.size =
    drop_at (low_bytes 8 pair.offset) (low_bytes 8 pair.size) 8 (length-low 8 pair.offset) in
    let all : take 8 (low_bytes 8 pair.size) ≡ low_bytes 8 pair.size = ap (take 8)
    (sym (append-nil (low_bytes 8 pair.size))) ∙ take_at (low_bytes 8 pair.size) [] 8 (length-low 8 pair.size) in
    let offset : number_of_bytes (take 8 (pair_bytes pair)) ≡ pair.offset =
    ap number_of_bytes front ∙ number_of_bytes-low_bytes 8 pair.offset fits.0 in
    let size : number_of_bytes (take 8 (drop 8 (pair_bytes pair))) ≡ pair.size =
    ap number_of_bytes (ap (take 8) back ∙ all) ∙ number_of_bytes-low_bytes 8 pair.size fits.1 in
    λ i. record { offset = offset i; size = size i }

pub holds_pairs : HoldsPairs
holds_pairs [] k pair fits here = cc
holds_pairs (first ∷ pairs) zero pair fits here =
    let same : first ≡ pair = cc in
    ap (λ xs. pair_of xs) (take_at (pair_bytes first) (flat_map pair_bytes pairs) 16 (length-pair first))
    ∙ pair-back first fits.0 ∙ same
holds_pairs (first ∷ pairs) (suc k) pair fits here =
    let more : 16 * suc k ≡ 16 + 16 * k = omega arith in
    let past : drop (16 * suc k) (pair_bytes first ++ flat_map pair_bytes pairs) ≡
    drop (16 * k) (flat_map pair_bytes pairs) =
    ap (λ n. drop n (pair_bytes first ++ flat_map pair_bytes pairs)) more
    ∙ sym (drop-drop (16 * k) 16 (pair_bytes first ++ flat_map pair_bytes pairs))
    ∙ ap (drop (16 * k)) (drop_at (pair_bytes first) (flat_map pair_bytes pairs) 16 (length-pair first)) in
    ap (λ xs. pair_of (take 16 xs)) past ∙ holds_pairs pairs k pair fits.1 here

length-ended : (checked : Bool) (pairs : List Pair) →
    length (index_bytes checked pairs) ≡ index_size checked (length pairs)
length-ended false pairs = length-pairs pairs
length-ended true pairs = length-append (flat_map pair_bytes pairs) (crc32c_bytes (flat_map pair_bytes pairs))
    ∙ ap₂ (λ (a b : ℕ). a + b) (length-pairs pairs) (length-number (flat_map pair_bytes pairs))

in-ended : (checked validate : Bool) (pairs : List ℕ) →
    index_in checked validate (index_ended checked pairs) ≡ Some pairs
in-ended false validate pairs = refl
in-ended true validate pairs = number_back validate pairs (pairs ++ crc32c_bytes pairs) refl

pub written_is_found : WrittenIsFound
written_is_found checked validate front pairs =
    let index = index_bytes checked pairs in
    let size : length index ≡ index_size checked (length pairs) = length-ended checked pairs in
    let long : length (front ++ index) ≡ length front + length index = length-append front index in
    let room : index_size checked (length pairs) ≤ length (front ++ index) = omega (arith, size, long) in
    let at : length front ≡ length (front ++ index) - index_size checked (length pairs) = omega (arith, size, long) in
    let part : index_part checked (length pairs) (front ++ index) ≡ Some index = cond-true _ _ _ (le-leb _ _ room)
    ∙ ap Some (drop_at front index (length (front ++ index) - index_size checked (length pairs)) at) in
    ap (option_and_then (index_in checked validate)) part ∙ in-ended checked validate (flat_map pair_bytes pairs)
