-- An array that was read has chunks: none of their lengths is 0.
use Rattle.std.proofs.Common.{◌≡◌, ℕ, Bool, true, false, ◌==◌, nat_le, if◌then◌else◌, List, [], ◌∷◌, Some, None}
use Rattle.std.proofs.Common.{codes, refl, arith}
use Rattle.std.proofs.lemmas.Bool.{le-leb, eqb-false}
use Rattle.std.specs.List.{list_all}
use Rattle.serde_json.specs.Data.{Data, Items, no_items, item, Members}
use Rattle.serde_json.specs.Find.{get_member, as_array, as_object}
use Rattle.zarrs_metadata_values.specs.Reading.{◌>>=◌, each, list_by, read_under, whole_number, whole_numbers}
use Rattle.zarrs_metadata_values.specs.Reading.{positive_number, is_number}
use Rattle.zarrs_metadata_values.proofs.EachLemmas.{bind_some}
use Rattle.zarrs_metadata_parts.specs.DataTypeV2.{data_type_v2_of}
use Rattle.zarrs_metadata_v2.specs.ArrayMetadataV2.{ArrayV2, text_under, array_order_of, required_v2, optional_v2}
use Rattle.zarrs_metadata_v2.specs.ArrayMetadataV2.{array_v2_members, array_v2_of, HasChunks}

positive_at : (b : Bool) (n m : ℕ) → (n == 0) ≡ b → (if b then None else Some n) ≡ Some m → nat_le 1 m ≡ true
positive_at true n m is e = absurd cc
positive_at false n m is e =
    let same : n ≡ m = cc in
    le-leb 1 m (let other = eqb-false n 0 is in grind (arith, same, other))

positive : (d : Data) (n : ℕ) → positive_number d ≡ Some n → nat_le 1 n ≡ true
unfolding positive_number
positive d n e = let a = bind_some (whole_number d) _ n e in positive_at (a.0 == 0) a.0 n refl a.2

all_positive : (ds : Items) (ns : List ℕ) → each positive_number ds ≡ Some ns → list_all (λ n. nat_le 1 n) ns ≡ true
all_positive no_items ns e = let is : [] ≡ ns = cc in rw (← is) refl
all_positive (item d ds) ns e =
    let a = bind_some (positive_number d) _ ns e in
    let b = bind_some (each positive_number ds) _ ns a.2 in
    let is : a.0 ∷ b.0 ≡ ns = cc in
    rw (← is, positive d a.0 a.1, all_positive ds b.0 b.1) refl

chunks_positive : (d : Data) (ns : List ℕ) → list_by positive_number d ≡ Some ns → list_all (λ n. nat_le 1 n) ns ≡ true
chunks_positive d ns e = let a = bind_some (as_array d) (each positive_number) ns e in all_positive a.0 ns a.2

required_chunks : (ms : Members) (f : ArrayV2) → required_v2 ms ≡ Some f → HasChunks f
unfolding required_v2
required_chunks ms f e =
    let a = bind_some (text_under (codes "order") array_order_of ms) _ f e in
    let b = bind_some (read_under (codes "shape") whole_numbers ms) _ f a.2 in
    let c = bind_some (read_under (codes "chunks") (list_by positive_number) ms) _ f b.2 in
    let d = bind_some (read_under (codes "dtype") data_type_v2_of ms) _ f c.2 in
    let x = bind_some (get_member (codes "fill_value") ms) _ f d.2 in
    let same = x.2 in
    let is : f.chunks ≡ c.0 = cc in
    let under = bind_some (get_member (codes "chunks") ms) (list_by positive_number) c.0 c.1 in
    rw is (chunks_positive under.0 c.0 under.2)

array_chunks : (ms : Members) (f : ArrayV2) → array_v2_members ms ≡ Some f → HasChunks f
unfolding array_v2_members
array_chunks ms f e =
    let a = bind_some (get_member (codes "zarr_format") ms >>= is_number 2) _ f e in
    let b = bind_some (required_v2 ms) _ f a.2 in
    let c = bind_some (optional_v2 ms) _ f b.2 in
    let same = c.2 in
    let is : f.chunks ≡ (b.0).chunks = cc in
    rw is (required_chunks ms b.0 b.1)

pub has_chunks : (d : Data) (f : ArrayV2) → array_v2_of d ≡ Some f → HasChunks f
has_chunks d f e = let o = bind_some (as_object d) array_v2_members f e in array_chunks o.0 f o.2
