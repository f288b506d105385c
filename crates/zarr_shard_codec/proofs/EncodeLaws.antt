-- Inner chunks that are written one after another, and what they decode to.
use Rattle.std.proofs.Common.{◌≡◌, ℕ, zero, suc, ◌+◌, ◌^◌, ◌≤◌, ◌<◌, ◌==◌, Bool, true, false, if◌then◌else◌, List, []}
use Rattle.std.proofs.Common.{◌∷◌, ◌++◌, length, take, drop, slice_get, flat_map, Option, Some, None, option_map}
use Rattle.std.proofs.Common.{option_and_then, Result, IfOk, MatchResult, eq-eqb, refl, sym, ap, ap₂, ◌∙◌, subst}
use Rattle.std.proofs.Common.{subst₂, arith, ⊎_elim}
use Rattle.std.proofs.lemmas.Bool.{cond-true, cond-false, le-leb}
use Rattle.std.proofs.lemmas.Grind.{flat_map-append}
use Rattle.std.proofs.lemmas.List.{length-append, append-nil, drop_at, take_at}
use Rattle.std.specs.List.{AllByRecursion}
use Rattle.zarr_model.specs.Prelude.{Region, count, count_of, sizes, whole, tuples, ends_within, Element, null, Kind}
use Rattle.zarr_model.specs.Prelude.{kind, Options, ArrayBytes, meaning}
use Rattle.zarrs_codec_traits.specs.Prelude.{picked, raw_of, Answers, extract_answer, linear, select, list_at}
use Rattle.zarrs_codec_error.specs.declared.error.CodecError.{CodecError}
use Rattle.zarrs_codec_error.specs.declared.error.CodecError.TheVariants as errors
use Rattle.zarrs_codec_array_bytes.specs.declared.array_bytes.ArrayBytes as code
use Rattle.zarrs_codec_traits.proofs.TakenLaws.{taken_out}
use Rattle.zarr_shard_codec.specs.Index.{Pair, pair_bytes, absent_pair, is_absent, part_of, lies_within, index_ended}
use Rattle.zarr_shard_codec.specs.Index.{index_bytes}
use Rattle.zarr_shard_codec.specs.Shard.{by_index, index_of}
use Rattle.zarr_shard_codec.specs.Finding.{index_found}
use Rattle.zarr_shard_codec.specs.Written.{FitsPair}
use Rattle.zarr_shard_codec.specs.ShardCodec.{inner_of, inner_grid, inner_level, own_level, own_array, own_list}
use Rattle.zarr_shard_codec.specs.ShardCodec.{inner_decoded}
use Rattle.zarr_shard_codec.specs.Inner.{found_at, inner_at}
use Rattle.zarr_shard_codec.specs.Placing.{indices_at, box_at}
use Rattle.zarr_shard_codec.specs.Whole.{inner_content_of}
use Rattle.zarr_shard_codec.specs.Encoding.{part_list, IsFill, IsWrittenInner, end_after, HasAppended, IsEncoded}
use Rattle.zarr_shard_codec.specs.declared.shard_codec.ShardCodec.{ShardCodec}
use Rattle.zarr_shard_codec.proofs.CodecFacts.{covers, num_chunks, is_inner, numbered, box_sizes, box_inside}
use Rattle.zarr_shard_codec.proofs.IndexLaws.{written_is_found, holds_pairs}
use Rattle.zarr_shard_codec.proofs.InnerLaws.{content_from, content_is_at, blank_list}
use Rattle.zarr_shard_codec.proofs.PairLaws.{cut_front, all_more, last_or_before, end_more, not_absent}
use Rattle.zarr_shard_codec.proofs.PlacedLaws.{all_selected}

-- the first inner chunks were written, and their pairs
pub record HasWritten (codec : ShardCodec) (options : Options) (list : List Element) (k : ℕ) (front index : List ℕ) :
    Type 0 where
  pub pairs : List Pair
  pub indexed : index ≡ flat_map pair_bytes pairs
  pub count : length pairs ≡ k
  pub fit : AllByRecursion FitsPair pairs
  pub laid : end_after 0 pairs ≡ Some (length front)
  pub each : (number : ℕ) (pair : Pair) → slice_get pairs number ≡ Some pair →
      IsWrittenInner codec options (part_list codec number list) front pair

module _ (codec : ShardCodec) (options : Options) where
  -- one that is left out
  pub left_out : (list : List Element) (front : List ℕ) (pair : Pair) → pair ≡ absent_pair →
      options.store_empty_chunks ≡ false → IsFill codec list → HasAppended codec options list front front pair
  left_out list front pair is off fill = subst (HasAppended codec options list front front) (sym is) (record {
    more = [];
    grown = sym (append-nil front);
    fits = (omega arith, omega arith);
    behind = refl;
    written = record {
      empty = λ _. (off, fill);
      left_out = λ _ _. refl;
      there = λ there. cc;
    };
  })

  -- one whose bytes were appended
  pub appended : (list : List Element) (front value new : List ℕ) (pair : Pair) → new ≡ front ++ value →
      length new < 2 ^ 64 → pair.offset ≡ length front → pair.size ≡ length value →
      (options.store_empty_chunks ≡ false → IsFill codec list → ⊥) →
      ((under : Options) → inner_decoded codec under value ≡ Some list) → HasAppended codec options list front new pair
  appended list front value new pair is room from long kept decodes =
      let total : length new ≡ length front + length value = ap length is ∙ length-append front value in
      let sum : pair.offset + pair.size < 2 ^ 64 = omega (arith, total, room, from, long) in
      let present : is_absent pair ≡ false = not_absent pair.offset pair.size sum in
      let ends : pair.offset + pair.size ≡ length new = omega (arith, total, from, long) in
      let here : (pair.offset == length front) ≡ true = eq-eqb pair.offset (length front) from in
      let bytes : take pair.size (drop pair.offset new) ≡ value =
      ap (λ xs. take pair.size (drop pair.offset xs)) is ∙ (ap (take pair.size) (drop_at front value pair.offset
      (sym from)) ∙ (ap (take pair.size) (sym (append-nil value)) ∙ take_at value [] pair.size (sym long))) in
      record {
        more = value;
        grown = is;
        fits = (omega (arith, sum), omega (arith, sum));
        behind = cond-false (is_absent pair) (Some (length front))
            (if pair.offset == length front then Some (length front + pair.size) else None) present
            ∙ (cond-true (pair.offset == length front) (Some (length front + pair.size)) None here
            ∙ ap Some (let sized : length front + pair.size ≡ length new = omega (arith, total, long) in sized));
        written = record {
          empty = λ absent. cc;
          left_out = λ off fill. absurd (kept off fill);
          there = λ _. record {
            within = omega (arith, ends);
            decodes = λ under. ap (inner_decoded codec under) bytes ∙ decodes under;
          };
        };
      }

  -- what was written stays where more stands behind it
  still_written : (list : List Element) (front more new : List ℕ) (pair : Pair) → new ≡ front ++ more →
      IsWrittenInner codec options list front pair → IsWrittenInner codec options list new pair
  still_written list front more new pair is written = record {
    empty = written.empty;
    left_out = written.left_out;
    there = λ present.
        let names = written.there present in
        let total : length new ≡ length front + length more = ap length is ∙ length-append front more in
        record {
          within = (let less = names.within in omega (arith, less, total));
          decodes = λ under. ap (inner_decoded codec under) (ap (λ xs. take pair.size (drop pair.offset xs)) is
              ∙ cut_front front more pair.offset pair.size names.within) ∙ names.decodes under;
        };
  }

  module _ (list : List Element) where
    pub none_written : (front index : List ℕ) → front ≡ [] → index ≡ [] → HasWritten codec options list 0 front index
    none_written front index none empty = record {
      pairs = [];
      indexed = empty;
      count = refl;
      fit = tt;
      laid = ap (λ xs. Some (length xs)) (sym none);
      each = λ number pair e. cc;
    }

    pub one_written : (k : ℕ) (front index new next : List ℕ) (pair : Pair) → HasWritten codec options list k front
        index → HasAppended codec options (part_list codec k list) front new pair →
        next ≡ index ++ pair_bytes pair → HasWritten codec options list (k + 1) new next
    one_written k front index new next pair so_far appended pushed = record {
      pairs = so_far.pairs ++ pair ∷ [];
      indexed = pushed ∙ (ap (λ xs. xs ++ pair_bytes pair) so_far.indexed ∙ (ap (λ xs. flat_map pair_bytes so_far.pairs
          ++ xs) (sym (append-nil (pair_bytes pair))) ∙ sym (flat_map-append pair_bytes so_far.pairs (pair ∷ []))));
      count = length-append so_far.pairs (pair ∷ []) ∙ ap (λ n. n + 1) so_far.count;
      fit = all_more FitsPair so_far.pairs pair so_far.fit appended.fits;
      laid = end_more 0 so_far.pairs pair (length front) so_far.laid ∙ appended.behind;
      each = λ number other e. ⊎_elim
          (λ (before : slice_get so_far.pairs number ≡ Some other). still_written (part_list codec number list) front
          appended.more new other appended.grown (so_far.each number other before))
          (λ (last : (number ≡ length so_far.pairs) × (other ≡ pair)).
          let at : k ≡ number = sym (last.0 ∙ so_far.count) in
          subst (λ p. IsWrittenInner codec options (part_list codec number list) new p) (sym last.1)
          (subst (λ n. IsWrittenInner codec options (part_list codec n list) new pair) at appended.written))
          (last_or_before so_far.pairs pair other number e);
    }

    pub all_written : (k : ℕ) (front index end value : List ℕ) → k ≡ count_of (inner_grid codec).grid_shape →
        HasWritten codec options list k front index → end ≡ index_ended codec.shard.checked index →
        value ≡ front ++ end → IsEncoded codec options list value
    all_written k front index end value all written finished joined = record {
      front = front;
      pairs = written.pairs;
      is = joined ∙ ap (λ xs. front ++ xs) (finished ∙ ap (index_ended codec.shard.checked) written.indexed);
      count = written.count ∙ all;
      fit = written.fit;
      laid = written.laid;
      each = written.each;
    }

  -- what is encoded decodes to its elements, under all options
  module _ (list : List Element) (value : List ℕ) (encoded : IsEncoded codec options list value) (under : Options) where
    abbrev found_in : List ℕ → Option (List ℕ)
    found_in bytes = index_of codec.shard.checked under.validate_checksums (own_array codec under) bytes

    index_there : index_of codec.shard.checked under.validate_checksums (own_array codec under) value ≡
        Some (flat_map pair_bytes encoded.pairs)
    index_there =
        ap found_in encoded.is
        ∙ (ap (λ n. index_found codec.shard.checked under.validate_checksums n
        (encoded.front ++ index_bytes codec.shard.checked encoded.pairs)) (sym encoded.count)
        ∙ written_is_found codec.shard.checked under.validate_checksums encoded.front encoded.pairs)

    total : length encoded.front ≤ length value
    total = let long : length value ≡ length encoded.front + length (index_bytes codec.shard.checked encoded.pairs) =
        ap length encoded.is ∙ length-append encoded.front (index_bytes codec.shard.checked encoded.pairs) in
        omega (arith, long)

    abbrev inner_by : Bool → Pair → Option (Option (List Element))
    inner_by absent pair =
        if absent then Some None else option_map Some (found_at (inner_decoded codec under) value pair)

    given : (number : ℕ) (pair : Pair) → IsWrittenInner codec options (part_list codec number list) encoded.front pair →
        content_from (blank_list codec) (inner_at (inner_decoded codec under) value pair) ≡
        Some (part_list codec number list)
    given number pair written = go (is_absent pair) refl
      where
        go : (absent : Bool) → is_absent pair ≡ absent → content_from (blank_list codec)
            (inner_at (inner_decoded codec under) value pair) ≡ Some (part_list codec number list)
        go true is = ap (λ a. content_from (blank_list codec) (inner_by a pair)) is ∙ ap Some (sym (written.empty is).1)
        go false is =
            let names = written.there is in
            let less = names.within in
            let room : pair.offset + pair.size ≤ length value = omega (arith, less, total) in
            let bytes : take pair.size (drop pair.offset value) ≡ take pair.size (drop pair.offset encoded.front) =
            ap (λ xs. take pair.size (drop pair.offset xs)) encoded.is ∙ cut_front encoded.front
            (index_bytes codec.shard.checked encoded.pairs) pair.offset pair.size names.within in
            let part : part_of value pair ≡ Some (take pair.size (drop pair.offset value)) =
            cond-true (lies_within (length value) pair) _ _ (le-leb (pair.offset + pair.size) (length value) room) in
            let found : found_at (inner_decoded codec under) value pair ≡ Some (part_list codec number list) =
            ap (option_and_then (inner_decoded codec under)) part
            ∙ (ap (inner_decoded codec under) bytes ∙ names.decodes under) in
            ap (λ a. content_from (blank_list codec) (inner_by a pair)) is
            ∙ ap (λ f. content_from (blank_list codec) (option_map Some f)) found

    each : (number : ℕ) → number < count (whole (inner_grid codec).grid_shape) → inner_content_of codec under value
        (flat_map pair_bytes encoded.pairs) number ≡ Some (part_list codec number list)
    each number near = go (slice_get encoded.pairs number) refl
      where
        below : number < count_of (inner_grid codec).grid_shape
        below = subst (λ n. number < n) (sym (num_chunks codec)) near

        go : (pair : Option Pair) → slice_get encoded.pairs number ≡ pair → inner_content_of codec under value
            (flat_map pair_bytes encoded.pairs) number ≡ Some (part_list codec number list)
        go (Some pair) is =
            content_is_at codec under value (flat_map pair_bytes encoded.pairs) (indices_at codec number)
            (is_inner codec number below) number (numbered codec number below)
            ∙ (ap (λ p. content_from (blank_list codec) (inner_at (inner_decoded codec under) value p))
            (holds_pairs encoded.pairs number pair encoded.fit is)
            ∙ given number pair (encoded.each number pair is))
        go None is = absurd (there encoded.pairs number (subst (λ n. number < n) (sym encoded.count) below) is)
          where
            there : (xs : List Pair) (n : ℕ) → n < length xs → slice_get xs n ≡ None → ⊥
            there [] n less e = absurd (omega (arith, less))
            there (x ∷ xs) zero less e = cc
            there (x ∷ xs) (suc n) less e = there xs n (omega (arith, less)) e

    pub encoded_decodes : length list ≡ count (whole (inner_of codec).shape) → own_list codec under value ≡ Some list
    encoded_decodes long =
        ap (option_and_then (by_index (own_array codec under) value)) index_there
        ∙ all_selected (own_array codec under) (covers codec) value (flat_map pair_bytes encoded.pairs) list long each

-- the elements of an inner chunk, out of those of the chunk
module _ (codec : ShardCodec) (number : ℕ) (below : number < count_of (inner_grid codec).grid_shape) where
  pub part_given : (own : Kind) (shape : List ℕ) (box : Region) (raw : ArrayBytes) (list : List Element)
      (r : Result code.ArrayBytes CodecError) → own ≡ kind (inner_of codec) → shape ≡ (inner_of codec).shape →
      box ≡ box_at codec number →
      Answers (extract_answer own (ends_within box shape) (count_of shape) raw) r →
      ((ys : List Element) → meaning own (count_of shape) raw ≡ Some ys →
      IfOk r (λ v. meaning own (length (tuples box)) (raw_of v) ≡ Some (picked null (linear shape (tuples box)) ys))) →
      list_at (own_level codec) raw ≡ Some list → MatchResult r
      (λ v. list_at (inner_level codec) (raw_of v) ≡ Some (part_list codec number list)) (λ e. e ≡ errors.OutOfMemory)
  part_given own shape box raw list r kind_is shape_is box_is answers chosen means =
      let inside : ends_within box shape ≡ true = ap₂ ends_within box_is shape_is ∙ box_inside codec number below in
      let there : meaning own (count_of shape) raw ≡ Some list =
      ap₂ (λ k s. meaning k (count_of s) raw) kind_is shape_is ∙ means in
      let gives = taken_out raw_of own shape box raw list r inside answers chosen there in
      subst (λ n. MatchResult r (λ v. meaning (kind (inner_of codec)) n (raw_of v) ≡ Some (select (inner_of codec).shape
      (box_at codec number) list)) (λ e. e ≡ errors.OutOfMemory)) (ap count_of (box_sizes codec number below))
      (subst (λ b. MatchResult r (λ v. meaning (kind (inner_of codec)) (count_of (sizes b)) (raw_of v) ≡
      Some (select (inner_of codec).shape b list)) (λ e. e ≡ errors.OutOfMemory)) box_is
      (subst₂ (λ k s. MatchResult r (λ v. meaning k (count_of (sizes box)) (raw_of v) ≡ Some (select s box list))
      (λ e. e ≡ errors.OutOfMemory)) kind_is shape_is gives))
