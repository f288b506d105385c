-- What is told of parts of one length, and what they are together.
use Rattle.std.proofs.Common.{◌≡◌, ◌⊎◌, ℕ, zero, suc, ◌*◌, ◌/◌, ◌<◌, ◌==◌, Bool, true, false, nat_eq, if◌then◌else◌}
use Rattle.std.proofs.Common.{List, [], ◌∷◌, ◌++◌, length, map, Result, refl, sym, ap, ap₂, ◌∙◌, arith, inl, inr}
use Rattle.std.proofs.Common.{eqb-true}
use Rattle.std.specs.List.{concat, range_with_len, AllByRecursion}
use Rattle.std.proofs.lemmas.List.{length-append, length-map}
use Rattle.std.proofs.lemmas.List.FromFn.{length-range_with_len}
use Rattle.std.proofs.Math.Nat.{div-zero, mul-div_left, mul_comm}
use Rattle.zarr_model.specs.Region.{Span, Region, count, count_of, sizes, ends_within, tuples, linear_index}
use Rattle.zarr_model.specs.Cover.{linear_indices}
use Rattle.zarr_model.proofs.RegionLaws.{length-tuples}
use Rattle.zarrs_chunk_grid_iterators.specs.Runs.{runs, joined, run_length, run_box}
use Rattle.zarrs_chunk_grid_iterators.proofs.BoxFacts.{box_joins}
use Rattle.zarrs_codec_error.specs.declared.error.CodecError.{CodecError}
use Rattle.zarrs_codec_error.specs.declared.error.CodecError.TheVariants as codec
use Rattle.zarrs_codec_array_bytes.specs.Refusals.{BytesAnswer, fine, refused, wrong_length, unfit, other_fill}
use Rattle.zarrs_codec_array_bytes.specs.Refusals.{no_memory, odd, told_by, then_answer}
use Rattle.zarrs_codec_array_bytes.proofs.ToldLaws.{says_some}
use Rattle.zarrs_codec_traits.specs.Parts.{part_lengths_answer}
use Rattle.zarr_codecs_to_bytes.specs.Ranges.{run_range, run_ranges, part_answer, parts_answer, even_answer}
use Rattle.zarr_codecs_to_bytes.proofs.OrderLaws.{then_fine}

-- the first part of another length
pub first_told : (first rest : BytesAnswer) (e : CodecError) → (e ≡ codec.OutOfMemory) ⊎ (told_by e ≡ first)
    → (e ≡ codec.OutOfMemory) ⊎ (told_by e ≡ then_answer first rest)
first_told first rest e (inl memory) = inl memory
first_told fine rest e (inr told) = absurd (says_some e told)
first_told (refused why) rest e (inr told) = inr told
first_told (wrong_length len expected) rest e (inr told) = inr told
first_told unfit rest e (inr told) = inr told
first_told other_fill rest e (inr told) = inr told
first_told no_memory rest e (inr told) = inr told
first_told odd rest e (inr told) = inr told

-- no parts
pub of_none : (total number : ℕ) → number ≡ 0 → 0 ≡ total / number
of_none total number none = sym (ap (λ n. total / n) none ∙ div-zero total)

-- one part
one_length : (total : ℕ) → total / 1 ≡ total
one_length total = let whole : total * 1 / 1 ≡ total = mul-div_left total (let some : 0 < 1 = omega arith in some) in
    ap (λ (n : ℕ). n / 1) (let e : total ≡ total * 1 = omega arith in e) ∙ whole

pub single_told : (total : ℕ) (part : List ℕ) (parts : List (List ℕ)) (r : Result (List ℕ) CodecError)
    → parts ≡ part ∷ [] → even_answer total parts ≡ part_answer total part
single_told total part parts r is =
    ap (λ (p : List (List ℕ)). even_answer total p) is
    ∙ (ap (λ (n : ℕ). parts_answer n (part ∷ [])) (one_length total) ∙ then_fine (part_answer total part))

pub no_more : (part : List ℕ) → part ++ [] ≡ part
no_more [] = refl
no_more (b ∷ part) = ap (λ (t : List ℕ). b ∷ t) (no_more part)

pub single_joined : (part : List ℕ) (parts : List (List ℕ)) → parts ≡ part ∷ [] → part ≡ concat parts
single_joined part parts is = sym (ap concat is ∙ no_more part)

-- runs of one length
abbrev Uniform : ℕ → List Span → Type 0
Uniform size spans = AllByRecursion (λ span. span.size ≡ size) spans

same_size : (size : ℕ) (starts : List ℕ) → Uniform size (map (λ index. record { start = index; size = size }) starts)
same_size size [] = tt
same_size size (s ∷ starts) = (refl, same_size size starts)

runs_uniform : (shape : List ℕ) (region : Region) → Uniform (run_length shape region) (runs shape region)
runs_uniform shape region = go (nat_eq (count region) 0)
  where
    go : (b : Bool) → Uniform (run_length shape region) (if b then [] else map (λ index. record {
      start =
          index;
      size = run_length shape region;
    }) (linear_indices shape (run_box shape region)))
    go true = tt
    go false = same_size (run_length shape region) (linear_indices shape (run_box shape region))

-- what is told by each range is told by the one length
uniform_told : (n size : ℕ) (spans : List Span) (parts : List (List ℕ)) → Uniform size spans
    → length parts ≡ length spans → part_lengths_answer (map (run_range n) spans) parts ≡ parts_answer (size * n) parts
uniform_told n size [] [] all long = refl
uniform_told n size [] (part ∷ parts) all long = cc
uniform_told n size (s ∷ spans) [] all long = cc
uniform_told n size (s ∷ spans) (part ∷ parts) all long =
    ap₂ then_answer (ap (λ (m : ℕ). part_answer (m * n) part) all.0)
    (uniform_told n size spans parts all.1 (let rest : length parts ≡ length spans = omega (arith, long) in rest))

uniform_total : (size : ℕ) (spans : List Span) → Uniform size spans → length (joined spans) ≡ length spans * size
uniform_total size [] all = let e : 0 ≡ 0 * size = omega arith in e
uniform_total size (s ∷ spans) all =
    let here : length (range_with_len s.start s.size) ≡ size = length-range_with_len s.start s.size ∙ all.0 in
    let rest : length (joined spans) ≡ length spans * size = uniform_total size spans all.1 in
    length-append (range_with_len s.start s.size) (joined spans) ∙ omega (arith, here, rest)

-- a region's runs have its elements
runs_total : (shape : List ℕ) (box : Region) → ends_within box shape ≡ true
    → length (runs shape box) * run_length shape box ≡ count box
runs_total shape box inside =
    sym (uniform_total (run_length shape box) (runs shape box) (runs_uniform shape box))
    ∙ (ap length (box_joins box shape inside) ∙ (length-map (tuples box) (linear_index shape) ∙ length-tuples box))

-- what is told of the parts of a region's runs
pub runs_told : (n : ℕ) (shape : List ℕ) (box : Region) (parts : List (List ℕ)) → ends_within box shape ≡ true
    → length parts ≡ length (run_ranges n shape box)
    → part_lengths_answer (run_ranges n shape box) parts ≡ even_answer (count box * n) parts
runs_told n shape box parts inside many = go (length parts) refl
  where
    as_many : length parts ≡ length (runs shape box)
    as_many = many ∙ length-map (runs shape box) (run_range n)

    told : part_lengths_answer (run_ranges n shape box) parts ≡ parts_answer (run_length shape box * n) parts
    told = uniform_told n (run_length shape box) (runs shape box) parts (runs_uniform shape box) as_many

    none : (parts : List (List ℕ)) (a b : ℕ) → length parts ≡ 0 → parts_answer a parts ≡ parts_answer b parts
    none [] a b e = refl
    none (part ∷ parts) a b e = cc

    go : (k : ℕ) → length parts ≡ k
        → part_lengths_answer (run_ranges n shape box) parts ≡ even_answer (count box * n) parts
    go zero e = told ∙ none parts (run_length shape box * n) (count box * n / length parts) e
    go (suc k) e =
        let some : 0 < length parts = omega (arith, e) in
        let runs_many : length (runs shape box) * run_length shape box ≡ count box = runs_total shape box inside in
        let all : count box * n ≡ length parts * (run_length shape box * n) =
        ap (λ (m : ℕ). m * n) (sym runs_many) ∙ (ap (λ (m : ℕ). m * run_length shape box * n) (sym as_many)
        ∙ (let e : length parts * run_length shape box * n ≡ length parts * (run_length shape box * n) =
        omega arith in e)) in
        let each : count box * n / length parts ≡ run_length shape box * n =
        ap (λ (m : ℕ). m / length parts) (all ∙ mul_comm (length parts) (run_length shape box * n))
        ∙ mul-div_left (run_length shape box * n) some in
        told ∙ ap (λ (m : ℕ). parts_answer m parts) (sym each)

-- parts of one length have so many bytes together
parts_long : (size : ℕ) (parts : List (List ℕ)) → parts_answer size parts ≡ fine
    → length (concat parts) ≡ length parts * size
parts_long size [] good = let e : 0 ≡ 0 * size = omega arith in e
parts_long size (part ∷ parts) good = go (length part == size) refl (λ rest. parts_long size parts rest) good
  where
    go : (b : Bool) → (length part == size) ≡ b → (parts_answer size parts ≡ fine
        → length (concat parts) ≡ length parts * size)
        → then_answer (if b then fine else wrong_length (length part) size) (parts_answer size parts) ≡ fine
        → length (concat (part ∷ parts)) ≡ length (part ∷ parts) * size
    go true is others good =
        let here : length part ≡ size = eqb-true _ _ is in
        let rest : length (concat parts) ≡ length parts * size = others good in
        length-append part (concat parts) ∙ omega (arith, here, rest)
    go false is others good = cc

-- and those of a region's runs have the bytes of its elements
pub runs_long : (n : ℕ) (shape : List ℕ) (box : Region) (parts : List (List ℕ)) → ends_within box shape ≡ true
    → length parts ≡ length (run_ranges n shape box)
    → part_lengths_answer (run_ranges n shape box) parts ≡ fine → length (concat parts) ≡ count_of (sizes box) * n
runs_long n shape box parts inside many good =
    let as_many : length parts ≡ length (runs shape box) = many ∙ length-map (runs shape box) (run_range n) in
    let told : parts_answer (run_length shape box * n) parts ≡ fine =
    sym (uniform_told n (run_length shape box) (runs shape box) parts (runs_uniform shape box) as_many) ∙ good in
    parts_long (run_length shape box * n) parts told
    ∙ (ap (λ (m : ℕ). m * (run_length shape box * n)) as_many
    ∙ ((let e : length (runs shape box) * (run_length shape box * n) ≡ length (runs shape box) * run_length shape box
    * n = omega arith in e)
    ∙ ap (λ (m : ℕ). m * n) (runs_total shape box inside)))
