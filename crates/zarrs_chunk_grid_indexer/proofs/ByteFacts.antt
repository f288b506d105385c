-- Runs of elements that lie within a count, as ranges of bytes.
use Rattle.std.proofs.Common.{◌≡◌, ℕ, ◌+◌, ◌*◌, ◌<◌, ◌≤◌, ◌^◌, List, [], ◌∷◌, map, Option, sym, ap, ap₂, ◌∙◌, subst}
use Rattle.std.proofs.Common.{arith}
use Rattle.std.specs.Iterator.{AlwaysYields}
use Rattle.std.proofs.Math.Nat.{mul-le-mul_right}
use Rattle.zarr_model.specs.Region.{Span}
use Rattle.zarrs_chunk_grid_iterators.specs.Runs.{span_of}
use Rattle.zarrs_chunk_grid_indexer.specs.Bytes.{AllWithin, byte_steps, span_byte_range, capped, range_of}
use Rattle.zarrs_chunk_grid_indexer.specs.declared.indexer.byte_runs.ByteRuns.{ByteRuns}

exact : (n b : ℕ) → n ≤ b → b < 2 ^ 64 → capped n ≡ n
exact n b h k = omega arith

range_exact : (size count : ℕ) (run : ℕ × ℕ) → count < 2 ^ 64 → count * size < 2 ^ 64 → run.0 + run.1 ≤ count →
    range_of size run ≡ span_byte_range size (span_of run)
range_exact size count run small fits within =
    let low : run.0 * size ≤ count * size = mul-le-mul_right size (let first : run.0 ≤ count = omega arith in first) in
    let high : (run.0 + run.1) * size ≤ count * size = mul-le-mul_right size within in
    ap₂ (λ s e. record { start = s; end = e }) (exact (run.0 * size) (count * size) low fits)
    (ap (λ n. capped (n * size)) (exact (run.0 + run.1) count within small)
    ∙ exact ((run.0 + run.1) * size) (count * size) high fits)

pub always_bytes : {S : Type 0} (steps : S → Option (ℕ × ℕ) → S → Type 0) (size count : ℕ) → count < 2 ^ 64 →
    count * size < 2 ^ 64 → (spans : List Span) (it : ByteRuns S) →
    it.element_size ≡ size → AllWithin count spans → AlwaysYields steps span_of it.runs spans →
    AlwaysYields (byte_steps steps) (λ x. x) it (map (span_byte_range size) spans)
always_bytes steps size count small fits [] it e w h = λ range j k. h k.1.0 j.runs k.1.1
always_bytes steps size count small fits (s ∷ spans) it e w h = (
  λ j k. h.0 j.runs k.1,
  λ range j k. let n = h.1 k.1.0 j.runs k.1.1 in
      let within : k.1.0.0 + k.1.0.1 ≤ count = subst (λ (x : Span). x.start + x.size ≤ count) (sym n.0) w.0 in (
        k.1.2 ∙ ap (λ z. range_of z k.1.0) e ∙ range_exact size count k.1.0 small fits within
            ∙ ap (span_byte_range size) n.0,
        always_bytes steps size count small fits spans j (k.0 ∙ e) w.1 n.1,
      ),
)
