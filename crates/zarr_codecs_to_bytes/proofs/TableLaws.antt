-- Steps of the register by tables.
use Rattle.std.proofs.Common.{◌≡◌, ℕ, zero, suc, ◌+◌, ◌*◌, ◌/◌, ◌%◌, ◌^◌, ◌<◌, Bool, ◌==◌, if◌then◌else◌, List, [], ◌∷◌}
use Rattle.std.proofs.Common.{length, map, slice_index, slice_index_or, bit_xor, refl, sym, ap, ap₂, ◌∙◌, arith}
use Rattle.std.proofs.lemmas.Nat.{xor_block, xor_shr, xor_mod, xor_comm}
use native.Mathlib.Nat.{pow-suc, mul_assoc}
use lib.Bits.{xor_assoc, xor_self, xor_zero_r, xor_zero_l}
use Rattle.zarr_codecs_to_bytes.specs.Crc32c.{bit_step, bit_steps, byte_step, register_after}
use Rattle.zarr_codecs_to_bytes.specs.Crc32cTable.{steps_from, eight_more, IsTableOf, AreTables}
use Rattle.zarr_codecs_to_bytes.specs.declared.crc32c_tables.TheConstants.{TABLE_0, TABLE_1, TABLE_2, TABLE_3, TABLE_4}
use Rattle.zarr_codecs_to_bytes.specs.declared.crc32c_tables.TheConstants.{TABLE_5, TABLE_6, TABLE_7}

abbrev picked : Bool → ℕ → ℕ
picked set half = if set then bit_xor half 2197175160 else half

same_four : (a b p q : ℕ) → bit_xor (bit_xor a b) (bit_xor p q) ≡ bit_xor (bit_xor a p) (bit_xor b q)
same_four a b p q =
    xor_assoc a b (bit_xor p q)
    ∙ ap (bit_xor a) (sym (xor_assoc b p q) ∙ (ap (λ x. bit_xor x q) (xor_comm b p) ∙ xor_assoc p b q))
    ∙ sym (xor_assoc a p (bit_xor b q))

-- a step of joined numbers is the steps of both, joined
picked-linear : (m n h k : ℕ) → m < 2 → n < 2 →
    picked (bit_xor m n == 1) (bit_xor h k) ≡ bit_xor (picked (m == 1) h) (picked (n == 1) k)
picked-linear zero zero h k a b = refl
picked-linear zero (suc zero) h k a b = xor_assoc h k 2197175160
picked-linear (suc zero) zero h k a b =
    xor_assoc h k 2197175160 ∙ (ap (bit_xor h) (xor_comm k 2197175160) ∙ sym (xor_assoc h 2197175160 k))
picked-linear (suc zero) (suc zero) h k a b =
    sym (same_four h 2197175160 k 2197175160
    ∙ (ap (bit_xor (bit_xor h k)) (xor_self 2197175160) ∙ xor_zero_r (bit_xor h k)))
picked-linear (suc (suc m)) n h k a b = absurd (omega (arith, a))
picked-linear zero (suc (suc n)) h k a b = absurd (omega (arith, b))
picked-linear (suc zero) (suc (suc n)) h k a b = absurd (omega (arith, b))

step-linear : (a b : ℕ) → bit_step (bit_xor a b) ≡ bit_xor (bit_step a) (bit_step b)
step-linear a b =
    ap₂ (λ m h. picked (m == 1) h) (xor_mod a b 1) (xor_shr a b 1)
    ∙ picked-linear (a % 2) (b % 2) (a / 2) (b / 2) (omega arith) (omega arith)

steps-linear : (n a b : ℕ) → bit_steps n (bit_xor a b) ≡ bit_xor (bit_steps n a) (bit_steps n b)
steps-linear zero a b = refl
steps-linear (suc n) a b = ap (bit_steps n) (step-linear a b) ∙ steps-linear n (bit_step a) (bit_step b)

steps-add : (m n r : ℕ) → bit_steps (m + n) r ≡ bit_steps n (bit_steps m r)
steps-add zero n r = let none : 0 + n ≡ n = omega arith in ap (λ k. bit_steps k r) none
steps-add (suc m) n r = let one : suc m + n ≡ suc (m + n) = omega arith in
    ap (λ k. bit_steps k r) one ∙ steps-add m n (bit_step r)

-- steps over a number that stands above as many bits leave it alone
steps-over : (k m : ℕ) → bit_steps k (m * 2 ^ k) ≡ m
steps-over zero m = omega arith
steps-over (suc k) m =
    let twice : m * 2 ^ suc k ≡ m * 2 ^ k * 2 = ap (λ p. m * p) (pow-suc 2 k) ∙ sym (mul_assoc m (2 ^ k) 2) in
    let none : m * 2 ^ k * 2 % 2 ≡ 0 = omega arith in
    let half : m * 2 ^ k * 2 / 2 ≡ m * 2 ^ k = omega arith in
    ap (bit_steps k) (ap bit_step twice ∙ ap₂ (λ b h. picked (b == 1) h) none half) ∙ steps-over k m

-- a number below 256 joined to one above eight bits is their sum
joined : (above low : ℕ) → low < 256 → bit_xor (above * 256) low ≡ above * 256 + low
joined above low small =
    let a : above * 256 ≡ above * 2 ^ 8 + 0 = omega arith in
    let b : low ≡ 0 * 2 ^ 8 + low = omega arith in
    let less : low < 2 ^ 8 = omega (arith, small) in
    ap₂ bit_xor a b ∙ xor_block 8 above 0 0 low (omega arith) less
    ∙ ap₂ (λ m n. m * 2 ^ 8 + n) (xor_zero_r above) (xor_zero_l low) ∙ omega arith

-- the lowest byte goes through all steps, and what stands above it through eight less
pub byte_off : (k x : ℕ) → bit_steps (8 + k) x ≡ bit_xor (bit_steps k (x / 256)) (bit_steps (8 + k) (x % 256))
byte_off k x =
    let whole : x / 256 * 256 + x % 256 ≡ x = omega arith in
    let cut : x ≡ bit_xor (x / 256 * 256) (x % 256) = sym (joined (x / 256) (x % 256) (omega arith) ∙ whole) in
    let above : bit_steps (8 + k) (x / 256 * 256) ≡ bit_steps k (x / 256) =
    steps-add 8 k (x / 256 * 256) ∙ ap (bit_steps k) (steps-over 8 (x / 256)) in
    ap (bit_steps (8 + k)) cut
    ∙ (steps-linear (8 + k) (x / 256 * 256) (x % 256) ∙ ap (λ y. bit_xor y (bit_steps (8 + k) (x % 256))) above)

pub one_byte : (register byte lowest : ℕ) → lowest ≡ bit_steps 8 (bit_xor register byte % 256) →
    bit_xor (bit_xor register byte / 256) lowest ≡ byte_step register byte
one_byte register byte lowest is =
    ap (bit_xor (bit_xor register byte / 256)) is ∙ sym (byte_off 0 (bit_xor register byte))

abbrev AreBytes : List ℕ → Type 0
AreBytes [] = Unit {0}
AreBytes (byte ∷ bytes) = (byte < 256) × AreBytes bytes

-- bytes as a number, the lowest one first
abbrev number_of : List ℕ → ℕ
number_of [] = 0
number_of (byte ∷ bytes) = number_of bytes * 256 + byte

abbrev bits_of : List ℕ → ℕ
bits_of [] = 0
bits_of (byte ∷ bytes) = 8 + bits_of bytes

-- the register after bytes is that of all their bits joined to it
all_steps : (bytes : List ℕ) (register : ℕ) → AreBytes bytes →
    bit_steps (bits_of bytes) (bit_xor register (number_of bytes)) ≡ register_after register bytes
all_steps [] register small = xor_zero_r register
all_steps (byte ∷ bytes) register small =
    let n = number_of bytes in
    let parts : n * 256 + byte ≡ bit_xor (n * 256) byte = sym (joined n byte small.0) in
    let turned : bit_xor register (n * 256 + byte) ≡ bit_xor (n * 256) (bit_xor register byte) =
    ap (bit_xor register) (parts ∙ xor_comm (n * 256) byte)
    ∙ (sym (xor_assoc register byte (n * 256)) ∙ xor_comm (bit_xor register byte) (n * 256)) in
    let eight : bit_steps 8 (bit_xor (n * 256) (bit_xor register byte)) ≡ bit_xor (byte_step register byte) n =
    steps-linear 8 (n * 256) (bit_xor register byte)
    ∙ (ap (λ y. bit_xor y (byte_step register byte)) (steps-over 8 n) ∙ xor_comm n (byte_step register byte)) in
    ap (bit_steps (8 + bits_of bytes)) turned ∙ (steps-add 8 (bits_of bytes) (bit_xor (n * 256) (bit_xor register byte))
    ∙ (ap (bit_steps (bits_of bytes)) eight ∙ all_steps bytes (byte_step register byte) small.1))

index_of : (n first i : ℕ) → i < n → slice_index (steps_from n first) i ≡ bit_steps 8 (first + i)
index_of zero first i within = absurd (omega arith)
index_of (suc n) first zero within = let same : first ≡ first + 0 = omega arith in ap (bit_steps 8) same
index_of (suc n) first (suc i) within = let same : suc first + i ≡ first + suc i = omega arith in
    index_of n (suc first) i (omega arith) ∙ ap (bit_steps 8) same

first_table : (table : List ℕ) → table ≡ steps_from 256 0 → IsTableOf 8 table
first_table table is byte within = let same : 0 + byte ≡ byte = omega arith in
    ap (λ xs. slice_index xs byte) is ∙ index_of 256 0 byte within ∙ ap (bit_steps 8) same

map_at : (f : ℕ → ℕ) (xs : List ℕ) (i : ℕ) → i < length xs → slice_index (map f xs) i ≡ f (slice_index xs i)
map_at f [] i within = absurd (omega (arith, within))
map_at f (x ∷ xs) zero within = refl
map_at f (x ∷ xs) (suc i) within = map_at f xs i (omega (arith, within))

next_table : (steps : ℕ) (table next : List ℕ) → length table ≡ 256 → IsTableOf steps table → next ≡ eight_more table →
    IsTableOf (steps + 8) next
next_table steps table next long is more byte within =
    ap (λ xs. slice_index xs byte) more ∙ (map_at (bit_steps 8) table byte (omega (arith, long, within))
    ∙ (ap (bit_steps 8) (is byte within) ∙ sym (steps-add steps 8 byte)))

table_0 : IsTableOf 8 TABLE_0
table_0 = first_table TABLE_0 refl

table_1 : IsTableOf 16 TABLE_1
table_1 = next_table 8 TABLE_0 TABLE_1 refl table_0 refl

table_2 : IsTableOf 24 TABLE_2
table_2 = next_table 16 TABLE_1 TABLE_2 refl table_1 refl

table_3 : IsTableOf 32 TABLE_3
table_3 = next_table 24 TABLE_2 TABLE_3 refl table_2 refl

table_4 : IsTableOf 40 TABLE_4
table_4 = next_table 32 TABLE_3 TABLE_4 refl table_3 refl

table_5 : IsTableOf 48 TABLE_5
table_5 = next_table 40 TABLE_4 TABLE_5 refl table_4 refl

table_6 : IsTableOf 56 TABLE_6
table_6 = next_table 48 TABLE_5 TABLE_6 refl table_5 refl

table_7 : IsTableOf 64 TABLE_7
table_7 = next_table 56 TABLE_6 TABLE_7 refl table_6 refl

pub eight_tables : AreTables (TABLE_0 ∷ TABLE_1 ∷ TABLE_2 ∷ TABLE_3 ∷ TABLE_4 ∷ TABLE_5 ∷ TABLE_6 ∷ TABLE_7 ∷ [])
eight_tables zero below = table_0
eight_tables (suc zero) below = table_1
eight_tables (suc (suc zero)) below = table_2
eight_tables (suc (suc (suc zero))) below = table_3
eight_tables (suc (suc (suc (suc zero)))) below = table_4
eight_tables (suc (suc (suc (suc (suc zero))))) below = table_5
eight_tables (suc (suc (suc (suc (suc (suc zero)))))) below = table_6
eight_tables (suc (suc (suc (suc (suc (suc (suc zero))))))) below = table_7
eight_tables (suc (suc (suc (suc (suc (suc (suc (suc k)))))))) below = absurd (omega (arith, below))

-- a register with bytes joined to it, by the tables
pub all_tables : (x a0 a1 a2 a3 a4 a5 a6 a7 : ℕ) → x < 18446744073709551616 →
    a0 ≡ bit_steps 8 (x / 72057594037927936 % 256) → a1 ≡ bit_steps 16 (x / 281474976710656 % 256) →
    a2 ≡ bit_steps 24 (x / 1099511627776 % 256) → a3 ≡ bit_steps 32 (x / 4294967296 % 256) →
    a4 ≡ bit_steps 40 (x / 16777216 % 256) → a5 ≡ bit_steps 48 (x / 65536 % 256) → a6 ≡ bit_steps 56 (x / 256 % 256) →
    a7 ≡ bit_steps 64 (x % 256) →
    bit_xor (bit_xor (bit_xor (bit_xor (bit_xor (bit_xor (bit_xor a0 a1) a2) a3) a4) a5) a6) a7 ≡ bit_steps 64 x
all_tables x a0 a1 a2 a3 a4 a5 a6 a7 small e0 e1 e2 e3 e4 e5 e6 e7 =
    let d2 : x / 256 / 256 ≡ x / 65536 = omega arith in
    let d3 : x / 65536 / 256 ≡ x / 16777216 = omega arith in
    let d4 : x / 16777216 / 256 ≡ x / 4294967296 = omega arith in
    let d5 : x / 4294967296 / 256 ≡ x / 1099511627776 = omega arith in
    let d6 : x / 1099511627776 / 256 ≡ x / 281474976710656 = omega arith in
    let d7 : x / 281474976710656 / 256 ≡ x / 72057594037927936 = omega arith in
    let d8 : x / 72057594037927936 / 256 ≡ 0 = omega (arith, small) in
    let s0 : a0 ≡ bit_steps 8 (x / 72057594037927936) =
    e0 ∙ sym (byte_off 0 (x / 72057594037927936) ∙ (ap (λ y. bit_xor y (bit_steps 8 (x / 72057594037927936 % 256))) d8
    ∙ xor_zero_l (bit_steps 8 (x / 72057594037927936 % 256)))) in
    let s1 : bit_xor a0 a1 ≡ bit_steps 16 (x / 281474976710656) =
    ap₂ bit_xor (s0 ∙ ap (bit_steps 8) (sym d7)) e1 ∙ sym (byte_off 8 (x / 281474976710656)) in
    let s2 : bit_xor (bit_xor a0 a1) a2 ≡ bit_steps 24 (x / 1099511627776) =
    ap₂ bit_xor (s1 ∙ ap (bit_steps 16) (sym d6)) e2 ∙ sym (byte_off 16 (x / 1099511627776)) in
    let s3 : bit_xor (bit_xor (bit_xor a0 a1) a2) a3 ≡ bit_steps 32 (x / 4294967296) =
    ap₂ bit_xor (s2 ∙ ap (bit_steps 24) (sym d5)) e3 ∙ sym (byte_off 24 (x / 4294967296)) in
    let s4 : bit_xor (bit_xor (bit_xor (bit_xor a0 a1) a2) a3) a4 ≡ bit_steps 40 (x / 16777216) =
    ap₂ bit_xor (s3 ∙ ap (bit_steps 32) (sym d4)) e4 ∙ sym (byte_off 32 (x / 16777216)) in
    let s5 : bit_xor (bit_xor (bit_xor (bit_xor (bit_xor a0 a1) a2) a3) a4) a5 ≡ bit_steps 48 (x / 65536) =
    ap₂ bit_xor (s4 ∙ ap (bit_steps 40) (sym d3)) e5 ∙ sym (byte_off 40 (x / 65536)) in
    let s6 : bit_xor (bit_xor (bit_xor (bit_xor (bit_xor (bit_xor a0 a1) a2) a3) a4) a5) a6 ≡ bit_steps 56 (x / 256) =
    ap₂ bit_xor (s5 ∙ ap (bit_steps 48) (sym d2)) e6 ∙ sym (byte_off 48 (x / 256)) in
    ap₂ bit_xor s6 e7 ∙ sym (byte_off 56 x)

-- eight bytes as one number, whose steps are theirs
pub word_steps : (word : List ℕ) (register number : ℕ) → length word ≡ 8 →
    slice_index_or word 0 0 < 256 → slice_index_or word 1 0 < 256 → slice_index_or word 2 0 < 256 →
    slice_index_or word 3 0 < 256 → slice_index_or word 4 0 < 256 → slice_index_or word 5 0 < 256 →
    slice_index_or word 6 0 < 256 → slice_index_or word 7 0 < 256 →
    number ≡ slice_index word 0 + slice_index word 1 * 256 + slice_index word 2 * 65536 + slice_index word
    3 * 16777216 + slice_index word 4 * 4294967296 + slice_index word 5 * 1099511627776 + slice_index word
    6 * 281474976710656 + slice_index word 7 * 72057594037927936 →
    bit_steps 64 (bit_xor number register) ≡ register_after register word
word_steps [] register number long b0 b1 b2 b3 b4 b5 b6 b7 is = absurd (omega (arith, long))
word_steps (a ∷ []) register number long b0 b1 b2 b3 b4 b5 b6 b7 is = absurd (omega (arith, long))
word_steps (a ∷ b ∷ []) register number long b0 b1 b2 b3 b4 b5 b6 b7 is = absurd (omega (arith, long))
word_steps (a ∷ b ∷ c ∷ []) register number long b0 b1 b2 b3 b4 b5 b6 b7 is = absurd (omega (arith, long))
word_steps (a ∷ b ∷ c ∷ d ∷ []) register number long b0 b1 b2 b3 b4 b5 b6 b7 is = absurd (omega (arith, long))
word_steps (a ∷ b ∷ c ∷ d ∷ e ∷ []) register number long b0 b1 b2 b3 b4 b5 b6 b7 is = absurd (omega (arith, long))
word_steps (a ∷ b ∷ c ∷ d ∷ e ∷ f ∷ []) register number long b0 b1 b2 b3 b4 b5 b6 b7 is = absurd (omega (arith, long))
word_steps (a ∷ b ∷ c ∷ d ∷ e ∷ f ∷ g ∷ []) register number long b0 b1 b2 b3 b4 b5 b6 b7 is =
    absurd (omega (arith, long))
word_steps (a ∷ b ∷ c ∷ d ∷ e ∷ f ∷ g ∷ h ∷ more ∷ rest) register number long b0 b1 b2 b3 b4 b5 b6 b7 is =
    absurd (omega (arith, long))
word_steps (a ∷ b ∷ c ∷ d ∷ e ∷ f ∷ g ∷ h ∷ []) register number long b0 b1 b2 b3 b4 b5 b6 b7 is =
    let whole : number ≡ number_of (a ∷ b ∷ c ∷ d ∷ e ∷ f ∷ g ∷ h ∷ []) = omega (arith, is) in
    ap (bit_steps 64) (xor_comm number register ∙ ap (bit_xor register) whole)
    ∙ all_steps (a ∷ b ∷ c ∷ d ∷ e ∷ f ∷ g ∷ h ∷ []) register (b0, (b1, (b2, (b3, (b4, (b5, (b6, (b7, tt))))))))
