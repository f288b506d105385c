-- Boxes of elements of n bytes as boxes of bytes, and back.
use Rattle.std.proofs.Common.{rules, ◌≡◌, ℕ, zero, suc, ◌+◌, ◌-◌, ◌*◌, ◌/◌, ◌%◌, ◌<◌, ◌≤◌, ◌&&◌, Bool, true, false}
use Rattle.std.proofs.Common.{if◌then◌else◌, List, [], ◌∷◌, ◌++◌, length, get_or, take, drop, map, refl, sym, ap, ap₂}
use Rattle.std.proofs.Common.{◌∙◌, subst, subst₂, arith}
use Rattle.std.proofs.lemmas.Bool.{and_parts, cond-true, cond-false, and_right}
use Rattle.std.proofs.lemmas.Bool.Decides.{nat_tests}
use Rattle.std.proofs.lemmas.Nat.{div-mul-add, mod-mul-add, mod_below}
use Rattle.std.proofs.lemmas.List.{length-map, get_or-map, get_or-drop, get_or-take, length-drop, length-take-le}
use Rattle.std.proofs.lemmas.List.{same_lists}
use Rattle.std.proofs.Math.Nat.{add-mul, div-add-mod', mul_assoc, suc-mul, mul-le-mul_right, mul-div_cancel}
use Rattle.zarr_model.specs.Element as Model
use Rattle.zarr_model.specs.Prelude.{Region, count, contains, is_in, place, tuple_at, pieces}
use Rattle.zarr_model.proofs.RegionLaws.{positive_factor, place_below}
use Rattle.zarrs_codec_slices.specs.Elements.{elements_of, fixed_elements}
use Rattle.zarrs_codec_slices.specs.Overlap.{Copied, in_bytes}
use Rattle.std.proofs.lemmas.List.{drop_all}

pub count-in_bytes : (n : ℕ) (box : Region) → count (in_bytes n box) ≡ count box * n
count-in_bytes n [] = omega arith
count-in_bytes n (span ∷ box) = ap (λ m. span.size * m) (count-in_bytes n box) ∙ sym (mul_assoc span.size (count box) n)

-- byte j of element i
whole_place : (i j c n : ℕ) → 0 < c → i * n + j ≡ i / c * (c * n) + (i % c * n + j)
whole_place i j c n some =
    let split : i / c * c + i % c ≡ i = div-add-mod' i c in
    let left : i / c * (c * n) ≡ i / c * c * n = sym (mul_assoc (i / c) c n) in
    let both : (i / c * c + i % c) * n ≡ i / c * c * n + i % c * n = add_mul (i / c * c) (i % c) n in
    let same : (i / c * c + i % c) * n ≡ i * n = ap (λ m. m * n) split in
    omega (arith, left, both, same)
  where
    add_mul : (a b n : ℕ) → (a + b) * n ≡ a * n + b * n
    add_mul a b n = search (rules, add-mul)

inner_place : (i j c n : ℕ) → 0 < c → j < n → i % c * n + j < c * n
inner_place i j c n some below =
    let rows : suc (i % c) * n ≤ c * n =
    mul-le-mul_right n (let one : suc (i % c) ≤ c = omega (arith, mod_below i c some) in one) in
    omega (arith, rows, suc-mul (i % c) n, below)

pub tuple_at-in_bytes : (n i j : ℕ) (box : Region) → j < n → i < count box →
    tuple_at (in_bytes n box) (i * n + j) ≡ tuple_at box i ++ (j ∷ [])
tuple_at-in_bytes n i j [] below within =
    ap (λ m. m ∷ []) (let none : i * n ≡ 0 = ap (λ m. m * n) (let z : i ≡ 0 = omega arith in z) ∙ omega arith in
    let e : 0 + (i * n + j) / 1 ≡ j = omega (arith, none) in e)
tuple_at-in_bytes n i j (span ∷ box) below within =
    let c = count box in
    let some : 0 < c = positive_factor i span.size c within in
    let at : i * n + j ≡ i / c * (c * n) + (i % c * n + j) = whole_place i j c n some in
    let inside : i % c * n + j < c * n = inner_place i j c n some below in
    let quotient : (i * n + j) / count (in_bytes n box) ≡ i / c =
    ap₂ (λ a b. a / b) at (count-in_bytes n box) ∙ div-mul-add (i / c) (c * n) (i % c * n + j) inside in
    let rest : (i * n + j) % count (in_bytes n box) ≡ i % c * n + j =
    ap₂ (λ a b. a % b) at (count-in_bytes n box) ∙ mod-mul-add (i / c) (c * n) (i % c * n + j) inside in
    ap₂ (λ a b. (span.start + a) ∷ tuple_at (in_bytes n box) b) quotient rest
    ∙ ap (λ l. (span.start + i / c) ∷ l) (tuple_at-in_bytes n (i % c) j box below (mod_below i c some))

none_left : (n : ℕ) (box : Region) → contains (in_bytes n box) [] ≡ false
none_left n [] = refl
none_left n (span ∷ box) = refl

pub contains-in_bytes : (n j : ℕ) (box : Region) (tuple : List ℕ) → j < n →
    contains (in_bytes n box) (tuple ++ (j ∷ [])) ≡ contains box tuple
contains-in_bytes n j [] [] below = inside j n below
  where
    inside : (j n : ℕ) → j < n → (is_in j (record { start = 0; size = n }) && true) ≡ true
    inside j n below = grind (arith, nat_tests)
contains-in_bytes n j [] (x ∷ []) below = and_right (is_in x (record { start = 0; size = n })) false refl
contains-in_bytes n j [] (x ∷ y ∷ tuple) below = and_right (is_in x (record { start = 0; size = n })) false refl
contains-in_bytes n j (span ∷ box) [] below =
    ap (λ b. is_in j span && b) (none_left n box) ∙ and_right (is_in j span) false refl
contains-in_bytes n j (span ∷ box) (x ∷ tuple) below =
    ap (λ b. is_in x span && b) (contains-in_bytes n j box tuple below)

pub place-in_bytes : (n j : ℕ) (box : Region) (tuple : List ℕ) → contains box tuple ≡ true →
    place (in_bytes n box) (tuple ++ (j ∷ [])) ≡ place box tuple * n + j
place-in_bytes n j [] [] e = omega arith
place-in_bytes n j [] (x ∷ tuple) e = cc
place-in_bytes n j (span ∷ box) [] e = cc
place-in_bytes n j (span ∷ box) (x ∷ tuple) e =
    let parts = and_parts (is_in x span) (contains box tuple) e in
    ap₂ (λ a b. (x - span.start) * a + b) (count-in_bytes n box) (place-in_bytes n j box tuple parts.1)
    ∙ (let assoc : (x - span.start) * (count box * n) ≡ (x - span.start) * count box * n =
    sym (mul_assoc (x - span.start) (count box) n) in
    let both : ((x - span.start) * count box + place box tuple) * n ≡ (x - span.start) * count box * n + place box
    tuple * n = add_mul ((x - span.start) * count box) (place box tuple) n in
    omega (arith, assoc, both))
  where
    add_mul : (a b n : ℕ) → (a + b) * n ≡ a * n + b * n
    add_mul a b n = search (rules, add-mul)

-- the run of a last dimension has its bytes
pub parts_fit : (at len size long : ℕ) → (at + len) * size ≤ long → at * size + len * size ≤ long
parts_fit at len size long h = omega (arith, h, add_mul at len size)
  where
    add_mul : (a b n : ℕ) → (a + b) * n ≡ a * n + b * n
    add_mul a b n = search (rules, add-mul)

drop_none : (m : ℕ) → drop {A = ℕ} m [] ≡ []
drop_none zero = refl
drop_none (suc m) = refl

drop_more : (a b : ℕ) (l : List ℕ) → drop b (drop a l) ≡ drop (a + b) l
drop_more zero b l = ap (λ m. drop m l) (let e : b ≡ 0 + b = omega arith in e)
drop_more (suc a) b [] = drop_none b ∙ sym (drop_none (suc a + b))
drop_more (suc a) b (x ∷ l) =
    drop_more a b l ∙ ap (λ m. drop m (x ∷ l)) (let e : suc (a + b) ≡ suc a + b = omega arith in e)

-- an element by its place
pub get_or-pieces : (k n : ℕ) (bytes : List ℕ) (i : ℕ) (d : List ℕ) → i < k →
    get_or (pieces k n bytes) i d ≡ take n (drop (i * n) bytes)
get_or-pieces zero n bytes i d h = absurd (omega arith)
get_or-pieces (suc k) n bytes zero d h = ap (λ m. take n (drop m bytes)) (let e : 0 ≡ 0 * n = omega arith in e)
get_or-pieces (suc k) n bytes (suc i) d h =
    get_or-pieces k n (drop n bytes) i d (omega arith) ∙ ap (take n) (drop_more n (i * n) bytes
    ∙ ap (λ m. drop m bytes) (let e : n + i * n ≡ suc i * n = omega (arith, suc-mul i n) in e))

length-pieces : (k n : ℕ) (bytes : List ℕ) → length (pieces k n bytes) ≡ k
length-pieces zero n bytes = refl
length-pieces (suc k) n bytes = ap suc (length-pieces k n (drop n bytes))

-- a copy of bytes is a copy of elements
module _ (n : ℕ) (target source : Region) (from old new : List ℕ)
    (some : 0 < n) (old_long : length old ≡ count target * n) (from_long : length from ≡ count source * n)
    (copied : Copied (in_bytes n target) (in_bytes n source) from old new) where
  elements : (bytes : List ℕ) (box : Region) → length bytes ≡ count box * n → length bytes / n ≡ count box
  elements bytes box long = ap (λ m. m / n) long ∙ mul-div_cancel (count box) some

  new_long : length new ≡ count target * n
  new_long = copied.as_long ∙ old_long

  element : (bytes : List ℕ) (box : Region) → length bytes ≡ count box * n → (i : ℕ) (d : List ℕ) → i < count box →
      get_or (elements_of n bytes) i d ≡ take n (drop (i * n) bytes)
  element bytes box long i d h =
      ap (λ k. get_or (pieces k n bytes) i d) (elements bytes box long) ∙ get_or-pieces (count box) n bytes i d h

  room : (bytes : List ℕ) (box : Region) → length bytes ≡ count box * n → (i : ℕ) → i < count box →
      length (take n (drop (i * n) bytes)) ≡ n
  room bytes box long i h =
      let rows : suc i * n ≤ count box * n = mul-le-mul_right n (let one : suc i ≤ count box = omega arith in one) in
      length-take-le n (drop (i * n) bytes) (omega (arith, rows, suc-mul i n, long, length-drop (i * n) bytes))

  byte_at : (bytes : List ℕ) (i j d : ℕ) → j < n → get_or (take n (drop (i * n) bytes)) j d ≡ get_or bytes (i * n + j) d
  byte_at bytes i j d h = get_or-take n (drop (i * n) bytes) j d h ∙ get_or-drop (i * n) bytes j d

  byte_below : (i j : ℕ) → i < count target → j < n → i * n + j < count (in_bytes n target)
  byte_below i j h below =
      let rows : suc i * n ≤ count target * n =
      mul-le-mul_right n (let one : suc i ≤ count target = omega arith in one) in
      omega (arith, rows, suc-mul i n, below, count-in_bytes n target)

  byte_is : (i j d : ℕ) → i < count target → j < n → get_or new (i * n + j) d ≡
      (if contains source (tuple_at target i) then get_or from
      (place (in_bytes n source) (tuple_at target i ++ (j ∷ []))) d else get_or old (i * n + j) d)
  byte_is i j d h below =
      copied.each (i * n + j) d (byte_below i j h below)
      ∙ (ap (λ t. if contains (in_bytes n source) t then get_or from (place (in_bytes n source) t) d else get_or old
      (i * n + j) d) (tuple_at-in_bytes n i j target below h)
      ∙ ap (λ b. if b then get_or from (place (in_bytes n source) (tuple_at target i ++ (j ∷ []))) d else get_or old
      (i * n + j) d) (contains-in_bytes n j source (tuple_at target i) below))

  taken : (i : ℕ) → i < count target → contains source (tuple_at target i) ≡ true →
      take n (drop (i * n) new) ≡ take n (drop (place source (tuple_at target i) * n) from)
  taken i h e =
      let p = place source (tuple_at target i) in
      let within : p < count source = place_below source (tuple_at target i) e in
      same_lists (take n (drop (i * n) new)) (take n (drop (p * n) from))
      (room new target new_long i h ∙ sym (room from source from_long p within))
      (λ j d inside. let below : j < n = subst (λ m. j < m) (room new target new_long i h) inside in
      byte_at new i j d below ∙ (byte_is i j d h below
      ∙ (cond-true (contains source (tuple_at target i)) _ _ e
      ∙
      (ap (λ m. get_or from m d) (place-in_bytes n j source (tuple_at target i) e) ∙ sym (byte_at from p j d below)))))

  left : (i : ℕ) → i < count target → contains source (tuple_at target i) ≡ false →
      take n (drop (i * n) new) ≡ take n (drop (i * n) old)
  left i h e =
      same_lists (take n (drop (i * n) new)) (take n (drop (i * n) old))
      (room new target new_long i h ∙ sym (room old target old_long i h))
      (λ j d inside. let below : j < n = subst (λ m. j < m) (room new target new_long i h) inside in
      byte_at new i j d below ∙ (byte_is i j d h below
      ∙ (cond-false (contains source (tuple_at target i)) _ _ e ∙ sym (byte_at old i j d below))))

  pub of_bytes : Copied target source (elements_of n from) (elements_of n old) (elements_of n new)
  of_bytes = record {
    as_long = length-pieces (length new / n) n new
        ∙ (ap (λ m. m / n) copied.as_long ∙ sym (length-pieces (length old / n) n old));
    each = λ i d h. element new target new_long i d h ∙ go i d h (contains source (tuple_at target i)) refl;
  }
    where
      go : (i : ℕ) (d : List ℕ) → i < count target → (b : Bool) → contains source (tuple_at target i) ≡ b →
          take n (drop (i * n) new) ≡
          (if b then get_or (elements_of n from) (place source (tuple_at target i)) d else get_or (elements_of n old) i
          d)
      go i d h true e = taken i h e ∙ sym (element from source from_long (place source (tuple_at target i)) d
          (place_below source (tuple_at target i) e))
      go i d h false e = left i h e ∙ sym (element old target old_long i d h)

-- a copy of a list is one of what its items are mapped to
copied-map : {A B : Type 0} (f : A → B) (e : A) (target_box source_box : Region) (source old new : List A) →
    length source ≡ count source_box → length old ≡ count target_box →
    Copied target_box source_box source old new → Copied target_box source_box (map f source) (map f old) (map f new)
copied-map {B = B} f e target_box source_box source old new source_long long copied = record {
  as_long = length-map new f ∙ (copied.as_long ∙ sym (length-map old f));
  each = λ k d h.
      get_or-map f new k e d (subst (λ n. k < n) (sym (copied.as_long ∙ long)) h) ∙ (ap f (copied.each k e h)
      ∙ turn k d h (contains source_box (tuple_at target_box k)) refl);
}
  where
    turn : (k : ℕ) (d : B) → k < count target_box → (b : Bool) → contains source_box (tuple_at target_box k) ≡ b →
        f (if b then get_or source (place source_box (tuple_at target_box k)) e else get_or old k e)
        ≡ (if b then get_or (map f source) (place source_box (tuple_at target_box k)) d else get_or (map f old) k d)
    turn k d h true is = sym (get_or-map f source (place source_box (tuple_at target_box k)) e d (subst (λ n. place
        source_box (tuple_at target_box k) < n) (sym source_long) (place_below source_box (tuple_at target_box k) is)))
    turn k d h false is = sym (get_or-map f old k e d (subst (λ n. k < n) (sym long) h))

pub of_elements : (n : ℕ) (target source : Region) (from old new : List ℕ) → 0 < n → length old ≡ count target * n →
    length from ≡ count source * n →
    Copied (in_bytes n target) (in_bytes n source) from old new →
    Copied target source (fixed_elements n from) (fixed_elements n old) (fixed_elements n new)
of_elements n target source from old new some old_long from_long copied =
    copied-map Model.of_bytes [] target source (elements_of n from) (elements_of n old) (elements_of n new)
    (as_many from source from_long) (as_many old target old_long)
    (of_bytes n target source from old new some old_long from_long copied)
  where
    as_many : (bytes : List ℕ) (box : Region) → length bytes ≡ count box * n → length (elements_of n bytes) ≡ count box
    as_many bytes box long =
        length-pieces (length bytes / n) n bytes ∙ (ap (λ m. m / n) long ∙ mul-div_cancel (count box) some)

-- one element is copied whole
pub element_copied : (n axis : ℕ) (target source : Region) (from old : List ℕ) → length target ≤ axis → length source
    ≤ axis → length from ≡ count (in_bytes n (drop axis source)) → length old ≡ count (in_bytes n (drop axis target)) →
    Copied (in_bytes n (drop axis target)) (in_bytes n (drop axis source)) from old from
element_copied n axis target source from old target_end source_end from_long old_long =
    subst₂ (λ a b. Copied (in_bytes n a) (in_bytes n b) from old from) (sym (drop_all axis target target_end))
    (sym (drop_all axis source source_end)) (record {
      as_long = from_long ∙ (ap (λ b. count (in_bytes n b))
          (drop_all axis source source_end ∙ sym (drop_all axis target target_end)) ∙ sym old_long);
      each = λ k d h. ap (λ m. get_or from m d) (place_is k)
          ∙ sym (cond-true (contains (in_bytes n []) (tuple_at (in_bytes n []) k)) (get_or from
          (place (in_bytes n []) (tuple_at (in_bytes n []) k)) d) (get_or old k d) (inside k (omega (arith, h))));
    })
  where
    place_is : (k : ℕ) → k ≡ (0 + k / 1 - 0) * 1 + 0
    place_is k = omega arith

    inside : (k : ℕ) → k < n → (is_in (0 + k / 1) (record { start = 0; size = n }) && true) ≡ true
    inside k h = grind (arith, nat_tests)
