-- When a chunk is blank, and what a value that was set leaves of one.
use Rattle.std.proofs.Common.{◌≡◌, ◌↔◌, ◌⊎◌, inl, inr, ⊎_elim, ℕ, ◌<◌, Bool, false, true, List, [], ◌∷◌, length}
use Rattle.std.proofs.Common.{replicate, Some, None, Result, Ok, Err, OnOk, OnErr, refl, sym, ap, ◌∙◌, subst, subst₂}
use Rattle.std.proofs.Common.{Option, option_map, IsTrue}
use Rattle.std.specs.List.{list_all}
use Rattle.zarrs_codec_traits.specs.Prelude.{count_of, Element, same_element, Options, Content, PutsKey, MayPutKey}
use Rattle.zarr_model.proofs.ElementLaws.{each_same, all_same}
use Rattle.zarrs_codec_traits.proofs.CountLaws.{lengths_some}
use Rattle.zarr_codec_chain.specs.declared.representation.ChunkRepresentation.{ChunkRepresentation}
use Rattle.zarr_codec_chain.specs.Levels.{level_at, first_of}
use Rattle.zarr_chunks.specs.Put.{Decoding, IsPutValue, PutsChunk, MayPutChunk}
use Rattle.zarr_chunks.specs.Update.{MayUpdateChunk}

pub blank_is : (answer : Bool) (number : ℕ) (x : Element) (xs : List Element) → length xs ≡ number →
    (IsTrue answer ↔ (xs ≡ replicate number x)) → answer ≡ list_all (same_element x) xs
blank_is true number x xs long tells = sym (ap (list_all (same_element x)) (tells.0 refl) ∙ all_same x number)
blank_is false number x xs long tells = go (list_all (same_element x) xs) refl
  where
    go : (b : Bool) → list_all (same_element x) xs ≡ b → false ≡ b
    go true is = tells.1 (each_same x xs is ∙ ap (λ n. replicate n x) long)
    go false is = refl

-- a chunk has an element
pub chunk_some : (levels : List ChunkRepresentation) (bottom : ChunkRepresentation) →
    0 < count_of (first_of levels (level_at bottom)).shape
chunk_some [] bottom = lengths_some bottom.shape.items
chunk_some (at ∷ levels) bottom = lengths_some at.shape.items

-- a chunk that is not dropped was put where its value was set
module _ (decode : Decoding) (answer drops : Bool) (list : List Element) (value : List ℕ)
    (tells : answer ≡ drops) (kept : answer ≡ false) (decodes : (under : Options) → decode under value ≡ Some list)
    (old new : Content) (key : List ℕ) where
  put_here : new key ≡ Some value → IsPutValue decode drops list (new key)
  put_here is = subst₂ (λ d o. IsPutValue decode d list o) (sym kept ∙ tells) (sym is) decodes

  pub set_puts : {T E : Type 0} (r : Result T E) → OnOk r (PutsKey old new key (Some value)) →
      OnOk r (PutsChunk decode drops list old new key)
  set_puts (Ok v) puts = record { here = put_here puts.here; others = puts.others }
  set_puts (Err e) puts = tt

  pub set_may_put : {T E : Type 0} (r : Result T E) → OnErr r (MayPutKey old new key (Some value)) →
      OnErr r (MayPutChunk decode drops list old new key)
  set_may_put (Ok v) puts = tt
  set_may_put (Err e) puts = record {
    here = ⊎_elim
        (λ (same : new key ≡ old key). inl same)
        (λ (other : (new key ≡ Some value) ⊎ (new key ≡ None)). ⊎_elim
        (λ (is : new key ≡ Some value). inr (inl (put_here is)))
        (λ (gone : new key ≡ None). inr (inr gone))
        other)
        puts.here;
    others = puts.others;
  }

-- a chunk that may have been put in place of one with these elements
pub may_update : (decode : Decoding) (drops : List Element → Bool) (change : List Element → List Element) (content :
    Option (List Element)) (list : List Element) (old mid new : Content) (key : List ℕ) → content ≡ Some list →
    ((other : List ℕ) → mid other ≡ old other) → MayPutChunk decode (drops (change list)) (change list) mid new key →
    MayUpdateChunk decode drops (option_map change content) old new key
may_update decode drops change content list old mid new key is same may =
    subst (λ o. MayUpdateChunk decode drops o old new key) (sym (ap (option_map change) is)) earlier
  where
    earlier : MayPutChunk decode (drops (change list)) (change list) old new key
    earlier = record {
      here = ⊎_elim (λ (stays : new key ≡ mid key). inl (stays ∙ same key))
          (λ (put : IsPutValue decode (drops (change list)) (change list) (new key) ⊎ (new key ≡ None)). inr put)
          may.here;
      others = λ other apart. may.others other apart ∙ same other;
    }
