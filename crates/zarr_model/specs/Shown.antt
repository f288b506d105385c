-- What a store, a source and a sink show.
use Rattle.std.specs.Prelude.{ℕ, List, Option}
use Rattle.zarr_model.specs.Store.{Content}

-- a store: the value under each key, how often it failed, its reading calls, the bytes that it
-- handed out, and its writing calls
pub record Shown : Type 0 where
  pub content : Content
  pub faults : ℕ
  pub asks : ℕ
  pub taken : ℕ
  pub puts : ℕ

-- a source: the bytes it has left, if it tells them, and how often it failed
pub record Told : Type 0 where
  pub left : Option (List ℕ)
  pub faults : ℕ

-- a sink: the bytes it was given, if it tells them, and how often it failed
pub record Given : Type 0 where
  pub bytes : Option (List ℕ)
  pub faults : ℕ
