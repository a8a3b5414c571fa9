-- Sets of texts.
use Rattle.std.specs.Prelude.{◌≡◌, ℕ, List}
use Rattle.bridge_io.specs.Texts.{is_among}

-- the same texts, in any order
pub record SameTexts (one other : List (List ℕ)) : Type 0 where
  pub same : (text : List ℕ) → is_among text one ≡ is_among text other
