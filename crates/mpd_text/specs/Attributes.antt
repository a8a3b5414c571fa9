-- The attributes of a tag that is being read, by the rows so far.
use Rattle.std.specs.Prelude.{◌≡◌, ◌≤◌, ◌++◌, ◌∷◌, ℕ, List, [], length}
use Rattle.mpd_text.specs.{declared.attributes.Names.Names, declared.kept.Kept.Kept, Keeping.{Stays, attributes_in, names_from}}
use Rattle.mpd_text.specs.{ManyNames.IsPrepared, Rests.IsEnd}
use Rattle.mpd_tree.specs.Runs.{name_at}

-- these are the names of the attributes of a tag
pub record AreKnown (k : Kept) (names : Names) : Type 0 where
  pub within : names.from ≤ length (attributes_in k)
  pub prepared : IsPrepared names.many (names_from k names.from)

-- the leading name is a new one
pub record IsNew (k : Kept) (names after : Names) (bytes rest : List ℕ) : Type 0 where
  pub rest_is : rest ≡ (name_at bytes).1
  pub from : after.from ≡ names.from
  pub prepared : IsPrepared after.many (names_from k names.from ++ (name_at bytes).0 ∷ [])

-- the tag continues at the rest
pub record GoesOn (old new : Kept) (names after : Names) (rest : List ℕ) : Type 0 where
  pub stays : Stays old new
  pub from : after.from ≡ names.from
  pub known : AreKnown new after
  pub left : IsEnd old.source.now rest
