-- The two presentations, and the content of their tracks.
use Rattle.std.specs.Prelude.{◌≡◌, ℕ, ◌^◌, slice_get, Option, option_and_then}
use Rattle.meaning.specs.Meanings.{Entry}
use Rattle.presentation.specs.{Meanings.entry_at, Presented.Presented}
use Rattle.differences.specs.{declared.side.Side.Side, Sections.{IsListable, kept_sections}}

pub record IsSide (side : Side) : Type 0 where
  pub listable : IsListable (10 ^ side.digits) side.presentation.now
  pub sections : side.sections ≡ kept_sections side.presentation.now

pub record IsSideOf (side : Side) (unit : ℕ) (p : Presented) : Type 0 where
  pub is_side : IsSide side
  pub presentation : side.presentation.now ≡ p
  pub digits : 10 ^ side.digits ≡ unit

-- the content of a track in a section, by its index of those that have content; `None` after the last one
abbrev pub entry_of : Side → (place t : ℕ) → Option Entry
entry_of side place t = option_and_then (λ s. entry_at side.presentation.now s t) (slice_get side.sections place)
