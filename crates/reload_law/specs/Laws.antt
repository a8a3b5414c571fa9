-- The rules as sentences over segments by their numbers.
use Rattle.std.specs.Prelude.{◌≡◌, ℕ, ◌-◌, ◌*◌, ◌^◌, ◌<◌, ◌≤◌, ◌↔◌, nat_le, true, false, List, slice_get, if◌then◌else◌, Option, Some, None}
use Rattle.std.specs.Prelude.{Ok, Err}
use Rattle.hls_media.specs.{declared.media.Media.Media, declared.media.MediaSegment.MediaSegment}
use Rattle.reload_law.specs.{declared.unlawful.Unlawful.TheVariants.{Segment, Discontinuity}, Rules.{end_of, lawful, nanos_of}}
use Rattle.reload_law.specs.Rules.{same_section, same_segment}

-- the segment of a playlist that has a number
abbrev pub segment_at : ℕ → Media → Option MediaSegment
segment_at number media = if nat_le media.sequence number then slice_get media.segments (number - media.sequence) else None

-- Both playlists list segments with this number.
pub record IsInBoth (old new : Media) (number : ℕ) (a b : MediaSegment) : Type 0 where
  pub in_old : segment_at number old ≡ Some a
  pub in_new : segment_at number new ≡ Some b

-- The new playlist is a valid update of the old one.
pub record IsLawful (old new : Media) : Type 0 where
  pub target : old.target ≡ new.target
  pub sequence : old.sequence ≤ new.sequence
  pub segments : (number : ℕ) (a b : MediaSegment) → IsInBoth old new number a b → same_segment a b ≡ true
  pub sections : (number : ℕ) (a b : MediaSegment) → IsInBoth old new number a b → same_section a b ≡ true
  pub ends : end_of old ≤ end_of new
  pub ended : old.ended ≡ true → (new.ended ≡ true) × (end_of new ≡ end_of old)
  pub three_targets : new.ended ≡ false → old.sequence < new.sequence → 3 * 10 ^ 9 * new.target ≤ nanos_of new

-- the rules are those sentences
abbrev pub RulesAreSentences : Type 0
RulesAreSentences = (old new : Media) → (lawful old new ≡ Ok tt) ↔ IsLawful old new

-- each playlist is a valid update of itself
abbrev pub ReloadsItself : Type 0
ReloadsItself = (media : Media) → lawful media media ≡ Ok tt
