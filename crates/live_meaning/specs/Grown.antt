-- Lists of segments that grow at the end, and lose some at the start (sliding windows).
use Rattle.std.specs.Prelude.{◌≡◌, ℕ, ◌*◌, ◌^◌, ◌<◌, ◌≤◌, Bool, false, List, ◌++◌, length, drop, sum_by, Ok}
use Rattle.hls_media.specs.{declared.media.Media.Media, declared.media.MediaSegment.MediaSegment}
use Rattle.reload_law.specs.Rules.{lawful}

-- a list of segments from an index on
abbrev pub media_from : (target first : ℕ) (ended : Bool) → List MediaSegment → Media
media_from target first ended all = record { target = target; sequence = first; ended = ended; segments = drop first all }

-- an index that doesn't fall, and from which three target durations are left where it rises
pub record IsLater (target first next : ℕ) (all : List MediaSegment) : Type 0 where
  pub rises : first ≤ next
  pub within : next ≤ length all
  pub lasts : first < next → 3 * 10 ^ 9 * target ≤ sum_by (λ segment. segment.duration) (drop next all)

-- whatever the segments
abbrev pub GrownIsLawful : Type 0
GrownIsLawful =
    (target first next : ℕ) (ended : Bool) (all more : List MediaSegment) → first ≤ length all → IsLater target first next (all ++ more) →
    lawful (media_from target first false all) (media_from target next ended (all ++ more)) ≡ Ok tt
