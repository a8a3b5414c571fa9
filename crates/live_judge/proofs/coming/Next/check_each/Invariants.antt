use Rattle.std.proofs.Common.{◌≡◌, drop, map}
use Rattle.live_judge.specs.{Shown.track_shown, Walk.{each, told_at, told_by}}
use Rattle.live_judge.proofs.coming.Next.check_each.Given as goal

abbrev pub invariant-loop-track : goal.invariant-loop-track
invariant-loop-track l =
    told_by l.rule l.self 0 (map track_shown l.self.tracks.now) ≡ each (told_at l.rule l.self) l.track (drop l.track l.self.tracks.now)
