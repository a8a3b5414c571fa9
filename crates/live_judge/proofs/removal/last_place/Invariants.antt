use Rattle.std.proofs.Common.{◌≡◌, ◌*◌, ◌^◌, ◌-◌, ◌≤◌, length, drop, sum}
use Rattle.followed.specs.{Durations.durations, Places.last_place}
use Rattle.live_judge.specs.Removal.{kept_in}
use Rattle.live_judge.proofs.removal.last_place.Given as goal

abbrev pub invariant-loop-place : goal.invariant-loop-place
invariant-loop-place l = record {
  inside : l.place ≤ length l.track.facts.items;
  summed : l.sum ≡ sum (drop l.place (durations (kept_in l.track)));
  bound : l.sum ≤ (length l.track.facts.items - l.place) * 2 ^ 64;
  last : last_place l.least (durations (kept_in l.track)) ≤ l.place;
}

abbrev pub decreases-loop-place : goal.decreases-loop-place
decreases-loop-place l = l.place
