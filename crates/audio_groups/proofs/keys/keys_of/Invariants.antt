use Rattle.std.proofs.Common.{◌≡◌, drop, []}
use Rattle.audio_groups.specs.Keys.{keys_from}
use Rattle.audio_groups.proofs.keys.keys_of.Given as goal

abbrev pub invariant-loop-place : goal.invariant-loop-place
invariant-loop-place l = keys_from l.tracks l.keys.items l.place (drop l.place l.tracks) ≡ keys_from l.tracks [] 0 l.tracks
