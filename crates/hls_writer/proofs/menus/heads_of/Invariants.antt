use Rattle.std.proofs.Common.{◌≡◌, drop, []}
use Rattle.hls_writer.specs.Menus.{heads_from}
use Rattle.hls_writer.proofs.menus.heads_of.Given as goal

abbrev pub invariant-loop-place : goal.invariant-loop-place
invariant-loop-place l = heads_from l.tracks l.heads.items l.place (drop l.place l.tracks) ≡ heads_from l.tracks [] 0 l.tracks
