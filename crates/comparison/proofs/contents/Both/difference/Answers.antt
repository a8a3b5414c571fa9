use Rattle.std.proofs.Common.{◌<◌, ◌^◌, ap, arith, length}
use Rattle.presentation.proofs.FirstSome.{none_here, some_here}
use Rattle.comparison.specs.Comparing.{contents_difference, difference_of}
use Rattle.comparison.proofs.contents.Both.difference.Goals as goal

pub returns-in-Some : goal.returns-in-Some
returns-in-Some g c =
    let both = c.args.self.now in let a = both.mpd.now in let b = both.playlists.now in let unit = 10 ^ both.digits in
    let within : c.loop-track.track < length a.tracks = omega (arith, ap length c.tracks.ensures) in
    some_here (difference_of unit a b) c.loop-track.track (length a.tracks) within (contents_difference unit a b) c.in_ok-found.field-0
    c.loop-track.invariant c.in_ok-found.ensures c.in-Some.found c.in-Some.is

pub loop-track-preserved : goal.loop-track-preserved
loop-track-preserved g c =
    let both = c.args.self.now in let a = both.mpd.now in let b = both.playlists.now in let unit = 10 ^ both.digits in
    let within : c.loop-track.track < length a.tracks = omega (arith, ap length c.tracks.ensures) in
    none_here (difference_of unit a b) c.loop-track.track (length a.tracks) within (contents_difference unit a b) c.in_ok-found.field-0
    c.loop-track.invariant c.in_ok-found.ensures c.in_default.is
