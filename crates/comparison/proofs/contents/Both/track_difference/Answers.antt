use Rattle.std.proofs.Common.{◌<◌, ◌^◌, ap, arith, length}
use Rattle.presentation.proofs.FirstSome.{none_here, some_here}
use Rattle.comparison.specs.Comparing.{difference_at, difference_of}
use Rattle.comparison.proofs.contents.Both.track_difference.Goals as goal

pub returns-in-Some : goal.returns-in-Some
returns-in-Some g c =
    let both = c.args.self.now in let a = both.mpd.now in let b = both.playlists.now in let unit = 10 ^ both.digits in
    let within : c.loop-section.section < length a.sections = omega (arith, ap length c.sections.ensures) in
    some_here (difference_at unit a b c.args.track) c.loop-section.section (length a.sections) within
    (difference_of unit a b c.args.track) c.in_ok-found.field-0
    c.loop-section.invariant c.in_ok-found.ensures c.in-Some.found c.in-Some.is

pub loop-section-preserved : goal.loop-section-preserved
loop-section-preserved g c =
    let both = c.args.self.now in let a = both.mpd.now in let b = both.playlists.now in let unit = 10 ^ both.digits in
    let within : c.loop-section.section < length a.sections = omega (arith, ap length c.sections.ensures) in
    none_here (difference_at unit a b c.args.track) c.loop-section.section (length a.sections) within
    (difference_of unit a b c.args.track) c.in_ok-found.field-0
    c.loop-section.invariant c.in_ok-found.ensures c.in_default.is
