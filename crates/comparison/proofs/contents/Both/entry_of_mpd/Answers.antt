use Rattle.std.proofs.Common.{◌^◌, ap, ◌∙◌}
use Rattle.presentation.proofs.Allowed.{have_addresses, verified_are_counted}
use Rattle.comparison.specs.Comparing.{entry_made}
use Rattle.comparison.proofs.Walks.{addressed, entry_is}
use Rattle.comparison.proofs.contents.Both.entry_of_mpd.Goals as goal

pub segments-requires-clause-reached : goal.segments-requires-clause-reached
segments-requires-clause-reached c = let v = c.requires.comparable in
    verified_are_counted c.args.self.now.mpd.now (10 ^ c.args.self.now.digits) c.args.section c.args.track v.longest v.verified
    c.requires.section c.requires.track

pub over-requires : goal.over-requires
over-requires c = let v = c.requires.comparable in let p = c.args.self.now.mpd.now in let unit = 10 ^ c.args.self.now.digits in
    addressed p c.args.section c.args.track unit c.segments.result c.initialization.result.now c.initialization.ensures c.segments.ensures
    (have_addresses p unit c.args.section c.args.track v.longest v.verified c.requires.section c.requires.track)

pub returns : goal.returns
returns c = ap (entry_made c.initialization.result.now) c.over.ensures
    ∙ entry_is c.args.self.now.mpd.now c.args.section c.args.track
    (10 ^ c.args.self.now.digits) c.segments.result c.initialization.result.now c.initialization.ensures c.segments.ensures
