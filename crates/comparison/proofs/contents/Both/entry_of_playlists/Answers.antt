use Rattle.std.proofs.Common.{◌^◌, ap, ◌∙◌, length}
use Rattle.presentation.proofs.Allowed.{counted_are_listed}
use Rattle.comparison.specs.Comparing.{entry_made}
use Rattle.comparison.proofs.Walks.{addressed, as_many_left, entry_is, own_addresses}
use Rattle.comparison.proofs.contents.Both.entry_of_playlists.Goals as goal

pub segments-requires-clause-reached : goal.segments-requires-clause-reached
segments-requires-clause-reached c = counted_are_listed c.args.self.now.playlists.now _ c.args.section c.args.track
    c.requires.comparable.counted c.requires.section c.requires.track

pub over-requires : goal.over-requires
over-requires c = let p = c.args.self.now.playlists.now in let unit = 10 ^ c.args.self.now.digits in
    addressed p c.args.section c.args.track unit c.segments.result c.initialization.result.now c.initialization.ensures c.segments.ensures
    (own_addresses p c.args.section c.args.track unit c.requires.comparable.came.addressed)

pub returns-clause-entry : goal.returns-clause-entry
returns-clause-entry c = ap (entry_made c.initialization.result.now) c.over.ensures
    ∙ entry_is c.args.self.now.playlists.now c.args.section c.args.track
    (10 ^ c.args.self.now.digits) c.segments.result c.initialization.result.now c.initialization.ensures c.segments.ensures

pub returns-clause-listed : goal.returns-clause-listed
returns-clause-listed c = ap length c.over.ensures
    ∙ as_many_left c.args.self.now.playlists.now c.args.section c.args.track
    (10 ^ c.args.self.now.digits) c.segments.result c.initialization.result.now c.initialization.ensures c.segments.ensures
