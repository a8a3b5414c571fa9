use Rattle.live_judge.proofs.coming.Next.check_kept.Goals as goal
use Rattle.std.proofs.Common.{◌≡◌, ◌∙◌, ap, pos, false, rules}
use Rattle.std.specs.Prelude.{is_none, is_some}
use Rattle.mpd_rules.specs.Views.{segments_mpd}
use Rattle.live_meaning.specs.Updates.{mpd_of}
use Rattle.live_judge.specs.Coming.{update_of}
use Rattle.live_judge.proofs.{Listing.mpd_at, Rewriting.{comes_timed, some_is}}

pub check_each-requires-clause-ready : goal.check_each-requires-clause-ready
check_each-requires-clause-ready c =
    let n = c.args.self.now in
    let some : is_none c.mpd.result ≡ false = search rules in
    let is = some_is (λ mpd. segments_mpd mpd.now) c.mpd.result (mpd_of (update_of n.coming (pos 0))) c.mpd.ensures some in (
      comes_timed n.standing.now n.coming n.force.now n.now (pos 0) c.requires.comes is,
      c.requires.unmoved (ap is_some
          (mpd_at n.coming n.now) ∙ is),
    )
