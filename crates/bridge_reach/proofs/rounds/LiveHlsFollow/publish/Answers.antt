use Rattle.bridge_reach.proofs.Rounding.{begun_by, put_by}
use Rattle.bridge_reach.proofs.rounds.LiveHlsFollow.publish.Goals as goal

pub returns-clause-ok : goal.returns-clause-ok
returns-clause-ok g c = λ all is.
    put_by c.args.self.now.form c.args.self.now.name c.args.live.now c.view.result.now c.view.ensures.mpd
    (g.F.Store.files c.args.store.now) (g.F.Store.files c.write_live_mpd.new.store) c.write_live_mpd.result c.write_live_mpd.ensures.ok

pub returns-clause-err : goal.returns-clause-err
returns-clause-err g c = λ all is.
    begun_by c.args.self.now.form c.args.self.now.name c.args.live.now c.view.result.now c.view.ensures.mpd
    (g.F.Store.files c.args.store.now) (g.F.Store.files c.write_live_mpd.new.store) c.write_live_mpd.result c.write_live_mpd.ensures.err
