use Rattle.bridge_steps.proofs.manifest.mpd_in.Goals as goal
use Rattle.std.proofs.Common.{◌^◌}
use Rattle.bridge_steps.proofs.Static.{finished_read, listable_read}

pub returns-in-Ok-clause-finished : goal.returns-in-Ok-clause-finished
returns-in-Ok-clause-finished g c = λ some.
    finished_read c.static_mpds_are_finished.ensures c.args.live (10 ^ c.args.digits) c.args.place.now.url c.args.now c.args.bytes
    c.in-Ok.ready.presentation c.in-Ok.ensures.ready some

pub returns-in-Ok-clause-listable : goal.returns-in-Ok-clause-listable
returns-in-Ok-clause-listable g c = λ some.
    listable_read c.verified_mpds_can_be_listed.ensures c.args.live
    (10 ^ c.args.digits) c.args.place.now.url c.args.now c.args.bytes
    c.in-Ok.ready.presentation c.in-Ok.ensures.ready some
