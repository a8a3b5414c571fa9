use Rattle.live_session.proofs.session.Session.begun.Goals as goal
use Rattle.std.proofs.{Common.arith, lemmas.Result.err_from_is_err_and}
use Rattle.live_session.proofs.{Beginning.{refused_made, begun_by, counted_now, is_first, is_session, periods_once}, TrackMaking.wanting}

pub first_tracks-requires-clause-counted : goal.first_tracks-requires-clause-counted
first_tracks-requires-clause-counted g c = counted_now c.requires.first

pub returns-in_err-tracks : goal.returns-in_err-tracks
returns-in_err-tracks g c =
    let first = c.requires.first in
    let p = err_from_is_err_and c.from_residual.result c.from_residual.ensures.1 in
    rw (p.1, p.2) (refused_made _ _ _ _ first.made first.judged _ _ _
    (c.in_err-tracks.ensures _ (is_first first c.start_of.result c.start_of.ensures.start)))

pub first_standing-requires-clause-once : goal.first_standing-requires-clause-once
first_standing-requires-clause-once g c = periods_once c.requires.first

pub first_standing-requires-clause-counted : goal.first_standing-requires-clause-counted
first_standing-requires-clause-counted g c = counted_now c.requires.first

pub returns-in_err-standing : goal.returns-in_err-standing
returns-in_err-standing g c =
    let first = c.requires.first in
    let are = c.in_ok-tracks.ensures _ (is_first first c.start_of.result c.start_of.ensures.start) in
    let p = err_from_is_err_and c.from_residual-in_err-standing.result c.from_residual-in_err-standing.ensures.1 in
    rw (p.1, p.2) (refused_made _ _ _ _ first.made first.judged _ _ _
    (wanting (omega (arith, are.counted)) (omega (arith, are.counted))))

pub invariant_of-result : goal.invariant_of-result
invariant_of-result g c =
    let first = c.requires.first in
    is_session first (c.in_ok-tracks.ensures _ (is_first first c.start_of.result c.start_of.ensures.start)) c.in_ok-standing.ensures
    c.histories_go_on.ensures.begin c.first_states_are_sound.ensures.sound c.playlists_are_never_empty.ensures.some
    c.playlists_are_never_empty.ensures.small

pub returns : goal.returns
returns g c =
    let first = c.requires.first in
    begun_by first (c.in_ok-tracks.ensures _ (is_first first c.start_of.result c.start_of.ensures.start)) c.in_ok-standing.ensures
    c.histories_go_on.ensures.begin
