use Rattle.mpd_rules.proofs.build.Building.add_tracks.Goals as goal
use Rattle.std.proofs.{Common.◌∙◌, lemmas.Result.err_from_is_err_and}
use Rattle.mpd_tree.specs.Nodes.{element_of}
use Rattle.mpd_levels.proofs.Showing.{Grows-then}
use Rattle.mpd_rules.specs.{Built.track_shown, Fits.FitsTrack}
use Rattle.mpd_rules.proofs.{Building.{Says-grows, one_pushed}, Refusing.{first_of_more, none_first}, Walking.{all_here, one_left}}

pub track-requires-clause-fits : goal.track-requires-clause-fits
track-requires-clause-fits g c =
    let i = c.loop-representation.representation-index in
    all_here element_of FitsTrack c.args.representations.now i c.representation-item.result c.requires.fits c.loop-representation-test.true
    c.representation-item.is

pub track-requires-clause-said : goal.track-requires-clause-said
track-requires-clause-said g c = let said = c.requires.said in (said.0, Says-grows c.loop-representation.invariant.grows said.1)

pub returns-in_err-track-clause-refused : goal.returns-in_err-track-clause-refused
returns-in_err-track-clause-refused g c = λ levels says.
    let p = err_from_is_err_and c.from_residual.result c.from_residual.ensures.1 in
    let here = one_left element_of c.args.representations.now c.loop-representation.representation-index c.representation-item.result
    c.loop-representation-test.true c.representation-item.is in
    rw (p.1, p.2) (first_of_more c.in_err-track.field-0.0 _ _ _ (rw here at (c.loop-representation.invariant.refused levels says))
    (c.in_err-track.ensures.refused levels (Says-grows c.loop-representation.invariant.grows says)))

pub loop-representation-preserved : goal.loop-representation-preserved
loop-representation-preserved g c =
    let i = c.loop-representation.invariant in
    let here = one_left element_of c.args.representations.now c.loop-representation.representation-index c.representation-item.result
    c.loop-representation-test.true c.representation-item.is in
    record {
      grows = Grows-then i.grows c.track.ensures.grows;
      left_out = c.track.ensures.left_out ∙ i.left_out;
      refused = λ levels says.
          let none = none_first _ (c.in_ok-track.ensures.refused levels (Says-grows i.grows says)) in
          rw none at (rw here at (i.refused levels says));
      rows = λ levels later says grows.
          one_pushed (track_shown g.X.FromLevels.shown later) c.loop-representation.tracks c.push.new.self c.in_ok-track.field-0 _ _ _
          c.in_ok-push.ensures.ok
          (c.in_ok-track.ensures.row levels later (Says-grows i.grows says) grows)
          (rw here at (i.rows levels later says (Grows-then c.track.ensures.grows grows)));
    }
