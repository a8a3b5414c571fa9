use Rattle.mpd_rules.proofs.build.Building.tracks.Goals as goal
use Rattle.std.proofs.{Common.{◌+◌, ◌++◌, ap, map, drop, sym, ◌∙◌, append_assoc, arith}, lemmas.List.{append-nil, at_drop_all}}
use Rattle.std.proofs.{lemmas.List.Sums.sum_by-cons, lemmas.Result.err_from_is_err_and}
use Rattle.mpd_tree.specs.Nodes.{element_of}
use Rattle.mpd_levels.proofs.Showing.{Grows-then}
use Rattle.mpd_rules.specs.{Built.{set_tracks, sets_tracks, tracks_shown}, Fits.FitsSet, Kept.left_in_set}
use Rattle.mpd_rules.proofs.{Building.Says-grows, Refusing.{first_of_more, none_first}, Walking.{all_here, one_left}}

pub add_set-requires-clause-fits : goal.add_set-requires-clause-fits
add_set-requires-clause-fits g c =
    all_here element_of FitsSet c.args.sets.now c.loop-place.place c.index-sets-place.result c.requires.fits c.loop-place-test.true
    c.index-sets-place.is

pub add_set-requires-clause-said : goal.add_set-requires-clause-said
add_set-requires-clause-said g c = let said = c.requires.said in (said.0, Says-grows c.loop-place.invariant.grows said.1)

pub returns-in_err-add_set-clause-grows : goal.returns-in_err-add_set-clause-grows
returns-in_err-add_set-clause-grows g c = Grows-then c.loop-place.invariant.grows c.add_set.ensures.grows

pub returns-in_err-add_set-clause-refused : goal.returns-in_err-add_set-clause-refused
returns-in_err-add_set-clause-refused g c = λ levels says.
    let p = err_from_is_err_and c.from_residual.result c.from_residual.ensures.1 in
    let here = one_left element_of c.args.sets.now c.loop-place.place c.index-sets-place.result c.loop-place-test.true
    c.index-sets-place.is in
    rw (p.1, p.2) (first_of_more c.in_err-add_set.field-0.0 _ _ _ (rw here at (c.loop-place.invariant.refused levels says))
    (c.in_err-add_set.ensures.refused levels (Says-grows c.loop-place.invariant.grows says)))

pub loop-place-preserved : goal.loop-place-preserved
loop-place-preserved g c =
    let i = c.loop-place.invariant in
    let here = one_left element_of c.args.sets.now c.loop-place.place c.index-sets-place.result c.loop-place-test.true
    c.index-sets-place.is in
    record {
      grows = Grows-then i.grows c.add_set.ensures.grows;
      left_out = omega (arith, c.in_ok-add_set.ensures.left_out, rw (here, sum_by-cons left_in_set) at i.left_out);
      refused = λ levels says.
          let none = none_first _ (c.in_ok-add_set.ensures.refused levels (Says-grows i.grows says)) in
          rw none at (rw here at (i.refused levels says));
      rows = λ levels later says grows.
          let rest = sets_tracks g.X.FromLevels.of (c.loop-place.place + 1) c.args.above.now.bases levels
          (map element_of (drop (c.loop-place.place + 1) c.args.sets.now)) in
          ap (λ rows. rows ++ rest) (c.in_ok-add_set.ensures.rows levels later (Says-grows i.grows says) grows)
          ∙ append_assoc (tracks_shown g.X.FromLevels.shown later c.loop-place.tracks)
          (set_tracks g.X.FromLevels.of c.loop-place.place c.args.above.now.bases levels (element_of c.index-sets-place.result)) rest
          ∙ rw here at (i.rows levels later says (Grows-then c.add_set.ensures.grows grows));
    }

pub returns-clause-rows : goal.returns-clause-rows
returns-clause-rows g c = λ levels later says grows.
    sym (append-nil (tracks_shown g.X.FromLevels.shown later c.loop-place.tracks))
    ∙ rw (at_drop_all (map element_of) c.args.sets.now c.loop-place.place c.loop-place-test.false) at
    (c.loop-place.invariant.rows levels later says grows)
