use Rattle.live_session.proofs.begin.first_tracks.Goals as goal
use Rattle.std.proofs.{Common.{◌∙◌, arith, ap, length, map, sym}, lemmas.Result.err_from_is_err_and}
use Rattle.live_meaning.specs.States.{new_count}
use Rattle.live_judge.specs.Shown.{track_shown}
use Rattle.live_session.proofs.{Accepting.same_shown, Beginning.{empty_makeable, first_are, first_slice}, TrackMaking.wanting}

pub returns-in_err-tracks : goal.returns-in_err-tracks
returns-in_err-tracks g c = λ common is.
    let p = err_from_is_err_and c.from_residual.result c.from_residual.ensures.1 in
    rw (p.1, p.2) (wanting (omega arith) (omega arith))

pub make_all-requires-clause-tracks : goal.make_all-requires-clause-tracks
make_all-requires-clause-tracks g c =
    empty_makeable c.as_slice.result.now c.len.result (ap (map track_shown) c.as_slice.ensures.value ∙ c.in_ok-tracks.ensures.shown)
    (rw c.as_slice.ensures.value c.in_ok-tracks.ensures.paired)

pub returns-in-Err : goal.returns-in-Err
returns-in-Err g c = λ common is.
    let empty = first_slice common c.args.opened.now c.args.now c.as_slice.result.now c.in_ok-tracks.tracks.items c.len.result
    c.as_slice.ensures.value c.in_ok-tracks.ensures.shown (omega (arith, c.len.ensures, ap (λ xs. length xs) c.tracks.ensures)) is.force in
    rw empty at (c.in-Err.ensures.made common
    (record { force = is.force; digits = is.printed; resets = is.resets; start = is.starts; places = is.places }))

pub returns-in_err-make_room : goal.returns-in_err-make_room
returns-in_err-make_room g c = λ common is.
    let empty = first_slice common c.args.opened.now c.args.now c.as_slice.result.now c.in_ok-tracks.tracks.items c.len.result
    c.as_slice.ensures.value c.in_ok-tracks.ensures.shown (omega (arith, c.len.ensures, ap (λ xs. length xs) c.tracks.ensures)) is.force in
    let made = c.in-Ok.ensures.made common
    (record { force = is.force; digits = is.printed; resets = is.resets; start = is.starts; places = is.places }) in
    let many = ap (new_count common 0) empty in
    let p = err_from_is_err_and c.from_residual-in_err-make_room.result c.from_residual-in_err-make_room.ensures.1 in
    rw (p.1, p.2) (wanting (omega (arith, made.counted))
    (omega (arith, made.counted, many)))

pub grow_all-requires-clause-room : goal.grow_all-requires-clause-room
grow_all-requires-clause-room g c = rw c.as_slice-2.ensures.value at c.in_ok-make_room.ensures.room

pub returns : goal.returns
returns g c = λ common is.
    first_are common _ _ _ _ _ _
    (first_slice common c.args.opened.now c.args.now _ _ _ c.as_slice.ensures.value c.in_ok-tracks.ensures.shown
    (omega (arith, c.len.ensures, ap (λ xs. length xs) c.tracks.ensures)) is.force)
    (same_shown _ _ c.in_ok-make_room.ensures.same ∙ sym (ap (map track_shown) c.as_slice.ensures.value)) c.grow_all.ensures.shown
    c.grow_all.ensures.paired
    (c.in-Ok.ensures.made common
    (record { force = is.force; digits = is.printed; resets = is.resets; start = is.starts; places = is.places }))
