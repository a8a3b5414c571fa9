use Rattle.dash_writer.proofs.live.write_live_mpd.Goals as goal
use Rattle.std.proofs.Common.{◌≡◌, ◌<◌, length, refl, ap, ◌∙◌, arith}
use Rattle.iso_time.specs.Civil.{instant_text}
use Rattle.dash_writer.specs.{declared.live.LiveLists.LiveLists, Given.text_with, Live.{growing_root, last_live_end, live_lists, live_period}}
use Rattle.dash_writer.specs.{Live.{live_root, live_text}, Manifest.finished_root, Written.all_told}
use Rattle.dash_writer.proofs.LiveTracks.{has_run, root_is, some_run}

pub write-requires : goal.write-requires
write-requires g c = let mpd = c.args.mpd.now in λ section below place from within.
    let in_periods : section < length mpd.periods = omega (arith, below, ap length c.as_slice-periods.ensures) in
    let in_tracks : place < length mpd.tracks = omega (arith, within, ap length c.as_slice.ensures) in
    let has = has_run mpd c.requires section place in_periods in_tracks in
    (has, some_run c.args.form mpd section place has)

same_text : (given : LiveLists) → let mpd = given.mpd.now in
    text_with live_period (λ (lists : LiveLists). live_lists lists.form lists.mpd.now) (live_root mpd) mpd.periods mpd.tracks given
    ≡ live_text given.form mpd
unfolding text_with live_text
same_text given = refl

root : (g : _) (c : goal.After-write g) → all_told c.one_of.result.now ≡ live_root c.args.mpd.now
root g c = let mpd = c.args.mpd.now in
    root_is mpd.ended c.one_of.result.now c.finished_root-finished.result c.growing_root-growing.result _ _ c.one_of.ensures
    (c.finished_root-finished.ensures ∙ ap finished_root (c.last_end.ensures ∙ ap last_live_end c.as_slice-periods.ensures))
    (c.growing_root-growing.ensures
    ∙ ap (λ start. growing_root start c.write_instant_ms-published.result mpd.target) c.write_instant_ms-start.ensures.text
    ∙ ap (λ published. growing_root (instant_text mpd.start) published mpd.target) c.write_instant_ms-published.ensures.text)

pub returns-clause-ok : goal.returns-clause-ok
returns-clause-ok g c =
    rw (root g c, c.as_slice-periods.ensures, c.as_slice.ensures, same_text (record { form = c.args.form; mpd = c.args.mpd })) at c.write.ensures.ok

pub returns-clause-err : goal.returns-clause-err
returns-clause-err g c =
    rw (root g c, c.as_slice-periods.ensures, c.as_slice.ensures, same_text (record { form = c.args.form; mpd = c.args.mpd })) at c.write.ensures.err
