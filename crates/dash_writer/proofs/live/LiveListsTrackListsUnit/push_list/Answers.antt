use Rattle.dash_writer.proofs.live.LiveListsTrackListsUnit.push_list.Goals as goal
use Rattle.std.proofs.Common.{sym, ap, ◌∙◌}
use Rattle.bridge_io.proofs.Adding.{adds_same}
use Rattle.dash_writer.specs.{declared.live.LivePeriod.LivePeriod, Written.elements_text}
use Rattle.dash_writer.proofs.LiveTracks.{list_read}

pub returns : goal.returns
returns g c = let period = c.index-as_slice-section in
    adds_same (ap elements_text (sym (list_read c.args.self.now.form c.args.self.now.mpd.now c.args.section c.args.track c.requires
    c.as_slice.result.now period.result c.as_slice-2.result.now c.index-as_slice-track.result c.as_slice.ensures period.is
    (c.as_slice-2.ensures ∙ ap (λ (period : LivePeriod). period.runs) (sym period.is)) c.index-as_slice-track.is)))
    c.push_run.ensures
