use Rattle.dash_writer.proofs.timed.TimedListsTrackListsSteps.push_list.Goals as goal
use Rattle.std.proofs.{Common.{◌*◌, ◌+◌, get_or, slice_get, length, refl, sym, ap, ◌∙◌}, lemmas.Option.slice_get_read}
use Rattle.bridge_io.proofs.Adding.{adds_same}
use Rattle.presentation.specs.Presented.{content_at, window_of}
use Rattle.presentation.proofs.OwnListed.{addressed_at}
use Rattle.dash_writer.specs.{Timed.list_of, Written.{element_text, elements_text}}
use Rattle.dash_writer.proofs.Timing.{timed_is}

pub push_timed-requires : goal.push_timed-requires
push_timed-requires g c = let p = c.args.self.now.presentation.now in
    addressed_at p.contents (c.args.section * length p.tracks + c.args.track) c.runs.result.now
    c.requires.listed.origin.addressed c.runs.ensures.content

pub returns : goal.returns
returns g c = let p = c.args.self.now.presentation.now in let times = c.args.self.now.times.now in
    let form = c.args.self.now.form in let section = c.args.section in let place = section * length p.tracks + c.args.track in let run = c.index-self-section.result in
    let runs = c.runs.result.now in let part = c.initialization-part.result.now in
    let at = c.index-self-section.is
    ∙ ap (λ n. get_or times (section * n + c.args.track) run) (c.len.ensures ∙ ap length c.tracks.ensures) in
    let timed = slice_get_read times (length times) place run refl c.requires.timed at in
    let is = timed_is form (window_of p section) (content_at p section c.args.track) runs part (slice_get times place) run
    c.runs.ensures.content c.initialization-part.ensures timed in
    adds_same (ap (λ run. element_text (list_of form c.window.result runs part run)) (sym c.index-self-section.is)
    ∙ ap (λ window. element_text (list_of form window runs part run)) c.window.ensures ∙ ap elements_text (sym is)) c.push_timed.ensures
