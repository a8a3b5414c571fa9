use Rattle.dash_writer.proofs.listed.OwnListsTrackListsSteps.push_list.Goals as goal
use Rattle.std.proofs.Common.{ap, sym, option_to_list, ◌*◌, ◌+◌, ◌∙◌, length}
use Rattle.bridge_io.proofs.Adding.{adds_same}
use Rattle.presentation.specs.Presented.{content_at, listed_in, window_of}
use Rattle.presentation.proofs.OwnListed.{addressed_at}
use Rattle.dash_writer.specs.{Forms.own_segments, Written.{element_text, elements_text}}
use Rattle.dash_writer.proofs.Origins.{list_is}

pub push_own-requires : goal.push_own-requires
push_own-requires g c = let p = c.args.self.now.presentation.now in
    addressed_at p.contents (c.args.section * length p.tracks + c.args.track) c.runs.result.now
    c.requires.origin.addressed c.runs.ensures.content

pub returns : goal.returns
returns g c = let p = c.args.self.now.presentation.now in let runs = c.runs.result.now in let part = c.initialization-part.result.now in
    let list = list_is c.args.self.now.form (window_of p c.args.section) (content_at p c.args.section c.args.track) runs part
    c.runs.ensures.content c.initialization-part.ensures in
    adds_same (ap (λ window. element_text (own_segments c.args.self.now.form runs part (listed_in window runs))) c.window.ensures
    ∙ ap (λ o. elements_text (option_to_list o)) (sym list)) c.push_own.ensures
