use Rattle.dash_writer.proofs.listed.Listed.push.Goals as goal
use Rattle.std.proofs.Common.{List, ◌∙◌, ap, refl}
use Rattle.url_parts.specs.declared.address.Part.{Part}
use Rattle.bridge_io.proofs.Adding.{adds_same}
use Rattle.presentation.proofs.OwnListed.{have_addresses}
use Rattle.dash_writer.specs.{Forms.segments_with, Lists.parts_of, Written.element_text}

pub push_segments-requires-clause-can : goal.push_segments-requires-clause-can
push_segments-requires-clause-can g c =
    rw (c.listing-files.ensures.timeline, c.listing-files.ensures.left)
    (have_addresses c.args.self.now.runs.now c.args.self.now.window c.requires.addressed)

pub push_segments-requires-clause-can_again : goal.push_segments-requires-clause-can_again
push_segments-requires-clause-can_again g c =
    rw (c.listing-again.ensures.timeline, c.listing-again.ensures.left)
    (have_addresses c.args.self.now.runs.now c.args.self.now.window c.requires.addressed)

pub push_segments-requires-clause-same : goal.push_segments-requires-clause-same
push_segments-requires-clause-same g c =
    rw (c.listing-files.ensures.timeline, c.listing-files.ensures.left, c.listing-again.ensures.timeline, c.listing-again.ensures.left) refl

pub returns : goal.returns
returns g c = let head = c.args.head.now in
    let text = λ (parts : List Part). element_text (segments_with c.args.self.now.form head.ticks head.offset head.first
    head.initialization.now (g.D.Durations.durations c.args.durations.now) parts) in
    adds_same (ap (λ timeline. text (parts_of timeline c.listing-files.result.left)) c.listing-files.ensures.timeline
    ∙ ap (λ left. text (parts_of c.args.self.now.runs.now left)) c.listing-files.ensures.left) c.push_segments.ensures
