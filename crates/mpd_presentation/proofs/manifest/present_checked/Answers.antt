use Rattle.mpd_presentation.proofs.manifest.present_checked.Goals as goal
use Rattle.std.proofs.{Common.{ap, ◌∙◌, sym, subst, map, length, ◌*◌, Ok}, lemmas.List.length-map}
use Rattle.mpd_presentation.specs.{Shared.IsShared, Rows.{first_rows, shown}}
use Rattle.mpd_rules.specs.{Typed.period_with, Views.segments_mpd}
use Rattle.mpd_presentation.specs.declared.told.PeriodContent.{PeriodContent}
use Rattle.mpd_presentation.proofs.{Ending.{all_ended, all_filled, of_all}, Parting.{presented_fault, presented_parts}}

pub all_told-requires : goal.all_told-requires
all_told-requires c =
    of_all c.periods.result.tables.now c.in_ok-shared.shared c.periods.result.rest.now
    (subst (λ tables. IsShared tables c.in_ok-shared.shared) (c.tables.ensures ∙ sym c.periods.ensures.tables) c.in_ok-shared.ensures)

pub present-requires-clause-filled : goal.present-requires-clause-filled
present-requires-clause-filled c =
    let told = rw (c.live.ensures.live, c.periods.ensures.periods) at c.in-Ok.ensures in
    let periods = c.args.mpd.now.values.periods in
    ap length told.parts.contents ∙ length-map told.tolds (λ (told : PeriodContent). told.content)
    ∙ all_filled c.args.base.now c.args.mpd.now.values.facts.live _ (map (period_with shown) periods) told.tolds c.requires told.told
    ∙ ap (λ n. n * length (first_rows (map (period_with shown) periods))) (length-map periods (period_with shown))

pub present-requires-clause-ended : goal.present-requires-clause-ended
present-requires-clause-ended c =
    let told = rw (c.live.ensures.live, c.periods.ensures.periods) at c.in-Ok.ensures in
    λ ended. rw told.parts.contents (all_ended c.closed_ends.ensures.timelines c.closed_ends.ensures.durations c.args.base.now
    c.args.mpd.now.values.facts.live (map (period_with shown) c.args.mpd.now.values.periods) told.tolds told.told ended)

pub returns-in-Ok : goal.returns-in-Ok
returns-in-Ok c =
    let told = rw (c.live.ensures.live, c.periods.ensures.periods) at c.in-Ok.ensures in
    presented_parts (segments_mpd c.args.mpd.now) c.args.base.now c.args.now c.in-Ok.parted told ∙ ap Ok (sym c.in_ok-present-in-Ok.ensures)

pub returns : goal.returns
returns c = presented_fault (segments_mpd c.args.mpd.now) c.args.base.now c.args.now c.in-Err.fault
    (rw (c.live.ensures.live, c.periods.ensures.periods) at c.in-Err.ensures)
