use Rattle.mpd_presentation.proofs.told.Setting.all_told.Goals as goal
use Rattle.std.proofs.{Common.{map, ap, ◌++◌, ◌∙◌, subst, sym, All}, lemmas.List.Elements.{All-head, All-rest}}
use Rattle.mpd_levels.specs.declared.addressing.SegmentRow.{SegmentRow}
use Rattle.mpd_rules.specs.{declared.rows.PeriodRow.PeriodRow, Held.Keyed, Typed.period_with, Views.{period_in, periods_left}}
use Rattle.mpd_presentation.specs.{Shared.AreOf, Rows.{all_left, period_of, shown}, Told.period_told}
use Rattle.bridge_io.specs.Answer.{gathered}
use Rattle.presentation.proofs.Gathering.{behind, goes_on, stops}
use Rattle.mpd_presentation.proofs.Parting.{all_so_far, none_so_far, parted_more}

pub period_told-requires : goal.period_told-requires
period_told-requires c =
    let Of = λ (period : PeriodRow (Keyed SegmentRow)). AreOf c.args.self.now.shared.now period.tracks in
    All-head Of (period_in c.in-Some.period) (periods_left c.next.new.self)
    (subst (All Of) c.in-Some.ensures.steps c.loop-period.invariant.shared)

pub returns-in-Err : goal.returns-in-Err
returns-in-Err c =
    let give = period_told c.args.self.now.base.now c.args.self.now.live in
    let periods = ap (map (period_with shown)) c.in-Some.ensures.steps in
    let so_far = c.loop-period.invariant.told in
    stops give (period_of c.in-Some.period) (all_left c.next.new.self) so_far.tolds c.in-Err.fault _
    (ap (λ periods. behind so_far.tolds (gathered give periods)) (sym periods) ∙ so_far.told) c.in-Err.ensures

pub loop-period-init : goal.loop-period-init
loop-period-init c = rw c.into_iter-period-iterator.ensures.into_iter_gives (record {
  can_next = tt;
  finite = tt;
  shared = c.requires;
  told = none_so_far _ _ c.none-parted.ensures;
})

pub loop-period-preserved : goal.loop-period-preserved
loop-period-preserved c =
    let give = period_told c.args.self.now.base.now c.args.self.now.live in
    let periods = ap (map (period_with shown)) c.in-Some.ensures.steps in
    let so_far = c.loop-period.invariant.told in
    record {
      can_next = tt;
      finite = tt;
      shared = All-rest (λ (period : PeriodRow (Keyed SegmentRow)). AreOf c.args.self.now.shared.now period.tracks)
          (period_in c.in-Some.period) (periods_left c.next.new.self)
          (periods_left c.loop-period.period-iterator) c.in-Some.ensures.steps c.loop-period.invariant.shared;
      told = record {
        tolds = so_far.tolds ++ _;
        parts = parted_more so_far.tolds _ c.loop-period.parted _ so_far.parts c.in_ok-add_to-in-Ok.ensures;
        told = sym (goes_on give (period_of c.in-Some.period) (all_left c.next.new.self) so_far.tolds _ c.in-Ok.ensures)
            ∙ ap (λ periods. behind so_far.tolds (gathered give periods)) (sym periods) ∙ so_far.told;
      };
    }

pub returns : goal.returns
returns c =
    let give = period_told c.args.self.now.base.now c.args.self.now.live in
    all_so_far _ _ _ c.loop-period.invariant.told
    (ap (λ periods. gathered give (map (period_with shown) periods)) c.in-None.ensures.steps.0)
