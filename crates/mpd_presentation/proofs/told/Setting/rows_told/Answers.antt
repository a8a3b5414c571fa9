use Rattle.mpd_presentation.proofs.told.Setting.rows_told.Goals as goal
use Rattle.std.proofs.{Common.{◌≡◌, ◌∷◌, [], Ok, map, ap, ◌∙◌, sym, refl}, lemmas.List.Elements.All-rest}
use Rattle.mpd_levels.specs.declared.addressing.SegmentRow.{SegmentRow}
use Rattle.mpd_rules.specs.{declared.rows.TrackRow.TrackRow, Held.Keyed, Typed.track_with, Views.{track_in, tracks_left}}
use Rattle.mpd_presentation.specs.{Shared.IsShared, Rows.{row_of, rows_left, shown}, Told.{one_told, told_of}}
use Rattle.bridge_io.specs.Answer.{gathered}
use Rattle.presentation.proofs.Gathering.{behind, behind_nothing, goes_on, step_told, stops}

pub returns-in-Err : goal.returns-in-Err
returns-in-Err c =
    let give = one_told c.args.self.now.base.now c.args.self.now.live c.args.end.now in
    let rows = ap (map (track_with shown)) c.in-Some.ensures.steps in
    stops give (row_of c.in-Some.row) (rows_left c.next.new.self) c.loop-row.tolds.items c.in-Err.fault _
    (ap (λ rows. behind c.loop-row.tolds.items (gathered give rows)) (sym rows) ∙ c.loop-row.invariant.told)
    (step_told (told_of c.args.self.now.base.now c.args.self.now.live c.args.end.now (row_of c.in-Some.row)) _ c.in-Err.fault
    c.in-Err.ensures)

pub loop-row-init : goal.loop-row-init
loop-row-init c = rw (c.into_iter-row-iterator.ensures.into_iter_gives, c.new-tolds.ensures.items) (record {
  can_next = tt;
  finite = tt;
  shared = c.requires;
  told = behind_nothing _;
})

pub loop-row-preserved : goal.loop-row-preserved
loop-row-preserved c =
    let give = one_told c.args.self.now.base.now c.args.self.now.live c.args.end.now in
    let rows = ap (map (track_with shown)) c.in-Some.ensures.steps in
    let one : give (row_of c.in-Some.row) ≡ Ok (c.in-Ok.told ∷ []) = rw c.in-Ok.ensures refl in
    record {
      can_next = tt;
      finite = tt;
      shared = All-rest (λ (row : TrackRow (Keyed SegmentRow)). IsShared row.segments.tables c.args.self.now.shared.now)
          (track_in c.in-Some.row) (tracks_left c.next.new.self)
          (tracks_left c.loop-row.row-iterator) c.in-Some.ensures.steps c.loop-row.invariant.shared;
      told = rw c.in_ok-push-in-Ok.ensures.items
          (sym (goes_on give (row_of c.in-Some.row) (rows_left c.next.new.self) c.loop-row.tolds.items (c.in-Ok.told ∷ []) one)
          ∙ ap (λ rows. behind c.loop-row.tolds.items (gathered give rows)) (sym rows) ∙ c.loop-row.invariant.told);
    }
