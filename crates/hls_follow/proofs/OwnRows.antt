-- The Periods of an accepted snapshot, each with all its tracks.
use Rattle.hls_follow.proofs.Contiguous as contiguous
use Rattle.std.proofs.Common.{◌≡◌, ℕ, ◌<◌, List, [], ◌∷◌, length, All, Option, Ok, sym, ◌∙◌, ap, subst, arith}
use Rattle.std.proofs.lemmas.List.Elements.{All-cons, All-head, All-map, All-nil, All-tail}
use Rattle.bridge_io.specs.Outside.{Files}
use Rattle.hls_presentation.specs.Tracks.{Source}
use Rattle.dash_writer.specs.{declared.live.LivePeriod.LivePeriod, declared.timed.TickRun.TickRun}
use Rattle.fragment_times.specs.declared.times.SegmentTimes.{SegmentTimes}
use Rattle.hls_follow.specs.{declared.state.Followed.Followed, declared.state.FollowedTrack.FollowedTrack, OwnTimes.Snapshot}
use Rattle.hls_follow.specs.{Rules.common_sections, TimedHistories.Round}
use Rattle.hls_follow.proofs.{Cells.{Cell, IsCell, IsRow}, OwnParts.OwnParts, OwnTracks.{column_of, listed_are, snapshot, tracks_many}}

pub record HasRow (s : Snapshot) (files : Files) (period : LivePeriod) : Type 0 where
  pub place : ℕ
  pub row : List SegmentTimes
  pub ticks : List TickRun
  pub is : IsRow s files place row ticks period

cells_have : (s : Snapshot) (files : Files) (place : ℕ) (cells : List Cell) → All (IsCell s files place) cells
    → All (λ (c : Cell). HasRow s files c.period) cells
cells_have s files place [] each = All-nil (λ (c : Cell). HasRow s files c.period)
cells_have s files place (c ∷ cells) each =
    All-cons (λ (c : Cell). HasRow s files c.period) c cells
    (record { place = c.place; row = c.row; ticks = c.ticks; is = (All-head (IsCell s files place) c cells each).row })
    (cells_have s files place cells (All-tail (IsCell s files place) c cells each))

some_kept : (kept : List Source) (sections : List ℕ) → common_sections kept ≡ Ok sections → 0 < length kept
some_kept [] sections is = absurd (cc)
some_kept (s ∷ kept) sections is = omega arith

module _ (folder : List ℕ) (former : Option Followed) (all : List Source) (round : Round) (new : Followed)
    (parts : OwnParts folder former all round new) where
  pub rows_are : All (HasRow (snapshot folder former all round new parts) round.files) new.mpd.periods
  rows_are =
      let s = snapshot folder former all round new parts in
      let many : length new.tracks ≡ length parts.kept =
      ap (λ (ts : List FollowedTrack). length ts) parts.tracks ∙ tracks_many (length parts.kept) 0 parts.kept parts.times in
      let t = contiguous.some_at new.tracks 0 (omega (arith, many, some_kept parts.kept parts.sections parts.judged.common)) in
      let c = column_of folder former all round new parts 0 t.0 t.1 in
      subst (All (HasRow s round.files)) (c.periods ∙ sym (listed_are folder former all round new parts))
      (All-map (HasRow s round.files) (λ (c : Cell). c.period) c.cells (cells_have s round.files 0 c.cells c.each))
