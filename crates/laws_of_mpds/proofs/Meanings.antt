-- What an MPD means by what is told of its tracks.
use Rattle.std.proofs.Common.{◌≡◌, ℕ, ◌+◌, ◌<◌, ◌≤◌, true, List, [], ◌∷◌, length, map, Option, Some, None, unwrap_or, refl, sym, ◌∙◌, ap}
use Rattle.std.proofs.Common.{ap₂}
use Rattle.std.proofs.{Common.arith, lemmas.Bool.cond-true, lemmas.Simd.map-map}
use Rattle.std.specs.{Prelude.ℤ, List.list_all}
use Rattle.bridge_io.specs.declared.media.Kind.{Kind}
use Rattle.timeline.specs.{declared.entry.End.End, declared.entry.End.TheVariants.Unbounded, declared.window.Window.Window}
use Rattle.meaning.specs.Meanings.{Entry}
use Rattle.mpd_levels.specs.Segments.{Segments}
use Rattle.mpd_rules.specs.{declared.facts.Facts.Facts, declared.rows.Description.Description, Typed.TypedMpd}
use Rattle.presentation.proofs.Grids.{by_kind_made}
use Rattle.presentation.specs.{declared.track.Track.Track, Order.by_kind, Presented.whole_window}
use Rattle.presentation.specs.Meanings.{Head, entry_of, head_with, meaning_with}
use Rattle.mpd_presentation.specs.{Rows.{Period, Row, first_rows}, Told.{end_of, untold}}
use Rattle.mpd_presentation.specs.Meanings.{are_counted, content_meant, content_of_row, head_of_row, is_counted, meaning_if_counted}
use Rattle.mpd_presentation.specs.Meanings.{mpd_meaning, period_counted, row_counted, row_meant, window_in}
use Rattle.laws_of_mpds.specs.Shown.{ShownTrack, shown_row, shown_tracks}

-- ---- what matters of a Representation

-- what can be seen of it through a window
pub record Seen : Type 0 where
  pub kind : Kind
  pub language : Option (List ℕ)
  pub entry : Option Entry

abbrev seen_in : Window → (url : List ℕ) → End → Row → Seen
seen_in window url end row = record {
  kind = row.description.kind;
  language = row.description.language;
  entry = entry_of window (content_of_row url end row);
}

-- tracks, given the index of the first one
abbrev pub seen_tracks : (entry : ℕ → Option Entry) → (place : ℕ) → List Track → List Seen
seen_tracks entry place [] = []
seen_tracks entry place (track ∷ tracks) =
    record { kind = track.kind; language = track.language; entry = entry place } ∷ seen_tracks entry (place + 1) tracks

abbrev pub in_order : List Seen → List Seen
in_order xs = by_kind (λ (x : Seen). x.kind) xs

abbrev pub entries : List Seen → List (Option Entry)
entries xs = map (λ (x : Seen). x.entry) xs

abbrev pub heads : List Seen → List Head
heads xs = map (λ (x : Seen). head_with x.kind x.language) xs

-- ---- what is seen of the tracks in Periods with these windows

module _ (entry : (section track : ℕ) → Window → Option Entry) (tracks : List Track) where
  abbrev pub seen_at : ℕ → Window → List Seen
  seen_at s window = in_order (seen_tracks (λ k. entry s k window) 0 tracks)

  abbrev pub rows_in : ℕ → List Window → List (List (Option Entry))
  rows_in s [] = []
  rows_in s (window ∷ windows) = entries (seen_at s window) ∷ rows_in (s + 1) windows

  abbrev pub first_heads : List Window → List Head
  first_heads [] = []
  first_heads (window ∷ windows) = heads (seen_at 0 whole_window)

-- Periods from an index on, of which this is told, with these windows
abbrev pub AreTold : (told : (section track : ℕ) → Option Segments) → List Track → Facts → Option ℤ → ℕ → List Window → List Period → Type 0
AreTold told tracks facts now s [] [] = Unit {0}
AreTold told tracks facts now s [] (period ∷ periods) = ⊥
AreTold told tracks facts now s (window ∷ windows) [] = ⊥
AreTold told tracks facts now s (window ∷ windows) (period ∷ periods) = (map shown_row period.tracks ≡ shown_tracks (told s) 0 tracks)
    × (window_in facts now period ≡ window) × AreTold told tracks facts now (s + 1) windows periods

-- ---- an MPD of which this is told

-- segments that are told so, and what of them can be seen through a window
pub record Gives (told : (section track : ℕ) → Option Segments) (entry : (section track : ℕ) → Window
    → Option Entry) (s k : ℕ) : Type 0 where
  pub segments : Segments
  pub tells : told s k ≡ Some segments
  pub counted : is_counted segments ≡ true
  pub seen : (window : Window) (url : List ℕ) (end : End) (d : Description) → d.bases ≡ []
      → entry_of window (content_meant url end d segments) ≡ entry s k window

module _ (told : (section track : ℕ) → Option Segments) (entry : (section track : ℕ) → Window → Option Entry) (tracks : List Track)
    (sections : ℕ) (gives : (s k : ℕ) → s < sections → k < length tracks → Gives told entry s k) where
  row_seen : (window : Window) (url : List ℕ) (end : End) (r : Row) (s k : ℕ) (track : Track) → Gives told entry s k
      → shown_row r ≡ record { kind = track.kind; language = track.language; bases = []; segments = told s k }
      → seen_in window url end r ≡ record { kind = track.kind; language = track.language; entry = entry s k window }
  row_seen window url end r s k track g shown =
      let segments : r.segments ≡ Some g.segments = ap (λ (x : ShownTrack). x.segments) shown ∙ g.tells in
      let entry_is : entry_of window (content_of_row url end r) ≡ entry s k window =
      ap (λ t. entry_of window (content_meant url end r.description (unwrap_or t untold))) segments
      ∙ g.seen window url end r.description (ap (λ (x : ShownTrack). x.bases) shown) in
      ap₂ (λ k l. record { kind = k; language = l; entry = entry_of window (content_of_row url end r) })
      (ap (λ (x : ShownTrack). x.kind) shown) (ap (λ (x : ShownTrack). x.language) shown)
      ∙ ap (λ e. record { kind = track.kind; language = track.language; entry = e }) entry_is

  -- rows of which this is shown can be counted, and are seen so
  record AreSeen (window : Window) (url : List ℕ) (end : End) (s k : ℕ) (some : List Track) (rows : List Row) : Type 0 where
    counted : list_all row_counted rows ≡ true
    seen : map (seen_in window url end) rows ≡ seen_tracks (λ k. entry s k window) k some

  rows_seen : (window : Window) (url : List ℕ) (end : End) (rows : List Row) (s k : ℕ) (some : List Track) → s < sections
      → k + length some ≤ length tracks → map shown_row rows ≡ shown_tracks (told s) k some → AreSeen window url end s k some rows
  rows_seen window url end [] s k [] within few shown = record { counted = refl; seen = refl }
  rows_seen window url end [] s k (track ∷ some) within few shown = absurd (cc)
  rows_seen window url end (r ∷ rows) s k [] within few shown = absurd (cc)
  rows_seen window url end (r ∷ rows) s k (track ∷ some) within few shown =
      let here : shown_row r ≡ record { kind = track.kind; language = track.language; bases = []; segments = told s k } = cc in
      let later : map shown_row rows ≡ shown_tracks (told s) (k + 1) some = cc in
      let g = gives s k within (omega (arith, few)) in
      let counted : row_counted r ≡ true =
      ap (λ t. is_counted (unwrap_or t untold)) (ap (λ (x : ShownTrack). x.segments) here ∙ g.tells) ∙ g.counted in
      let more = rows_seen window url end rows s (k + 1) some within (omega (arith, few)) later in
      record {
        counted = rw (counted, more.counted) refl;
        seen = ap₂ (λ x xs. x ∷ xs) (row_seen window url end r s k track g here) more.seen;
      }

  -- ---- Periods

  ordered : (window : Window) (url : List ℕ) (end : End) (rows : List Row) (s : ℕ) → AreSeen window url end s 0 tracks rows
      → map (seen_in window url end) (by_kind (λ (r : Row). r.description.kind) rows) ≡ seen_at entry tracks s window
  ordered window url end rows s are =
      sym (by_kind_made (seen_in window url end) (λ (x : Seen). x.kind) rows) ∙ ap in_order are.seen

  module _ (url : List ℕ) (facts : Facts) (now : Option ℤ) where
    record AreMeant (s : ℕ) (windows : List Window) (periods : List Period) : Type 0 where
      counted : list_all period_counted periods ≡ true
      rows : map (row_meant url facts now) periods ≡ rows_in entry tracks s windows

    periods_meant : (s : ℕ) (windows : List Window) (periods : List Period) → s + length windows ≤ sections
        → AreTold told tracks facts now s windows periods → AreMeant s windows periods
    periods_meant s [] [] within are = record { counted = refl; rows = refl }
    periods_meant s [] (period ∷ periods) within are = absurd are
    periods_meant s (window ∷ windows) [] within are = absurd are
    periods_meant s (window ∷ windows) (period ∷ periods) within are =
        let end = end_of period in
        let seen = rows_seen window url end period.tracks s 0 tracks (omega (arith, within)) (omega arith) are.0 in
        let more = periods_meant (s + 1) windows periods (omega (arith, within)) are.2 in
        record {
          counted = rw (seen.counted, more.counted) refl;
          rows = ap₂ (λ x xs. x ∷ xs)
              (ap (λ w. map (λ (r : Row). entry_of w (content_of_row url end r)) (by_kind (λ (r : Row). r.description.kind) period.tracks))
              are.1
              ∙ sym (map-map (λ (x : Seen). x.entry) (seen_in window url end) (by_kind (λ (r : Row). r.description.kind) period.tracks))
              ∙ ap entries (ordered window url end period.tracks s seen))
              more.rows;
        }

    heads_meant : (windows : List Window) (periods : List Period) → length windows ≤ sections
        → AreTold told tracks facts now 0 windows periods
        → map head_of_row (by_kind (λ (r : Row). r.description.kind) (first_rows periods)) ≡ first_heads entry tracks windows
    heads_meant [] [] within are = refl
    heads_meant [] (period ∷ periods) within are = absurd are
    heads_meant (window ∷ windows) [] within are = absurd are
    heads_meant (window ∷ windows) (period ∷ periods) within are =
        let seen = rows_seen whole_window url Unbounded period.tracks 0 0 tracks (omega (arith, within)) (omega arith) are.0 in
        sym (map-map (λ (x : Seen). head_with x.kind x.language) (seen_in whole_window url Unbounded)
        (by_kind (λ (r : Row). r.description.kind) period.tracks))
        ∙ ap heads (ordered whole_window url Unbounded period.tracks 0 seen)

  pub mpd_meant : (mpd : TypedMpd (Option Segments)) (url : List ℕ) (now : Option ℤ) (windows : List Window) → length windows ≤ sections
      → AreTold told tracks mpd.facts now 0 windows mpd.periods
      → meaning_if_counted mpd url now ≡ Some (meaning_with (first_heads entry tracks windows) (rows_in entry tracks 0 windows))
  unfolding mpd_meaning
  mpd_meant mpd url now windows within are =
      let periods = periods_meant url mpd.facts now 0 windows mpd.periods (omega (arith, within)) are in
      cond-true (are_counted mpd) (Some (mpd_meaning mpd url now)) None periods.counted
      ∙ ap Some (ap₂ meaning_with (heads_meant url mpd.facts now windows mpd.periods within are) periods.rows)
