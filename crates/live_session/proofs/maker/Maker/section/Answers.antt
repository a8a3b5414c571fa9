use Rattle.live_session.proofs.maker.Maker.section.Goals as goal
use Rattle.std.proofs.Common.{◌≡◌, ◌+◌, ◌^◌, ◌∙◌, Some, ap, sym, length, arith, refl}
use Rattle.timeline.specs.Expansions.{SegmentTimeline}
use Rattle.presentation.specs.{Presented.{listed_at, listed_in}, Printing.PrintedRest}
use Rattle.live_session.specs.{Making.{behind_in, end_in, number_of}, New.{later_listed, left_to_make, shown_by}}
use Rattle.live_session.proofs.Making.{counted_there, listed_there}

pub of-requires-clause-goes_on : goal.of-requires-clause-goes_on
of-requires-clause-goes_on c = let m = c.args.self.now in let s = c.args.section in let t = c.args.track in let last = c.args.last in
    let b : c.behind_in-behind.result ≡ behind_in (number_of m s) last = c.behind_in-behind.ensures
    ∙ ap (λ n. behind_in n last) c.number.ensures in
    let e : c.end_in-end.result ≡ end_in (m.place + s) last = c.end_in-end.ensures in
    let l : listed_in c.window-window.result c.runs-runs.result.now ≡ listed_at (shown_by m) s t =
    listed_there (shown_by m) s t _ _ c.runs-runs.ensures.content c.window-window.ensures in
    rw (b, e, l) c.requires.goes_on

pub returns-clause-section : goal.returns-clause-section
returns-clause-section c = let m = c.args.self.now in let s = c.args.section in let t = c.args.track in let last = c.args.last in
    let b : c.behind_in-behind.result ≡ behind_in (number_of m s) last = c.behind_in-behind.ensures
    ∙ ap (λ n. behind_in n last) c.number.ensures in
    let l : listed_in c.window-window.result c.runs-runs.result.now ≡ listed_at (shown_by m) s t =
    listed_there (shown_by m) s t c.runs-runs.result.now c.window-window.result c.runs-runs.ensures.content c.window-window.ensures in
    let new : later_listed c.end_in-end.result (listed_in c.window-window.result c.runs-runs.result.now)
    ≡ later_listed (end_in (m.place + s) last) (listed_at (shown_by m) s t) = rw (c.end_in-end.ensures, l) refl in
    let many = counted_there (shown_by m) s t _ _ c.runs-runs.ensures.content c.window-window.ensures c.count.result
    (c.requires.can.counted s t c.requires.section c.requires.track) c.count.ensures in
    let same : c.of.result.timeline ≡ c.runs-runs.result.now = ap (λ (q : PrintedRest). q.timeline) c.of.ensures in
    record {
      runs = c.runs-runs.ensures.content ∙ ap (λ (tl : SegmentTimeline). Some tl) (sym same);
      left = c.of.ensures ∙ ap (λ xs. left_to_make c.behind_in-behind.result (10 ^ m.digits) c.runs-runs.result.now xs) new
          ∙ rw (b, same) refl;
      count = c.count_from-count.ensures ∙ ap (λ xs. length xs) c.begin_at.ensures ∙ ap (λ xs. length xs) new;
      before = omega (arith, c.saturating_sub.ensures, c.unwrap_or.ensures, many, ap (λ xs. length xs) l);
    }
