use Rattle.hls_follow.proofs.timed_round.place_timed.Goals as goal
use Rattle.std.proofs.{Common.{◌≡◌, ℕ, All, length, map, ap, ◌∙◌, subst}, lemmas.List.length-map}
use Rattle.hls_presentation.specs.Views.{source_of}
use Rattle.dash_writer.specs.declared.live.LivePeriod.{LivePeriod}
use Rattle.hls_follow.proofs.{Bounded.early_with, Placing.{bounded_stretches, many_stretches}}

pub runs-requires-clause-bounded : goal.runs-requires-clause-bounded
runs-requires-clause-bounded g c =
    rw (c.deref.ensures.value ∙ c.in_ok-tracks.ensures)
    (bounded_stretches c.formers_of.result.now 0 (map source_of c.args.kept.now) c.requires.bounded)

pub mpd_of-requires-clause-filled : goal.mpd_of-requires-clause-filled
mpd_of-requires-clause-filled g c =
    let kept = c.args.kept.now in
    subst (λ (n : ℕ). All (λ (p : LivePeriod). length p.runs ≡ n) c.in_ok-periods.periods)
    (ap length (c.deref.ensures.value ∙ c.in_ok-tracks.ensures) ∙ many_stretches c.formers_of.result.now 0 (map source_of kept)
    ∙ length-map kept source_of)
    c.in_ok-periods.ensures.filled

pub returns-clause-sound : goal.returns-clause-sound
returns-clause-sound g c = record {
  early = early_with (map source_of c.args.kept.now) _ c.requires.bounded;
  live = c.in_ok-mpd.ensures.live;
  scaled = rw c.in_ok-mpd.ensures.listed c.in_ok-periods.ensures.scaled;
}
