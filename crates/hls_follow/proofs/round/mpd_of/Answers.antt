use Rattle.hls_follow.proofs.round.mpd_of.Goals as goal
use Rattle.std.proofs.{Common.{◌≡◌, ℕ, All, length, ap, sym, ◌∙◌, subst, arith}, lemmas.Int.ints, lemmas.List.length-map}
use Rattle.dash_writer.specs.declared.live.LivePeriod.{LivePeriod}

pub returns-clause-live : goal.returns-clause-live
returns-clause-live c = record {
  start = c.in_ok-start.ensures.writable;
  published = (omega (arith, ints), omega (arith, ints));
  filled = subst (λ (n : ℕ). All (λ (period : LivePeriod). length period.runs ≡ n) c.args.periods)
      (sym (ap length c.in_ok-tracks.ensures ∙ length-map _ _ ∙ length-map _ _)) c.requires.filled;
}
