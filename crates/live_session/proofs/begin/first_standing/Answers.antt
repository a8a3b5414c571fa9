use Rattle.live_session.proofs.begin.first_standing.Goals as goal
use Rattle.std.proofs.Common.{◌∙◌, ◌≡◌, [], List, ap, refl}
use Rattle.mpd_rules.specs.Laws.{are_once}
use Rattle.live_meaning.specs.{Known.{Known, ids_of, known_with, periods_of}, Removal.target_of}
use Rattle.live_judge.proofs.FirstStates.{all_new}
use Rattle.live_session.proofs.Beginning.{first_known}

pub extend-requires : goal.extend-requires
extend-requires c =
    let p = c.args.opened in
    ap (λ (ks : List Known). are_once (ids_of ks))
    (first_known p _ _ c.new-known.ensures c.in_ok-periods.ensures ∙ all_new (periods_of p)) ∙ c.requires.once

pub returns : goal.returns
returns c =
    let p = c.args.opened in
    let known : c.extend.new.self ≡ known_with [] p = c.in_ok-extend.ensures.ok
    ∙ first_known p _ _ c.new-known.ensures c.in_ok-periods.ensures in
    let target = c.target_of.ensures.target in
    record {
      common = rw (c.in_ok-copy.ensures, c.publish_time.ensures, known, target, c.max_segment.ensures, c.requires.looked) refl;
      place = refl;
      start = c.start_of.ensures.start;
      readable = c.start_of.ensures.readable;
      target = c.target_of.ensures.low;
    }
