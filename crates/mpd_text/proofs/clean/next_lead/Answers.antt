use Rattle.mpd_text.proofs.clean.next_lead.Goals as goal
use Rattle.std.proofs.Common.{arith, ◌-◌, length-drop}
use Rattle.mpd_text.proofs.BadLemmas.{none_here}

pub returns-in-Some : goal.returns-in-Some
returns-in-Some c = (
  omega arith,
  grind (arith, length-drop c.args.from c.args.bytes.now, c.in-Some.ensures),
  λ j low high. none_here _ _ c.args.from j c.split_at.ensures.back low
      (λ within. c.in-Some.ensures.0.before (j - c.args.from) (omega arith) (omega arith)),
)

pub returns-in-None : goal.returns-in-None
returns-in-None c j low = none_here _ _ c.args.from j c.split_at.ensures.back low (c.in-None.ensures (j - c.args.from) (omega arith))
