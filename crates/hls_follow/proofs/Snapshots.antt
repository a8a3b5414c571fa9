-- What is known of a checked snapshot.
use Rattle.std.proofs.Common.{ℕ, Bool, true, false, cond, eqb, List, [], ◌∷◌, All, Option, Some, IfSome}
use Rattle.std.proofs.lemmas.List.Elements.{All-head, All-tail}
use Rattle.dash_writer.specs.declared.live.LivePeriod.{LivePeriod}
use Rattle.hls_follow.specs.{Kept.HasScales, OwnTimes.period_in}

-- ---- the Periods before

scaled_by : (is : Bool) (p : LivePeriod) (others : Option LivePeriod) → HasScales p → IfSome others HasScales
    → IfSome (cond is (Some p) others) HasScales
scaled_by true p others own are = own
scaled_by false p others own are = are

pub scaled_in : (number : ℕ) (periods : List LivePeriod) → All HasScales periods → IfSome (period_in number periods) HasScales
scaled_in number [] are = tt
scaled_in number (p ∷ periods) are =
    scaled_by (eqb p.number number) p (period_in number periods) (All-head HasScales p periods are)
    (scaled_in number periods (All-tail HasScales p periods are))
