-- What some things give one after another.
use Rattle.std.proofs.Common.{◌≡◌, Bool, true, false, List, [], ◌∷◌, ◌++◌, Result, Ok, Err, IfSome, refl, sym, ◌∙◌, ap, append_assoc}
use Rattle.std.proofs.{lemmas.List.append-nil, lemmas.Option.IfSome_then}
use Rattle.std.specs.List.{list_any}
use Rattle.bridge_io.specs.Answer.{and_then}
use Rattle.layer_faults.specs.declared.live.LiveFault.{LiveFault}
use Rattle.layer_faults.specs.declared.live.LiveFault.TheVariants.{Limit}
use Rattle.hls_follow.specs.{Faults.{behind, told}, Times.{TimedSegment, is_late, unless_late}}

-- a member more
pub behind_more : {X : Type 0} (before : List X) (x : X) (others : Result (List X) LiveFault)
    → behind before (and_then others (λ xs. Ok (x ∷ xs))) ≡ behind (before ++ x ∷ []) others
behind_more before x (Ok xs) = ap Ok (sym (append_assoc before (x ∷ []) xs))
behind_more before x (Err fault) = refl

pub behind_none : {X : Type 0} (before : List X) → behind before (Ok []) ≡ Ok before
behind_none before = ap Ok (append-nil before)

-- before some there is nothing
pub behind_nothing : {X : Type 0} (others : Result (List X) LiveFault) → behind [] others ≡ others
behind_nothing (Ok xs) = refl
behind_nothing (Err fault) = refl

-- ---- steps that may be refused

-- a step that gives a member, before others that depend on it
pub turn : {X : Type 0} (before : List X) (r : Result X LiveFault) (others : X → Result (List X) LiveFault) (x : X) → r ≡ Ok x
    → behind before (and_then r (λ x. and_then (others x) (λ xs. Ok (x ∷ xs)))) ≡ behind (before ++ x ∷ []) (others x)
turn before r others x is = rw is (behind_more before x (others x))

-- a step that is refused
pub stop : {X : Type 0} (before : List X) (r : Result X LiveFault) (next : X
    → Result (List X) LiveFault) (all : Result (List X) LiveFault) (fault : LiveFault)
    → IfSome (told fault) (λ f. r ≡ Err f) → behind before (and_then r next) ≡ all → IfSome (told fault) (λ f. all ≡ Err f)
stop before r next all fault refused so_far =
    IfSome_then (told fault) refused (λ f is. sym so_far ∙ (let h : behind before (and_then r next) ≡ Err f = rw is refl in h))

-- ---- segments that are late

late_by : (t : TimedSegment) (others : List TimedSegment) (late any : Bool) → is_late t ≡ late → list_any is_late others ≡ any
    → late ≡ false → unless_late (t ∷ others) ≡ and_then (unless_late others) (λ ts. Ok (t ∷ ts))
late_by t others true any is all none = absurd (cc)
late_by t others false true is all none = rw (is, all) refl
late_by t others false false is all none = rw (is, all) refl

-- a segment more that isn't late
pub in_time : (t : TimedSegment) (others : List TimedSegment) → is_late t ≡ false
    → unless_late (t ∷ others) ≡ and_then (unless_late others) (λ ts. Ok (t ∷ ts))
in_time t others is = late_by t others false (list_any is_late others) is refl refl

-- and one that is
pub too_late : (t : TimedSegment) (others : List TimedSegment) → is_late t ≡ true → unless_late (t ∷ others) ≡ Err Limit
too_late t others is = rw is refl
