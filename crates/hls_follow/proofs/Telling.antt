-- What is told one after another, where media files are read.
use Rattle.fragment_times.specs.declared.fault.TimesFault.TheVariants as times
use Rattle.layer_faults.specs.declared.live.LiveFault.TheVariants as live
use Rattle.std.proofs.Common.{◌≡◌, List, [], ◌∷◌, ◌++◌, Result, Ok, Err, IfSome, append-nil, append_assoc, refl, sym, ◌∙◌, ap}
use Rattle.std.proofs.lemmas.Option.{IfSome_then}
use Rattle.bridge_io.specs.Answer.{and_then}
use Rattle.layer_faults.specs.declared.live.LiveFault.{LiveFault}
use Rattle.fragment_times.specs.{declared.fault.TimesFault.TimesFault, Refusals.refusal}
use Rattle.hls_follow.specs.{declared.timed_fault.TimedFault.TimedFault, declared.timed_fault.TimedFault.TheVariants.{Live, Times}}
use Rattle.hls_follow.specs.{Faults.told, OwnTimes.{alone, behind, of_live, of_times, timed_told}}

-- an error of a file, or of playlists
pub file_refused : {X : Type 0} (given : Result X TimesFault) (fault : TimesFault) → IfSome (refusal fault) (λ f. given ≡ Err f)
    → IfSome (timed_told (Times fault)) (λ f. of_times given ≡ Err f)
file_refused given times.Memory is = tt
file_refused given times.Fault is = tt
file_refused given other is = rw is refl

pub list_refused : {X : Type 0} (given : Result X LiveFault) (fault : LiveFault) → IfSome (told fault) (λ f. given ≡ Err f)
    → IfSome (timed_told (Live fault)) (λ f. of_live given ≡ Err f)
list_refused given live.Memory is = tt
list_refused given other is = rw is refl

-- a step that is refused refuses what stands behind it
pub step_refused : {X Y : Type 0} (given : Result X TimedFault) (next : X → Result Y TimedFault) (fault : TimedFault)
    → IfSome (timed_told fault) (λ f. given ≡ Err f) → IfSome (timed_told fault) (λ f. and_then given next ≡ Err f)
step_refused given next fault is = IfSome_then (timed_told fault) is (λ f e. rw e refl)

-- ---- behind what was told

both : {X : Type 0} (former xs : List X) (others : Result (List X) TimedFault)
    → behind former (and_then others (λ later. Ok (xs ++ later))) ≡ behind (former ++ xs) others
both former xs (Ok later) = ap Ok (sym (append_assoc former xs later))
both former xs (Err _) = refl

behind_by : {X : Type 0} (former : List X) (first others : Result (List X) TimedFault)
    → behind former (and_then first (λ xs. and_then others (λ ys. Ok (xs ++ ys))))
    ≡ and_then (behind former first) (λ new. behind new others)
behind_by former (Ok xs) others = both former xs others
behind_by former (Err _) others = refl

pub behind_nothing : {X : Type 0} (others : Result (List X) TimedFault) → behind [] others ≡ others
behind_nothing (Ok xs) = refl
behind_nothing (Err _) = refl

pub behind_all : {X : Type 0} (former : List X) → behind former (Ok []) ≡ Ok former
behind_all former = ap Ok (append-nil former)

module _ {X : Type 0} (former : List X) (all : Result (List X) TimedFault) where
  -- one member, and then the others
  pub one_more : (first : Result X TimedFault) (others : Result (List X) TimedFault)
      → behind former (and_then first (λ x. and_then others (λ xs. Ok (x ∷ xs)))) ≡ all
      → (x : X) → first ≡ Ok x → behind (former ++ x ∷ []) others ≡ all
  one_more first others so_far x is =
      sym (both former (x ∷ []) others)
      ∙ ap (λ given. behind former (and_then given (λ x. and_then others (λ xs. Ok (x ∷ xs))))) (sym is) ∙ so_far

  pub one_refused : (first : Result X TimedFault) (others : Result (List X) TimedFault)
      → behind former (and_then first (λ x. and_then others (λ xs. Ok (x ∷ xs)))) ≡ all
      → (fault : TimedFault) → IfSome (timed_told fault) (λ f. first ≡ Err f) → IfSome (timed_told fault) (λ f. all ≡ Err f)
  one_refused first others so_far fault is =
      IfSome_then (timed_told fault) is (λ f e. sym so_far
      ∙ ap (λ given. behind former (and_then given (λ x. and_then others (λ xs. Ok (x ∷ xs))))) e)

  -- some members, and then the others
  pub more : (first others : Result (List X) TimedFault)
      → behind former (and_then first (λ xs. and_then others (λ ys. Ok (xs ++ ys)))) ≡ all
      → (new : List X) → behind former first ≡ Ok new → behind new others ≡ all
  more first others so_far new is =
      sym (ap (λ given. and_then given (λ new. behind new others)) is) ∙ sym (behind_by former first others) ∙ so_far

  pub refused : (first others : Result (List X) TimedFault)
      → behind former (and_then first (λ xs. and_then others (λ ys. Ok (xs ++ ys)))) ≡ all
      → (fault : TimedFault) → IfSome (timed_told fault) (λ f. behind former first ≡ Err f) → IfSome (timed_told fault) (λ f. all ≡ Err f)
  refused first others so_far fault is =
      IfSome_then (timed_told fault) is (λ f e. sym so_far ∙ behind_by former first others
      ∙ ap (λ given. and_then given (λ new. behind new others)) e)

-- one that is told alone
pub alone_told : {X : Type 0} (former : List X) (given : Result X TimedFault) (x : X) → given ≡ Ok x
    → behind former (alone given) ≡ Ok (former ++ x ∷ [])
alone_told former given x is = rw is refl

pub alone_refused : {X : Type 0} (former : List X) (given : Result X TimedFault) (fault : TimedFault)
    → IfSome (timed_told fault) (λ f. given ≡ Err f) → IfSome (timed_told fault) (λ f. behind former (alone given) ≡ Err f)
alone_refused former given fault is = IfSome_then (timed_told fault) is (λ f e. rw e refl)
