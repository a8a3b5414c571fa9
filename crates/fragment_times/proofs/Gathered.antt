-- What some things give one after another.
use Rattle.std.proofs.Common.{◌≡◌, ◌<◌, ◌+◌, ℕ, List, [], ◌∷◌, ◌++◌, Result, Ok, Err, IfSome, append-nil, append_assoc, refl, sym, ap}
use Rattle.std.proofs.Common.{◌∙◌}
use Rattle.std.specs.List.{range_with_len}
use Rattle.bridge_io.specs.Answer.{and_then, gathered}
use Rattle.presentation.proofs.{Counts.{from_on, from_on-end, from_on-first, from_on-start}, Printing.if_some}
use Rattle.fragment_times.specs.{declared.fault.TimesFault.TimesFault, Refusals.refusal, Times.{alone, behind}}

behind_both : {X : Type 0} (former xs : List X) (told : Result (List X) TimesFault)
    → behind former (and_then told (λ later. Ok (xs ++ later))) ≡ behind (former ++ xs) told
behind_both former xs (Ok later) = ap Ok (sym (append_assoc former xs later))
behind_both former xs (Err _) = refl

behind_by : {X : Type 0} (former : List X) (first later : Result (List X) TimesFault)
    → behind former (and_then first (λ xs. and_then later (λ ys. Ok (xs ++ ys)))) ≡ and_then (behind former first) (λ new. behind new later)
behind_by former (Ok xs) later = behind_both former xs later
behind_by former (Err _) later = refl

-- one that is told comes behind what was there
pub one_told : {X : Type 0} (former : List X) (told : Result X TimesFault) (x : X) → told ≡ Ok x
    → behind former (alone told) ≡ Ok (former ++ x ∷ [])
one_told former told x is = rw is refl

pub one_refused : {X : Type 0} (former : List X) (told : Result X TimesFault) (fault : TimesFault)
    → IfSome (refusal fault) (λ f. told ≡ Err f) → IfSome (refusal fault) (λ f. behind former (alone told) ≡ Err f)
one_refused former told fault is = if_some (refusal fault) _ _ (λ f e. rw e refl) is

-- what is told so far, then of one thing, and then of those behind it
module _ {X Y : Type 0} (give : X → Result (List Y) TimesFault) (x : X) (xs : List X) (former : List Y) (all : Result (List Y) TimesFault)
    (so_far : behind former (gathered give (x ∷ xs)) ≡ all) where
  goes_on : and_then (behind former (give x)) (λ new. behind new (gathered give xs)) ≡ all
  goes_on = sym (behind_by former (give x) (gathered give xs)) ∙ so_far

  pub next_told : (new : List Y) → behind former (give x) ≡ Ok new → behind new (gathered give xs) ≡ all
  next_told new is = sym (ap (λ told. and_then told (λ new. behind new (gathered give xs))) is) ∙ goes_on

  pub next_refused : (fault : TimesFault) → IfSome (refusal fault) (λ f. behind former (give x) ≡ Err f)
      → IfSome (refusal fault) (λ f. all ≡ Err f)
  next_refused fault is =
      if_some (refusal fault) _ _ (λ f e. sym goes_on ∙ ap (λ told. and_then told (λ new. behind new (gathered give xs))) e) is

-- of the places from one on
module _ {Y : Type 0} (give : ℕ → Result (List Y) TimesFault) (n : ℕ) (former : List Y) where
  pub from_first : behind former (gathered give (from_on 0 n)) ≡ behind former (gathered give (range_with_len 0 n))
  from_first = ap (λ xs. behind former (gathered give xs)) (from_on-start n)

  pub from_next : (i : ℕ) → i < n → (all : Result (List Y) TimesFault) → behind former (gathered give (from_on i n)) ≡ all
      → behind former (gathered give (i ∷ from_on (i + 1) n)) ≡ all
  from_next i within all so_far = sym (ap (λ xs. behind former (gathered give xs)) (from_on-first i n within)) ∙ so_far

  pub from_last : (i : ℕ) → i ≡ n → (all : Result (List Y) TimesFault) → behind former (gathered give (from_on i n)) ≡ all → all ≡ Ok former
  from_last i last all so_far =
      sym so_far ∙ ap (λ i. behind former (gathered give (from_on i n))) last
      ∙ ap (λ xs. behind former (gathered give xs)) (from_on-end n) ∙ ap Ok (append-nil former)
