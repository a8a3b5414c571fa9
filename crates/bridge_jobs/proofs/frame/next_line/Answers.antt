use Rattle.bridge_jobs.proofs.frame.next_line.Goals as goal
use Rattle.std.proofs.Common.{◌≡◌, ◌∙◌, ◌<◌, ◌==◌, ℕ, List, [], ◌∷◌, length, true, false, Some, ap, sym, refl, arith}
use Rattle.std.proofs.lemmas.Bool.Decides.{nat_tests}
use Rattle.std.proofs.lemmas.Result.{err_from_is_err_and}
use Rattle.bridge_jobs.proofs.Left.{line_left}
use Rattle.bridge_jobs.proofs.Reading.{next_none, next_some, next_too_many}

empty : (xs : List ℕ) → (length xs == 0) ≡ true → xs ≡ []
empty [] is = refl
empty (x ∷ xs) is = let zero_is : length (x ∷ xs) ≡ 0 = grind (arith, nat_tests) in absurd (omega arith)

some : (xs : List ℕ) → (length xs == 0) ≡ false → 0 < length xs
some xs is = grind (arith, nat_tests)

pub returns-then-is_empty-clause-line : goal.returns-then-is_empty-clause-line
returns-then-is_empty-clause-line g c = λ bytes told.
    let taken = c.in_ok-line.ensures.bytes bytes told in
    let none = empty c.in_ok-line.line (sym c.is_empty.ensures ∙ c.if-is_empty.true) in
    (taken.1, taken.2, next_none c.args.most c.args.at bytes c.in_ok-line.line taken.1 c.requires taken.0 taken.3 none)

pub returns-then-at-eq-MAX_FRAMES-clause-line : goal.returns-then-at-eq-MAX_FRAMES-clause-line
returns-then-at-eq-MAX_FRAMES-clause-line g c = λ bytes told.
    let taken = c.in_ok-line.ensures.bytes bytes told in
    let more = some c.in_ok-line.line (sym c.is_empty.ensures ∙ c.if-is_empty.false) in
    next_too_many c.args.most c.args.at bytes c.in_ok-line.line taken.0 more c.if-at-eq-MAX_FRAMES.true

pub returns-clause-line : goal.returns-clause-line
returns-clause-line g c = λ bytes told.
    let taken = c.in_ok-line.ensures.bytes bytes told in
    let more = some c.in_ok-line.line (sym c.is_empty.ensures ∙ c.if-is_empty.false) in
    (taken.1, taken.2, next_some c.args.most c.args.at bytes c.in_ok-line.line taken.1 taken.0 taken.3 more c.if-at-eq-MAX_FRAMES.false)

pub returns-in_err-line-clause-left : goal.returns-in_err-line-clause-left
returns-in_err-line-clause-left g c = λ bytes told.
    let fault = err_from_is_err_and c.from_residual.result c.from_residual.ensures.1 in
    rw (fault.1, fault.2) (c.in_err-line.ensures.fails bytes told)

pub returns-then-is_empty-clause-left : goal.returns-then-is_empty-clause-left
returns-then-is_empty-clause-left g c = λ bytes told.
    let taken = c.in_ok-line.ensures.bytes bytes told in
    taken.2 ∙ ap Some (line_left c.args.most bytes c.in_ok-line.line taken.1 taken.0 taken.3)

pub returns-then-at-eq-MAX_FRAMES-clause-left : goal.returns-then-at-eq-MAX_FRAMES-clause-left
returns-then-at-eq-MAX_FRAMES-clause-left g c = λ bytes told.
    let taken = c.in_ok-line.ensures.bytes bytes told in
    taken.2 ∙ ap Some (line_left c.args.most bytes c.in_ok-line.line taken.1 taken.0 taken.3)

pub returns-clause-left : goal.returns-clause-left
returns-clause-left g c = λ bytes told.
    let taken = c.in_ok-line.ensures.bytes bytes told in
    taken.2 ∙ ap Some (line_left c.args.most bytes c.in_ok-line.line taken.1 taken.0 taken.3)
