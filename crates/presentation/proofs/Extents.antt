-- How long the listed segments last.
use Rattle.std.proofs.Common.{◌≡◌, ℕ, List, length, take, Some, Ok, IfSome, refl, sym, ◌∙◌, ap, subst, []}
use Rattle.std.specs.Option.{option_map_or}
use Rattle.timeline.specs.{declared.window.Window.Window, Expansions.Timing, Listed.{IsReached, answered_count, listed, listed_from}}
use Rattle.timeline.specs.Listed.{expansion}
use Rattle.presentation.specs.{declared.parts.Content.Content, Presented.{Presented, window_of, content_at, listed_at, listed_in}}
use Rattle.presentation.specs.{Counting.count_at, Printing.IsCounted}
use Rattle.presentation.proofs.Printing.{all_listed}

module _ (p : Presented) (s t : ℕ) (content : Content) (is : content_at p s t ≡ Some content) where
  pub listed_of : listed_at p s t ≡ listed_in (window_of p s) content.runs
  listed_of = rw is refl

  pub listed_there : (window : Window) → window ≡ window_of p s → listed_at p s t ≡ listed_in window content.runs
  listed_there window same = listed_of ∙ ap (λ w. listed_in w content.runs) (sym same)

  -- what is so of what is there, and of its listed segments
  pub at_content : (Q : Content → List Timing → Type 0) → (window : Window) → window ≡ window_of p s
      → Q content (listed_in window content.runs) → IfSome (content_at p s t) (λ there. Q there (listed_at p s t))
  at_content Q window same holds = subst (λ o. IfSome o (λ there. Q there (listed_at p s t))) (sym is)
      (subst (Q content) (sym (listed_there window same)) holds)

  -- what is counted in its window
  pub answered_at : (window : Window) → window ≡ window_of p s → count_at p t s ≡ answered_count content.runs window
  answered_at window same = ap (λ o. option_map_or (λ content. answered_count content.runs (window_of p s)) o (Ok 0)) is
      ∙ ap (answered_count content.runs) (sym same)

  pub reached_of : IsCounted p s t → IsReached content.runs (window_of p s)
  reached_of counted = rw is at counted

  pub count_of : IsCounted p s t → answered_count content.runs (window_of p s) ≡ Ok (length (listed_at p s t))
  count_of counted = let reached = reached_of counted in rw reached (ap (λ xs. Ok (length xs)) (sym listed_of))

  pub listed_behind : (place : ℕ) → listed (window_of p s) (take place (expansion content.runs (window_of p s))) ≡ []
      → listed_at p s t ≡ listed_from place content.runs (window_of p s)
  listed_behind place none = listed_of ∙ sym (all_listed (window_of p s) (expansion content.runs (window_of p s)) place none)
