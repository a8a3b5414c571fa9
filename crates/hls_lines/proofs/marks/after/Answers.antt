use Rattle.std.proofs.Common.{Option, Bor, List, ℕ, ◌≡◌, option_map, Some, None, MatchOption, ◌≢◌, ◌∷◌}
use Rattle.std.proofs.lemmas.Str.Pattern.{strip_prefix_char}
use Rattle.hls_lines.specs.Marks.{after_mark}
use Rattle.hls_lines.proofs.ScanLemmas.{after_found, after_none}
use Rattle.hls_lines.proofs.marks.after.Goals as goal

told : (mark : ℕ) (text : List ℕ) (r : Option (Bor (List ℕ)))
    → MatchOption r ((rest : List ℕ) → text ≢ mark ∷ rest) (λ x. text ≡ mark ∷ x.now)
    → option_map (λ rest. rest.now) r ≡ after_mark mark text
told mark text None h = after_none mark text h
told mark text (Some x) h = after_found mark text x.now h

pub returns : goal.returns
returns c = told c.args.mark c.args.text.now _ (strip_prefix_char c.args.mark c.args.text.now _ c.strip_prefix.ensures.cases c.requires)
