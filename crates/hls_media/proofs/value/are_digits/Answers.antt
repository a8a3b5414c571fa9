use Rattle.hls_media.proofs.value.are_digits.Goals as goal
use Rattle.std.proofs.{Common.{◌∙◌, ◌&&◌, refl, rules, tests}, lemmas.Iterator.YieldsList-from_slice}
use Rattle.std.proofs.{lemmas.Iterator.Search.all_from_yields_List, lemmas.List.Recursion.same_from_clauses}
use Rattle.std.specs.{Char.is_ascii_digit, List.list_all, Str.all_ascii_digits}

pub returns : goal.returns
returns c =
    all_from_yields_List is_ascii_digit _ _ _ c.all.ensures.ran (YieldsList-from_slice c.args.bytes.now cc)
    (λ x b q k. search (rules, tests))
    ∙ same_from_clauses (list_all is_ascii_digit) all_ascii_digits (λ byte others. is_ascii_digit byte && others) refl (λ _ _. refl)
    (λ _ _. refl) c.args.bytes.now
