use Rattle.url_parts.proofs.base.folder_of.Goals as goal
use Rattle.std.proofs.{Common.{◌≡◌, ◌+◌, ◌-◌, take, Some, None, lit<, sym, ap, ◌∙◌, arith}, lemmas.Str.Pattern.rfind_char}
use Rattle.url_parts.proofs.Relative.{through_slash_at, through_no_slash}
use Rattle.url_parts.specs.Addresses.{folder_of, through_last_slash}

pub returns-in-None : goal.returns-in-None
unfolding folder_of
returns-in-None c =
    let none = rfind_char 47 c.without_tail-path.result.now None c.in-None.ensures.cases (lit< tt) in
    sym (ap through_last_slash (sym c.without_tail-path.ensures) ∙ through_no_slash _ none)

pub returns-in-Some : goal.returns-in-Some
unfolding folder_of
returns-in-Some c =
    let path = c.without_tail-path.result.now in
    let found = rfind_char 47 path (Some c.in-Some.slash) c.in-Some.ensures.cases (lit< tt) in
    let cut = through_slash_at path c.in-Some.slash found.0 found.1 found.2 in
    let end : c.in-Some.slash + 1 - 0 ≡ c.in-Some.slash + 1 = omega arith in
    c.range.ensures.value ∙ ap (λ n. take n path) end ∙ sym cut ∙ ap through_last_slash c.without_tail-path.ensures
