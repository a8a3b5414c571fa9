use Rattle.std.proofs.Common.{◌≡◌, ◌-◌, take, Some, None, lit<, sym, ap, ◌∙◌, arith}
use Rattle.std.proofs.lemmas.Str.Pattern.{rfind_char}
use Rattle.page_server.proofs.Paths.{folder_at, no_folder}
use Rattle.page_server.proofs.wanted.folder_of.Goals as goal

pub returns-in-None : goal.returns-in-None
returns-in-None c = sym (no_folder c.args.file.now (rfind_char 47 c.args.file.now None c.in-None.ensures.cases (lit< tt)))

pub returns-in-Some : goal.returns-in-Some
returns-in-Some c =
    let text = c.args.file.now in
    let found = rfind_char 47 text (Some c.in-Some.slash) c.in-Some.ensures.cases (lit< tt) in
    let end : c.in-Some.slash - 0 ≡ c.in-Some.slash = omega arith in
    ap Some (c.range.ensures.value ∙ ap (λ n. take n text) end) ∙ sym (folder_at text c.in-Some.slash found.0 found.1 found.2)
