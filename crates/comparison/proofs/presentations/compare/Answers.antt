use Rattle.std.proofs.Common.{◌≡◌, ◌^◌, ◌∙◌, IfOk, Option, ap, subst, sym}
use Rattle.std.specs.Option.{option_or}
use Rattle.meaning.specs.declared.difference.Difference.{Difference}
use Rattle.comparison.specs.Comparing.{contents_difference}
use Rattle.comparison.proofs.Opened.{opened}
use Rattle.comparison.proofs.presentations.compare.Goals as goal

pub returns-in-Some : goal.returns-in-Some
returns-in-Some g c =
    let a = c.args.mpd.now in let b = c.args.playlists.now in let unit = 10 ^ c.args.digits in
    sym (opened unit a b c.requires ∙ ap (λ heads. option_or heads (contents_difference unit a b)) (sym c.heads_difference.ensures
    ∙ c.in-Some.is))

pub returns : goal.returns
returns g c =
    let a = c.args.mpd.now in let b = c.args.playlists.now in let unit = 10 ^ c.args.digits in
    let same = opened unit a b c.requires ∙ ap (λ heads. option_or heads (contents_difference unit a b)) (sym c.heads_difference.ensures
    ∙ c.in_default.is) in
    subst (λ (d : Option Difference). IfOk c.difference.result (λ found. found ≡ d)) (sym same) c.difference.ensures
