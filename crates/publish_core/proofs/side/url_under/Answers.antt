use Rattle.std.proofs.Common.{◌≡◌, ℕ, List, IfOk, ◌∙◌, subst}
use Rattle.bridge_report.specs.Bases.{folder_url}
use Rattle.publish_core.proofs.side.url_under.Goals as goal

pub returns : goal.returns
returns c = subst (λ (text : List ℕ). IfOk c.folder_url.result (λ url. url ≡ folder_url text)) (c.as_str.ensures ∙ c.in_ok-text.ensures)
    c.folder_url.ensures
