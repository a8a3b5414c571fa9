use Rattle.std.proofs.Common.{◌≡◌, ap, sym, ◌∙◌}
use Rattle.std.proofs.Math.{Logic.∥∥₁_elim, Nat.ℕ_set}
use mathlib.Core.List.{is_set}
use Rattle.page_server.specs.Pages.{Page-set}
use Rattle.page_server.proofs.SameFiles.{same_manifest}
use Rattle.page_server.proofs.workshop.Workshop.has.Goals as goal

pub returns-in-Some : goal.returns-in-Some
returns-in-Some g c = λ is file.
    let holds = g.M.Maker.holds c.args.self.now.maker file in
    let page = (g.M.Maker.making c.args.self.now.maker).page_of in
    let kept = c.in-Some.kept in
    let same = same_manifest kept.manifest c.args.manifest.now (sym c.is_same.ensures ∙ is) in
    let made : holds ≡ page kept.manifest file =
    ∥∥₁_elim (rw c.in-Some.is at c.args.self.now.right) (Page-set (is_set ℕ_set) holds (page kept.manifest file))
    (λ right. right.0 file) in
    made ∙ ap (λ m. page m file) same
