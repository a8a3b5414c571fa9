use Rattle.mpd_profile.specs.declared.parent.Parent as parents
use Rattle.mpd_profile.proofs.visit.Visit.feature_by_name.Goals as goal
use Rattle.std.proofs.Common.{◌≡◌, Option, Some, Bor, ◌∙◌, ap, List, ℕ, Bool}
use Rattle.std.specs.Prelude.{option_map}
use Rattle.mpd_profile.specs.{declared.feature.Feature.Feature, Features.{feature_if, is_second, parent_feature}, Passes.parent_shown}
use Rattle.mpd_profile.proofs.Untold.{short_untold}
use Rattle.mpd_tree.specs.{Nodes.element_of, Trees.Head}

named : (o : Option (Bor parents.Parent)) (parent : Bor parents.Parent) (before : List Head) (said name : List ℕ) (second : Bool)
    (feature : Option Feature)
    → o ≡ Some parent → said ≡ name → second ≡ is_second before said → feature ≡ feature_if parent.now.listed second said
    → feature ≡ parent_feature (option_map (λ (p : Bor parents.Parent). parent_shown p.now) o) before name
named o parent before said name second feature is says two by_name =
    rw (is, ← says) (by_name ∙ ap (λ b. feature_if parent.now.listed b said) two)

pub returns-in-Some : goal.returns-in-Some
returns-in-Some c = λ before behind.
    named c.args.self.now.parent c.in-Some.parent before c.name-name.result.now
    (element_of c.args.self.now.node).head.name c.is_second.result c.element_feature.result
    c.in-Some.is c.name-name.ensures (c.is_second.ensures c.args.self.now.dynamic before behind) c.element_feature.ensures

pub returns-then-is_short : goal.returns-then-is_short
returns-then-is_short c = λ before behind.
    short_untold (element_of c.args.self.now.node).head.name (rw (c.is_short.ensures, c.name-name.ensures) at c.if-is_short.true) _ before
