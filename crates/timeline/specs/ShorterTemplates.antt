-- Templates of segment names with shorter texts between the identifiers.
use Rattle.std.specs.Prelude.{◌≡◌, ℕ, Bool, false, List, ◌++◌}
use Rattle.std.specs.List.{list_any}
use Rattle.template_ids.specs.{declared.ids.Ids.Ids, Templates.{is_dollar, named}}
use Rattle.timeline.specs.Makers.{IsShortened}

-- each name of the one stands for that of the other one: as a part of a path, or as a part of any reference
abbrev pub AreNamesShortened : (in_path : Bool) → (media short : List ℕ) → Type 0
AreNamesShortened in_path media short = (ids : Ids) → IsShortened in_path (named media ids) (named short ids)

abbrev pub HasNoDollar : List ℕ → Type 0
HasNoDollar text = list_any is_dollar text ≡ false

-- a text with a literal more that stands for this one
pub record HasLiteral (in_path : Bool) (literal before after : List ℕ) : Type 0 where
  pub added : List ℕ
  pub whole : after ≡ before ++ added
  pub alike : IsShortened in_path literal added
  pub plain : HasNoDollar added
