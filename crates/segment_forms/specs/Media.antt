-- The media text of the SegmentTemplate of a pattern.
use Rattle.std.specs.Prelude.{◌≡◌, ℕ, ◌+◌, ◌<◌, ◌==◌, true, false, List, [], ◌∷◌, ◌++◌, length, take, drop, slice_index_or, flat_map}
use Rattle.std.specs.Prelude.{codes, decimal, if◌then◌else◌, Option, Some, None, Ok}
use Rattle.template_ids.specs.{declared.ids.Ids.Ids, Templates.{named, template_of, uses_number, uses_time}}
use Rattle.segment_forms.specs.{declared.pattern.Pattern.Pattern, Patterns.pattern_of}

-- a text with each `$` written twice
abbrev pub doubled : List ℕ → List ℕ
doubled text = flat_map (λ b. if b == 36 then codes "$$" else b ∷ []) text

-- the identifier of a number that is padded to a width, or isn't padded
abbrev pub number_identifier : ℕ → List ℕ
number_identifier w = if w == 0 then codes "$Number$" else codes "$Number%0" ++ (decimal w ++ codes "d$")

abbrev pub media_text : List ℕ → Pattern → List ℕ
media_text first p = doubled (take p.prefix_len first) ++ (number_identifier p.width ++ doubled (drop p.suffix_start first))

-- the media text of a list of addresses, or nothing where it has no pattern
abbrev pub media_if_some : List ℕ → Option Pattern → List ℕ
media_if_some first None = []
media_if_some first (Some p) = media_text first p

abbrev pub media_of : List (List ℕ) → List ℕ
media_of [] = []
media_of (first ∷ rest) = media_if_some first (pattern_of (first ∷ rest))

-- a text is a template with `$Number$` and without `$Time$`, which names each address by its number
pub record NamesEach (xs : List (List ℕ)) (first_number : ℕ) (media : List ℕ) : Type 0 where
  pub template : template_of media ≡ Ok media
  pub numbered : uses_number media ≡ true
  pub untimed : uses_time media ≡ false
  pub names : (ids : Ids) (k : ℕ) → k < length xs → ids.number ≡ first_number + k → named media ids ≡ slice_index_or xs k []

-- where a list has a pattern, its media text does
abbrev pub TemplatesName : Type 0
TemplatesName = (first : List ℕ) (rest : List (List ℕ)) (p : Pattern) → pattern_of (first ∷ rest) ≡ Some p
    → NamesEach (first ∷ rest) p.first_number (media_text first p)

-- a text with each `$` written twice is a template without numbers, which names the text
pub record NamesItself (text doubled_text : List ℕ) : Type 0 where
  pub template : template_of doubled_text ≡ Ok doubled_text
  pub unnumbered : uses_number doubled_text ≡ false
  pub untimed : uses_time doubled_text ≡ false
  pub names : (ids : Ids) → named doubled_text ids ≡ text

abbrev pub LiteralsName : Type 0
LiteralsName = (text : List ℕ) → NamesItself text (doubled text)
