-- The segments of a listing one after another.
use Rattle.std.proofs.{Common.{◌≡◌, List, [], ◌∷◌, ◌++◌, map, All, Option, Some, None, true, false, refl, ap, ◌∙◌}, lemmas.List.Elements.All-tail}
use Rattle.std.specs.{List.list_all, Prelude.{is_none, is_some}}
use Rattle.url_parts.specs.{declared.address.Part.Part, declared.range.Range.Range}
use Rattle.timeline.specs.Listed.{IsDone, IsMade, Made, Rest}
use Rattle.presentation.specs.Laws.{HasAddress}
use Rattle.dash_writer.specs.{Elements.Element, Forms.is_whole, Lists.parts_of, Segments.segment_url, Written.{element_text, elements_text}}
use Rattle.dash_writer.proofs.Nodes.{elements-cons}

abbrev pub parts_left : Rest → List Part
parts_left rest = parts_of rest.timeline rest.left

abbrev pub urls_left : Rest → List Element
urls_left rest = map segment_url (parts_left rest)

pub first_part : (old new : Rest) (made : Made) → IsMade old made new → parts_left old ≡ made.part ∷ parts_left new
first_part old new made next = rw (next.next, next.part, next.timeline) refl

pub next_url : (old new : Rest) (made : Made) → IsMade old made new
    → elements_text (urls_left old) ≡ element_text (segment_url made.part) ++ elements_text (urls_left new)
next_url old new made next = ap (λ parts. elements_text (map segment_url parts)) (first_part old new made next)
    ∙ elements-cons (segment_url made.part) (urls_left new)

pub no_url : (old new : Rest) → IsDone old new → elements_text (urls_left old) ≡ []
no_url old new done = rw done.none refl

pub still_addressed : (old new : Rest) (made : Made) → IsMade old made new → All (HasAddress old.timeline) old.left
    → All (HasAddress new.timeline) new.left
still_addressed old new made next all = rw next.timeline (All-tail (HasAddress old.timeline) made.times new.left (rw next.next at all))

no_range : (range : Option Range) → is_some range ≡ false → is_none range ≡ true
no_range None none = refl
no_range (Some range) none = absurd (cc)

-- a first file that isn't a byte range
pub first_whole : (part : Part) (parts : List Part) → is_some part.range ≡ false
    → list_all is_whole (part ∷ parts) ≡ list_all is_whole parts
first_whole part parts none = rw (no_range part.range none) refl
