-- The segments of a section one after another.
use Rattle.std.proofs.Common.{◌≡◌, ℕ, List, [], ◌∷◌, ◌++◌, All, Option, None, Some, Result, Ok, Err, IfSome, option_map, refl, sym, ap, ◌∙◌}
use Rattle.std.proofs.{Common.append_assoc, lemmas.List.map-append, lemmas.List.Concat.flat_map-append}
use Rattle.std.proofs.{lemmas.List.Elements.{All-head, All-tail}}
use Rattle.url_parts.specs.{Spelling.PlaylistPlace, declared.address.Part.Part}
use Rattle.timeline.specs.{Listed.part_of_timing, Expansions.Timing, Written.spelled_in, declared.fault.ListFault.ListFault}
use Rattle.presentation.specs.{Laws.HasAddress, Printing.{IsAtEnd, IsPassed, PrintedRest, PrintedTiming, printed_timings, rest_of}}
use Rattle.presentation.specs.declared.parts.Content.{Content}
use Rattle.std.specs.Option.{option_map_or}
use Rattle.hls_writer.specs.{Finished.{content_items, item_of, items_at}, Lines.{line_text, lines_text}, Playlists.{Item, item_lines}}
use Rattle.hls_writer.specs.{Playlists.{items_lines, last_section}, Spelled.{spelled_item, spelled_items, spelled_part}}

-- one more item is added to what goes on to a whole text
pub one_more : (digits : ℕ) (former : Option ℕ) (item : Item) (items : List Item) (done whole : List ℕ)
    → done ++ lines_text (items_lines digits former (item ∷ items)) ≡ whole
    → (done ++ lines_text (item_lines digits former item)) ++ lines_text (items_lines digits (Some item.section) items) ≡ whole
one_more digits former item items done whole goes =
    let rest = items_lines digits (Some item.section) items in
    append_assoc done (lines_text (item_lines digits former item)) (lines_text rest)
    ∙ ap (λ t. done ++ t) (sym (flat_map-append line_text (item_lines digits former item) rest)) ∙ goes

items_append : (digits : ℕ) (former : Option ℕ) (xs ys : List Item) → items_lines digits former (xs ++ ys)
    ≡ items_lines digits former xs ++ items_lines digits (last_section former xs) ys
items_append digits former [] ys = refl
items_append digits former (x ∷ xs) ys =
    ap (λ lines. item_lines digits former x ++ lines) (items_append digits (Some x.section) xs ys)
    ∙ sym (append_assoc (item_lines digits former x) (items_lines digits (Some x.section) xs)
    (items_lines digits (last_section (Some x.section) xs) ys))

-- some more items are added to what goes on to a whole text
pub more_items : (digits : ℕ) (former : Option ℕ) (xs ys : List Item) (done whole : List ℕ)
    → done ++ lines_text (items_lines digits former (xs ++ ys)) ≡ whole
    → (done ++ lines_text (items_lines digits former xs)) ++ lines_text (items_lines digits (last_section former xs) ys) ≡ whole
more_items digits former xs ys done whole goes =
    let later = items_lines digits (last_section former xs) ys in
    append_assoc done (lines_text (items_lines digits former xs)) (lines_text later)
    ∙ ap (λ t. done ++ t) (sym (flat_map-append line_text (items_lines digits former xs) later)
    ∙ ap lines_text (sym (items_append digits former xs ys))) ∙ goes

-- the same with their URLs as they are written
pub more_spelled : (place : Option PlaylistPlace) (digits : ℕ) (former : Option ℕ) (xs ys : List Item) (done whole : List ℕ)
    → done ++ lines_text (items_lines digits former (spelled_items place (xs ++ ys))) ≡ whole
    → (done ++ lines_text (items_lines digits former (spelled_items place xs)))
    ++ lines_text (items_lines digits (last_section former (spelled_items place xs)) (spelled_items place ys)) ≡ whole
more_spelled place digits former xs ys done whole goes =
    more_items digits former (spelled_items place xs) (spelled_items place ys) done whole
    (ap (λ items. done ++ lines_text (items_lines digits former items)) (sym (map-append (spelled_item place) xs ys)) ∙ goes)

spelled_of : (place : Option PlaylistPlace) (result : Result Part ListFault) (part : Part) → spelled_in place result ≡ Ok part
    → (own : Part) × ((result ≡ Ok own) × (spelled_part place own ≡ part))
spelled_of place (Ok own) part is = let same : spelled_part place own ≡ part = cc in (own, (refl, same))
spelled_of place (Err fault) part is = absurd (cc)

module _ (map : Part) (section : ℕ) (old new : PrintedRest) where
  abbrev pub left : PrintedRest → List Item
  left rest = items_at rest.timeline map section rest.left

  pub next_item : (times : Timing) (duration : ℕ) (part : Part) → IsPassed old times duration new
      → part_of_timing old.timeline times ≡ Ok part → left old ≡ item_of part map section duration ∷ left new
  next_item times duration part next has = rw (next.next, has, next.timeline) refl

  -- the same as the playlist has it
  pub next_spelled : (place : Option PlaylistPlace) (times : Timing) (duration : ℕ) (part : Part) → IsPassed old times duration new
      → spelled_in place (part_of_timing old.timeline times) ≡ Ok part
      → spelled_items place (left old) ≡ item_of part (spelled_part place map) section duration ∷ spelled_items place (left new)
  next_spelled place times duration part next has =
      let found = spelled_of place (part_of_timing old.timeline times) part has in
      ap (spelled_items place) (next_item times duration found.0 next found.1.0)
      ∙ ap (λ (p : Part). item_of p (spelled_part place map) section duration ∷ spelled_items place (left new)) found.1.1

  pub first_addressed : (times : Timing) (duration : ℕ) → IsPassed old times duration new
      → All (λ x. HasAddress old.timeline x.times) old.left → HasAddress old.timeline times
  first_addressed times duration next all =
      All-head (λ (x : PrintedTiming). HasAddress old.timeline x.times) (record { times = times; duration = duration }) new.left
      (rw next.next at all)

  pub still_addressed : (times : Timing) (duration : ℕ) → IsPassed old times duration new
      → All (λ x. HasAddress old.timeline x.times) old.left → All (λ x. HasAddress new.timeline x.times) new.left
  still_addressed times duration next all = rw next.timeline
      (All-tail (λ (x : PrintedTiming). HasAddress old.timeline x.times) (record { times = times; duration = duration }) new.left
      (rw next.next at all))

  pub no_more : IsAtEnd old new → left old ≡ []
  no_more end = rw end.none refl

-- ---- what a presentation tells of a track in a section

module _ (unit section : ℕ) (listed : List Timing) (map : Part) (rest : PrintedRest) where
  pub rest_items : (o : Option Content) → option_map (λ content. content.initialization) o ≡ Some map
      → IfSome o (λ content. rest ≡ rest_of content.runs listed unit)
      → items_at rest.timeline map section rest.left ≡ option_map_or (content_items unit section listed) o []
  rest_items None is_map is = absurd (cc)
  rest_items (Some content) is_map is = let same : content.initialization ≡ map = cc in rw (is, ← same) refl

  pub rest_addressed : (o : Option Content) → option_map (λ content. content.initialization) o ≡ Some map
      → IfSome o (λ content. rest ≡ rest_of content.runs listed unit)
      → IfSome o (λ content. All (λ x. HasAddress content.runs x.times) (printed_timings unit listed))
      → All (λ x. HasAddress rest.timeline x.times) rest.left
  rest_addressed None is_map is all = absurd (cc)
  rest_addressed (Some content) is_map is all = rw is all
