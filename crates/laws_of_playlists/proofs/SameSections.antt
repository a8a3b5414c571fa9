-- Which of the segments that are read of a track are a section's.
use Rattle.std.proofs.Common.{◌≡◌, ℕ, zero, suc, ◌+◌, ◌^◌, ◌<◌, ◌≤◌, ◌==◌, ◌||◌, ◌⊎◌, cond, Bool, true, false, List, [], ◌∷◌, ◌++◌, length}
use Rattle.std.proofs.Common.{map, flat_map, is_some, Option, None, Some, refl, ◌∙◌, ap, inl, inr, ⊎_elim, arith, append-nil}
use Rattle.std.proofs.{lemmas.Bool.{cases_eq, eq-eqb, ne_eqb}, lemmas.List.map-append, lemmas.List.Elements.filter-append}
use Rattle.std.specs.{List.{list_any, range_with_len}, Option.option_map_or}
use Rattle.url_parts.specs.declared.address.Part.{Part}
use Rattle.timeline.specs.Expansions.{SegmentTimeline, Timing}
use Rattle.presentation.specs.{declared.parts.Content.Content, Presented.{Presented, content_at, listed_at}, Printing.PrintedTiming}
use Rattle.presentation.specs.Printing.{printed_timings}
use Rattle.hls_media.specs.declared.media.MediaSegment.{MediaSegment}
use Rattle.hls_writer.specs.Finished.{item_at, items_at, content_items, section_items}
use Rattle.hls_meaning.specs.Sections.{is_in, segments_in, entry_of}
use Rattle.laws_of_playlists.specs.{ReadMedia.track_media, Same.read_of}

any_more : (b any : Bool) (x : MediaSegment) (rest : List MediaSegment) → any ≡ is_some (entry_of rest)
    → b || any ≡ is_some (entry_of (cond b (x ∷ rest) rest))
any_more true any x rest same = refl
any_more false any x rest same = same

-- some segment is a section's exactly where an entry is
pub any_is_entry : (number : ℕ) (xs : List MediaSegment) → list_any (is_in number) xs ≡ is_some (entry_of (segments_in number xs))
any_is_entry number [] = refl
any_is_entry number (x ∷ xs) = any_more (is_in number x) (list_any (is_in number) xs) x (segments_in number xs) (any_is_entry number xs)

module _ (digits number section : ℕ) where
  module _ (runs : SegmentTimeline) (initialization : Part) where
    abbrev read_items : List PrintedTiming → List MediaSegment
    read_items xs = map (read_of digits) (items_at runs initialization section xs)

    own_items : (section == number) ≡ true → (xs : List PrintedTiming) → segments_in number (read_items xs) ≡ read_items xs
    own_items is [] = refl
    own_items is (x ∷ xs) = rw is (ap (λ ys. read_of digits (item_at runs initialization section x) ∷ ys) (own_items is xs))

    other_items : (section == number) ≡ false → (xs : List PrintedTiming) → segments_in number (read_items xs) ≡ []
    other_items is [] = refl
    other_items is (x ∷ xs) = rw is (other_items is xs)

  abbrev read_content : List Timing → Option Content → List MediaSegment
  read_content listed o = map (read_of digits) (option_map_or (content_items (10 ^ digits) section listed) o [])

  own_content : (section == number) ≡ true → (listed : List Timing) (o : Option Content)
      → segments_in number (read_content listed o) ≡ read_content listed o
  own_content is listed None = refl
  own_content is listed (Some content) = own_items content.runs content.initialization is (printed_timings (10 ^ digits) listed)

  other_content : (section == number) ≡ false → (listed : List Timing) (o : Option Content)
      → segments_in number (read_content listed o) ≡ []
  other_content is listed None = refl
  other_content is listed (Some content) = other_items content.runs content.initialization is (printed_timings (10 ^ digits) listed)

module _ (p : Presented) (digits t number : ℕ) where
  abbrev read_in : ℕ → List MediaSegment
  read_in section = map (read_of digits) (section_items p (10 ^ digits) t section)

  abbrev read_from : (first count : ℕ) → List MediaSegment
  read_from first count = map (read_of digits) (flat_map (section_items p (10 ^ digits) t) (range_with_len first count))

  one_more : (first count : ℕ) → segments_in number (read_from first (suc count)) ≡ segments_in number (read_in first)
      ++ segments_in number (read_from (first + 1) count)
  one_more first count =
      ap (segments_in number) (map-append (read_of digits) (section_items p (10 ^ digits) t first)
      (flat_map (section_items p (10 ^ digits) t) (range_with_len (first + 1) count)))
      ∙ filter-append (is_in number) (read_in first) (read_from (first + 1) count)

  own : (section : ℕ) → section ≡ number → segments_in number (read_in section) ≡ read_in section
  own section is = own_content digits number section (eq-eqb section number is) (listed_at p section t) (content_at p section t)

  other : (section : ℕ) → (section ≡ number → ⊥) → segments_in number (read_in section) ≡ []
  other section is = other_content digits number section (ne_eqb section number is) (listed_at p section t) (content_at p section t)

  pass : (first count : ℕ) → (first ≡ number → ⊥) → segments_in number (read_from first (suc count))
      ≡ segments_in number (read_from (first + 1) count)
  pass first count is = one_more first count ∙ ap (λ xs. xs ++ segments_in number (read_from (first + 1) count)) (other first is)

  none : (count first : ℕ) → (number < first) ⊎ (first + count ≤ number) → segments_in number (read_from first count) ≡ []
  none zero first out = refl
  none (suc count) first out = pass first count (λ is. absurd (omega arith))
      ∙ none count (first + 1) (⊎_elim (λ before. inl (omega arith)) (λ behind. inr (omega arith)) out)

  one : (count first : ℕ) → first ≤ number → number < first + count → segments_in number (read_from first count) ≡ read_in number
  one zero first from to = absurd (omega arith)
  one (suc count) first from to = ⊎_elim
      (λ is. one_more first count ∙ ap (λ xs. xs ++ segments_in number (read_from (first + 1) count)) (own first is)
      ∙ ap (λ ys. read_in first ++ ys) (none count (first + 1) (inl (omega arith))) ∙ append-nil (read_in first) ∙ ap read_in is)
      (λ is. pass first count is ∙ one count (first + 1) (omega arith) (omega arith))
      (cases_eq first number)

  pub section_there : number < length p.sections → segments_in number (track_media p digits t).segments ≡ read_in number
  section_there within = one (length p.sections) 0 (omega arith) (omega arith)

  pub section_missing : length p.sections ≤ number → segments_in number (track_media p digits t).segments ≡ []
  section_missing behind = none (length p.sections) 0 (inr (omega arith))
