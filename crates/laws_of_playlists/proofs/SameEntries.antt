-- What a track has in a section, and what is read of it.
use Rattle.std.proofs.Common.{◌≡◌, ℕ, ◌^◌, ◌<◌, ◌≤◌, List, [], ◌∷◌, length, map, All, Option, None, Some, Ok, refl, arith}
use Rattle.std.specs.{Prelude.{option_and_then, IfSome}, Option.option_map_or}
use Rattle.exact_time.specs.Laws.{SumsAreFloors}
use Rattle.timeline.specs.{declared.window.Window.Window, Expansions.Timing, Listed.part_of_timing}
use Rattle.meaning.specs.Same.{IsRounded, SameEntries}
use Rattle.presentation.specs.{declared.parts.Content.Content, MeaningLaws.VerifiedAreMeant, Meanings.{part_meant, entry_with, entry_at}}
use Rattle.presentation.specs.{Meanings.entry_of as meant_entry, Presented.{Presented, content_at, listed_at, listed_in, window_of}}
use Rattle.hls_writer.specs.{Finished.{content_items, section_items}, Verified.IsVerified}
use Rattle.hls_meaning.specs.Sections.{entry_of}
use Rattle.laws_of_playlists.specs.Same.{read_of, EndInTurn}
use Rattle.laws_of_playlists.proofs.SameTimes.{sums_are, timed_alike}

module _ (floors : SumsAreFloors) (digits : ℕ) (few : digits ≤ 9) where
  listed_alike : (content : Content) (section : ℕ) (xs : List Timing)
      → All (λ x. part_of_timing content.runs x ≡ Ok (part_meant content.runs x)) xs → EndInTurn xs →
      SameEntries (IsRounded (10 ^ digits)) (entry_with content.initialization content.runs xs)
      (entry_of (map (read_of digits) (content_items (10 ^ digits) section xs content)))
  listed_alike content section [] made ordered = tt
  listed_alike content section (x ∷ xs) made ordered = record {
    initialization = refl;
    segments = timed_alike digits few content.runs content.initialization section x.start (x ∷ xs) 0 0 (omega arith) made
        (sums_are digits few content.runs content.initialization section x.start floors (x ∷ xs) ordered.0 ordered.1);
  }

  abbrev listed_of : Window → Option Content → List Timing
  listed_of window content = option_map_or (λ content. listed_in window content.runs) content []

  content_alike : (window : Window) (section : ℕ) (o : Option Content)
      → IfSome o (λ content. All (λ x. part_of_timing content.runs x ≡ Ok (part_meant content.runs x)) (listed_of window o))
      → EndInTurn (listed_of window o) →
      SameEntries (IsRounded (10 ^ digits)) (option_and_then (meant_entry window) o)
      (entry_of (map (read_of digits) (option_map_or (content_items (10 ^ digits) section (listed_of window o)) o [])))
  content_alike window section None made ordered = tt
  content_alike window section (Some content) made ordered = listed_alike content section (listed_in window content.runs) made ordered

  pub entry_alike : VerifiedAreMeant → (p : Presented) → IsVerified p digits → (s t : ℕ) → s < length p.sections → t < length p.tracks
      → EndInTurn (listed_at p s t) →
      SameEntries (IsRounded (10 ^ digits)) (entry_at p s t) (entry_of (map (read_of digits) (section_items p (10 ^ digits) t s)))
  entry_alike meant p verified s t in_sections in_tracks ordered =
      content_alike (window_of p s) s (content_at p s t)
      (meant p (10 ^ digits) s t verified.longest verified.is in_sections in_tracks) ordered
