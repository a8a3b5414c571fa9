-- No line of a written playlist is at fault.
use Rattle.std.proofs.Common.{◌≡◌, ℕ, zero, suc, ◌+◌, ◌^◌, ◌<◌, ◌≤◌, Bool, true, false, List, [], ◌∷◌, ◌++◌, length, replicate}
use Rattle.std.proofs.Common.{option_map, Option, Some, None, Ok, IfSome, refl, ◌∙◌, ap, arith, inl, inr, append_assoc, eqb}
use Rattle.std.proofs.{Common.{length-append, nat_lt}, lemmas.Bool.{cases_Bool, lt-ltb}, lemmas.Bool.Decides.nat_tests}
use Rattle.std.proofs.lemmas.List.Elements.{All-head, All-tail}
use Rattle.std.specs.{Prelude.{ℤ}, List.{All, list_any}}
use Rattle.bridge_io.specs.declared.place.Place.{Place}
use Rattle.url_parts.specs.{Spelling.{PlaylistPlace, spelled}, declared.range.Range.Range}
use Rattle.hls_lines.specs.{Lines.{behind, is_uri}}
use Rattle.hls_media.specs.{Laws.IsBoundedRange, Media.{after, former_end, line_fault, line_faults, segment_of, segment_range}}
use Rattle.hls_media.specs.{Media.with_fault, States.{State, nothing}, Tags.tag_of, Values.{end_of}}
use Rattle.hls_writer.specs.Lines.{WrittenLine, header, version, target_duration, media_sequence, discontinuity_sequence}
use Rattle.hls_writer.specs.Lines.{discontinuity, initialization, program_date_time, duration, byte_range, uri, line_bytes, range_bytes}
use Rattle.hls_writer.specs.Playlists.{Head, Item, begins_section, end_lines, items_lines, media_lines, own_lines}
use Rattle.hls_writer.specs.{Playlists.{present, rise}, Spelled.{spelled_item, spelled_items, spelled_part}}
use Rattle.laws_of_playlists.specs.{ReadLines.{said_at, said_from_place}, ReadMedia.{IsReadableItem, IsReadableRange, Spells, nanos_of}}
use Rattle.laws_of_playlists.proofs.Values.{duration_is, number_is, range_is}
use Rattle.laws_of_taken_playlists.specs.Laws.{IsTakenHead, IsTakenItem}
use Rattle.laws_of_taken_playlists.proofs.{Parts.{in_range, map_taken}}

-- from a state on, lines have no fault, wherever the first of them stands
abbrev pub Clean : List ℕ → State → List WrittenLine → Type 0
Clean url s lines = (place : Place) → line_faults url s (said_from_place place lines) ≡ []

-- behind a segment, or before all
pub record IsBetween (s : State) (n : ℕ) : Type 0 where
  pub lasting : s.duration ≡ None
  pub range : s.range ≡ None
  pub count : length s.segments ≡ n

not_full : (n : ℕ) → n < 100_000 → eqb n 100_000 ≡ false
not_full n less = grind (arith, nat_tests)

pub not_above : (n most : ℕ) → n ≤ most → nat_lt most n ≡ false
not_above n most le = grind (arith, nat_tests)

module _ (beside : Option PlaylistPlace) (url : List ℕ) (spells : Spells beside url) where
  step : (s : State) (line : WrittenLine) (lines : List WrittenLine)
      → ((place : Place) → line_fault url s (said_at line place) (list_any is_uri (said_from_place (behind (line_bytes line) place) lines))
      ≡ None)
      → ((place : Place) → Clean url (after url s (said_at line place)) lines) → Clean url s (line ∷ lines)
  step s line lines here on place =
      let rest = said_from_place (behind (line_bytes line) place) lines in
      ap (λ o. with_fault o (line_faults url (after url s (said_at line place)) rest)) (here place)
      ∙ on place (behind (line_bytes line) place)

  module _ (digits : ℕ) (few : digits ≤ 9) where
    -- ---- one segment

    module _ (item : Item) (is : IsReadableItem digits item) (taken : IsTakenItem digits item) (n : ℕ) (room : n < 100_000)
        (rest : List WrittenLine) (on : (s : State) → IsBetween s (suc n) → Clean url s rest) where
      abbrev text : List ℕ
      text = spelled beside item.part.address

      uri_clean : (s : State) (lasting : ℕ) → s.duration ≡ Some lasting → (range : Option Range)
          → segment_range s item.part.address s.range ≡ Ok range → length s.segments ≡ n → Clean url s (uri text ∷ rest)
      unfolding segment_of
      uri_clean s lasting lasts range told count =
          let free : eqb (length s.segments) 100_000 ≡ false = rw count (not_full n room) in
          step s (uri text) rest (λ place. rw (lasts, free, (spells item.part.address is.part.address).given, told) refl)
          (λ place. on (after url s (said_at (uri text) place)) (record {
            lasting = refl;
            range = refl;
            count = length-append s.segments _ ∙ omega (arith, count);
          }))

      range_clean : (range : Option Range) → IfSome range IsReadableRange → IfSome range IsBoundedRange → (s : State) (lasting : ℕ)
          → s.duration ≡ Some lasting → s.range ≡ None → length s.segments ≡ n
          → Clean url s (present (option_map byte_range range ∷ Some (uri text) ∷ []) ++ rest)
      unfolding tag_of
      range_clean None readable bounded s lasting lasts none count = uri_clean s lasting lasts None (rw none refl) count
      range_clean (Some range) readable bounded s lasting lasts none count =
          step s (byte_range range) (uri text ∷ rest) (λ place. rw (in_range range readable bounded) refl)
          (λ place. uri_clean (record s { range = Some (range_bytes range, place) }) lasting lasts (Some range)
          (rw (range_is (former_end item.part.address s.segments) range readable, lt-ltb (end_of range) (2 ^ 63) bounded.ends) refl) count)

      follows : (range : Option Range) (place : Place) → list_any is_uri (said_from_place place
          (present (option_map byte_range range ∷ Some (uri text) ∷ []) ++ rest)) ≡ true
      follows None place = refl
      follows (Some range) place = refl

      abbrev uri_tail : List WrittenLine
      uri_tail = present (option_map byte_range item.part.range ∷ Some (uri text) ∷ []) ++ rest

      abbrev duration_tail : List WrittenLine
      duration_tail = present (Some (duration digits item.duration) ∷ option_map byte_range item.part.range ∷ Some (uri text)
          ∷ []) ++ rest

      abbrev date_tail : Option ℤ → List WrittenLine
      date_tail date = present (option_map program_date_time date ∷ Some (duration digits item.duration)
          ∷ option_map byte_range item.part.range ∷ Some (uri text) ∷ []) ++ rest

      duration_clean : (s : State) → IsBetween s n → Clean url s duration_tail
      unfolding tag_of
      duration_clean s between = step s (duration digits item.duration) uri_tail (λ place. rw (
        between.lasting,
        follows item.part.range (behind (line_bytes (duration digits item.duration)) place),
        duration_is digits item.duration few is.short,
        not_above (nanos_of digits item.duration) (10 ^ 15) taken.lasts,
      ) refl) (λ place. range_clean item.part.range is.part.range taken.range
          (after url s (said_at (duration digits item.duration) place)) _ refl between.range between.count)

      date_clean : (date : Option ℤ) (s : State) → IsBetween s n → Clean url s (date_tail date)
      unfolding tag_of
      date_clean None s between = duration_clean s between
      date_clean (Some instant) s between = step s (program_date_time instant) duration_tail (λ place. refl)
          (λ place. duration_clean s between)

      own_clean : (former : Option ℕ) (s : State) → IsBetween s n → Clean url s (own_lines digits former (spelled_item beside item) ++ rest)
      unfolding tag_of
      own_clean former s between = elim (cases_Bool (begins_section former item.section)) [
        | inl begins ↦ rw begins (step s (initialization (spelled_part beside item.map)) (date_tail item.date)
            (λ place. rw (map_taken url item.map.address (spelled beside item.map.address) (spells item.map.address is.map.address) place
            item.map.range is.map.range taken.map) refl)
            (λ place. date_clean item.date (after url s (said_at (initialization (spelled_part beside item.map)) place))
            (record { lasting = between.lasting; range = between.range; count = between.count })))
        | inr other ↦ rw other (date_clean item.date s between)
      ]

    gaps_clean : (k n : ℕ) (lines : List WrittenLine) → ((s : State) → IsBetween s n → Clean url s lines) → (s : State) → IsBetween s n
        → Clean url s (replicate k discontinuity ++ lines)
    unfolding tag_of
    gaps_clean zero n lines on s between = on s between
    gaps_clean (suc k) n lines on s between = step s discontinuity (replicate k discontinuity ++ lines) (λ place. refl)
        (λ place. gaps_clean k n lines on (after url s (said_at discontinuity place))
        (record { lasting = between.lasting; range = between.range; count = between.count }))

    -- ---- segments in order

    items_clean : (former : Option ℕ) (items : List Item) (n : ℕ) (rest : List WrittenLine) → n + length items ≤ 100_000
        → All (IsReadableItem digits) items → All (IsTakenItem digits) items → ((s : State) → Clean url s rest)
        → (s : State) → IsBetween s n → Clean url s (items_lines digits former (spelled_items beside items) ++ rest)
    items_clean former [] n rest few_items all taken on s between = on s
    items_clean former (item ∷ items) n rest few_items all taken on s between =
        let behind_it = items_lines digits (Some item.section) (spelled_items beside items) in
        let more = behind_it ++ rest in
        let later = items_clean (Some item.section) items (suc n) rest (omega (arith, few_items))
        (All-tail (IsReadableItem digits) item items all)
        (All-tail (IsTakenItem digits) item items taken) on in
        let gaps = replicate (rise former item.section) discontinuity in
        let own = own_lines digits former (spelled_item beside item) in
        rw (append_assoc (gaps ++ own) behind_it rest, append_assoc gaps own more)
        (gaps_clean (rise former item.section) n (own ++ more)
        (own_clean item (All-head (IsReadableItem digits) item items all) (All-head (IsTakenItem digits) item items taken) n
        (omega (arith, few_items)) more later former) s between)

  end_clean : (ended : Bool) (s : State) → Clean url s (end_lines ended)
  unfolding tag_of
  end_clean true s place = refl
  end_clean false s place = refl

  -- ---- whole playlists

  pub lines_clean : (head : Head) (items : List Item) → IsTakenHead head → head.digits ≤ 9 → length items ≤ 100_000
      → All (IsReadableItem head.digits) items → All (IsTakenItem head.digits) items
      → Clean url nothing (media_lines head.target head.sequence (discontinuity_sequence head.first_section) head.digits
      (spelled_items beside items) head.ended)
  unfolding tag_of
  lines_clean head items small few few_items all taken =
      let body = items_lines head.digits None (spelled_items beside items) ++ end_lines head.ended in
      let from_kind = discontinuity_sequence head.first_section ∷ body in
      let from_sequence = media_sequence head.sequence ∷ from_kind in
      let from_target = target_duration head.target ∷ from_sequence in
      step nothing header (version 6 ∷ from_target) (λ place. refl) (λ place.
      step nothing (version 6) from_target (λ place. refl) (λ place.
      step nothing (target_duration head.target) from_sequence
      (λ place. rw (number_is head.target (omega (arith, small.target)), lt-ltb head.target (2 ^ 31) small.target) refl) (λ place.
      step (after url nothing (said_at (target_duration head.target) place)) (media_sequence head.sequence) from_kind
      (λ place. rw (number_is head.sequence (omega (arith, small.sequence)), lt-ltb head.sequence (2 ^ 63) small.sequence) refl) (λ here.
      step (after url (after url nothing (said_at (target_duration head.target) place)) (said_at (media_sequence head.sequence) here))
      (discontinuity_sequence head.first_section) body
      (λ place. rw (
        number_is head.first_section (omega (arith, small.first_section)),
        lt-ltb head.first_section (2 ^ 63) small.first_section,
      ) refl)
      (λ place. items_clean head.digits few None items 0 (end_lines head.ended) (omega (arith, few_items)) all taken
      (end_clean head.ended) _ (record { lasting = refl; range = refl; count = refl }))))))
