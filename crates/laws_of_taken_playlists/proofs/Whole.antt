-- A written playlist is taken as a whole.
use Rattle.std.proofs.Common.{◌≡◌, ℕ, true, List, [], ◌∷◌, ◌++◌, length, map, Option, Some, None}
use Rattle.std.proofs.Common.{Ok, unwrap_or, is_some, refl, sym, ◌∙◌, ap, arith}
use Rattle.std.proofs.lemmas.List.Elements.{All-append, All-cons, All-head, All-tail}
use Rattle.std.specs.List.{All, list_all}
use Rattle.bridge_io.specs.{Firsts.first_of, Places.place_of, declared.place.Place.Place}
use Rattle.url_parts.specs.Spelling.{PlaylistPlace}
use Rattle.hls_lines.specs.Lines.{PlaylistLine, behind, lines_of, start}
use Rattle.hls_media.specs.Media.{after, after_all, is_short, line_faults, long_faults, media_of, media_values}
use Rattle.hls_media.specs.{States.{State, nothing}, Tags.tag_of, declared.media.Media.Media}
use Rattle.hls_media.specs.declared.media.MediaSegment.{MediaSegment}
use Rattle.hls_media.proofs.{Lengths.none_long, Wholes.media_in-good}
use Rattle.hls_writer.specs.Lines.{WrittenLine, header, version, target_duration, media_sequence, discontinuity_sequence, line_bytes}
use Rattle.hls_writer.specs.{Playlists.{Head, Item, end_lines, followed_text, items_lines, media_lines}, Spelled.spelled_items}
use Rattle.laws_of_playlists.specs.{ReadLines.{IsReadable, said_at, said_from_place}, ReadMedia.{Spells, media_of_items}}
use Rattle.laws_of_playlists.specs.ReadMedia.{segment_of, segments_of}
use Rattle.laws_of_playlists.proofs.Items.{spelled_are_read}
use Rattle.laws_of_playlists.proofs.Readable.{end_lines_readable, items_readable, section_readable, sequence_readable, target_readable}
use Rattle.laws_of_playlists.proofs.{Readable.version_readable, WrittenLines.written_are_read}
use Rattle.laws_of_taken_playlists.specs.Laws.{IsShortItem, IsTaken, WrittenAreTaken}
use Rattle.laws_of_taken_playlists.proofs.Faultless.{lines_clean}

-- the lines of a playlist behind its first one
abbrev pub written : Head → List Item → List WrittenLine
written head items =
    media_lines head.target head.sequence (discontinuity_sequence head.first_section) head.digits items head.ended

-- ---- the target duration is told

line_keeps : (url : List ℕ) (s : State) (line : WrittenLine) (place : Place) → is_some s.target ≡ true
    → is_some (after url s (said_at line place)).target ≡ true
unfolding tag_of
line_keeps url s (target_duration seconds) place is = refl
line_keeps url s other place is = is

keeps_target : (url : List ℕ) (s : State) (place : Place) (lines : List WrittenLine) → is_some s.target ≡ true
    → is_some (after_all url s (said_from_place place lines)).target ≡ true
keeps_target url s place [] is = is
keeps_target url s place (line ∷ lines) is =
    keeps_target url (after url s (said_at line place)) (behind (line_bytes line) place) lines (line_keeps url s line place is)

some_of : (o : Option ℕ) → is_some o ≡ true → o ≡ Some (unwrap_or o 0)
some_of None never = absurd (cc)
some_of (Some n) is = refl

pub target_kept : (url : List ℕ) (head : Head) (items : List Item) (media : Media)
    → media_values url (said_from_place start (written head items)) ≡ media
    → (after_all url nothing (said_from_place start (written head items))).target ≡ Some media.target
unfolding media_values tag_of
target_kept url head items media is =
    let body = items_lines head.digits None items ++ end_lines head.ended in
    let rest = media_sequence head.sequence ∷ (discontinuity_sequence head.first_section ∷ body) in
    let place = behind (line_bytes (version 6)) (behind (line_bytes header) start) in
    let told = after url nothing (said_at (target_duration head.target) place) in
    some_of (after_all url nothing (said_from_place start (written head items))).target
    (keeps_target url told (behind (line_bytes (target_duration head.target)) place) rest refl)
    ∙ ap (λ (m : Media). Some m.target) is

-- ---- segments

abbrev AreShort : ℕ → List MediaSegment → Type 0
AreShort target segments = list_all (is_short target) segments ≡ true

one_by_one : (target base first digits : ℕ) (items : List Item) → All (IsShortItem target digits) items
    → AreShort target (map (segment_of base first digits) items)
one_by_one target base first digits [] all = refl
one_by_one target base first digits (item ∷ items) all = rw (All-head (IsShortItem target digits) item items all)
    (one_by_one target base first digits items (All-tail (IsShortItem target digits) item items all))

none_long_in : (target base digits : ℕ) (items : List Item) → All (IsShortItem target digits) items
    → AreShort target (segments_of base digits items)
none_long_in target base digits [] all = refl
none_long_in target base digits (item ∷ items) all = one_by_one target base item.section digits (item ∷ items) all

-- ---- the whole

module _ (place : Option PlaylistPlace) (head : Head) (items : List Item) (url : List ℕ) (spells : Spells place url)
    (taken : IsTaken head items) where
  abbrev lines : List PlaylistLine
  lines = said_from_place start (written head (spelled_items place items))

  abbrev text : List ℕ
  text = followed_text head (spelled_items place items)

  pub lines_told : lines_of text ≡ Ok lines
  unfolding followed_text
  lines_told =
      let body = items_lines head.digits None (spelled_items place items) ++ end_lines head.ended in
      let from_kind = discontinuity_sequence head.first_section ∷ body in
      let from_sequence = media_sequence head.sequence ∷ from_kind in
      let from_target = target_duration head.target ∷ from_sequence in
      written_are_read (version 6 ∷ from_target) (All-cons IsReadable (version 6) from_target (version_readable 6 (omega arith))
      (All-cons IsReadable (target_duration head.target) from_sequence (target_readable head.target taken.readable_head.target)
      (All-cons IsReadable (media_sequence head.sequence) from_kind (sequence_readable head.sequence taken.readable_head.sequence)
      (All-cons IsReadable (discontinuity_sequence head.first_section) body
      (section_readable head.first_section taken.readable_head.first_section)
      (All-append IsReadable (items_lines head.digits None (spelled_items place items)) (end_lines head.ended)
      (items_readable place url spells head.digits None items taken.readable.each)
      (end_lines_readable head.ended))))))

  clean : line_faults url nothing lines ≡ []
  clean = lines_clean place url spells head items taken.small taken.readable.few taken.few taken.readable.each taken.each start

  values : media_values url lines ≡ media_of_items head items
  values =
      let told = spelled_are_read place head items url spells taken.readable_head taken.readable in
      let both : Ok told.0 ≡ Ok lines = sym told.1.0 ∙ lines_told in
      let same : told.0 ≡ lines = cc in
      ap (media_values url) (sym same) ∙ told.1.1

  none_is_long : first_of (long_faults head.target lines) ≡ None
  unfolding media_values
  none_is_long = none_long url head.target lines nothing clean
      (ap (λ (m : Media). list_all (is_short head.target) m.segments) values
      ∙ none_long_in head.target head.first_section head.digits items taken.short)

  media_is : media_of text url ≡ Ok (media_of_items head items)
  unfolding media_of media_values
  media_is = rw lines_told
      (media_in-good (place_of text (length text)) url lines head.target clean
      (target_kept url head (spelled_items place items) (media_of_items head items) values) none_is_long
      ∙ ap Ok values)

pub written_are_taken : WrittenAreTaken
written_are_taken place head items url spells taken = media_is place head items url spells taken
