-- Written media playlists are read, line by line.
use Rattle.std.proofs.Common.{◌≡◌, ℕ, zero, suc, ◌+◌, ◌-◌, ◌≤◌, Bool, true, false, List, [], ◌∷◌, ◌++◌, map, replicate, option_map, Option}
use Rattle.std.proofs.Common.{Some, None, IfSome, unwrap_or, refl, inl, inr, sym, ◌∙◌, ap, subst, arith, append_assoc}
use Rattle.std.proofs.{lemmas.Bool.{cases_Bool, ltb-false}, lemmas.List.append-nil, lemmas.List.Elements.{All-append, All-cons, All-head}}
use Rattle.std.proofs.lemmas.List.Elements.{All-tail}
use Rattle.std.specs.{Prelude.{ℤ, nat_lt}, List.All}
use Rattle.bridge_io.specs.declared.place.Place.{Place}
use Rattle.url_parts.specs.{Spelling.{PlaylistPlace, spelled}, declared.address.Part.Part, declared.range.Range.Range}
use Rattle.url_parts.proofs.Spellings.{stands_alone}
use Rattle.hls_writer.proofs.Spelled.{plain_items}
use Rattle.hls_lines.specs.Lines.{behind, start}
use Rattle.hls_media.specs.{Media.{after, after_all, former_end, media_at, media_values, segment_value}, States.{State, nothing}}
use Rattle.hls_media.specs.{Tags.tag_of, declared.media.Media.Media, declared.media.MediaSegment.MediaSegment}
use Rattle.hls_writer.specs.Lines.{WrittenLine, header, version, target_duration, media_sequence, discontinuity_sequence, on_demand}
use Rattle.hls_writer.specs.Lines.{discontinuity, initialization, program_date_time, duration, byte_range, uri, line_bytes, lines_text}
use Rattle.hls_writer.specs.{Lines.range_bytes, Playlists.{Item, begins_section, end_lines, finished_text, followed_text, item_lines}}
use Rattle.hls_writer.specs.Playlists.{items_lines, media_lines, own_lines, present, rise}
use Rattle.hls_writer.specs.Spelled.{spelled_item, spelled_items, spelled_part}
use Rattle.laws_of_playlists.specs.{ReadLines.{IsReadable, said_at, said_from_place}, ReadMedia.{AreInOrder, AreReadable, FinishedAreRead}}
use Rattle.laws_of_playlists.specs.ReadMedia.{FollowedAreRead, GoOn, IsReadableItem, IsReadableRange, IsShortNumber, ReadsAs, nanos_of}
use Rattle.laws_of_playlists.specs.ReadMedia.{SpelledAreRead, Spells, media_of_items, segment_in, segment_of, segments_of}
use Rattle.laws_of_playlists.proofs.{WrittenLines.written_are_read, Readable.{end_lines_readable, items_readable, on_demand_readable}}
use Rattle.laws_of_playlists.proofs.{Readable.{section_readable, sequence_readable, target_readable, version_readable}, Values.given_is}
use Rattle.laws_of_playlists.proofs.Values.{duration_is, map_is, number_is, range_is}

-- from a state on, lines give these values, wherever the first of them stands
abbrev pub Leads : List ℕ → State → List WrittenLine → Media → Type 0
Leads url s lines media = (place : Place) → media_at (after_all url s (said_from_place place lines)) ≡ media

module _ (url : List ℕ) (media : Media) where
  step : (s next : State) (line : WrittenLine) (lines : List WrittenLine) → ((place : Place) → after url s (said_at line place) ≡ next)
      → Leads url next lines media → Leads url s (line ∷ lines) media
  step s next line lines here on place =
      ap (λ (t : State). media_at (after_all url t (said_from_place (behind (line_bytes line) place) lines))) (here place)
      ∙ on (behind (line_bytes line) place)

module _ (url : List ℕ) (media : Media) (target sequence : ℕ) (first : Option ℕ) (digits : ℕ) (few : digits ≤ 9)
    (beside : Option PlaylistPlace) (spells : Spells beside url) where
  -- a state in which no range was told
  abbrev state : (discontinuities : ℕ) (lasting : Option ℕ) (begun : Option Part) → List MediaSegment → State
  state discontinuities lasting begun segments = record {
    target = Some target;
    sequence = Some sequence;
    first_section = first;
    discontinuities = discontinuities;
    ended = false;
    duration = lasting;
    range = None;
    map = begun;
    segments = segments;
  }

  abbrev segment : ℕ → Item → MediaSegment
  segment discontinuities item = segment_in (unwrap_or first 0 + discontinuities) digits item

  -- ---- one segment

  module _ (item : Item) (is : IsReadableItem digits item) (d : ℕ) (segments : List MediaSegment) (rest : List WrittenLine)
      (on : Leads url (state d None (Some item.map) (segments ++ segment d item ∷ [])) rest media) where
    abbrev with_range : Option Range → MediaSegment
    with_range range = record (segment d item) { range = range }

    uri_leads : (range : Option Range) → IfSome range IsReadableRange
        → Leads url (state d None (Some item.map) (segments ++ with_range range ∷ [])) rest media
        → Leads url (state d (Some (nanos_of digits item.duration)) (Some item.map) segments)
        (present (option_map byte_range range ∷ Some (uri (spelled beside item.part.address)) ∷ []) ++ rest) media
    unfolding tag_of segment_value
    uri_leads None readable on = step url media (state d (Some (nanos_of digits item.duration)) (Some item.map) segments)
        (state d None (Some item.map) (segments ++ with_range None ∷ [])) (uri (spelled beside item.part.address)) rest
        (λ at. rw (given_is url _ item.part.address (spells item.part.address is.part.address).given) refl) on
    uri_leads (Some range) readable on = λ place.
        let text = range_bytes range in
        let s = record (state d (Some (nanos_of digits item.duration)) (Some item.map) segments) { range = Some (text, place) } in
        step url media s (state d None (Some item.map) (segments ++ with_range (Some range) ∷ []))
        (uri (spelled beside item.part.address)) rest
        (λ here. rw (
          given_is url _ item.part.address (spells item.part.address is.part.address).given,
          range_is (former_end item.part.address segments) range readable,
        ) refl) on (behind (line_bytes (byte_range range)) place)

    abbrev uri_tail : List WrittenLine
    uri_tail = present (option_map byte_range item.part.range ∷ Some (uri (spelled beside item.part.address)) ∷ []) ++ rest

    abbrev duration_tail : List WrittenLine
    duration_tail = present (Some (duration digits item.duration) ∷ option_map byte_range item.part.range
        ∷ Some (uri (spelled beside item.part.address)) ∷ []) ++ rest

    abbrev date_tail : Option ℤ → List WrittenLine
    date_tail date = present (option_map program_date_time date ∷ Some (duration digits item.duration)
        ∷ option_map byte_range item.part.range ∷ Some (uri (spelled beside item.part.address)) ∷ []) ++ rest

    duration_leads : Leads url (state d None (Some item.map) segments) duration_tail media
    unfolding tag_of
    duration_leads = step url media (state d None (Some item.map) segments)
        (state d (Some (nanos_of digits item.duration)) (Some item.map) segments) (duration digits item.duration) uri_tail
        (λ place. rw (duration_is digits item.duration few is.short) refl) (uri_leads item.part.range is.part.range on)

    date_leads : (date : Option ℤ) → Leads url (state d None (Some item.map) segments) (date_tail date) media
    unfolding tag_of
    date_leads None = duration_leads
    date_leads (Some instant) = step url media (state d None (Some item.map) segments) (state d None (Some item.map) segments)
        (program_date_time instant) duration_tail (λ place. refl) duration_leads

    own_leads : (former : Option ℕ) (map : Option Part) → (begins_section former item.section ≡ false → map ≡ Some item.map)
        → Leads url (state d None map segments) (own_lines digits former (spelled_item beside item) ++ rest) media
    unfolding tag_of
    own_leads former map kept = elim (cases_Bool (begins_section former item.section)) [
      | inl begins ↦ rw begins (step url media (state d None map segments) (state d None (Some item.map) segments)
          (initialization (spelled_part beside item.map)) (date_tail item.date)
          (λ place. rw (map_is url item.map.address _ (spells item.map.address is.map.address) item.map.range is.map.range) refl)
          (date_leads item.date))
      | inr other ↦ rw (other, kept other) (date_leads item.date)
    ]

  gaps_lead : (n d all : ℕ) (map : Option Part) (segments : List MediaSegment) (lines : List WrittenLine) → d + n ≡ all
      → Leads url (state all None map segments) lines media
      → Leads url (state d None map segments) (replicate n discontinuity ++ lines) media
  unfolding tag_of
  gaps_lead zero d all map segments lines e on = let same : d ≡ all = omega arith in rw same on
  gaps_lead (suc n) d all map segments lines e on =
      step url media (state d None map segments) (state (d + 1) None map segments) discontinuity (replicate n discontinuity ++ lines)
      (λ place. refl) (gaps_lead n (d + 1) all map segments lines (omega arith) on)

  item_leads : (former : Option ℕ) (item : Item) → IsReadableItem digits item
      → (d all : ℕ) (map : Option Part) (segments : List MediaSegment) (rest : List WrittenLine)
      → d + rise former item.section ≡ all → (begins_section former item.section ≡ false → map ≡ Some item.map)
      → Leads url (state all None (Some item.map) (segments ++ segment all item ∷ [])) rest media
      → Leads url (state d None map segments) (item_lines digits former (spelled_item beside item) ++ rest) media
  item_leads former item is d all map segments rest e kept on =
      rw (append_assoc (replicate (rise former item.section) discontinuity) (own_lines digits former (spelled_item beside item)) rest)
      (gaps_lead (rise former item.section) d all map segments (own_lines digits former (spelled_item beside item) ++ rest) e
      (own_leads item is all segments rest on former map kept))

  -- ---- segments in order

  items_lead : (begin : ℕ) (former : Item) (items : List Item) (d : ℕ) (segments : List MediaSegment) (rest : List WrittenLine)
      → d + begin ≡ former.section → GoOn former items → All (IsReadableItem digits) items
      → ((last : ℕ) (m : Option Part) → Leads url (state last None m (segments ++ map (segment_of (unwrap_or first 0) begin digits) items))
      rest media)
      → Leads url (state d None (Some former.map) segments) (items_lines digits (Some former.section) (spelled_items beside items)
      ++ rest) media
  items_lead begin former [] d segments rest at goes all on =
      subst (λ (l : List MediaSegment). Leads url (state d None (Some former.map) l) rest media) (append-nil segments)
      (on d (Some former.map))
  items_lead begin former (item ∷ items) d segments rest at goes all on =
      let next = goes.0 in
      let is = All-head (IsReadableItem digits) item items all in
      let more = item.section - begin in
      let kept = λ (other : nat_lt former.section item.section ≡ false). let low = ltb-false former.section item.section other in
      ap Some (sym (next.map (omega (arith, low, next.section)))) in
      let later = items_lead begin item items more (segments ++ segment more item ∷ []) rest (omega (arith, next.section)) goes.1
      (All-tail (IsReadableItem digits) item items all)
      (λ last m. subst (λ (l : List MediaSegment). Leads url (state last None m l) rest media)
      (sym (append_assoc segments (segment more item ∷ []) (map (segment_of (unwrap_or first 0) begin digits) items))) (on last m)) in
      let behind = items_lines digits (Some item.section) (spelled_items beside items) in
      rw (append_assoc (item_lines digits (Some former.section) (spelled_item beside item)) behind rest)
      (item_leads (Some former.section) item is d more (Some former.map) segments (behind ++ rest)
      (omega (arith, next.section)) kept later)

  abbrev base : ℕ
  base = unwrap_or first 0

  list_leads : (items : List Item) (rest : List WrittenLine) → AreInOrder items → All (IsReadableItem digits) items
      → ((last : ℕ) (m : Option Part) → Leads url (state last None m (segments_of base digits items)) rest media)
      → Leads url (state 0 None None []) (items_lines digits None (spelled_items beside items) ++ rest) media
  list_leads [] rest goes all on = on 0 None
  list_leads (item ∷ items) rest goes all on =
      let none = item.section - item.section in
      let is = All-head (IsReadableItem digits) item items all in
      let later = items_lead item.section item items none (segment none item ∷ []) rest (omega arith) goes
      (All-tail (IsReadableItem digits) item items all) on in
      let behind = items_lines digits (Some item.section) (spelled_items beside items) in
      subst (λ (lines : List WrittenLine). Leads url (state 0 None None []) lines media)
      (sym (append_assoc (item_lines digits None (spelled_item beside item)) behind rest))
      (item_leads None item is 0 none None [] (behind ++ rest) (omega arith)
      (λ never. absurd (cc)) later)

  end_leads : (ended : Bool) (last : ℕ) (m : Option Part) (segments : List MediaSegment)
      → media ≡ record { target = target; sequence = sequence; ended = ended; segments = segments }
      → Leads url (state last None m segments) (end_lines ended) media
  unfolding tag_of
  end_leads true last m segments is place = sym is
  end_leads false last m segments is place = sym is

  all_lead : (items : List Item) (ended : Bool) → AreInOrder items → All (IsReadableItem digits) items
      → media ≡ record { target = target; sequence = sequence; ended = ended; segments = segments_of base digits items }
      → Leads url (state 0 None None []) (items_lines digits None (spelled_items beside items) ++ end_lines ended) media
  all_lead items ended goes all is = list_leads items (end_lines ended) goes all
      (λ last m. end_leads ended last m (segments_of base digits items) is)

-- ---- whole playlists

module _ (beside : Option PlaylistPlace) (url : List ℕ) (spells : Spells beside url) (digits : ℕ) (items : List Item)
    (are : AreReadable digits items)
    (target sequence : ℕ) (target_short : IsShortNumber target) (sequence_short : IsShortNumber sequence)
    (ended : Bool) where
  abbrev media : ℕ → Media
  media base = record { target = target; sequence = sequence; ended = ended; segments = segments_of base digits items }

  -- behind the line that tells of sections, or doesn't
  abbrev begun : Option ℕ → State
  begun first = record nothing { target = Some target; sequence = Some sequence; first_section = first }

  reads : (kind : WrittenLine) (first : Option ℕ) → IsReadable kind
      → ((place : Place) → after url (begun None) (said_at kind place) ≡ begun first)
      → ReadsAs (lines_text (media_lines target sequence kind digits (spelled_items beside items) ended)) url (media (unwrap_or first 0))
  unfolding media_values tag_of
  reads kind first readable here =
      let m = media (unwrap_or first 0) in
      let body = items_lines digits None (spelled_items beside items) ++ end_lines ended in
      let told = record nothing { target = Some target } in
      let from_kind = kind ∷ body in
      let from_sequence = media_sequence sequence ∷ from_kind in
      let from_target = target_duration target ∷ from_sequence in
      let lines = version 6 ∷ from_target in
      let leads : Leads url nothing (header ∷ lines) m =
      step url m nothing nothing header lines (λ place. refl)
      (step url m nothing nothing (version 6) from_target (λ place. refl)
      (step url m nothing told (target_duration target) from_sequence (λ place. rw (number_is target target_short) refl)
      (step url m told (begun None) (media_sequence sequence) from_kind (λ place. rw (number_is sequence sequence_short) refl)
      (step url m (begun None) (begun first) kind body here
      (all_lead url m target sequence first digits are.few beside spells items ended are.order are.each refl))))) in
      let all : All IsReadable lines =
      All-cons IsReadable (version 6) from_target (version_readable 6 (omega arith))
      (All-cons IsReadable (target_duration target) from_sequence (target_readable target target_short)
      (All-cons IsReadable (media_sequence sequence) from_kind (sequence_readable sequence sequence_short)
      (All-cons IsReadable kind body readable (All-append IsReadable (items_lines digits None (spelled_items beside items))
      (end_lines ended) (items_readable beside url spells digits None items are.each) (end_lines_readable ended))))) in
      (said_from_place start (header ∷ lines), (written_are_read lines all, leads start))

pub finished_are_read : FinishedAreRead
unfolding finished_text tag_of
finished_are_read beside target digits items url spells short are = reads beside url spells digits items are target 0 short
    (omega arith) true on_demand None on_demand_readable (λ place. refl)

pub spelled_are_read : SpelledAreRead
unfolding followed_text tag_of
spelled_are_read beside head items url spells short are =
    reads beside url spells head.digits items are head.target head.sequence short.target short.sequence head.ended
    (discontinuity_sequence head.first_section) (Some head.first_section)
    (section_readable head.first_section short.first_section) (λ place. rw (number_is head.first_section short.first_section) refl)

pub followed_are_read : FollowedAreRead
followed_are_read head items url short are =
    subst (λ written. ReadsAs (followed_text head written) url (media_of_items head items)) (plain_items items)
    (spelled_are_read None head items url (stands_alone url) short are)
