-- What is written of a first MPD means what the MPD means: its segments are those of its presentation, section by section.
use Rattle.followed.proofs.{KeptPlaces.all_kept, Sections.{new_section, told_apart}}
use Rattle.followed.specs.Durations.{durations, told}
use Rattle.std.proofs.lemmas.Simd.{map-map}
use Rattle.std.proofs.Common.{◌≡◌, ℕ, zero, suc, ◌+◌, ◌^◌, ◌≤◌, ◌<◌, List, [], ◌∷◌, map, length, Option, Some, None, Ok, IfSome, refl}
use Rattle.std.proofs.{Common.{arith, ℤ, sym, ◌∙◌, ap, subst}, lemmas.List.map-append, lemmas.List.Elements.All-map}
use Rattle.std.proofs.lemmas.Option.{slice_get-map}
use Rattle.std.specs.{Prelude.{All, true, flat_map, slice_get, option_map}, List.range_with_len, Option.option_map_or}
use Rattle.timeline.specs.{Expansions.{SegmentTimeline, Timing}, Listed.part_of_timing}
use Rattle.presentation.specs.{declared.parts.Content.Content, Meanings.part_meant, Presented.{Presented, content_at, listed_at, start_of}}
use Rattle.presentation.specs.{Printing.{durations_of, with_durations}, Counting.tracks_of, MeaningLaws.VerifiedAreMeant}
use Rattle.presentation.specs.Verifying.{longest_of, verified}
use Rattle.mpd_presentation.specs.{Told.presented_of, PresentedLaws.SectionsArePeriods}
use Rattle.presentation.proofs.Reached.{all_reached}
use Rattle.hls_media.specs.declared.media.MediaSegment.{MediaSegment}
use Rattle.hls_writer.specs.{Finished.{content_items, items_at, section_items, track_items}, Playlists.Item, Verified.IsVerified}
use Rattle.mpd_rules.specs.Laws.{are_once, PeriodIdsDiffer}
use Rattle.live_meaning.specs.Segments.{Kept, Numbering, Segment, id_at, listed_in_period, listed_of, place_of, segment_with, segments_of}
use Rattle.live_meaning.specs.Known.{Known, ids_of, is_new, known_at, known_with, periods_of}
use Rattle.live_meaning.specs.Playlists.{item_of, FollowedPlaylist, live_text, playlist_of, playlist_with}
use Rattle.live_meaning.specs.{Laws.{segment_of, HistoriesBegin, media_of}, Updates.{Refresh, Terms, Values, unit_of}}
use Rattle.live_meaning.specs.{Histories.{Common, begun_common, begun_past, begun_with, numbering_of}, States.{State, shown, track_of}}
use Rattle.live_meaning.specs.Refusals.{begun_of, first_refusal_of}
use Rattle.live_meaning.proofs.{Accepted.{placed_at, first_in_force}, Orders.period_own}
use Rattle.live_meaning.proofs.Histories.{ranged, told-segments, IsFirst, first_allowed, begun_from}
use Rattle.laws_of_playlists.specs.{ReadMedia.{segment_in, track_media}, Origins.{AreInPace, CameFromMpd, TracksAreWritable}}
use Rattle.laws_of_playlists.specs.SameFiles.{TracksMeanTheSame, playlist_under}
use Rattle.laws_of_playlists.proofs.SameStatic.{in_turn}
use Rattle.laws_of_reloads.specs.{First.FirstFilesMeanTheSame, Laws.{FollowedTextsAreRead, IsRead}}

pub place_at_first : (p : Presented) (s : ℕ) → are_once (ids_of (known_with [] p)) ≡ true → s < length p.sections
    → place_of (ids_of (known_with [] p)) (id_at p s) ≡ s
place_at_first p s once less =
    let known = ranged (known_at p) (length p.sections) s less in
    let at : slice_get (ids_of (known_with [] p)) s ≡ Some (id_at p s) =
    cc (all_kept (is_new []) (periods_of p) (λ j d within. refl), slice_get-map (λ (k : Known). k.id) (periods_of p) s, known) in
    placed_at (ids_of (known_with [] p)) s (id_at p s) once at

abbrev read_kept : (digits : ℕ) → List Kept → List MediaSegment
read_kept digits ks = map (segment_of digits) (map item_of ks)

abbrev read_items : (digits : ℕ) → List Item → List MediaSegment
read_items digits items = map (λ item. segment_in item.section digits item) items

abbrev IsMeant : SegmentTimeline → Timing → Type 0
IsMeant runs x = part_of_timing runs x ≡ Ok (part_meant runs x)

module _ (n : Numbering) (s start digits : ℕ) (content : Content) (unreset : n.resets ≡ 0) where
  abbrev made : Timing → Segment
  made x = segment_with n s start content x

  same_read : (ks : List Kept) (xs : List Timing) (ds : List ℕ) → segments_of ks ≡ map made xs → durations ks ≡ ds
      → All (IsMeant content.runs) xs
      → read_kept digits ks ≡ read_items digits (items_at content.runs content.initialization s (with_durations xs ds))
  same_read [] [] ds are told meant = refl
  same_read (k ∷ ks) (x ∷ xs) (d ∷ ds) are told meant =
      let own : k.segment ≡ made x = cc in let others : segments_of ks ≡ map made xs = cc in
      let long : k.duration ≡ d = cc in let longs : durations ks ≡ ds = cc in
      let part : part_of_timing content.runs x ≡ Ok (part_meant content.runs x) = meant 0 x (omega arith) in
      let here : s + n.resets ≡ s = omega (arith, unreset) in
      let rest = same_read ks xs ds others longs (λ j y within. meant (suc j) y (omega arith)) in
      rw (own, long, part, here, rest) refl
  same_read ks xs ds are told meant = absurd (cc)

  pub section_read : (xs : List Timing) → All (IsMeant content.runs) xs
      → read_kept digits (told (10 ^ digits) (map made xs)) ≡ read_items digits (content_items (10 ^ digits) s xs content)
  section_read [] meant = refl
  section_read (x ∷ xs) meant =
      let unit : ℕ = 10 ^ digits in
      let own : All (λ (y : Segment). y.section ≡ (made x).section) (map made xs) =
      All-map (λ (y : Segment). y.section ≡ (made x).section) made xs (λ j d within. refl) in
      let durations_are = new_section unit None (made x) (map made xs) tt own in
      same_read (told unit (map made (x ∷ xs))) (x ∷ xs) (durations_of unit (x ∷ xs)) (told-segments unit None (map made (x ∷ xs)))
      (cc (durations_are, map-map (λ (y : Segment). y.end) made xs)) meant

module _ (n : Numbering) (p : Presented) (digits t : ℕ) (unreset : n.resets ≡ 0)
    (placed : (s : ℕ) → s < length p.sections → place_of n.ids (id_at p s) ≡ s) where
  period_read : (s : ℕ) (o : Option Content) → IfSome o (λ content. All (IsMeant content.runs) (listed_at p s t)) → read_kept digits
      (told (10 ^ digits) (option_map_or (λ content. map (segment_with n s (start_of p s) content) (listed_at p s t)) o []))
      ≡ read_items digits (option_map_or (content_items (10 ^ digits) s (listed_at p s t)) o [])
  period_read s None are = refl
  period_read s (Some content) are = section_read n s (start_of p s) digits content unreset (listed_at p s t) are

  periods_read : (k s : ℕ) → s + k ≤ length p.sections
      → ((r : ℕ) → r < length p.sections → IfSome (content_at p r t) (λ content. All (IsMeant content.runs) (listed_at p r t)))
      → read_kept digits (flat_map (λ r. told (10 ^ digits) (listed_in_period n p t r)) (range_with_len s k))
      ≡ read_items digits (flat_map (section_items p (10 ^ digits) t) (range_with_len s k))
  periods_read zero s within are = refl
  periods_read (suc k) s within are =
      let own : read_kept digits (told (10 ^ digits) (listed_in_period n p t s)) ≡ read_items digits (section_items p (10 ^ digits) t s) =
      rw (placed s (omega arith)) (period_read s (content_at p s t) (are s (omega arith))) in
      let rest = periods_read k (s + 1) (omega arith) are in
      simp map-append (cc (own, rest))

  pub track_read : ((r : ℕ) → r < length p.sections → IfSome (content_at p r t) (λ content. All (IsMeant content.runs) (listed_at p r t)))
      → read_kept digits (told (10 ^ digits) (listed_of n p t)) ≡ read_items digits (track_items p (10 ^ digits) t)
  track_read are = rw (told_apart (λ s. place_of n.ids (id_at p s) + n.resets) (listed_in_period n p t) (length p.sections)
      (λ s r less within. omega (arith, placed s (omega arith), placed r within, less)) (period_own n p t) (10 ^ digits) None 0
      (length p.sections) (omega arith) (λ s above within. tt)) (periods_read (length p.sections) 0 (omega arith) are)

-- ---- the first MPD of a history
pub record IsBegun (terms : Terms) (mpd : Values) (now : ℤ) (s : State) : Type 0 where
  pub p : Presented
  pub first : IsFirst terms mpd now p
  pub state : s ≡ shown (begun_with (begun_common terms mpd now p))

pub begun_is : (terms : Terms) (mpd : Values) (now : ℤ) (s : State) → begun_of terms mpd now ≡ Ok s → IsBegun terms mpd now s
unfolding begun_of
begun_is terms mpd now s is =
    let (p, told, made, same) = begun_from terms mpd now s (first_refusal_of terms mpd now) (presented_of mpd terms.url (Some now)) is in
    record { p = p; first = first_allowed terms mpd now p told made; state = sym same }

module _ (differ : PeriodIdsDiffer) (periods : SectionsArePeriods) (begins : HistoriesBegin) (meant : VerifiedAreMeant)
    (writable : TracksAreWritable) (paced : AreInPace) (texts : FollowedTextsAreRead) (same : TracksMeanTheSame) where
  pub first_files_mean_the_same : FirstFilesMeanTheSame
  unfolding verified
  first_files_mean_the_same terms mpd now s files folder prefix place players fit followed begun own holds spells held =
      let is = begun_is terms mpd now s begun in let p = is.p in let digits = terms.digits in
      let c : Common = begun_common terms mpd now p in
      let read : IsRead mpd = followed.read 0 (Refresh mpd now) (omega arith) in
      let from : CameFromMpd p =
      record { tree = read.tree; mpd = mpd; url = terms.url; now = Some now; typed = read.typed; presented = is.first.made } in
      let verified : IsVerified p digits =
      record { longest = map (longest_of p (10 ^ digits)) (tracks_of p); is = rw (is.first.counts, is.first.urls) refl } in
      let known = first_in_force periods terms mpd now p (λ live. (differ read.tree mpd read.typed live).once) is.first in
      let shows = begins terms mpd now s begun in
      let opened : s.common.opened ≡ p = ap (λ (s : State). s.common.opened) is.state in
      same s.common.opened digits files folder prefix players fit (rw opened (record {
        verified = verified;
        few = followed.digits;
        ordered = λ r t in_sections in_tracks. in_turn (listed_at p r t)
            (paced p r t from (all_reached p is.first.counts t in_tracks r in_sections));
        tracks = writable p from;
      })) own holds (record {
        master = held.master;
        playlists = λ t within.
            let less : t < length p.tracks = subst (λ (q : Presented). t < length q.tracks) opened within in
            let playlist : FollowedPlaylist = playlist_with c (track_of (unit_of terms) (begun_past c t)) in
            let first = slice_get-map (track_of (unit_of terms)) (begun_with c).pasts t
            ∙ ap (option_map (track_of (unit_of terms))) (ranged (begun_past c) (length p.tracks) t less) in
            let there : playlist_of s t ≡ Some playlist = ap (λ (s : State). playlist_of s t) is.state ∙ ap (option_map (playlist_with c))
            first in
            let segments = track_read (numbering_of c) p digits t refl (λ r in_sections. place_at_first p r known.last.once in_sections)
            (λ r in_sections. meant p (10 ^ digits) r t verified.longest verified.is in_sections less) in
            let own = subst (λ (q : Presented). (media_of playlist).segments ≡ (track_media q digits t).segments) (sym opened) segments in
            let reads = texts (place t) terms (Refresh mpd now ∷ []) s t playlist (playlist_under folder prefix t)
            (spells t within) followed shows there in
            let written = held.playlists t playlist there in
            record { text = live_text (place t) playlist; there = written; reads = (media_of playlist, (reads, own)) };
      })
