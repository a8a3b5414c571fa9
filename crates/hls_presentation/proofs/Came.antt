-- What comes from playlists.
use Rattle.std.proofs.Common.{◌≡◌, ℕ, suc, ◌+◌, ◌*◌, false, List, [], ◌∷◌, map, length, All, Option, Some, None, Result, Ok, Err, refl, sym}
use Rattle.std.proofs.{Common.{◌∙◌, ap, subst, arith, length-append}, lemmas.List.length-map, lemmas.List.Elements.{All-nil, All-cons}}
use Rattle.std.proofs.{lemmas.List.Elements.{All-head, All-tail, All-map, All-filter, All-weaker}, lemmas.List.FromFn.length-range_with_len}
use Rattle.bridge_io.proofs.AndThen.{steps_of}
use Rattle.timeline.specs.{declared.fault.TimeFault.TimeFault, Expansions.{Closed, Extent, SegmentTimeline, is_open}}
use Rattle.timeline.specs.SegmentTimelines.{unless_fault}
use Rattle.hls_media.specs.{declared.media.Media.Media, declared.media.MediaSegment.MediaSegment}
use Rattle.hls_master.specs.declared.track.MasterTrack.{MasterTrack}
use Rattle.presentation.specs.{declared.parts.Content.Content, Origins.{CameFromPlaylists, IsAddressed, IsSilent}, Presented.Presented}
use Rattle.presentation.specs.Presented.{AreFilled, IsEnded, of_parts}
use Rattle.hls_presentation.specs.{Origins.IsSilentTrack, Presenting.{content_of, content_with, contents_of, extents_from, flattened}}
use Rattle.hls_presentation.specs.Presenting.{hls_presented_of, initialization_of, nanos_by_tick, part_of, parts_of, parts_with}
use Rattle.hls_presentation.specs.Presenting.{presented_from, presented_of_kept, runs_of, sections_from, ticks_by_second, timed}
use Rattle.hls_presentation.specs.{Presenting.{timeline_with, track_of}, Sections.{group_at, groups_in, row_at, rows_of, section_count}}
use Rattle.hls_presentation.specs.{Sections.whole_faults, Tracks.{Source, is_kept, kept, left_out, sources, track_faults}}
use Rattle.hls_presentation.proofs.{Faults.given, Gathering.{all_gathered, length_gathered}}

-- ---- what a track has in a section

pub length_extents : (nanos start : ℕ) (group : List MediaSegment) → length (extents_from nanos start group) ≡ length group
length_extents nanos start [] = refl
length_extents nanos start (s ∷ rest) = ap suc (length_extents nanos (start + s.duration) rest)

pub closed : (xs : List Extent) → is_open (map Closed xs) ≡ false
closed [] = refl
closed (x ∷ xs) = closed xs

pub timed_ok : {X : Type 0} (r : Result X TimeFault) (x : X) → timed r ≡ Ok x → r ≡ Ok x
timed_ok (Ok y) x is = (let same : y ≡ x = cc in ap Ok same)
timed_ok (Err e) x is = absurd (cc)

pub unless_ok : (fault : Option TimeFault) (timeline runs : SegmentTimeline) → unless_fault fault timeline ≡ Ok runs → timeline ≡ runs
unless_ok None timeline runs is = cc
unless_ok (Some fault) timeline runs is = absurd (cc)

addressed : (nanos : ℕ) (group : List MediaSegment) (content : Content) → content_of nanos group ≡ Ok content → IsAddressed content.runs
addressed nanos group content is =
    let s = steps_of (initialization_of group) _ content is in
    let t = steps_of (runs_of nanos group) _ content s.then in
    let whole : timeline_with (ticks_by_second nanos) (parts_of group) (extents_from nanos 0 group) ≡ t.value =
    unless_ok _ _ t.value (timed_ok _ t.value t.first) in
    let same : content_with s.value t.value ≡ content = (let h = t.then in cc) in
    subst (λ (c : Content). IsAddressed c.runs) same (subst IsAddressed whole (record {
      parts = parts_of group;
      named = refl;
      ended = closed (extents_from nanos 0 group);
      paired = length-map _ _ ∙ length_extents nanos 0 group ∙ sym (length-map group part_of);
    }))

pub all_addressed : (nanos : ℕ) (rows : List (List (List MediaSegment))) (contents : List Content) → contents_of nanos rows ≡ Ok contents
    → All (λ (content : Content). IsAddressed content.runs) contents
all_addressed nanos rows contents is = all_gathered (content_of nanos) (λ (content : Content). IsAddressed content.runs) (addressed nanos)
    (flattened rows) contents is

pub all_ended : (nanos : ℕ) (rows : List (List (List MediaSegment))) (contents : List Content) → contents_of nanos rows ≡ Ok contents
    → All IsEnded contents
all_ended nanos rows contents is = All-weaker (λ (content : Content). IsAddressed content.runs) IsEnded (λ content is. is.ended) contents
    (all_addressed nanos rows contents is)

-- ---- one content for each section and track

length_rows : (tracks : List (List (List MediaSegment))) (places : List ℕ) → length (flattened (map (row_at tracks) places))
    ≡ length places * length tracks
length_rows tracks [] = omega arith
length_rows tracks (place ∷ places) =
    length-append (row_at tracks place) (flattened (map (row_at tracks) places))
    ∙ omega (arith, length-map tracks (group_at place), length_rows tracks places)

pub length_sections : (place start : ℕ) (rows : List (List (List MediaSegment))) → length (sections_from place start rows) ≡ length rows
length_sections place start [] = refl
length_sections place start (row ∷ rows) = ap suc (length_sections (place + 1) _ rows)

pub all_filled : (nanos : ℕ) (kept : List Source) (contents : List Content) → contents_of nanos (rows_of (map groups_in kept)) ≡ Ok contents
    → AreFilled (length (sections_from 0 0 (rows_of (map groups_in kept)))) (length (map track_of kept)) (length contents)
all_filled nanos kept contents is =
    let tracks = map groups_in kept in
    let count = section_count tracks in
    let one : length contents ≡ length (flattened (rows_of tracks)) = length_gathered (content_of nanos)
    (flattened (rows_of tracks)) contents is in
    let sections : length (sections_from 0 0 (rows_of tracks)) ≡ count = length_sections 0 0 (rows_of tracks) ∙ length-map _ _
    ∙ length-range_with_len 0 count in
    one ∙ length_rows tracks _ ∙ ap (λ n. n * length tracks) (length-range_with_len 0 count ∙ sym sections)
    ∙ ap (λ n. length (sections_from 0 0 (rows_of tracks)) * n) (length-map kept groups_in ∙ sym (length-map kept track_of))

-- ---- the whole

silent_sources : (P : MasterTrack → Type 0) (tracks : List MasterTrack) (medias : List Media) → All P tracks
    → All (λ (s : Source). P s.track) (sources tracks medias)
silent_sources P [] medias all = All-nil _
silent_sources P (track ∷ tracks) [] all = All-nil _
silent_sources P (track ∷ tracks) (media ∷ medias) all =
    All-cons (λ (s : Source). P s.track) (record { track = track; media = media }) (sources tracks medias) (All-head P track tracks all)
    (silent_sources P tracks medias (All-tail P track tracks all))

pub came : (tracks : List MasterTrack) (medias : List Media) (p : Presented) → hls_presented_of tracks medias ≡ Ok p
    → All IsSilentTrack tracks → CameFromPlaylists p
unfolding hls_presented_of presented_of_kept presented_from
came tracks medias p is silent =
    let all = sources tracks medias in
    let ours = kept all in
    let rows = rows_of (map groups_in ours) in
    let from = given (whole_faults (map groups_in ours)) _ p (given (track_faults all) _ p is) in
    let s = steps_of (contents_of (nanos_by_tick ours) rows) _ p from in
    let same : of_parts (parts_with ours (left_out all) rows s.value) ≡ p = (let h = s.then in cc) in
    subst CameFromPlaylists same (record {
      finished = refl;
      filled = all_filled (nanos_by_tick ours) ours s.value s.first;
      addressed = all_addressed (nanos_by_tick ours) rows s.value s.first;
      silent = All-map IsSilent track_of ours (All-filter is_kept (λ (s : Source). IsSilentTrack s.track) all
          (silent_sources IsSilentTrack tracks medias silent));
    })
