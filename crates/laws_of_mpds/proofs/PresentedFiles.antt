-- What the files of a master and of its media playlists mean.
use Rattle.std.proofs.Common.{◌≡◌, ℕ, List, [], ◌∷◌, map, All, Option, Some, None, option_map, option_and_then, Result, Ok, Err, refl, ◌∙◌}
use Rattle.std.proofs.Common.{Bool, ap, false, filter, if◌then◌else◌, length, subst, true}
use Rattle.std.proofs.lemmas.List.Elements.{All-cons, All-head, All-nil, All-tail}
use Rattle.meaning.specs.Same.{SameTimed}
use Rattle.presentation.specs.Meanings.{meaning_of}
use Rattle.bridge_io.specs.{Firsts.first_some, Outside.Files, declared.place.Place.Place}
use Rattle.hls_lines.specs.{Lines.{PlaylistLine, lines_of}, declared.fault.LineFault.LineFault}
use Rattle.hls_master.specs.{declared.fault.MasterFault.MasterFault, declared.track.MasterTrack.MasterTrack, Faults.answer}
use Rattle.hls_master.specs.{Masters.{faults_of, master_by, master_in, master_of, master_values, values_by}, SeenTracks.track_seen}
use Rattle.hls_master.specs.Tracks.{TrackValue}
use Rattle.hls_media.specs.{Laws.IsBounded, declared.media.Media.Media}
use Rattle.hls_media.proofs.Bounded.{read_is_bounded, read_is_meant}
use Rattle.hls_meaning.specs.Meanings.{Source as Told, hls_meaning, is_kept, meaning_by, meaning_of_kept, meaning_of_sources, media_at}
use Rattle.hls_meaning.specs.Meanings.{media_by}
use Rattle.hls_meaning.specs.Meanings.{meaning_over, numbers_among, source_of, sources_of, track_over}
use Rattle.hls_presentation.specs.Tracks.{sources}
use Rattle.hls_presentation.proofs.Silent.{read_are_silent}
use Rattle.laws_of_mpds.specs.PresentedFiles.{ArePlaylists, IsPlaylist, ListedMeanTheirFiles, PresentedMeanTheirFiles, ended}
use Rattle.laws_of_mpds.specs.PresentedLaws.{told_by}
use Rattle.laws_of_mpds.proofs.PresentedMeant.{presented_mean_what_is_told}

-- ---- the master

answer_is : (fault : Option MasterFault) (values tracks : List TrackValue) → answer fault values ≡ Ok tracks → values ≡ tracks
answer_is None values tracks is = cc
answer_is (Some fault) values tracks is = absurd (cc)

values_are : (url : List ℕ) (end : Place) (lines : Result (List PlaylistLine) LineFault) (tracks : List TrackValue)
    → master_by url end lines ≡ Ok tracks → values_by url lines ≡ Some tracks
unfolding master_in
values_are url end (Ok lines) tracks is = ap Some (answer_is (first_some (faults_of url end lines)) _ tracks is)
values_are url end (Err fault) tracks is = absurd (cc)

master_is : (bytes url : List ℕ) (tracks : List TrackValue) → master_of bytes url ≡ Ok tracks → master_values bytes url ≡ Some tracks
unfolding master_of master_values
master_is bytes url tracks is = values_are url _ (lines_of bytes) tracks is

-- ---- the media playlists

module _ (files : Files) (folder : List ℕ) where
  media_is : (address : List ℕ) (media : Media) → IsPlaylist files folder address media → media_at files folder address ≡ Some media
  media_is address media is =
      let meant = read_is_meant is.bytes address media is.read in
      ap (option_and_then (λ bytes. media_by address (lines_of bytes))) is.found ∙ ap (media_by address) meant.1.0 ∙ ap Some meant.1.1

  sources_are : (tracks : List MasterTrack) (medias : List Media) → ArePlaylists files folder tracks medias
      → sources_of files folder (map track_seen tracks) ≡ Some (map told_by (sources tracks medias))
  sources_are [] [] are = refl
  sources_are [] (media ∷ medias) are = absurd are
  sources_are (track ∷ tracks) [] are = absurd are
  sources_are (track ∷ tracks) (media ∷ medias) are =
      let one : source_of files folder (track_seen track) ≡ Some (told_by (record { track = track; media = media })) =
      ap (option_map (λ (media : Media). record { track = track_seen track; media = media })) (media_is track.address media are.0) in
      ap (option_and_then (λ (source : Told). option_map (λ (others : List Told). source ∷ others)
      (sources_of files folder (map track_seen tracks)))) one
      ∙ ap (option_map (λ (others : List Told). told_by (record { track = track; media = media }) ∷ others))
      (sources_are tracks medias are.1)

  all_bounded : (tracks : List MasterTrack) (medias : List Media) → ArePlaylists files folder tracks medias → All IsBounded medias
  all_bounded [] [] are = All-nil IsBounded
  all_bounded [] (media ∷ medias) are = absurd are
  all_bounded (track ∷ tracks) [] are = absurd are
  all_bounded (track ∷ tracks) (media ∷ medias) are = All-cons IsBounded media medias
      (read_is_bounded are.0.bytes track.address media are.0.read) (all_bounded tracks medias are.1)

-- ---- playlists as if they were ended

abbrev ended_source : Told → Told
ended_source s = record s { media = ended s.media }

ended_sources : (tracks : List MasterTrack) (medias : List Media)
    → map told_by (sources tracks (map ended medias)) ≡ map ended_source (map told_by (sources tracks medias))
ended_sources [] medias = refl
ended_sources (track ∷ tracks) [] = refl
ended_sources (track ∷ tracks) (media ∷ medias) =
    ap (λ others. told_by (record { track = track; media = ended media }) ∷ others) (ended_sources tracks medias)

by_kept : (b : Bool) (s : Told) (same : List Told) (all : List Told) → same ≡ map ended_source all
    → (if b then ended_source s ∷ same else same) ≡ map ended_source (if b then s ∷ all else all)
by_kept true s same all is = ap (λ others. ended_source s ∷ others) is
by_kept false s same all is = is

kept_alike : (ss : List Told) → filter is_kept (map ended_source ss) ≡ map ended_source (filter is_kept ss)
kept_alike [] = refl
kept_alike (s ∷ ss) = by_kept (is_kept s) s (filter is_kept (map ended_source ss)) (filter is_kept ss) (kept_alike ss)

numbers_alike : (ss : List Told) (numbers : List ℕ) → numbers_among numbers (map ended_source ss) ≡ numbers_among numbers ss
numbers_alike [] numbers = refl
numbers_alike (s ∷ ss) numbers = numbers_alike ss _

tracks_alike : (numbers : List ℕ) (ss : List Told) → map (track_over numbers) (map ended_source ss) ≡ map (track_over numbers) ss
tracks_alike numbers [] = refl
tracks_alike numbers (s ∷ ss) = ap (λ others. track_over numbers s ∷ others) (tracks_alike numbers ss)

meant_alike : (ss : List Told) → meaning_of_sources (map ended_source ss) ≡ meaning_of_sources ss
unfolding meaning_of_sources
meant_alike ss =
    let kept = filter is_kept ss in
    ap meaning_of_kept (kept_alike ss)
    ∙ ap (λ numbers. meaning_over numbers (map ended_source kept)) (numbers_alike kept [])
    ∙ ap (λ tracks. record { sections = length (numbers_among [] kept); tracks = tracks }) (tracks_alike (numbers_among [] kept) kept)

ended_bounded : (medias : List Media) → All IsBounded medias → All IsBounded (map ended medias)
ended_bounded [] all = All-nil IsBounded
ended_bounded (media ∷ medias) all =
    let one = All-head IsBounded media medias all in
    All-cons IsBounded (ended media) (map ended medias) (record {
      target = one.target;
      sequence = one.sequence;
      few = one.few;
      segments = one.segments;
      sections = one.sections;
    }) (ended_bounded medias (All-tail IsBounded media medias all))

-- ---- the whole

pub presented_mean_their_files : PresentedMeanTheirFiles
unfolding hls_meaning
presented_mean_their_files files folder url tracks medias p master playlists is =
    let values = master_is master.bytes url (map track_seen tracks) master.read in
    let meaning = meaning_of_sources (map told_by (sources tracks medias)) in
    let meant : hls_meaning files folder url ≡ Some meaning =
    ap (option_and_then (λ bytes. meaning_by files folder (master_values bytes url))) master.found ∙ ap (meaning_by files folder) values
    ∙ ap (option_map meaning_of_sources) (sources_are files folder tracks medias playlists) in (
      meaning,
      (
        meant,
        presented_mean_what_is_told tracks medias p (all_bounded files folder tracks medias playlists)
            (read_are_silent master.bytes url tracks master.read) is,
      ),
    )

pub listed_mean_their_files : ListedMeanTheirFiles
unfolding hls_meaning
listed_mean_their_files files folder url tracks medias p master playlists is =
    let values = master_is master.bytes url (map track_seen tracks) master.read in
    let meaning = meaning_of_sources (map told_by (sources tracks medias)) in
    let meant : hls_meaning files folder url ≡ Some meaning =
    ap (option_and_then (λ bytes. meaning_by files folder (master_values bytes url))) master.found ∙ ap (meaning_by files folder) values
    ∙ ap (option_map meaning_of_sources) (sources_are files folder tracks medias playlists) in
    let alike : meaning_of_sources (map told_by (sources tracks (map ended medias))) ≡ meaning =
    ap meaning_of_sources (ended_sources tracks medias) ∙ meant_alike (map told_by (sources tracks medias)) in (
      meaning,
      (
        meant,
        subst (λ m. SameTimed m (meaning_of p)) alike
            (presented_mean_what_is_told tracks (map ended medias) p
            (ended_bounded medias (all_bounded files folder tracks medias playlists))
            (read_are_silent master.bytes url tracks master.read) is),
      ),
    )
