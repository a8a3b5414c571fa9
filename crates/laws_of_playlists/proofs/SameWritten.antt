-- A presentation's files mean what it means.
use Rattle.std.proofs.Common.{◌≡◌, ℕ, ◌+◌, ◌<◌, List, [], ◌∷◌, ◌++◌, length, map, Option, None, Some, refl, ◌∙◌, ap, arith, append_assoc}
use Rattle.std.specs.Prelude.{option_and_then, option_map}
use Rattle.bridge_io.specs.{declared.media.Kind.Kind, declared.media.Kind.TheVariants.{Video, Audio, Text}, Outside.Files}
use Rattle.url_parts.specs.Addresses.{folder_of}
use Rattle.hls_lines.specs.Lines.{lines_of}
use Rattle.hls_master.specs.{Masters.master_values, Tracks.TrackValue}
use Rattle.hls_media.specs.{Media.media_values, declared.media.Media.Media}
use Rattle.hls_meaning.specs.Meanings.{Source, file_at, hls_meaning, meaning_by, meaning_of_sources, media_at, media_by, source_of}
use Rattle.hls_meaning.specs.Meanings.{sources_of}
use Rattle.presentation.specs.{declared.track.Track.Track, Meanings.language_of, Presented.Presented}
use Rattle.hls_writer.specs.{Attributes.playlist_name, Finished.{media_text, targets_of}, Master.master_text}
use Rattle.laws_of_playlists.specs.{Master.{Head, MasterIsRead, head_at, head_of, heads_from, told_language}, ReadMedia.TracksAreRead}
use Rattle.track_hints.specs.declared.hints.Hints.{Hints}
use Rattle.laws_of_playlists.specs.{ReadMedia.{media_with, track_media}, Same.{AreReadFrom, ReadMeanTheSame}}
use Rattle.laws_of_playlists.specs.SameFiles.{HoldTracks, HoldsFiles}
use Rattle.laws_of_playlists.specs.SameFiles.{TracksMeanTheSame, WrittenMeanTheSame, master_name, playlist_under}
use Rattle.laws_of_playlists.proofs.{SameFolders.{file_under, folder_under}, TrackPlaylists.all_short}

same_language : (kind : Kind) (language : Option (List ℕ)) → told_language kind language ≡ language_of kind language
same_language Video language = refl
same_language Audio language = refl
same_language Text language = refl

abbrev source_with : TrackValue → Media → Source
source_with track media = record { track = track; media = media }

some_mapped : {X Y : Type 0} (f : X → Y) (o : Option X) (y : Y) → option_map f o ≡ Some y → (x : X) × ((o ≡ Some x) × (f x ≡ y))
some_mapped f None y is = absurd (cc)
some_mapped f (Some x) y is = (x, (refl, cc))

module _ (p : Presented) (digits : ℕ) (files : Files) (folder prefix : List ℕ) (players : Option Hints)
    (holds : HoldsFiles prefix (length p.tracks)) (tracks : HoldTracks files folder prefix players p digits) where
  abbrev IsFound : ℕ → (address : List ℕ) → Type 0
  IsFound t address = (media : Media) × ((media_at files folder address ≡ Some media)
      × (media.segments ≡ (track_media p digits t).segments))

  media_found : (t : ℕ) (address : List ℕ) → t < length p.tracks → address ≡ (folder ++ prefix) ++ playlist_name t → IsFound t address
  media_found t address within is =
      let own = tracks.playlists t within in let read = own.reads in
      let at : address ≡ playlist_under folder prefix t = is ∙ append_assoc folder prefix (playlist_name t) in
      let there : file_at files folder address ≡ Some own.text = ap (file_at files folder) at
      ∙ file_under files folder (prefix ++ playlist_name t) (holds.playlists t within) ∙ own.there in (
        read.0,
        (
          ap (λ found. option_and_then (λ bytes. media_by address (lines_of bytes)) found) there ∙ ap (media_by address) read.1.0.1.0
              ∙ ap Some (ap (λ url. media_values url read.1.0.0) at ∙ read.1.0.1.1),
          read.1.1,
        ),
      )

  -- the tracks with their playlists
  abbrev Found : ℕ → List Track → List TrackValue → Type 0
  Found t tracks values = (sources : List Source) × ((sources_of files folder values ≡ Some sources)
      × AreReadFrom p digits t tracks sources)

  found_from : (t : ℕ) (tracks : List Track) (values : List TrackValue) → t + length tracks ≡ length p.tracks
      → map head_of values ≡ heads_from (folder ++ prefix) t tracks → Found t tracks values
  found_from t [] [] all heads = ([], (refl, tt))
  found_from t [] (value ∷ values) all heads = absurd (cc)
  found_from t (track ∷ tracks) [] all heads = absurd (cc)
  found_from t (track ∷ tracks) (value ∷ values) all heads =
      let first : head_of value ≡ head_at (folder ++ prefix) t track = cc in
      let others : map head_of values ≡ heads_from (folder ++ prefix) (t + 1) tracks = cc in
      let later = found_from (t + 1) tracks values (omega arith) others in
      let found = media_found t value.address (omega arith) (ap (λ (head : Head). head.address) first) in
      let source : Source = source_with value found.0 in
      let own : source_of files folder value ≡ Some source = ap (option_map (source_with value)) found.1.0 in (
        source ∷ later.0,
        (
          ap (option_and_then (λ (source : Source). option_map (λ sources. source ∷ sources) (sources_of files folder values))) own
              ∙ ap (option_map (λ sources. source ∷ sources)) later.1.0,
          (
            record {
              kind = ap (λ (head : Head). head.kind) first;
              language = ap (λ (head : Head). head.language) first
                  ∙ same_language track.kind track.language;
              segments = found.1.1;
            },
            later.1.1,
          ),
        ),
      )

pub tracks_mean_the_same : MasterIsRead → ReadMeanTheSame → TracksMeanTheSame
unfolding hls_meaning master_text
tracks_mean_the_same master same p digits files folder prefix players fit writable own holds tracks =
    let url : List ℕ = folder ++ (prefix ++ master_name) in
    let under : folder_of url ≡ folder ++ prefix = folder_under folder prefix master_name own holds.folder refl refl in
    let text : file_at files folder url ≡ Some (master_text players p) = file_under files folder (prefix ++ master_name) holds.master
    ∙ tracks.master in
    let values = some_mapped (λ (values : List TrackValue). map head_of values) (master_values (master_text players p) url) _
    (master players p.tracks url fit writable.tracks) in
    let sources =
    found_from p digits files folder prefix players holds tracks 0 p.tracks values.0 (omega arith) (values.1.1
    ∙ ap (λ base. heads_from base 0 p.tracks) under) in
    let meant : hls_meaning files folder url ≡ Some (meaning_of_sources sources.0) =
    ap (λ found. option_and_then (λ bytes. meaning_by files folder (master_values bytes url)) found) text
    ∙ ap (meaning_by files folder) values.1.0 ∙ ap (option_map meaning_of_sources) sources.1.0 in
    (meaning_of_sources sources.0, (meant, same p digits sources.0 writable.verified writable.few writable.ordered sources.1.1))

pub written_mean_the_same : TracksMeanTheSame → TracksAreRead → WrittenMeanTheSame
written_mean_the_same same read p digits files folder prefix place players fit readable own holds spells written =
    let targets = targets_of players in
    let shorts = all_short targets p digits (λ t within. (readable.playlists t within).short) in
    same p digits files folder prefix players fit readable.writable own holds (record {
      master = written.master;
      playlists = λ t within. record {
        text = media_text (place t) targets p digits t;
        there = written.playlists t within;
        reads = (
          media_with targets p digits t,
          (
            read (place t) targets p digits t (playlist_under folder prefix t) (spells t within) within (readable.playlists t within)
                shorts,
            refl,
          ),
        );
      };
    })
