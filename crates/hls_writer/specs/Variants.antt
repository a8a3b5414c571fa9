-- The variants of a master playlist (RFC 8216, 4.3.4.2).
use Rattle.bridge_io.specs.declared.media.Kind.TheVariants as kind
use Rattle.std.specs.Prelude.{ℕ, Bool, is_some, ◌+◌, ◌*◌, ◌==◌, max, List, [], ◌∷◌, ◌++◌, map, slice_get, if◌then◌else◌, Option, Some, None}
use Rattle.std.specs.{Prelude.{option_map, option_and_then, option_to_list, unwrap_or}, List.{flat_map, list_any, slice_split}}
use Rattle.std.specs.Option.{option_map_or}
use Rattle.bridge_io.specs.{declared.media.Ratio.Ratio, declared.media.Size.Size}
use Rattle.track_hints.specs.declared.hints.Hints.{Hints}
use Rattle.presentation.specs.declared.track.Track.{Track}
use Rattle.audio_groups.specs.Groups.{same_text}
use Rattle.hls_writer.specs.Attributes.{WrittenAttribute, bandwidth, codecs, resolution, frame_rate, renditions, no_captions, playlist_name}
use Rattle.hls_writer.specs.{Finished.rounded, Lines.{WrittenLine, variant, uri, lines_text}, Renditions.{places_of, members_in, present}}
use Rattle.hls_writer.specs.{declared.attribute.RenditionGroup.TheVariants.{Audio, Subtitles}, declared.variants.Variant.Variant}
use Rattle.text_lists.specs.Lists.{parts_in}

-- a group without video, by the member of the first audio set
abbrev pub sound_variant : ℕ → List ℕ → Variant
sound_variant group members = record { video = None; group = Some group; track = unwrap_or (slice_get members 0) 0 }

-- one for each of the groups from a number on, after those that were found before
abbrev pub sound_variants : List Variant → (group : ℕ) → List (List ℕ) → List Variant
sound_variants found group [] = found
sound_variants found group (members ∷ later) = sound_variants (found ++ sound_variant group members ∷ []) (group + 1) later

-- a video track with a group, or without audio
abbrev pub video_variant : ℕ → Option ℕ → Variant
video_variant place group = record { video = Some place; group = group; track = place }

-- the numbers of the groups from a number on, after those that were found before
abbrev pub numbers_from : List (Option ℕ) → (group : ℕ) → List (List ℕ) → List (Option ℕ)
numbers_from found group [] = found
numbers_from found group (members ∷ later) = numbers_from (found ++ Some group ∷ []) (group + 1) later

-- each group, or `None` where there are none
abbrev pub choices : List (List ℕ) → List (Option ℕ)
choices [] = None ∷ []
choices (members ∷ later) = numbers_from [] 0 (members ∷ later)

abbrev pub video_variants : (videos : List ℕ) → (choices : List (Option ℕ)) → List Variant
video_variants videos choices = flat_map (λ place. map (video_variant place) choices) videos

-- the same by group, or without audio by video track
abbrev pub group_variants : (videos : List ℕ) → (choices : List (Option ℕ)) → List Variant
group_variants videos choices = flat_map (λ group. map (λ place. video_variant place group) videos) choices

-- for players by audio group, otherwise by video track
abbrev pub ordered_variants : Option Hints → (videos : List ℕ) → (choices : List (Option ℕ)) → List Variant
ordered_variants None videos choices = video_variants videos choices
ordered_variants (Some hints) videos choices = group_variants videos choices

-- One for each pair of a video track and an audio group. Without audio there is one for each video track, and without video one
-- for each audio group.
abbrev pub variants_with : Option Hints → (videos : List ℕ) → (groups : List (List ℕ)) → List Variant
variants_with players [] groups = sound_variants [] 0 groups
variants_with players (video ∷ videos) groups = ordered_variants players (video ∷ videos) (choices groups)

abbrev pub variants_of : Option Hints → List Track → (groups : List (List ℕ)) → List Variant
variants_of players tracks groups = variants_with players (places_of kind.Video tracks) groups

abbrev pub bandwidth_at : List Track → ℕ → ℕ
bandwidth_at tracks place = option_map_or (λ track. track.bandwidth) (slice_get tracks place) 0

-- the greatest bandwidth of some tracks, and 0 where there is none
abbrev pub greatest_from : List Track → ℕ → List ℕ → ℕ
greatest_from tracks most [] = most
greatest_from tracks most (place ∷ later) = greatest_from tracks (max most (bandwidth_at tracks place)) later

abbrev pub greatest : List Track → List ℕ → ℕ
greatest tracks places = greatest_from tracks 0 places

abbrev pub members_of : List (List ℕ) → Option ℕ → List ℕ
members_of groups group = option_map_or (members_in groups) group []

-- the video track's, and the greatest of the group's and of the text tracks
abbrev pub bandwidth_of : List Track → (groups : List (List ℕ)) → (texts : List ℕ) → Variant → ℕ
bandwidth_of tracks groups texts v =
    option_map_or (bandwidth_at tracks) v.video 0 + greatest tracks (members_of groups v.group) + greatest tracks texts

-- the video track, the group's tracks and the text tracks
abbrev pub cast_of : (groups : List (List ℕ)) → (texts : List ℕ) → Variant → List ℕ
cast_of groups texts v = option_to_list v.video ++ members_of groups v.group ++ texts

abbrev pub codecs_at : List Track → ℕ → Option (List ℕ)
codecs_at tracks place = option_and_then (λ track. track.codecs) (slice_get tracks place)

abbrev pub with_code : List (List ℕ) → List ℕ → List (List ℕ)
with_code found code = if list_any (same_text code) found then found else found ++ code ∷ []

abbrev pub with_codes : List (List ℕ) → List (List ℕ) → List (List ℕ)
with_codes found [] = found
with_codes found (code ∷ later) = with_codes (with_code found code) later

-- the codecs of a list
abbrev pub codes_in : List ℕ → List (List ℕ)
codes_in text = slice_split (λ b. b == 44) text

abbrev pub has_codes : List Track → ℕ → Bool
has_codes tracks place = is_some (codecs_at tracks place)

-- the codecs of each track, and none for a track whose codecs aren't known
abbrev pub code_lists : List Track → List (List (List ℕ))
code_lists tracks = map (λ track. parts_in track.codecs) tracks

-- the codecs of some tracks, each once, after those that were found before; `None` where one of the tracks has none
abbrev pub codes_from : List Track → List (List ℕ) → List ℕ → Option (List (List ℕ))
codes_from tracks found [] = Some found
codes_from tracks found (place ∷ later) =
    option_and_then (λ text. codes_from tracks (with_codes found (codes_in text)) later) (codecs_at tracks place)

unfoldable pub codes_of : List Track → List ℕ → Option (List (List ℕ))
codes_of tracks places = codes_from tracks [] places

abbrev pub size_at : List Track → ℕ → Option Size
size_at tracks place = option_and_then (λ track. track.size) (slice_get tracks place)

abbrev pub frame_rate_at : List Track → ℕ → Option Ratio
frame_rate_at tracks place = option_and_then (λ track. track.frame_rate) (slice_get tracks place)

-- in thousandths, rounded to the nearest one, halves up
abbrev pub thousandths_of : Ratio → ℕ
thousandths_of ratio = rounded ratio.m (1000 * ratio.n)

abbrev pub of_texts : List ℕ → Option WrittenAttribute
of_texts [] = None
of_texts (place ∷ places) = Some (renditions Subtitles)

abbrev pub of_sound : ℕ → WrittenAttribute
of_sound group = renditions (Audio group)

abbrev pub of_rate : Ratio → WrittenAttribute
of_rate ratio = frame_rate (thousandths_of ratio)

-- CLOSED-CAPTIONS=NONE, for players, where no video may contain any
abbrev pub of_captions : Option Hints → Option WrittenAttribute
of_captions None = None
of_captions (Some hints) = if hints.captions then None else Some no_captions

abbrev pub variant_attributes : Option Hints → List Track → (texts : List ℕ) → Option (List (List ℕ)) → Variant → List WrittenAttribute
variant_attributes players tracks texts codes v = present (
    option_map codecs codes
    ∷ option_map resolution (option_and_then (size_at tracks) v.video)
    ∷ option_map of_rate (option_and_then (frame_rate_at tracks) v.video)
    ∷ option_map of_sound v.group
    ∷ of_texts texts
    ∷ of_captions players
    ∷ []
    )

-- EXT-X-STREAM-INF, and the URI line after it
abbrev pub coded_lines : Option Hints → List Track → (groups : List (List ℕ)) → (texts : List ℕ) → Option (List (List ℕ)) → Variant
    → List WrittenLine
coded_lines players tracks groups texts codes v =
    variant (bandwidth (bandwidth_of tracks groups texts v)) (variant_attributes players tracks texts codes v)
    ∷ uri (playlist_name v.track) ∷ []

abbrev pub variant_lines : Option Hints → List Track → (groups : List (List ℕ)) → (texts : List ℕ) → Variant → List WrittenLine
variant_lines players tracks groups texts v = coded_lines players tracks groups texts (codes_of tracks (cast_of groups texts v)) v

abbrev pub coded_text : Option Hints → List Track → (groups : List (List ℕ)) → (texts : List ℕ) → Option (List (List ℕ)) → Variant
    → List ℕ
coded_text players tracks groups texts codes v = lines_text (coded_lines players tracks groups texts codes v)

abbrev pub variant_text : Option Hints → List Track → (groups : List (List ℕ)) → (texts : List ℕ) → Variant → List ℕ
variant_text players tracks groups texts v = lines_text (variant_lines players tracks groups texts v)
