-- The attributes of the lines of a master playlist, and their texts (RFC 8216, 4.2).
use Rattle.std.specs.{Prelude.{ℕ, ◌/◌, Bool, List, [], ◌∷◌, ◌++◌, codes, decimal, Option, if◌then◌else◌}, List.flat_map}
use Rattle.std.specs.Option.{option_map_or}
use Rattle.iso_time.specs.Digits.{padded_digits}
use Rattle.bridge_io.specs.declared.media.Size.{Size}
use Rattle.hls_writer.specs.{declared.attribute.RenditionGroup.RenditionGroup, declared.attribute.RenditionGroup.TheVariants.Audio}
use Rattle.hls_writer.specs.declared.attribute.RenditionGroup.TheVariants.{Subtitles}

pub data WrittenAttribute : Type 0 where
  -- TYPE of a rendition of a group
  media_type : (group : RenditionGroup) → WrittenAttribute
  -- GROUP-ID
  group_id : (group : RenditionGroup) → WrittenAttribute
  -- NAME: a label or a language, or that it is undetermined, and a number
  name : (stem : Option (List ℕ)) (number : ℕ) → WrittenAttribute
  -- NAME: a label alone
  label : (text : List ℕ) → WrittenAttribute
  -- LANGUAGE
  language : (tag : List ℕ) → WrittenAttribute
  -- DEFAULT
  default : (is : Bool) → WrittenAttribute
  -- AUTOSELECT
  autoselect : (is : Bool) → WrittenAttribute
  -- FORCED=YES
  forced : WrittenAttribute
  -- CHARACTERISTICS of audio that describes the video
  describes_video : WrittenAttribute
  -- CHARACTERISTICS of text that transcribes dialogue and sound
  transcribes_sound : WrittenAttribute
  -- CHANNELS
  channels : (count : ℕ) → WrittenAttribute
  -- URI of a track's playlist
  playlist : (track : ℕ) → WrittenAttribute
  -- BANDWIDTH, in bits per second
  bandwidth : (bits : ℕ) → WrittenAttribute
  -- CODECS
  codecs : (list : List (List ℕ)) → WrittenAttribute
  -- RESOLUTION, in pixels
  resolution : (size : Size) → WrittenAttribute
  -- FRAME-RATE, in thousandths of a frame per second
  frame_rate : (thousandths : ℕ) → WrittenAttribute
  -- AUDIO or SUBTITLES of a variant: its group of renditions
  renditions : (group : RenditionGroup) → WrittenAttribute
  -- CLOSED-CAPTIONS=NONE
  no_captions : WrittenAttribute

-- TYPE of a group's renditions, and the attribute by which a variant names the group
abbrev pub type_name : RenditionGroup → List ℕ
type_name (Audio number) = codes "AUDIO"
type_name Subtitles = codes "SUBTITLES"

abbrev pub group_letter : RenditionGroup → List ℕ
group_letter (Audio number) = codes "a"
group_letter Subtitles = codes "s"

abbrev pub group_number : RenditionGroup → ℕ
group_number (Audio number) = number
group_number Subtitles = 0

-- `a<number>`, or `s0`
abbrev pub group_bytes : RenditionGroup → List ℕ
group_bytes group = group_letter group ++ decimal (group_number group)

-- the label or the language, or that it is undetermined (ISO 639-2)
abbrev pub tag_or_undetermined : Option (List ℕ) → List ℕ
tag_or_undetermined tag = option_map_or (λ t. t) tag (codes "und")

abbrev pub yes_or_no : Bool → List ℕ
yes_or_no is = if is then codes "YES" else codes "NO"

-- `t<track>.m3u8`, the file of a track's playlist
abbrev pub playlist_name : ℕ → List ℕ
playlist_name track = codes "t" ++ decimal track ++ codes ".m3u8"

-- codecs joined by `,`
abbrev pub codes_bytes : List (List ℕ) → List ℕ
codes_bytes [] = []
codes_bytes (code ∷ others) = code ++ flat_map (λ other. 44 ∷ other) others

-- `<whole>.<three digits>`
abbrev pub thousandths_bytes : ℕ → List ℕ
thousandths_bytes thousandths = decimal (thousandths / 1000) ++ 46 ∷ padded_digits 3 thousandths

abbrev pub quoted : List ℕ → List ℕ
quoted text = 34 ∷ text ++ 34 ∷ []

-- `<name>=<value>`
unfoldable pub attribute_bytes : WrittenAttribute → List ℕ
attribute_bytes (media_type group) = codes "TYPE=" ++ type_name group
attribute_bytes (group_id group) = codes "GROUP-ID=" ++ quoted (group_bytes group)
attribute_bytes (name stem number) = codes "NAME=" ++ quoted (tag_or_undetermined stem ++ 45 ∷ decimal number)
attribute_bytes (label text) = codes "NAME=" ++ quoted text
attribute_bytes (language tag) = codes "LANGUAGE=" ++ quoted tag
attribute_bytes (default is) = codes "DEFAULT=" ++ yes_or_no is
attribute_bytes (autoselect is) = codes "AUTOSELECT=" ++ yes_or_no is
attribute_bytes forced = codes "FORCED=YES"
attribute_bytes describes_video = codes "CHARACTERISTICS=" ++ quoted (codes "public.accessibility.describes-video")
attribute_bytes transcribes_sound = codes "CHARACTERISTICS="
    ++ quoted (codes "public.accessibility.transcribes-spoken-dialog,public.accessibility.describes-music-and-sound")
attribute_bytes (channels count) = codes "CHANNELS=" ++ quoted (decimal count)
attribute_bytes (playlist track) = codes "URI=" ++ quoted (playlist_name track)
attribute_bytes (bandwidth bits) = codes "BANDWIDTH=" ++ decimal bits
attribute_bytes (codecs list) = codes "CODECS=" ++ quoted (codes_bytes list)
attribute_bytes (resolution size) = codes "RESOLUTION=" ++ decimal size.width ++ 120 ∷ decimal size.height
attribute_bytes (frame_rate thousandths) = codes "FRAME-RATE=" ++ thousandths_bytes thousandths
attribute_bytes (renditions group) = type_name group ++ codes "=" ++ quoted (group_bytes group)
attribute_bytes no_captions = codes "CLOSED-CAPTIONS=NONE"

-- attributes joined by `,`
abbrev pub further_bytes : List WrittenAttribute → List ℕ
further_bytes attributes = flat_map (λ attribute. 44 ∷ attribute_bytes attribute) attributes

abbrev pub attributes_bytes : WrittenAttribute → List WrittenAttribute → List ℕ
attributes_bytes first others = attribute_bytes first ++ further_bytes others
