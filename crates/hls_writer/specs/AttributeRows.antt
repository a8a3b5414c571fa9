-- Attributes as they are written.
use Rattle.hls_writer.specs.declared.attribute.Attribute.TheVariants as attribute
use Rattle.std.specs.{Prelude.{ℕ, List, map, Option, option_map}, Borrow.Bor}
use Rattle.hls_writer.specs.Attributes.{WrittenAttribute, media_type, group_id, name, label, language, default, autoselect, forced}
use Rattle.hls_writer.specs.Attributes.{describes_video, transcribes_sound, channels, playlist, bandwidth, codecs, resolution, frame_rate}
use Rattle.hls_writer.specs.{Attributes.{renditions, no_captions}, Renditions.present}
use Rattle.hls_writer.specs.declared.attribute.Attribute.{Attribute}

abbrev pub texts_of : List (Bor (List ℕ)) → List (List ℕ)
texts_of texts = map (λ text. text.now) texts

abbrev pub texts_in : Bor (List (Bor (List ℕ))) → List (List ℕ)
texts_in texts = texts_of texts.now

-- the value of an attribute
abbrev pub told : Attribute → WrittenAttribute
told (attribute.MediaType group) = media_type group
told (attribute.GroupId group) = group_id group
told (attribute.Name stem number) = name (option_map (λ stem. stem.now) stem) number
told (attribute.Label text) = label text.now
told (attribute.Language tag) = language tag.now
told (attribute.Default is) = default is
told (attribute.Autoselect is) = autoselect is
told attribute.Forced = forced
told attribute.DescribesVideo = describes_video
told attribute.TranscribesSound = transcribes_sound
told (attribute.Channels count) = channels count
told (attribute.Playlist track) = playlist track
told (attribute.Bandwidth bits) = bandwidth bits
told (attribute.Codecs list) = codecs (texts_of list.now)
told (attribute.Resolution size) = resolution size
told (attribute.FrameRate thousandths) = frame_rate thousandths
told (attribute.Renditions group) = renditions group
told attribute.NoCaptions = no_captions

-- the values of those that are present
abbrev pub all_told : List (Option Attribute) → List WrittenAttribute
all_told attributes = present (map (option_map told) attributes)
