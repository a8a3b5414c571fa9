-- The tags of media playlists, by name (RFC 8216 4.3, and its second edition's draft).
use Rattle.std.specs.Prelude.{ℕ, List, codes, bytes_eq, ◌||◌, if◌then◌else◌}
use Rattle.hls_media.specs.{declared.tag.Tag.Tag, declared.tag.Tag.TheVariants.{TargetDuration, MediaSequence, DiscontinuitySequence}}
use Rattle.hls_media.specs.declared.tag.Tag.TheVariants.{Duration, ByteRange, Discontinuity, Map, EndList, Key, SessionKey, DateRange}
use Rattle.hls_media.specs.declared.tag.Tag.TheVariants.{LowLatency, Unsupported, Master, Other}

abbrev pub refused_tag_of : List ℕ → Tag
refused_tag_of name =
    if bytes_eq name (codes "EXT-X-SESSION-KEY") then SessionKey
    else (if bytes_eq name (codes "EXT-X-DATERANGE") then DateRange
    else (if bytes_eq name (codes "EXT-X-PART") || bytes_eq name (codes "EXT-X-PART-INF") || bytes_eq name (codes "EXT-X-PRELOAD-HINT")
    || bytes_eq name (codes "EXT-X-SKIP") then LowLatency
    else (if bytes_eq name (codes "EXT-X-GAP") || bytes_eq name (codes "EXT-X-DEFINE") || bytes_eq name (codes "EXT-X-I-FRAMES-ONLY")
    then Unsupported
    else (if bytes_eq name (codes "EXT-X-STREAM-INF") || bytes_eq name (codes "EXT-X-MEDIA")
    || bytes_eq name (codes "EXT-X-I-FRAME-STREAM-INF") then Master
    else Other))))

abbrev pub list_tag_of : List ℕ → Tag
list_tag_of name =
    if bytes_eq name (codes "EXT-X-TARGETDURATION") then TargetDuration
    else (if bytes_eq name (codes "EXT-X-MEDIA-SEQUENCE") then MediaSequence
    else (if bytes_eq name (codes "EXT-X-DISCONTINUITY-SEQUENCE") then DiscontinuitySequence
    else (if bytes_eq name (codes "EXT-X-ENDLIST") then EndList
    else refused_tag_of name)))

-- the tag of a name
unfoldable pub tag_of : List ℕ → Tag
tag_of name =
    if bytes_eq name (codes "EXTINF") then Duration
    else (if bytes_eq name (codes "EXT-X-BYTERANGE") then ByteRange
    else (if bytes_eq name (codes "EXT-X-DISCONTINUITY") then Discontinuity
    else (if bytes_eq name (codes "EXT-X-MAP") then Map
    else (if bytes_eq name (codes "EXT-X-KEY") then Key
    else list_tag_of name))))
