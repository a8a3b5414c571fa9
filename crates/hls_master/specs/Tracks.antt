-- The tracks of a master playlist: the distinct URLs that it mentions.
use Rattle.std.specs.Prelude.{ℕ, ◌+◌, ◌&&◌, not, Bool, false, List, [], ◌∷◌, ◌++◌, map, filter, length, nat_lt, bytes_eq, if◌then◌else◌}
use Rattle.std.specs.{Prelude.{Option, Some, None, option_and_then}, List.list_any, Option.{is_some, option_eq}}
use Rattle.bridge_io.specs.{Texts.is_among, declared.media.Kind.Kind, declared.media.Kind.TheVariants.{Video, Audio, Text}}
use Rattle.bridge_io.specs.declared.media.Size.{Size}
use Rattle.hls_master.specs.{Codes.{has_code_in, selected}, Mentions.MentionsValue, Renditions.{RenditionValue, same_kind}}
use Rattle.hls_master.specs.{Renditions.same_rendition_set, Variants.VariantValue}

pub record TrackValue : Type 0 where
  pub kind : Kind
  -- the number of its set, in the order of the tracks
  pub set : ℕ
  pub address : List ℕ
  pub language : Option (List ℕ)
  pub codecs : Option (List ℕ)
  -- bits per second
  pub bandwidth : ℕ
  pub size : Option Size
  pub frame_rate : Option (ℕ × ℕ)

-- a line that mentions a URL
pub data Mentioned : Type 0 where
  by_rendition : RenditionValue → Mentioned
  by_variant : VariantValue → Mentioned

abbrev pub address_of : Mentioned → List ℕ
address_of (by_rendition rendition) = rendition.address
address_of (by_variant variant) = variant.address

-- renditions first, then variants
abbrev pub mentioned : MentionsValue → List Mentioned
mentioned mentions = map by_rendition mentions.renditions ++ map by_variant mentions.variants

-- the first mention of each URL that isn't among those before
abbrev pub firsts_behind : List (List ℕ) → List Mentioned → List Mentioned
firsts_behind before [] = []
firsts_behind before (mention ∷ mentions) = if is_among (address_of mention) before then firsts_behind before mentions
    else mention ∷ firsts_behind (address_of mention ∷ before) mentions

unfoldable pub firsts_of : MentionsValue → List Mentioned
firsts_of mentions = firsts_behind [] (mentioned mentions)

-- a list, where it has at most 200 members
abbrev pub few : List Mentioned → Option (List Mentioned)
few mentions = if nat_lt 200 (length mentions) then None else Some mentions

-- CODECS has a codec of class audio, and none of class video or unknown
abbrev pub is_audio_variant : VariantValue → Bool
is_audio_variant variant = has_code_in Audio variant.shown.codecs && not (has_code_in Video variant.shown.codecs)

abbrev pub variant_kind : VariantValue → Kind
variant_kind variant = if is_audio_variant variant then Audio else Video

abbrev pub kind_of : Mentioned → Kind
kind_of (by_rendition rendition) = rendition.kind
kind_of (by_variant variant) = variant_kind variant

-- both are of the same set: renditions of the same kind, name and language, or variants of the same kind
abbrev pub same_set : Mentioned → Mentioned → Bool
same_set (by_rendition one) (by_rendition other) = same_rendition_set one other
same_set (by_variant one) (by_variant other) = same_kind (variant_kind one) (variant_kind other)
same_set one other = false

-- the first mention of each set that isn't among those before
abbrev pub sets_behind : List Mentioned → List Mentioned → List Mentioned
sets_behind before [] = before
sets_behind before (mention ∷ mentions) =
    sets_behind (if list_any (same_set mention) before then before else before ++ mention ∷ []) mentions

abbrev pub has_kind : Kind → Mentioned → Bool
has_kind kind mention = same_kind kind (kind_of mention)

-- mentions by their kinds: video, audio, text
abbrev pub by_kind : List Mentioned → List Mentioned
by_kind mentions = filter (has_kind Video) mentions ++ filter (has_kind Audio) mentions ++ filter (has_kind Text) mentions

-- the group of a kind that a variant names
abbrev pub group_of : Kind → VariantValue → Option (List ℕ)
group_of Audio variant = variant.audio
group_of Text variant = variant.subtitles
group_of Video variant = None

-- the CODECS of the first variant that names a group and has some
abbrev pub group_codecs : Kind → List ℕ → List VariantValue → Option (List ℕ)
group_codecs kind group [] = None
group_codecs kind group (variant ∷ variants) =
    if option_eq bytes_eq (group_of kind variant) (Some group) && is_some variant.shown.codecs then variant.shown.codecs
    else group_codecs kind group variants

-- the bits per second of a rendition, for which HLS gives none
abbrev pub rendition_bandwidth : Kind → ℕ
rendition_bandwidth Text = 1000
rendition_bandwidth kind = 128000

abbrev pub rendition_track : List VariantValue → ℕ → RenditionValue → TrackValue
rendition_track variants set rendition = record {
  kind = rendition.kind;
  set = set;
  address = rendition.address;
  language = rendition.language;
  codecs = option_and_then (selected rendition.kind) (group_codecs rendition.kind rendition.group variants);
  bandwidth = rendition_bandwidth rendition.kind;
  size = None;
  frame_rate = None;
}

abbrev pub variant_track : ℕ → VariantValue → TrackValue
variant_track set variant = record {
  kind = variant_kind variant;
  set = set;
  address = variant.address;
  language = None;
  codecs = option_and_then (selected (variant_kind variant)) variant.shown.codecs;
  bandwidth = variant.bandwidth;
  size = variant.shown.size;
  frame_rate = variant.shown.frame_rate;
}

-- the track of a URL by its first mention
abbrev pub track_of : List VariantValue → ℕ → Mentioned → TrackValue
track_of variants set (by_rendition rendition) = rendition_track variants set rendition
track_of variants set (by_variant variant) = variant_track set variant

-- the tracks of sets, which are numbered from a number on, in the order of the sets and then of the mentions
abbrev pub tracks_of_sets : List VariantValue → List Mentioned → ℕ → List Mentioned → List TrackValue
tracks_of_sets variants firsts number [] = []
tracks_of_sets variants firsts number (set ∷ sets) =
    map (track_of variants number) (filter (same_set set) firsts) ++ tracks_of_sets variants firsts (number + 1) sets

-- the tracks of first mentions: video, audio and text; of these the sets by their first mention; of a set the tracks by their first
-- mention
unfoldable pub tracks_among : List VariantValue → List Mentioned → List TrackValue
tracks_among variants firsts = tracks_of_sets variants firsts 0 (sets_behind [] (by_kind firsts))

unfoldable pub tracks_of : MentionsValue → List TrackValue
tracks_of mentions = tracks_among mentions.variants (firsts_of mentions)
