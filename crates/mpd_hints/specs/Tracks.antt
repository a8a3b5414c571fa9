-- What an MPD says of the kept Representations of a Period: ISO/IEC 23009-1, 5.8.2 and 5.8.4 (descriptors) and 5.8.5.5 (the
-- role scheme).
use Rattle.std.specs.Prelude.{ℕ, ◌-◌, ◌&&◌, ◌||◌, nat_le, Bool, List, [], ◌∷◌, map, filter, flat_map, find, codes, if◌then◌else◌}
use Rattle.std.specs.{Prelude.{Option, Some, None, option_and_then, unwrap_or}, List.list_any}
use Rattle.bridge_io.specs.{declared.media.Kind.Kind, declared.media.Kind.TheVariants.{Video, Audio, Text}}
use Rattle.mpd_tree.specs.{Trees.Element, Views.side_by_side}
use Rattle.mpd_profile.specs.Heads.{is_named, is_word, value_named}
use Rattle.mpd_rules.specs.{Kept.{representations_of, sets_of}, Typed.kind_in}
use Rattle.presentation.specs.Order.{by_kind, is_of}
use Rattle.track_hints.specs.declared.hints.TrackHints.{TrackHints}
use Rattle.mpd_hints.specs.{declared.tracks.Told.Told, Labels.label_of}

-- ---- descriptors

abbrev pub has_scheme : List ℕ → Element → Bool
has_scheme scheme e = is_word scheme (value_named (codes "schemeIdUri") e.head)

-- an element of this name with this scheme and this value
abbrev pub is_told : (name scheme value : List ℕ) → Element → Bool
is_told name scheme value e = is_named name e && (has_scheme scheme e && is_word value (value_named (codes "value") e.head))

abbrev pub tells : (name scheme value : List ℕ) → (set : Element) → Bool
tells name scheme value set = list_any (is_told name scheme value) (side_by_side set.children)

abbrev pub role_scheme : List ℕ
role_scheme = codes "urn:mpeg:dash:role:2011"

-- the purposes of audio of TV-Anytime (ETSI TS 102 822-3-1)
abbrev pub purpose_scheme : List ℕ
purpose_scheme = codes "urn:tva:metadata:cs:AudioPurposeCS:2007"

abbrev pub has_role : List ℕ → (set : Element) → Bool
has_role value set = tells (codes "Role") role_scheme value set

abbrev pub has_accessibility : (scheme value : List ℕ) → (set : Element) → Bool
has_accessibility scheme value set = tells (codes "Accessibility") scheme value set

-- audio that describes the video, for those who can't see it
abbrev pub describes : (set : Element) → Bool
describes set =
    has_role (codes "description") set
    || (has_accessibility role_scheme (codes "description") set || has_accessibility purpose_scheme (codes "1") set)

-- text that transcribes dialogue and sound, for those who can't hear them
abbrev pub transcribes : (set : Element) → Bool
transcribes set = has_role (codes "caption") set || has_accessibility role_scheme (codes "caption") set

-- text that is to be shown although subtitles aren't chosen; both spellings are in use
abbrev pub is_forced : (set : Element) → Bool
is_forced set = has_role (codes "forced-subtitle") set || has_role (codes "forced_subtitle") set

-- ---- the number of channels, by an index that is the number up to 6 (ISO/IEC 23091-3, ChannelConfiguration)

abbrev pub is_configuration : Element → Bool
is_configuration e = is_named (codes "AudioChannelConfiguration") e
    && (has_scheme (codes "urn:mpeg:dash:23003:3:audio_channel_configuration:2011") e
    || has_scheme (codes "urn:mpeg:mpegB:cicp:ChannelConfiguration") e)

-- one digit from 1 to 6
abbrev pub count_in : List ℕ → Option ℕ
count_in [] = None
count_in (b ∷ []) = if nat_le 49 b && nat_le b 54 then Some (b - 48) else None
count_in (b ∷ (c ∷ more)) = None

abbrev pub channels_by : (configuration : Element) → Option ℕ
channels_by configuration = option_and_then count_in (value_named (codes "value") configuration.head)

-- the first one of these schemes
abbrev pub configuration_in : Element → Option Element
configuration_in e = find is_configuration (side_by_side e.children)

-- by its configuration, where there is one, otherwise those of its set
abbrev pub channels_over : (of_set : Option ℕ) → Option Element → Option ℕ
channels_over of_set None = of_set
channels_over of_set (Some configuration) = channels_by configuration

-- ---- Representations

-- what a set says, whatever the kind of its Representations
abbrev pub said_by : (set : Element) → TrackHints
said_by set = record {
  label = label_of set;
  main = has_role (codes "main") set;
  describes = describes set;
  transcribes = transcribes set;
  forced = is_forced set;
  channels = option_and_then channels_by (configuration_in set);
}

-- and what of it counts for a Representation of a kind, together with what that says itself
abbrev pub hints_over : (of_set : TrackHints) → Kind → (representation : Element) → TrackHints
hints_over of_set kind representation = record {
  label = of_set.label;
  main = of_set.main;
  describes = is_of Audio kind && of_set.describes;
  transcribes = is_of Text kind && of_set.transcribes;
  forced = is_of Text kind && of_set.forced;
  channels = if is_of Audio kind then channels_over of_set.channels (configuration_in representation) else None;
}

-- the kind of a kept Representation, by its own media type or else its set's
abbrev pub kind_over : (of_set : Option Kind) → (representation : Element) → Kind
kind_over of_set representation = unwrap_or (kind_in of_set representation) Video

abbrev pub told_over : Option Kind → TrackHints → (representation : Element) → Told
told_over kind said representation = record {
  kind = kind_over kind representation;
  hints = hints_over said (kind_over kind representation) representation;
}

abbrev pub told_at : (set representation : Element) → Told
told_at set representation = told_over (kind_in None set) (said_by set) representation

-- ---- the kept Representations of a Period, in document order

abbrev pub told_in_set : Element → List Told
told_in_set set = map (told_at set) (representations_of set)

abbrev pub told_in : Element → List Told
told_in period = flat_map told_in_set (sets_of period)

abbrev pub told_in_first : List Element → List Told
told_in_first [] = []
told_in_first (period ∷ periods) = told_in period

abbrev pub hints_of_kind : Kind → List Told → List TrackHints
hints_of_kind kind tolds = map (λ (told : Told). told.hints) (filter (λ (told : Told). is_of kind told.kind) tolds)

-- video, then audio, then text, each in document order
abbrev pub in_order : List Told → List TrackHints
in_order tolds = map (λ (told : Told). told.hints) (by_kind (λ (told : Told). told.kind) tolds)
