-- That no video track of a master that is read has a language.
use Rattle.std.proofs.Common.{◌≡◌, ℕ, ◌+◌, Bool, true, false, cond, List, [], ◌∷◌, map, flat_map, All, Option, Some, None, option_map}
use Rattle.std.proofs.{Common.{option_and_then, Result, Ok, Err, refl, subst}, lemmas.List.Elements.{All-nil, All-cons, All-head, All-tail}}
use Rattle.std.proofs.lemmas.List.Elements.{All-append, All-map, All-filter, All-weaker}
use Rattle.std.specs.{Prelude.codes, Option.option_to_list}
use Rattle.bridge_io.specs.{Firsts.first_some, Texts.is_among, declared.media.Kind.Kind, declared.media.Kind.TheVariants.{Video, Audio}}
use Rattle.bridge_io.specs.{declared.media.Kind.TheVariants.Text, declared.place.Place.Place}
use Rattle.hls_lines.specs.{Attributes.{NameValue, attributes_of, value_of}, Lines.{PlaylistLine, lines_of}}
use Rattle.hls_lines.specs.declared.fault.LineFault.{LineFault}
use Rattle.hls_master.specs.{declared.fault.MasterFault.MasterFault, declared.track.MasterTrack.MasterTrack, Entries.MasterEntry}
use Rattle.hls_master.specs.{Entries.{rendition, variant, stray, known_lines, entries_of}, Faults.answer, Masters.{faults_of, master_by}}
use Rattle.hls_master.specs.{Masters.{master_in, master_of, mentions_in}, Mentions.{MentionsValue, entry_rendition}}
use Rattle.hls_master.specs.{Renditions.{RenditionValue, kind_in, kind_of_type, rendition_value, rendition_with}, SeenTracks.track_seen}
use Rattle.hls_master.specs.Tracks.{Mentioned, TrackValue, address_of, by_rendition, by_variant, firsts_behind, firsts_of, mentioned}
use Rattle.hls_master.specs.{Tracks.{same_set, track_of, tracks_among, tracks_of, tracks_of_sets}, Variants.VariantValue}
use Rattle.hls_presentation.specs.Origins.{IsSilentTrack, ReadAreSilent}

-- ---- renditions are audio or text

abbrev IsSound : RenditionValue → Type 0
IsSound one = one.kind ≡ Video → ⊥

kind_by : (audio text : Bool) (kind : Kind) → cond audio (Some Audio) (cond text (Some Text) None) ≡ Some kind → kind ≡ Video → ⊥
kind_by true text kind is video = cc
kind_by false true kind is video = cc
kind_by false false kind is video = cc

type_sound : (type : Option (List ℕ)) (kind : Kind) → option_and_then kind_of_type type ≡ Some kind → kind ≡ Video → ⊥
type_sound None kind is video = cc
type_sound (Some type) kind is video = kind_by _ _ kind is video

one_sound : (master : List ℕ) (attributes : List NameValue) (kind : Option Kind) → kind_in attributes ≡ kind
    → All IsSound (option_to_list (option_map (rendition_with master attributes) kind))
one_sound master attributes None is = All-nil IsSound
one_sound master attributes (Some kind) is = All-cons IsSound (rendition_with master attributes kind) []
    (type_sound (value_of (codes "TYPE") attributes) kind is) (All-nil IsSound)

value_sound : (master : List ℕ) (attributes : Result (List NameValue) LineFault)
    → All IsSound (option_to_list (rendition_value master attributes))
value_sound master (Ok attributes) = one_sound master attributes (kind_in attributes) refl
value_sound master (Err fault) = All-nil IsSound

entry_sound : (master : List ℕ) (entry : MasterEntry) → All IsSound (entry_rendition master entry)
entry_sound master (rendition rest place) = value_sound master (attributes_of rest place)
entry_sound master (variant rest place uri uri_place) = All-nil IsSound
entry_sound master (stray fault) = All-nil IsSound

all_sound : (master : List ℕ) (entries : List MasterEntry) → All IsSound (flat_map (entry_rendition master) entries)
all_sound master [] = All-nil IsSound
all_sound master (entry ∷ entries) = All-append IsSound _ _ (entry_sound master entry) (all_sound master entries)

-- ---- and so are their mentions

IsSoundMention : Mentioned → Type 0
IsSoundMention (by_rendition one) = IsSound one
IsSoundMention (by_variant one) = Unit {0}

mentions_sound : (mentions : MentionsValue) → All IsSound mentions.renditions → All IsSoundMention (mentioned mentions)
unfolding IsSoundMention
mentions_sound mentions sound = All-append IsSoundMention _ _ (All-map IsSoundMention by_rendition mentions.renditions sound)
    (All-map IsSoundMention by_variant mentions.variants (λ k d within. tt))

module _ (P : Mentioned → Type 0) where
  first_by : (mention : Mentioned) (before : List (List ℕ)) (b : Bool) (others later : List Mentioned) → P mention → All P others
      → All P later → All P (cond b others (mention ∷ later))
  first_by mention before true others later one all more = all
  first_by mention before false others later one all more = All-cons P mention later one more

  firsts_all : (before : List (List ℕ)) (mentions : List Mentioned) → All P mentions → All P (firsts_behind before mentions)
  firsts_all before [] all = All-nil P
  firsts_all before (mention ∷ mentions) all =
      first_by mention before (is_among (address_of mention) before) _ _ (All-head P mention mentions all)
      (firsts_all before mentions (All-tail P mention mentions all))
      (firsts_all (address_of mention ∷ before) mentions (All-tail P mention mentions all))

-- ---- so their tracks are silent

abbrev IsSilentValue : TrackValue → Type 0
IsSilentValue track = track.kind ≡ Video → track.language ≡ None

track_silent : (variants : List VariantValue) (number : ℕ) (mention : Mentioned) → IsSoundMention mention
    → IsSilentValue (track_of variants number mention)
unfolding IsSoundMention
track_silent variants number (by_rendition one) sound = λ video. absurd (sound video)
track_silent variants number (by_variant one) sound = λ video. refl

sets_silent : (variants : List VariantValue) (firsts : List Mentioned) → All IsSoundMention firsts → (number : ℕ) (sets : List Mentioned)
    → All IsSilentValue (tracks_of_sets variants firsts number sets)
sets_silent variants firsts sound number [] = All-nil IsSilentValue
sets_silent variants firsts sound number (set ∷ sets) =
    All-append IsSilentValue _ _
    (All-map IsSilentValue (track_of variants number) _ (All-weaker IsSoundMention _ (track_silent variants number) _
    (All-filter (same_set set) IsSoundMention firsts sound)))
    (sets_silent variants firsts sound (number + 1) sets)

tracks_silent : (mentions : MentionsValue) → All IsSound mentions.renditions → All IsSilentValue (tracks_of mentions)
unfolding tracks_of tracks_among firsts_of
tracks_silent mentions sound = sets_silent mentions.variants _ (firsts_all IsSoundMention [] (mentioned mentions)
    (mentions_sound mentions sound)) 0 _

-- ---- the whole

answer_silent : (fault : Option MasterFault) (values tracks : List TrackValue) → All IsSilentValue values → answer fault values ≡ Ok tracks
    → All IsSilentValue tracks
answer_silent None values tracks all is = (let same : values ≡ tracks = cc in subst (All IsSilentValue) same all)
answer_silent (Some fault) values tracks all is = absurd (cc)

lines_silent : (master : List ℕ) (end : Place) (lines : Result (List PlaylistLine) LineFault) (tracks : List TrackValue)
    → master_by master end lines ≡ Ok tracks → All IsSilentValue tracks
unfolding master_in
lines_silent master end (Ok lines) tracks is = answer_silent (first_some (faults_of master end lines)) _ tracks
    (tracks_silent (mentions_in master lines) (all_sound master (entries_of (known_lines lines)))) is
lines_silent master end (Err fault) tracks is = absurd (cc)

seen_silent : (tracks : List MasterTrack) → All IsSilentValue (map track_seen tracks) → All IsSilentTrack tracks
seen_silent [] all = All-nil IsSilentTrack
seen_silent (track ∷ tracks) all =
    All-cons IsSilentTrack track tracks (All-head IsSilentValue (track_seen track) (map track_seen tracks) all)
    (seen_silent tracks (All-tail IsSilentValue (track_seen track) (map track_seen tracks) all))

pub read_are_silent : ReadAreSilent
unfolding master_of
read_are_silent bytes url tracks is = seen_silent tracks (lines_silent url _ (lines_of bytes) (map track_seen tracks) is)
