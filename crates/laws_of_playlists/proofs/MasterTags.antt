-- What a master's lines carry, and what is read of them.
use Rattle.std.proofs.Common.{◌≡◌, ℕ, Bool, true, false, not, ◌||◌, cond, eqb, List, [], ◌∷◌, ◌++◌, map, flat_map, codes, bytes_eq}
use Rattle.std.proofs.Common.{All, Option, Some, None, option_map, option_and_then, option_to_list, Ok, IfSome, unwrap_or, refl, sym, ◌∙◌}
use Rattle.std.proofs.{Common.{ap, subst, arith, inl, inr}, lemmas.Bool.{and_parts, cases_Bool, or_parts}, lemmas.Bool.Decides.nat_tests}
use Rattle.std.proofs.lemmas.Option.{get_or_from_slice_get, slice_get_within}
use Rattle.std.specs.{Bool.⊤, List.{AllByRecursion, list_any, list_all, onto_first, slice_get}, Option.is_some}
use Rattle.bridge_io.specs.{declared.media.Kind.Kind, declared.media.Kind.TheVariants.Video, declared.media.Ratio.Ratio}
use Rattle.bridge_io.specs.{declared.media.Size.Size, declared.place.Place.Place}
use Rattle.mpd_values.specs.{Codecs.is_code_char, Languages.{is_language, is_language_char}}
use Rattle.track_hints.specs.declared.hints.{Hints.Hints, TrackHints.TrackHints}
use Rattle.hls_lines.specs.Attributes.{NameValue, attributes_of, names_of, repeats_after, value_of}
use Rattle.hls_master.specs.{Addresses.address_value, Renditions.{RenditionValue, kind_of_type, rendition_value}}
use Rattle.hls_writer.specs.Attributes.{WrittenAttribute, media_type, group_id, default, autoselect, forced, describes_video}
use Rattle.hls_writer.specs.Attributes.{transcribes_sound, playlist, bandwidth, codecs, resolution, no_captions, attributes_bytes}
use Rattle.hls_writer.specs.{Attributes.{codes_bytes, group_bytes, playlist_name, tag_or_undetermined, type_name}, Menus.language_at}
use Rattle.hls_writer.specs.{Menus.{name_at, purpose_at}, Renditions.{channels_at, counted, if_so, of_channels, of_forced, of_name}}
use Rattle.hls_writer.specs.{Renditions.{of_purpose, present, rendition_attributes, tagged}, Variants.{codecs_at, codes_from, codes_in}}
use Rattle.hls_writer.specs.Variants.{of_captions, of_rate, of_sound, of_texts, with_codes}
use Rattle.presentation.specs.declared.track.Track.{Track}
use Rattle.audio_groups.specs.Groups.{same_text}
use Rattle.laws_of_playlists.specs.Tracks.{AreOwnCodes, IsTold}
use Rattle.laws_of_playlists.proofs.{WrittenLines.weaker, MasterTypes.{IsKnown, Purpose, Rendition, RenditionGroup, RenditionName}}
use Rattle.laws_of_playlists.proofs.MasterTypes.{audio_group, of_known, text_group}
use Rattle.laws_of_playlists.proofs.{MasterAttributes.{IsCarried, IsFine, attributes_are, carried_append, is_carried, pair_of}}
use Rattle.laws_of_playlists.proofs.{MasterLabels.{AreFitLabels, name_fine, pair_is}}
use Rattle.audio_groups.proofs.Lists.{all_append}

-- ---- the characters of languages and codes

language_carried : (tag : List ℕ) → is_language tag ≡ true → IsCarried tag
language_carried tag e = weaker is_language_char is_carried one tag (and_parts (list_all is_language_char tag) _ e).0
  where
    one : (b : ℕ) → is_language_char b ≡ true → is_carried b ≡ true
    one b e = grind (arith, nat_tests)

abbrev pub AreCarried : List (List ℕ) → Type 0
AreCarried texts = AllByRecursion IsCarried texts

onto_carried : (b : ℕ) (parts : List (List ℕ)) → IsCarried (b ∷ []) → AreCarried parts → AreCarried (onto_first b parts)
onto_carried b [] one all = (one, tt)
onto_carried b (part ∷ parts) one all = (carried_append (b ∷ []) part one all.0, all.1)

split_carried : (text : List ℕ) → IsCarried text → AreCarried (codes_in text)
split_carried [] e = (refl, tt)
split_carried (b ∷ bs) e = let parts = and_parts (is_carried b) (list_all is_carried bs) e in elim (cases_Bool (eqb b 44)) [
  | inl is ↦ rw is (refl, split_carried bs parts.1)
  | inr isnt ↦ rw isnt (onto_carried b (codes_in bs) (rw parts.0 refl) (split_carried bs parts.1))
]

with_carried : (found codes : List (List ℕ)) → AreCarried found → AreCarried codes → AreCarried (with_codes found codes)
with_carried found [] all more = all
with_carried found (code ∷ codes) all more = elim (cases_Bool (list_any (same_text code) found)) [
  | inl is ↦ rw is (with_carried found codes all more.1)
  | inr isnt ↦ rw isnt (with_carried (found ++ code ∷ []) codes (all_append IsCarried found (code ∷ []) all (more.0, tt)) more.1)
]

joined_carried : (codes : List (List ℕ)) → AreCarried codes → IsCarried (codes_bytes codes)
joined_carried [] all = refl
joined_carried (code ∷ codes) all = carried_append code (flat_map (λ other. 44 ∷ other) codes) all.0 (others codes all.1)
  where
    others : (codes : List (List ℕ)) → AreCarried codes → IsCarried (flat_map (λ other. 44 ∷ other) codes)
    others [] all = refl
    others (code ∷ codes) all = carried_append code (flat_map (λ other. 44 ∷ other) codes) all.0 (others codes all.1)

module _ (tracks : List Track) (told : All IsTold tracks) where
  told_at : (place : ℕ) (track : Track) → slice_get tracks place ≡ Some track → IsTold track
  told_at place track at = subst IsTold (get_or_from_slice_get tracks place track track at)
      (told place track (slice_get_within tracks place track at))

  pub language_told : (place : ℕ) → IfSome (language_at tracks place) (λ tag. is_language tag ≡ true)
  language_told place = of_track (slice_get tracks place) refl
    where
      of_track : (o : Option Track) → slice_get tracks place ≡ o
          → IfSome (option_and_then (λ (track : Track). track.language) o) (λ tag. is_language tag ≡ true)
      of_track None e = tt
      of_track (Some track) e = (told_at place track e).language

  text_carried : (place : ℕ) → IfSome (codecs_at tracks place) IsCarried
  text_carried place = of_track (slice_get tracks place) refl
    where
      of_codecs : (o : Option (List ℕ)) (track : Track) → IfSome o (AreOwnCodes track.kind) → IfSome o IsCarried
      of_codecs None track own = tt
      of_codecs (Some text) track own = (and_parts (list_all is_code_char text) _ own.are).0

      of_track : (o : Option Track) → slice_get tracks place ≡ o → IfSome (option_and_then (λ (track : Track). track.codecs) o) IsCarried
      of_track None e = tt
      of_track (Some track) e = of_codecs track.codecs track (told_at place track e).codecs

  pub codes_carried : (found : List (List ℕ)) (places : List ℕ) → AreCarried found → IfSome (codes_from tracks found places) AreCarried
  codes_carried found [] all = all
  codes_carried found (place ∷ places) all = of_text (λ (f : List (List ℕ)) (c : AreCarried f). codes_carried f places c)
      (codecs_at tracks place) (text_carried place)
    where
      of_text : ((f : List (List ℕ)) → AreCarried f → IfSome (codes_from tracks f places) AreCarried) → (o : Option (List ℕ))
          → IfSome o IsCarried → IfSome (option_and_then (λ text. codes_from tracks (with_codes found (codes_in text)) places) o) AreCarried
      of_text later None carried = tt
      of_text later (Some text) carried = later (with_codes found (codes_in text))
          (with_carried found (codes_in text) all (split_carried text carried))

-- ---- attributes that may be missing

all_present : (attributes : List (Option WrittenAttribute)) → AllByRecursion (λ o. IfSome o IsFine) attributes
    → AllByRecursion IsFine (present attributes)
all_present [] all = tt
all_present (None ∷ attributes) all = all_present attributes all.1
all_present (Some attribute ∷ attributes) all = (all.0, all_present attributes all.1)

each_fine : {X : Type 0} (f : X → WrittenAttribute) → ((x : X) → IsFine (f x)) → (o : Option X) → IfSome (option_map f o) IsFine
each_fine f fine None = tt
each_fine f fine (Some x) = fine x

-- ---- the attributes of renditions

-- what a reader sees of a group
abbrev pub kind_of_group : RenditionGroup → Kind
kind_of_group group = unwrap_or (kind_of_type (type_name group)) Video

-- and of a rendition
abbrev pub seen : (url : List ℕ) → List Track → List TrackHints → Rendition → RenditionValue
seen url tracks hints r = record {
  kind = kind_of_group r.group;
  group = group_bytes r.group;
  name = (pair_of (of_name hints (language_at tracks r.track) r.name)).1;
  language = language_at tracks r.track;
  address = address_value url (playlist_name r.track);
}

for_so : (P : Option WrittenAttribute → Type 0) (attribute : WrittenAttribute) → P None → P (Some attribute) → (is : Bool)
    → P (if_so is attribute)
for_so P attribute without with true = with
for_so P attribute without with false = without

for_map : {X : Type 0} (P : Option WrittenAttribute → Type 0) (f : X → WrittenAttribute) → P None → ((x : X) → P (Some (f x)))
    → (o : Option X) → P (option_map f o)
for_map P f without with None = without
for_map P f without with (Some x) = with x

-- the pairs of a rendition of a group, given those of its NAME, LANGUAGE, FORCED, CHARACTERISTICS and CHANNELS
abbrev pairs_with : (group : RenditionGroup) (named : NameValue) (said f p c : Option WrittenAttribute) (d a : Bool) (track : ℕ)
    → List NameValue
pairs_with group named said f p c d a track = map pair_of (media_type group ∷ group_id group ∷ []) ++ named
    ∷ map pair_of (present (said ∷ Some (default d) ∷ Some (autoselect a) ∷ f ∷ p ∷ c ∷ Some (playlist track) ∷ []))

abbrev pairs_of : (group : RenditionGroup) (named : NameValue) (said : Option WrittenAttribute) (purpose : Purpose) (channels : Option ℕ)
    (d a : Bool) (track : ℕ) → List NameValue
pairs_of group named said purpose channels d a track =
    pairs_with group named said (of_forced group purpose) (of_purpose group purpose) (of_channels group channels) d a track

-- each choice of a group's attributes
each_choice : (P : RenditionGroup → Option WrittenAttribute → Option WrittenAttribute → Option WrittenAttribute → Type 0)
    → ((number : ℕ) → P (audio_group number) None None None) → ((number : ℕ) → P (audio_group number) None (Some describes_video) None)
    → ((number count : ℕ) → P (audio_group number) None None (Some (counted count)))
    → ((number count : ℕ) → P (audio_group number) None (Some describes_video) (Some (counted count)))
    → P text_group None None None → P text_group (Some forced) None None → P text_group None (Some transcribes_sound) None
    → P text_group (Some forced) (Some transcribes_sound) None
    → (group : RenditionGroup) → IsKnown group → (purpose : Purpose) (channels : Option ℕ)
    → P group (of_forced group purpose) (of_purpose group purpose) (of_channels group channels)
each_choice P plain describing counting both_ones none forcing transcribing all group known purpose channels = of_known
    (λ group. P group (of_forced group purpose) (of_purpose group purpose) (of_channels group channels))
    (λ number. for_so (λ o. P (audio_group number) None o (option_map counted channels)) describes_video
    (for_map (λ o. P (audio_group number) None None o) counted (plain number) (λ count. counting number count) channels)
    (for_map (λ o. P (audio_group number) None (Some describes_video) o) counted (describing number)
    (λ count. both_ones number count) channels)
    purpose.describes)
    (for_so (λ o. P text_group o (if_so purpose.transcribes transcribes_sound) None) forced
    (for_so (λ o. P text_group None o None) transcribes_sound none transcribing purpose.transcribes)
    (for_so (λ o. P text_group (Some forced) o None) transcribes_sound forcing all purpose.transcribes)
    purpose.forced) group known

module _ (url name : List ℕ) (d a : Bool) (track : ℕ) where
  abbrev ReadAs : (tag : Option (List ℕ)) → (said : Option WrittenAttribute) → RenditionGroup → (f p c : Option WrittenAttribute) → Type 0
  ReadAs tag said group f p c = (repeats_after [] (names_of (pairs_with group (codes "NAME", name) said f p c d a track)) ≡ false)
      × (rendition_value url (Ok (pairs_with group (codes "NAME", name) said f p c d a track)) ≡ Some (record {
        kind = kind_of_group group;
        group = group_bytes group;
        name = name;
        language = tag;
        address = address_value url (playlist_name track);
      }))

  pub read_as : (tag : Option (List ℕ)) (group : RenditionGroup) → IsKnown group → (purpose : Purpose) (channels : Option ℕ)
      → ReadAs tag (option_map tagged tag) group (of_forced group purpose) (of_purpose group purpose) (of_channels group channels)
  read_as None = each_choice (ReadAs None None) (λ n. (refl, refl)) (λ n. (refl, refl)) (λ n c. (refl, refl)) (λ n c. (refl, refl))
      (refl, refl) (refl, refl) (refl, refl) (refl, refl)
  read_as (Some tag) = each_choice (ReadAs (Some tag) (Some (tagged tag))) (λ n. (refl, refl)) (λ n. (refl, refl)) (λ n c. (refl, refl))
      (λ n c. (refl, refl)) (refl, refl) (refl, refl) (refl, refl) (refl, refl)

module _ (tracks : List Track) (hints : List TrackHints) (told : All IsTold tracks) (fit : AreFitLabels hints) where
  tag_carried : (tag : Option (List ℕ)) → IfSome tag (λ tag. is_language tag ≡ true) → IsCarried (tag_or_undetermined tag)
  tag_carried None told = refl
  tag_carried (Some tag) told = language_carried tag told

  tag_fine : (tag : Option (List ℕ)) → IfSome tag (λ tag. is_language tag ≡ true) → IfSome (option_map tagged tag) IsFine
  tag_fine None told = tt
  tag_fine (Some tag) told = language_carried tag told

  -- a name by the first tracks of sets
  abbrev pub HasName : Rendition → Type 0
  HasName r = (heads : List ℕ) × ((number : ℕ) × (r.name ≡ name_at hints heads number))

  its_name_fine : (r : Rendition) → HasName r → IsFine (of_name hints (language_at tracks r.track) r.name)
  its_name_fine r (heads, (number, is)) = subst (λ (n : RenditionName). IsFine (of_name hints (language_at tracks r.track) n)) (sym is)
      (name_fine hints fit heads (language_at tracks r.track) number (tag_carried (language_at tracks r.track)
      (language_told tracks told r.track)))

  its_pair : (r : Rendition) → HasName r → pair_of (of_name hints (language_at tracks r.track) r.name)
      ≡ (codes "NAME", (pair_of (of_name hints (language_at tracks r.track) r.name)).1)
  its_pair r (heads, (number, is)) = subst (λ (n : RenditionName). pair_of (of_name hints (language_at tracks r.track) n)
      ≡ (codes "NAME", (pair_of (of_name hints (language_at tracks r.track) n)).1)) (sym is)
      (pair_is hints fit heads (language_at tracks r.track) number)

  pub rendition_fine : (r : Rendition) → IsKnown r.group → HasName r
      → AllByRecursion IsFine (media_type r.group ∷ rendition_attributes tracks hints r)
  rendition_fine r known named = (
    known,
    all_present (Some (group_id r.group) ∷ Some (of_name hints (language_at tracks r.track) r.name)
        ∷ option_map tagged (language_at tracks r.track) ∷ Some (default r.is_default) ∷ Some (autoselect r.is_autoselect)
        ∷ of_forced r.group (purpose_at hints r.track) ∷ of_purpose r.group (purpose_at hints r.track)
        ∷ of_channels r.group (channels_at hints r.track) ∷ Some (playlist r.track) ∷ []) (
          known,
          (
            its_name_fine r named,
            (
              tag_fine (language_at tracks r.track) (language_told tracks told r.track),
              (tt, (tt, chosen_fine r.group known (purpose_at hints r.track) (channels_at hints r.track))),
            ),
          ),
        ),
  )
    where
      chosen_fine : (group : RenditionGroup) → IsKnown group → (purpose : Purpose) (channels : Option ℕ)
          → IfSome (of_forced group purpose) IsFine × (IfSome (of_purpose group purpose) IsFine
          × (IfSome (of_channels group channels) IsFine × (⊤ × ⊤)))
      chosen_fine = each_choice (λ group f p c. IfSome f IsFine × (IfSome p IsFine × (IfSome c IsFine × (⊤ × ⊤))))
          (λ n. (tt, (tt, (tt, (tt, tt))))) (λ n. (tt, (tt, (tt, (tt, tt))))) (λ n c. (tt, (tt, (tt, (tt, tt)))))
          (λ n c. (tt, (tt, (tt, (tt, tt))))) (tt, (tt, (tt, (tt, tt)))) (tt, (tt, (tt, (tt, tt)))) (tt, (tt, (tt, (tt, tt))))
          (tt, (tt, (tt, (tt, tt))))

  pub rendition_read : (url : List ℕ) (place : Place) (r : Rendition) → IsKnown r.group → HasName r
      → rendition_value url (attributes_of (attributes_bytes (media_type r.group) (rendition_attributes tracks hints r)) place)
      ≡ Some (seen url tracks hints r)
  rendition_read url place r known named =
      let tag = language_at tracks r.track in
      let purpose = purpose_at hints r.track in
      let channels = channels_at hints r.track in
      let pair : NameValue = pair_of (of_name hints tag r.name) in
      let pairs : NameValue → List NameValue = λ named. pairs_of r.group named (option_map tagged tag) purpose channels r.is_default
      r.is_autoselect r.track in
      let is = read_as url pair.1 r.is_default r.is_autoselect r.track tag r.group known purpose channels in
      let once : repeats_after [] (names_of (pairs pair)) ≡ false = ap (λ named. repeats_after [] (names_of (pairs named)))
      (its_pair r named) ∙ is.0 in
      ap (rendition_value url) (attributes_are (media_type r.group) (rendition_attributes tracks hints r) place
      (rendition_fine r known named) once) ∙ ap (λ named. rendition_value url (Ok (pairs named))) (its_pair r named) ∙ is.1

-- ---- no name of a variant stands twice

both : (test : Bool → Bool) → (test true || test false) ≡ false → (b : Bool) → test b ≡ false
both test e true = (or_parts (test true) (test false) e).0
both test e false = (or_parts (test true) (test false) e).1

abbrev chosen : (c s r g t n : Bool) → List (List ℕ)
chosen c s r g t n = cond c (codes "CODECS" ∷ []) [] ++ (cond s (codes "RESOLUTION" ∷ []) []
    ++ (cond r (codes "FRAME-RATE" ∷ []) [] ++ (cond g (codes "AUDIO" ∷ []) [] ++ (cond t (codes "SUBTITLES" ∷ []) []
    ++ cond n (codes "CLOSED-CAPTIONS" ∷ []) []))))

abbrev twice : (c s r g t n : Bool) → Bool
twice c s r g t n = repeats_after [] (codes "BANDWIDTH" ∷ chosen c s r g t n)

abbrev either : (Bool → Bool) → Bool
either test = test true || test false

chosen_once : (c s r g t n : Bool) → twice c s r g t n ≡ false
chosen_once c s r g t n =
    both (λ n. twice c s r g t n) (
    both (λ t. either (λ n. twice c s r g t n)) (
    both (λ g. either (λ t. either (λ n. twice c s r g t n))) (
    both (λ r. either (λ g. either (λ t. either (λ n. twice c s r g t n)))) (
    both (λ s. either (λ r. either (λ g. either (λ t. either (λ n. twice c s r g t n))))) (
    both (λ c. either (λ s. either (λ r. either (λ g. either (λ t. either (λ n. twice c s r g t n)))))) refl c) s) r) g) t) n

-- ---- the attributes of variants

-- an attribute that may be missing, before others
module _ {X : Type 0} (f : X → WrittenAttribute) (its_name : List ℕ) (is_named : (x : X) → (pair_of (f x)).0 ≡ its_name)
    (rest : List WrittenAttribute) where
  one_name : (o : Option X) → names_of (map pair_of (option_to_list (option_map f o) ++ rest))
      ≡ cond (is_some o) (its_name ∷ []) [] ++ names_of (map pair_of rest)
  one_name None = refl
  one_name (Some x) = rw (is_named x) refl

  not_its : (text : List ℕ) → bytes_eq its_name text ≡ false → (o : Option X)
      → value_of text (map pair_of (option_to_list (option_map f o) ++ rest)) ≡ value_of text (map pair_of rest)
  not_its text other None = refl
  not_its text other (Some x) = rw (is_named x, other) refl

module _ (players : Option Hints) (list : Option (List (List ℕ))) (size : Option Size) (rate : Option Ratio) (sound : Option ℕ) where
  abbrev pub attributes_with : (texts : List ℕ) → List WrittenAttribute
  attributes_with texts = present (option_map codecs list ∷ option_map resolution size ∷ option_map of_rate rate
      ∷ option_map of_sound sound ∷ of_texts texts ∷ of_captions players ∷ [])

  pub with_fine : (texts : List ℕ) → IfSome list AreCarried → AllByRecursion IsFine (attributes_with texts)
  with_fine texts carried = all_present (option_map codecs list ∷ option_map resolution size ∷ option_map of_rate rate
      ∷ option_map of_sound sound ∷ of_texts texts ∷ of_captions players ∷ []) (
        of_list list carried,
        (
          each_fine resolution (λ s. tt) size,
          (
            each_fine of_rate (λ r. tt) rate,
            (each_fine of_sound (λ g. inl (g, refl)) sound, (of_text texts, (of_players players, tt))),
          ),
        ),
      )
    where
      of_list : (o : Option (List (List ℕ))) → IfSome o AreCarried → IfSome (option_map codecs o) IsFine
      of_list None carried = tt
      of_list (Some codes) carried = joined_carried codes carried

      of_text : (texts : List ℕ) → IfSome (of_texts texts) IsFine
      of_text [] = tt
      of_text (place ∷ places) = inr refl

      of_told : (b : Bool) → IfSome (cond b None (Some no_captions)) IsFine
      of_told true = tt
      of_told false = tt

      of_players : (players : Option Hints) → IfSome (of_captions players) IsFine
      of_players None = tt
      of_players (Some hints) = of_told hints.captions

  abbrev has_texts : List ℕ → Bool
  has_texts [] = false
  has_texts (place ∷ places) = true

  abbrev has_none : Option Hints → Bool
  has_none None = false
  has_none (Some hints) = not hints.captions

  captions_named : (players : Option Hints) → names_of (map pair_of (present (of_captions players ∷ [])))
      ≡ cond (has_none players) (codes "CLOSED-CAPTIONS" ∷ []) []
  captions_named None = refl
  captions_named (Some hints) = of_told hints.captions
    where
      of_told : (b : Bool) → names_of (map pair_of (present (cond b None (Some no_captions) ∷ [])))
          ≡ cond (not b) (codes "CLOSED-CAPTIONS" ∷ []) []
      of_told true = refl
      of_told false = refl

  names_with : (texts : List ℕ) → names_of (map pair_of (attributes_with texts))
      ≡ chosen (is_some list) (is_some size) (is_some rate) (is_some sound) (has_texts texts) (has_none players)
  names_with texts =
      one_name codecs (codes "CODECS") (λ x. refl) _ list
      ∙ ap (λ t. cond (is_some list) (codes "CODECS" ∷ []) [] ++ t) (one_name resolution (codes "RESOLUTION") (λ x. refl) _ size
      ∙ ap (λ t. cond (is_some size) (codes "RESOLUTION" ∷ []) [] ++ t) (one_name of_rate (codes "FRAME-RATE") (λ x. refl) _ rate
      ∙ ap (λ t. cond (is_some rate) (codes "FRAME-RATE" ∷ []) [] ++ t) (one_name of_sound (codes "AUDIO") (λ x. refl) _ sound
      ∙ ap (λ t. cond (is_some sound) (codes "AUDIO" ∷ []) [] ++ t) (last texts))))
    where
      last : (texts : List ℕ) → names_of (map pair_of (present (of_texts texts ∷ of_captions players ∷ [])))
          ≡ cond (has_texts texts) (codes "SUBTITLES" ∷ []) [] ++ cond (has_none players) (codes "CLOSED-CAPTIONS" ∷ []) []
      last [] = captions_named players
      last (place ∷ places) = ap (λ t. codes "SUBTITLES" ∷ t) (captions_named players)

  pub once_with : (bits : ℕ) (texts : List ℕ) → repeats_after [] (names_of (map pair_of (bandwidth bits ∷ attributes_with texts))) ≡ false
  once_with bits texts = ap (λ names. repeats_after [] (codes "BANDWIDTH" ∷ names)) (names_with texts)
      ∙ chosen_once (is_some list) (is_some size) (is_some rate) (is_some sound) (has_texts texts) (has_none players)

  pub codecs_with : (bits : ℕ) (texts : List ℕ) → value_of (codes "CODECS") (map pair_of (bandwidth bits ∷ attributes_with texts))
      ≡ option_map codes_bytes list
  codecs_with bits texts = of_list list
    where
      of_told : (b : Bool) → value_of (codes "CODECS") (map pair_of (present (cond b None (Some no_captions) ∷ []))) ≡ None
      of_told true = refl
      of_told false = refl

      of_players : (players : Option Hints) → value_of (codes "CODECS") (map pair_of (present (of_captions players ∷ []))) ≡ None
      of_players None = refl
      of_players (Some hints) = of_told hints.captions

      last : (texts : List ℕ) → value_of (codes "CODECS") (map pair_of (present (of_texts texts ∷ of_captions players ∷ []))) ≡ None
      last [] = of_players players
      last (place ∷ places) = of_players players

      of_list : (o : Option (List (List ℕ))) → value_of (codes "CODECS")
          (map pair_of (bandwidth bits ∷ present (option_map codecs o ∷ option_map resolution size ∷ option_map of_rate rate
          ∷ option_map of_sound sound ∷ of_texts texts ∷ of_captions players ∷ []))) ≡ option_map codes_bytes o
      of_list (Some codes) = refl
      of_list None = not_its resolution (codes "RESOLUTION") (λ x. refl) _ (codes "CODECS") refl size
          ∙ not_its of_rate (codes "FRAME-RATE") (λ x. refl) _ (codes "CODECS") refl rate
          ∙ not_its of_sound (codes "AUDIO") (λ x. refl) _ (codes "CODECS") refl sound
          ∙ last texts
