-- No track is missing in a master.
use Rattle.std.proofs.Common.{◌≡◌, ℕ, zero, suc, ◌+◌, ◌<◌, true, List, [], ◌∷◌, ◌++◌, length, map, flat_map, Option, Some, None}
use Rattle.std.proofs.{Common.{option_to_list, unwrap_or, refl, sym, ◌∙◌, ap, subst, arith, inl, inr}, lemmas.Bool.cases_Bool}
use Rattle.std.proofs.{lemmas.List.{length-map, map-append}, lemmas.Option.{same_Some, slice_get-map}}
use Rattle.std.proofs.{lemmas.List.Elements.All-from_recursion}
use Rattle.std.specs.{List.{slice_get}, Prelude.{option_and_then, option_map}}
use Rattle.bridge_io.specs.declared.media.Kind.{Kind, TheVariants.{Video, Audio, Text}}
use Rattle.track_hints.specs.declared.hints.Hints.{Hints}
use Rattle.presentation.specs.{declared.track.Track.Track, Order.is_of}
use Rattle.audio_groups.specs.{Groups.is_audio, Keys.own_group}
use Rattle.hls_writer.specs.{Attributes.{WrittenAttribute, codecs, renditions, resolution}, Master.{filling_of, tracks_in}}
use Rattle.hls_writer.specs.Renditions.{LaidOut, filled_renditions, members_in}
use Rattle.hls_writer.specs.Renditions.{own_rendition, own_renditions, places_from, places_of, text_from, text_rendition}
use Rattle.hls_writer.specs.Variants.{frame_rate_at, of_captions, of_rate, of_sound, size_at}
use Rattle.hls_writer.specs.Variants.{choices, numbers_from, of_texts, sound_variant, sound_variants, variant_attributes, variants_of}
use Rattle.hls_writer.specs.Variants.{variants_with, video_variant}
use Rattle.laws_of_playlists.specs.Players.{HasAllTracks, IsAmong, IsTrack, NoTrackIsMissing}
use Rattle.laws_of_playlists.proofs.{MasterLaid.{grouped_as, laid}, MasterNumbers.is_member}
use Rattle.audio_groups.proofs.Lists.{all_of}
use Rattle.laws_of_playlists.proofs.MasterTypes.{Rendition, Variant}
use Rattle.laws_of_playlists.proofs.PlayerLists.{among_back, among_flat, among_front, among_map, among_present}

-- ---- the places of a kind

itself : (kind : Kind) → is_of kind kind ≡ true
itself Video = refl
itself Audio = refl
itself Text = refl

places_kept : (kind : Kind) (p : ℕ) (found : List ℕ) (place : ℕ) (later : List Track) → IsAmong p found
    → IsAmong p (places_from kind found place later)
places_kept kind p found place [] is = is
places_kept kind p found place (track ∷ later) is = elim (cases_Bool (is_of kind track.kind)) [
  | inl of ↦ rw of (places_kept kind p (found ++ place ∷ []) (place + 1) later (among_front p found (place ∷ []) is))
  | inr other ↦ rw other (places_kept kind p found (place + 1) later is)
]

places_there : (kind : Kind) (p : ℕ) (found : List ℕ) (place : ℕ) (later : List Track) (k : ℕ) (track : Track) → p ≡ place + k
    → slice_get later k ≡ Some track → track.kind ≡ kind → IsAmong p (places_from kind found place later)
places_there kind p found place [] k track sum at of = absurd (cc)
places_there kind p found place (x ∷ later) zero track sum at of =
    let is : is_of kind x.kind ≡ true = ap (λ (t : Track). is_of kind t.kind) (same_Some x track at) ∙ ap (is_of kind) of ∙ itself kind in
    let here : place ≡ p = omega arith in
    rw is (places_kept kind p (found ++ place ∷ []) (place + 1) later (among_back p found (place ∷ []) (inl here)))
places_there kind p found place (x ∷ later) (suc k) track sum at of = elim (cases_Bool (is_of kind x.kind)) [
  | inl is ↦ rw is (places_there kind p (found ++ place ∷ []) (place + 1) later k track (omega arith) at of)
  | inr isnt ↦ rw isnt (places_there kind p found (place + 1) later k track (omega arith) at of)
]

pub among_places : (tracks : List Track) (kind : Kind) (p : ℕ) → IsTrack tracks kind p → IsAmong p (places_of kind tracks)
among_places tracks kind p is = places_there kind p [] 0 tracks p is.track (omega arith) is.at is.of

-- ---- variants

numbers_kept : (choice : Option ℕ) (found : List (Option ℕ)) (group : ℕ) (groups : List (List ℕ)) → IsAmong choice found
    → IsAmong choice (numbers_from found group groups)
numbers_kept choice found group [] is = is
numbers_kept choice found group (members ∷ groups) is =
    numbers_kept choice (found ++ Some group ∷ []) (group + 1) groups (among_front choice found (Some group ∷ []) is)

numbers_there : (g : ℕ) (found : List (Option ℕ)) (group : ℕ) (groups : List (List ℕ)) (k : ℕ) → g ≡ group + k → k < length groups
    → IsAmong (Some g) (numbers_from found group groups)
numbers_there g found group [] k sum less = absurd (omega arith)
numbers_there g found group (members ∷ groups) zero sum less =
    let here : group ≡ g = omega arith in
    numbers_kept (Some g) (found ++ Some group ∷ []) (group + 1) groups (among_back (Some g) found (Some group ∷ []) (inl (ap Some here)))
numbers_there g found group (members ∷ groups) (suc k) sum less =
    numbers_there g (found ++ Some group ∷ []) (group + 1) groups k (omega arith) (omega arith)

each_choice : (g : ℕ) (groups : List (List ℕ)) → g < length groups → IsAmong (Some g) (choices groups)
each_choice g [] less = absurd (omega arith)
each_choice g (members ∷ groups) less = numbers_there g [] 0 (members ∷ groups) g (omega arith) less

in_variants : (players : Option Hints) (groups : List (List ℕ)) (videos : List ℕ) (p : ℕ) (choice : Option ℕ) → IsAmong p videos
    → IsAmong choice (choices groups) → IsAmong (video_variant p choice) (variants_with players videos groups)
in_variants players groups [] p choice is chosen = absurd is
in_variants None groups (video ∷ videos) p choice is chosen = among_flat (λ place. map (video_variant place) (choices groups)) p
    (video ∷ videos) (video_variant p choice) is (among_map (video_variant p) choice (choices groups) chosen)
in_variants (Some hints) groups (video ∷ videos) p choice is chosen =
    among_flat (λ group. map (λ place. video_variant place group) (video ∷ videos)) choice (choices groups) (video_variant p choice) chosen
    (among_map (λ place. video_variant place choice) p (video ∷ videos) is)

sounds_kept : (choice : Option ℕ) (found : List Variant) (group : ℕ) (groups : List (List ℕ))
    → IsAmong choice (map (λ (v : Variant). v.group) found)
    → IsAmong choice (map (λ (v : Variant). v.group) (sound_variants found group groups))
sounds_kept choice found group [] is = is
sounds_kept choice found group (members ∷ groups) is = sounds_kept choice (found ++ sound_variant group members ∷ []) (group + 1) groups
    (subst (IsAmong choice) (sym (map-append (λ (v : Variant). v.group) found (sound_variant group members ∷ [])))
    (among_front choice (map (λ (v : Variant). v.group) found) (Some group ∷ []) is))

sounds_there : (g : ℕ) (found : List Variant) (group : ℕ) (groups : List (List ℕ)) (k : ℕ) → g ≡ group + k → k < length groups
    → IsAmong (Some g) (map (λ (v : Variant). v.group) (sound_variants found group groups))
sounds_there g found group [] k sum less = absurd (omega arith)
sounds_there g found group (members ∷ groups) zero sum less =
    let here : group ≡ g = omega arith in
    sounds_kept (Some g) (found ++ sound_variant group members ∷ []) (group + 1) groups
    (subst (IsAmong (Some g)) (sym (map-append (λ (v : Variant). v.group) found (sound_variant group members ∷ [])))
    (among_back (Some g) (map (λ (v : Variant). v.group) found) (Some group ∷ []) (inl (ap Some here))))
sounds_there g found group (members ∷ groups) (suc k) sum less =
    sounds_there g (found ++ sound_variant group members ∷ []) (group + 1) groups k (omega arith) (omega arith)

groups_named : (players : Option Hints) (groups : List (List ℕ)) (videos : List ℕ) (g : ℕ) → g < length groups
    → IsAmong (Some g) (map (λ (v : Variant). v.group) (variants_with players videos groups))
groups_named players groups [] g less = sounds_there g [] 0 groups g (omega arith) less
groups_named players groups (video ∷ videos) g less = among_map (λ (v : Variant). v.group) (video_variant video (Some g))
    (variants_with players (video ∷ videos) groups)
    (in_variants players groups (video ∷ videos) video (Some g) (inl refl) (each_choice g groups less))

-- ---- members

pub members_at : (groups : List (List (Option ℕ))) (g : ℕ) → members_in (tracks_in groups) g ≡ flat_map option_to_list (members_in groups g)
members_at groups g = ap (λ o. unwrap_or o []) (slice_get-map (λ members. flat_map option_to_list members) groups g)
    ∙ of_members (slice_get groups g)
  where
    of_members : (o : Option (List (Option ℕ))) → unwrap_or (option_map (λ members. flat_map option_to_list members) o) []
        ≡ flat_map option_to_list (unwrap_or o [])
    of_members None = refl
    of_members (Some members) = refl

-- ---- text

module _ (l : LaidOut) where
  texts_kept : (found : List Rendition) (number : ℕ) (places : List ℕ) (n p : ℕ) → IsAmong (text_rendition l n p) found
      → IsAmong (text_rendition l n p) (text_from l found number places)
  texts_kept found number [] n p is = is
  texts_kept found number (place ∷ places) n p is = texts_kept (found ++ text_rendition l number place ∷ []) (number + 1) places n p
      (among_front (text_rendition l n p) found (text_rendition l number place ∷ []) is)

  texts_there : (found : List Rendition) (number : ℕ) (places : List ℕ) (p : ℕ) → IsAmong p places
      → (n : ℕ) × IsAmong (text_rendition l n p) (text_from l found number places)
  texts_there found number [] p is = absurd is
  texts_there found number (place ∷ places) p (inl is) =
      let here = among_back (text_rendition l number p) found (text_rendition l number place ∷ [])
      (inl (ap (text_rendition l number) is)) in
      (number, texts_kept (found ++ text_rendition l number place ∷ []) (number + 1) places number p here)
  texts_there found number (place ∷ places) p (inr later) =
      texts_there (found ++ text_rendition l number place ∷ []) (number + 1) places p later

  subtitled : (texts : List ℕ) (p : ℕ) → IsAmong p texts → of_texts texts ≡ Some (renditions (text_rendition l p p).group)
  subtitled [] p is = absurd is
  subtitled (place ∷ texts) p is = refl

module _ (players : Option Hints) (tracks : List Track) where
  abbrev l : LaidOut
  l = laid players tracks

  in_members : (g : ℕ) → g < length l.groups → g < length l.members
  in_members g less = omega (arith, less, length-map l.groups (λ members. flat_map option_to_list members))

  its_member : (p : ℕ) → IsTrack tracks Audio p → IsAmong (Some p) (members_in l.groups (own_group l.grouped l.keys p))
  its_member p is = let other = (grouped_as players tracks).there p is.track is.at in
      is_member l.grouped p other.0 other.1.0 (ap is_audio other.1.1.0 ∙ ap is_audio is.of) (filling_of players)

  says_texts : (list : Option (List (List ℕ))) (v : Variant) (attribute : WrittenAttribute) → of_texts l.texts ≡ Some attribute
      → IsAmong attribute (variant_attributes players tracks l.texts list v)
  says_texts list v attribute is = among_present attribute (option_map codecs list
      ∷ option_map resolution (option_and_then (size_at tracks) v.video)
      ∷ option_map of_rate (option_and_then (frame_rate_at tracks) v.video)
      ∷ option_map of_sound v.group ∷ of_texts l.texts ∷ of_captions players ∷ []) (inr (inr (inr (inr (inl is)))))

  has_all : HasAllTracks players tracks l
  has_all = record {
    videos = λ p is g less. in_variants players l.members (places_of Video tracks) p (Some g) (among_places tracks Video p is)
        (each_choice g l.members (in_members g less));
    silent = λ p is none. in_variants players l.members (places_of Video tracks) p None (among_places tracks Video p is)
        (subst (λ groups. IsAmong {X = Option ℕ} None (choices (tracks_in groups))) (sym none) (inl refl));
    audios = λ p is. subst (IsAmong p) (sym (members_at l.groups (own_group l.grouped l.keys p)))
        (among_present p (members_in l.groups (own_group l.grouped l.keys p)) (its_member p is));
    heard = λ p is. among_front (own_rendition l p) (own_renditions l ++ filled_renditions l [] 0 l.groups) (text_from l [] 0 l.texts)
        (among_front (own_rendition l p) (own_renditions l) (filled_renditions l [] 0 l.groups)
        (among_map (own_rendition l) p (places_of Audio tracks) (among_places tracks Audio p is)));
    groups = λ g less. groups_named players l.members (places_of Video tracks) g (in_members g less);
    texts = λ p is. let there = texts_there l [] 0 l.texts p (among_places tracks Text p is) in (
      there.0,
      among_back (text_rendition l there.0 p) (own_renditions l ++ filled_renditions l [] 0 l.groups) (text_from l [] 0 l.texts) there.1,
    );
    subtitles = λ p is codes. All-from_recursion _ (variants_of players tracks l.members) (all_of _ (λ v. says_texts codes v
        (renditions (text_rendition l p p).group) (subtitled l l.texts p (among_places tracks Text p is)))
        (variants_of players tracks l.members));
  }

pub no_track_is_missing : NoTrackIsMissing
no_track_is_missing players tracks = has_all players tracks
