-- What the renditions and variants of a master are made of.
use Rattle.std.proofs.Common.{◌≡◌, ℕ, zero, suc, ◌+◌, ◌-◌, true, eqb, List, [], ◌∷◌, ◌++◌, length, map, position, Option, Some, None}
use Rattle.std.proofs.Common.{unwrap_or}
use Rattle.std.proofs.{Common.{refl, sym, ◌∙◌, ap, arith, inl, inr, append-nil, append_assoc}, lemmas.Bool.cases_Bool}
use Rattle.std.proofs.{lemmas.List.length-map}
use Rattle.std.proofs.lemmas.Option.{IfSome_then, slice_get-map}
use Rattle.std.specs.{List.{AllByRecursion, range_with_len, slice_get}, Prelude.option_map}
use Rattle.bridge_io.specs.declared.media.Kind.TheVariants.{Audio}
use Rattle.track_hints.specs.declared.hints.Hints.{Hints}
use Rattle.presentation.specs.declared.track.Track.{Track}
use Rattle.audio_groups.specs.{Families.in_family, Groups.is_audio, Keys.own_group}
use Rattle.hls_writer.specs.{Master.{filling_of, grouped_of, laid_out}, Menus.{hints_in, is_place, name_at}}
use Rattle.hls_writer.specs.Renditions.{LaidOut, filled_at, filled_from, filled_renditions, members_in, own_rendition, own_renditions}
use Rattle.hls_writer.specs.Renditions.{places_of, renditions_of, text_from, text_rendition, with_one}
use Rattle.hls_writer.specs.Variants.{sound_variant, sound_variants}
use Rattle.laws_of_playlists.proofs.{MasterTypes.{IsKnown, Rendition, Variant}}
use Rattle.audio_groups.proofs.Lists.{all_append, all_map, all_of, all_weaker}
use Rattle.laws_of_playlists.proofs.MasterNumbers.{BeginsAudio, IsAudio, IsAudioIfSome, groups_audio, groups_begin, number_is, number_of}

-- ---- tracks as they are grouped

pub record IsGroupedAs (tracks grouped : List Track) : Type 0 where
  pub few : length grouped ≡ length tracks
  pub there : (place : ℕ) (track : Track) → slice_get tracks place ≡ Some track
      → (other : Track) × ((slice_get grouped place ≡ Some other) × ((other.kind ≡ track.kind) × (other.set ≡ track.set)))
  pub back : (place : ℕ) (other : Track) → slice_get grouped place ≡ Some other
      → (track : Track) × ((slice_get tracks place ≡ Some track) × (other.kind ≡ track.kind))

in_families_are : (tracks : List Track) → IsGroupedAs tracks (map in_family tracks)
in_families_are tracks = record {
  few = length-map tracks in_family;
  there = λ place track at. (in_family track, (slice_get-map in_family tracks place ∙ ap (option_map in_family) at, (refl, refl)));
  back = λ place other at. of_track place other (slice_get tracks place) refl
      (sym (slice_get-map in_family tracks place) ∙ at);
}
  where
    of_track : (place : ℕ) (other : Track) (o : Option Track) → slice_get tracks place ≡ o → option_map in_family (slice_get tracks place)
        ≡ Some other → (track : Track) × ((slice_get tracks place ≡ Some track) × (other.kind ≡ track.kind))
    of_track place other None at is = let never : ◌≡◌ {A = Option Track} None (Some other) = rw at at is in absurd (cc)
    of_track place other (Some track) at is =
        let same : ◌≡◌ {A = Option Track} (Some (in_family track)) (Some other) = rw at at is in
        let its : in_family track ≡ other = cc in (track, (at, sym (ap (λ (t : Track). t.kind) its)))

pub grouped_as : (players : Option Hints) (tracks : List Track) → IsGroupedAs tracks (grouped_of players tracks)
grouped_as None tracks = record {
  few = refl;
  there = λ place track at. (track, (at, (refl, refl)));
  back = λ place other at. (other, (at, refl));
}
grouped_as (Some hints) tracks = in_families_are tracks

-- ---- what holds of each rendition

-- it has a known group, and a name by the first tracks of sets, or by the text tracks
pub record IsNamed (l : LaidOut) (r : Rendition) : Type 0 where
  pub known : IsKnown r.group
  pub heads : List ℕ
  pub number : ℕ
  pub name : r.name ≡ name_at (hints_in l.players) heads number

module _ (l : LaidOut) where
  abbrev pub IsFiller : Rendition → Type 0
  IsFiller r = IsAudio l.tracks r.track × IsNamed l r

  one_filled : (group : ℕ) (found : List Rendition) (set : ℕ) (member : Option ℕ) → IsAudioIfSome l.tracks member
      → AllByRecursion IsFiller found → AllByRecursion IsFiller (with_one found (filled_at l group set member))
  one_filled group found set None audio so_far = so_far
  one_filled group found set (Some place) audio so_far = elim (cases_Bool (eqb (own_group l.grouped l.keys place) group)) [
    | inl own ↦ rw own so_far
    | inr other ↦ rw other (all_append IsFiller found _ so_far
        ((audio, record { known = inl (group, refl); heads = l.heads; number = set; name = refl }), tt))
  ]

  filled_in : (group : ℕ) (found : List Rendition) (set : ℕ) (members : List (Option ℕ)) → AllByRecursion (IsAudioIfSome l.tracks) members
      → AllByRecursion IsFiller found → AllByRecursion IsFiller (filled_from l group found set members)
  filled_in group found set [] all so_far = so_far
  filled_in group found set (member ∷ members) all so_far =
      filled_in group (with_one found (filled_at l group set member)) (set + 1) members all.1
      (one_filled group found set member all.0 so_far)

  filled_audio : (found : List Rendition) (group : ℕ) (groups : List (List (Option ℕ)))
      → AllByRecursion (AllByRecursion (IsAudioIfSome l.tracks)) groups → AllByRecursion IsFiller found
      → AllByRecursion IsFiller (filled_renditions l found group groups)
  filled_audio found group [] all so_far = so_far
  filled_audio found group (members ∷ groups) all so_far =
      filled_audio (found ++ filled_from l group [] 0 members) (group + 1) groups all.1
      (all_append IsFiller found (filled_from l group [] 0 members) so_far (filled_in group [] 0 members all.0 tt))

  -- ---- text

  -- the text tracks from a place on, given the first one's
  abbrev pub text_at : (first place : ℕ) → Rendition
  text_at first place = text_rendition l (place - first) place

  pub texts_are : (first : ℕ) (found : List Rendition) (number place count : ℕ) → place ≡ first + number
      → text_from l found number (range_with_len place count) ≡ found ++ map (text_at first) (range_with_len place count)
  texts_are first found number place zero is = sym (append-nil found)
  texts_are first found number place (suc count) is =
      let its : number ≡ place - first = omega arith in
      ap (λ n. text_from l (found ++ text_rendition l n place ∷ []) (number + 1) (range_with_len (place + 1) count)) its
      ∙ texts_are first (found ++ text_at first place ∷ []) (number + 1) (place + 1) count (omega arith)
      ∙ append_assoc found (text_at first place ∷ []) (map (text_at first) (range_with_len (place + 1) count))

  texts_named : (found : List Rendition) (number : ℕ) (places : List ℕ) → AllByRecursion (IsNamed l) found
      → AllByRecursion (IsNamed l) (text_from l found number places)
  texts_named found number [] so_far = so_far
  texts_named found number (place ∷ places) so_far = texts_named (found ++ text_rendition l number place ∷ []) (number + 1) places
      (all_append (IsNamed l) found (text_rendition l number place ∷ []) so_far
      (record { known = inr refl; heads = l.texts; number = number; name = refl }, tt))

  pub all_named : AllByRecursion IsFiller (filled_renditions l [] 0 l.groups) → AllByRecursion (IsNamed l) (renditions_of l)
  all_named filled =
      let fillers = filled_renditions l [] 0 l.groups in
      all_append (IsNamed l) (own_renditions l ++ fillers) (text_from l [] 0 l.texts)
      (all_append (IsNamed l) (own_renditions l) fillers
      (all_map (IsNamed l) (own_rendition l) (places_of Audio l.tracks)
      (all_of _ (λ place. record {
        known = inl (own_group l.grouped l.keys place, refl);
        heads = l.heads;
        number = unwrap_or (position (is_place place) (members_in l.groups (own_group l.grouped l.keys place))) 0;
        name = refl;
      }) (places_of Audio l.tracks)))
      (all_weaker IsFiller (IsNamed l) (λ r both. both.1) fillers filled))
      (texts_named [] 0 l.texts tt)

  sound_audio : (found : List Variant) (group : ℕ) (groups : List (List ℕ)) → AllByRecursion (BeginsAudio l.tracks) groups
      → AllByRecursion (λ (v : Variant). IsAudio l.tracks v.track) found
      → AllByRecursion (λ (v : Variant). IsAudio l.tracks v.track) (sound_variants found group groups)
  sound_audio found group [] all so_far = so_far
  sound_audio found group (members ∷ groups) all so_far = sound_audio (found ++ sound_variant group members ∷ []) (group + 1) groups all.1
      (all_append _ found (sound_variant group members ∷ []) so_far (all.0, tt))

-- ---- what a presentation is laid out as

module _ (players : Option Hints) (tracks : List Track) where
  abbrev pub laid : LaidOut
  laid = laid_out players tracks

  audio_back : (place : ℕ) → IsAudio laid.grouped place → IsAudio tracks place
  audio_back place (other, (at, audio)) = let is = (grouped_as players tracks).back place other at in
      (is.0, (is.1.0, sym (ap is_audio is.1.1) ∙ audio))

  pub groups_are : AllByRecursion (AllByRecursion (IsAudioIfSome tracks)) laid.groups
  groups_are = all_weaker (AllByRecursion (IsAudioIfSome laid.grouped)) (AllByRecursion (IsAudioIfSome tracks))
      (λ members all. all_weaker (IsAudioIfSome laid.grouped) (IsAudioIfSome tracks)
      (λ member audio. IfSome_then member audio audio_back) members all) laid.groups
      (groups_audio laid.grouped (filling_of players))

  pub fillers_are : AllByRecursion (IsFiller laid) (filled_renditions laid [] 0 laid.groups)
  fillers_are = filled_audio laid [] 0 laid.groups groups_are tt

  pub are_named : AllByRecursion (IsNamed laid) (renditions_of laid)
  are_named = all_named laid fillers_are

  pub sounds_audio : AllByRecursion (λ (v : Variant). IsAudio tracks v.track) (sound_variants [] 0 laid.members)
  sounds_audio = sound_audio laid [] 0 laid.members
      (all_weaker (BeginsAudio laid.grouped) (BeginsAudio tracks) (λ members. audio_back (unwrap_or (slice_get members 0) 0)) laid.members
      (groups_begin laid.grouped (filling_of players))) tt

  -- the place of an audio track's set in its own group
  abbrev pub own_number : ℕ → ℕ
  own_number place = unwrap_or (position (is_place place) (members_in laid.groups (own_group laid.grouped laid.keys place))) 0

  pub own_number_is : (place : ℕ) (track : Track) → slice_get tracks place ≡ Some track → is_audio track.kind ≡ true
      → own_number place ≡ number_of laid.grouped track.set
  own_number_is place track at audio = let is = (grouped_as players tracks).there place track at in
      number_is laid.grouped place is.0 is.1.0 (ap is_audio is.1.1.0 ∙ audio) (filling_of players)
      ∙ ap (number_of laid.grouped) is.1.1.1
