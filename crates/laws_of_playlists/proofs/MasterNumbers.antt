-- A rendition's number is its set's place among the audio sets.
use Rattle.std.proofs.Common.{◌≡◌, ℕ, ◌^◌, ◌<◌, ◌≤◌, Bool, true, false, eqb, List, [], ◌∷◌, ◌++◌, length, get_or, position, cond, count_by}
use Rattle.std.proofs.Common.{Option, Some}
use Rattle.std.proofs.{Common.{None, unwrap_or, IfSome, refl, sym, ◌∙◌, ap, subst, arith, inl, inr}, lemmas.Bool.{and_from, and_parts}}
use Rattle.std.proofs.{lemmas.Bool.{cases_Bool, eq-eqb, eqb-false, eqb-true, ne_eqb}, lemmas.Option.{slice_get-get_or, slice_get-map}}
use Rattle.std.specs.{List.{AllByRecursion, flat_map, list_any, slice_get}, Option.{is_some, option_map_or, option_or}}
use Rattle.std.specs.{Prelude.option_to_list}
use Rattle.presentation.specs.declared.track.Track.{Track}
use Rattle.audio_groups.specs.Groups.{filler, first_place, group_for, groups_of, is_audio, is_of_codes, is_of_key}
use Rattle.audio_groups.specs.Groups.{last_of, member_of, rendition_at, renditions_of}
use Rattle.audio_groups.specs.declared.groups.{Filling.Filling, Filling.TheVariants.{Filled, Pure}}
use Rattle.hls_writer.specs.{Menus.is_place, Renditions.members_in}
use Rattle.audio_groups.specs.Keys.{is_same_key, keys_of, own_group}
use Rattle.hls_writer.specs.{Master.tracks_in}
use Rattle.laws_of_playlists.proofs.MasterTypes.{AudioTrack, firsts, of_same_set, same_key}
use Rattle.audio_groups.proofs.Lists.{IsPlaced, all_map, all_of, all_weaker, any_mapped, placed, placed_alike}
use Rattle.laws_of_playlists.specs.Players.{IsAmong}
use Rattle.laws_of_playlists.proofs.PlayerLists.{among_passing, count_any, count_less, count_map, count_pushed}
use Rattle.audio_groups.proofs.Places.{IsAt, all_at, finds, follow}
use Rattle.laws_of_playlists.proofs.MasterPlaces.{all_firsts, firsts_few, firsts_have, key_of, keys_are, renditions_few, same_place}

-- ---- a set's member of a group

first_has : (test : AudioTrack → Bool) (P : ℕ → Type 0) (ones : List AudioTrack)
    → AllByRecursion (λ one. test one ≡ true → P one.place) ones → IfSome (first_place test ones) P
first_has test P [] all = tt
first_has test P (one ∷ ones) all = elim (cases_Bool (test one)) [
  | inl is ↦ rw is (all.0 is)
  | inr isnt ↦ rw isnt (first_has test P ones all.1)
]

last_has : (test : AudioTrack → Bool) (P : ℕ → Type 0) (last : Option ℕ) (ones : List AudioTrack) → IfSome last P
    → AllByRecursion (λ one. test one ≡ true → P one.place) ones → IfSome (last_of test last ones) P
last_has test P last [] so_far all = so_far
last_has test P last (one ∷ ones) so_far all = elim (cases_Bool (test one)) [
  | inl is ↦ rw is (last_has test P (Some one.place) ones (all.0 is) all.1)
  | inr isnt ↦ rw isnt (last_has test P last ones so_far all.1)
]

or_has : (P : ℕ → Type 0) (first last other : Option ℕ) → IfSome first P → IfSome last P → IfSome other P
    → IfSome (option_or (option_or first last) other) P
or_has P (Some place) last other h k l = h
or_has P None (Some place) other h k l = k
or_has P None None other h k l = l

filler_has : (P : ℕ → Type 0) (filling : Filling) (set : AudioTrack) → P set.place → IfSome (filler filling set) P
filler_has P Filled set here = here
filler_has P Pure set here = tt

member_has : (P : ℕ → Type 0) (filling : Filling) (ones : List AudioTrack) (key set : AudioTrack)
    → AllByRecursion (λ one. eqb set.set one.set ≡ true → P one.place) ones → P set.place → IfSome (member_of filling ones key set) P
member_has P filling ones key set all here = or_has P _ _ (filler filling set)
    (first_has (is_of_key key set) P ones (all_weaker _ _ (λ one h e. h (and_parts (eqb set.set one.set) _ e).0) ones all))
    (last_has (is_of_codes key set) P None ones tt (all_weaker _ _ (λ one h e. h (and_parts (eqb set.set one.set) _ e).0) ones all))
    (filler_has P filling set here)

first_is : (test : AudioTrack → Bool) (place : ℕ) (ones : List AudioTrack)
    → AllByRecursion (λ one. test one ≡ true → one.place ≡ place) ones → list_any test ones ≡ true → first_place test ones ≡ Some place
first_is test place [] all e = absurd (cc)
first_is test place (one ∷ ones) all e = elim (cases_Bool (test one)) [
  | inl is ↦ rw is (ap Some (all.0 is))
  | inr isnt ↦ let later : list_any test ones ≡ true = rw isnt at e in rw isnt (first_is test place ones all.1 later)
]

module _ (tracks : List Track) where
  -- an audio track stands at a place
  abbrev pub IsAudio : ℕ → Type 0
  IsAudio place = (track : Track) × ((slice_get tracks place ≡ Some track) × (is_audio track.kind ≡ true))

  -- where there is a member, it is audio
  abbrev pub IsAudioIfSome : Option ℕ → Type 0
  IsAudioIfSome member = IfSome member IsAudio

  abbrev pub BeginsAudio : List ℕ → Type 0
  BeginsAudio members = IsAudio (unwrap_or (slice_get members 0) 0)

  some_begin : (members : List (Option ℕ)) → AllByRecursion IsAudioIfSome members → list_any is_some members ≡ true
      → BeginsAudio (flat_map option_to_list members)
  some_begin [] all e = absurd (cc)
  some_begin (None ∷ members) all e = some_begin members all.1 e
  some_begin (Some place ∷ members) all e = all.0

  -- ---- what groups are made of

  abbrev pub sets_of : List AudioTrack
  sets_of = firsts of_same_set [] (renditions_of tracks)

  abbrev kept_keys : List AudioTrack
  kept_keys = firsts same_key [] (renditions_of tracks)

  abbrev pub number_of : ℕ → ℕ
  number_of set = unwrap_or (position (λ (one : AudioTrack). eqb set one.set) sets_of) 0

  abbrev set_at : ℕ → ℕ
  set_at place = option_map_or (λ (track : Track). track.set) (slice_get tracks place) 0

  pub stand : AllByRecursion (IsAt tracks) (renditions_of tracks)
  stand = all_at tracks [] 0 tracks (follow tracks [] tracks refl) tt

  sets_stand : AllByRecursion (IsAt tracks) sets_of
  sets_stand = all_firsts of_same_set (IsAt tracks) [] (renditions_of tracks) tt stand

  set_is : (one : AudioTrack) → IsAt tracks one → set_at one.place ≡ one.set
  set_is one at = rw at.at (sym (ap (λ (o : AudioTrack). o.set) at.is))

  member_set : (filling : Filling) (key set : AudioTrack) → IsAt tracks set
      → IfSome (member_of filling (renditions_of tracks) key set) (λ place. set_at place ≡ set.set)
  member_set filling key set is_at = member_has (λ place. set_at place ≡ set.set) filling (renditions_of tracks) key set
      (all_weaker (IsAt tracks) _ (λ one is e. set_is one is ∙ sym (eqb-true set.set one.set e)) (renditions_of tracks) stand)
      (set_is set is_at)

  -- ---- a set has one member

  one_of_set : (set : ℕ) (found ones : List AudioTrack) → count_by (λ (one : AudioTrack). eqb set one.set) found ≤ 1
      → count_by (λ (one : AudioTrack). eqb set one.set) (firsts of_same_set found ones) ≤ 1
  one_of_set set found [] most = most
  one_of_set set found (one ∷ ones) most = elim (cases_Bool (list_any (of_same_set one) found)) [
    | inl is ↦ rw is (one_of_set set found ones most)
    | inr isnt ↦ rw isnt (one_of_set set (found ++ one ∷ []) ones (pushed (eqb set one.set) refl isnt))
  ]
    where
      pushed : (b : Bool) → eqb set one.set ≡ b → list_any (of_same_set one) found ≡ false
          → count_by (λ (one : AudioTrack). eqb set one.set) (found ++ one ∷ []) ≤ 1
      pushed true is none = omega (
        arith,
        count_pushed (λ (one : AudioTrack). eqb set one.set) found one,
        ap {B = ℕ} (λ b. cond b 1 0) is,
        ap (λ n. count_by (λ (other : AudioTrack). eqb n other.set) found) (eqb-true set one.set is),
        count_any (of_same_set one) found none,
      )
      pushed false isnt none = omega (
        arith,
        most,
        count_pushed (λ (one : AudioTrack). eqb set one.set) found one,
        ap {B = ℕ} (λ b. cond b 1 0) isnt,
      )

  its_set : (m set : ℕ) (member : Option ℕ) → IfSome member (λ place. set_at place ≡ set) → is_place m member ≡ true
      → eqb (set_at m) set ≡ true
  its_set m set None is e = absurd (cc)
  its_set m set (Some place) is e = eq-eqb (set_at m) set (ap set_at (eqb-true m place e) ∙ is)

  one_member : (filling : Filling) (m : ℕ) (key : AudioTrack)
      → count_by (is_place m) (group_for filling (renditions_of tracks) sets_of key) ≤ 1
  one_member filling m key = omega (
    arith,
    count_map (is_place m) (member_of filling (renditions_of tracks) key) sets_of,
    count_less (λ set. is_place m (member_of filling (renditions_of tracks) key set)) (λ (set : AudioTrack). eqb (set_at m) set.set)
        sets_of (all_weaker (IsAt tracks) _ (λ set at e. its_set m set.set (member_of filling (renditions_of tracks) key set)
        (member_set filling key set at) e) sets_of sets_stand),
    one_of_set (set_at m) [] (renditions_of tracks) (omega arith),
  )

  -- ---- an audio track at a place

  module _ (place : ℕ) (track : Track) (at : slice_get tracks place ≡ Some track) (audio : is_audio track.kind ≡ true) where
    abbrev own : AudioTrack
    own = rendition_at tracks place track

    set_there : list_any (λ (one : AudioTrack). eqb track.set one.set) sets_of ≡ true
    set_there = firsts_have of_same_set (λ (one : AudioTrack). eqb track.set one.set)
        (λ x y e f. eq-eqb track.set y.set (eqb-true track.set x.set f ∙ eqb-true x.set y.set e)) [] (renditions_of tracks)
        (finds tracks (λ (one : AudioTrack). eqb track.set one.set) [] 0 tracks place place track (omega arith) at audio
        (eq-eqb track.set track.set refl))

    set_placed : IsPlaced (λ (one : AudioTrack). eqb track.set one.set) sets_of
    set_placed = placed _ sets_of set_there

    pub set_told : (d : AudioTrack) → track.set ≡ (get_or sets_of (number_of track.set) d).set
    set_told d = rw set_placed.is (eqb-true track.set _ (set_placed.passes d))

    pub number_few : length tracks < 2 ^ 64 → number_of track.set < 2 ^ 64
    number_few few = rw set_placed.is (omega (
      arith,
      few,
      set_placed.within,
      firsts_few of_same_set [] (renditions_of tracks),
      renditions_few tracks [] 0 tracks,
    ))

    module _ (filling : Filling) where
      pub member_own : (key set : AudioTrack) → same_key own key ≡ true → track.set ≡ set.set
          → member_of filling (renditions_of tracks) key set ≡ Some place
      member_own key set same is =
          let parts = and_parts (eqb own.codes key.codes) (eqb own.rank key.rank) same in
          let codes : own.codes ≡ key.codes = eqb-true own.codes key.codes parts.0 in
          let rank : own.rank ≡ key.rank = eqb-true own.rank key.rank parts.1 in
          let passes : is_of_key key set own ≡ true = and_from _ _ (eq-eqb set.set track.set (sym is))
          (and_from _ _ (eq-eqb key.codes own.codes (sym codes)) (eq-eqb key.rank own.rank (sym rank))) in
          let there : list_any (is_of_key key set) (renditions_of tracks) ≡ true =
          finds tracks (is_of_key key set) [] 0 tracks place place track (omega arith) at audio passes in
          let found : first_place (is_of_key key set) (renditions_of tracks) ≡ Some place =
          first_is (is_of_key key set) place (renditions_of tracks)
          (all_weaker (IsAt tracks) _ (λ one is_at e. only one is_at e) (renditions_of tracks) stand) there in
          rw found refl
        where
          only : (one : AudioTrack) → IsAt tracks one → is_of_key key set one ≡ true → one.place ≡ place
          only one is_at e =
              let two = and_parts (eqb set.set one.set) (same_key key one) e in
              let keys = and_parts (eqb key.codes one.codes) (eqb key.rank one.rank) two.1 in
              let parts = and_parts (eqb own.codes key.codes) (eqb own.rank key.rank) same in
              same_place tracks one.place place is_at.track track is_at.at at is_at.audio audio
              (sym (ap (λ (o : AudioTrack). o.set) is_at.is) ∙ sym (eqb-true set.set one.set two.0) ∙ sym is)
              (sym (ap (λ (o : AudioTrack). o.codes) is_at.is) ∙ sym (eqb-true key.codes one.codes keys.0)
              ∙ sym (eqb-true own.codes key.codes parts.0))
              (sym (ap (λ (o : AudioTrack). o.rank) is_at.is) ∙ sym (eqb-true key.rank one.rank keys.1)
              ∙ sym (eqb-true own.rank key.rank parts.1))

      not_it : (set : ℕ) → eqb track.set set ≡ false → (member : Option ℕ) → IfSome member (λ place. set_at place ≡ set)
          → is_place place member ≡ false
      not_it set isnt None other = refl
      not_it set isnt (Some member) other =
          ne_eqb place member (λ e. eqb-false track.set set isnt (rw at at (ap set_at e ∙ other)))

      -- in a group of its own codes and rank, a track stands where its set stands
      as_set : (key set : AudioTrack) → same_key own key ≡ true → IsAt tracks set
          → is_place place (member_of filling (renditions_of tracks) key set) ≡ eqb track.set set.set
      as_set key set same is_at = elim (cases_Bool (eqb track.set set.set)) [
        | inl is ↦ rw (is, member_own key set same (eqb-true track.set set.set is)) (eq-eqb place place refl)
        | inr isnt ↦ not_it set.set isnt (member_of filling (renditions_of tracks) key set) (member_set filling key set is_at) ∙ sym isnt
      ]

      key_placed : IsPlaced (same_key own) kept_keys
      key_placed = placed (same_key own) kept_keys (firsts_have same_key (same_key own) alike [] (renditions_of tracks)
          (finds tracks (same_key own) [] 0 tracks place place track (omega arith) at audio
          (and_from _ _ (eq-eqb own.codes own.codes refl) (eq-eqb own.rank own.rank refl))))
        where
          alike : (x y : AudioTrack) → same_key x y ≡ true → same_key own x ≡ true → same_key own y ≡ true
          alike x y e f =
              let one = and_parts (eqb x.codes y.codes) (eqb x.rank y.rank) e in
              let two = and_parts (eqb own.codes x.codes) (eqb own.rank x.rank) f in
              and_from _ _ (eq-eqb own.codes y.codes (eqb-true own.codes x.codes two.0 ∙ eqb-true x.codes y.codes one.0))
              (eq-eqb own.rank y.rank (eqb-true own.rank x.rank two.1 ∙ eqb-true x.rank y.rank one.1))

      own_key : AudioTrack
      own_key = get_or kept_keys key_placed.place own

      -- the members of the track's own group
      own_members : members_in (groups_of filling tracks) (own_group tracks (keys_of tracks) place)
          ≡ group_for filling (renditions_of tracks) sets_of own_key
      unfolding groups_of own_key
      own_members =
          let group : own_group tracks (keys_of tracks) place ≡ key_placed.place =
          rw (
            at,
            keys_are tracks [] 0 tracks,
            placed_alike (is_same_key (key_of own)) (same_key own) key_of kept_keys
                (all_of _ (λ x. refl) kept_keys),
            key_placed.is,
          ) refl in
          rw (
            group,
            slice_get-map (group_for filling (renditions_of tracks) sets_of) kept_keys key_placed.place,
            slice_get-get_or kept_keys key_placed.place own key_placed.within,
          ) refl

      key_passes : same_key own own_key ≡ true
      unfolding own_key
      key_passes = key_placed.passes own

      pub number_is : unwrap_or (position (is_place place) (members_in (groups_of filling tracks)
          (own_group tracks (keys_of tracks) place))) 0 ≡ number_of track.set
      number_is = rw own_members (ap (λ o. unwrap_or o 0) (placed_alike (is_place place) (λ (one : AudioTrack). eqb track.set one.set)
          (member_of filling (renditions_of tracks) own_key) sets_of
          (all_weaker (IsAt tracks) _ (λ set is_at. as_set own_key set key_passes is_at) sets_of sets_stand)))

      pub is_member : IsAmong (Some place) (members_in (groups_of filling tracks) (own_group tracks (keys_of tracks) place))
      is_member = rw own_members (among_passing (λ (set : AudioTrack). eqb track.set set.set)
          (member_of filling (renditions_of tracks) own_key) (Some place)
          (λ set e. member_own own_key set key_passes (eqb-true track.set set.set e)) sets_of set_there)

  pub number_apart : (p q : ℕ) (t u : Track) → slice_get tracks p ≡ Some t → slice_get tracks q ≡ Some u → is_audio t.kind ≡ true
      → is_audio u.kind ≡ true → number_of t.set ≡ number_of u.set → t.set ≡ u.set
  number_apart p q t u at_p at_q audio_t audio_u e =
      let d : AudioTrack = record { place = 0; set = 0; codes = 0; rank = 0 } in
      set_told p t at_p audio_t d ∙ ap (λ n. (get_or sets_of n d).set) e ∙ sym (set_told q u at_q audio_u d)

  -- ---- the members of groups

  module _ (filling : Filling) where
    member_audio : (key set : AudioTrack) → IsAt tracks set → IsAudioIfSome (member_of filling (renditions_of tracks) key set)
    member_audio key set at = member_has IsAudio filling (renditions_of tracks) key set
        (all_weaker (IsAt tracks) _ (λ one is e. (is.track, (is.at, is.audio))) (renditions_of tracks) stand) (at.track, (at.at, at.audio))

    members_audio : (key : AudioTrack) → AllByRecursion IsAudioIfSome (group_for filling (renditions_of tracks) sets_of key)
    members_audio key = all_map IsAudioIfSome (member_of filling (renditions_of tracks) key) sets_of
        (all_weaker (IsAt tracks) _ (λ set at. member_audio key set at) sets_of sets_stand)

    pub groups_audio : AllByRecursion (AllByRecursion IsAudioIfSome) (groups_of filling tracks)
    unfolding groups_of
    groups_audio = all_map (AllByRecursion IsAudioIfSome) (group_for filling (renditions_of tracks) sets_of) kept_keys
        (all_of _ members_audio kept_keys)

    -- the member of a key's own set is there
    some_member : (key : AudioTrack) → IsAt tracks key
        → list_any is_some (group_for filling (renditions_of tracks) sets_of key) ≡ true
    some_member key at = any_mapped (λ (set : AudioTrack). eqb at.track.set set.set) is_some (member_of filling (renditions_of tracks) key)
        (λ set e. ap is_some (member_own key.place at.track at.at at.audio filling key set
        (subst (λ (one : AudioTrack). same_key one key ≡ true) at.is
        (and_from _ _ (eq-eqb key.codes key.codes refl) (eq-eqb key.rank key.rank refl)))
        (eqb-true at.track.set set.set e))) sets_of (set_there key.place at.track at.at at.audio)

    pub groups_begin : AllByRecursion BeginsAudio (tracks_in (groups_of filling tracks))
    unfolding groups_of
    groups_begin = all_map BeginsAudio (λ members. flat_map option_to_list members) (groups_of filling tracks)
        (all_map (λ members. BeginsAudio (flat_map option_to_list members)) (group_for filling (renditions_of tracks) sets_of) kept_keys
        (all_weaker (IsAt tracks) _ (λ key at. some_begin _ (members_audio key) (some_member key at)) kept_keys
        (all_firsts same_key (IsAt tracks) [] (renditions_of tracks) tt stand)))

    pub groups_some : AllByRecursion (λ members. list_any is_some members ≡ true) (groups_of filling tracks)
    unfolding groups_of
    groups_some = all_map (λ members. list_any is_some members ≡ true) (group_for filling (renditions_of tracks) sets_of) kept_keys
        (all_weaker (IsAt tracks) _ some_member kept_keys (all_firsts same_key (IsAt tracks) [] (renditions_of tracks) tt stand))

    -- no track is a member twice
    pub groups_apart : (m : ℕ) → AllByRecursion (λ members. count_by (is_place m) members ≤ 1) (groups_of filling tracks)
    unfolding groups_of
    groups_apart m = all_map (λ members. count_by (is_place m) members ≤ 1) (group_for filling (renditions_of tracks) sets_of) kept_keys
        (all_of _ (one_member filling m) kept_keys)
