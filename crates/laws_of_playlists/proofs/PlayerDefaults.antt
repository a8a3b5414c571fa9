-- Exactly one rendition of an audio group is the default.
use Rattle.std.proofs.Common.{◌≡◌, ℕ, zero, suc, ◌+◌, ◌<◌, ◌≤◌, Bool, true, false, ◌&&◌, cond, eqb, bytes_eq, codes, List, [], ◌∷◌, ◌++◌}
use Rattle.std.proofs.Common.{length, flat_map, count_by, sum_by, Option, Some, None, option_to_list, IfSome, refl, sym, ◌∙◌, ap, subst}
use Rattle.std.proofs.{Common.{arith, inl, inr}, lemmas.Bool.{cases_Bool, eq-eqb, eqb-true, ne_eqb, or_left}, lemmas.List.Sums.sum_by-cons}
use Rattle.std.proofs.{lemmas.List.Elements.All-from_recursion, lemmas.Option.same_Some}
use Rattle.std.specs.{List.{AllByRecursion, list_any, slice_get}, Option.{is_some, option_or}, Prelude.unwrap_or}
use Rattle.bridge_io.specs.declared.media.Kind.{Kind, TheVariants.{Video, Audio, Text}}
use Rattle.track_hints.specs.declared.hints.{Hints.Hints, TrackHints.TrackHints}
use Rattle.presentation.specs.{declared.track.Track.Track, Order.is_of}
use Rattle.audio_groups.specs.{Groups.is_audio, Keys.own_group}
use Rattle.hls_writer.specs.{Attributes.{group_number, type_name}, Master.{filling_of}, Menus.{first_that, is_main, is_place}}
use Rattle.hls_writer.specs.{Menus.main_member, Renditions.{LaidOut, audio_rendition, filled_at, filled_from, filled_renditions}}
use Rattle.hls_writer.specs.Renditions.{members_in, own_rendition, own_renditions, places_from, places_of, rendition_of, renditions_of}
use Rattle.hls_writer.specs.Renditions.{text_from, text_rendition, with_one}
use Rattle.laws_of_playlists.specs.Players.{DefaultsArePlayed, DefaultsAreSingle, HasOneDefault, IsAmong, IsTrack}
use Rattle.laws_of_playlists.proofs.{MasterLaid.{groups_are, laid}}
use Rattle.audio_groups.proofs.Lists.{all_append, all_map, all_of, all_weaker}
use Rattle.laws_of_playlists.proofs.MasterNumbers.{IsAudio, IsAudioIfSome, groups_apart, groups_some}
use Rattle.laws_of_playlists.proofs.MasterTypes.{Rendition, RenditionGroup}
use Rattle.laws_of_playlists.proofs.PlayerLists.{count_among, count_append, count_cons, count_map, count_none, count_pushed}
use Rattle.laws_of_playlists.proofs.PlayerTracks.{among_places, members_at}

-- ---- lists

all_at : {X : Type 0} (P : X → Type 0) (xs : List X) (k : ℕ) (x : X) → AllByRecursion P xs → slice_get xs k ≡ Some x → P x
all_at P [] k x all at = absurd (cc)
all_at P (y ∷ xs) zero x all at = subst P (same_Some y x at) all.0
all_at P (y ∷ xs) (suc k) x all at = all_at P xs k x all.1 at

get_there : {X : Type 0} (xs : List X) (k : ℕ) → k < length xs → (x : X) × (slice_get xs k ≡ Some x)
get_there [] k less = absurd (omega arith)
get_there (x ∷ xs) zero less = (x, refl)
get_there (x ∷ xs) (suc k) less = get_there xs k (omega arith)

-- ---- the places of a kind are different

below : (m place : ℕ) (found : List ℕ) → place ≤ m → AllByRecursion (λ p. p < place) found → count_by (λ p. eqb p m) found ≡ 0
below m place found less all = count_none (λ p. eqb p m) found
    (all_weaker (λ p. p < place) _ (λ p under. ne_eqb p m (λ e. omega (arith, e, under, less))) found all)

one_place : (kind : Kind) (m : ℕ) (found : List ℕ) (place : ℕ) (later : List Track) → AllByRecursion (λ p. p < place) found
    → count_by (λ p. eqb p m) found ≤ 1 → count_by (λ p. eqb p m) (places_from kind found place later) ≤ 1
one_place kind m found place [] all most = most
one_place kind m found place (track ∷ later) all most = elim (cases_Bool (is_of kind track.kind)) [
  | inl is ↦ rw is (one_place kind m (found ++ place ∷ []) (place + 1) later
      (all_append _ found (place ∷ []) (all_weaker (λ p. p < place) (λ p. p < place + 1) (λ p less. omega (arith, less)) found all)
      (omega arith, tt)) (pushed (eqb place m) refl))
  | inr isnt ↦ rw isnt (one_place kind m found (place + 1) later
      (all_weaker (λ p. p < place) (λ p. p < place + 1) (λ p less. omega (arith, less)) found all) most)
]
  where
    pushed : (b : Bool) → eqb place m ≡ b → count_by (λ p. eqb p m) (found ++ place ∷ []) ≤ 1
    pushed true is = omega (
      arith,
      count_pushed (λ p. eqb p m) found place,
      ap {B = ℕ} (λ b. cond b 1 0) is,
      below m place found (omega (arith, eqb-true place m is)) all,
    )
    pushed false isnt = omega (arith, most, count_pushed (λ p. eqb p m) found place, ap {B = ℕ} (λ b. cond b 1 0) isnt)

-- ---- the main member

found_among : (test : ℕ → Bool) (members : List ℕ) → IfSome (first_that test members) (λ m. IsAmong m members)
found_among test [] = tt
found_among test (place ∷ members) = elim (cases_Bool (test place)) [
  | inl is ↦ rw is (inl refl)
  | inr isnt ↦ rw isnt (later (first_that test members) (found_among test members))
]
  where
    later : (o : Option ℕ) → IfSome o (λ m. IsAmong m members) → IfSome o (λ m. IsAmong m (place ∷ members))
    later None is = tt
    later (Some m) is = inr is

abbrev HasMain : List TrackHints → List ℕ → Type 0
HasMain hints members = (m : ℕ) × ((main_member hints members ≡ Some m) × IsAmong m members)

main_there : (hints : List TrackHints) (member : ℕ) (members : List ℕ) → HasMain hints (member ∷ members)
main_there hints member members = of_found (first_that (is_main hints) (member ∷ members)) (found_among (is_main hints) (member ∷ members))
  where
    of_found : (o : Option ℕ) → IfSome o (λ m. IsAmong m (member ∷ members))
        → (m : ℕ) × ((option_or o (Some member) ≡ Some m) × IsAmong m (member ∷ members))
    of_found None is = (member, (refl, inl refl))
    of_found (Some m) is = (m, (refl, is))

some_main : (hints : List TrackHints) (members : List (Option ℕ)) → list_any is_some members ≡ true
    → HasMain hints (flat_map option_to_list members)
some_main hints [] e = absurd (cc)
some_main hints (None ∷ members) e = some_main hints members e
some_main hints (Some place ∷ members) e = main_there hints place (flat_map option_to_list members)

member_there : (m : ℕ) (members : List (Option ℕ)) → IsAmong m (flat_map option_to_list members) → 0 < count_by (is_place m) members
member_there m [] is = absurd is
member_there m (None ∷ members) is = omega (arith, count_cons (is_place m) None members, member_there m members is)
member_there m (Some place ∷ members) (inl is) =
    omega (arith, count_cons (is_place m) (Some place) members, ap {B = ℕ} (λ b. cond b 1 0) (eq-eqb m place (sym is)))
member_there m (Some place ∷ members) (inr later) =
    omega (arith, count_cons (is_place m) (Some place) members, member_there m members later)

audio_member : (tracks : List Track) (m : ℕ) (members : List (Option ℕ)) → AllByRecursion (IsAudioIfSome tracks) members
    → IsAmong m (flat_map option_to_list members) → IsAudio tracks m
audio_member tracks m [] all is = absurd is
audio_member tracks m (None ∷ members) all is = audio_member tracks m members all.1 is
audio_member tracks m (Some place ∷ members) all (inl is) = subst (IsAudio tracks) is all.0
audio_member tracks m (Some place ∷ members) all (inr later) = audio_member tracks m members all.1 later

audio_kind : (kind : Kind) → is_audio kind ≡ true → kind ≡ Audio
audio_kind Audio e = refl
audio_kind Video e = absurd (cc)
audio_kind Text e = absurd (cc)

-- ---- how often the main member of a group is its default

module _ (hints : Hints) (tracks : List Track) (g m : ℕ) where
  abbrev l : LaidOut
  l = laid (Some hints) tracks

  abbrev own : ℕ → ℕ
  own place = own_group l.grouped l.keys place

  abbrev chosen : ℕ → Option ℕ
  chosen group = main_member hints.tracks (members_in l.members group)

  abbrev test : Rendition → Bool
  test r = (bytes_eq (type_name r.group) (codes "AUDIO") && eqb (group_number r.group) g) && r.is_default

  module _ (main : chosen g ≡ Some m) where
    told : (group place : ℕ) → (eqb group g && is_place place (chosen group)) ≡ (eqb group g && eqb place m)
    told group place = of_case (eqb group g) refl
      where
        of_case : (b : Bool) → eqb group g ≡ b → (b && is_place place (chosen group)) ≡ (b && eqb place m)
        of_case true is = ap (is_place place) (ap chosen (eqb-true group g is) ∙ main)
        of_case false isnt = refl

    -- ---- its own rendition

    own_test : (place : ℕ) → test (own_rendition l place) ≡ (eqb (own m) g && eqb place m)
    own_test place = told (own place) place ∙ of_case (eqb place m) refl
      where
        of_case : (b : Bool) → eqb place m ≡ b → (eqb (own place) g && b) ≡ (eqb (own m) g && b)
        of_case true is = ap (λ p. eqb (own p) g && true) (eqb-true place m is)
        of_case false isnt = neither (eqb (own place) g) ∙ sym (neither (eqb (own m) g))
          where
            neither : (b : Bool) → (b && false) ≡ false
            neither true = refl
            neither false = refl

    own_count : IsTrack tracks Audio m → count_by test (own_renditions l) ≡ cond (eqb (own m) g) 1 0
    own_count is =
        count_map test (own_rendition l) (places_of Audio tracks)
        ∙ (λ i. count_by (λ place. own_test place i) (places_of Audio tracks)) ∙ of_case (eqb (own m) g)
      where
        of_case : (b : Bool) → count_by (λ place. b && eqb place m) (places_of Audio tracks) ≡ cond b 1 0
        of_case true = omega (
          arith,
          one_place Audio m [] 0 tracks tt (omega arith),
          count_among m (places_of Audio tracks) (among_places tracks Audio m is),
        )
        of_case false = count_none (λ place. false) (places_of Audio tracks) (all_of _ (λ place. refl) (places_of Audio tracks))

    -- ---- where it fills a group

    abbrev weight : (group : ℕ) → Option ℕ → ℕ
    weight group None = 0
    weight group (Some place) = cond (eqb (own place) group) 0 (cond (eqb group g && eqb place m) 1 0)

    one_filled : (group : ℕ) (found : List Rendition) (set : ℕ) (member : Option ℕ)
        → count_by test (with_one found (filled_at l group set member)) ≡ count_by test found + weight group member
    one_filled group found set None = omega arith
    one_filled group found set (Some place) = elim (cases_Bool (eqb (own place) group)) [
      | inl is ↦ rw is (omega arith)
      | inr isnt ↦ rw isnt (count_pushed test found (audio_rendition l group set place)
          ∙ ap (λ b. count_by test found + cond b 1 0) (told group place))
    ]

    filled_count : (group : ℕ) (found : List Rendition) (set : ℕ) (members : List (Option ℕ))
        → count_by test (filled_from l group found set members) ≡ count_by test found + sum_by (weight group) members
    filled_count group found set [] = omega arith
    filled_count group found set (member ∷ members) = omega (
      arith,
      filled_count group (with_one found (filled_at l group set member)) (set + 1) members,
      one_filled group found set member,
      sum_by-cons (weight group) member members,
    )

    no_weight : (group : ℕ) → eqb group g ≡ false → (members : List (Option ℕ)) → sum_by (weight group) members ≡ 0
    no_weight group other [] = refl
    no_weight group other (member ∷ members) = omega (
      arith,
      sum_by-cons (weight group) member members,
      of_member member,
      no_weight group other members,
    )
      where
        of_own : (b : Bool) → cond {A = ℕ} b 0 0 ≡ 0
        of_own true = refl
        of_own false = refl

        of_member : (member : Option ℕ) → weight group member ≡ 0
        of_member None = refl
        of_member (Some place) = rw other (of_own (eqb (own place) group))

    abbrev counted : Bool → Option ℕ → ℕ
    counted b member = cond b 0 (cond (is_place m member) 1 0)

    its_weight : (member : Option ℕ) → weight g member ≡ counted (eqb (own m) g) member
    its_weight None = of_own (eqb (own m) g)
      where
        of_own : (b : Bool) → 0 ≡ cond {A = ℕ} b 0 0
        of_own true = refl
        of_own false = refl
    its_weight (Some place) = of_case (eqb place m) refl
      where
        of_own : (b c : Bool) → cond {A = ℕ} b 0 0 ≡ cond {A = ℕ} c 0 0
        of_own true true = refl
        of_own true false = refl
        of_own false true = refl
        of_own false false = refl

        of_case : (b : Bool) → eqb place m ≡ b → weight g (Some place) ≡ counted (eqb (own m) g) (Some place)
        of_case true is = let same = eqb-true place m is in
            rw (is, eq-eqb g g refl, eq-eqb m place (sym same)) (ap (λ p. cond (eqb (own p) g) 0 1) same)
        of_case false isnt = let other : eqb m place ≡ false = ne_eqb m place (λ e. no_path (sym isnt ∙ eq-eqb place m (sym e))) in
            rw (isnt, eq-eqb g g refl, other) (of_own (eqb (own place) g) (eqb (own m) g))
          where
            no_path : false ≡ true → ⊥
            no_path e = absurd (cc)

    whole_weight : (members : List (Option ℕ)) → count_by (is_place m) members ≡ 1 → sum_by (weight g) members ≡ cond (eqb (own m) g) 0 1
    whole_weight members one = (λ i. sum_by (λ member. its_weight member i) members) ∙ of_own (eqb (own m) g)
      where
        none : (members : List (Option ℕ)) → sum_by (λ member. 0) members ≡ 0
        none [] = refl
        none (member ∷ members) = omega (arith, sum_by-cons (λ (member : Option ℕ). 0) member members, none members)

        of_own : (b : Bool) → sum_by (counted b) members ≡ cond b 0 1
        of_own true = none members
        of_own false = one

    filled_after : (found : List Rendition) (group : ℕ) (groups : List (List (Option ℕ))) → g < group
        → count_by test (filled_renditions l found group groups) ≡ count_by test found
    filled_after found group [] less = refl
    filled_after found group (members ∷ groups) less = omega (
      arith,
      filled_after (found ++ filled_from l group [] 0 members) (group + 1) groups (omega arith),
      count_append test found (filled_from l group [] 0 members),
      filled_count group [] 0 members,
      no_weight group (ne_eqb group g (λ e. omega (arith, e, less))) members,
    )

    filled_there : (found : List Rendition) (group : ℕ) (groups : List (List (Option ℕ))) (k : ℕ) (members : List (Option ℕ))
        → g ≡ group + k → slice_get groups k ≡ Some members
        → count_by test (filled_renditions l found group groups) ≡ count_by test found + sum_by (weight g) members
    filled_there found group [] k members sum at = absurd (cc)
    filled_there found group (x ∷ groups) zero members sum at =
        let here : group ≡ g = omega arith in
        let its : sum_by (weight group) x ≡ sum_by (weight g) members = ap (λ n. sum_by (weight n) x) here
        ∙ ap (sum_by (weight g)) (same_Some x members at) in
        omega (
          arith,
          filled_after (found ++ filled_from l group [] 0 x) (group + 1) groups (omega arith),
          count_append test found (filled_from l group [] 0 x),
          filled_count group [] 0 x,
          its,
        )
    filled_there found group (x ∷ groups) (suc k) members sum at = omega (
      arith,
      filled_there (found ++ filled_from l group [] 0 x) (group + 1) groups k members (omega arith) at,
      count_append test found (filled_from l group [] 0 x),
      filled_count group [] 0 x,
      no_weight group (ne_eqb group g (λ e. omega (arith, e, sum))) x,
    )

    texts_none : (found : List Rendition) (number : ℕ) (places : List ℕ) → AllByRecursion (λ r. test r ≡ false) found
        → AllByRecursion (λ r. test r ≡ false) (text_from l found number places)
    texts_none found number [] all = all
    texts_none found number (place ∷ places) all = texts_none (found ++ text_rendition l number place ∷ []) (number + 1) places
        (all_append _ found (text_rendition l number place ∷ []) all (refl, tt))

    has_one : (members : List (Option ℕ)) → slice_get l.groups g ≡ Some members → IsTrack tracks Audio m
        → count_by (is_place m) members ≡ 1 → HasOneDefault l g
    has_one members at audio one = omega (
      arith,
      count_append test (own_renditions l ++ filled_renditions l [] 0 l.groups) (text_from l [] 0 l.texts),
      count_append test (own_renditions l) (filled_renditions l [] 0 l.groups),
      own_count audio,
      filled_there [] 0 l.groups g members (omega arith) at,
      whole_weight members one,
      count_none test (text_from l [] 0 l.texts) (texts_none [] 0 l.texts tt),
      either (eqb (own m) g),
    )
      where
        either : (b : Bool) → cond {A = ℕ} b 1 0 + cond {A = ℕ} b 0 1 ≡ 1
        either true = refl
        either false = refl

pub defaults_are_single : DefaultsAreSingle
defaults_are_single hints tracks g less =
    let l = laid (Some hints) tracks in
    let there = get_there l.groups g less in
    let members = there.0 in
    let inside : members_in l.members g ≡ flat_map option_to_list members = members_at l.groups g
    ∙ ap (λ o. flat_map option_to_list (unwrap_or o [])) there.1 in
    let some = all_at (λ members. list_any is_some members ≡ true) l.groups g members
    (groups_some l.grouped (filling_of (Some hints))) there.1 in
    let main = some_main hints.tracks members some in
    let m = main.0 in
    let most = all_at (λ members. count_by (is_place m) members ≤ 1) l.groups g members
    (groups_apart l.grouped (filling_of (Some hints)) m) there.1 in
    let audio = audio_member tracks m members (all_at (AllByRecursion (IsAudioIfSome tracks)) l.groups g members
    (groups_are (Some hints) tracks) there.1) main.1.1 in
    has_one hints tracks g m (ap (main_member hints.tracks) inside ∙ main.1.0) members there.1
    (record { track = audio.0; at = audio.1.0; of = audio_kind audio.0.kind audio.1.1 })
    (omega (arith, most, member_there m members main.1.1))

-- ---- a default is played

module _ (hints : Hints) (tracks : List Track) where
  abbrev laid_l : LaidOut
  laid_l = laid (Some hints) tracks

  abbrev IsPlayed : Rendition → Type 0
  IsPlayed r = r.is_default ≡ true → r.is_autoselect ≡ true

  made_played : (heads members : List ℕ) (group : RenditionGroup) (number place : ℕ)
      → IsPlayed (rendition_of (Some hints) tracks heads members group number place)
  made_played heads members group number place is = or_left _ _ is

  one_played : (group : ℕ) (found : List Rendition) (set : ℕ) (member : Option ℕ) → AllByRecursion IsPlayed found
      → AllByRecursion IsPlayed (with_one found (filled_at laid_l group set member))
  one_played group found set None all = all
  one_played group found set (Some place) all = elim (cases_Bool (eqb (own_group laid_l.grouped laid_l.keys place) group)) [
    | inl is ↦ rw is all
    | inr isnt ↦ rw isnt (all_append IsPlayed found (audio_rendition laid_l group set place ∷ []) all
        (made_played laid_l.heads (members_in laid_l.members group) (audio_rendition laid_l group set place).group set place, tt))
  ]

  filled_played : (group : ℕ) (found : List Rendition) (set : ℕ) (members : List (Option ℕ)) → AllByRecursion IsPlayed found
      → AllByRecursion IsPlayed (filled_from laid_l group found set members)
  filled_played group found set [] all = all
  filled_played group found set (member ∷ members) all =
      filled_played group (with_one found (filled_at laid_l group set member)) (set + 1) members (one_played group found set member all)

  all_filled : (found : List Rendition) (group : ℕ) (groups : List (List (Option ℕ))) → AllByRecursion IsPlayed found
      → AllByRecursion IsPlayed (filled_renditions laid_l found group groups)
  all_filled found group [] all = all
  all_filled found group (members ∷ groups) all = all_filled (found ++ filled_from laid_l group [] 0 members) (group + 1) groups
      (all_append IsPlayed found (filled_from laid_l group [] 0 members) all (filled_played group [] 0 members tt))

  texts_played : (found : List Rendition) (number : ℕ) (places : List ℕ) → AllByRecursion IsPlayed found
      → AllByRecursion IsPlayed (text_from laid_l found number places)
  texts_played found number [] all = all
  texts_played found number (place ∷ places) all = texts_played (found ++ text_rendition laid_l number place ∷ []) (number + 1) places
      (all_append IsPlayed found (text_rendition laid_l number place ∷ []) all
      (made_played laid_l.texts laid_l.texts (text_rendition laid_l number place).group number place, tt))

  own_played : (place : ℕ) → IsPlayed (own_rendition laid_l place)
  own_played place is = or_left _ _ is

pub defaults_are_played : DefaultsArePlayed
defaults_are_played hints tracks =
    let l = laid (Some hints) tracks in
    All-from_recursion _ (renditions_of l) (all_append (IsPlayed hints tracks) (own_renditions l ++ filled_renditions l [] 0 l.groups)
    (text_from l [] 0 l.texts) (all_append (IsPlayed hints tracks) (own_renditions l) (filled_renditions l [] 0 l.groups)
    (all_map (IsPlayed hints tracks) (own_rendition l) (places_of Audio tracks)
    (all_of _ (own_played hints tracks) (places_of Audio tracks)))
    (all_filled hints tracks [] 0 l.groups tt)) (texts_played hints tracks [] 0 l.texts tt))
