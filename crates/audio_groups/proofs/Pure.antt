-- The members of the groups of one family each.
use Rattle.std.proofs.Common.{◌≡◌, ℕ, Bool, true, false, eqb, List, [], ◌∷◌, map, Option, Some, None, refl, sym, ◌∙◌, ap, inl, inr, arith}
use Rattle.std.proofs.lemmas.List.Elements.{All-from_recursion}
use Rattle.std.proofs.lemmas.Bool.{and_from, and_parts, cases_Bool, eq-eqb, eqb-true}
use Rattle.std.specs.{Bool.⊤, List.{AllByRecursion, AllZip, list_any, slice_get}, Option.option_or}
use Rattle.presentation.specs.declared.track.Track.{Track}
use Rattle.audio_groups.specs.declared.groups.{Filling.TheVariants.Pure, Rendition.Rendition, Sameness.TheVariants.{Key, Set}}
use Rattle.audio_groups.specs.Groups.{first_place, firsts, first_with_key, is_audio, is_of_codes, is_of_key, is_same, last_of, last_with_codes}
use Rattle.audio_groups.specs.Groups.{rendition_at, renditions_of}
use Rattle.audio_groups.specs.{Groups.{found_in, group_for, groups_of, member_of}, Laws.{GroupsArePure, IsMember, IsOf, IsPure}}
use Rattle.audio_groups.proofs.{Lists.{all_map, all_of, all_weaker}, Places.{IsAt, all_at, all_firsts, finds, follow, same_codecs, same_codes}}

-- what is found has passed the test
abbrev Has : (Rendition → Bool) → (ℕ → Type 0) → Rendition → Type 0
Has test P one = test one ≡ true → P one.place

abbrev HasOr : (ℕ → Type 0) → Type 0 → Option ℕ → Type 0
HasOr P N (Some place) = P place
HasOr P N None = N

first_has : (test : Rendition → Bool) (P : ℕ → Type 0) (ones : List Rendition) → AllByRecursion (Has test P) ones
    → HasOr P ⊤ (first_place test ones)
first_has test P [] all = tt
first_has test P (one ∷ ones) all = elim (cases_Bool (test one)) [
  | inl is ↦ rw is (all.0 is)
  | inr isnt ↦ rw isnt (first_has test P ones all.1)
]

last_stays : (test : Rendition → Bool) (P : ℕ → Type 0) (N : Type 0) (place : ℕ) (ones : List Rendition) → P place
    → AllByRecursion (Has test P) ones → HasOr P N (last_of test (Some place) ones)
last_stays test P N place [] so_far all = so_far
last_stays test P N place (one ∷ ones) so_far all = elim (cases_Bool (test one)) [
  | inl is ↦ rw is (last_stays test P N one.place ones (all.0 is) all.1)
  | inr isnt ↦ rw isnt (last_stays test P N place ones so_far all.1)
]

last_has : (test : Rendition → Bool) (P : ℕ → Type 0) (ones : List Rendition) → AllByRecursion (Has test P) ones
    → HasOr P (list_any test ones ≡ false) (last_of test None ones)
last_has test P [] all = refl
last_has test P (one ∷ ones) all = elim (cases_Bool (test one)) [
  | inl is ↦ rw is (last_stays test P _ one.place ones (all.0 is) all.1)
  | inr isnt ↦ rw isnt (last_has test P ones all.1)
]

or_has : (P : ℕ → Type 0) (N : Type 0) (first last : Option ℕ) → HasOr P ⊤ first → HasOr P N last → HasOr P N (option_or first last)
or_has P N (Some place) last h k = h
or_has P N None last h k = k

or_none : (P : ℕ → Type 0) (N : Type 0) (found : Option ℕ) → HasOr P N found → HasOr P N (option_or found None)
or_none P N (Some place) h = h
or_none P N None h = h

module _ (tracks : List Track) where
  abbrev all : List Rendition
  all = renditions_of tracks

  stand : AllByRecursion (IsAt tracks) all
  stand = all_at tracks [] 0 tracks (follow tracks [] tracks refl) tt

  module _ (key set : Rendition) (key_at : IsAt tracks key) (set_at : IsAt tracks set) where
    abbrev codecs : Option (List ℕ)
    codecs = key_at.track.codecs

    abbrev Is : ℕ → Type 0
    Is place = IsOf tracks codecs set.set place

    is_of : (one : Rendition) → IsAt tracks one → is_of_codes key set one ≡ true → Is one.place
    is_of one at e =
        let parts = and_parts (eqb set.set one.set) (eqb key.codes one.codes) e in
        let codes : one.codes ≡ key.codes = sym (eqb-true key.codes one.codes parts.1) in
        record {
          track = at.track;
          at = at.at;
          audio = at.audio;
          set_is = sym (ap (λ (r : Rendition). r.set) at.is) ∙ sym (eqb-true set.set one.set parts.0);
          codecs_are = same_codecs tracks one.place key.place at.track key_at.track at.at key_at.at at.audio key_at.audio
              (sym (ap (λ (r : Rendition). r.codes) at.is) ∙ codes ∙ ap (λ (r : Rendition). r.codes) key_at.is);
        }

    of_key : (one : Rendition) → is_of_key key set one ≡ true → is_of_codes key set one ≡ true
    of_key one e =
        let parts = and_parts (eqb set.set one.set) _ e in
        and_from (eqb set.set one.set) (eqb key.codes one.codes) parts.0 (and_parts (eqb key.codes one.codes) (eqb key.rank one.rank) parts.1).0

    first_is : HasOr Is ⊤ (first_with_key all key set)
    first_is = first_has (is_of_key key set) Is all
        (all_weaker (IsAt tracks) (Has (is_of_key key set) Is) (λ one at e. is_of one at (of_key one e)) all stand)

    last_is : HasOr Is (list_any (is_of_codes key set) all ≡ false) (last_with_codes all key set)
    last_is = last_has (is_of_codes key set) Is all
        (all_weaker (IsAt tracks) (Has (is_of_codes key set) Is) (λ one at e. is_of one at e) all stand)

    -- a track of the set with the group's codecs would have been found
    none_is : list_any (is_of_codes key set) all ≡ false → (place : ℕ) → Is place → ⊥
    none_is none place is =
        let codes : key.codes ≡ (rendition_at tracks place is.track).codes = ap (λ (r : Rendition). r.codes) key_at.is
        ∙ sym (same_codes tracks place key.place is.track key_at.track is.at is.audio is.codecs_are) in
        let passes : is_of_codes key set (rendition_at tracks place is.track) ≡ true =
        and_from (eqb set.set is.track.set) _ (eq-eqb set.set is.track.set (sym is.set_is)) (eq-eqb key.codes _ codes) in
        let found = finds tracks (is_of_codes key set) [] 0 tracks place place is.track (omega arith) is.at is.audio passes in
        absurd (cc (none, found))

    member_from : (member : Option ℕ) → HasOr Is (list_any (is_of_codes key set) all ≡ false) member → IsMember tracks codecs set.set member
    member_from (Some place) h = h
    member_from None h = none_is h

    member_is : IsMember tracks codecs set.set (member_of Pure all key set)
    member_is = member_from (member_of Pure all key set) (or_none Is _ (found_in all key set)
        (or_has Is _ (first_with_key all key set) (last_with_codes all key set) first_is last_is))

  members_are : (key : Rendition) (key_at : IsAt tracks key) (sets : List Rendition) → AllByRecursion (IsAt tracks) sets
      → AllZip (IsMember tracks key_at.track.codecs) (map (λ (one : Rendition). one.set) sets) (map (member_of Pure all key) sets)
  members_are key key_at [] at = tt
  members_are key key_at (set ∷ sets) at = (member_is key set key_at at.0, members_are key key_at sets at.1)

  pure_all : AllByRecursion (IsPure tracks) (groups_of Pure tracks)
  unfolding groups_of
  pure_all = all_map (IsPure tracks) (group_for Pure all (firsts Set [] all)) (firsts Key [] all)
      (all_weaker (IsAt tracks) _ (λ key at. (
        at.track.codecs,
        members_are key at (firsts Set [] all)
            (all_firsts Set (IsAt tracks) [] all tt stand),
      )) (firsts Key [] all) (all_firsts Key (IsAt tracks) [] all tt stand))

pub groups_are_pure : GroupsArePure
groups_are_pure tracks = All-from_recursion (IsPure tracks) (groups_of Pure tracks) (pure_all tracks)
