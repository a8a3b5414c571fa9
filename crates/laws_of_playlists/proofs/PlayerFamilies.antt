-- The families of the members of audio groups.
use Rattle.std.proofs.Common.{◌≡◌, ℕ, List, [], ◌∷◌, Option, Some, None, option_map, refl, sym, ◌∙◌, ap}
use Rattle.std.proofs.{lemmas.List.Elements.All-weaker, lemmas.Option.slice_get-map}
use Rattle.std.specs.List.{AllZip, slice_get}
use Rattle.presentation.specs.declared.track.Track.{Track}
use Rattle.audio_groups.specs.{Families.{in_families, in_family}, Groups.is_audio, Laws.{GroupsArePure, IsMember, IsOf, IsPure, audio_sets}}
use Rattle.hls_writer.specs.Master.{laid_out}
use Rattle.laws_of_playlists.specs.Players.{GroupsAreOfOneFamily, IsMemberOf, IsOfFamily, IsOfOneFamily}

module _ (tracks : List Track) (family : Option (List ℕ)) (set : ℕ) where
  of_track : (place : ℕ) (is : IsOf (in_families tracks) family set place) (o : Option Track) → slice_get tracks place ≡ o
      → option_map in_family o ≡ Some is.track → IsOfFamily tracks family set place
  of_track place is None at mapped = absurd (cc)
  of_track place is (Some track) at mapped = let same : in_family track ≡ is.track = cc in record {
    track = track;
    at = at;
    audio = ap (λ (t : Track). is_audio t.kind) same ∙ is.audio;
    set_is = ap (λ (t : Track). t.set) same ∙ is.set_is;
    family_is = ap (λ (t : Track). t.codecs) same ∙ is.codecs_are;
  }

  of_family : (place : ℕ) → IsOf (in_families tracks) family set place → IsOfFamily tracks family set place
  of_family place is = of_track place is (slice_get tracks place) refl (sym (slice_get-map in_family tracks place) ∙ is.at)

  in_its_family : (place : ℕ) → IsOfFamily tracks family set place → IsOf (in_families tracks) family set place
  in_its_family place is = record {
    track = in_family is.track;
    at = slice_get-map in_family tracks place ∙ ap (option_map in_family) is.at;
    audio = is.audio;
    set_is = is.set_is;
    codecs_are = is.family_is;
  }

  member_of : (member : Option ℕ) → IsMember (in_families tracks) family set member → IsMemberOf tracks family set member
  member_of (Some place) is = of_family place is
  member_of None none = λ place is. none place (in_its_family place is)

members_of : (tracks : List Track) (family : Option (List ℕ)) (sets : List ℕ) (members : List (Option ℕ))
    → AllZip (IsMember (in_families tracks) family) sets members → AllZip (IsMemberOf tracks family) sets members
members_of tracks family [] [] all = tt
members_of tracks family [] (member ∷ members) all = all
members_of tracks family (set ∷ sets) [] all = all
members_of tracks family (set ∷ sets) (member ∷ members) all =
    (member_of tracks family set member all.0, members_of tracks family sets members all.1)

pub groups_are_of_one_family : GroupsArePure → GroupsAreOfOneFamily
groups_are_of_one_family pure hints tracks = All-weaker (IsPure (in_families tracks)) (IsOfOneFamily tracks)
    (λ members is. (is.0, members_of tracks is.0 (audio_sets (in_families tracks)) members is.1)) (laid_out (Some hints) tracks).groups
    (pure (in_families tracks))
