-- After a publication the served files are read as what they became.
use Rattle.std.proofs.Common.{◌≡◌, ℕ, zero, suc, ◌<◌, ◌≤◌, ◌^◌, true, false, ◌&&◌, List, [], ◌∷◌, ◌++◌, All, length}
use Rattle.std.proofs.Common.{drop, bytes_eq}
use Rattle.std.proofs.Common.{slice_get, codes, Option, Some, None, IfSome, Result, Ok, Err, refl, sym, ◌∙◌, ap, subst}
use Rattle.std.proofs.Common.{inl, inr, arith}
use Rattle.std.proofs.{Math.Seq.drop-append_seam, lemmas.Bool.{and_parts, cases_Bool, leb-true, not-true}, lemmas.Bool.Decides.nat_tests}
use Rattle.std.proofs.lemmas.{List.Elements.{All-cons, All-head, All-nil, All-tail}, Option.{same_Some}}
use Rattle.std.proofs.lemmas.Slice.Eq.{bytes_eq-Decides}
use Rattle.std.specs.{Prelude.{nat_le, nat_lt}, List.list_all}
use Rattle.bridge_io.specs.{Answer.{and_then, told_as}, Names.is_name, Outside.Files}
use Rattle.bridge_io.proofs.{AndThen.steps_of, Texts.same_bytes}
use Rattle.followed_text.specs.{Followed.{followed_of, text_of}, declared.fault.FollowedFault.FollowedFault}
use Rattle.followed_text.specs.declared.followed.FollowedText.{FollowedText}
use Rattle.publish_law.specs.{Lists.track_of, declared.track.{Change.Change, Track.Track}}
use Rattle.laws_of_published_texts.specs.Laws.{IsRead}
use Rattle.laws_of_published_texts.proofs.Given.{given}
use Rattle.publish_core.specs.Decisions.{is_small, names_of, paired}
use Rattle.publish_core.specs.{Names.{is_track_file, master_file, name_in, pending_file}}
use Rattle.publish_core.specs.{Refusals.Named, Sides.{content_of, list_at, list_in, of_file, refused_by}}
use Rattle.publish_core.specs.declared.side.{SideTrack.SideTrack}
use Rattle.publish_core.proofs.After.{AreNamedApart, AreWithin, IsNamedOther, IsWithin}
use Rattle.publish_core.proofs.After.{otherwise}
use Rattle.publish_core.proofs.{Apart.{AreApart, IsOther, IsTrackIn}}

-- ---- names in a folder

pub named : (folder file name : List ℕ) → name_in folder file ≡ Some name → name ≡ folder ++ codes "/" ++ file
unfolding name_in
named folder file name is = elim (cases_Bool (is_name (folder ++ codes "/" ++ file))) [
  | inl whole ↦ sym (same_Some (folder ++ codes "/" ++ file) name (rw whole at is))
  | inr other ↦ let never : None ≡ Some name = rw other at is in absurd (cc)
]

module _ (folder : List ℕ) where
  pub other_name : (a b x y : List ℕ) → name_in folder a ≡ Some x → name_in folder b ≡ Some y → bytes_eq a b ≡ false → bytes_eq x y ≡ false
  other_name a b x y x_is y_is other = elim (cases_Bool (bytes_eq x y)) [
    | inl same ↦
        let texts : folder ++ codes "/" ++ a ≡ folder ++ codes "/" ++ b =
        sym (named folder a x x_is) ∙ same_bytes x y same ∙ named folder b y y_is in
        let front = folder ++ codes "/" in
        let one : a ≡ b = sym (drop-append_seam front a) ∙ ap (drop (length front)) texts ∙ drop-append_seam front b in
        let two : true ≡ false = sym ((bytes_eq-Decides a b).1 one) ∙ other in absurd (cc)
    | inr differ ↦ differ
  ]

  others_named : (files : Files) (track : SideTrack) (tracks : List SideTrack) → IsTrackIn folder files track
      → All (IsTrackIn folder files) tracks → All (IsOther track.file) tracks → All (IsNamedOther track.name) tracks
  others_named files track [] is all apart = All-nil (IsNamedOther track.name)
  others_named files track (next ∷ tracks) is all apart =
      let own = All-head (IsTrackIn folder files) next tracks all in
      let other = All-head (IsOther track.file) next tracks apart in
      All-cons (IsNamedOther track.name) next tracks
      (other_name next.file track.file next.name track.name own.name is.name (otherwise track.file next.file other))
      (others_named files track tracks is (All-tail (IsTrackIn folder files) next tracks all)
      (All-tail (IsOther track.file) next tracks apart))

  pub named_apart : (files : Files) (tracks : List SideTrack) → All (IsTrackIn folder files) tracks → AreApart tracks → AreNamedApart tracks
  named_apart files [] all apart = tt
  named_apart files (track ∷ tracks) all apart =
      let rest = All-tail (IsTrackIn folder files) track tracks all in (
        others_named files track tracks (All-head (IsTrackIn folder files) track tracks all) rest apart.1,
        named_apart files tracks rest apart.2,
      )

  -- no track has this file, which isn't a track's
  pub none_is : (file name : List ℕ) → name_in folder file ≡ Some name
      → ((own : List ℕ) → is_track_file own ≡ true → bytes_eq own file ≡ false)
      → (files : Files) (tracks : List SideTrack) → All (IsTrackIn folder files) tracks → AreApart tracks
      → All (IsNamedOther name) tracks
  none_is file name name_is not_own files [] all apart = All-nil (IsNamedOther name)
  none_is file name name_is not_own files (track ∷ tracks) all apart =
      let own = All-head (IsTrackIn folder files) track tracks all in
      All-cons (IsNamedOther name) track tracks
      (other_name track.file file track.name name own.name name_is (not_own track.file apart.0))
      (none_is file name name_is not_own files tracks (All-tail (IsTrackIn folder files) track tracks all) apart.2)

pub not_master : (own : List ℕ) → is_track_file own ≡ true → bytes_eq own master_file ≡ false
not_master own is = not-true (bytes_eq own master_file) (and_parts _ _ (and_parts _ _ is).0).0

pub not_pending : (own : List ℕ) → is_track_file own ≡ true → bytes_eq own pending_file ≡ false
not_pending own is = not-true (bytes_eq own pending_file) (and_parts _ _ (and_parts _ _ is).0).1

-- ---- contents

-- a file with bytes of a manifest's size
pub record IsFile (files : Files) (name bytes : List ℕ) : Type 0 where
  pub there : files name ≡ Some bytes
  pub few : nat_lt 8388608 (length bytes) ≡ false

pub content : (name : List ℕ) (files : Files) (bytes : List ℕ) → content_of name files ≡ Ok bytes → IsFile files name bytes
content name files bytes is = go (files name) refl is
  where
    go : (o : Option (List ℕ)) → files name ≡ o → content_of name (λ q. o) ≡ Ok bytes → IsFile files name bytes
    go None of same = absurd (cc)
    go (Some own) of same = elim (cases_Bool (nat_lt 8388608 (length own))) [
      | inl long ↦ let never = rw long at same in absurd (cc)
      | inr few ↦
          let kept : Ok own ≡ Ok bytes = rw few at same in
          let one : own ≡ bytes = cc in
          record { there = of ∙ ap Some one; few = ap (λ (l : List ℕ). nat_lt 8388608 (length l)) (sym one) ∙ few }
    ]

pub read_whole : (name : List ℕ) (files : Files) (bytes : List ℕ) → files name ≡ Some bytes → nat_lt 8388608 (length bytes) ≡ false
    → content_of name files ≡ Ok bytes
read_whole name files bytes there few = rw (there, few) refl

-- ---- lists

-- what a file is read as
list_read : (name url bytes : List ℕ) (list : FollowedText) → list_in name url bytes ≡ Ok list → followed_of bytes url ≡ Ok list
list_read name url bytes list is = go (followed_of bytes url) is
  where
    go : (r : Result FollowedText FollowedFault) → of_file name (told_as refused_by r) ≡ Ok list → r ≡ Ok list
    go (Ok read) same = (let one : read ≡ list = cc in ap Ok one)
    go (Err f) same = absurd (cc)

pub read_as : (name url : List ℕ) (files : Files) (bytes : List ℕ) (list : FollowedText) → content_of name files ≡ Ok bytes
    → followed_of bytes url ≡ Ok list → list_at name url files ≡ Ok list
unfolding list_at
read_as name url files bytes list content_is is =
    ap (λ (r : Result (List ℕ) Named). and_then r (list_in name url)) content_is
    ∙ ap (λ (r : Result FollowedText FollowedFault). of_file name (told_as refused_by r)) is

-- a track's bytes, as they were read
pub record HasBytes (files : Files) (track : SideTrack) : Type 0 where
  pub bytes : List ℕ
  pub content_is : content_of track.name files ≡ Ok bytes
  pub read : IsRead track.list
  pub text : text_of track.list ≡ bytes

pub bytes_of : (folder : List ℕ) (files : Files) (track : SideTrack) → IsTrackIn folder files track → HasBytes files track
unfolding list_at
bytes_of folder files track is =
    let steps = steps_of (content_of track.name files) (list_in track.name is.url) track.list is.list in
    let read = list_read track.name is.url steps.value track.list steps.then in record {
      bytes = steps.value;
      content_is = steps.first;
      read = record { bytes = steps.value; url = is.url; of_bytes = is.of_bytes; is = read };
      text = (given steps.value is.url track.list read).text;
    }

-- the two tracks of a pair
pub record IsPair (news : List SideTrack) (place : ℕ) (served : SideTrack) (track : Track) : Type 0 where
  pub new : SideTrack
  pub new_is : slice_get news place ≡ Some new
  pub track_is : track ≡ track_of served.list new.list

pub pair_at : (place : ℕ) (news olds : List SideTrack) (served : SideTrack) (track : Track) → slice_get olds place ≡ Some served
    → slice_get (paired news olds) place ≡ Some track → IsPair news place served track
pair_at place [] olds served track old_is is = absurd (cc)
pair_at place (new ∷ news) [] served track old_is is = absurd (cc)
pair_at zero (new ∷ news) (old ∷ olds) served track old_is is = record {
  new = new;
  new_is = refl;
  track_is = sym (same_Some (track_of old.list new.list) track is)
      ∙ ap (λ (t : SideTrack). track_of t.list new.list) (same_Some old served old_is);
}
pair_at (suc place) (new ∷ news) (old ∷ olds) served track old_is is =
    let rest = pair_at place news olds served track old_is is in
    record { new = rest.new; new_is = rest.new_is; track_is = rest.track_is }

pub within_at : (place : ℕ) (news olds : List SideTrack) (changes : List Change) (served : SideTrack) (change : Change)
    → AreWithin (names_of news olds) changes → slice_get olds place ≡ Some served → slice_get changes place ≡ Some change
    → place < length news → IfSome change.list IsWithin
within_at place [] olds changes served change all old_is is within = absurd (omega (arith, within))
within_at place (new ∷ news) [] changes served change all old_is is within = absurd (cc)
within_at place (new ∷ news) (old ∷ olds) [] served change all old_is is within = absurd (cc)
within_at zero (new ∷ news) (old ∷ olds) (own ∷ changes) served change all old_is is within =
    subst (λ (c : Change). IfSome c.list IsWithin) (same_Some own change is) all.0
within_at (suc place) (new ∷ news) (old ∷ olds) (own ∷ changes) served change all old_is is within =
    within_at place news olds changes served change all.1 old_is is (omega (arith, within))

pub few_of : (list : FollowedText) → IsWithin list → (length list.items ≤ 100_000) × (nat_lt 8388608 (length (text_of list)) ≡ false)
few_of list is =
    let bytes = length (text_of list) in
    let three = and_parts (nat_le (length list.items) 100000 && nat_le bytes 8388608 && nat_lt list.head.sequence (2 ^ 63))
    (list_all is_small list.items) is in
    let two = and_parts (nat_le (length list.items) 100000 && nat_le bytes 8388608) (nat_lt list.head.sequence (2 ^ 63)) three.0 in
    let one = and_parts (nat_le (length list.items) 100000) (nat_le bytes 8388608) two.0 in
    (leb-true (length list.items) 100000 one.0, grind (arith, nat_tests, one.1))
