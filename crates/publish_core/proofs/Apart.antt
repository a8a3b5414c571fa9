-- The tracks of a folder that is read have files of their own.
use Rattle.publish_core.specs.declared.refusal.Refused.TheVariants as refused
use Rattle.bridge_report.specs.declared.refusal.Refusal.TheVariants as refusal
use Rattle.std.proofs.Common.{◌≡◌, ℕ, suc, ◌<◌, true, false, not, List, [], ◌∷◌, ◌++◌, All, length, map, bytes_eq}
use Rattle.std.proofs.Common.{Option, Some, None, Ok, refl, sym, ◌∙◌, ap, subst, inl, inr, append_assoc, arith}
use Rattle.std.proofs.{Math.Bool.or-true, lemmas.Bool.{and_parts, cases_Bool, not-true}, lemmas.List.{append-nil, map-append}}
use Rattle.std.proofs.lemmas.List.Elements.{All-cons, All-head, All-nil, All-push, All-tail}
use Rattle.std.proofs.lemmas.{List.Folds.list_any-append}
use Rattle.std.specs.{Bool.⊤, Prelude.{nat_lt}, List.list_any}
use Rattle.bridge_io.specs.{Answer.{and_then}, Outside.Files}
use Rattle.bridge_io.proofs.{AndThen.steps_of}
use Rattle.url_parts.specs.Addresses.{local_name_of}
use Rattle.hls_master.specs.declared.track.MasterTrack.{MasterTrack}
use Rattle.publish_core.specs.{Names.{is_track_file, name_in}}
use Rattle.publish_core.specs.Sides.{FileName, base, content_of, is_named, is_own_file, list_at, master_in, names_by, names_from, names_in}
use Rattle.publish_core.specs.Sides.{segment_limit, segments_of, side_by, side_of, side_with, track_at, track_named, track_with}
use Rattle.publish_core.specs.Sides.{tracks_from}
use Rattle.publish_core.specs.Sides.{tracks_with, url_under, within_limit}
use Rattle.publish_core.specs.declared.side.{Side.Side, SideTrack.SideTrack}
use Rattle.publish_core.proofs.InOrder.{chosen}

abbrev pub file_of : SideTrack → FileName
file_of track = Some track.file

-- A track as its file is read, with the URL of its playlist in the master.
pub record IsTrackIn (folder : List ℕ) (files : Files) (track : SideTrack) : Type 0 where
  pub url : List ℕ
  pub of_bytes : All (λ b. b < 256) url
  pub name : name_in folder track.file ≡ Some track.name
  pub list : list_at track.name url files ≡ Ok track.list

-- ---- tracks

abbrev IsOfBytes : MasterTrack → Type 0
IsOfBytes master = All (λ b. b < 256) master.address

named_in : (folder file own : List ℕ) (files : Files) (master : MasterTrack) (name : Option (List ℕ)) (found : SideTrack) → IsOfBytes master
    → name_in folder own ≡ name → track_named file own files master name ≡ Ok found
    → IsTrackIn folder files found × (file_of found ≡ Some own)
named_in folder file own files master None found bytes of is = absurd (cc)
named_in folder file own files master (Some name) found bytes of is =
    let steps = steps_of (list_at name master.address files) (λ list. Ok (track_with master own name list)) found is in
    let same : track_with master own name steps.value ≡ found = (let e = steps.then in cc) in
    subst (λ (t : SideTrack). IsTrackIn folder files t × (file_of t ≡ Some own)) same
    (record { url = master.address; of_bytes = bytes; name = of; list = steps.first }, refl)

track_in : (folder file : List ℕ) (files : Files) (master : MasterTrack) (own : FileName) (found : SideTrack) → IsOfBytes master
    → track_at folder file files master own ≡ Ok found → IsTrackIn folder files found × (file_of found ≡ own)
track_in folder file files master None found bytes is = absurd (cc)
track_in folder file files master (Some own) found bytes is =
    named_in folder file own files master (name_in folder own) found bytes refl is

module _ (folder file : List ℕ) (files : Files) where
  abbrev IsIn : SideTrack → Type 0
  IsIn = IsTrackIn folder files

  record AreIn (lists found : List SideTrack) (names : List FileName) : Type 0 where
    each : All IsIn found
    named : map file_of found ≡ map file_of lists ++ names

  one_in : (lists : List SideTrack) (master : MasterTrack) (name : FileName) (next : List SideTrack) → IsOfBytes master → All IsIn lists
      → tracks_with folder file files lists master name ≡ Ok next → AreIn lists next (name ∷ [])
  unfolding tracks_with
  one_in lists master name next bytes all is =
      let steps = steps_of (track_at folder file files master name) (λ list. within_limit file (lists ++ list ∷ [])) next is in
      let same : lists ++ steps.value ∷ [] ≡ next =
      chosen (nat_lt segment_limit (segments_of (lists ++ steps.value ∷ []))) (lists ++ steps.value ∷ []) next
      (file, refused.Read refusal.TooManySegments) steps.then in
      let own = track_in folder file files master name steps.value bytes steps.first in
      subst (λ (found : List SideTrack). AreIn lists found (name ∷ [])) same (record {
        each = All-push IsIn lists steps.value all own.0;
        named = map-append file_of lists (steps.value ∷ []) ∙ ap (λ (o : FileName). map file_of lists ++ o ∷ []) own.1;
      })

  all_in : (lists : List SideTrack) (masters : List MasterTrack) (names : List FileName) (found : List SideTrack) → All IsOfBytes masters
      → length names ≡ length masters → All IsIn lists → tracks_from folder file files lists masters names ≡ Ok found
      → AreIn lists found names
  all_in lists [] [] found bytes many all is =
      let same : lists ≡ found = cc in
      subst (λ (l : List SideTrack). AreIn lists l []) same (record { each = all; named = sym (append-nil (map file_of lists)) })
  all_in lists [] (name ∷ names) found bytes many all is = absurd (omega (arith, many))
  all_in lists (master ∷ masters) [] found bytes many all is = absurd (omega (arith, many))
  all_in lists (master ∷ masters) (name ∷ names) found bytes many all is =
      let steps = steps_of (tracks_with folder file files lists master name)
      (λ next. tracks_from folder file files next masters names) found is in
      let first = one_in lists master name steps.value (All-head IsOfBytes master masters bytes) all steps.first in
      let more = all_in steps.value masters names found (All-tail IsOfBytes master masters bytes) (omega (arith, many)) first.each
      steps.then in record {
        each = more.each;
        named = more.named ∙ ap (λ l. l ++ names) first.named ∙ append_assoc (map file_of lists) (name ∷ []) names;
      }

-- ---- files

-- each file is one of the folder, and none of those before it
abbrev pub AreOwn : (before names : List FileName) → Type 0
AreOwn before [] = ⊤
AreOwn before (name ∷ names) = (is_own_file before name ≡ true) × AreOwn (before ++ name ∷ []) names

names_own : (file url : List ℕ) (before : List FileName) (masters : List MasterTrack) (found : List FileName)
    → names_from file url before masters ≡ Ok found
    → (more : List FileName) × ((found ≡ before ++ more) × (AreOwn before more × (length more ≡ length masters)))
names_own file url before [] found is =
    let same : before ≡ found = cc in ([], (sym same ∙ sym (append-nil before), (tt, refl)))
names_own file url before (master ∷ masters) found is =
    let name = local_name_of url master.address in
    elim (cases_Bool (is_own_file before name)) [
      | inl own ↦
          let rest = names_own file url (before ++ name ∷ []) masters found (rw own at is) in
          (name ∷ rest.0, (rest.1.0 ∙ append_assoc before (name ∷ []) rest.0, ((own, rest.1.1.0), ap suc rest.1.1.1)))
      | inr other ↦ let never = rw other at is in absurd (cc)
    ]

-- another track's file
abbrev pub IsOther : (file : List ℕ) → SideTrack → Type 0
IsOther file track = bytes_eq file track.file ≡ false

-- where what is none of some names isn't this file
others : (before : List FileName) (file : List ℕ) → ((name : List ℕ) → list_any (is_named name) before ≡ false → bytes_eq file name ≡ false)
    → (tracks : List SideTrack) → AreOwn before (map file_of tracks) → All (IsOther file) tracks
others before file apart [] own = All-nil (IsOther file)
others before file apart (track ∷ tracks) own =
    let free = not-true (list_any (is_named track.file) before)
    (and_parts (is_track_file track.file) (not (list_any (is_named track.file) before)) own.0).1 in
    All-cons (IsOther file) track tracks (apart track.file free)
    (others (before ++ Some track.file ∷ []) file (λ name none. apart name (front_free name none)) tracks own.1)
  where
    front_free : (name : List ℕ) → list_any (is_named name) (before ++ Some track.file ∷ []) ≡ false
        → list_any (is_named name) before ≡ false
    front_free name none = elim (cases_Bool (list_any (is_named name) before)) [
      | inl some ↦
          let never : list_any (is_named name) (before ++ Some track.file ∷ []) ≡ true =
          list_any-append (is_named name) before (Some track.file ∷ []) ∙ rw some refl in
          let two : true ≡ false = sym never ∙ none in absurd (cc)
      | inr free ↦ free
    ]

-- no two tracks have one file, and none has the master's or the pending one's
abbrev pub AreApart : List SideTrack → Type 0
AreApart [] = ⊤
AreApart (track ∷ tracks) = (is_track_file track.file ≡ true) × All (IsOther track.file) tracks × AreApart tracks

apart : (before : List FileName) (tracks : List SideTrack) → AreOwn before (map file_of tracks) → AreApart tracks
apart before [] own = tt
apart before (track ∷ tracks) own = (
  (and_parts (is_track_file track.file) (not (list_any (is_named track.file) before)) own.0).0,
  others (before ++ Some track.file ∷ []) track.file last_free tracks own.1,
  apart (before ++ Some track.file ∷ []) tracks own.1,
)
  where
    last_free : (name : List ℕ) → list_any (is_named name) (before ++ Some track.file ∷ []) ≡ false → bytes_eq track.file name ≡ false
    last_free name none = elim (cases_Bool (bytes_eq track.file name)) [
      | inl same ↦
          let last : list_any (is_named name) (Some track.file ∷ []) ≡ true = rw same refl in
          let never : list_any (is_named name) (before ++ Some track.file ∷ []) ≡ true =
          list_any-append (is_named name) before (Some track.file ∷ []) ∙ rw last (or-true (list_any (is_named name) before)) in
          let two : true ≡ false = sym never ∙ none in absurd (cc)
      | inr other ↦ other
    ]

-- ---- the side

-- What is read of a folder: the master's bytes, and tracks with files of their own.
pub record IsSideIn (folder file : List ℕ) (files : Files) (side : Side) : Type 0 where
  pub file_is : side.file ≡ file
  pub text : content_of file files ≡ Ok side.text
  pub each : All (IsTrackIn folder files) side.tracks
  pub apart : AreApart side.tracks

-- tracks of a master that is read have URLs of bytes
abbrev pub MastersAreOfBytes : Type 0
MastersAreOfBytes = (file bytes : List ℕ) (masters : List MasterTrack) → master_in file bytes ≡ Ok masters
    → All (λ (master : MasterTrack). All (λ b. b < 256) master.address) masters

module _ (folder file : List ℕ) where
  names_by_url : (masters : List MasterTrack) (url : Option (List ℕ)) (found : List FileName) → names_by file masters url ≡ Ok found
      → AreOwn [] found × (length found ≡ length masters)
  names_by_url masters None found is = absurd (cc)
  names_by_url masters (Some url) found is =
      let own = names_own file url [] masters found is in
      (subst (AreOwn []) (sym own.1.0) own.1.1.0, ap (λ (l : List FileName). length l) own.1.0 ∙ own.1.1.1)

  pub names_in_folder : (masters : List MasterTrack) (found : List FileName) → names_in folder file masters ≡ Ok found
      → AreOwn [] found × (length found ≡ length masters)
  unfolding names_in
  names_in_folder masters found is = names_by_url masters (url_under base folder) found is

module _ (bytes : MastersAreOfBytes) (folder file : List ℕ) (files : Files) (side : Side) where
  by_text : (text : List ℕ) → content_of file files ≡ Ok text → side_by folder file files text ≡ Ok side → IsSideIn folder file files side
  by_text text content is =
      let masters = steps_of (master_in file text) (λ master. and_then (names_in folder file master)
      (λ names. and_then (tracks_from folder file files [] master names) (λ tracks. Ok (side_with file text tracks)))) side is in
      let names = steps_of (names_in folder file masters.value)
      (λ names. and_then (tracks_from folder file files [] masters.value names) (λ tracks. Ok (side_with file text tracks))) side
      masters.then in
      let tracks = steps_of (tracks_from folder file files [] masters.value names.value) (λ tracks. Ok (side_with file text tracks)) side
      names.then in
      let same : side_with file text tracks.value ≡ side = (let e = tracks.then in cc) in
      let own = names_in_folder folder file masters.value names.value names.first in
      let are = all_in folder file files [] masters.value names.value tracks.value (bytes file text masters.value masters.first) own.1
      (All-nil (IsTrackIn folder files)) tracks.first in
      subst (IsSideIn folder file files) same (record {
        file_is = refl;
        text = content;
        each = are.each;
        apart = apart [] tracks.value (subst (AreOwn []) (sym are.named) own.0);
      })

  of_file : side_of folder file files ≡ Ok side → IsSideIn folder file files side
  unfolding side_of
  of_file is = let steps = steps_of (content_of file files) (side_by folder file files) side is in
      by_text steps.value steps.first steps.then

pub side_in : MastersAreOfBytes → (folder : List ℕ) (files : Files) (file : List ℕ) (side : Side) → side_of folder file files ≡ Ok side
    → IsSideIn folder file files side
side_in bytes folder files file side is = of_file bytes folder file files side is
