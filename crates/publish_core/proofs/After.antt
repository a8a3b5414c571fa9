-- What files have after some took their places.
use Rattle.publish_core.specs.declared.refusal.Refused.TheVariants as refused
use Rattle.std.proofs.Common.{◌≡◌, ℕ, zero, suc, ◌<◌, true, false, List, [], ◌∷◌, ◌++◌, All, length, bytes_eq, slice_get, arith}
use Rattle.std.proofs.Common.{Option, Some, None, IfSome, Ok, refl, sym, ◌∙◌, ap, subst, inl, inr, append_assoc}
use Rattle.std.proofs.lemmas.{Bool.cases_Bool, List.append-nil, List.Elements.{All-head, All-tail}, Option.same_Some}
use Rattle.std.proofs.lemmas.Slice.Eq.{bytes_eq-Decides}
use Rattle.std.specs.{Bool.⊤, Prelude.if◌then◌else◌}
use Rattle.bridge_io.specs.{Outside.Files}
use Rattle.bridge_io.proofs.AndThen.{steps_of}
use Rattle.followed_text.specs.{Followed.text_of, declared.followed.FollowedText.FollowedText}
use Rattle.publish_law.specs.declared.track.Change.{Change}
use Rattle.publish_core.specs.Decisions.{changed_file, changed_files, is_within_limits, names_of, new_file, text_within, with_list}
use Rattle.publish_core.specs.{Placed.{all_placed, placed}, declared.decision.NewFile.NewFile, declared.next.FileNames.FileNames}
use Rattle.publish_core.specs.declared.side.SideTrack.{SideTrack}
use Rattle.laws_of_publishing.proofs.Tails.{at_place}
use Rattle.publish_core.proofs.Within.{taken}

-- ---- files at their places

-- the text of the last one of this name
abbrev pub last_text : (name : List ℕ) → List NewFile → Option (List ℕ) → Option (List ℕ)
last_text name [] old = old
last_text name (file ∷ files) old = last_text name files (if bytes_eq file.name name then Some file.text else old)

module _ (pending name : List ℕ) (other : bytes_eq pending name ≡ false) where
  placed_one : (file : NewFile) (before : Files)
      → placed pending file before name ≡ (if bytes_eq file.name name then Some file.text else before name)
  placed_one file before = rw ((bytes_eq-Decides pending pending).1 refl, other) refl

  pub placed_text : (files : List NewFile) (before : Files) → all_placed pending files before name ≡ last_text name files (before name)
  placed_text [] before = refl
  placed_text (file ∷ files) before = placed_text files (placed pending file before) ∙ ap (last_text name files) (placed_one file before)

pub last-append : (name : List ℕ) (xs ys : List NewFile) (old : Option (List ℕ))
    → last_text name (xs ++ ys) old ≡ last_text name ys (last_text name xs old)
last-append name [] ys old = refl
last-append name (file ∷ files) ys old = last-append name files ys _

-- ---- the files of lists

abbrev pub own_file : (name : List ℕ) → Option FollowedText → List NewFile
own_file name None = []
own_file name (Some list) = new_file name (text_of list) ∷ []

abbrev pub files_of : List FileNames → List Change → List NewFile
files_of [] changes = []
files_of (names ∷ more) [] = []
files_of (names ∷ more) (change ∷ changes) = own_file names.served change.list ++ files_of more changes

abbrev pub IsWithin : FollowedText → Type 0
IsWithin list = is_within_limits list (length (text_of list)) ≡ true

abbrev pub AreWithin : List FileNames → List Change → Type 0
AreWithin [] changes = ⊤
AreWithin (names ∷ more) [] = ⊤
AreWithin (names ∷ more) (change ∷ changes) = IfSome change.list IsWithin × AreWithin more changes

with_is : (files : List NewFile) (names : FileNames) (list : Option FollowedText) (next : List NewFile)
    → with_list files names list ≡ Ok next
    → (next ≡ files ++ own_file names.served list) × IfSome list IsWithin
with_is files names None next is = let same : files ≡ next = cc in (sym same ∙ sym (append-nil files), tt)
with_is files names (Some list) next is =
    let steps = steps_of (changed_file names list) (λ file. Ok (files ++ file ∷ [])) next is in
    let text = steps_of (text_within names.new list) (λ text. Ok (new_file names.served text)) steps.value steps.first in
    let within = taken (is_within_limits list (length (text_of list))) (Ok (text_of list)) (names.new, refused.Limit) text.value
    text.first in
    let same : files ++ steps.value ∷ [] ≡ next = (let e = steps.then in cc) in
    let file : new_file names.served text.value ≡ steps.value = (let e = text.then in cc) in
    let written : text.value ≡ text_of list = (let e = within.value in cc) in
    let whole : steps.value ≡ new_file names.served (text_of list) = sym file ∙ ap (new_file names.served) written in
    (sym same ∙ ap (λ (f : NewFile). files ++ f ∷ []) whole, within.holds)

pub changed_are : (files : List NewFile) (names : List FileNames) (changes : List Change) (found : List NewFile)
    → changed_files files names changes ≡ Ok found → (found ≡ files ++ files_of names changes) × AreWithin names changes
changed_are files [] changes found is = let same : files ≡ found = cc in (sym same ∙ sym (append-nil files), tt)
changed_are files (names ∷ more) [] found is = let same : files ≡ found = cc in (sym same ∙ sym (append-nil files), tt)
changed_are files (names ∷ more) (change ∷ changes) found is =
    let steps = steps_of (with_list files names change.list) (λ next. changed_files next more changes) found is in
    let first = with_is files names change.list steps.value steps.first in
    let later = changed_are steps.value more changes found steps.then in (
      later.0 ∙ ap (λ (l : List NewFile). l ++ files_of more changes) first.0
          ∙ append_assoc files (own_file names.served change.list) (files_of more changes),
      (first.1, later.1),
    )

-- ---- the text of a name

abbrev pub IsNamedOther : (name : List ℕ) → SideTrack → Type 0
IsNamedOther name track = bytes_eq track.name name ≡ false

own_other : (name own : List ℕ) (list : Option FollowedText) (old : Option (List ℕ)) → bytes_eq own name ≡ false
    → last_text name (own_file own list) old ≡ old
own_other name own None old other = refl
own_other name own (Some list) old other = rw other refl

-- none is of another name
pub none_named : (name : List ℕ) (news olds : List SideTrack) (changes : List Change) (old : Option (List ℕ)) → All (IsNamedOther name) olds
    → last_text name (files_of (names_of news olds) changes) old ≡ old
none_named name [] olds changes old all = refl
none_named name (new ∷ news) [] changes old all = refl
none_named name (new ∷ news) (served ∷ olds) [] old all = refl
none_named name (new ∷ news) (served ∷ olds) (change ∷ changes) old all =
    last-append name (own_file served.name change.list) (files_of (names_of news olds) changes) old
    ∙ ap (last_text name (files_of (names_of news olds) changes))
    (own_other name served.name change.list old (All-head (IsNamedOther name) served olds all))
    ∙ none_named name news olds changes old (All-tail (IsNamedOther name) served olds all)

-- no two names are one
abbrev pub AreNamedApart : List SideTrack → Type 0
AreNamedApart [] = ⊤
AreNamedApart (track ∷ tracks) = All (IsNamedOther track.name) tracks × AreNamedApart tracks

abbrev pub text_after : Option FollowedText → Option (List ℕ) → Option (List ℕ)
text_after None old = old
text_after (Some list) old = Some (text_of list)

own_text : (name : List ℕ) (list : Option FollowedText) (old : Option (List ℕ))
    → last_text name (own_file name list) old ≡ text_after list old
own_text name None old = refl
own_text name (Some list) old = rw ((bytes_eq-Decides name name).1 refl) refl

pub otherwise : (a b : List ℕ) → bytes_eq a b ≡ false → bytes_eq b a ≡ false
otherwise a b other = elim (cases_Bool (bytes_eq b a)) [
  | inl same ↦
      let is : b ≡ a = (bytes_eq-Decides b a).0 same in
      let own : bytes_eq a b ≡ true = (bytes_eq-Decides a b).1 (sym is) in
      let two : true ≡ false = sym own ∙ other in absurd (cc)
  | inr differ ↦ differ
]

-- a track's file has the text of the list that takes its place, or is as before
pub text_at : (place : ℕ) (news olds : List SideTrack) (changes : List Change) (served : SideTrack) (change : Change)
    (old : Option (List ℕ)) → AreNamedApart olds → slice_get olds place ≡ Some served → slice_get changes place ≡ Some change
    → place < length news → last_text served.name (files_of (names_of news olds) changes) old ≡ text_after change.list old
text_at place [] olds changes served change old apart served_is change_is within = absurd (omega (arith, within))
text_at place (new ∷ news) [] changes served change old apart served_is change_is within = absurd (cc)
text_at place (new ∷ news) (first ∷ olds) [] served change old apart served_is change_is within = absurd (cc)
text_at zero (new ∷ news) (first ∷ olds) (own ∷ changes) served change old apart served_is change_is within =
    let others = none_named first.name news olds changes (last_text first.name (own_file first.name own.list) old) apart.0 in
    let here = last-append first.name (own_file first.name own.list) (files_of (names_of news olds) changes) old
    ∙ others ∙ own_text first.name own.list old in
    let same = same_Some first served served_is in
    subst (λ (t : SideTrack). last_text t.name (own_file first.name own.list ++ files_of (names_of news olds) changes) old
    ≡ text_after change.list old) same
    (here ∙ ap (λ (c : Change). text_after c.list old) (same_Some own change change_is))
text_at (suc place) (new ∷ news) (first ∷ olds) (own ∷ changes) served change old apart served_is change_is within =
    let other = at_place (IsNamedOther first.name) olds place served apart.0 served_is in
    last-append served.name (own_file first.name own.list) (files_of (names_of news olds) changes) old
    ∙ ap (last_text served.name (files_of (names_of news olds) changes))
    (own_other served.name first.name own.list old (otherwise served.name first.name other))
    ∙ text_at place news olds changes served change old apart.1 served_is change_is (omega (arith, within))
