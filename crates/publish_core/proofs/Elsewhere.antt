-- Files that take their places in one folder leave another as it is.
use Rattle.std.proofs.Common.{◌≡◌, ℕ, true, false, List, [], ◌∷◌, ◌++◌, All, bytes_eq, codes, Option, Some, None, refl, sym, ◌∙◌, ap, subst}
use Rattle.std.proofs.Common.{append_assoc, inl, inr}
use Rattle.std.proofs.lemmas.{Bool.{and_parts, cases_Bool}, List.Folds.list_all-append}
use Rattle.std.proofs.lemmas.List.Elements.{All-append, All-cons, All-head, All-nil, All-tail}
use Rattle.std.specs.List.{list_all}
use Rattle.bridge_io.specs.{Outside.Files}
use Rattle.bridge_io.proofs.Texts.{same_bytes}
use Rattle.followed_text.specs.{Followed.text_of, declared.followed.FollowedText.FollowedText}
use Rattle.publish_law.specs.declared.track.Change.{Change}
use Rattle.publish_core.specs.Decisions.{master_if, names_of, new_file}
use Rattle.publish_core.specs.{Names.{is_no_slash, is_track_file, master_file, name_in, pending_file}, Placed.all_placed}
use Rattle.publish_core.specs.declared.{decision.NewFile.NewFile, side.{Side.Side, SideTrack.SideTrack}}
use Rattle.publish_core.proofs.After.{files_of, last_text, own_file, placed_text}
use Rattle.publish_core.proofs.{Apart.{AreApart, IsSideIn, IsTrackIn}, Served.named}

-- ---- names in two folders

-- a file that lies in no folder
abbrev pub IsFlat : List ℕ → Type 0
IsFlat file = list_all is_no_slash file ≡ true

pub flat_track : (file : List ℕ) → is_track_file file ≡ true → IsFlat file
flat_track file is = (and_parts _ _ is).1

none_inside : (front file : List ℕ) → IsFlat (front ++ 47 ∷ file) → ⊥
none_inside front file flat =
    let parts = and_parts (list_all is_no_slash front) (list_all is_no_slash (47 ∷ file))
    (sym (list_all-append is_no_slash front (47 ∷ file)) ∙ flat) in
    let never : false ≡ true = parts.1 in cc

one_folder : (a b x y : List ℕ) → IsFlat x → IsFlat y → a ++ 47 ∷ x ≡ b ++ 47 ∷ y → a ≡ b
one_folder [] [] x y flat_x flat_y is = refl
one_folder [] (c ∷ b) x y flat_x flat_y is =
    let rest : x ≡ b ++ 47 ∷ y = cc in absurd (none_inside b y (subst IsFlat rest flat_x))
one_folder (c ∷ a) [] x y flat_x flat_y is =
    let rest : y ≡ a ++ 47 ∷ x = cc in absurd (none_inside a x (subst IsFlat rest flat_y))
one_folder (c ∷ a) (d ∷ b) x y flat_x flat_y is =
    let first : c ≡ d = cc in
    let more : a ++ 47 ∷ x ≡ b ++ 47 ∷ y = cc in
    let rest = one_folder a b x y flat_x flat_y more in cc

names_apart : (a b x y m n : List ℕ) → (a ≡ b → ⊥) → IsFlat x → IsFlat y → name_in a x ≡ Some m → name_in b y ≡ Some n
    → bytes_eq m n ≡ false
names_apart a b x y m n differ flat_x flat_y m_is n_is = elim (cases_Bool (bytes_eq m n)) [
  | inl same ↦ absurd (differ (one_folder a b x y flat_x flat_y (sym (append_assoc a (codes "/") x) ∙ sym (named a x m m_is)
      ∙ same_bytes m n same ∙ named b y n n_is ∙ append_assoc b (codes "/") y)))
  | inr other ↦ other
]

-- ---- what is written in a folder

pub record IsFileIn (folder : List ℕ) (file : NewFile) : Type 0 where
  pub own : List ℕ
  pub flat : IsFlat own
  pub name : name_in folder own ≡ Some file.name

own_in : (folder : List ℕ) (files : Files) (track : SideTrack) (list : Option FollowedText) → IsTrackIn folder files track
    → is_track_file track.file ≡ true → All (IsFileIn folder) (own_file track.name list)
own_in folder files track None is own = All-nil (IsFileIn folder)
own_in folder files track (Some list) is own = All-cons (IsFileIn folder) (new_file track.name (text_of list)) []
    (record { own = track.file; flat = flat_track track.file own; name = is.name }) (All-nil (IsFileIn folder))

lists_in : (folder : List ℕ) (files : Files) (news olds : List SideTrack) (changes : List Change) → All (IsTrackIn folder files) olds
    → AreApart olds → All (IsFileIn folder) (files_of (names_of news olds) changes)
lists_in folder files [] olds changes all apart = All-nil (IsFileIn folder)
lists_in folder files (new ∷ news) [] changes all apart = All-nil (IsFileIn folder)
lists_in folder files (new ∷ news) (old ∷ olds) [] all apart = All-nil (IsFileIn folder)
lists_in folder files (new ∷ news) (old ∷ olds) (change ∷ changes) all apart =
    All-append (IsFileIn folder) (own_file old.name change.list) (files_of (names_of news olds) changes)
    (own_in folder files old change.list (All-head (IsTrackIn folder files) old olds all) apart.0)
    (lists_in folder files news olds changes (All-tail (IsTrackIn folder files) old olds all) apart.2)

new_master_in : (folder : List ℕ) (new served : Side) → name_in folder master_file ≡ Some served.file
    → All (IsFileIn folder) (master_if new served)
new_master_in folder new served is = elim (cases_Bool (bytes_eq new.text served.text)) [
  | inl same ↦ rw same (All-nil (IsFileIn folder))
  | inr other ↦ rw other (All-cons (IsFileIn folder) (new_file served.file new.text) []
      (record { own = master_file; flat = refl; name = is }) (All-nil (IsFileIn folder)))
]

pub written_in : (folder file : List ℕ) (files : Files) (new served : Side) (changes : List Change) → name_in folder master_file ≡ Some file
    → IsSideIn folder file files served
    → All (IsFileIn folder) (files_of (names_of new.tracks served.tracks) changes ++ master_if new served)
written_in folder file files new served changes file_is is =
    All-append (IsFileIn folder) (files_of (names_of new.tracks served.tracks) changes) (master_if new served)
    (lists_in folder files new.tracks served.tracks changes is.each is.apart)
    (new_master_in folder new served (file_is ∙ ap Some (sym is.file_is)))

-- ---- another folder

-- the files of a folder are as before
abbrev pub AreKept : (folder : List ℕ) → (before after : Files) → Type 0
AreKept folder before after = (own name : List ℕ) → IsFlat own → name_in folder own ≡ Some name → after name ≡ before name

none_there : (folder other own name : List ℕ) (files : List NewFile) (old : Option (List ℕ)) → (other ≡ folder → ⊥) → IsFlat own
    → name_in other own ≡ Some name → All (IsFileIn folder) files → last_text name files old ≡ old
none_there folder other own name [] old differ flat name_is all = refl
none_there folder other own name (file ∷ files) old differ flat name_is all =
    let here = All-head (IsFileIn folder) file files all in
    let apart = names_apart folder other here.own own file.name name (λ e. differ (sym e)) here.flat flat here.name name_is in
    rw apart (none_there folder other own name files old differ flat name_is (All-tail (IsFileIn folder) file files all))

pub others_kept : (folder other pending : List ℕ) (files : List NewFile) (before : Files) → (other ≡ folder → ⊥)
    → name_in folder pending_file ≡ Some pending → All (IsFileIn folder) files → AreKept other before (all_placed pending files before)
others_kept folder other pending files before differ pending_is all own name flat name_is =
    placed_text pending name (names_apart folder other pending_file own pending name (λ e. differ (sym e)) refl flat pending_is name_is)
    files before ∙ none_there folder other own name files (before name) differ flat name_is all
