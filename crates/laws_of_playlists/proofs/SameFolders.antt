-- Where the files of a folder lie, and their names.
use Rattle.std.proofs.Common.{◌≡◌, ℕ, ◌+◌, ◌-◌, ◌==◌, not, ◌&&◌, Bool, true, List, [], ◌∷◌, ◌++◌, length, take, drop, reverse, None, Some}
use Rattle.std.proofs.Common.{refl, sym, ◌∙◌, ap, arith, take_all, take_at, append_assoc, length-append, length-take}
use Rattle.std.proofs.{lemmas.Bool.{and_parts, cond-true, cond_both, eq-eqb, eqb-true}, lemmas.Bool.Decides.{Decides-eqb, nat_tests}}
use Rattle.std.proofs.{lemmas.List.{drop_at, length-reverse, reverse-append}, lemmas.List.Folds.prefix_len-append}
use Rattle.std.proofs.{lemmas.List.Sums.{prefix_len-le-length, suffix_len-le-length}, lemmas.Slice.Eq.starts_is}
use Rattle.std.specs.{Prelude.{nat_eq, nat_le, option_and_then}, List.{list_all, position_or_len, prefix_len, starts_with, suffix_len}}
use Rattle.bridge_io.specs.{Names.{is_name, is_name_byte, is_proper_part, parts_after}, Outside.Files}
use Rattle.url_parts.specs.Addresses.{folder_of, if_name, is_tail, local_name_of, through_last_slash, without_tail}
use Rattle.hls_meaning.specs.Meanings.{file_at}
use Rattle.hls_writer.specs.Attributes.{playlist_name}
use Rattle.laws_of_playlists.specs.SameFiles.{FoldersHoldFiles, master_name}

-- ---- texts of which all bytes pass

all_pass : (p : ℕ → Bool) (xs : List ℕ) → list_all p xs ≡ true → prefix_len p xs ≡ length xs
all_pass p [] all = refl
all_pass p (x ∷ xs) all = (let both = and_parts (p x) (list_all p xs) all in rw both.0 (omega (arith, all_pass p xs both.1)))

through : (p : ℕ → Bool) (xs ys : List ℕ) → prefix_len p xs ≡ length xs → prefix_len p (xs ++ ys) ≡ length xs + prefix_len p ys
through p xs ys all = prefix_len-append p xs ys ∙ cond-true _ _ _ (eq-eqb _ _ all)

-- ---- folders

abbrev pub no_tail : ℕ → Bool
no_tail b = not (is_tail b)

abbrev no_slash : ℕ → Bool
no_slash b = not (b == 47)

-- no `?` and no `#`, and nothing behind the last `/`
record IsFolder (text : List ℕ) : Type 0 where
  whole : prefix_len no_tail text ≡ length text
  ends : prefix_len no_slash (reverse text) ≡ 0

own_folder : (text : List ℕ) → folder_of text ≡ text → IsFolder text
unfolding folder_of
own_folder text own =
    let body : List ℕ = take (position_or_len is_tail text) text in
    let front = prefix_len-le-length no_tail text in
    let back = suffix_len-le-length no_slash body in
    let long : length body ≡ length text = omega (arith, ap length own, length-take {A = ℕ}) in
    let all : prefix_len no_tail text ≡ length text = omega (arith, long, front, length-take (position_or_len is_tail text) text) in
    let none : suffix_len no_slash body ≡ 0 = omega (
      arith,
      long,
      back,
      ap length own,
      length-take (length body - suffix_len no_slash body) body,
    ) in
    record { whole = all; ends = ap (suffix_len no_slash) (sym (take_all (position_or_len is_tail text) text (omega (arith, all)))) ∙ none }

both_folders : (one other : List ℕ) → IsFolder one → IsFolder other → IsFolder (one ++ other)
both_folders one other is also =
    let turned : prefix_len no_slash (reverse other ++ reverse one) ≡ 0 =
    prefix_len-append no_slash (reverse other) (reverse one)
    ∙ cond_both (prefix_len no_slash (reverse other) == length (reverse other))
    (length (reverse other) + prefix_len no_slash (reverse one)) (prefix_len no_slash (reverse other)) (λ n. n ≡ 0)
    (λ same. omega (arith, eqb-true (prefix_len no_slash (reverse other)) (length (reverse other)) same, also.ends, is.ends))
    (λ _. also.ends) in
    record {
      whole = omega (arith, through no_tail one other is.whole, also.whole, length-append one other);
      ends = ap (prefix_len no_slash) (reverse-append one other) ∙ turned;
    }

beside : (folder name : List ℕ) → IsFolder folder → prefix_len no_tail name ≡ length name
    → prefix_len no_slash (reverse name) ≡ length (reverse name) → folder_of (folder ++ name) ≡ folder
unfolding folder_of
beside folder name is whole plain =
    let text : List ℕ = folder ++ name in
    let all : position_or_len is_tail text ≡ length folder + length name = through no_tail folder name is.whole
    ∙ ap (λ n. length folder + n) whole in
    let last : suffix_len no_slash text ≡ length name =
    ap (prefix_len no_slash) (reverse-append folder name) ∙ through no_slash (reverse name) (reverse folder) plain
    ∙ omega (arith, is.ends, length-reverse name) in
    ap through_last_slash (take_all (position_or_len is_tail text) text (omega (arith, all, length-append folder name)))
    ∙ take_at folder name (length text - suffix_len no_slash text) (omega (arith, last, length-append folder name))

-- the folder of a name without a slash under a folder and one more
pub folder_under : (folder prefix name : List ℕ) → folder_of folder ≡ folder → folder_of prefix ≡ prefix
    → prefix_len no_tail name ≡ length name → prefix_len no_slash (reverse name) ≡ length (reverse name) →
    folder_of (folder ++ (prefix ++ name)) ≡ folder ++ prefix
folder_under folder prefix name own also whole plain =
    ap folder_of (sym (append_assoc folder prefix name))
    ∙ beside (folder ++ prefix) name (both_folders folder prefix (own_folder folder own) (own_folder prefix also)) whole plain

-- ---- files

name_byte : (b : ℕ) → is_name_byte b ≡ true → no_tail b ≡ true
name_byte b is = grind (arith, nat_tests)

name_bytes : (xs : List ℕ) → list_all is_name_byte xs ≡ true → list_all no_tail xs ≡ true
name_bytes [] all = refl
name_bytes (x ∷ xs) all = (let both = and_parts (is_name_byte x) (list_all is_name_byte xs) all in
    rw (name_byte x both.0) (name_bytes xs both.1))

name_plain : (name : List ℕ) → is_name name ≡ true → list_all no_tail name ≡ true
name_plain name is =
    let sized : Bool = nat_le 1 (length name) && nat_le (length name) 255 in
    name_bytes name (and_parts sized (list_all is_name_byte name)
    (and_parts (sized && list_all is_name_byte name) (list_all is_proper_part (parts_after [] name)) is).0).1

name_whole : (name : List ℕ) → is_name name ≡ true → prefix_len no_tail name ≡ length name
name_whole name is = all_pass no_tail name (name_plain name is)

name_untouched : (name : List ℕ) → is_name name ≡ true → without_tail name ≡ name
name_untouched name is = (let whole = name_whole name is in take_all (position_or_len is_tail name) name (omega arith))

-- a name behind a folder is a file's
pub file_under : (files : Files) (folder name : List ℕ) → is_name name ≡ true → file_at files folder (folder ++ name) ≡ files name
file_under files folder name is =
    let rest : drop (length folder) (folder ++ name) ≡ name = drop_at folder name (length folder) refl in
    let begins : starts_with nat_eq (folder ++ name) folder ≡ true =
    (starts_is Decides-eqb (folder ++ name) folder (starts_with nat_eq (folder ++ name) folder) refl).1 name refl in
    let local : local_name_of folder (folder ++ name) ≡ Some name = rw begins (ap (λ n. if_name (without_tail n)) rest
    ∙ ap if_name (name_untouched name is) ∙ cond-true (is_name name) (Some name) None is) in
    ap (option_and_then files) local

-- ---- the folder of a store

-- what ends by a slash is its own folder
pub own_with_slash : (front : List ℕ) → list_all no_tail front ≡ true → folder_of (front ++ 47 ∷ []) ≡ front ++ 47 ∷ []
unfolding folder_of
own_with_slash front plain =
    let text : List ℕ = front ++ 47 ∷ [] in
    let all : position_or_len is_tail text ≡ length front + 1 = through no_tail front (47 ∷ []) (all_pass no_tail front plain) in
    let last : suffix_len no_slash text ≡ 0 = ap (prefix_len no_slash) (reverse-append front (47 ∷ [])) in
    ap through_last_slash (take_all (position_or_len is_tail text) text (omega (arith, length-append front (47 ∷ []))))
    ∙ take_all (length text - suffix_len no_slash text) text (omega arith)

pub folders_hold_files : FoldersHoldFiles
folders_hold_files folder tracks is master playlists = record {
  folder = own_with_slash folder (name_plain folder is);
  master = ap is_name (append_assoc folder (47 ∷ []) master_name) ∙ master;
  playlists = λ t within. ap is_name (append_assoc folder (47 ∷ []) (playlist_name t)) ∙ playlists t within;
}
