-- Names of files in folders.
use Rattle.std.proofs.Common.{◌≡◌, ◌<◌, ◌≤◌, ◌+◌, ◌==◌, ◌&&◌, ℕ, zero, suc, Bool, true, false, List, [], ◌∷◌, ◌++◌, length, codes}
use Rattle.std.proofs.{Common.{if◌then◌else◌, nat_le, refl, ap, ◌∙◌, arith, length-append}, lemmas.Bool.le-leb}
use Rattle.std.proofs.lemmas.Bool.Decides.{nat_tests}
use Rattle.std.specs.{List.list_all, Fmt.digits}
use Rattle.bridge_io.specs.Names.{is_name, is_name_byte, is_proper_part, parts_after}
use Rattle.bridge_jobs.specs.{Jobs.is_folder, Laws.{FoldersHoldTheirFiles, in_folder, playlist_of}}

-- the parts on both sides of a slash
parts_of-both : (front folder file : List ℕ) → parts_after front (in_folder folder file) ≡ parts_after front folder ++ parts_after [] file
parts_of-both front [] file = refl
parts_of-both front (b ∷ folder) file = go (parts_of-both [] folder file) (parts_of-both (front ++ b ∷ []) folder file) (b == 47)
  where
    go : parts_after [] (in_folder folder file) ≡ parts_after [] folder ++ parts_after [] file
        → parts_after (front ++ b ∷ []) (in_folder folder file) ≡ parts_after (front ++ b ∷ []) folder ++ parts_after [] file
        → (slash : Bool) → (if slash then front ∷ parts_after [] (in_folder folder file)
        else parts_after (front ++ b ∷ []) (in_folder folder file))
        ≡ (if slash then front ∷ parts_after [] folder else parts_after (front ++ b ∷ []) folder) ++ parts_after [] file
    go begun longer true = ap (λ x. front ∷ x) begun
    go begun longer false = longer

all_of-both : {A : Type 0} (p : A → Bool) (xs ys : List A) → list_all p xs ≡ true → list_all p ys ≡ true → list_all p (xs ++ ys) ≡ true
all_of-both p [] ys all more = more
all_of-both p (x ∷ xs) ys all more = go (p x) refl (λ rest. all_of-both p xs ys rest more)
  where
    go : (b : Bool) → p x ≡ b → (list_all p xs ≡ true → list_all p (xs ++ ys) ≡ true) → list_all p ((x ∷ xs) ++ ys) ≡ true
    go true e next = rw e (next (rw e at all))
    go false e next = let bad : false ≡ true = rw e at all in cc

-- what a name is
pub record IsNamed (text : List ℕ) : Type 0 where
  short : length text ≤ 255
  bytes : list_all is_name_byte text ≡ true
  parts : list_all is_proper_part (parts_after [] text) ≡ true

named : (text : List ℕ) → is_name text ≡ true → IsNamed text
named text is = record { short = grind (arith, nat_tests); bytes = grind (arith, nat_tests); parts = grind (arith, nat_tests) }

in_folder-named : (folder file : List ℕ) → is_folder folder ≡ true → is_name file ≡ true → length file ≤ 12
    → is_name (in_folder folder file) ≡ true
in_folder-named folder file is name short =
    let is_named : is_name folder ≡ true = grind (arith, nat_tests) in
    let low : length folder ≤ 242 = grind (arith, nat_tests) in
    let a = named folder is_named in
    let b = named file name in
    let len : length (in_folder folder file) ≡ length folder + suc (length file) = length-append folder (47 ∷ file) in
    let some : nat_le 1 (length (in_folder folder file)) ≡ true = le-leb _ _ (omega arith) in
    let most : nat_le (length (in_folder folder file)) 255 ≡ true = le-leb _ _ (omega arith) in
    let bytes : list_all is_name_byte (in_folder folder file) ≡ true = all_of-both is_name_byte folder (47 ∷ file) a.bytes b.bytes in
    let parts : list_all is_proper_part (parts_after [] (in_folder folder file)) ≡ true =
    ap (list_all is_proper_part) (parts_of-both [] folder file)
    ∙ all_of-both is_proper_part (parts_after [] folder) (parts_after [] file) a.parts b.parts in
    rw (some, most, bytes, parts) refl

-- a test that holds of all numbers below a bound
abbrev all_below : (ℕ → Bool) → ℕ → Bool
all_below p zero = true
all_below p (suc n) = p n && all_below p n

below : (p : ℕ → Bool) (n k : ℕ) → all_below p n ≡ true → k < n → p k ≡ true
below p zero k all lt = absurd (omega arith)
below p (suc n) k all lt = go (k == n) refl (below p n k)
  where
    last : p n ≡ true
    last = grind (arith, nat_tests)

    more : all_below p n ≡ true
    more = grind (arith, nat_tests)

    go : (same : Bool) → (k == n) ≡ same → (all_below p n ≡ true → k < n → p k ≡ true) → p k ≡ true
    go true e next = let is : k ≡ n = grind (arith, nat_tests) in rw is last
    go false e next = next more (grind (arith, nat_tests))

abbrev is_playlist : ℕ → Bool
is_playlist track = is_name (playlist_of track) && nat_le (length (playlist_of track)) 12

all_playlists : all_below is_playlist 200 ≡ true
unfolding digits
all_playlists = refl

pub folders_hold : FoldersHoldTheirFiles
folders_hold = λ folder is. record {
  playlists = λ track low.
      let both : is_playlist track ≡ true = below is_playlist 200 track all_playlists low in
      let name : is_name (playlist_of track) ≡ true = grind (arith, nat_tests) in
      let short : length (playlist_of track) ≤ 12 = grind (arith, nat_tests) in
      in_folder-named folder (playlist_of track) is name short;
  master = in_folder-named folder (codes "master.m3u8") is refl (omega arith);
  manifest = in_folder-named folder (codes "manifest.mpd") is refl (omega arith);
  source = in_folder-named folder (codes "source.mpd") is refl (omega arith);
  live = in_folder-named folder (codes "live.mpd") is refl (omega arith);
}
