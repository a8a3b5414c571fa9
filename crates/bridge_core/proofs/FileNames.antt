-- The files that are written, by their names.
use Rattle.std.proofs.Common.{◌≡◌, ℕ, zero, suc, ◌+◌, ◌^◌, ◌<◌, ◌≤◌, List, [], ◌∷◌, ◌++◌, map, length, None, Option, Some, bytes_eq, eqb}
use Rattle.std.proofs.{Common.{refl, sym, ◌∙◌, ap, arith, inl, inr, subst, append_assoc}, lemmas.Bool.{cases_Bool, eqb-true}}
use Rattle.std.proofs.{lemmas.Bool.Decides.nat_tests, lemmas.Fmt.decimal_injective, lemmas.List.{append_cancel_left, append_cancel_right}}
use Rattle.std.proofs.lemmas.Option.{slice_get_within}
use Rattle.std.specs.{Prelude.{codes, decimal, option_map, slice_get}, List.range_with_len, Option.option_map_or}
use Rattle.bridge_io.proofs.Texts.{same_bytes, equals_itself}
use Rattle.bridge_io.specs.{InOrder.put_all, Outside.{Files, put}}
use Rattle.bridge_jobs.specs.Laws.{in_folder, playlist_of}
use Rattle.bridge_jobs.specs.declared.jobs.Addresses.{Addresses, TheVariants.{Absolute, Relative}}
use Rattle.presentation.specs.Presented.{Presented}
use Rattle.hls_writer.specs.{Finished.{media_text, targets_of}, Master.master_text}
use Rattle.track_hints.specs.declared.hints.Hints.{Hints}
use Rattle.laws_of_playlists.specs.{ReadMedia.Spells, SameFiles.{AreWritten, master_name, playlist_under}}
use Rattle.url_parts.{proofs.Spellings.{stands_alone, stands_beside}, specs.Spelling.{PlaylistPlace, place_of}}
use Rattle.live_meaning.specs.{States.{State, Track}, Playlists.{FollowedPlaylist, live_text, playlist_of as followed_of, playlist_with}}
use Rattle.laws_of_reloads.specs.First.{HoldState}
use Rattle.bridge_steps.specs.Playlists.{OutputPlace, output_of, playlists, spelling_in}
use Rattle.bridge_live.specs.LiveMpds.{live_files, track_text}
use Rattle.bridge_live.proofs.LiveFiles.{files_first}

-- ---- one file

pub put_there : (name bytes : List ℕ) (files : Files) → put name bytes files name ≡ Some bytes
put_there name bytes files = rw (equals_itself name) refl

put_elsewhere : (name other bytes : List ℕ) (files : Files) → (name ≡ other → ⊥) → put name bytes files other ≡ files other
put_elsewhere name other bytes files apart = elim (cases_Bool (bytes_eq name other)) [
  | inl same ↦ absurd (apart (same_bytes name other same))
  | inr differs ↦ rw differs refl
]

put_last : (fs : List (List ℕ × List ℕ)) (f : List ℕ × List ℕ) (files : Files)
    → put_all (fs ++ f ∷ []) files ≡ put f.0 f.1 (put_all fs files)
put_last [] f files = refl
put_last (g ∷ fs) f files = put_last fs f (put g.0 g.1 files)

-- ---- names

same_track : (out : List ℕ) (s t : ℕ) → s < 2 ^ 64 → t < 2 ^ 64 → in_folder out (playlist_of s) ≡ in_folder out (playlist_of t) → s ≡ t
same_track out s t few less e =
    let behind : 47 ∷ 116 ∷ (decimal s ++ codes ".m3u8") ≡ 47 ∷ 116 ∷ (decimal t ++ codes ".m3u8") = append_cancel_left out _ _ e in
    let texts : decimal s ++ codes ".m3u8" ≡ decimal t ++ codes ".m3u8" = cc in
    decimal_injective s t few less (append_cancel_right (decimal s) (decimal t) (codes ".m3u8") texts)

same_first : (a b : ℕ) (xs ys : List ℕ) → a ∷ xs ≡ b ∷ ys → a ≡ b
same_first a b xs ys e = cc

pub no_master : (out : List ℕ) (t : ℕ) → in_folder out (codes "master.m3u8") ≡ in_folder out (playlist_of t) → ⊥
no_master out t e =
    let names : codes "master.m3u8" ≡ playlist_of t = (let behind = append_cancel_left out (47 ∷ codes "master.m3u8") (47 ∷ playlist_of t)
    e in cc) in
    absurd (omega (arith, same_first 109 116 (codes "aster.m3u8") (decimal t ++ codes ".m3u8") names))

-- ---- playlists of tracks in order

module _ (out : List ℕ) (texts : ℕ → List ℕ) where
  abbrev file : ℕ → List ℕ × List ℕ
  file t = (in_folder out (playlist_of t), texts t)

  -- another file is as before
  pub file_apart : (from n : ℕ) (files : Files) (name : List ℕ) → ((t : ℕ) → t < from + n → from ≤ t → (file t).0 ≡ name → ⊥)
      → put_all (map file (range_with_len from n)) files name ≡ files name
  file_apart from zero files name apart = refl
  file_apart from (suc n) files name apart =
      file_apart (from + 1) n (put (file from).0 (file from).1 files) name (λ t less le. apart t (omega (arith, less)) (omega (arith, le)))
      ∙ put_elsewhere (file from).0 name (file from).1 files (apart from (omega arith) (omega arith))

  pub file_there : (from n : ℕ) (files : Files) (t : ℕ) → from + n ≤ 2 ^ 64 → from ≤ t → t < from + n
      → put_all (map file (range_with_len from n)) files (file t).0 ≡ Some (texts t)
  file_there from zero files t few least less = absurd (omega (arith, least, less))
  file_there from (suc n) files t few least less = elim (cases_Bool (eqb from t)) [
    | inl same ↦
        let is = eqb-true from t same in
        rw (sym is)
        (file_apart (from + 1) n (put (file from).0 (file from).1 files) (file from).0
        (λ r within le name. absurd (omega (arith, le, same_track out r from (omega (arith, few, within)) (omega (arith, few)) name)))
        ∙ put_there (file from).0 (file from).1 files)
    | inr differs ↦ file_there (from + 1) n (put (file from).0 (file from).1 files) t (omega (arith, few))
        (grind (arith, nat_tests, least, differs)) (omega (arith, less))
  ]

  -- and the master behind them
  module _ (master : List ℕ) (n : ℕ) (few : n ≤ 200) (files : Files) where
    abbrev all : Files
    all = put_all (map file (range_with_len 0 n) ++ (in_folder out master_name, master) ∷ []) files

    last : all ≡ put (in_folder out master_name) master (put_all (map file (range_with_len 0 n)) files)
    last = put_last (map file (range_with_len 0 n)) (in_folder out master_name, master) files

    pub master_there : all ((out ++ 47 ∷ []) ++ master_name) ≡ Some master
    master_there =
        ap all (append_assoc out (47 ∷ []) master_name) ∙ ap (λ fs. fs (in_folder out master_name)) last
        ∙ put_there (in_folder out master_name) master (put_all (map file (range_with_len 0 n)) files)

    pub playlist_there : (t : ℕ) → t < n → all ((out ++ 47 ∷ []) ++ playlist_of t) ≡ Some (texts t)
    playlist_there t less =
        ap all (append_assoc out (47 ∷ []) (playlist_of t)) ∙ ap (λ fs. fs (in_folder out (playlist_of t))) last
        ∙ put_elsewhere (in_folder out master_name) (in_folder out (playlist_of t)) master (put_all (map file (range_with_len 0 n)) files)
        (no_master out t)
        ∙ file_there 0 n files t (omega (arith, few)) (omega (arith)) (omega (arith, less))

-- ---- the playlists of a static MPD, and of a first live one

-- what is written for a URL stands for it in the playlist
pub spells_in : (addresses : Addresses) (base out : List ℕ) (t : ℕ) → Spells (spelling_in (output_of addresses base out) t)
    (playlist_under base (out ++ 47 ∷ []) t)
spells_in Absolute base out t = stands_alone _
spells_in Relative base out t =
    subst (λ name. Spells (place_of base out (playlist_of t)) (base ++ name)) (sym (append_assoc out (47 ∷ []) (playlist_of t)))
    (stands_beside base out (playlist_of t))

pub are_written : (output : OutputPlace) (players : Option Hints) (digits : ℕ) (p : Presented) (files : Files) → length p.tracks ≤ 200
    → AreWritten (put_all (playlists output players digits p) files) (output.folder ++ 47 ∷ []) (spelling_in output) players p digits
are_written output players digits p files few =
    let texts = λ (t : ℕ). media_text (spelling_in output t) (targets_of players) p digits t in record {
      master = master_there output.folder texts (master_text players p) (length p.tracks) few files;
      playlists = playlist_there output.folder texts (master_text players p) (length p.tracks) few files;
    }

read_text : (place : Option PlaylistPlace) (o : Option FollowedPlaylist) (playlist : FollowedPlaylist) → o ≡ Some playlist
    → option_map_or (live_text place) o [] ≡ live_text place playlist
read_text place o playlist is = ap (λ o. option_map_or (live_text place) o []) is

some_track : (tracks : List Track) (t : ℕ) (o : Option Track) (f : Track → FollowedPlaylist) (playlist : FollowedPlaylist)
    → slice_get tracks t ≡ o
    → option_map f o ≡ Some playlist → t < length tracks
some_track tracks t None f playlist found is = absurd (cc)
some_track tracks t (Some track) f playlist found is = slice_get_within tracks t track found

pub first_written : (output : OutputPlace) (players : Option Hints) (s : State) (files : Files) → s.common.accepted ≡ 1
    → length s.tracks ≤ 200
    → HoldState (put_all (live_files output players s) files) (output.folder ++ 47 ∷ []) (spelling_in output) players s
first_written output players s files one few = rw (files_first output players s one) (record {
  master = master_there output.folder (track_text output s) (master_text players s.common.opened) (length s.tracks) few files;
  playlists = λ t playlist is.
      playlist_there output.folder (track_text output s) (master_text players s.common.opened) (length s.tracks) few files t
      (some_track s.tracks t (slice_get s.tracks t) (playlist_with s.common) playlist refl is)
      ∙ ap (λ text. Some text) (read_text (spelling_in output t) (followed_of s t) playlist is);
})
