-- Tracks that pass as the same ones have one kind, language and file.
use Rattle.std.proofs.Common.{◌≡◌, ℕ, true, ◌&&◌, List, [], ◌∷◌, Option, Some, None, bytes_eq, refl, sym, ap, ◌∙◌}
use Rattle.std.proofs.lemmas.Bool.{and_parts}
use Rattle.std.specs.Option.{option_eq}
use Rattle.bridge_io.proofs.Texts.{equals_itself, same_bytes}
use Rattle.bridge_io.specs.{declared.media.Kind.Kind, declared.media.Kind.TheVariants.{Video, Audio, Text}}
use Rattle.meaning.specs.Differences.{is_same_kind}
use Rattle.hls_master.specs.declared.track.MasterTrack.{MasterTrack}
use Rattle.publish_core.specs.{Sides.{FileName, are_same_tracks, is_named, is_same_track}, Taken.{are_found, is_found}}
use Rattle.publish_core.specs.declared.side.SideTrack.{SideTrack}

-- ---- kinds, languages and files

same_kind : (a b : Kind) → is_same_kind a b ≡ true → a ≡ b
same_kind Video Video is = refl
same_kind Video Audio is = absurd (cc)
same_kind Video Text is = absurd (cc)
same_kind Audio Video is = absurd (cc)
same_kind Audio Audio is = refl
same_kind Audio Text is = absurd (cc)
same_kind Text Video is = absurd (cc)
same_kind Text Audio is = absurd (cc)
same_kind Text Text is = refl

kind_itself : (a : Kind) → is_same_kind a a ≡ true
kind_itself Video = refl
kind_itself Audio = refl
kind_itself Text = refl

same_language : (a b : Option (List ℕ)) → option_eq bytes_eq a b ≡ true → a ≡ b
same_language None None is = refl
same_language None (Some b) is = absurd (cc)
same_language (Some a) None is = absurd (cc)
same_language (Some a) (Some b) is = ap Some (same_bytes a b is)

language_itself : (a : Option (List ℕ)) → option_eq bytes_eq a a ≡ true
language_itself None = refl
language_itself (Some a) = equals_itself a

file_named : (file : List ℕ) (name : FileName) → is_named file name ≡ true → name ≡ Some file
file_named file None is = absurd (cc)
file_named file (Some other) is = ap Some (same_bytes other file is)

-- ---- tracks

pub record IsAlike (a b : SideTrack) : Type 0 where
  pub kind : a.kind ≡ b.kind
  pub language : a.language ≡ b.language
  pub file : a.file ≡ b.file

pub alike : (a b : SideTrack) → is_same_track a b ≡ true → IsAlike a b
alike a b is =
    let both = and_parts (is_same_kind a.kind b.kind && option_eq bytes_eq a.language b.language) (bytes_eq a.file b.file) is in
    let first = and_parts (is_same_kind a.kind b.kind) (option_eq bytes_eq a.language b.language) both.0 in record {
      kind = same_kind a.kind b.kind first.0;
      language = same_language a.language b.language first.1;
      file = same_bytes a.file b.file both.1;
    }

pub same_itself : (track : SideTrack) → is_same_track track track ≡ true
same_itself track = rw (kind_itself track.kind, language_itself track.language, equals_itself track.file) refl

-- ---- tracks of a master

-- a track of a master is this one
pub record IsFoundAs (track : SideTrack) (other : MasterTrack) (own : FileName) : Type 0 where
  pub kind : other.kind ≡ track.kind
  pub language : other.language ≡ track.language
  pub name : own ≡ Some track.file

pub found_as : (track : SideTrack) (other : MasterTrack) (name : FileName) → is_found track other name ≡ true → IsFoundAs track other name
found_as track other name is =
    let both = and_parts (is_same_kind track.kind other.kind && option_eq bytes_eq track.language other.language)
    (is_named track.file name) is in
    let first = and_parts (is_same_kind track.kind other.kind) (option_eq bytes_eq track.language other.language) both.0 in record {
      kind = sym (same_kind track.kind other.kind first.0);
      language = sym (same_language track.language other.language first.1);
      name = file_named track.file name both.1;
    }

is_as : (track : SideTrack) (other : MasterTrack) (name : FileName) → IsFoundAs track other name → is_found track other name ≡ true
is_as track other name is = rw (
  is.kind,
  is.language,
  is.name,
  kind_itself track.kind,
  language_itself track.language,
  equals_itself track.file,
) refl

one_found : (a b : SideTrack) (other : MasterTrack) (name : FileName) → IsAlike a b → is_found a other name ≡ true
    → is_found b other name ≡ true
one_found a b other name same is =
    let as_a = found_as a other name is in is_as b other name (record {
      kind = as_a.kind ∙ same.kind;
      language = as_a.language ∙ same.language;
      name = as_a.name ∙ ap Some same.file;
    })

-- tracks that are the same ones are found too
pub found_too : (news olds : List SideTrack) (found : List MasterTrack) (names : List FileName) → are_same_tracks news olds ≡ true
    → are_found news found names ≡ true → are_found olds found names ≡ true
found_too [] [] found names same is = is
found_too [] (b ∷ olds) found names same is = absurd (cc)
found_too (a ∷ news) [] found names same is = absurd (cc)
found_too (a ∷ news) (b ∷ olds) [] names same is = is
found_too (a ∷ news) (b ∷ olds) (other ∷ found) [] same is = is
found_too (a ∷ news) (b ∷ olds) (other ∷ found) (name ∷ names) same is =
    let both = and_parts (is_same_track a b) (are_same_tracks news olds) same in
    let parts = and_parts (is_found a other name) (are_found news found names) is in
    rw (one_found a b other name (alike a b both.0) parts.0, found_too news olds found names both.1 parts.1) refl
