-- Tracks of which some are left out still stand in order.
use Rattle.std.proofs.Common.{◌≡◌, ℕ, zero, suc, take, Bool, true, false, List, [], ◌∷◌, map, filter, if◌then◌else◌, refl}
use Rattle.bridge_io.specs.{declared.media.Kind.Kind, declared.media.Kind.TheVariants.{Video, Audio, Text}}
use Rattle.laws_of_mpds.specs.Meant.{are_audio_then_text, are_in_order, are_text}

-- what stays of text is text, and so on
pub text_is_behind_audio : (kinds : List Kind) → are_text kinds ≡ true → are_audio_then_text kinds ≡ true
text_is_behind_audio [] is = refl
text_is_behind_audio (Text ∷ kinds) is = is
text_is_behind_audio (Audio ∷ kinds) is = absurd (cc)
text_is_behind_audio (Video ∷ kinds) is = absurd (cc)

pub audio_is_behind_video : (kinds : List Kind) → are_audio_then_text kinds ≡ true → are_in_order kinds ≡ true
audio_is_behind_video [] is = refl
audio_is_behind_video (Text ∷ kinds) is = is
audio_is_behind_video (Audio ∷ kinds) is = is
audio_is_behind_video (Video ∷ kinds) is = absurd (cc)

module _ {X : Type 0} (kind : X → Kind) (keeps : X → Bool) where
  text_by : (k : Kind) (keep : Bool) (x : X) (xs : List X) → kind x ≡ k → are_text (k ∷ map kind xs) ≡ true
      → (are_text (map kind xs) ≡ true → are_text (map kind (filter keeps xs)) ≡ true)
      → are_text (map kind (if keep then x ∷ filter keeps xs else filter keeps xs)) ≡ true
  text_by Text true x xs is all later = rw is (later all)
  text_by Text false x xs is all later = later all
  text_by Audio keep x xs is all later = absurd (cc)
  text_by Video keep x xs is all later = absurd (cc)

  texts : (xs : List X) → are_text (map kind xs) ≡ true → are_text (map kind (filter keeps xs)) ≡ true
  texts [] all = refl
  texts (x ∷ xs) all = text_by (kind x) (keeps x) x xs refl all (texts xs)

  audio_by : (k : Kind) (keep : Bool) (x : X) (xs : List X) → kind x ≡ k → are_audio_then_text (k ∷ map kind xs) ≡ true
      → (are_audio_then_text (map kind xs) ≡ true → are_audio_then_text (map kind (filter keeps xs)) ≡ true)
      → are_audio_then_text (map kind (if keep then x ∷ filter keeps xs else filter keeps xs)) ≡ true
  audio_by Audio true x xs is all later = rw is (later all)
  audio_by Audio false x xs is all later = later all
  audio_by Text true x xs is all later = rw is (texts xs all)
  audio_by Text false x xs is all later = text_is_behind_audio (map kind (filter keeps xs)) (texts xs all)
  audio_by Video keep x xs is all later = absurd (cc)

  audios : (xs : List X) → are_audio_then_text (map kind xs) ≡ true → are_audio_then_text (map kind (filter keeps xs)) ≡ true
  audios [] all = refl
  audios (x ∷ xs) all = audio_by (kind x) (keeps x) x xs refl all (audios xs)

  video_by : (k : Kind) (keep : Bool) (x : X) (xs : List X) → kind x ≡ k → are_in_order (k ∷ map kind xs) ≡ true
      → (are_in_order (map kind xs) ≡ true → are_in_order (map kind (filter keeps xs)) ≡ true)
      → are_in_order (map kind (if keep then x ∷ filter keeps xs else filter keeps xs)) ≡ true
  video_by Video true x xs is all later = rw is (later all)
  video_by Video false x xs is all later = later all
  video_by Audio true x xs is all later = rw is (audios xs all)
  video_by Audio false x xs is all later = audio_is_behind_video (map kind (filter keeps xs)) (audios xs all)
  video_by Text true x xs is all later = rw is (texts xs all)
  video_by Text false x xs is all later =
      audio_is_behind_video (map kind (filter keeps xs)) (text_is_behind_audio (map kind (filter keeps xs)) (texts xs all))

  pub kept_in_order : (xs : List X) → are_in_order (map kind xs) ≡ true → are_in_order (map kind (filter keeps xs)) ≡ true
  kept_in_order [] all = refl
  kept_in_order (x ∷ xs) all = video_by (kind x) (keeps x) x xs refl all (kept_in_order xs)

-- ---- so do the first ones

front_text : (n : ℕ) (kinds : List Kind) → are_text kinds ≡ true → are_text (take n kinds) ≡ true
front_text zero kinds all = refl
front_text (suc n) [] all = refl
front_text (suc n) (Text ∷ kinds) all = front_text n kinds all
front_text (suc n) (Audio ∷ kinds) all = absurd (cc)
front_text (suc n) (Video ∷ kinds) all = absurd (cc)

front_audio : (n : ℕ) (kinds : List Kind) → are_audio_then_text kinds ≡ true → are_audio_then_text (take n kinds) ≡ true
front_audio zero kinds all = refl
front_audio (suc n) [] all = refl
front_audio (suc n) (Audio ∷ kinds) all = front_audio n kinds all
front_audio (suc n) (Text ∷ kinds) all = front_text n kinds all
front_audio (suc n) (Video ∷ kinds) all = absurd (cc)

pub front_in_order : (n : ℕ) (kinds : List Kind) → are_in_order kinds ≡ true → are_in_order (take n kinds) ≡ true
front_in_order zero kinds all = refl
front_in_order (suc n) [] all = refl
front_in_order (suc n) (Video ∷ kinds) all = front_in_order n kinds all
front_in_order (suc n) (Audio ∷ kinds) all = front_audio n kinds all
front_in_order (suc n) (Text ∷ kinds) all = front_text n kinds all
