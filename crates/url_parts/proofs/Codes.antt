-- The class of a code by the tables that its name stands in.
use Rattle.std.proofs.Common.{◌≡◌, ℕ, ◌==◌, Bool, true, false, ◌||◌, List, [], ◌∷◌, bytes_eq, refl, sym, ◌∙◌, ap}
use Rattle.std.specs.List.{before_first, list_any}
use Rattle.bridge_io.specs.Texts.{is_among}
use Rattle.bridge_io.proofs.Texts.{bytes_eq_sym}
use Rattle.url_parts.specs.declared.code.CodeClass.TheVariants.{Video, Audio, Text, Unknown}
use Rattle.url_parts.specs.Codes.{audio_names, class_of, text_names, video_names}

flipped : (name : List ℕ) (names : List (List ℕ)) → is_among name names ≡ list_any (λ listed. bytes_eq listed name) names
flipped name [] = refl
flipped name (listed ∷ names) = ap (λ b. b || is_among name names) (bytes_eq_sym name listed)
    ∙ ap (λ b. bytes_eq listed name || b) (flipped name names)

abbrev Tells : Bool → Bool → List ℕ → List (List ℕ) → Type 0
Tells result is name names = (result ≡ list_any (λ listed. bytes_eq listed name) names) × (result ≡ is)

stands : (result is : Bool) (name : List ℕ) (names : List (List ℕ)) → Tells result is name names → is_among name names ≡ is
stands result is name names tells = flipped name names ∙ sym tells.0 ∙ tells.1

module _ (code name : List ℕ) (named : name ≡ before_first (λ b. b == 46) code) (v : Bool) where
  pub is_video : Tells v true name video_names → Video ≡ class_of code
  is_video video = rw (← named, stands v true name video_names video) refl

  module _ (a : Bool) (no_video : Tells v false name video_names) where
    pub is_audio : Tells a true name audio_names → Audio ≡ class_of code
    is_audio audio = rw (← named, stands v false name video_names no_video, stands a true name audio_names audio) refl

    module _ (t : Bool) (no_audio : Tells a false name audio_names) where
      pub is_text : Tells t true name text_names → Text ≡ class_of code
      is_text text =
          rw (
            ← named,
            stands v false name video_names no_video,
            stands a false name audio_names no_audio,
            stands t true name text_names text,
          ) refl

      pub is_unknown : Tells t false name text_names → Unknown ≡ class_of code
      is_unknown no_text =
          rw (
            ← named,
            stands v false name video_names no_video,
            stands a false name audio_names no_audio,
            stands t false name text_names no_text,
          ) refl
