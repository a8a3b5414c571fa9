-- The classes of codecs in a codecs list (RFC 6381, 3.3), by the characters before the first `.`.
use Rattle.std.specs.{Prelude.{ℕ, ◌==◌, List, [], ◌∷◌, codes, if◌then◌else◌}, List.before_first}
use Rattle.bridge_io.specs.Texts.{is_among}
use Rattle.url_parts.specs.{declared.code.CodeClass.CodeClass, declared.code.CodeClass.TheVariants.{Video, Audio, Text, Unknown}}

abbrev pub video_names : List (List ℕ)
video_names =
    codes "avc1" ∷ codes "avc2" ∷ codes "avc3" ∷ codes "avc4" ∷ codes "hev1" ∷ codes "hvc1" ∷ codes "dvh1" ∷
    codes "dvhe" ∷ codes "dvav" ∷ codes "dva1" ∷ codes "av01" ∷ codes "vp08" ∷ codes "vp09" ∷ codes "vvc1" ∷
    codes "vvi1" ∷ codes "mp4v" ∷ []

abbrev pub audio_names : List (List ℕ)
audio_names =
    codes "mp4a" ∷ codes "ac-3" ∷ codes "ec-3" ∷ codes "ac-4" ∷ codes "Opus" ∷ codes "opus" ∷ codes "fLaC" ∷
    codes "flac" ∷ codes "alac" ∷ codes "mha1" ∷ codes "mha2" ∷ codes "mhm1" ∷ codes "mhm2" ∷ codes "dtsc" ∷
    codes "dtse" ∷ codes "dtsh" ∷ codes "dtsl" ∷ codes "dtsx" ∷ codes "dtsy" ∷ []

abbrev pub text_names : List (List ℕ)
text_names = codes "stpp" ∷ codes "wvtt" ∷ []

-- the class of a codec
abbrev pub class_of : List ℕ → CodeClass
class_of code = let name = before_first (λ b. b == 46) code in
    if is_among name video_names then Video else (if is_among name audio_names then Audio
    else (if is_among name text_names then Text else Unknown))
