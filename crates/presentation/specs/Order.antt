-- The order of tracks: video, then audio, then text; and when two have the same language.
use Rattle.std.specs.{Prelude.{ℕ, Bool, true, false, List, ◌++◌, filter, bytes_eq, Option}, Option.option_eq}
use Rattle.bridge_io.specs.{declared.media.Kind.Kind, declared.media.Kind.TheVariants.{Video, Audio, Text}}

abbrev pub is_of : Kind → Kind → Bool
is_of Video Video = true
is_of Video Audio = false
is_of Video Text = false
is_of Audio Video = false
is_of Audio Audio = true
is_of Audio Text = false
is_of Text Video = false
is_of Text Audio = false
is_of Text Text = true

abbrev pub by_kind : {X : Type 0} → (X → Kind) → List X → List X
by_kind kind xs = filter (λ x. is_of Video (kind x)) xs ++ (filter (λ x. is_of Audio (kind x)) xs ++ filter (λ x. is_of Text (kind x)) xs)

abbrev pub same_language : Option (List ℕ) → Option (List ℕ) → Bool
same_language one other = option_eq bytes_eq one other
