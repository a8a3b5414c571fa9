-- Labels that a playlist can have as names of renditions (RFC 8216, 4.2 and 4.3.4.1).
use Rattle.std.specs.Prelude.{◌≡◌, ℕ, ◌==◌, ◌&&◌, ◌||◌, nat_lt, nat_le, not, Bool, true, false, List, [], ◌∷◌, length, All, IfSome}
use Rattle.std.specs.{List.{list_any, list_all}, Str.is_utf8}
use Rattle.track_hints.specs.declared.hints.{Hints.Hints, TrackHints.TrackHints}

abbrev pub is_digit : ℕ → Bool
is_digit b = nat_le 48 b && nat_le b 57

-- one or more digits
abbrev pub is_number : List ℕ → Bool
is_number [] = false
is_number (b ∷ bs) = list_all is_digit (b ∷ bs)

-- The text ends in `-` and a number, as a name does that is made of a language and a number.
abbrev pub ends_in_number : List ℕ → Bool
ends_in_number [] = false
ends_in_number (b ∷ bs) = b == 45 && is_number bs || ends_in_number bs

-- the second byte of U+0080 to U+009F
abbrev pub is_high_control : List ℕ → Bool
is_high_control [] = false
is_high_control (b ∷ bs) = nat_le 128 b && nat_le b 159

-- U+0000 to U+001F, or U+007F to U+009F, begins the text
abbrev pub begins_with_control : ℕ → List ℕ → Bool
begins_with_control b bs = nat_lt b 32 || (b == 127 || b == 194 && is_high_control bs)

abbrev pub has_control : List ℕ → Bool
has_control [] = false
has_control (b ∷ bs) = begins_with_control b bs || has_control bs

abbrev pub has_quote : List ℕ → Bool
has_quote text = list_any (λ b. b == 34) text

-- 1 to 255 bytes
abbrev pub is_of_length : List ℕ → Bool
is_of_length text = nat_lt 0 (length text) && nat_le (length text) 255

-- bytes that can be a name, and are none that is made of a language and a number
abbrev pub are_fit : List ℕ → Bool
are_fit text = is_of_length text && (not (has_quote text) && (not (has_control text) && not (ends_in_number text)))

abbrev pub is_fit : List ℕ → Bool
is_fit text = is_utf8 text && are_fit text

-- all labels are fit
abbrev pub HasFitLabel : TrackHints → Type 0
HasFitLabel hints = IfSome hints.label (λ text. is_fit text ≡ true)

abbrev pub AreFit : Hints → Type 0
AreFit hints = All HasFitLabel hints.tracks
