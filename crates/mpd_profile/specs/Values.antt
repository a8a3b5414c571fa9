-- Values of attributes, as XML Schema part 2 and ISO/IEC 23009-1 write them.
use Rattle.std.specs.Prelude.{ℕ, ◌^◌, ◌&&◌, ◌||◌, ◌==◌, nat_le, not, Bool, true, List, length, codes, bytes_eq, is_some, is_ok}
use Rattle.std.specs.{Char.is_ascii_digit, List.list_all}
use Rattle.iso_time.specs.{Duration.duration_of, Instant.instant_of}
use Rattle.url_parts.specs.Ranges.{range_of}
use Rattle.mpd_values.specs.{declared.blank.Blank.TheVariants.Space, Blanks.trimmed, Numbers.{number_between, signed_64_of}}
use Rattle.mpd_values.specs.{FrameRates.frame_rate_between, Codecs.are_read_codes, Languages.is_language}
use Rattle.mpd_profile.specs.{declared.value.Value.Value, declared.value.Value.TheVariants.{MpdType, Instant, Duration, AnyText, Number}}
use Rattle.mpd_profile.specs.declared.value.Value.TheVariants.{Signed, FrameRate, Codes, Language, Range}

-- numbers below 10^18 are all within bounds
abbrev pub has_room : (least bound : ℕ) → Bool
has_room least bound = least == 0 && nat_le (10 ^ 18) bound

-- a text that writes such a number
abbrev pub are_few_digits : List ℕ → Bool
are_few_digits text = list_all is_ascii_digit text && (not (length text == 0) && nat_le (length text) 18)

-- a text is a valid value of a type; spaces around durations, timestamps, numbers and ranges are dropped
unfoldable pub is_value : Value → List ℕ → Bool
is_value MpdType text = bytes_eq text (codes "static") || bytes_eq text (codes "dynamic")
is_value Instant text = is_ok (instant_of (trimmed Space text))
is_value Duration text = is_ok (duration_of (trimmed Space text))
is_value AnyText text = true
is_value (Number least bound) text = is_some (number_between least bound text)
is_value Signed text = is_some (signed_64_of text)
is_value FrameRate text = is_some (frame_rate_between text)
is_value Codes text = are_read_codes text
is_value Language text = is_language text
is_value Range text = is_some (range_of (trimmed Space text))
