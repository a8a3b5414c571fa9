-- How many decimals a written duration has.
use Rattle.std.proofs.Common.{◌≡◌, ℕ, ◌/◌, ◌≤◌, ◌^◌, length, unwrap_or, true, false, List, [], ◌∷◌, ◌++◌}
use Rattle.std.proofs.Common.{codes, Option, refl, arith}
use Rattle.std.proofs.{Common.{sym, ◌∙◌, ap}, lemmas.List.Folds.list_any-append}
use Rattle.std.specs.{Prelude.decimal, Char.is_ascii_digit, List.{list_all, list_any}}
use Rattle.iso_time.specs.Digits.{padded_digits}
use Rattle.iso_time.proofs.PaddedLemmas.{AreDigits-padded_digits}
use Rattle.hls_lines.proofs.AttributeTexts.{parts_there}
use Rattle.hls_media.specs.Values.{before_title, decimal_parts, is_comma, is_point}
use Rattle.hls_writer.specs.Lines.{seconds_bytes}
use Rattle.followed_text.specs.Followed.{decimals}
use Rattle.laws_of_playlists.specs.ReadMedia.{IsShortDuration}
use Rattle.laws_of_playlists.proofs.Values.{digits_all}
use Rattle.laws_of_taken_playlists.proofs.Parts.{all_digits, no_comma, no_point, none}

module _ (digits units : ℕ) (few : digits ≤ 9) (short : IsShortDuration digits units) where
  abbrev whole : List ℕ
  whole = decimal (units / 10 ^ digits)

  whole_digits : list_all is_ascii_digit whole ≡ true
  whole_digits = all_digits (units / 10 ^ digits) (omega arith)

  padded_all : list_all is_ascii_digit (padded_digits digits units) ≡ true
  padded_all = sym (digits_all (padded_digits digits units)) ∙ (AreDigits-padded_digits digits units).ascii

  untitled : before_title (seconds_bytes digits units ++ 44 ∷ []) ≡ seconds_bytes digits units
  untitled =
      let free : list_any is_comma (whole ++ 46 ∷ padded_digits digits units) ≡ false =
      list_any-append is_comma whole (46 ∷ padded_digits digits units)
      ∙ rw (none is_ascii_digit is_comma no_comma whole whole_digits)
      (none is_ascii_digit is_comma no_comma (padded_digits digits units) padded_all) in
      ap (λ (o : Option (List ℕ × List ℕ)). (unwrap_or o (seconds_bytes digits units ++ 44 ∷ [], [])).0)
      (parts_there is_comma (seconds_bytes digits units) [] 44 free refl)

  in_parts : decimal_parts (seconds_bytes digits units) ≡ (whole, padded_digits digits units)
  in_parts = ap (λ (o : Option (List ℕ × List ℕ)). unwrap_or o (seconds_bytes digits units, []))
      (parts_there is_point whole (padded_digits digits units) 46 (none is_ascii_digit is_point no_point whole whole_digits) refl)

  -- as many decimals are read as are written
  pub decimals_are : decimals (seconds_bytes digits units ++ codes ",") ≡ digits
  decimals_are =
      let size = AreDigits-padded_digits digits units in
      ap (λ (t : List ℕ). length (decimal_parts t).1) untitled ∙ ap (λ (parts : List ℕ × List ℕ). length parts.1) in_parts
      ∙ omega (arith, size.enough, size.few)
