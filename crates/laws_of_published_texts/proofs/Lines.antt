-- Which lines a written playlist has.
pub use Rattle.laws_of_taken_playlists.proofs.Whole.{written}
use Rattle.std.proofs.Common.{◌≡◌, ℕ, zero, suc, ◌/◌, ◌%◌, ◌<◌, false, true, List, [], ◌∷◌, ◌++◌, None, Ok, refl, arith}
use Rattle.std.proofs.Common.{inl, inr, eqb, subst}
use Rattle.std.proofs.{lemmas.Bool.{cases_Bool, lt-ltb}, lemmas.Bool.Decides.nat_tests, lemmas.List.Elements.{All-append, All-cons}}
use Rattle.std.specs.{Fmt.{digit_glyph, digits, digits_onto}, Prelude.decimal, Char.is_ascii_digit, List.{All, list_all}}
use Rattle.hls_lines.specs.Lines.{lines_of, start}
use Rattle.hls_writer.specs.Lines.{version, target_duration, media_sequence, discontinuity_sequence, line_bytes}
use Rattle.hls_writer.specs.Playlists.{Head, Item, end_lines, followed_text, items_lines}
use Rattle.laws_of_playlists.specs.{ReadLines.{IsReadable, said_from_place}, ReadMedia.{IsReadableItem, IsShortNumber}}
use Rattle.laws_of_playlists.proofs.Readable.{end_lines_readable, is_visible, items_readable, readable, sequence_readable, target_readable}
use Rattle.url_parts.proofs.Spellings.{stands_alone}
use Rattle.hls_writer.proofs.Spelled.{plain_items}
use Rattle.laws_of_playlists.proofs.{Readable.version_readable, WrittenLines.{weaker, written_are_read}}

glyph : (d : ℕ) → d < 10 → is_ascii_digit (digit_glyph false d) ≡ true
glyph d low = rw (lt-ltb d 10 low) (grind (arith, nat_tests))

digits_before : (k n : ℕ) (more : List ℕ) → list_all is_ascii_digit more ≡ true
    → list_all is_ascii_digit (digits_onto k 10 false n more) ≡ true
digits_before zero n more all = all
digits_before (suc k) n more all =
    let own = glyph (n % 10) (omega arith) in
    elim (cases_Bool (eqb (n / 10) 0)) [
      | inl last ↦ rw (last, own) all
      | inr others ↦ rw others (digits_before k (n / 10) (digit_glyph false (n % 10) ∷ more) (rw own all))
    ]

digit_visible : (b : ℕ) → is_ascii_digit b ≡ true → is_visible b ≡ true
digit_visible b digit = grind (arith, nat_tests)

-- whatever the number is
section_readable : (n : ℕ) → IsReadable (discontinuity_sequence n)
unfolding line_bytes digits
section_readable n = readable (discontinuity_sequence n)
    (weaker is_ascii_digit is_visible digit_visible (decimal n) (digits_before 64 n [] refl)) tt

pub lines_are : (head : Head) (items : List Item) → IsShortNumber head.target → IsShortNumber head.sequence
    → All (IsReadableItem head.digits) items → lines_of (followed_text head items) ≡ Ok (said_from_place start (written head items))
unfolding followed_text
lines_are head items target sequence all =
    let body = items_lines head.digits None items ++ end_lines head.ended in
    let from_kind = discontinuity_sequence head.first_section ∷ body in
    let from_sequence = media_sequence head.sequence ∷ from_kind in
    let from_target = target_duration head.target ∷ from_sequence in
    written_are_read (version 6 ∷ from_target) (All-cons IsReadable (version 6) from_target (version_readable 6 (omega arith))
    (All-cons IsReadable (target_duration head.target) from_sequence (target_readable head.target target)
    (All-cons IsReadable (media_sequence head.sequence) from_kind (sequence_readable head.sequence sequence)
    (All-cons IsReadable (discontinuity_sequence head.first_section) body (section_readable head.first_section)
    (All-append IsReadable (items_lines head.digits None items) (end_lines head.ended)
    (subst (λ (written : List Item). All IsReadable (items_lines head.digits None written)) (plain_items items)
    (items_readable None [] (stands_alone []) head.digits None items all))
    (end_lines_readable head.ended))))))
