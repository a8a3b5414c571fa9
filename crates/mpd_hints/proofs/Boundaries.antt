-- Blanks are ASCII, so a text may be cut beside them.
use Rattle.std.proofs.Common.{◌≡◌, ℕ, ◌+◌, ◌-◌, ◌<◌, true, List, length, get_or, reverse, arith, IsUtf8, IsCharBoundary}
use Rattle.std.proofs.{lemmas.Bool.Decides.nat_tests, lemmas.List.get_or-reverse, lemmas.List.Sums.prefix_len_passes}
use Rattle.std.proofs.{lemmas.List.Sums.{prefix_len-le-length, suffix_len-le-length}, lemmas.Str.IsCharBoundary-after_ascii}
use Rattle.std.proofs.lemmas.Str.{IsCharBoundary-before_ascii}
use Rattle.std.specs.List.{prefix_len, suffix_len}
use Rattle.mpd_hints.specs.Labels.{is_blank}

is_blank-ascii : (b : ℕ) → is_blank b ≡ true → b < 128
is_blank-ascii b h = grind (arith, nat_tests)

pub behind_front : (text : List ℕ) (n : ℕ) → n ≡ prefix_len is_blank text → 0 < n → IsUtf8 text → IsCharBoundary text n
behind_front text n is above utf8 =
    let within = prefix_len-le-length is_blank text in
    let ascii = is_blank-ascii (get_or text (n - 1) 0) (prefix_len_passes is_blank text (n - 1) 0 (omega arith)) in
    let same : (n - 1) + 1 ≡ n = omega arith in
    rw same at (IsCharBoundary-after_ascii text (n - 1) utf8 (omega arith) ascii)

pub before_end : (text : List ℕ) (n : ℕ) → n ≡ suffix_len is_blank text → 0 < n → IsCharBoundary text (length text - n)
before_end text n is above =
    let within = suffix_len-le-length is_blank text in
    let passes = prefix_len_passes is_blank (reverse text) (n - 1) 0 (omega arith) in
    let ascii = is_blank-ascii (get_or (reverse text) (n - 1) 0) passes in
    let same : length text - 1 - (n - 1) ≡ length text - n = omega arith in
    let here = rw same at (get_or-reverse text (n - 1) 0 (omega arith)) in
    IsCharBoundary-before_ascii text (length text - n) (omega arith) (rw (← here) ascii)
