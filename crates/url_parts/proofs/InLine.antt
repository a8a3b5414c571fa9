-- Tabs and line ends of a reference take no part in the URL.
use Rattle.std.proofs.Common.{◌≡◌, ℕ, ◌+◌, ◌-◌, Bool, true, false, List, [], ◌∷◌, ◌++◌, length, take, drop, not, Option, Some, None}
use Rattle.std.proofs.Common.{one-add}
use Rattle.std.proofs.Common.{sym, refl, ap, ◌∙◌, ⊎_elim, take_at, take-append-drop, append-nil, length-drop, ◌<◌, get_or, arith}
use Rattle.std.proofs.{lemmas.Bool.{cases_Bool, cond-true, cond-false, true≢false}, lemmas.Bool.Decides.nat_tests}
use Rattle.std.proofs.{lemmas.List.{reverse-append, reverse-reverse, length-reverse, take_more}, lemmas.List.Elements.filter-append}
use Rattle.std.specs.{Prelude.{filter, reverse}, List.prefix_len}
use Rattle.url.specs.Input.{is_c0_control_or_space, is_tab_or_new_line, trim_start, trim_end, trim_c0_control_and_space}
use Rattle.url.specs.Input.{strip_tabs_and_new_lines}
use Rattle.url.specs.{Input.split_once, Parser.{parse_url, split_scheme, parse_by_scheme}, Parts.Parts}
use Rattle.url_parts.specs.{Alike.IsInLineAs, Addresses.{resolve, absolute, accepted, is_absolute, url_of}}
use Rattle.url_parts.proofs.Absolute.{needs_no_base}

-- ---- a trimmed text without some bytes that are trimmed

module _ (p q : ℕ → Bool) (trims : (b : ℕ) → q b ≡ false → p b ≡ true) where
  trim_one : (b : ℕ) (xs : List ℕ) → p b ≡ true → trim_start p (b ∷ xs) ≡ trim_start p xs
  trim_one b xs passes = rw (passes, one-add) refl

  trim_none : (b : ℕ) (xs : List ℕ) → p b ≡ false → trim_start p (b ∷ xs) ≡ b ∷ xs
  trim_none b xs fails = rw fails refl

  start : (xs : List ℕ) → filter q (trim_start p xs) ≡ trim_start p (filter q xs)
  start [] = refl
  start (b ∷ xs) =
      ⊎_elim
      (λ passes. ap (filter q) (trim_one b xs passes) ∙ start xs ∙ ⊎_elim
      (λ kept. sym (ap (trim_start p) (cond-true _ _ _ kept) ∙ trim_one b (filter q xs) passes))
      (λ gone. sym (ap (trim_start p) (cond-false _ _ _ gone))) (cases_Bool (q b)))
      (λ fails. let kept : q b ≡ true = ⊎_elim (λ k. k) (λ gone. absurd (true≢false (sym (trims b gone) ∙ fails))) (cases_Bool (q b)) in
      ap (filter q) (trim_none b xs fails) ∙ cond-true _ _ _ kept
      ∙ sym (ap (trim_start p) (cond-true _ _ _ kept) ∙ trim_none b (filter q xs) fails))
      (cases_Bool (p b))

  turned : (xs : List ℕ) → filter q (reverse xs) ≡ reverse (filter q xs)
  turned [] = refl
  turned (b ∷ xs) =
      ap (filter q) (reverse-append (b ∷ []) xs) ∙ filter-append q (reverse xs) (b ∷ []) ∙ ap (λ t. t ++ filter q (b ∷ [])) (turned xs)
      ∙ ⊎_elim
      (λ kept. ap (λ t. reverse (filter q xs) ++ t) (cond-true _ _ _ kept) ∙ sym (ap reverse (cond-true _ _ _ kept)
      ∙ reverse-append (b ∷ []) (filter q xs)))
      (λ gone. ap (λ t. reverse (filter q xs) ++ t) (cond-false _ _ _ gone) ∙ append-nil (reverse (filter q xs))
      ∙ sym (ap reverse (cond-false _ _ _ gone)))
      (cases_Bool (q b))

  end_by_start : (xs : List ℕ) → trim_end p xs ≡ reverse (trim_start p (reverse xs))
  end_by_start xs =
      let n : ℕ = prefix_len p (reverse xs) in
      let kept : List ℕ = reverse (drop n (reverse xs)) in
      let gone : List ℕ = reverse (take n (reverse xs)) in
      let whole : xs ≡ kept ++ gone = sym (sym (reverse-append (take n (reverse xs)) (drop n (reverse xs)))
      ∙ ap reverse (take-append-drop n (reverse xs)) ∙ reverse-reverse xs) in
      let len : length kept ≡ length xs - n = omega (
        arith,
        length-reverse xs,
        length-reverse (drop n (reverse xs)),
        length-drop n (reverse xs),
      ) in
      ap (take (length xs - n)) whole ∙ take_at kept gone (length xs - n) len

  end : (xs : List ℕ) → filter q (trim_end p xs) ≡ trim_end p (filter q xs)
  end xs =
      ap (filter q) (end_by_start xs) ∙ turned (trim_start p (reverse xs)) ∙ ap reverse (start (reverse xs)
      ∙ ap (trim_start p) (turned xs)) ∙ sym (end_by_start (filter q xs))

  pub ends : (xs : List ℕ) → filter q (trim_end p (trim_start p xs)) ≡ trim_end p (trim_start p (filter q xs))
  ends xs = end (trim_start p xs) ∙ ap (trim_end p) (start xs)

stripped_trimmed : (text : List ℕ) → strip_tabs_and_new_lines (trim_c0_control_and_space text)
    ≡ trim_c0_control_and_space (strip_tabs_and_new_lines text)
unfolding strip_tabs_and_new_lines trim_c0_control_and_space
stripped_trimmed text = ends is_c0_control_or_space (λ b. not (is_tab_or_new_line b)) (λ b line. grind (arith, nat_tests)) text

-- ---- references

parsed_alike : (base : Option Parts) (text other : List ℕ) → IsInLineAs text other → parse_url base text ≡ parse_url base other
unfolding parse_url
parsed_alike base text other same =
    let clean = stripped_trimmed text ∙ ap trim_c0_control_and_space same ∙ sym (stripped_trimmed other) in
    ap (λ t. let hash = split_once 35 t in let question = split_once 63 hash.0 in
    parse_by_scheme (split_scheme question.0) base question.0 question.1 hash.1) clean

pub absolute_alone : (base : Option Parts) (reference : List ℕ) → is_absolute reference ≡ true
    → parse_url base reference ≡ parse_url None reference
absolute_alone None reference web = refl
absolute_alone (Some base) reference web = needs_no_base reference web base

-- what a reference gives is what the URL Standard reads against the base
pub resolve_by_parse : (base reference : List ℕ) → resolve base reference ≡ accepted (parse_url (url_of base) reference)
unfolding resolve absolute
resolve_by_parse base reference =
    ⊎_elim
    (λ web. cond-true _ _ _ web ∙ ap accepted (sym (absolute_alone (url_of base) reference web)))
    (λ other. cond-false _ _ _ other)
    (cases_Bool (is_absolute reference))

pub resolve_in_line : (base text other : List ℕ) → IsInLineAs text other → resolve base text ≡ resolve base other
resolve_in_line base text other same =
    resolve_by_parse base text ∙ ap accepted (parsed_alike (url_of base) text other same) ∙ sym (resolve_by_parse base other)

-- ---- a text that is made byte by byte

pub in_line_both : (a b c d : List ℕ) → IsInLineAs a b → IsInLineAs c d → IsInLineAs (a ++ c) (b ++ d)
unfolding strip_tabs_and_new_lines
in_line_both a b c d first next =
    let q = λ (b : ℕ). not (is_tab_or_new_line b) in
    filter-append q a c ∙ (λ i. first i ++ next i) ∙ sym (filter-append q b d)

pub in_line_step : (bytes kept next : List ℕ) (i : ℕ) → i < length bytes → IsInLineAs (take i bytes) kept
    → IsInLineAs (kept ++ get_or bytes i 0 ∷ []) next → IsInLineAs (take (i + 1) bytes) next
in_line_step bytes kept next i inside so_far step =
    ap strip_tabs_and_new_lines (take_more bytes i 0 inside)
    ∙ in_line_both (take i bytes) kept (get_or bytes i 0 ∷ []) (get_or bytes i 0 ∷ []) so_far refl ∙ step

pub in_line_dropped : (kept : List ℕ) (b : ℕ) → is_tab_or_new_line b ≡ true → IsInLineAs (kept ++ b ∷ []) kept
unfolding strip_tabs_and_new_lines
in_line_dropped kept b line =
    let q = λ (b : ℕ). not (is_tab_or_new_line b) in
    filter-append q kept (b ∷ []) ∙ ap (λ t. filter q kept ++ t) (cond-false _ _ _ (ap not line)) ∙ append-nil (filter q kept)
