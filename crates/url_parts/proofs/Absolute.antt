-- A reference that begins with `http://` or `https://` needs no base.
use Rattle.std.proofs.Common.{◌≡◌, ℕ, ◌+◌, ◌-◌, ◌≤◌, Bool, true, false, List, [], ◌∷◌, ◌++◌, length, take, drop, Option, Some, None, Ok}
use Rattle.std.proofs.{Common.{sym, refl, ap, ◌∙◌, ⊎_elim, arith, length-append}, lemmas.Bool.{cond-false, cond_both, cases_Bool}}
use Rattle.std.proofs.{lemmas.Bool.and_parts, lemmas.Bool.Decides.Decides-eqb, lemmas.List.{reverse-append, length-reverse}}
use Rattle.std.proofs.{lemmas.List.Elements.All-nil, Math.Seq.take-append-add, lemmas.Slice.Eq.{starts_is, bytes_eq-Decides}}
use Rattle.std.specs.{Prelude.{codes, reverse, nat_eq}, List.{starts_with, prefix_len, suffix_len}}
use Rattle.url.specs.{Input.{is_c0_control_or_space, trim_c0_control_and_space, strip_tabs_and_new_lines, split_once}, Scheme.scheme_len}
use Rattle.url.specs.{Parts.Parts, Parser.{and_then, with_tail, before_tail, leading_slashes, skip_slashes, after_double_slash}}
use Rattle.url.specs.Parser.{parse_relative, parse_body, parse_parts, split_scheme, base_for_scheme, parse_by_scheme, parse_url, Parsed}
use Rattle.url.proofs.InputLemmas.{StopsAt, prefix_len_at, is_empty_nonempty}
use Rattle.url_parts.specs.{Addresses.is_web, Laws.NeedsNoBase}
use Rattle.url_parts.proofs.Bases.{kind_of_web}

-- a run of bytes that pass a test ends at one that fails
prefix_len_below : (p : ℕ → Bool) (xs : List ℕ) (x : ℕ) (ys : List ℕ) → p x ≡ false → prefix_len p (xs ++ x ∷ ys) ≤ length xs
prefix_len_below p [] x ys fails = rw fails (omega arith)
prefix_len_below p (z ∷ xs) x ys fails =
    let later = prefix_len_below p xs x ys fails in
    cond_both (p z) (1 + prefix_len p (xs ++ x ∷ ys)) 0 (λ n. n ≤ length (z ∷ xs)) (λ _. omega arith) (λ _. omega arith)

-- a front that begins visibly and ends at a slash stays when the text is trimmed
trimmed : (front before rest : List ℕ) → StopsAt is_c0_control_or_space (front ++ rest) → reverse front ≡ 47 ∷ before
    → (kept : List ℕ) × (trim_c0_control_and_space (front ++ rest) ≡ front ++ kept)
unfolding trim_c0_control_and_space
trimmed front before rest visible ends =
    let text : List ℕ = front ++ rest in
    let start = prefix_len_at is_c0_control_or_space [] text (All-nil _) visible in
    let turned = reverse-append front rest ∙ ap (λ t. reverse rest ++ t) ends in
    let below : suffix_len is_c0_control_or_space text ≤ length (reverse rest) =
    rw turned (prefix_len_below is_c0_control_or_space (reverse rest) 47 before refl) in
    let kept : ℕ = length rest - suffix_len is_c0_control_or_space text in
    let cut : length text - suffix_len is_c0_control_or_space text ≡ length front + kept =
    omega (arith, below, length-reverse rest, length-append front rest) in
    (take kept rest, rw start (ap (λ n. take n text) cut ∙ take-append-add front rest kept))

-- ---- the base

-- a base that counts has the scheme
abbrev Fits : List ℕ → Option Parts → Type 0
Fits scheme None = Unit {0}
Fits scheme (Some base) = base.scheme ≡ scheme

base_fits : (base : Option Parts) (scheme : List ℕ) → Fits scheme (base_for_scheme base scheme)
base_fits None scheme = tt
base_fits (Some base) scheme =
    cond_both _ (Some base) None (Fits scheme) (λ both. (bytes_eq-Decides base.scheme scheme).0 (and_parts _ _ both).1) (λ _. tt)

-- behind two slashes the base isn't read
body_alone : (scheme : List ℕ) (base : Option Parts) (rest : List ℕ) → is_web scheme ≡ true → Fits scheme base
    → parse_body scheme base (47 ∷ 47 ∷ rest) ≡ after_double_slash scheme (skip_slashes (47 ∷ 47 ∷ rest))
unfolding parse_body parse_relative leading_slashes
body_alone scheme None rest web fits = let kind = kind_of_web scheme web in rw kind refl
body_alone scheme (Some base) rest web fits = let kind = kind_of_web scheme web in rw (kind, fits, kind) refl

-- so that such a body is read alike with it and without it
parts_alone : (scheme : List ℕ) (base : Option Parts) (rest : List ℕ) (query fragment : Option (List ℕ)) → is_web scheme ≡ true
    → Fits scheme base → parse_parts scheme base (47 ∷ 47 ∷ rest) query fragment ≡ parse_parts scheme None (47 ∷ 47 ∷ rest) query fragment
unfolding parse_parts
parts_alone scheme None rest query fragment web fits = refl
parts_alone scheme (Some base) rest query fragment web fits =
    cond-false _ _ _ (is_empty_nonempty (47 ∷ 47 ∷ rest) (omega arith))
    ∙ ap (λ r. and_then r (λ url. Ok (with_tail (before_tail url query fragment) query fragment)))
    (body_alone scheme (Some base) rest web fits ∙ sym (body_alone scheme None rest web tt))

-- ---- the text

-- a text that was trimmed, read against a base
abbrev read : Option Parts → List ℕ → Parsed Parts
read base text =
    let hash = split_once 35 (strip_tabs_and_new_lines text) in
    let question = split_once 63 hash.0 in
    parse_by_scheme (split_scheme question.0) base question.0 question.1 hash.1

-- so that it is trimmed alike too
front_alone : (front before rest : List ℕ) (base : Option Parts) → StopsAt is_c0_control_or_space (front ++ rest)
    → reverse front ≡ 47 ∷ before → ((kept : List ℕ) → read base (front ++ kept) ≡ read None (front ++ kept))
    → parse_url base (front ++ rest) ≡ parse_url None (front ++ rest)
unfolding parse_url
front_alone front before rest base visible ends alone =
    let kept = trimmed front before rest visible ends in
    ap (read base) kept.1 ∙ alone kept.0 ∙ sym (ap (read None) kept.1)

http_alone : (base : Option Parts) (rest : List ℕ) → read base (codes "http://" ++ rest) ≡ read None (codes "http://" ++ rest)
unfolding strip_tabs_and_new_lines split_once split_scheme scheme_len
http_alone base rest = parts_alone (codes "http") (base_for_scheme base (codes "http")) _ _ _ refl (base_fits base (codes "http"))

https_alone : (base : Option Parts) (rest : List ℕ) → read base (codes "https://" ++ rest) ≡ read None (codes "https://" ++ rest)
unfolding strip_tabs_and_new_lines split_once split_scheme scheme_len
https_alone base rest = parts_alone (codes "https") (base_for_scheme base (codes "https")) _ _ _ refl (base_fits base (codes "https"))

begins : (text front : List ℕ) → starts_with nat_eq text front ≡ true → text ≡ front ++ drop (length front) text
begins text front is = (starts_is Decides-eqb text front (starts_with nat_eq text front) refl).0 is

-- a reference with a scheme of the web and two slashes is read alike with any base and without one
pub needs_no_base : (reference : List ℕ) → NeedsNoBase reference
needs_no_base reference absolute base =
    ⊎_elim
    (λ http. rw (begins reference (codes "http://") http) (front_alone (codes "http://") _ _ (Some base) refl refl
    (http_alone (Some base))))
    (λ other. rw (begins reference (codes "https://") (rw other at absolute))
    (front_alone (codes "https://") _ _ (Some base) refl refl (https_alone (Some base))))
    (cases_Bool (starts_with nat_eq reference (codes "http://")))
