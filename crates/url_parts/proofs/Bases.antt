-- Bases, seen as their URLs.
use Rattle.std.proofs.Common.{◌≡◌, ℕ, ◌-◌, ◌≤◌, ◌==◌, take, drop, take_at, length-append, true, not, List, ◌++◌, Option, Some, None, Ok}
use Rattle.std.proofs.{Common.{sym, refl, ap, ◌∙◌, subst, ⊎_elim, arith}, lemmas.List.{append_assoc, take-append-drop}}
use Rattle.std.proofs.{lemmas.Bool.{cases_Bool, cond-true}, lemmas.Slice.Eq.bytes_eq-Decides}
use Rattle.std.specs.{Prelude.{codes, bytes_eq, length}, List.{list_all, position_or_len, suffix_len}, Result.result_ok}
use Rattle.url.specs.{declared.scheme.SchemeType.TheVariants.SpecialNotFile, Scheme.{scheme_type, default_port, is_special}}
use Rattle.url.specs.{Parser.parse_url, Parts.{Parts, kind_of, IsValid}}
use Rattle.url.proofs.{ValidLemmas.special_has_authority, Theorems.parse_url-serialize_special}
use Rattle.url_parts.specs.Addresses.{is_address_byte, is_web, text_of, accepted_url, accepted, absolute, is_absolute, url_of, resolve}
use Rattle.url_parts.specs.Addresses.{is_tail, without_tail, folder_of, IsAddress, IsBase, IsBaseUrl}

-- what holds of both schemes holds of each web scheme
pub at_web : (P : List ℕ → Type 0) (scheme : List ℕ) → is_web scheme ≡ true → P (codes "http") → P (codes "https") → P scheme
at_web P scheme web http https =
    ⊎_elim (λ e. subst P (sym ((bytes_eq-Decides scheme (codes "http")).0 e)) http)
    (λ e. subst P (sym ((bytes_eq-Decides scheme (codes "https")).0 (rw e at web))) https)
    (cases_Bool (bytes_eq scheme (codes "http")))

-- http and https are special
pub kind_of_web : (scheme : List ℕ) → is_web scheme ≡ true → scheme_type scheme ≡ SpecialNotFile
unfolding scheme_type default_port
kind_of_web scheme web = at_web (λ s. scheme_type s ≡ SpecialNotFile) scheme web refl refl

-- an accepted URL has a web scheme
pub web_from_accepted : (url : Parts) (text : List ℕ) → accepted_url url ≡ Ok text → is_web url.scheme ≡ true
web_from_accepted url text accepted = grind arith

pub bytes_from_accepted : (url : Parts) (text : List ℕ) → accepted_url url ≡ Ok text → list_all is_address_byte (text_of url) ≡ true
bytes_from_accepted url text accepted = grind arith

pub base_kind : (url : Parts) → IsBaseUrl url → kind_of url ≡ SpecialNotFile
base_kind url is = kind_of_web url.scheme (web_from_accepted url _ is.accepted)

-- the text of a web URL is read as that URL, with any base
pub parse_web_text : (url : Parts) (base : Option Parts) → IsValid url → is_web url.scheme ≡ true → parse_url base (text_of url) ≡ Ok url
unfolding text_of
parse_web_text url base valid web = parse_url-serialize_special url base valid (kind_of_web url.scheme web)

pub parse_own_text : (url : Parts) (base : Option Parts) → IsBaseUrl url → parse_url base (text_of url) ≡ Ok url
parse_own_text url base is = parse_web_text url base is.valid (web_from_accepted url _ is.accepted)

pub own_url : (url : Parts) → IsBaseUrl url → url_of (text_of url) ≡ Some url
own_url url is = ap result_ok (parse_own_text url None is)

begins_web : (scheme rest : List ℕ) → is_web scheme ≡ true → is_absolute (scheme ++ (codes "://" ++ rest)) ≡ true
begins_web scheme rest web = at_web (λ s. is_absolute (s ++ (codes "://" ++ rest)) ≡ true) scheme web refl refl

own_text_is_absolute : (url : Parts) → IsValid url → is_web url.scheme ≡ true → is_absolute (text_of url) ≡ true
unfolding text_of
own_text_is_absolute url valid web =
    let authority = special_has_authority url valid.head (ap is_special (kind_of_web url.scheme web)) in
    rw authority (begins_web url.scheme _ web)

-- the text of a web URL is resolved to itself, unless it is no address
pub resolve_web_text : (url : Parts) (base : List ℕ) → IsValid url → is_web url.scheme ≡ true
    → resolve base (text_of url) ≡ accepted_url url
unfolding resolve absolute
resolve_web_text url base valid web = cond-true _ _ _ (own_text_is_absolute url valid web) ∙ ap accepted (parse_web_text url None valid web)

pub base_is_address : (url : Parts) → IsBaseUrl url → IsAddress (text_of url)
unfolding absolute
base_is_address url is = record {
  web = own_text_is_absolute url is.valid (web_from_accepted url _ is.accepted);
  normal = rw (parse_own_text url None is) is.accepted;
}

pub IsBase-address : (text : List ℕ) → IsBase text → IsAddress text
IsBase-address text base = subst IsAddress base.spelled (base_is_address base.url base.is)

-- a folder's text is the front of the text
pub folder_front : (text : List ℕ) → (rest : List ℕ) × (text ≡ folder_of text ++ rest)
unfolding folder_of
folder_front text =
    let path : List ℕ = without_tail text in
    let m : ℕ = position_or_len is_tail text in
    let n : ℕ = length path - suffix_len (λ b. not (b == 47)) path in (
      drop n path ++ drop m text,
      sym (sym (append_assoc (take n path) (drop n path) (drop m text))
          ∙ ap (λ t. t ++ drop m text) (take-append-drop n path) ∙ take-append-drop m text),
    )

pub folder_of-take : (text : List ℕ) → take (length (folder_of text)) text ≡ folder_of text
folder_of-take text = let front = folder_front text in
    subst (λ t. take (length (folder_of text)) t ≡ folder_of text) (sym front.1) (take_at (folder_of text) front.0 _ refl)

pub length-folder_of : (text : List ℕ) → length (folder_of text) ≤ length text
length-folder_of text = let front = folder_front text in omega (arith, ap length front.1, length-append (folder_of text) front.0)
