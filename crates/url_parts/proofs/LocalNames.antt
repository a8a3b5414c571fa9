-- A name that is found under a folder's text, as a reference.
use Rattle.std.proofs.Common.{◌≡◌, ℕ, ◌+◌, ◌≤◌, Bool, true, false, not, cond, List, [], ◌∷◌, ◌++◌, length, take, drop, length-take, Some}
use Rattle.std.proofs.{Common.{None, Ok, Err, refl, sym, ap, ◌∙◌, arith}, Math.Seq.take-append-add, lemmas.Bool.Decides.Decides-eqb}
use Rattle.std.proofs.{lemmas.Bool.Decides.nat_tests, lemmas.Slice.Eq.starts_is}
use Rattle.std.specs.{Prelude.nat_eq, List.{position_or_len, starts_with}}
use Rattle.url.specs.{Parts.Parts, Parser.{Parsed, parse_url}}
use Rattle.bridge_io.specs.Names.{is_name}
use Rattle.url_parts.specs.Addresses.{accepted_url, accepted, absolute, resolve, IsAddress, IsBase, is_tail, without_tail, folder_of}
use Rattle.url_parts.specs.Addresses.{unless_long, local_name_of}
use Rattle.url_parts.proofs.Relative.{resolve_name}

-- the first tail byte behind a front without one
position_or_len-append : (front rest : List ℕ) → length front ≤ position_or_len is_tail front
    → position_or_len is_tail (front ++ rest) ≡ length front + position_or_len is_tail rest
position_or_len-append [] rest none = omega arith
position_or_len-append (b ∷ front) rest none =
    let later = λ (h : length front ≤ position_or_len is_tail front). position_or_len-append front rest h in
    elim (is_tail b) as (λ t. length (b ∷ front) ≤ cond (not t) (1 + position_or_len is_tail front) 0
    → cond (not t) (1 + position_or_len is_tail (front ++ rest)) 0 ≡ length (b ∷ front) + position_or_len is_tail rest) [
      | true ↦ λ h. absurd (omega arith)
      | false ↦ λ h. let e = later (omega arith) in omega (arith, e)
    ] none

-- a front without a tail byte stays
without_tail-append : (front rest : List ℕ) → length front ≤ position_or_len is_tail front
    → without_tail (front ++ rest) ≡ front ++ without_tail rest
without_tail-append front rest none = ap (λ n. take n (front ++ rest)) (position_or_len-append front rest none)
    ∙ take-append-add front rest (position_or_len is_tail rest)

-- a text that is its own folder has no tail byte
own_folder : (text : List ℕ) → folder_of text ≡ text → length text ≤ position_or_len is_tail text
unfolding folder_of
own_folder text own = omega (arith, ap length own, length-take {A = ℕ})

short_url : (url : Parts) (text : List ℕ) → accepted_url url ≡ Ok text → length text ≤ 2048
short_url url text is = grind (arith, nat_tests)

short_parsed : (parsed : Parsed Parts) (text : List ℕ) → accepted parsed ≡ Ok text → length text ≤ 2048
short_parsed (Ok url) text is = short_url url text is
short_parsed (Err e) text is = cc

short_address : (text : List ℕ) → IsAddress text → length text ≤ 2048
unfolding absolute
short_address text is = short_parsed (parse_url None text) text is.normal

unless_short : (text : List ℕ) → length text ≤ 2048 → unless_long text ≡ Ok text
unless_short text short = grind (arith, nat_tests)

found_by : (begins named : Bool) (rest name : List ℕ) → cond begins (cond named (Some rest) None) None ≡ Some name
    → (begins ≡ true) × (named ≡ true) × (rest ≡ name)
found_by true true rest name is = (refl, refl, cc)
found_by true false rest name is = cc
found_by false named rest name is = cc

-- The name gives the address without query and fragment, where the base's text is its own folder.
pub local_file : (folder address name : List ℕ) → IsBase folder → IsAddress address → folder_of folder ≡ folder
    → local_name_of folder address ≡ Some name → resolve folder name ≡ Ok (without_tail address)
local_file folder address name base is own found =
    let rest : List ℕ = drop (length folder) address in
    let by = found_by (starts_with nat_eq address folder) (is_name (without_tail rest)) (without_tail rest) name found in
    let whole = (starts_is Decides-eqb address folder (starts_with nat_eq address folder) refl).0 by.0 in
    let cut : without_tail address ≡ folder ++ name = ap without_tail whole ∙ without_tail-append folder rest (own_folder folder own)
    ∙ ap (λ n. folder ++ n) by.2 in
    let short : length (folder ++ name) ≤ 2048 = omega (arith, ap length cut, short_address address is, length-take {A = ℕ}) in
    resolve_name folder name base (rw by.2 at by.1) ∙ ap (λ f. unless_long (f ++ name)) own ∙ unless_short (folder ++ name) short
    ∙ ap Ok (sym cut)
