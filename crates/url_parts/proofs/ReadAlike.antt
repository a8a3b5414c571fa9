-- Texts that stand for each other in references give the same URLs.
use Rattle.std.proofs.Common.{◌≡◌, ℕ, ◌<◌, true, false, List, [], ◌∷◌, ◌++◌, length, take, None, All}
use Rattle.std.proofs.Common.{sym, refl, ap, ◌∙◌, subst, ⊎_elim, inl, inr, append_assoc, append-nil, take_at, length-append, arith}
use Rattle.std.proofs.lemmas.Bool.{cases_Bool, true≢false, not-true}
use Rattle.std.proofs.lemmas.List.Elements.{All-weaker}
use Rattle.std.specs.{Prelude.unwrap_or, List.list_all}
use Rattle.url.specs.{declared.scheme.SchemeType.TheVariants.SpecialNotFile, declared.sets.TheConstants.PATH, Scheme.is_slash}
use Rattle.url.specs.{Path.{dot_count, push_segment, segment_text, shorten_path, parse_segments, without_last_segment}}
use Rattle.url.proofs.InputLemmas.{IsNot, Passes, All_from_list_all, rsplit_once_at}
use Rattle.url.proofs.PathLemmas.{IsNoSlash, encoded_no_slash, parse_path_more}
use Rattle.url_parts.specs.Alike.{IsGivenAlike, IsInLineAs, IsOpen, IsReadAs, IsTakenBack, is_inside}
use Rattle.url_parts.specs.{Addresses.{accepted_url, resolve, IsBase}, Paths.IsPath}
use Rattle.url_parts.proofs.{Fronts.behind_slash, InLine.resolve_in_line, Relative.resolve_along}

-- ---- parts of a path

pub read_again : (text : List ℕ) → IsReadAs text text
read_again text path segment rest = refl

pub read_on : (a b c : List ℕ) → IsReadAs a b → IsReadAs b c → IsReadAs a c
read_on a b c first next path segment rest = first path segment rest ∙ next path segment rest

read_behind : (front a b : List ℕ) → IsReadAs a b → IsReadAs (front ++ a) (front ++ b)
unfolding parse_segments
read_behind [] a b alike path segment rest = alike path segment rest
read_behind (x ∷ front) a b alike path segment rest =
    ⊎_elim
    (λ slash. rw slash (read_behind front a b alike (push_segment SpecialNotFile path segment false) [] rest))
    (λ other. rw other (read_behind front a b alike path (segment ++ x ∷ []) rest))
    (cases_Bool (is_slash SpecialNotFile x))

pub read_both : (a b c d : List ℕ) → IsReadAs a b → IsReadAs c d → IsReadAs (a ++ c) (b ++ d)
read_both a b c d first next path segment rest =
    ap (parse_segments SpecialNotFile path segment) (append_assoc a c rest) ∙ first path segment (c ++ rest)
    ∙ ap (parse_segments SpecialNotFile path segment) (sym (append_assoc b c rest)) ∙ read_behind b c d next path segment rest

-- the path after a slash
abbrev after : (path segment front : List ℕ) → List ℕ
after path segment front = without_last_segment (parse_segments SpecialNotFile path segment (front ++ 47 ∷ []))

whole_inside : (segment : List ℕ) → list_all is_inside segment ≡ true → All (IsNoSlash SpecialNotFile) segment
whole_inside segment inside = All-weaker (Passes is_inside) (IsNoSlash SpecialNotFile) (λ b passes. not-true _ passes) segment
    (All_from_list_all is_inside segment inside)

here : (path segment : List ℕ) → dot_count segment ≡ 1 → push_segment SpecialNotFile path segment false ≡ path
unfolding push_segment
here path segment dots = rw dots (append-nil path)

-- a `.` changes nothing
pub here_gone : (front segment : List ℕ) → list_all is_inside segment ≡ true → dot_count segment ≡ 1
    → IsReadAs ((front ++ 47 ∷ []) ++ (segment ++ 47 ∷ [])) (front ++ 47 ∷ [])
here_gone front segment inside dots path begun rest =
    let p = after path begun front in
    let read = parse_segments SpecialNotFile path begun in
    let whole : ((front ++ 47 ∷ []) ++ (segment ++ 47 ∷ [])) ++ rest ≡ front ++ 47 ∷ (segment ++ 47 ∷ rest) =
    append_assoc (front ++ 47 ∷ []) (segment ++ 47 ∷ []) rest ∙ append_assoc front (47 ∷ []) ((segment ++ 47 ∷ []) ++ rest)
    ∙ ap (λ t. front ++ 47 ∷ t) (append_assoc segment (47 ∷ []) rest) in
    ap read whole ∙ behind_slash front path begun (segment ++ 47 ∷ rest)
    ∙ parse_path_more SpecialNotFile p segment 47 rest (whole_inside segment inside) refl
    ∙ ap (λ q. parse_segments SpecialNotFile q [] rest) (here p segment dots)
    ∙ sym (ap read (append_assoc front (47 ∷ []) rest) ∙ behind_slash front path begun rest)

named : (path segment : List ℕ) → dot_count segment ≡ 0 → push_segment SpecialNotFile path segment false
    ≡ path ++ 47 ∷ segment_text SpecialNotFile path segment
unfolding push_segment
named path segment dots = rw dots refl

up : (path segment : List ℕ) → dot_count segment ≡ 2 → push_segment SpecialNotFile path segment false ≡ without_last_segment path
unfolding push_segment shorten_path
up path segment dots = rw dots (append-nil (without_last_segment path))

back : (path segment above : List ℕ) → list_all is_inside segment ≡ true → dot_count segment ≡ 0 → dot_count above ≡ 2
    → push_segment SpecialNotFile (push_segment SpecialNotFile path segment false) above false ≡ path
back path segment above inside none two =
    let encoded = All-weaker (IsNoSlash SpecialNotFile) (IsNot 47) (λ b no same. true≢false (rw same at no))
    (segment_text SpecialNotFile path segment)
    (encoded_no_slash SpecialNotFile PATH segment (λ k d below _. whole_inside segment inside k d below)) in
    up (push_segment SpecialNotFile path segment false) above two ∙ ap without_last_segment (named path segment none)
    ∙ ap (λ r. unwrap_or r.0 []) (rsplit_once_at 47 path (segment_text SpecialNotFile path segment) encoded)

-- a `..` takes back the segment before it
pub back_gone : (front segment above : List ℕ) → list_all is_inside segment ≡ true → dot_count segment ≡ 0
    → list_all is_inside above ≡ true → dot_count above ≡ 2
    → IsReadAs ((front ++ 47 ∷ (segment ++ 47 ∷ [])) ++ (above ++ 47 ∷ [])) (front ++ 47 ∷ [])
back_gone front segment above inside none inside_too two path begun rest =
    let p = after path begun front in
    let read = parse_segments SpecialNotFile path begun in
    let whole : ((front ++ 47 ∷ (segment ++ 47 ∷ [])) ++ (above ++ 47 ∷ [])) ++ rest ≡ front ++ 47
    ∷ (segment ++ 47 ∷ (above ++ 47 ∷ rest)) =
    append_assoc (front ++ 47 ∷ (segment ++ 47 ∷ [])) (above ++ 47 ∷ []) rest
    ∙ append_assoc front (47 ∷ (segment ++ 47 ∷ [])) ((above ++ 47 ∷ []) ++ rest)
    ∙ ap (λ t. front ++ 47 ∷ t) (append_assoc segment (47 ∷ []) ((above ++ 47 ∷ []) ++ rest)
    ∙ ap (λ t. segment ++ 47 ∷ t) (append_assoc above (47 ∷ []) rest)) in
    ap read whole ∙ behind_slash front path begun (segment ++ 47 ∷ (above ++ 47 ∷ rest))
    ∙ parse_path_more SpecialNotFile p segment 47 (above ++ 47 ∷ rest) (whole_inside segment inside) refl
    ∙ parse_path_more SpecialNotFile (push_segment SpecialNotFile p segment false) above 47 rest (whole_inside above inside_too) refl
    ∙ ap (λ q. parse_segments SpecialNotFile q [] rest) (back p segment above inside none two)
    ∙ sym (ap read (append_assoc front (47 ∷ []) rest) ∙ behind_slash front path begun rest)

-- ---- a text that is made segment by segment

open_ends : (text : List ℕ) → 0 < length text → IsOpen text → (front : List ℕ) × (text ≡ front ++ 47 ∷ [])
open_ends text some (inl none) = absurd (let empty = ap length none in omega arith)
open_ends text some (inr ends) = ends

pub here_read : (text segment : List ℕ) → IsOpen text → 0 < length text → list_all is_inside segment ≡ true → dot_count segment ≡ 1
    → IsReadAs (text ++ (segment ++ 47 ∷ [])) text
here_read text segment opened some inside dots = let ends = open_ends text some opened in
    subst (λ t. IsReadAs (t ++ (segment ++ 47 ∷ [])) t) (sym ends.1) (here_gone ends.0 segment inside dots)

kept_text : (text : List ℕ) (kept : ℕ) (is : IsTakenBack text kept) → take kept text ≡ is.front ++ 47 ∷ []
kept_text text kept is =
    ap (take kept) (is.whole ∙ sym (append_assoc is.front (47 ∷ []) (is.segment ++ 47 ∷ [])))
    ∙ take_at (is.front ++ 47 ∷ []) (is.segment ++ 47 ∷ []) kept (omega (arith, is.kept_is, length-append is.front (47 ∷ [])))

pub kept_open : (text : List ℕ) (kept : ℕ) → IsTakenBack text kept → IsOpen (take kept text)
kept_open text kept is = inr (is.front, kept_text text kept is)

pub back_read : (text segment : List ℕ) (kept : ℕ) → IsTakenBack text kept → list_all is_inside segment ≡ true → dot_count segment ≡ 2
    → IsReadAs (text ++ (segment ++ 47 ∷ [])) (take kept text)
back_read text segment kept is inside two =
    subst (λ t. IsReadAs (text ++ (segment ++ 47 ∷ [])) t) (sym (kept_text text kept is))
    (subst (λ t. IsReadAs (t ++ (segment ++ 47 ∷ [])) (is.front ++ 47 ∷ [])) (sym is.whole)
    (back_gone is.front is.segment segment is.inside is.named inside two))

pub step_read : (text short next rest segment later : List ℕ) → rest ≡ segment ++ 47 ∷ later → IsReadAs text (short ++ rest)
    → IsReadAs (short ++ (segment ++ 47 ∷ [])) next → IsReadAs text (next ++ later)
step_read text short next rest segment later cut so_far step =
    let split : short ++ rest ≡ (short ++ (segment ++ 47 ∷ [])) ++ later =
    ap (λ t. short ++ t) (cut ∙ sym (append_assoc segment (47 ∷ []) later)) ∙ sym (append_assoc short (segment ++ 47 ∷ []) later) in
    read_on text (short ++ rest) (next ++ later) so_far (subst (λ t. IsReadAs t (next ++ later)) (sym split)
    (read_both (short ++ (segment ++ 47 ∷ [])) next later later step (read_again later)))

-- ---- paths

-- paths that are read alike give the same URL
pub resolve_read : (base text other : List ℕ) → IsBase base → IsPath text → IsPath other → IsReadAs text other
    → resolve base text ≡ resolve base other
resolve_read base text other is path path_too alike =
    let start : List ℕ = without_last_segment is.url.path in
    let read = parse_segments SpecialNotFile start [] in
    let same : read text ≡ read other = sym (ap read (append-nil text)) ∙ alike start [] [] ∙ ap read (append-nil other) in
    subst (λ b. resolve b text ≡ resolve b other) is.spelled
    (resolve_along is.url text is.is path ∙ ap (λ p. accepted_url (record is.url { path = p; query = None; fragment = None })) same
    ∙ sym (resolve_along is.url other is.is path_too))

pub line_given : (text line : List ℕ) → IsInLineAs text line → IsGivenAlike text line
line_given text line same base is = sym (resolve_in_line base text line same)

pub short_given : (text line short : List ℕ) → IsInLineAs text line → IsPath line → IsReadAs line short → IsPath short
    → IsGivenAlike text short
short_given text line short same path alike path_too base is =
    sym (resolve_in_line base text line same ∙ resolve_read base line short is path path_too alike)
