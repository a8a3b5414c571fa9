-- The front of a path is resolved once for all paths that begin with it.
use Rattle.std.proofs.Common.{◌≡◌, ℕ, ◌+◌, ◌-◌, ◌<◌, ◌==◌, true, false, List, [], ◌∷◌, ◌++◌, length, take, drop, get_or, ◌&&◌}
use Rattle.std.proofs.Common.{not, Some, None, Ok, sym}
use Rattle.std.proofs.{Common.{ap, ◌∙◌, subst, ⊎_elim, append_assoc, length-append, arith}, lemmas.Bool.{and_from, and_parts, cases_Bool}}
use Rattle.std.proofs.lemmas.Bool.{ltb-true, not-true}
use Rattle.std.proofs.{lemmas.Bool.Decides.{nat_tests, Decides-eqb}, lemmas.List.Folds.list_all-append}
use Rattle.std.proofs.lemmas.List.Elements.{All-nil, All-weaker}
use Rattle.std.proofs.lemmas.List.{drop_all}
use Rattle.std.specs.{Prelude.{nat_lt, slice_index, unwrap_or, IfOk}, List.list_all}
use Rattle.url.specs.{declared.scheme.SchemeType.TheVariants.SpecialNotFile, declared.sets.TheConstants.PATH, Scheme.is_slash}
use Rattle.url.specs.{Path.{dot_count, push_segment, parse_segments, without_last_segment}, Parts.Parts}
use Rattle.url.proofs.InputLemmas.{IsNot, Passes, All_from_list_all, rsplit_once_at, split_around, is_empty-nil}
use Rattle.url.proofs.ValidLemmas.{is_empty-percent_encode}
use Rattle.url_parts.specs.Addresses.{accepted_url, resolve, text_of, IsBase, IsBaseUrl}
use Rattle.url_parts.specs.Paths.{is_path_byte, is_folder_path, IsPath, IsBeneath}
use Rattle.url_parts.proofs.{Bases.web_from_accepted, Parsed.{accepted_text, url_on_web, IsByte, IsValidOnWeb}}
use Rattle.url_parts.proofs.Relative.{along, parse_along, resolve_along}

-- a slash at the end is an empty last segment, which takes no part in what is resolved against the path
last_gone : (path segment : List ℕ) → without_last_segment (parse_segments SpecialNotFile path segment (47 ∷ []))
    ≡ push_segment SpecialNotFile path segment false
unfolding parse_segments push_segment dot_count
last_gone path segment =
    let q = push_segment SpecialNotFile path segment false in
    let none = is_empty-nil _ (is_empty-percent_encode PATH []) in
    ap (λ t. without_last_segment (q ++ 47 ∷ t)) none ∙ ap (λ r. unwrap_or r.0 []) (rsplit_once_at 47 q [] (All-nil (IsNot 47)))

pub behind_slash : (front path segment rest : List ℕ) → parse_segments SpecialNotFile path segment (front ++ 47 ∷ rest)
    ≡ parse_segments SpecialNotFile (without_last_segment (parse_segments SpecialNotFile path segment (front ++ 47 ∷ []))) [] rest
unfolding parse_segments
behind_slash [] path segment rest = ap (λ p. parse_segments SpecialNotFile p [] rest) (sym (last_gone path segment))
behind_slash (b ∷ front) path segment rest =
    ⊎_elim
    (λ slash. rw slash (behind_slash front (push_segment SpecialNotFile path segment false) [] rest))
    (λ other. rw other (behind_slash front path (segment ++ b ∷ []) rest))
    (cases_Bool (is_slash SpecialNotFile b))

along_twice : (base : Parts) (front rest : List ℕ) → along base (front ++ 47 ∷ rest) ≡ along (along base (front ++ 47 ∷ [])) rest
along_twice base front rest = ap (λ p. record base { path = p; query = None; fragment = None })
    (behind_slash front (without_last_segment base.path) [] rest)

slash_ends : (front rest : List ℕ) → (slice_index (front ++ 47 ∷ []) 0 == 47) ≡ false → (slice_index (front ++ 47 ∷ rest) 0 == 47) ≡ false
slash_ends [] rest first = first
slash_ends (b ∷ front) rest first = first

path_behind : (front rest : List ℕ) → IsPath (front ++ 47 ∷ []) → IsPath rest → IsPath (front ++ 47 ∷ rest)
path_behind front rest is more = record {
  bytes = subst (λ t. list_all is_path_byte t ≡ true) (append_assoc front (47 ∷ []) rest)
      (list_all-append is_path_byte (front ++ 47 ∷ []) rest ∙ and_from _ _ is.bytes more.bytes);
  some = let n = length-append front (47 ∷ rest) in omega arith;
  first = slash_ends front rest is.first;
}

along_is_base : (base : Parts) (front text : List ℕ) → IsBaseUrl base → IsPath front → accepted_url (along base front) ≡ Ok text
    → IsBaseUrl (along base front)
along_is_base base front text valid is accepted =
    let bytes = All-weaker (Passes is_path_byte) IsByte (λ b passes. grind (arith, nat_tests)) front
    (All_from_list_all is_path_byte front is.bytes) in
    let parsed = subst (λ r. IfOk r IsValidOnWeb) (parse_along base front valid is)
    (url_on_web (Some base) front (λ _. valid.valid) bytes) in
    record {
      valid = parsed (web_from_accepted (along base front) text accepted);
      accepted = accepted ∙ ap Ok (sym (accepted_text (along base front) text accepted));
    }

-- the same, by the base's URL
url_beneath : (base : Parts) (front deeper : List ℕ) → IsBaseUrl base → IsPath (front ++ 47 ∷ [])
    → resolve (text_of base) (front ++ 47 ∷ []) ≡ Ok deeper → (path : List ℕ) → IsPath path → resolve (text_of base) (front ++ 47 ∷ path) ≡ resolve deeper path
url_beneath base front deeper valid is resolved path more =
    let accepted = sym (resolve_along base (front ++ 47 ∷ []) valid is) ∙ resolved in
    let url = along base (front ++ 47 ∷ []) in
    resolve_along base (front ++ 47 ∷ path) valid (path_behind front path is more)
    ∙ ap accepted_url (along_twice base front path)
    ∙ sym (resolve_along url path (along_is_base base (front ++ 47 ∷ []) deeper valid is accepted) more)
    ∙ ap (λ t. resolve t path) (accepted_text url deeper accepted)

pub folder_is_path : (text : List ℕ) → is_folder_path text ≡ true → IsPath text × (text ≡ take (length text - 1) text ++ 47 ∷ [])
folder_is_path text is =
    let ends = and_parts (list_all is_path_byte text && nat_lt 0 (length text) && not (slice_index text 0 == 47)) _ is in
    let begins = and_parts (list_all is_path_byte text && nat_lt 0 (length text)) _ ends.0 in
    let some = and_parts (list_all is_path_byte text) _ begins.0 in
    let nonempty : 0 < length text = ltb-true _ _ some.1 in
    let past : drop (length text - 1 + 1) text ≡ [] = drop_all _ text (omega arith) in
    let last : get_or text (length text - 1) 0 ≡ 47 = (Decides-eqb _ _).0 ends.1 in (
      record { bytes = some.0; some = nonempty; first = not-true _ begins.1 },
      split_around text (length text - 1) 47 (omega arith) last ∙ ap (λ t. take (length text - 1) text ++ 47 ∷ t) past,
    )

pub beneath : (base front deeper : List ℕ) → IsBase base → is_folder_path front ≡ true → resolve base front ≡ Ok deeper
    → IsBeneath base front deeper
beneath base front deeper is folder resolved path more =
    let parts = folder_is_path front folder in
    let before : List ℕ = take (length front - 1) front in
    let whole = parts.1 in
    let path_is = subst IsPath whole parts.0 in
    let given = subst (λ b. resolve b (before ++ 47 ∷ []) ≡ Ok deeper) (sym is.spelled) (sym (ap (resolve base) whole) ∙ resolved) in
    ap (λ t. resolve base (t ++ path)) whole ∙ ap (resolve base) (append_assoc before (47 ∷ []) path)
    ∙ subst (λ b. resolve b (before ++ 47 ∷ path) ≡ resolve deeper path) is.spelled
    (url_beneath is.url before deeper is.is path_is given path more)
