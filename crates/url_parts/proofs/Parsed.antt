-- What the URL Standard reads with a scheme of the web is a valid URL, so that an address is given again with any base.
use Rattle.std.proofs.Common.{◌≡◌, ℕ, ◌+◌, ◌-◌, ◌<◌, Bool, true, false, cond, not, ◌&&◌, ◌==◌, List, [], ◌∷◌, ◌++◌, length, get_or, take}
use Rattle.std.proofs.Common.{drop, Option, Some, None, Result, Ok, Err, All, sym, refl, inl, ap, ◌∙◌, subst, ⊎_elim, arith, lit<}
use Rattle.std.proofs.{lemmas.Bool.{cond_both, cond-true, or_from, cases_Bool, and_parts, true≢false}, lemmas.Bool.Decides.nat_tests}
use Rattle.std.proofs.{lemmas.Slice.Eq.bytes_eq-Decides, lemmas.List.Elements.{All-nil, All-cons, All-head, All-tail, All-push, All-take}}
use Rattle.std.proofs.lemmas.List.Elements.{All-drop, All-filter, All-weaker}
use Rattle.std.specs.{Prelude.{codes, bytes_eq, unwrap_or, nat_lt, IfOk, IfSome, if◌then◌else◌}, Result.result_ok, List.list_all}
use Rattle.std.specs.List.{prefix_len, suffix_len}
use Rattle.url.specs.{declared.scheme.SchemeType.TheVariants.{File, SpecialNotFile, NotSpecial}, Input.{is_empty, is_c0_control_or_space}}
use Rattle.url.specs.Input.{is_tab_or_new_line, trim_start, trim_c0_control_and_space, strip_tabs_and_new_lines, lowercase, split_once}
use Rattle.url.specs.{Input.rsplit_once, Scheme.{IsScheme, scheme_type, scheme_len, is_special, is_file, is_slash}, Host.parse_host}
use Rattle.url.specs.{Host.{parse_file_host, IsHostOf}, Path.{escape_end, is_windows_drive_letter, segment_len, push_segment}}
use Rattle.url.specs.{Path.{parse_segments, parse_path, parse_path_start, shorten_path, IsSegmentList}, Parts.{Parts, kind_of}}
use Rattle.url.specs.{Parts.{cannot_be_a_base, IsHierarchicalPath, IsPortOf, IsValidHead, IsValidPath, IsValid}, Parser.{Parsed, and_then}}
use Rattle.url.specs.Parser.{after_slashes, after_file_double_slash, file_start, inherit_file, parse_not_file, is_fragment_only, split_port}
use Rattle.url.specs.Parser.{lacks_host, with_path, parse_port, parse_authority, leading_slashes, after_double_slash, parse_non_special}
use Rattle.url.specs.Parser.{parse_relative, inherit, parse_file, parse_body, parse_all, parse_parts, before_tail, split_scheme}
use Rattle.url.specs.Parser.{base_for_scheme, parse_by_scheme, parse_url}
use Rattle.url.proofs.{InputLemmas.{Passes, All_from_list_all}, SchemeLemmas.{file_from_scheme_type, file_from_is_file}}
use Rattle.url.proofs.PathLemmas.{IsNoSlash, no_segments, push_segment_valid, push_last_nonempty, shorten_valid}
use Rattle.url.proofs.{LayoutLemmas.IsValidHead_same, SetterLemmas.valid_with_authority, ValidLemmas.IsValid-with_tail}
use Rattle.url.proofs.{ValidLemmas.{special_has_authority, base_from_authority, hierarchical}, ParsedCanonical.before_special}
use Rattle.url_parts.specs.{declared.fault.UrlFault.UrlFault, Laws.IsGivenAgain, Addresses.{is_web, accepted, accepted_url, absolute}}
use Rattle.url_parts.specs.Addresses.{is_absolute, url_of, text_of, resolve, is_address_byte, IsAddress, IsBase}
use Rattle.url_parts.proofs.{Bases.{at_web, kind_of_web, web_from_accepted, bytes_from_accepted, IsBase-address}, Hosts.IsHost}
use Rattle.url_parts.proofs.Hosts.{host_valid, port_valid}

-- ---- steps

-- what holds of the value of a step, with the value of the next one
then_holds : {T U : Type 0} (P : T → Type 0) (Q : U → Type 0) (first : Parsed T) (next : T → Parsed U) → IfOk first P
    → ((x : T) → P x → IfOk (next x) Q) → IfOk (and_then first next) Q
then_holds P Q (Ok x) next holds later = later x holds
then_holds P Q (Err e) next holds later = tt

-- ---- paths

abbrev pub IsByte : ℕ → Type 0
IsByte b = b < 256

-- the path after more segments
segments_valid : (path segment bytes : List ℕ) → All IsByte segment → All (IsNoSlash SpecialNotFile) segment → All IsByte bytes
    → IsSegmentList SpecialNotFile path → IsHierarchicalPath SpecialNotFile (parse_segments SpecialNotFile path segment bytes)
unfolding parse_segments
segments_valid path segment [] read whole bytes list = (
  push_segment_valid SpecialNotFile path segment true read whole list,
  λ _. push_last_nonempty SpecialNotFile path segment,
)
segments_valid path segment (b ∷ bytes) read whole all list =
    let later = All-tail IsByte b bytes all in
    cond_both (is_slash SpecialNotFile b) _ _ (IsHierarchicalPath SpecialNotFile)
    (λ _. segments_valid (push_segment SpecialNotFile path segment false) [] bytes (All-nil IsByte)
    (All-nil (IsNoSlash SpecialNotFile)) later (push_segment_valid SpecialNotFile path segment false read whole list))
    (λ other. segments_valid path (segment ++ b ∷ []) bytes (All-push IsByte segment b read (All-head IsByte b bytes all))
    (All-push (IsNoSlash SpecialNotFile) segment b whole other) later list)

path_valid : (path bytes : List ℕ) → All IsByte bytes → IsSegmentList SpecialNotFile path
    → IsHierarchicalPath SpecialNotFile (parse_path SpecialNotFile path bytes)
path_valid path bytes all list = segments_valid path [] bytes (All-nil IsByte) (All-nil (IsNoSlash SpecialNotFile)) all list

path_start_valid : (bytes : List ℕ) → All IsByte bytes → IsHierarchicalPath SpecialNotFile (parse_path_start SpecialNotFile [] bytes)
unfolding parse_path_start
path_start_valid bytes all =
    cond_both (is_empty bytes && false) _ _ (IsHierarchicalPath SpecialNotFile)
    (λ empty. absurd (true≢false (sym (and_parts _ _ empty).1))) λ _.
    cond_both _ _ _ (IsHierarchicalPath SpecialNotFile) (λ _. path_valid [] _ (All-drop IsByte 1 bytes all) (no_segments SpecialNotFile))
    (λ _. path_valid [] bytes all (no_segments SpecialNotFile))

-- ---- the scheme

abbrev HasScheme : List ℕ → Parts → Type 0
HasScheme scheme url = url.scheme ≡ scheme

-- a URL keeps its scheme where the last step keeps it
then_keeps : {T : Type 0} (Q : Parts → Type 0) (first : Parsed T) (next : T → Parsed Parts) → ((x : T) → IfOk (next x) Q)
    → IfOk (and_then first next) Q
then_keeps Q (Ok x) next later = later x
then_keeps Q (Err e) next later = tt

-- a choice has what both sides have
both_have : (Q : Parts → Type 0) (b : Bool) (x y : Parsed Parts) → IfOk x Q → IfOk y Q → IfOk (cond b x y) Q
both_have Q true x y one other = one
both_have Q false x y one other = other

authority_scheme : (scheme bytes : List ℕ) → IfOk (parse_authority scheme bytes) (HasScheme scheme)
unfolding parse_authority
authority_scheme scheme bytes =
    let host_port = split_port (rsplit_once 64 bytes).1 in
    both_have (HasScheme scheme) (lacks_host (rsplit_once 64 bytes).0 host_port.0 host_port.1) _ _ tt
    (then_keeps (HasScheme scheme) (parse_host (scheme_type scheme) host_port.0) _ λ host.
    then_keeps (HasScheme scheme) (parse_port scheme (unwrap_or host_port.1 [])) _ λ port. refl)

double_slash_scheme : (scheme bytes : List ℕ) → IfOk (after_double_slash scheme bytes) (HasScheme scheme)
unfolding after_double_slash
double_slash_scheme scheme bytes =
    then_holds (HasScheme scheme) (HasScheme scheme) (parse_authority scheme (take (segment_len (scheme_type scheme) bytes) bytes)) _
    (authority_scheme scheme _) (λ head has. has)

relative_scheme : (base : Parts) (body : List ℕ) → IfOk (parse_relative base body) (HasScheme base.scheme)
unfolding parse_relative
relative_scheme base body = both_have (HasScheme base.scheme) (leading_slashes (kind_of base) body == 2) _ _
    (double_slash_scheme base.scheme _) refl

non_special_scheme : (scheme body : List ℕ) → IfOk (parse_non_special scheme body) (HasScheme scheme)
unfolding parse_non_special
non_special_scheme scheme body =
    both_have (HasScheme scheme) (leading_slashes NotSpecial body == 2) _ _ (double_slash_scheme scheme _)
    (both_have (HasScheme scheme) (leading_slashes NotSpecial body == 1) _ _ refl refl)

start_scheme : (base : Option Parts) (relative : Bool) (rest : List ℕ) → IfSome base (HasScheme (codes "file"))
    → HasScheme (codes "file") (file_start base relative rest)
unfolding inherit_file
start_scheme None relative rest has = refl
start_scheme (Some base) relative rest has = has

file_scheme : (base : Option Parts) (body : List ℕ) → IfSome base (HasScheme (codes "file"))
    → IfOk (parse_file base body) (HasScheme (codes "file"))
unfolding parse_file after_file_double_slash
file_scheme base body has =
    let Q = HasScheme (codes "file") in
    let slashes : ℕ = leading_slashes File body in
    let rest : List ℕ = drop slashes body in
    both_have Q (slashes == 2) _ _
    (both_have Q (is_windows_drive_letter (take (segment_len File rest) rest)) _ _ refl
    (then_keeps Q (parse_file_host (take (segment_len File rest) rest)) _ λ host. refl))
    (start_scheme base (slashes == 0) rest has)

not_file_scheme : (scheme : List ℕ) (base : Option Parts) (body : List ℕ) → IfSome base (HasScheme scheme)
    → IfOk (parse_not_file scheme base body) (HasScheme scheme)
not_file_scheme scheme None body has = both_have (HasScheme scheme) (is_special (scheme_type scheme)) _ _ (double_slash_scheme scheme _)
    (non_special_scheme scheme body)
not_file_scheme scheme (Some base) body has = subst (λ s. IfOk (parse_relative base body) (HasScheme s)) has (relative_scheme base body)

body_scheme : (scheme : List ℕ) (base : Option Parts) (body : List ℕ) → IfSome base (HasScheme scheme)
    → IfOk (parse_body scheme base body) (HasScheme scheme)
unfolding parse_body
body_scheme scheme base body has =
    cond_both (is_file (scheme_type scheme)) _ _ (λ (r : Parsed Parts). IfOk r (HasScheme scheme))
    (λ file. let named = file_from_scheme_type scheme (file_from_is_file _ file) in
    subst (λ s. IfSome base (HasScheme s) → IfOk (parse_file base body) (HasScheme s)) (sym named) (file_scheme base body) has)
    (λ _. not_file_scheme scheme base body has)

tail_scheme : (url : Parts) (query fragment : Option (List ℕ)) → (before_tail url query fragment).scheme ≡ url.scheme
tail_scheme url query fragment = cond_both _ (with_path url (escape_end url.path)) url (λ (u : Parts). u.scheme ≡ url.scheme) (λ _. refl)
    (λ _. refl)

all_scheme : (scheme : List ℕ) (base : Option Parts) (body : List ℕ) (query fragment : Option (List ℕ)) → IfSome base (HasScheme scheme)
    → IfOk (parse_all scheme base body query fragment) (HasScheme scheme)
all_scheme scheme base body query fragment has =
    then_holds (HasScheme scheme) (HasScheme scheme) (parse_body scheme base body) _ (body_scheme scheme base body has)
    (λ url is. tail_scheme url query fragment ∙ is)

parts_scheme : (scheme : List ℕ) (base : Option Parts) (body : List ℕ) (query fragment : Option (List ℕ)) → IfSome base (HasScheme scheme)
    → IfOk (parse_parts scheme base body query fragment) (HasScheme scheme)
unfolding parse_parts
parts_scheme scheme None body query fragment has = all_scheme scheme None body query fragment has
parts_scheme scheme (Some base) body query fragment has = both_have (HasScheme scheme) (is_empty body) _ _ has
    (all_scheme scheme (Some base) body query fragment has)

-- ---- what is valid

pub is_scheme : (scheme : List ℕ) → is_web scheme ≡ true → IsScheme scheme
unfolding scheme_len
is_scheme scheme web = at_web IsScheme scheme web (record { nonempty = lit< tt; whole = refl; lower = refl })
    (record { nonempty = lit< tt; whole = refl; lower = refl })

authority_valid : (scheme bytes : List ℕ) → is_web scheme ≡ true
    → IfOk (parse_authority scheme bytes) (λ url. HasScheme scheme url × IsValidHead url)
unfolding parse_authority
authority_valid scheme bytes web =
    let kind = kind_of_web scheme web in
    let P = λ (url : Parts). HasScheme scheme url × IsValidHead url in
    let host_port = split_port (rsplit_once 64 bytes).1 in
    cond_both (lacks_host (rsplit_once 64 bytes).0 host_port.0 host_port.1) _ _ (λ (r : Parsed Parts). IfOk r P) (λ _. tt) λ _.
    then_holds IsHost P (parse_host (scheme_type scheme) host_port.0) _ (rw kind (host_valid host_port.0)) λ host is.
    then_holds (IsPortOf scheme) P (parse_port scheme (unwrap_or host_port.1 [])) _ (port_valid scheme _) λ port fits. (
      refl,
      valid_with_authority scheme _ _ host port (is_scheme scheme web) (subst (λ k. IsHostOf k host) (sym kind) is.0) fits
          (λ bare. absurd (true≢false (sym bare ∙ or_from _ _ is.1 (ap is_file kind)))),
    )

abbrev IsStarted : List ℕ → Parts → Type 0
IsStarted scheme url = HasScheme scheme url × IsValidHead url × IsValidPath url

started : (scheme : List ℕ) (head : Parts) (path : List ℕ) → is_web scheme ≡ true → HasScheme scheme head → IsValidHead head
    → IsHierarchicalPath SpecialNotFile path → IsStarted scheme (with_path head path)
started scheme head path web has valid list = (
  has,
  IsValidHead_same head (with_path head path) refl valid,
  inl (subst (λ k. IsHierarchicalPath k path) (sym (ap scheme_type has ∙ kind_of_web scheme web)) list),
)

double_slash_valid : (scheme bytes : List ℕ) → is_web scheme ≡ true → All IsByte bytes
    → IfOk (after_double_slash scheme bytes) (IsStarted scheme)
unfolding after_double_slash
double_slash_valid scheme bytes web all =
    let len : ℕ = segment_len (scheme_type scheme) bytes in
    then_holds (λ (url : Parts). HasScheme scheme url × IsValidHead url) (IsStarted scheme) (parse_authority scheme (take len bytes)) _
    (authority_valid scheme _ web) λ head is.
    started scheme head _ web is.0 is.1 (subst (λ k. IsHierarchicalPath SpecialNotFile (parse_path_start k [] (drop len bytes)))
    (sym (kind_of_web scheme web)) (path_start_valid _ (All-drop IsByte len bytes all)))

own_path : (base : Parts) → is_web base.scheme ≡ true → IsValid base → IsSegmentList SpecialNotFile base.path
own_path base web valid =
    let kind = kind_of_web base.scheme web in
    let authority = special_has_authority base valid.head (ap is_special kind) in
    subst (λ k. IsSegmentList k base.path) kind (hierarchical base valid.path (base_from_authority base authority)).0

relative_valid : (base : Parts) (body : List ℕ) → is_web base.scheme ≡ true → IsValid base → All IsByte body
    → IfOk (parse_relative base body) (IsStarted base.scheme)
unfolding parse_relative
relative_valid base body web valid all =
    let kind = kind_of_web base.scheme web in
    let slashes : ℕ = leading_slashes (kind_of base) body in
    let relative : Bool = slashes == 0 in
    let kept : List ℕ = if relative then shorten_path (kind_of base) base.path else [] in
    let list : IsSegmentList SpecialNotFile kept = cond_both relative _ _ (IsSegmentList SpecialNotFile)
    (λ _. rw kind (shorten_valid SpecialNotFile base.path (own_path base web valid))) (λ _. no_segments SpecialNotFile) in
    let after : All IsByte (after_slashes (kind_of base) body) = cond_both (is_special (kind_of base)) _ _ (All IsByte)
    (λ _. All-drop IsByte _ body all) (λ _. All-drop IsByte 2 body all) in
    cond_both (slashes == 2) _ _ (λ (r : Parsed Parts). IfOk r (IsStarted base.scheme))
    (λ _. double_slash_valid base.scheme _ web after)
    (λ _. started base.scheme (inherit base relative) _ web refl (IsValidHead_same base (inherit base relative) refl valid.head)
    (subst (λ k. IsHierarchicalPath SpecialNotFile (parse_path k kept (drop slashes body))) (sym kind)
    (path_valid kept _ (All-drop IsByte slashes body all) list)))

abbrev Starts : List ℕ → Option Parts → Type 0
Starts scheme base = IfSome base (λ b. HasScheme scheme b × IsValid b)

body_valid : (scheme : List ℕ) (base : Option Parts) (body : List ℕ) → is_web scheme ≡ true → Starts scheme base → All IsByte body
    → IfOk (parse_body scheme base body) (IsStarted scheme)
unfolding parse_body
body_valid scheme None body web starts all =
    let kind = kind_of_web scheme web in
    rw kind (double_slash_valid scheme _ web (All-drop IsByte _ body all))
body_valid scheme (Some base) body web starts all =
    let kind = kind_of_web scheme web in
    let read = relative_valid base body (rw starts.0 web) starts.1 all in
    rw kind (subst (λ s. IfOk (parse_relative base body) (IsStarted s)) starts.0 read)

all_valid : (scheme : List ℕ) (base : Option Parts) (body : List ℕ) (query fragment : Option (List ℕ)) → is_web scheme ≡ true
    → Starts scheme base → All IsByte body → IfOk (parse_all scheme base body query fragment) IsValid
all_valid scheme base body query fragment web starts all =
    then_holds (IsStarted scheme) IsValid (parse_body scheme base body) _ (body_valid scheme base body web starts all) λ url is.
    let kind = ap scheme_type is.0 ∙ kind_of_web scheme web in
    rw (before_special url query fragment (ap is_special kind)) (IsValid-with_tail url query fragment is.1 is.2)

parts_valid : (scheme : List ℕ) (base : Option Parts) (body : List ℕ) (query fragment : Option (List ℕ)) → is_web scheme ≡ true
    → Starts scheme base → All IsByte body → IfOk (parse_parts scheme base body query fragment) IsValid
unfolding parse_parts
parts_valid scheme None body query fragment web starts all = all_valid scheme None body query fragment web starts all
parts_valid scheme (Some base) body query fragment web starts all =
    cond_both (is_empty body) _ _ (λ (r : Parsed Parts). IfOk r IsValid)
    (λ _. IsValid-with_tail base _ fragment starts.1.head starts.1.path)
    (λ _. all_valid scheme (Some base) body query fragment web starts all)

-- ---- the whole

-- a URL with a scheme of the web is valid
abbrev pub IsValidOnWeb : Parts → Type 0
IsValidOnWeb url = is_web url.scheme ≡ true → IsValid url

weaker_ok : (P Q : Parts → Type 0) (parsed : Parsed Parts) → IfOk parsed P → ((url : Parts) → P url → Q url) → IfOk parsed Q
weaker_ok P Q (Ok url) is weaker = weaker url is
weaker_ok P Q (Err e) is weaker = tt

base_starts : (scheme : List ℕ) (base : Option Parts) → is_web scheme ≡ true → IfSome base (HasScheme scheme) → IfSome base IsValidOnWeb
    → Starts scheme base
base_starts scheme None web has valid = tt
base_starts scheme (Some base) web has valid = (has, valid (rw has web))

parts_on_web : (scheme : List ℕ) (base : Option Parts) (body : List ℕ) (query fragment : Option (List ℕ)) → IfSome base (HasScheme scheme)
    → IfSome base IsValidOnWeb → All IsByte body → IfOk (parse_parts scheme base body query fragment) IsValidOnWeb
parts_on_web scheme base body query fragment has valid all =
    let parsed = parse_parts scheme base body query fragment in
    let spelled = parts_scheme scheme base body query fragment has in
    ⊎_elim
    (λ web. weaker_ok IsValid IsValidOnWeb parsed (parts_valid scheme base body query fragment web
    (base_starts scheme base web has valid) all) (λ url is _. is))
    (λ other. weaker_ok (HasScheme scheme) IsValidOnWeb parsed spelled (λ url is web. absurd (true≢false (sym web ∙ ap is_web is ∙ other))))
    (cases_Bool (is_web scheme))

counting_base : (base : Option Parts) (scheme : List ℕ) → IfSome base IsValidOnWeb
    → IfSome (base_for_scheme base scheme) (HasScheme scheme) × IfSome (base_for_scheme base scheme) IsValidOnWeb
counting_base None scheme valid = (tt, tt)
counting_base (Some base) scheme valid =
    cond_both (is_special (kind_of base) && bytes_eq base.scheme scheme) (Some base) None (λ o. IfSome o (HasScheme scheme)
    × IfSome o IsValidOnWeb)
    (λ both. ((bytes_eq-Decides base.scheme scheme).0 (and_parts _ _ both).1, valid)) (λ _. (tt, tt))

by_scheme_on_web : (split : Option (List ℕ × List ℕ)) (base : Option Parts) (body : List ℕ) (query fragment : Option (List ℕ))
    → IfSome split (λ s. All IsByte s.1) → IfSome base IsValidOnWeb → All IsByte body
    → IfOk (parse_by_scheme split base body query fragment) IsValidOnWeb
by_scheme_on_web None None body query fragment rest valid all = tt
by_scheme_on_web None (Some base) body query fragment rest valid all =
    both_have IsValidOnWeb (cannot_be_a_base base && not (is_fragment_only body query fragment)) _ _ tt
    (parts_on_web base.scheme (Some base) body query fragment refl valid all)
by_scheme_on_web (Some split) base body query fragment rest valid all =
    let counts = counting_base base (lowercase split.0) valid in
    parts_on_web (lowercase split.0) (base_for_scheme base (lowercase split.0)) split.1 query fragment counts.0 counts.1 rest

split_bytes : (separator : ℕ) (xs : List ℕ) → All IsByte xs → All IsByte (split_once separator xs).0
unfolding split_once
split_bytes separator [] all = All-nil IsByte
split_bytes separator (b ∷ xs) all =
    cond_both {A = List ℕ × Option (List ℕ)} (b == separator) ([], Some xs) (b ∷ (split_once separator xs).0, (split_once separator xs).1)
    (λ r. All IsByte r.0)
    (λ _. All-nil IsByte) (λ _. All-cons IsByte b _ (All-head IsByte b xs all) (split_bytes separator xs (All-tail IsByte b xs all)))

scheme_bytes : (xs : List ℕ) → All IsByte xs → IfSome (split_scheme xs) (λ s. All IsByte s.1)
unfolding split_scheme
scheme_bytes xs all =
    let len : ℕ = scheme_len xs in
    cond_both (nat_lt 0 len && (get_or xs len 0 == 58)) (Some (take len xs, drop (len + 1) xs)) None (λ o. IfSome o (λ s. All IsByte s.1))
    (λ _. All-drop IsByte (len + 1) xs all) (λ _. tt)

clean_bytes : (input : List ℕ) → All IsByte input → All IsByte (strip_tabs_and_new_lines (trim_c0_control_and_space input))
unfolding strip_tabs_and_new_lines trim_c0_control_and_space
clean_bytes input all =
    let text : List ℕ = trim_start is_c0_control_or_space input in
    let len : ℕ = length text - suffix_len is_c0_control_or_space text in
    All-filter (λ b. not (is_tab_or_new_line b)) IsByte (take len text)
    (All-take IsByte len text (All-drop IsByte (prefix_len is_c0_control_or_space input) input all))

pub url_on_web : (base : Option Parts) (input : List ℕ) → IfSome base IsValidOnWeb → All IsByte input
    → IfOk (parse_url base input) IsValidOnWeb
unfolding parse_url
url_on_web base input valid all =
    let hash = split_once 35 (strip_tabs_and_new_lines (trim_c0_control_and_space input)) in
    let question = split_once 63 hash.0 in
    let body = split_bytes 63 hash.0 (split_bytes 35 _ (clean_bytes input all)) in
    by_scheme_on_web (split_scheme question.0) base question.0 question.1 hash.1 (scheme_bytes question.0 body) valid body

-- ---- addresses

pub accepted_text : (url : Parts) (text : List ℕ) → accepted_url url ≡ Ok text → text_of url ≡ text
accepted_text url text is = grind arith

accepted_is_base : (parsed : Parsed Parts) (text : List ℕ) → IfOk parsed IsValidOnWeb → accepted parsed ≡ Ok text → IsBase text
accepted_is_base (Err e) text valid is = cc
accepted_is_base (Ok url) text valid is =
    let spelled = accepted_text url text is in
    record {
      url = url;
      spelled = spelled;
      is = record {
        valid = valid (web_from_accepted url text is);
        accepted = is
            ∙ ap Ok (sym spelled);
      };
    }

accepted_is_address : (parsed : Parsed Parts) (text : List ℕ) → IfOk parsed IsValidOnWeb → accepted parsed ≡ Ok text → IsAddress text
accepted_is_address parsed text valid is = IsBase-address text (accepted_is_base parsed text valid is)

accepted_bytes : (parsed : Parsed Parts) (text : List ℕ) → accepted parsed ≡ Ok text → All IsByte text
accepted_bytes (Err e) text is = cc
accepted_bytes (Ok url) text is =
    let bytes = subst (λ t. list_all is_address_byte t ≡ true) (accepted_text url text is) (bytes_from_accepted url text is) in
    All-weaker (Passes is_address_byte) IsByte (λ b passes. grind (arith, nat_tests)) text (All_from_list_all is_address_byte text bytes)

-- an address is a base
pub address_is_base : (text : List ℕ) → IsAddress text → IsBase text
unfolding absolute
address_is_base text is = accepted_is_base (parse_url None text) text
    (url_on_web None text tt (accepted_bytes (parse_url None text) text is.normal)) is.normal

some_if_ok : (parsed : Parsed Parts) → IfOk parsed IsValidOnWeb → IfSome (result_ok parsed) IsValidOnWeb
some_if_ok (Ok url) is = is
some_if_ok (Err e) is = tt

-- what a reference gives is an address
pub resolved_is_address : (base reference address : List ℕ) → All IsByte base → All IsByte reference → resolve base reference ≡ Ok address
    → IsAddress address
unfolding resolve absolute
resolved_is_address base reference address bases references =
    cond_both (is_absolute reference) _ _ (λ (r : Result (List ℕ) UrlFault). r ≡ Ok address → IsAddress address)
    (λ _. accepted_is_address (parse_url None reference) address (url_on_web None reference tt references))
    (λ _. accepted_is_address (parse_url (url_of base) reference) address
    (url_on_web (url_of base) reference (some_if_ok _ (url_on_web None base tt bases)) references))

-- an address is resolved to itself
pub given_again : (address : List ℕ) → IsAddress address → IsGivenAgain address
unfolding resolve
given_again address is base = cond-true _ _ _ is.web ∙ is.normal
