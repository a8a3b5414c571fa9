-- The front of references that begin at the root of a host is resolved once for all of them.
use Rattle.std.proofs.Common.{◌≡◌, ℕ, ◌-◌, ◌<◌, ◌==◌, Bool, true, false, List, [], ◌∷◌, ◌++◌, length, take, drop, get_or, ◌&&◌, ◌||◌}
use Rattle.std.proofs.Common.{not, Option, Some, None, Ok, Err, All, refl, sym}
use Rattle.std.proofs.{Common.{ap, ◌∙◌, subst, ⊎_elim, append_assoc, append-nil, take_all, take_at, drop_at, arith}}
use Rattle.std.proofs.lemmas.Bool.{and_from, and_parts, and_left, and_right, cases_Bool, cond-true, cond-false, true≢false}
use Rattle.std.proofs.{lemmas.Bool.Decides.{nat_tests, Decides-eqb}, lemmas.List.Folds.list_all-append}
use Rattle.std.proofs.lemmas.List.{get_or-reverse, length-reverse}
use Rattle.std.proofs.lemmas.List.Elements.{All-nil, All-cons, All-append, All-weaker}
use Rattle.std.specs.{Prelude.{nat_lt, unwrap_or, IfOk, IfSome, codes, reverse}, List.{list_all, prefix_len}}
use Rattle.url.specs.{declared.scheme.SchemeType.TheVariants.SpecialNotFile, declared.sets.TheConstants.PATH}
use Rattle.url.specs.{Scheme.{is_slash, is_special, is_file, scheme_len}}
use Rattle.url.specs.Input.{is_tab_or_new_line, trim_c0_control_and_space, strip_tabs_and_new_lines, split_once}
use Rattle.url.specs.{Path.{dot_count, push_segment, parse_segments, parse_path, parse_path_start, without_last_segment}, Parts.{Parts}}
use Rattle.url.specs.Parser.{Parsed, and_then, with_tail, with_path, before_tail, split_scheme, parse_parts, parse_body, parse_relative}
use Rattle.url.specs.Parser.{parse_by_scheme}
use Rattle.url.specs.Parser.{leading_slashes, skip_slashes, after_double_slash, parse_authority, parse_url}
use Rattle.url.proofs.InputLemmas.{IsNot, Passes, StopsAt, All_from_list_all, list_all_from_All, rsplit_once_at, prefix_len_at}
use Rattle.url.proofs.InputLemmas.{split_once_none, filter_all}
use Rattle.url.proofs.InputLemmas.{is_empty-nil, is_empty_nonempty}
use Rattle.url.proofs.{ValidLemmas.{is_empty-percent_encode, special_has_authority, base_from_authority}, RoundTrip.split_own_scheme}
use Rattle.url_parts.specs.Addresses.{accepted, accepted_url, is_absolute, is_web, resolve, url_of, IsBase, IsBaseUrl}
use Rattle.url_parts.specs.Paths.{is_path_byte, IsPath, IsBeneath}
use Rattle.url_parts.specs.Roots.{is_host, is_host_byte, is_inner, IsOrigin, IsRooted}
use Rattle.url_parts.proofs.Bases.{at_web, base_kind, kind_of_web, own_url, web_from_accepted}
use Rattle.url_parts.proofs.Parsed.{accepted_text, is_scheme, url_on_web, IsByte, IsValidOnWeb}
use Rattle.url_parts.proofs.{Fronts.{behind_slash, folder_is_path}, InLine.{absolute_alone, resolve_by_parse}}
use Rattle.url_parts.proofs.Relative.{no_control_at_front, resolve_along}

-- ---- the text

-- 0x21 to 0x7E without `#` and `?`
abbrev is_visible : ℕ → Bool
is_visible b = nat_lt 32 b && nat_lt b 127 && not (b == 35) && not (b == 63)

above_space : (text : List ℕ) → list_all is_visible text ≡ true → (k : ℕ) → k < length text → 32 < get_or text k 0
above_space text are k h = let here = All_from_list_all is_visible text are k 0 h in grind (arith, nat_tests)

untrimmed : (text : List ℕ) → list_all is_visible text ≡ true → trim_c0_control_and_space text ≡ text
unfolding trim_c0_control_and_space
untrimmed text are =
    let start = no_control_at_front text (λ h. above_space text are 0 h) in
    let len = length-reverse text in
    let end = no_control_at_front (reverse text) (λ h. rw (get_or-reverse text 0 0 (omega arith))
    (above_space text are (length text - 1 - 0) (omega arith))) in
    rw (start, end) (take_all _ text (omega arith))

unstripped : (text : List ℕ) → list_all is_visible text ≡ true → strip_tabs_and_new_lines text ≡ text
unfolding strip_tabs_and_new_lines
unstripped text are = filter_all _ text (All-weaker (Passes is_visible) (Passes (λ b. not (is_tab_or_new_line b)))
    (λ b passes. grind (arith, nat_tests)) text (All_from_list_all is_visible text are))

lacks : (c : ℕ) (text : List ℕ) → is_visible c ≡ false → list_all is_visible text ≡ true → All (IsNot c) text
lacks c text other are = All-weaker (Passes is_visible) (IsNot c) (λ b passes same. true≢false (sym passes ∙ ap is_visible same
    ∙ other)) text (All_from_list_all is_visible text are)

-- such a text has neither query nor fragment
untailed : (base : Option Parts) (text : List ℕ) → list_all is_visible text ≡ true
    → parse_url base text ≡ parse_by_scheme (split_scheme text) base text None None
unfolding parse_url
untailed base text are =
    let clean = ap strip_tabs_and_new_lines (untrimmed text are) ∙ unstripped text are in
    let hash = ap (split_once 35) clean ∙ split_once_none 35 text (lacks 35 text refl are) in
    let question = ap (λ r. split_once 63 r.0) hash ∙ split_once_none 63 text (lacks 63 text refl are) in
    (λ i. parse_by_scheme (split_scheme (question i).0) base (question i).0 (question i).1 (hash i).1)

-- ---- URLs from the root

-- the URL of a path from the root
abbrev rooted : Parts → List ℕ → Parts
rooted head path = record head { path = parse_path SpecialNotFile [] path; query = None; fragment = None }

-- what a text before a slash gives for each path behind it
abbrev IsRoot : Option Parts → List ℕ → Parsed Parts → Type 0
IsRoot base before head = (path : List ℕ) → list_all is_path_byte path ≡ true → StopsAt (λ b. is_slash SpecialNotFile b) path
    → parse_url base (before ++ 47 ∷ path) ≡ and_then head (λ head. Ok (rooted head path))

path_visible : (path : List ℕ) → list_all is_path_byte path ≡ true → All (Passes is_visible) path
path_visible path are = All-weaker (Passes is_path_byte) (Passes is_visible) (λ b passes. grind (arith, nat_tests)) path
    (All_from_list_all is_path_byte path are)

one_slash : (path : List ℕ) → StopsAt (λ b. is_slash SpecialNotFile b) path → leading_slashes SpecialNotFile (47 ∷ path) ≡ 1
unfolding leading_slashes
one_slash [] stops = refl
one_slash (b ∷ path) stops = rw stops refl

slash_visible : (path : List ℕ) → list_all is_path_byte path ≡ true → list_all is_visible (47 ∷ path) ≡ true
slash_visible path are = list_all_from_All is_visible (47 ∷ path) (All-cons (Passes is_visible) 47 path refl (path_visible path are))

no_scheme : (path : List ℕ) → split_scheme (47 ∷ path) ≡ None
unfolding split_scheme scheme_len
no_scheme path = refl

relative_root : (base : Parts) (path : List ℕ) → IsBaseUrl base → StopsAt (λ b. is_slash SpecialNotFile b) path
    → parse_relative base (47 ∷ path) ≡ Ok (rooted base path)
unfolding parse_relative
relative_root base path valid stops = rw (base_kind base valid, one_slash path stops) refl

root_body : (base : Parts) (path : List ℕ) → IsBaseUrl base → StopsAt (λ b. is_slash SpecialNotFile b) path
    → parse_parts base.scheme (Some base) (47 ∷ path) None None ≡ Ok (rooted base path)
unfolding parse_parts parse_body
root_body base path valid stops =
    let kind = base_kind base valid in
    cond-false _ _ _ (is_empty_nonempty (47 ∷ path) (omega arith))
    ∙ ap (λ r. and_then r (λ url. Ok (with_tail (before_tail url None None) None None))) (cond-false _ _ _ (ap is_file kind)
    ∙ relative_root base path valid stops)
    ∙ ap (λ u. Ok (with_tail u None None)) (cond-false _ _ _ (and_right _ false refl))

-- a slash alone
base_root : (base : Parts) → IsBaseUrl base → IsRoot (Some base) [] (Ok base)
base_root base valid path are stops =
    let authority = special_has_authority base valid.valid.head (ap is_special (base_kind base valid)) in
    untailed (Some base) (47 ∷ path) (slash_visible path are)
    ∙ ap (λ s. parse_by_scheme s (Some base) (47 ∷ path) None None) (no_scheme path)
    ∙ cond-false _ _ _ (and_left _ _ (base_from_authority base authority))
    ∙ root_body base path valid stops

-- ---- a host with its scheme

host_inside : (host : List ℕ) → is_host host ≡ true → All (Passes is_host_byte) host
host_inside host is = All_from_list_all is_host_byte host (and_parts (nat_lt 0 (length host)) _ is).1

stops_at_host : (host rest : List ℕ) → is_host host ≡ true → StopsAt (λ b. b == 47 || b == 92) (host ++ rest)
stops_at_host [] rest is = absurd (true≢false (sym is))
stops_at_host (b ∷ host) rest is =
    let here : is_host_byte b ≡ true = host_inside (b ∷ host) is 0 0 (omega arith) in
    grind (arith, nat_tests)

skipped : (host rest : List ℕ) → is_host host ≡ true → skip_slashes (47 ∷ 47 ∷ (host ++ rest)) ≡ host ++ rest
skipped host rest is =
    let len = prefix_len_at (λ b. b == 47 || b == 92) (47 ∷ 47 ∷ []) (host ++ rest)
    (All-cons (Passes (λ b. b == 47 || b == 92)) 47 (47 ∷ []) refl (All-cons (Passes (λ b. b == 47 || b == 92)) 47 [] refl (All-nil _)))
    (stops_at_host host rest is) in
    ap (λ n. drop n (47 ∷ 47 ∷ (host ++ rest))) len

start_root : (path : List ℕ) → parse_path_start SpecialNotFile [] (47 ∷ path) ≡ parse_path SpecialNotFile [] path
unfolding parse_path_start
start_root path = cond-false _ _ _ (and_right _ false refl)

after_host : (scheme host path : List ℕ) → is_web scheme ≡ true → is_host host ≡ true → after_double_slash scheme (host ++ 47 ∷ path)
    ≡ and_then (parse_authority scheme host) (λ head. Ok (with_path head (parse_path SpecialNotFile [] path)))
unfolding after_double_slash
after_host scheme host path web is =
    let kind = kind_of_web scheme web in
    let inside = All-weaker (Passes is_host_byte) (Passes (λ b. not (is_slash SpecialNotFile b)))
    (λ b passes. grind (arith, nat_tests)) host
    (host_inside host is) in
    let len : prefix_len (λ b. not (is_slash SpecialNotFile b)) (host ++ 47 ∷ path) ≡ length host =
    prefix_len_at (λ b. not (is_slash SpecialNotFile b)) host (47 ∷ path) inside refl in
    rw (kind, len, take_at host (47 ∷ path) (length host) refl, drop_at host (47 ∷ path) (length host) refl, start_root path) refl

web_body : (scheme host path : List ℕ) → is_web scheme ≡ true → is_host host ≡ true
    → parse_parts scheme None (47 ∷ 47 ∷ (host ++ 47 ∷ path)) None None ≡ and_then (parse_authority scheme host)
    (λ head. Ok (rooted head path))
unfolding parse_parts parse_body
web_body scheme host path web is =
    let kind = kind_of_web scheme web in
    ap (λ r. and_then r (λ url. Ok (with_tail (before_tail url None None) None None)))
    (cond-false _ _ _ (ap is_file kind) ∙ cond-true _ _ _ (ap is_special kind)
    ∙ ap (after_double_slash scheme) (skipped host (47 ∷ path) is) ∙ after_host scheme host path web is)
    ∙ tail_gone (parse_authority scheme host)
  where
    tail_gone : (head : Parsed Parts) → and_then (and_then head (λ head. Ok (with_path head (parse_path SpecialNotFile [] path))))
        (λ url. Ok (with_tail (before_tail url None None) None None)) ≡ and_then head (λ head. Ok (rooted head path))
    tail_gone (Ok head) = ap (λ u. Ok (with_tail u None None)) (cond-false _ _ _ (and_right _ false refl))
    tail_gone (Err e) = refl

web_visible : (scheme : List ℕ) → is_web scheme ≡ true → All (Passes is_visible) scheme
web_visible scheme web = at_web (All (Passes is_visible)) scheme web (All_from_list_all is_visible (codes "http") refl)
    (All_from_list_all is_visible (codes "https") refl)

origin_visible : (scheme host : List ℕ) → is_web scheme ≡ true → is_host host ≡ true
    → All (Passes is_visible) (scheme ++ (codes "://" ++ host))
origin_visible scheme host web is =
    let host_visible = All-weaker (Passes is_host_byte) (Passes is_visible) (λ b passes. grind (arith, nat_tests)) host
    (host_inside host is) in
    All-append (Passes is_visible) scheme (codes "://" ++ host) (web_visible scheme web)
    (All-append (Passes is_visible) (codes "://") host (All_from_list_all is_visible (codes "://") refl) host_visible)

front_visible : (before path : List ℕ) → All (Passes is_visible) before → list_all is_path_byte path ≡ true
    → list_all is_visible (before ++ 47 ∷ path) ≡ true
front_visible before path visible are = list_all_from_All is_visible (before ++ 47 ∷ path)
    (All-append (Passes is_visible) before (47 ∷ path) visible (All_from_list_all is_visible (47 ∷ path) (slash_visible path are)))

host_root : (scheme host : List ℕ) → is_web scheme ≡ true → is_host host ≡ true
    → IsRoot None (scheme ++ (codes "://" ++ host)) (parse_authority scheme host)
host_root scheme host web is path are stops =
    let rest : List ℕ = 47 ∷ 47 ∷ (host ++ 47 ∷ path) in
    let text : List ℕ = (scheme ++ (codes "://" ++ host)) ++ 47 ∷ path in
    let whole : text ≡ scheme ++ 58 ∷ rest = append_assoc scheme (codes "://" ++ host) (47 ∷ path) in
    untailed None text (front_visible (scheme ++ (codes "://" ++ host)) path (origin_visible scheme host web is) are)
    ∙ ap (λ s. parse_by_scheme s None text None None) (ap split_scheme whole ∙ split_own_scheme scheme rest (is_scheme scheme web))
    ∙ ap (λ s. parse_parts s None rest None None) (is_scheme scheme web).lower
    ∙ web_body scheme host path web is

begins_web : (scheme rest : List ℕ) → is_web scheme ≡ true → is_absolute (scheme ++ (codes "://" ++ rest)) ≡ true
begins_web scheme rest web = at_web (λ s. is_absolute (s ++ (codes "://" ++ rest)) ≡ true) scheme web refl refl

-- with any base
web_root : (base : Option Parts) (scheme host : List ℕ) → is_web scheme ≡ true → is_host host ≡ true
    → IsRoot base (scheme ++ (codes "://" ++ host)) (parse_authority scheme host)
web_root base scheme host web is path are stops =
    let text : List ℕ = (scheme ++ (codes "://" ++ host)) ++ 47 ∷ path in
    let absolute : is_absolute text ≡ true = ap is_absolute (append_assoc scheme (codes "://" ++ host) (47 ∷ path))
    ∙ begins_web scheme (host ++ 47 ∷ path) web in
    absolute_alone base text absolute ∙ host_root scheme host web is path are stops

-- ---- paths beneath

-- a slash at the end takes no part in the path behind it
at_root : (path : List ℕ) → parse_path SpecialNotFile (without_last_segment (parse_path SpecialNotFile [] [])) path
    ≡ parse_path SpecialNotFile [] path
unfolding parse_segments push_segment dot_count
at_root path =
    let none = is_empty-nil _ (is_empty-percent_encode PATH []) in
    ap (λ p. parse_path SpecialNotFile p path)
    (ap (λ t. without_last_segment (47 ∷ t)) none ∙ ap (λ r. unwrap_or r.0 []) (rsplit_once_at 47 [] [] (All-nil (IsNot 47))))

no_bytes : (text : List ℕ) → (length text == 0) ≡ true → text ≡ []
no_bytes [] none = refl
no_bytes (b ∷ text) none = absurd (let zero = (Decides-eqb _ _).0 none in omega arith)

record Inner (folder : List ℕ) : Type 0 where
  bytes : list_all is_path_byte folder ≡ true
  begins : StopsAt (λ b. is_slash SpecialNotFile b) folder
  begins_all : (path : List ℕ) → IsPath path → StopsAt (λ b. is_slash SpecialNotFile b) (folder ++ path)
  same : (path : List ℕ) → parse_path SpecialNotFile (without_last_segment (parse_path SpecialNotFile [] folder)) path
      ≡ parse_path SpecialNotFile [] (folder ++ path)

path_begins : (path rest : List ℕ) → IsPath path → StopsAt (λ b. is_slash SpecialNotFile b) (path ++ rest)
path_begins [] rest is = absurd (let some = is.some in omega arith)
path_begins (b ∷ path) rest is =
    let here : is_path_byte b ≡ true = All_from_list_all is_path_byte (b ∷ path) is.bytes 0 0 (omega arith) in
    let first = is.first in grind (arith, nat_tests)

inner_is : (folder : List ℕ) → is_inner folder ≡ true → Inner folder
inner_is folder is =
    ⊎_elim
    (λ none. subst Inner (sym (no_bytes folder none)) (record {
      bytes = refl;
      begins = tt;
      begins_all = λ path more. subst (StopsAt (λ b. is_slash SpecialNotFile b)) (append-nil path) (path_begins path [] more);
      same = at_root;
    }))
    (λ some.
    let parts = folder_is_path folder (rw some at is) in
    let before : List ℕ = take (length folder - 1) folder in
    record {
      bytes = parts.0.bytes;
      begins = subst (StopsAt (λ b. is_slash SpecialNotFile b)) (append-nil folder) (path_begins folder [] parts.0);
      begins_all = λ path more. path_begins folder path parts.0;
      same = λ path. subst (λ f. parse_path SpecialNotFile (without_last_segment (parse_path SpecialNotFile [] f)) path
          ≡ parse_path SpecialNotFile [] (f ++ path)) (sym parts.1)
          (sym (ap (parse_path SpecialNotFile []) (append_assoc before (47 ∷ []) path) ∙ behind_slash before [] [] path));
    })
    (cases_Bool (length folder == 0))

module _ (base : List ℕ) (before folder deeper : List ℕ) (inner : Inner folder) (visible : All (Passes is_visible) before)
    (valid : IfSome (url_of base) IsValidOnWeb) (resolved : resolve base (before ++ 47 ∷ folder) ≡ Ok deeper) where
  bytes_are : All IsByte (before ++ 47 ∷ folder)
  bytes_are = All-weaker (Passes is_visible) IsByte (λ b passes. grind (arith, nat_tests)) (before ++ 47 ∷ folder)
      (All_from_list_all is_visible (before ++ 47 ∷ folder) (front_visible before folder visible inner.bytes))

  url_is_base : (head : Parts) → parse_url (url_of base) (before ++ 47 ∷ folder) ≡ Ok (rooted head folder)
      → accepted_url (rooted head folder) ≡ Ok deeper → IsBaseUrl (rooted head folder)
  url_is_base head parsed taken = record {
    valid = (subst (λ r. IfOk r IsValidOnWeb) parsed (url_on_web (url_of base) (before ++ 47 ∷ folder) valid bytes_are))
        (web_from_accepted (rooted head folder) deeper taken);
    accepted = taken ∙ ap Ok (sym (accepted_text (rooted head folder) deeper taken));
  }

  from_head : (head : Parsed Parts) → IsRoot (url_of base) before head → (path : List ℕ) → IsPath path
      → resolve base ((before ++ 47 ∷ folder) ++ path) ≡ resolve deeper path
  from_head (Err e) is path more =
      let refused = sym (ap accepted (is folder inner.bytes inner.begins)) ∙ sym (resolve_by_parse base (before ++ 47 ∷ folder))
      ∙ resolved in cc
  from_head (Ok head) is path more =
      let url : Parts = rooted head folder in
      let parsed = is folder inner.bytes inner.begins in
      let taken : accepted_url url ≡ Ok deeper = sym (resolve_by_parse base (before ++ 47 ∷ folder) ∙ ap accepted parsed) ∙ resolved in
      let bytes = list_all-append is_path_byte folder path ∙ and_from _ _ inner.bytes more.bytes in
      resolve_by_parse base ((before ++ 47 ∷ folder) ++ path)
      ∙ ap (λ t. accepted (parse_url (url_of base) t)) (append_assoc before (47 ∷ folder) path)
      ∙ ap accepted (is (folder ++ path) bytes (inner.begins_all path more))
      ∙ ap (λ p. accepted_url (record head { path = p; query = None; fragment = None })) (sym (inner.same path))
      ∙ sym (resolve_along url path (url_is_base head parsed taken) more) ∙ ap (λ t. resolve t path) (accepted_text url deeper taken)

own : (base : List ℕ) (is : IsBase base) → url_of base ≡ Some is.url
own base is = subst (λ b. url_of b ≡ Some is.url) is.spelled (own_url is.url is.is)

pub beneath_root : (base front deeper : List ℕ) → IsBase base → IsRooted front → resolve base front ≡ Ok deeper
    → IsBeneath base front deeper
beneath_root base front deeper is root resolved path more =
    let known = own base is in
    let inner = inner_is root.path root.inner in
    let valid : IfSome (url_of base) IsValidOnWeb = subst (λ u. IfSome u IsValidOnWeb) (sym known) (λ _. is.is.valid) in
    let given = sym (ap (resolve base) root.whole) ∙ resolved in
    ap (λ t. resolve base (t ++ path)) root.whole ∙ ⊎_elim
    (λ alone. subst (λ b. resolve base ((b ++ 47 ∷ root.path) ++ path) ≡ resolve deeper path) (sym alone)
    (from_head base [] root.path deeper inner (All-nil (Passes is_visible)) valid
    (sym (ap (λ b. resolve base (b ++ 47 ∷ root.path)) alone) ∙ given) (Ok is.url)
    (subst (λ u. IsRoot u [] (Ok is.url)) (sym known) (base_root is.url is.is)) path more))
    (λ (origin : IsOrigin root.before). let before : List ℕ = origin.scheme ++ (codes "://" ++ origin.host) in
    subst (λ b. resolve base ((b ++ 47 ∷ root.path) ++ path) ≡ resolve deeper path) (sym origin.whole)
    (from_head base before root.path deeper inner (origin_visible origin.scheme origin.host origin.web origin.named) valid
    (sym (ap (λ b. resolve base (b ++ 47 ∷ root.path)) origin.whole) ∙ given) (parse_authority origin.scheme origin.host)
    (web_root (url_of base) origin.scheme origin.host origin.web origin.named) path more))
    root.origin
