-- A name that is resolved against a base stands behind the base's folder.
use Rattle.std.proofs.Common.{◌≡◌, ◌≢◌, ℕ, suc, ◌+◌, ◌-◌, ◌<◌, ◌≤◌, true, false, not, ◌==◌, ltb, List, [], ◌∷◌, ◌++◌, length, get_or, take}
use Rattle.std.proofs.Common.{◌⊎◌, ◌||◌, Bool, inr}
use Rattle.std.proofs.Common.{drop, Option, Some, None, Ok, All, sym, refl, inl, ap, ◌∙◌, subst, ⊎_elim, append_assoc, append-nil, arith}
use Rattle.std.proofs.{Common.{length-append, take_all, take_at, lit<}, lemmas.Bool.{cond-false, cases_Bool, cases_eq, true≢false}}
use Rattle.std.proofs.lemmas.Bool.{and_from, and_parts, not-true, or_left, and_left, and_right, ne_eqb, eq-eqb, le-ltb, ltb-true, ltb-false}
use Rattle.std.proofs.{lemmas.Slice.Eq.{bytes_eq-Decides, starts_is}, lemmas.Bool.Decides.{nat_tests, Decides-eqb}}
use Rattle.std.proofs.lemmas.List.{take-append-drop, get_or-reverse, length-reverse, get_or_past, get_or_at, get_or_append_left}
use Rattle.std.proofs.{lemmas.List.get_or-append_right, lemmas.List.Elements.{All-nil, All-cons, All-head, All-tail, All-append, All-push}}
use Rattle.std.proofs.{lemmas.List.Elements.{All-take, All-weaker}, lemmas.List.Sums.suffix_len_is, lemmas.List.Concat.flat_map-append}
use Rattle.std.specs.{Prelude.{nat_eq, nat_lt, bytes_eq, option_map, codes, reverse, is_some, unwrap_or}, List.{starts_with, list_all, prefix_len}}
use Rattle.std.specs.{List.{suffix_len, concat}, Option.option_eq, Result.result_ok}
use Rattle.url.specs.{declared.slicing.Position.TheVariants.{AfterPort, AfterPath}, declared.sets.TheConstants.PATH}
use Rattle.url.specs.{declared.scheme.SchemeType.TheVariants.SpecialNotFile, Path.{dot_count, parse_path, without_last_segment}}
use Rattle.url.specs.{Path.{shorten_path, IsSegment, join_segments, IsSegmentList}, Input.{when, rsplit_step, rsplit_once}}
use Rattle.url.specs.Input.{is_c0_control_or_space, is_tab_or_new_line, trim_c0_control_and_space, strip_tabs_and_new_lines, split_once}
use Rattle.url.specs.{Scheme.{scheme_len, is_special, is_file}, Parts.{Parts, pieces, text_before, IsHierarchicalPath, IsValid}}
use Rattle.url.specs.Parser.{split_scheme, parse_parts, parse_body, parse_relative, parse_by_scheme, leading_slashes}
use Rattle.url.specs.Parser.{and_then, with_tail, before_tail, parse_url}
use Rattle.url.proofs.InputLemmas.{IsNot, Passes, All_from_list_all, list_all_from_All, StopsAt, prefix_len_at, split_once_none, filter_all}
use Rattle.url.proofs.{InputLemmas.is_empty_nonempty, ValidLemmas.{special_has_authority, base_from_authority, hierarchical}}
use Rattle.url.proofs.{LayoutLemmas.IsValidHead_same, PathLemmas.{rooted, without_last_valid}, PiecesLemmas.concat-split}
use Rattle.url.proofs.{TextLemmas.{is_body_byte, body_bytes}, SetLemmas.kept_from_passes, RoundTrip.{parse_own_segments, stays_unless_file}}
use Rattle.url_parts.specs.Addresses.{is_address_byte, is_web, accepted_url, accepted, is_normal, resolve, beside, unchanged, is_absolute}
use Rattle.url_parts.specs.Addresses.{url_of, text_of, is_tail, without_tail, through_last_slash, folder_of, unless_long, IsAddress, IsBase}
use Rattle.url_parts.specs.{Addresses.IsBaseUrl, Paths.{is_path_byte, is_plain, is_segment_byte, IsPath}}
use Rattle.url_parts.proofs.Bases.{base_kind, own_url, base_is_address, parse_web_text, web_from_accepted, bytes_from_accepted}
use Rattle.bridge_io.specs.Names.{is_name_byte, is_proper_part, parts_after, is_name}

-- the URL of a name in a base's folder
abbrev pub child : Parts → List ℕ → Parts
child base name = record base { path = without_last_segment base.path ++ 47 ∷ name; query = None; fragment = None }

-- a byte of a name between its slashes
abbrev IsPartByte : ℕ → Type 0
IsPartByte b = Passes is_name_byte b × (b ≢ 47)

dot_count_proper : (s : List ℕ) → All IsPartByte s → is_proper_part s ≡ true → dot_count s ≡ 0
unfolding dot_count
dot_count_proper [] part proper = absurd (true≢false (sym proper))
dot_count_proper (a ∷ []) part proper = let here = part 0 0 (omega arith) in grind (arith, nat_tests)
dot_count_proper (a ∷ b ∷ []) part proper = let here = part 0 0 (omega arith) in let next = part 1 0 (omega arith) in
    grind (arith, nat_tests)
dot_count_proper (a ∷ b ∷ c ∷ s) part proper = let here = part 0 0 (omega arith) in let next = part 1 0 (omega arith) in
    grind (arith, nat_tests)

part_is_segment : (s : List ℕ) → All IsPartByte s → is_proper_part s ≡ true → IsSegment SpecialNotFile s
part_is_segment s part proper = record {
  escaped = λ k d h. let here = part k d h in kept_from_passes is_name_byte PATH refl _ (grind (arith, nat_tests)) here.0;
  whole = λ k d h. let here = part k d h in grind (arith, nat_tests);
  resolved = dot_count_proper s part proper;
}

-- a relative path is a segment, and further ones after slashes
record Segments (path : List ℕ) : Type 0 where
  first : List ℕ
  others : List (List ℕ)
  joined : path ≡ first ++ join_segments others
  first_is : IsSegment SpecialNotFile first
  each : All (IsSegment SpecialNotFile) others

segments_from : (front bytes : List ℕ) → All IsPartByte front → All (Passes is_name_byte) bytes
    → list_all is_proper_part (parts_after front bytes) ≡ true → Segments (front ++ bytes)
segments_from front [] part name proper = record {
  first = front;
  others = [];
  joined = refl;
  first_is = part_is_segment front part (and_parts _ _ proper).0;
  each = All-nil (IsSegment SpecialNotFile);
}
segments_from front (b ∷ bytes) part name proper =
    let later = All-tail (Passes is_name_byte) b bytes name in
    ⊎_elim
    (λ slash. let here = rw slash at proper in
    let both = and_parts (is_proper_part front) (list_all is_proper_part (parts_after [] bytes)) here in
    let rest : Segments bytes = segments_from [] bytes (All-nil IsPartByte) later both.1 in
    record {
      first = front;
      others = rest.first ∷ rest.others;
      joined = λ i. front ++ slash i ∷ rest.joined i;
      first_is = part_is_segment front part both.0;
      each = All-cons (IsSegment SpecialNotFile) rest.first rest.others rest.first_is rest.each;
    })
    (λ other. let here = rw (ne_eqb b 47 other) at proper in
    subst Segments (append_assoc front (b ∷ []) bytes) (segments_from (front ++ b ∷ []) bytes
    (All-push IsPartByte front b part (All-head (Passes is_name_byte) b bytes name, other)) later here))
    (cases_eq b 47)

either : (x y : Bool) → (x || y) ≡ true → (x ≡ true) ⊎ (y ≡ true)
either true y is = inl refl
either false y is = inr is

-- a part without a slash
one_part : (front text : List ℕ) → list_all is_segment_byte text ≡ true → parts_after front text ≡ (front ++ text) ∷ []
one_part front [] segment = ap (λ t. t ∷ []) (sym (append-nil front))
one_part front (b ∷ text) segment =
    let both = and_parts (is_segment_byte b) (list_all is_segment_byte text) segment in
    let other : (b == 47) ≡ false = not-true _ (and_parts _ _ both.0).1 in
    rw other (one_part (front ++ b ∷ []) text both.1 ∙ ap (λ t. t ∷ []) (append_assoc front (b ∷ []) text))

segment_bytes : (text : List ℕ) → list_all is_segment_byte text ≡ true → All (Passes is_name_byte) text
segment_bytes text segment = All-weaker (Passes is_segment_byte) (Passes is_name_byte) (λ b passes. (and_parts (is_name_byte b) _ passes).0) text
    (All_from_list_all is_segment_byte text segment)

name_bytes : (name : List ℕ) → is_plain name ≡ true → All (Passes is_name_byte) name
name_bytes name is =
    ⊎_elim
    (λ named. All_from_list_all is_name_byte name (and_parts _ _ (and_parts _ _ named).0).1)
    (λ long. segment_bytes name (and_parts (nat_lt 255 (length name)) (list_all is_segment_byte name) long).1)
    (either (is_name name) _ is)

long_is_proper : (text : List ℕ) → nat_lt 255 (length text) ≡ true → is_proper_part text ≡ true
long_is_proper text long = grind (arith, nat_tests)

name_parts : (name : List ℕ) → is_plain name ≡ true → list_all is_proper_part (parts_after [] name) ≡ true
name_parts name is =
    ⊎_elim
    (λ named. (and_parts _ _ named).1)
    (λ long. let both = and_parts (nat_lt 255 (length name)) (list_all is_segment_byte name) long in
    rw (one_part [] name both.1) (and_from _ _ (long_is_proper name both.0) refl))
    (either (is_name name) _ is)

name_segments : (name : List ℕ) → is_plain name ≡ true → Segments name
name_segments name is = segments_from [] name (All-nil IsPartByte) (name_bytes name is) (name_parts name is)

-- the segments of a name stay as they are, behind a path
parse_name_path : (path name : List ℕ) → is_plain name ≡ true → parse_path SpecialNotFile path name ≡ path ++ 47 ∷ name
parse_name_path path name is = let s = name_segments name is in
    rw s.joined (parse_own_segments SpecialNotFile path s.first s.others
    (stays_unless_file SpecialNotFile path s.first refl) s.first_is s.each)

name_path_valid : (path name : List ℕ) → IsSegmentList SpecialNotFile path → is_plain name ≡ true
    → IsSegmentList SpecialNotFile (path ++ 47 ∷ name)
name_path_valid path name list is = let s = name_segments name is in record {
  segments = list.segments ++ s.first ∷ s.others;
  joined = (λ i. list.joined i ++ 47 ∷ s.joined i) ∙ sym (flat_map-append (λ segment. 47 ∷ segment) list.segments (s.first ∷ s.others));
  each = All-append (IsSegment SpecialNotFile) list.segments (s.first ∷ s.others) list.each
      (All-cons (IsSegment SpecialNotFile) s.first s.others s.first_is s.each);
}

-- ---- what a path is read as

above_space : (text : List ℕ) → IsPath text → (k : ℕ) → k < length text → 32 < get_or text k 0
above_space text is k h = let here = All_from_list_all is_path_byte text is.bytes k 0 h in grind (arith, nat_tests)

pub no_control_at_front : (xs : List ℕ) → (0 < length xs → 32 < get_or xs 0 0) → prefix_len is_c0_control_or_space xs ≡ 0
no_control_at_front [] first = refl
no_control_at_front (x ∷ xs) first = let here = first (omega arith) in grind (arith, nat_tests)

untrimmed : (text : List ℕ) → IsPath text → trim_c0_control_and_space text ≡ text
unfolding trim_c0_control_and_space
untrimmed text is =
    let start = no_control_at_front text (λ h. above_space text is 0 h) in
    let len = length-reverse text in
    let some = is.some in
    let end = no_control_at_front (reverse text) (λ h. rw (get_or-reverse text 0 0 (omega arith))
    (above_space text is (length text - 1 - 0) (omega arith))) in
    rw (start, end) (take_all _ text (omega arith))

unstripped : (text : List ℕ) → IsPath text → strip_tabs_and_new_lines text ≡ text
unfolding strip_tabs_and_new_lines
unstripped text is = filter_all _ text (All-weaker (Passes is_path_byte) (Passes (λ b. not (is_tab_or_new_line b)))
    (λ b passes. grind (arith, nat_tests)) text (All_from_list_all is_path_byte text is.bytes))

lacks : (c : ℕ) (text : List ℕ) → is_path_byte c ≡ false → IsPath text → All (IsNot c) text
lacks c text other is = All-weaker (Passes is_path_byte) (IsNot c) (λ b passes same. true≢false (sym passes ∙ ap is_path_byte same
    ∙ other)) text (All_from_list_all is_path_byte text is.bytes)

no_colon : (text : List ℕ) (n : ℕ) → IsPath text → (get_or text n 0 == 58) ≡ false
no_colon text n is =
    ⊎_elim
    (λ inside. let here = All_from_list_all is_path_byte text is.bytes n 0 (ltb-true _ _ inside) in grind (arith, nat_tests))
    (λ outside. rw (get_or_past text n 0 (ltb-false _ _ outside)) refl)
    (cases_Bool (ltb n (length text)))

-- a path has no `:`, so it has no scheme
no_scheme : (text : List ℕ) → IsPath text → split_scheme text ≡ None
unfolding split_scheme
no_scheme text is = cond-false _ _ _ (and_right _ _ (no_colon text (scheme_len text) is))

no_slash_at_front : (text : List ℕ) → IsPath text → leading_slashes SpecialNotFile text ≡ 0
unfolding leading_slashes
no_slash_at_front [] is = refl
no_slash_at_front (b ∷ text) is =
    let here = All_from_list_all is_path_byte (b ∷ text) is.bytes 0 0 (omega arith) in
    let other = is.first in
    grind (arith, nat_tests)

-- the URL of a path against a base
abbrev pub along : Parts → List ℕ → Parts
along base text = record base { path = parse_path SpecialNotFile (without_last_segment base.path) text; query = None; fragment = None }

relative_path : (base : Parts) (text : List ℕ) → IsBaseUrl base → IsPath text → parse_relative base text ≡ Ok (along base text)
unfolding parse_relative shorten_path
relative_path base text valid is = rw (base_kind base valid, no_slash_at_front text is) refl

parse_path_body : (base : Parts) (text : List ℕ) → IsBaseUrl base → IsPath text
    → parse_parts base.scheme (Some base) text None None ≡ Ok (along base text)
unfolding parse_parts parse_body
parse_path_body base text valid is =
    let kind = base_kind base valid in
    cond-false _ _ _ (is_empty_nonempty text is.some)
    ∙ ap (λ r. and_then r (λ url. Ok (with_tail (before_tail url None None) None None))) (cond-false _ _ _ (ap is_file kind)
    ∙ relative_path base text valid is)
    ∙ ap (λ u. Ok (with_tail u None None)) (cond-false _ _ _ (and_right _ false refl))

pub parse_along : (base : Parts) (text : List ℕ) → IsBaseUrl base → IsPath text → parse_url (Some base) text ≡ Ok (along base text)
unfolding parse_url
parse_along base text valid is =
    let authority = special_has_authority base valid.valid.head (ap is_special (base_kind base valid)) in
    let clean = ap strip_tabs_and_new_lines (untrimmed text is) ∙ unstripped text is in
    let hash = ap (split_once 35) clean ∙ split_once_none 35 text (lacks 35 text refl is) in
    let question = ap (λ r. split_once 63 r.0) hash ∙ split_once_none 63 text (lacks 63 text refl is) in
    let scheme = ap (λ r. split_scheme r.0) question ∙ no_scheme text is in
    (λ i. parse_by_scheme (scheme i) (Some base) (question i).0 (question i).1 (hash i).1)
    ∙ cond-false _ _ _ (and_left _ _ (base_from_authority base authority))
    ∙ parse_path_body base text valid is

lacks_front : (front text : List ℕ) (i : ℕ) → i < length front → get_or front i 0 ≡ 58 → IsPath text
    → starts_with nat_eq text front ≡ false
lacks_front front text i inside colon is =
    ⊎_elim
    (λ begins.
    let whole = (starts_is Decides-eqb text front (starts_with nat_eq text front) refl).0 begins in
    let at = ap (λ t. get_or t i 0) whole ∙ get_or_append_left front (drop (length front) text) 0 i inside ∙ colon in
    absurd (true≢false (ap (λ b. b == 58) (sym at) ∙ no_colon text i is)))
    (λ other. other)
    (cases_Bool (starts_with nat_eq text front))

not_absolute : (text : List ℕ) → IsPath text → is_absolute text ≡ false
not_absolute text is = rw (lacks_front (codes "http://") text 4 (lit< tt) refl is, lacks_front (codes "https://") text 5 (lit< tt) refl is)

pub resolve_along : (base : Parts) (text : List ℕ) → IsBaseUrl base → IsPath text
    → resolve (text_of base) text ≡ accepted_url (along base text)
unfolding resolve
resolve_along base text valid is =
    cond-false _ _ _ (not_absolute text is) ∙ ap (λ b. accepted (parse_url b text)) (own_url base valid)
    ∙ ap accepted (parse_along base text valid is)

-- ---- what a name is read as

pub name_is_path : (name : List ℕ) → is_plain name ≡ true → IsPath name
name_is_path [] is = absurd (true≢false (sym is))
name_is_path (b ∷ name) is =
    let proper = name_parts (b ∷ name) is in
    record {
      bytes = list_all_from_All is_path_byte (b ∷ name) (All-weaker (Passes is_name_byte) (Passes is_path_byte)
          (λ c passes. grind (arith, nat_tests)) (b ∷ name) (name_bytes (b ∷ name) is));
      some = omega arith;
      first = ⊎_elim (λ slash. absurd (true≢false (sym (rw slash at proper)))) (λ other. other) (cases_Bool (b == 47));
    }

child_along : (base : Parts) (name : List ℕ) → is_plain name ≡ true → along base name ≡ child base name
child_along base name is = ap (λ p. record base { path = p; query = None; fragment = None })
    (parse_name_path (without_last_segment base.path) name is)

-- ---- its text

-- the base's path is its last segment behind a slash, after what stands before
base_path : (base : Parts) → IsBaseUrl base → IsHierarchicalPath SpecialNotFile base.path
base_path base valid =
    let authority = special_has_authority base valid.valid.head (ap is_special (base_kind base valid)) in
    subst (λ k. IsHierarchicalPath k base.path) (base_kind base valid)
    (hierarchical base valid.valid.path (base_from_authority base authority))

pub child_valid : (base : Parts) (name : List ℕ) → IsBaseUrl base → is_plain name ≡ true → IsValid (child base name)
child_valid base name valid is = record {
  head = IsValidHead_same base (child base name) refl valid.valid.head;
  path = inl (subst (λ k. IsHierarchicalPath k (without_last_segment base.path ++ 47 ∷ name)) (sym (base_kind base valid)) (
    name_path_valid (without_last_segment base.path) name (without_last_valid SpecialNotFile base.path (base_path base valid).0) is,
    λ _. simp length-append (omega arith),
  ));
  query = tt;
  fragment = tt;
}

-- the text before the path
abbrev head_text : Parts → List ℕ
head_text url = text_before url AfterPort

child_text : (base : Parts) (name : List ℕ) → IsBaseUrl base → text_of (child base name) ≡ head_text base
    ++ (without_last_segment base.path ++ 47 ∷ name)
unfolding text_of
child_text base name valid =
    let authority = special_has_authority base valid.valid.head (ap is_special (base_kind base valid)) in
    concat-split (pieces (child base name)) 9
    ∙ ap (λ t. head_text base ++ t) (rw authority (append-nil (without_last_segment base.path ++ 47 ∷ name)))

-- a query or a fragment begins a tail
tail_stops : (query fragment : Option (List ℕ))
    → StopsAt (λ b. not (is_tail b)) (when (is_some query) (63 ∷ [])
    ++ (unwrap_or query [] ++ (when (is_some fragment) (35 ∷ []) ++ (unwrap_or fragment [] ++ []))))
tail_stops None None = tt
tail_stops None (Some fragment) = refl
tail_stops (Some query) fragment = refl

without_own_tail : (base : Parts) → IsBaseUrl base → without_tail (text_of base) ≡ head_text base ++ base.path
unfolding text_of
without_own_tail base valid =
    let authority = special_has_authority base valid.valid.head (ap is_special (base_kind base valid)) in
    let test = λ (b : ℕ). not (is_tail b) in
    let front = text_before base AfterPath in
    let tail = concat (drop 11 (pieces base)) in
    let body = All-weaker (Passes is_body_byte) (Passes test) (λ b passes. grind (arith, nat_tests)) front (body_bytes base valid.valid) in
    let len = prefix_len_at test front tail body (tail_stops base.query base.fragment) in
    let whole = concat-split (pieces base) 11 in
    let spelled : front ≡ head_text base ++ base.path = concat-split (take 11 (pieces base)) 9
    ∙ ap (λ t. head_text base ++ t) (rw authority (append-nil base.path)) in
    ap without_tail whole ∙ ap (λ n. take n (front ++ tail)) len ∙ take_at front tail _ refl ∙ spelled

-- ---- the last slash

pub through_slash_at : (text : List ℕ) (k : ℕ) → k < length text → get_or text k 0 ≡ 47
    → ((i : ℕ) → k < i → i < length text → get_or text i 0 ≢ 47) → through_last_slash text ≡ take (k + 1) text
through_slash_at text k inside slash after =
    let test = λ (b : ℕ). not (b == 47) in
    let len : suffix_len test text ≡ length text - (k + 1) = suffix_len_is test text (k + 1) 0 (omega arith)
    (λ i above below. rw (ne_eqb _ 47 (after i (omega arith) below)) refl) (λ _. let back : k + 1 - 1 ≡ k = omega arith in
    rw (back, slash) refl) in
    let cut : length text - suffix_len test text ≡ k + 1 = omega (arith, len) in
    ap (λ n. take n text) cut

pub through_no_slash : (text : List ℕ) → ((i : ℕ) → i < length text → get_or text i 0 ≢ 47) → through_last_slash text ≡ []
through_no_slash text none =
    let test = λ (b : ℕ). not (b == 47) in
    let len : suffix_len test text ≡ length text - 0 = suffix_len_is test text 0 0 (omega arith)
    (λ i above below. rw (ne_eqb _ 47 (none i below)) refl) (λ h. absurd (omega arith)) in
    let gone : length text - suffix_len test text ≡ 0 = omega (arith, len) in
    ap (λ n. take n text) gone

abbrev SplitsAtLast : ℕ → List ℕ → Option (List ℕ) → List ℕ → Type 0
SplitsAtLast s xs None back = All (IsNot s) xs × (back ≡ xs)
SplitsAtLast s xs (Some front) back = (xs ≡ front ++ s ∷ back) × All (IsNot s) back

splits_one_more : (s b : ℕ) (o : Option (List ℕ)) (back xs : List ℕ) → SplitsAtLast s xs o back
    → SplitsAtLast s (b ∷ xs) (rsplit_step s b o back).0 (rsplit_step s b o back).1
splits_one_more s b (Some front) back xs h = (ap (λ t. b ∷ t) h.0, h.1)
splits_one_more s b None back xs h =
    ⊎_elim
    (λ same. rw (eq-eqb b s same) (λ i. same i ∷ sym h.1 i, subst (All (IsNot s)) (sym h.1) h.0))
    (λ other. rw (ne_eqb b s other) (All-cons (IsNot s) b xs other h.0, ap (λ t. b ∷ t) h.1))
    (cases_eq b s)

splits_at_last : (s : ℕ) (xs : List ℕ) → SplitsAtLast s xs (rsplit_once s xs).0 (rsplit_once s xs).1
unfolding rsplit_once
splits_at_last s [] = (All-nil (IsNot s), refl)
splits_at_last s (b ∷ xs) = splits_one_more s b (rsplit_once s xs).0 (rsplit_once s xs).1 xs (splits_at_last s xs)

last_segment : (path : List ℕ) (o : Option (List ℕ)) (back : List ℕ) → get_or path 0 0 ≡ 47 → 0 < length path → SplitsAtLast 47 path o back
    → (path ≡ unwrap_or o [] ++ 47 ∷ back) × All (IsNot 47) back
last_segment path None back slash nonempty h = absurd (h.0 0 0 nonempty slash)
last_segment path (Some front) back slash nonempty h = h

through_last : (front last : List ℕ) → All (IsNot 47) last → through_last_slash (front ++ 47 ∷ last) ≡ front ++ 47 ∷ []
through_last front last whole =
    let text : List ℕ = front ++ 47 ∷ last in
    let len = length-append front (47 ∷ last) in
    let after : (i : ℕ) → length front < i → i < length text → get_or text i 0 ≢ 47 =
    λ i above inside same. let m : ℕ = i - length front - 1 in
    let at : i - length front ≡ suc m = omega arith in
    let read : get_or text i 0 ≡ get_or last m 0 = get_or-append_right front (47 ∷ last) (length front) i 0 refl (omega arith)
    ∙ ap (λ n. get_or (47 ∷ last) n 0) at in
    whole m 0 (omega arith) (sym read ∙ same) in
    through_slash_at text (length front) (omega arith) (get_or_at front 47 last 0 _ refl) after
    ∙ ap (take (length front + 1)) (sym (append_assoc front (47 ∷ []) last))
    ∙ take_at (front ++ 47 ∷ []) last _ (length-append front (47 ∷ []))

folder_text : (base : Parts) → IsBaseUrl base → folder_of (text_of base) ≡ head_text base ++ (without_last_segment base.path ++ 47 ∷ [])
unfolding folder_of
folder_text base valid =
    let path = base_path base valid in
    let slash : get_or base.path 0 0 ≡ 47 = ⊎_elim (λ empty. absurd (let long = path.1 refl in let none = ap length empty in omega arith))
    (λ slash. slash) (rooted SpecialNotFile base.path path.0) in
    let split = last_segment base.path _ _ slash (path.1 refl) (splits_at_last 47 base.path) in
    ap through_last_slash (without_own_tail base valid ∙ ap (λ p. head_text base ++ p) split.0
    ∙ sym (append_assoc (head_text base) (without_last_segment base.path) _))
    ∙ through_last _ _ split.1 ∙ append_assoc (head_text base) (without_last_segment base.path) (47 ∷ [])

-- ---- what a name gives

-- a name stands behind the folder of the base
pub child_spelled : (base : Parts) (name : List ℕ) → IsBaseUrl base → text_of (child base name) ≡ folder_of (text_of base) ++ name
child_spelled base name valid =
    let front = without_last_segment base.path in
    rw (folder_text base valid) (child_text base name valid ∙ sym (append_assoc (head_text base) (front ++ 47 ∷ []) name
    ∙ ap (λ t. head_text base ++ t) (append_assoc front (47 ∷ []) name)))

folder_bytes : (text : List ℕ) → list_all is_address_byte text ≡ true → All (Passes is_address_byte) (folder_of text)
unfolding folder_of
folder_bytes text bytes = All-take (Passes is_address_byte) _ _ (All-take (Passes is_address_byte) _ text
    (All_from_list_all is_address_byte text bytes))

child_bytes : (base : Parts) (name : List ℕ) → IsBaseUrl base → is_plain name ≡ true
    → list_all is_address_byte (folder_of (text_of base) ++ name) ≡ true
child_bytes base name valid is =
    let folder = folder_bytes (text_of base) (bytes_from_accepted base _ valid.accepted) in
    let named = All-weaker (Passes is_name_byte) (Passes is_address_byte) (λ b passes. grind (arith, nat_tests)) name
    (name_bytes name is) in
    list_all_from_All is_address_byte _ (All-append (Passes is_address_byte) (folder_of (text_of base)) name folder named)

pub accepted_child : (base : Parts) (name : List ℕ) → IsBaseUrl base → is_plain name ≡ true
    → accepted_url (child base name) ≡ unless_long (folder_of (text_of base) ++ name)
accepted_child base name valid is =
    rw (child_spelled base name valid, child_bytes base name valid is, web_from_accepted base _ valid.accepted)

child_is_base : (base : Parts) (name : List ℕ) → IsBaseUrl base → is_plain name ≡ true → length (folder_of (text_of base) ++ name) ≤ 2048
    → IsBaseUrl (child base name)
child_is_base base name valid is short = record {
  valid = child_valid base name valid is;
  accepted = accepted_child base name valid is ∙ cond-false _ _ _ (le-ltb 2048 _ short) ∙ ap Ok (sym (child_spelled base name valid));
}

resolve_child : (base : Parts) (name : List ℕ) → IsBaseUrl base → is_plain name ≡ true
    → resolve (text_of base) name ≡ unless_long (folder_of (text_of base) ++ name)
resolve_child base name valid is =
    resolve_along base name valid (name_is_path name is) ∙ ap accepted_url (child_along base name is) ∙ accepted_child base name valid is

-- the text of a web URL is normal
normal_text : (url : Parts) (text : List ℕ) → text_of url ≡ text → IsValid url → is_web url.scheme ≡ true → is_normal text ≡ true
normal_text url text spelled valid web =
    let read : url_of text ≡ Some url = ap url_of (sym spelled) ∙ ap result_ok (parse_web_text url None valid web) in
    ap (λ u. option_eq bytes_eq (option_map text_of u) (Some text)) read ∙ (bytes_eq-Decides (text_of url) text).1 spelled

beside_child : (base : Parts) (name : List ℕ) → IsBaseUrl base → is_plain name ≡ true
    → beside (text_of base) name ≡ unless_long (folder_of (text_of base) ++ name)
unfolding unchanged
beside_child base name valid is =
    rw (normal_text (child base name) _ (child_spelled base name valid) (child_valid base name valid is)
    (web_from_accepted base _ valid.accepted))

child_is_address : (base : Parts) (name : List ℕ) → IsBaseUrl base → is_plain name ≡ true → length (folder_of (text_of base) ++ name) ≤ 2048
    → IsAddress (folder_of (text_of base) ++ name)
child_is_address base name valid is short =
    subst IsAddress (child_spelled base name valid) (base_is_address (child base name) (child_is_base base name valid is short))

-- ---- the same, by the base's text

pub resolve_plain : (base name : List ℕ) → IsBase base → is_plain name ≡ true → resolve base name ≡ unless_long (folder_of base ++ name)
resolve_plain base name is named = subst (λ b. resolve b name ≡ unless_long (folder_of b ++ name)) is.spelled
    (resolve_child is.url name is.is named)

beside_plain : (base name : List ℕ) → IsBase base → is_plain name ≡ true → beside base name ≡ unless_long (folder_of base ++ name)
beside_plain base name is named = subst (λ b. beside b name ≡ unless_long (folder_of b ++ name)) is.spelled
    (beside_child is.url name is.is named)

pub plain_is_address : (base name : List ℕ) → IsBase base → is_plain name ≡ true → length (folder_of base ++ name) ≤ 2048
    → IsAddress (folder_of base ++ name)
plain_is_address base name is named = subst (λ b. length (folder_of b ++ name) ≤ 2048 → IsAddress (folder_of b ++ name)) is.spelled
    (child_is_address is.url name is.is named)

pub name_is_plain : (name : List ℕ) → is_name name ≡ true → is_plain name ≡ true
name_is_plain name named = or_left (is_name name) _ named

pub resolve_name : (base name : List ℕ) → IsBase base → is_name name ≡ true → resolve base name ≡ unless_long (folder_of base ++ name)
resolve_name base name is named = resolve_plain base name is (name_is_plain name named)

pub beside_name : (base name : List ℕ) → IsBase base → is_name name ≡ true → beside base name ≡ unless_long (folder_of base ++ name)
beside_name base name is named = beside_plain base name is (name_is_plain name named)

pub name_is_address : (base name : List ℕ) → IsBase base → is_name name ≡ true → length (folder_of base ++ name) ≤ 2048
    → IsAddress (folder_of base ++ name)
name_is_address base name is named = plain_is_address base name is (name_is_plain name named)

-- a name that stands behind the folder in a text
pub whole_from_front : (front text : List ℕ) → take (length front) text ≡ front → text ≡ front ++ drop (length front) text
whole_from_front front text begins = sym (take-append-drop (length front) text) ∙ ap (λ t. t ++ drop (length front) text) begins

pub resolve_behind : (base text : List ℕ) → IsBase base → take (length (folder_of base)) text ≡ folder_of base
    → is_plain (drop (length (folder_of base)) text) ≡ true → resolve base (drop (length (folder_of base)) text) ≡ unless_long text
resolve_behind base text is begins named = resolve_plain base _ is named ∙ ap unless_long (sym (whole_from_front _ text begins))

pub behind_is_address : (base text : List ℕ) → IsBase base → take (length (folder_of base)) text ≡ folder_of base
    → is_plain (drop (length (folder_of base)) text) ≡ true → length text ≤ 2048 → IsAddress text
behind_is_address base text is begins named = rw (whole_from_front _ text begins) (plain_is_address base _ is named)

-- the address of a name is given again
pub beside_is_address : (base name address : List ℕ) → IsBase base → is_name name ≡ true → beside base name ≡ Ok address → IsAddress address
beside_is_address base name address is named given =
    let whole = sym (beside_name base name is named) ∙ given in
    let short : length (folder_of base ++ name) ≤ 2048 = grind (arith, nat_tests) in
    let same : folder_of base ++ name ≡ address = grind (arith, nat_tests) in
    subst IsAddress same (name_is_address base name is named short)
