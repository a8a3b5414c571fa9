-- Lines are told as they are written.
use Rattle.std.proofs.Common.{◌||◌, position, option_map, drop, ◌≡◌, ℕ, zero, suc, ◌+◌, ◌-◌, ◌<◌, ◌≤◌, Bool, true, false, not, List, []}
use Rattle.std.proofs.Common.{◌∷◌, ◌++◌, length, take, reverse, count_by, cond, eqb, ltb, codes, Option, Some, None, unwrap_or, Ok, Err}
use Rattle.std.proofs.{Common.{refl, sym, ◌∙◌, ap, subst, arith, inl, inr, ◌⊎◌, length-append, nat_eq}, lemmas.Bool.{cases_Bool, eqb-true}}
use Rattle.std.proofs.{lemmas.Bool.and_parts, lemmas.Bool.Decides.nat_tests, lemmas.Grind.reverse_onto, lemmas.List.append-nil}
use Rattle.std.proofs.{lemmas.List.{reverse-append, length-reverse, take_all}, lemmas.List.Folds.list_all-append}
use Rattle.std.proofs.lemmas.List.Splits.{join_with_byte-slice_split, length-slice_split, slice_split_at, slice_split_none}
use Rattle.std.proofs.{lemmas.List.Sums.sum_by-append, Math.Seq.take-append_seam}
use Rattle.std.specs.{Bool.⊤, List.{All, join_with_byte, list_any, list_all, onto_first, position_or_len, prefix_len, slice_split}}
use Rattle.std.specs.{List.{starts_with, suffix_len}, Str.is_utf8, Str.Lossy.utf8_valid_len}
use Rattle.byte_scan.specs.{Class.is_outside, declared.class.Class.TheVariants.Playlist, Lines.is_line_feed}
use Rattle.bridge_io.specs.{Places.place_of, declared.place.Place.Place}
use Rattle.hls_lines.specs.{Characters.{begins_with_high_control, first_control, earlier_of, high_control_from}, LineGrammar.AreLines}
use Rattle.hls_lines.specs.LineGrammar.{AreSaid, EndsUnblank, FileFaultsAreInOrder, FirstControlIsFirst, IsFirstControl}
use Rattle.hls_lines.specs.LineGrammar.{begins_with_control, IsPlaylist, IsTrimmed, LinesAreSaid, Says, has_no_feed, place_behind}
use Rattle.hls_lines.specs.Lines.{PlaylistLine, behind, clean, has_header, is_blank, is_colon, line_behind, line_of, lines_if_clean}
use Rattle.hls_lines.specs.Lines.{lines_of, marked_line, said_from, start, tag, tag_parts, text_lines, trimmed, unless_control, uri}
use Rattle.hls_lines.specs.{Lines.with_line, Marks.{after_mark, parts_at}, declared.fault.LineFault.TheVariants.{Header, NotUtf8}}
use Rattle.hls_lines.proofs.AttributeTexts.{cut, first_at, free_before, mark_is, none_of, one_later, parts_there}

-- ---- blanks at the end

-- a text is empty, or begins with no blank
abbrev Unblank : List ℕ → Type 0
Unblank [] = ⊤
Unblank (b ∷ bs) = is_blank b ≡ false

prefix_stops : (a rest : List ℕ) → list_all is_blank a ≡ true → Unblank rest → prefix_len is_blank (a ++ rest) ≡ length a
prefix_stops [] [] all ends = refl
prefix_stops [] (b ∷ bs) all ends = rw ends refl
prefix_stops (x ∷ xs) rest all ends = let parts = and_parts (is_blank x) (list_all is_blank xs) all in
    rw parts.0 (omega (arith, prefix_stops xs rest parts.1 ends))

all_reverse : (xs : List ℕ) → list_all is_blank xs ≡ true → list_all is_blank (reverse xs) ≡ true
all_reverse [] e = refl
all_reverse (x ∷ xs) e = let parts = and_parts (is_blank x) (list_all is_blank xs) e in
    ap (list_all is_blank) (reverse_onto xs x []) ∙ list_all-append is_blank (reverse xs) (x ∷ [])
    ∙ rw (all_reverse xs parts.1, parts.0) refl

unblank : (kept : List ℕ) → EndsUnblank kept → Unblank (reverse kept)
unblank kept (inl e) = subst (λ (t : List ℕ). Unblank (reverse t)) (sym e) tt
unblank kept (inr (front, (last, (e, other)))) = subst (λ (t : List ℕ). Unblank (reverse t)) (sym e)
    (subst (λ (t : List ℕ). Unblank t) (sym (reverse-append front (last ∷ []))) other)

kept_is : (line kept : List ℕ) → IsTrimmed line kept → kept ≡ trimmed line
kept_is line kept is =
    let size = ap (prefix_len is_blank) (reverse-append kept is.blanks)
    ∙ prefix_stops (reverse is.blanks) (reverse kept) (all_reverse is.blanks is.dropped) (unblank kept is.ends)
    ∙ length-reverse is.blanks in
    let left : length (kept ++ is.blanks) - suffix_len is_blank (kept ++ is.blanks) ≡ length kept =
    omega (arith, size, length-append kept is.blanks) in
    sym (ap (λ n. take n (kept ++ is.blanks)) left ∙ take-append_seam kept is.blanks) ∙ ap trimmed (sym is.is)

trim : (line : List ℕ) → (kept : List ℕ) × IsTrimmed line kept
trim [] = ([], record { blanks = []; is = refl; dropped = refl; ends = inl refl })
trim (b ∷ bs) = let more = trim bs in of_kept more.0 more.1
  where
    of_kept : (kept : List ℕ) → IsTrimmed bs kept → (kept : List ℕ) × IsTrimmed (b ∷ bs) kept
    of_kept [] is = elim (cases_Bool (is_blank b)) [
      | inl blank ↦ ([], record { blanks = b ∷ is.blanks; is = ap (λ t. b ∷ t) is.is; dropped = rw blank is.dropped; ends = inl refl })
      | inr other ↦ (
        b ∷ [],
        record {
          blanks = is.blanks;
          is = ap (λ t. b ∷ t) is.is;
          dropped = is.dropped;
          ends = inr ([], (b, (refl, other)));
        },
      )
    ]
    of_kept (k ∷ ks) is = (
      b ∷ k ∷ ks,
      record {
        blanks = is.blanks;
        is = ap (λ t. b ∷ t) is.is;
        dropped = is.dropped;
        ends = of_ends is.ends;
      },
    )
      where
        of_ends : EndsUnblank (k ∷ ks) → EndsUnblank (b ∷ k ∷ ks)
        of_ends (inl never) = absurd (cc)
        of_ends (inr (front, (last, (e, other)))) = inr (b ∷ front, (last, (ap (λ t. b ∷ t) e, other)))

trims : (line : List ℕ) → IsTrimmed line (trimmed line)
trims line = let cut = trim line in subst (λ (kept : List ℕ). IsTrimmed line kept) (kept_is line cut.0 cut.1) cut.1

-- ---- tags and URIs

not_none : (parts : List ℕ × List ℕ) → Some parts ≡ None → ⊥
not_none parts e = absurd (cc)

parts_none : (test : ℕ → Bool) (text : List ℕ) → parts_at test text ≡ None → list_any test text ≡ false
parts_none test text e = elim (cases_Bool (ltb (position_or_len test text) (length text))) [
  | inl less ↦ absurd (not_none (take (position_or_len test text) text, drop (position_or_len test text + 1) text) (rw less at e))
  | inr none ↦ let most : length text ≤ position_or_len test text = grind (arith, nat_tests) in
      rw (take_all (position_or_len test text) text most) at (free_before test text)
]

none_there : (test : ℕ → Bool) (text : List ℕ) → list_any test text ≡ false → parts_at test text ≡ None
none_there test text free =
    let size : position_or_len test text ≡ length text = rw append-nil at (first_at test text [] free tt) in
    let none : ltb (position_or_len test text) (length text) ≡ false = grind (arith, nat_tests) in
    rw none refl

-- a name, and what follows it
record IsNamed (text name rest : List ℕ) : Type 0 where
  parts : (text ≡ name ++ 58 ∷ rest) ⊎ ((text ≡ name) × (rest ≡ []))
  free : list_any is_colon name ≡ false

tag_named : (text : List ℕ) → IsNamed text (tag_parts text).0 (tag_parts text).1
tag_named text = of_parts (parts_at is_colon text) refl
  where
    of_parts : (o : Option (List ℕ × List ℕ)) → parts_at is_colon text ≡ o
        → IsNamed text (unwrap_or o (text, [])).0 (unwrap_or o (text, [])).1
    of_parts None e = record { parts = inr (refl, refl); free = parts_none is_colon text e }
    of_parts (Some parts) e = let at = cut is_colon text parts e in let mark : at.mark ≡ 58 = eqb-true at.mark 58 at.passes in
        record { parts = inl (at.is ∙ ap (λ b. parts.0 ++ b ∷ parts.1) mark); free = at.free }

tag_parts_are : (text name rest : List ℕ) → (text ≡ name ++ 58 ∷ rest) ⊎ ((text ≡ name) × (rest ≡ [])) → list_any is_colon name ≡ false
    → tag_parts text ≡ (name, rest)
tag_parts_are text name rest (inl e) free = rw (e, parts_there is_colon name rest 58 free refl) refl
tag_parts_are text name rest (inr e) free = rw (e.0, e.1, none_there is_colon name free) refl

some_more : (n : ℕ) → eqb (suc n) 0 ≡ false
some_more n = grind (arith, nat_tests)

line_of_more : (b : ℕ) (bs : List ℕ) (place : Place) → line_of (b ∷ bs) place ≡ line_behind (after_mark 35 (b ∷ bs)) (b ∷ bs) place
line_of_more b bs place = rw (some_more (length bs)) refl

says : (line : List ℕ) (place : Place) → Says line place (line_of line place)
says [] place = inl refl
says (b ∷ bs) place = subst (λ (o : Option PlaylistLine). Says (b ∷ bs) place o) (sym (line_of_more b bs place))
    (of_mark (after_mark 35 (b ∷ bs)) refl)
  where
    of_ext : (text : List ℕ) (ext : Bool) → b ∷ bs ≡ 35 ∷ text → starts_with nat_eq text (codes "EXT") ≡ ext
        → Says (b ∷ bs) place (cond ext (Some (tag (tag_parts text).0 (tag_parts text).1 place)) None)
    of_ext text true m e = let named = tag_named text in
        (record { text = text; is = m; marked = e; parts = named.parts; free = named.free }, refl)
    of_ext text false m e = inr (record { text = text; is = m; unmarked = e })

    of_mark : (o : Option (List ℕ)) → after_mark 35 (b ∷ bs) ≡ o → Says (b ∷ bs) place (line_behind o (b ∷ bs) place)
    of_mark None e = (
      record {
        is = refl;
        some = omega arith;
        unmarked = λ more same. let never : Some more ≡ None =
            sym (ap (after_mark 35) same) ∙ e in absurd (cc);
      },
      refl,
    )
    of_mark (Some text) e = of_ext text (starts_with nat_eq text (codes "EXT")) (mark_is 35 (b ∷ bs) text e) refl

marked_is : (line text : List ℕ) (place : Place) → line ≡ 35 ∷ text → line_of line place ≡ marked_line text place
marked_is line text place e = rw e (line_of_more 35 text place)

unmarked_is : (line : List ℕ) (place : Place) → 0 < length line → ((more : List ℕ) → line ≡ 35 ∷ more → ⊥)
    → line_of line place ≡ Some (uri line place)
unmarked_is [] place some unmarked = absurd (omega arith)
unmarked_is (b ∷ bs) place some unmarked = line_of_more b bs place ∙ of_mark (after_mark 35 (b ∷ bs)) refl
  where
    of_mark : (o : Option (List ℕ)) → after_mark 35 (b ∷ bs) ≡ o → line_behind o (b ∷ bs) place ≡ Some (uri (b ∷ bs) place)
    of_mark None e = refl
    of_mark (Some more) e = absurd (unmarked more (mark_is 35 (b ∷ bs) more e))

says_only : (line : List ℕ) (place : Place) (what : Option PlaylistLine) → Says line place what → what ≡ line_of line place
says_only line place None (inl e) = rw e refl
says_only line place None (inr is) = sym (marked_is line is.text place is.is ∙ rw is.unmarked refl)
says_only line place (Some (tag name rest at)) (is, here) =
    sym (marked_is line is.text place is.is ∙ rw (is.marked, tag_parts_are is.text name rest is.parts is.free, here) refl)
says_only line place (Some (uri text at)) (is, here) = rw (is.is, here) (sym (unmarked_is line place is.some is.unmarked))

-- ---- places

all_false : (test : ℕ → Bool) (xs : List ℕ) → list_any test xs ≡ false → All (λ x. test x ≡ false) xs
all_false test [] e k d less = absurd (omega arith)
all_false test (x ∷ xs) e zero d less = (none_of (test x) (list_any test xs) e).0
all_false test (x ∷ xs) e (suc k) d less = all_false test xs (none_of (test x) (list_any test xs) e).1 k d (omega arith)

feeds : (xs ys : List ℕ) → count_by is_line_feed (xs ++ ys) ≡ count_by is_line_feed xs + count_by is_line_feed ys
feeds xs ys = sum_by-append (λ x. cond (is_line_feed x) 1 0) xs ys

next_place : (before line : List ℕ) → list_any is_line_feed line ≡ false → behind line (place_behind before)
    ≡ place_behind (before ++ (line ++ 10 ∷ []))
next_place before line free =
    let one = ap length (slice_split_none is_line_feed line (all_false is_line_feed line free)) in
    let at : length before + length line + 1 ≡ length (before ++ (line ++ 10 ∷ [])) =
    omega (arith, length-append before (line ++ 10 ∷ []), length-append line (10 ∷ [])) in
    let row : count_by is_line_feed before + 1 + 1 ≡ count_by is_line_feed (before ++ (line ++ 10 ∷ [])) + 1 =
    omega (arith, feeds before (line ++ 10 ∷ []), feeds line (10 ∷ []), length-slice_split is_line_feed line, one) in
    λ i. record { at = at i; line = row i }

-- ---- lines

no_feed : (line : List ℕ) (lines : List (List ℕ)) → list_all has_no_feed (line ∷ lines) ≡ true
    → (list_any is_line_feed line ≡ false) × (list_all has_no_feed lines ≡ true)
no_feed line lines e = let parts = and_parts (has_no_feed line) (list_all has_no_feed lines) e in
    (is_false (list_any is_line_feed line) parts.0, parts.1)
  where
    is_false : (b : Bool) → not b ≡ true → b ≡ false
    is_false true e = absurd (cc)
    is_false false e = refl

abbrev next : List ℕ → List ℕ → List ℕ
next before line = before ++ (line ++ 10 ∷ [])

are_said : (before : List ℕ) (lines : List (List ℕ)) → list_all has_no_feed lines ≡ true
    → AreSaid before lines (said_from (place_behind before) lines)
are_said before [] free = refl
are_said before (line ∷ lines) free =
    let parts = no_feed line lines free in
    let place = place_behind before in
    record {
      kept = trimmed line;
      trimmed = trims line;
      what = line_of (trimmed line) place;
      says = says (trimmed line) place;
      others = said_from (behind line place) lines;
      is = refl;
      others_are = subst (λ (p : Place). AreSaid (next before line) lines (said_from p lines)) (sym (next_place before line parts.0))
          (are_said (next before line) lines parts.1);
    }

said_only : (before : List ℕ) (lines : List (List ℕ)) (said : List PlaylistLine) → list_all has_no_feed lines ≡ true
    → AreSaid before lines said → said ≡ said_from (place_behind before) lines
said_only before [] said free are = are
said_only before (line ∷ lines) said free are =
    let parts = no_feed line lines free in
    let place = place_behind before in
    let here = says_only are.kept place are.what are.says ∙ ap (λ kept. line_of kept place) (kept_is line are.kept are.trimmed) in
    let others = said_only (next before line) lines are.others parts.1 are.others_are
    ∙ ap (λ p. said_from p lines) (sym (next_place before line parts.0)) in
    are.is ∙ ap (λ what. with_line what are.others) here ∙ ap (λ rest. with_line (line_of (trimmed line) place) rest) others

onto_free : (x : ℕ) (lines : List (List ℕ)) → is_line_feed x ≡ false → list_all has_no_feed lines ≡ true
    → list_all has_no_feed (onto_first x lines) ≡ true
onto_free x [] other e = rw other refl
onto_free x (line ∷ lines) other e = rw other e

split_free : (text : List ℕ) → list_all has_no_feed (slice_split is_line_feed text) ≡ true
split_free [] = refl
split_free (x ∷ xs) = elim (cases_Bool (is_line_feed x)) [
  | inl is ↦ rw is (split_free xs)
  | inr other ↦ rw other (onto_free x (slice_split is_line_feed xs) other (split_free xs))
]

split_joined : (lines : List (List ℕ)) → 0 < length lines → list_all has_no_feed lines ≡ true
    → slice_split is_line_feed (join_with_byte 10 lines) ≡ lines
split_joined [] some free = absurd (omega arith)
split_joined (line ∷ []) some free = slice_split_none is_line_feed line (all_false is_line_feed line (no_feed line [] free).0)
split_joined (line ∷ (more ∷ others)) some free =
    let parts = no_feed line (more ∷ others) free in
    slice_split_at is_line_feed line 10 (join_with_byte 10 (more ∷ others)) (all_false is_line_feed line parts.0) refl
    ∙ ap (λ rest. line ∷ rest) (split_joined (more ∷ others) (omega arith) parts.1)

written : (text : List ℕ) → AreLines text (text_lines start text)
written text = record {
  lines = slice_split is_line_feed text;
  some = omega (arith, length-slice_split is_line_feed text);
  joined = sym (join_with_byte-slice_split 10 text);
  free = split_free text;
  said_are = are_said [] (slice_split is_line_feed text) (split_free text);
}

written_only : (text : List ℕ) (said : List PlaylistLine) → AreLines text said → said ≡ text_lines start text
written_only text said are = said_only [] are.lines said are.free are.said_are
    ∙ ap (said_from start) (sym (split_joined are.lines are.some are.free) ∙ ap (slice_split is_line_feed) (sym are.joined))

-- ---- files

lines_told : (bytes : List ℕ) (said : List PlaylistLine) → lines_of bytes ≡ Ok said → IsPlaylist bytes × AreLines bytes said
unfolding lines_of clean
lines_told bytes said e = of_utf8 (is_utf8 bytes) refl e
  where
    of_header : (header : Bool) → is_utf8 bytes ≡ true → first_control bytes ≡ None → has_header bytes ≡ header
        → cond header (Ok (text_lines start bytes)) (Err (Header start)) ≡ Ok said
        → IsPlaylist bytes × AreLines bytes said
    of_header false u c h e = absurd (cc)
    of_header true u c h e = let same : text_lines start bytes ≡ said = cc in
        (record { utf8 = u; clean = c; header = h }, subst (λ (lines : List PlaylistLine). AreLines bytes lines) same (written bytes))

    of_control : (control : Option ℕ) → is_utf8 bytes ≡ true → first_control bytes ≡ control
        → lines_if_clean (unless_control bytes control) ≡ Ok said → IsPlaylist bytes × AreLines bytes said
    of_control None u c e = of_header (has_header bytes) u c refl e
    of_control (Some at) u c e = absurd (cc)

    of_utf8 : (utf8 : Bool) → is_utf8 bytes ≡ utf8
        → lines_if_clean (cond utf8 (unless_control bytes (first_control bytes)) (Err (NotUtf8 (place_of bytes (utf8_valid_len bytes)))))
        ≡ Ok said
        → IsPlaylist bytes × AreLines bytes said
    of_utf8 false u e = absurd (cc)
    of_utf8 true u e = of_control (first_control bytes) u refl e

lines_tell : (bytes : List ℕ) (said : List PlaylistLine) → IsPlaylist bytes × AreLines bytes said → lines_of bytes ≡ Ok said
unfolding lines_of clean
lines_tell bytes said is = rw (is.0.utf8, is.0.clean, is.0.header) (ap Ok (sym (written_only bytes said is.1)))

pub lines_are_said : LinesAreSaid
lines_are_said bytes said = (lines_told bytes said, lines_tell bytes said)

pub file_faults_are_in_order : FileFaultsAreInOrder
unfolding lines_of clean
file_faults_are_in_order bytes = record {
  not_utf8 = λ bad. rw bad refl;
  bad_char = λ good at found. rw (good, found) refl;
  header = λ good none other. rw (good, none, other) refl;
}

-- ---- control characters

abbrev later : Option ℕ → Option ℕ
later o = option_map (λ n. suc n) o

position_step : (test : ℕ → Bool) (b : ℕ) (bs : List ℕ) → position test (b ∷ bs) ≡ cond (test b) (Some 0) (later (position test bs))
position_step test b bs = elim (cases_Bool (test b)) [
  | inl now ↦ let some : ltb 0 (suc (length bs)) ≡ true = grind (arith, nat_tests) in rw (now, some) refl
  | inr other ↦ ap (λ k. cond (ltb k (suc (length bs))) (Some k) None) (one_later test b bs other)
      ∙ rw other (elim (cases_Bool (ltb (position_or_len test bs) (length bs))) [
        | inl less ↦ let more : ltb (suc (position_or_len test bs)) (suc (length bs)) ≡ true = grind (arith, nat_tests) in
            rw (more, less) refl
        | inr none ↦ let more : ltb (suc (position_or_len test bs)) (suc (length bs)) ≡ false = grind (arith, nat_tests) in
            rw (more, none) refl
      ])
]

high_later : (at : ℕ) (bs : List ℕ) → high_control_from (suc at) bs ≡ later (high_control_from at bs)
high_later at [] = refl
high_later at (b ∷ bs) = elim (cases_Bool (begins_with_high_control (b ∷ bs))) [
  | inl begins ↦ rw begins refl
  | inr other ↦ rw other (high_later (suc at) bs)
]

first_later : (one other : Option ℕ) → earlier_of (later one) (later other) ≡ later (earlier_of one other)
first_later None other = refl
first_later (Some n) None = refl
first_later (Some n) (Some m) = ap Some (omega arith)

first_now : (other : Option ℕ) → earlier_of (Some 0) other ≡ Some 0
first_now None = refl
first_now (Some n) = ap Some (omega arith)

second_now : (one : Option ℕ) → earlier_of (later one) (Some 0) ≡ Some 0
second_now None = refl
second_now (Some n) = ap Some (omega arith)

control_step : (b : ℕ) (bs : List ℕ) → first_control (b ∷ bs) ≡ cond (begins_with_control (b ∷ bs)) (Some 0) (later (first_control bs))
control_step b bs = ap (λ o. earlier_of o (high_control_from 0 (b ∷ bs))) (position_step (is_outside Playlist) b bs)
    ∙ of_tests (is_outside Playlist b) (begins_with_high_control (b ∷ bs)) refl
  where
    of_tests : (low high : Bool) → begins_with_high_control (b ∷ bs) ≡ high
        → earlier_of (cond low (Some 0) (later (position (is_outside Playlist) bs))) (high_control_from 0 (b ∷ bs))
        ≡ cond (low || high) (Some 0) (later (first_control bs))
    of_tests true high h = first_now (high_control_from 0 (b ∷ bs))
    of_tests false true h = rw h (second_now (position (is_outside Playlist) bs))
    of_tests false false h = rw (h, high_later 0 bs) (first_later (position (is_outside Playlist) bs) (high_control_from 0 bs))

none_behind : (k : ℕ) → begins_with_control (drop k []) ≡ false
none_behind zero = refl
none_behind (suc k) = refl

pub first_control_is_first : FirstControlIsFirst
first_control_is_first [] = none_behind
first_control_is_first (b ∷ bs) = subst (λ (o : Option ℕ). IsFirstControl (b ∷ bs) o) (sym (control_step b bs))
    (of_begins (begins_with_control (b ∷ bs)) (first_control bs) refl (first_control_is_first bs))
  where
    of_begins : (begins : Bool) (o : Option ℕ) → begins_with_control (b ∷ bs) ≡ begins → IsFirstControl bs o
        → IsFirstControl (b ∷ bs) (cond begins (Some 0) (later o))
    of_begins true o e is = (e, λ k less. absurd (omega arith))
    of_begins false None e is = none
      where
        none : (k : ℕ) → begins_with_control (drop k (b ∷ bs)) ≡ false
        none zero = e
        none (suc k) = is k
    of_begins false (Some at) e is = (is.0, none)
      where
        none : (k : ℕ) → k < suc at → begins_with_control (drop k (b ∷ bs)) ≡ false
        none zero less = e
        none (suc k) less = is.1 k (omega arith)
