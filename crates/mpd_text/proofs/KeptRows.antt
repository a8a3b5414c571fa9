-- Rows that are kept stay so, and show the same, where more is kept.
use Rattle.std.proofs.Common.{◌≡◌, ℕ, ◌+◌, ◌-◌, ◌<◌, ◌≤◌, List, [], ◌∷◌, ◌++◌, length, take, drop, map, set, refl, sym, ap, ◌∙◌, subst}
use Rattle.std.proofs.Common.{arith, append_assoc, if◌then◌else◌, is_ok, get_or, OnOk, OnErr, Result, Ok, Err, Some}
use Rattle.std.proofs.Math.Seq.{get_or-append_seam, set-append_seam}
use Rattle.std.proofs.lemmas.List.{append-nil, drop-append-le, length-append, length-map, drop_at, take_at, take_all, take-append-drop}
use Rattle.std.proofs.lemmas.List.{length-drop, map-append, map-set, drop-map, get_or-map}
use Rattle.std.proofs.lemmas.List.Elements.{All-drop, All-take, All-weaker}
use Rattle.std.proofs.lemmas.Str.{IsCharBoundary-at_seam, IsCharBoundary-end, IsCharBoundary-start, IsUtf8-append, IsUtf8-had}
use Rattle.std.proofs.{lemmas.Str.IsUtf8-string_bytes, lemmas.Option.{get_or_from_slice_get, slice_get_within}}
use Rattle.std.specs.{List.{All, slice_get, slice_range}, String.string_bytes, Str.{IsUtf8, IsCharBoundary}}
use Rattle.mpd_tree.specs.{declared.tree.KeptSpan.KeptSpan, declared.tree.ElementRow.ElementRow, declared.tree.AttributeRow.AttributeRow}
use Rattle.mpd_tree.specs.{Forests.{Shown, shown_of}, Trees.{names_of, Attribute}, Runs.{ends_name, name_at}, Positions.place_before}
use Rattle.mpd_tree.specs.Rows.{HasAttributesWithin, IsKept, IsNameKept, IsElementKept, IsAttributeKept}
use Rattle.mpd_tree.specs.Views.{bytes_of, attribute_of, head_of}
use Rattle.mpd_text.specs.{declared.kept.Kept.Kept, Keeping.{Adds, attributes_from, attributes_in, head_at, kept_of, names_from, shown_in}}
use Rattle.mpd_text.specs.{Names.{name_in, names_in}, Rests.{IsBehind, IsEnd}, ManyNames.IsPrepared}
use Rattle.mpd_text.specs.declared.many_names.ManyNames.{ManyNames}
use Rattle.mpd_text.proofs.Rests.{BeginsAscii, behind_within, cut_before, cut_behind, ends, ends_drop, ends_dropped, name_ends}
use Rattle.mpd_tree.proofs.{Cuts.run_stops, KeptLemmas.{boundary_kept, kept_more, name_kept_more, range_left}}
use Rattle.bridge_io.specs.Places.{place_of}

kept_utf8 : (k : Kept) → IsUtf8 (kept_of k)
kept_utf8 k = IsUtf8-append k.source.now (string_bytes k.read) (IsUtf8-had k.source.now k.utf8) (IsUtf8-string_bytes k.read)

pub nothing_kept : (k : Kept) → IsKept k.source.now (kept_of k) (record { start = 0; end = 0 })
nothing_kept k = record {
  ordered = omega arith;
  start_is = IsCharBoundary-start (kept_of k) (kept_utf8 k);
  end_is = IsCharBoundary-start (kept_of k) (kept_utf8 k);
  whole = λ h. omega arith;
}

-- ---- what stands in the source

pub cut_shown : (s read bytes front rest : List ℕ) (i j : ℕ) → IsEnd s bytes → bytes ≡ front ++ rest → i ≡ length s - length bytes
    → j ≡ length s - length rest → slice_range (s ++ read) i j ≡ front
cut_shown s read bytes front rest i j e parts start end =
    let lengths : length bytes ≡ length front + length rest = ap length parts ∙ length-append front rest in
    let all : length s ≡ length e.front + length bytes = ap length e.whole_is ∙ length-append e.front bytes in
    let count : length front ≡ j - i = omega arith in
    range_left s read i j (omega arith) (omega arith)
    ∙ ap (λ k. take (j - i) (drop k s)) start ∙ ap (λ (t : List ℕ). take (j - i) t) (ends_dropped s bytes e ∙ parts)
    ∙ take_at front rest (j - i) count

pub cut_kept : (k : Kept) (bytes front rest : List ℕ) (span : KeptSpan) → IsBehind k.source.now bytes → IsEnd k.source.now rest
    → BeginsAscii rest → bytes ≡ front ++ rest → span.start ≡ length k.source.now - length bytes
    → span.end ≡ length k.source.now - length rest → IsKept k.source.now (kept_of k) span
cut_kept k bytes front rest span r e a parts start end =
    let s = k.source.now in
    let v = IsUtf8-string_bytes k.read in
    record {
      ordered = omega (arith, ap length parts, length-append front rest, start, end);
      start_is = boundary_kept s (string_bytes k.read) span.start v
          (subst (IsCharBoundary s) (sym start) (cut_behind s bytes (IsUtf8-had s k.utf8) r));
      end_is = boundary_kept s (string_bytes k.read) span.end v (subst (IsCharBoundary s) (sym end) (cut_before s rest e a));
      whole = λ past. absurd (omega (arith, past, end));
    }

pub name_parts : (bytes : List ℕ) → bytes ≡ (name_at bytes).0 ++ (name_at bytes).1
name_parts bytes = sym (take-append-drop _ bytes)

-- the name at the front of the bytes
module _ (k : Kept) (bytes : List ℕ) (r : IsBehind k.source.now bytes) where
  pub name_kept : (span : KeptSpan) → span.start ≡ length k.source.now - length bytes
      → span.end ≡ length k.source.now - length (name_at bytes).1 → IsNameKept k.source.now (kept_of k) span
  name_kept span start end = record {
    kept_so = cut_kept k bytes (name_at bytes).0 (name_at bytes).1 span r (ends_drop _ k.source.now bytes (ends k.source.now bytes r))
        (name_ends (name_at bytes).1 (run_stops ends_name bytes)) (name_parts bytes) start end;
    some_before = omega (arith, start, behind_within k.source.now bytes r);
    within = omega (arith, end);
  }

  name_shown : (span : KeptSpan) → span.start ≡ length k.source.now - length bytes
      → span.end ≡ length k.source.now - length (name_at bytes).1 → bytes_of (kept_of k) span ≡ (name_at bytes).0
  name_shown span start end = cut_shown k.source.now (string_bytes k.read) bytes (name_at bytes).0 (name_at bytes).1 span.start span.end
      (ends k.source.now bytes r) (name_parts bytes) start end

  pub attribute_shown : (row : AttributeRow) → row.name.start ≡ length k.source.now - length bytes
      → row.name.end ≡ length k.source.now - length (name_at bytes).1 → attribute_of k.source.now (kept_of k) row
      ≡ record { name = (name_at bytes).0; value = bytes_of (kept_of k) row.value; place = place_before k.source.now (length bytes) }
  attribute_shown row start end = rw (name_shown row.name start end, start) refl

  -- an element whose attributes are those from a row on
  pub head_shown : (row : ElementRow) → row.name.start ≡ length k.source.now - length bytes
      → row.name.end ≡ length k.source.now - length (name_at bytes).1 → row.attributes ≤ length k.attributes.items
      → row.attributes_end ≡ length k.attributes.items → row.text ≡ record { start = 0; end = 0 }
      → head_of k.source.now (kept_of k) k.attributes.items row
      ≡ head_at k.source.now (length bytes + 1) bytes (attributes_from k row.attributes)
  unfolding attributes_in
  head_shown row start end within last text =
      let s = k.source.now in
      let rows = k.attributes.items in
      let place : place_of s (row.name.start - 1) ≡ place_before s (length bytes + 1) = ap (place_of s) (omega (arith, start)) in
      let cut : slice_range rows row.attributes row.attributes_end ≡ drop row.attributes rows =
      take_all (row.attributes_end - row.attributes) (drop row.attributes rows) (omega (arith, last, length-drop row.attributes rows)) in
      let t : bytes_of (kept_of k) row.text ≡ [] = ap (λ (x : KeptSpan). bytes_of (kept_of k) x) text in
      rw (name_shown row.name start end, place, cut, t, drop-map (attribute_of s (kept_of k)) row.attributes rows) refl

-- ---- more is kept

pub span_stays : (source kept more : List ℕ) (span : KeptSpan) → IsKept source kept span → bytes_of (kept ++ more) span ≡ bytes_of kept span
span_stays source kept more span k = range_left kept more span.start span.end k.ordered k.end_is.0

attributes_stay : (source kept more : List ℕ) (rows : List AttributeRow) → All (IsAttributeKept source kept) rows
    → map (attribute_of source (kept ++ more)) rows ≡ map (attribute_of source kept) rows
attributes_stay source kept more [] all = refl
attributes_stay source kept more (r ∷ rs) all =
    let k = all 0 r (omega arith) in
    let n = span_stays source kept more r.name k.name.kept_so in
    let v = span_stays source kept more r.value k.value in
    rw (n, v, attributes_stay source kept more rs (All-drop (IsAttributeKept source kept) 1 (r ∷ rs) all)) refl

rows_stay : (source kept more : List ℕ) (attributes others : List AttributeRow) (rows : List ElementRow)
    → All (IsAttributeKept source kept) attributes → All (IsElementKept source kept) rows
    → All (HasAttributesWithin (length attributes)) rows
    → map (shown_of source (kept ++ more) (attributes ++ others)) rows ≡ map (shown_of source kept attributes) rows
rows_stay source kept more attributes others [] ones es ws = refl
rows_stay source kept more attributes others (r ∷ rs) ones es ws =
    let k = es 0 r (omega arith) in
    let w = ws 0 r (omega arith) in
    let P = IsAttributeKept source kept in
    let n = span_stays source kept more r.name k.name.kept_so in
    let t = span_stays source kept more r.text k.text in
    let cut = range_left attributes others r.attributes r.attributes_end w.ordered w.within in
    let a = attributes_stay source kept more (slice_range attributes r.attributes r.attributes_end)
    (All-take P (r.attributes_end - r.attributes) (drop r.attributes attributes) (All-drop P r.attributes attributes ones)) in
    rw (
      n,
      t,
      cut,
      a,
      rows_stay source kept more attributes others rs ones (All-drop (IsElementKept source kept) 1 (r ∷ rs) es)
          (All-drop (HasAttributesWithin (length attributes)) 1 (r ∷ rs) ws),
    ) refl

-- more text and more attributes
pub kept_adds : (old new : Kept) (more : List ℕ) (others : List AttributeRow) → new.source.now ≡ old.source.now
    → new.elements ≡ old.elements
    → string_bytes new.read ≡ string_bytes old.read ++ more → new.attributes.items ≡ old.attributes.items ++ others
    → Adds (map (attribute_of new.source.now (kept_of new)) others) old new
unfolding shown_in attributes_in
kept_adds old new more others same es rd ones =
    let s = old.source.now in
    let read = string_bytes old.read in
    let rows = old.attributes.items in
    let assoc = append_assoc s read more in
    record {
      same = same;
      shown_are = rw (same, es, rd, ones, ← assoc) (rows_stay s (kept_of old) more rows others old.elements old.attributes_kept
          old.elements_kept
          (subst (λ m. All (HasAttributesWithin m) old.elements) old.attributes.ok.0 old.attributes_within));
      attributes_are = rw (same, rd, ones, ← assoc) (map-append (attribute_of s (kept_of old ++ more)) rows others
          ∙ ap (λ xs. xs ++ map (attribute_of s (kept_of old ++ more)) others) (attributes_stay s (kept_of old) more rows
          old.attributes_kept));
    }

pub same_added : (old new : Kept) (a b : Attribute) → a ≡ b → Adds (a ∷ []) old new → Adds (b ∷ []) old new
same_added old new a b e h = subst (λ x. Adds (x ∷ []) old new) e h

pub elements_grown : (source read more : List ℕ) (rows : List ElementRow) → IsUtf8 more → All (IsElementKept source (source ++ read)) rows
    → All (IsElementKept source (source ++ (read ++ more))) rows
elements_grown source read more rows utf8 all = rw (← append_assoc source read more)
    (All-weaker (IsElementKept source (source ++ read)) (IsElementKept source ((source ++ read) ++ more)) (λ r h. record {
      name = name_kept_more source (source ++ read) more r.name utf8 h.name;
      text = kept_more source (source ++ read) more r.text utf8 h.text;
    }) rows all)

pub attributes_grown : (source read more : List ℕ) (rows : List AttributeRow) → IsUtf8 more
    → All (IsAttributeKept source (source ++ read)) rows
    → All (IsAttributeKept source (source ++ (read ++ more))) rows
attributes_grown source read more rows utf8 all = rw (← append_assoc source read more)
    (All-weaker (IsAttributeKept source (source ++ read)) (IsAttributeKept source ((source ++ read) ++ more)) (λ r h. record {
      name = name_kept_more source (source ++ read) more r.name utf8 h.name;
      value = kept_more source (source ++ read) more r.value utf8 h.value;
    }) rows all)

-- what has just been read is kept behind what was
pub read_kept : (source read more : List ℕ) (span : KeptSpan) → IsUtf8 more → span.start ≡ length (source ++ read)
    → span.end ≡ length (source ++ (read ++ more)) → IsKept source (source ++ (read ++ more)) span
read_kept source read more span utf8 start end =
    let whole : List ℕ = source ++ (read ++ more) in
    let e : whole ≡ (source ++ read) ++ more = sym (append_assoc source read more) in
    record {
      ordered = omega (arith, start, end, ap length e, length-append (source ++ read) more);
      start_is = subst (IsCharBoundary whole) (sym start) (IsCharBoundary-at_seam whole (source ++ read) more e utf8);
      end_is = subst (IsCharBoundary whole) (sym end) (IsCharBoundary-end whole);
      whole = λ _. omega (arith, start, length-append source read);
    }

pub read_shown : (source read more : List ℕ) (span : KeptSpan) → span.start ≡ length (source ++ read)
    → span.end ≡ length (source ++ (read ++ more)) → bytes_of (source ++ (read ++ more)) span ≡ more
read_shown source read more span start end =
    let e = sym (append_assoc source read more) in
    let count : length more ≤ span.end - span.start = omega (arith, start, end, ap length e, length-append (source ++ read) more) in
    rw (e, drop_at (source ++ read) more span.start (sym start)) (take_all (span.end - span.start) more count)

-- ---- elements

pub lengths : (source kept : List ℕ) (rows : List AttributeRow) → length (map (attribute_of source kept) rows) ≡ length rows
lengths source kept rows = length-map rows (attribute_of source kept)

pub size : (k : Kept) → length (shown_in k) ≡ length k.elements
unfolding shown_in
size k = length-map k.elements (shown_of k.source.now (kept_of k) k.attributes.items)

names_same : (source read : List ℕ) (rows : List AttributeRow) → All (IsAttributeKept source (source ++ read)) rows
    → names_of (map (attribute_of source (source ++ read)) rows) ≡ names_in source rows
names_same source read [] all = refl
names_same source read (r ∷ rs) all =
    let k = all 0 r (omega arith) in
    let n = range_left source read r.name.start r.name.end k.name.kept_so.ordered k.name.within in
    rw (n, names_same source read rs (All-drop (IsAttributeKept source (source ++ read)) 1 (r ∷ rs) all)) refl

names_are : (k : Kept) (from : ℕ) → names_in k.source.now (drop from k.attributes.items) ≡ names_from k from
unfolding attributes_in
names_are k from =
    let f = attribute_of k.source.now (kept_of k) in
    sym (names_same k.source.now (string_bytes k.read) (drop from k.attributes.items)
    (All-drop (IsAttributeKept k.source.now (kept_of k)) from k.attributes.items k.attributes_kept))
    ∙ ap names_of (sym (drop-map f from k.attributes.items))

pub names_before : (k : Kept) (from : ℕ) (source : List ℕ) (rows : List AttributeRow) → source ≡ k.source.now
    → rows ≡ k.attributes.items
    → let before : List AttributeRow = take (length rows - from) (drop from rows) in
    (names_in source before ≡ names_from k from) × (length before ≡ length (names_from k from))
names_before k from source rows s r =
    let before : List AttributeRow = take (length rows - from) (drop from rows) in
    let all : before ≡ drop from rows = take_all (length rows - from) (drop from rows) (omega (arith, length-drop from rows)) in
    let names : names_in source before ≡ names_from k from = rw (all, s, r) (names_are k from) in
    (names, sym (length-map before (name_in source)) ∙ ap length names)

-- behind so few names none is in the set
pub few_prepared : (many : ManyNames) (names : List (List ℕ)) (name : List ℕ) → length names < 16 → IsPrepared many names
    → IsPrepared many (names ++ name ∷ [])
few_prepared many names name few p =
    (λ _. p.0 (omega (arith, few)), λ more. absurd (omega (arith, few, more, length-append names (name ∷ []))))

-- one row becomes another
pub set_shown : (f : ElementRow → Shown) (rows : List ElementRow) (at : ℕ) (row new : ElementRow) (before inner : List Shown) (s : Shown)
    → slice_get rows at ≡ Some row → map f rows ≡ before ++ s ∷ inner → length before ≡ at
    → (map f (set rows at new) ≡ before ++ f new ∷ inner) × (f row ≡ s)
set_shown f rows at row new before inner s is all len =
    let got : get_or (before ++ s ∷ inner) at s ≡ s = subst (λ n. get_or (before ++ s ∷ inner) n s ≡ s) len
    (get_or-append_seam before s inner s) in (
      map-set f rows at new ∙ ap (λ l. set l at (f new)) all ∙ ap (λ n. set (before ++ s ∷ inner) n (f new)) (sym len)
          ∙ set-append_seam before s inner (f new),
      ap f (sym (get_or_from_slice_get rows at row row is)) ∙ sym (get_or-map f rows at row s (slice_get_within rows at row is))
          ∙ ap (λ l. get_or l at s) all ∙ got,
    )

-- ---- rows that are added

pub pushed : {X T E : Type 0} (P : List X → Type 0) (new old more : List X) (r : Result T E)
    → new ≡ (if is_ok r then old ++ more else old) → P old → P (old ++ more) → P new
pushed P new old more (Ok v) e a b = subst P (sym e) b
pushed P new old more (Err v) e a b = subst P (sym e) a

pub changed : {X T E : Type 0} (P : List X → Type 0) (new old next : List X) (r : Result T E) → OnOk r (new ≡ next) → OnErr r (new ≡ old)
    → P old → P next → P new
changed P new old next (Ok v) ok err a b = subst P (sym ok) b
changed P new old next (Err v) ok err a b = subst P (sym err) a

pub within_more : (n m : ℕ) (rows : List ElementRow) → n ≤ m → All (HasAttributesWithin n) rows → All (HasAttributesWithin m) rows
within_more n m rows le all = All-weaker (HasAttributesWithin n) (HasAttributesWithin m) (λ r h. record {
  ordered = h.ordered;
  within = omega (arith, h.within, le);
}) rows all

-- one more attribute, behind some that are shown as they were
pub names_added : (old mid new : Kept) (from : ℕ) (a : Attribute) → from ≤ length (attributes_in old)
    → attributes_in mid ≡ attributes_in old ++ [] → attributes_in new ≡ attributes_in mid ++ a ∷ []
    → (from ≤ length (attributes_in new)) × (names_from new from ≡ names_from old from ++ a.name ∷ [])
names_added old mid new from a within m n =
    let all : attributes_in new ≡ attributes_in old ++ a ∷ [] = n ∙ ap (λ l. l ++ a ∷ []) (m ∙ append-nil (attributes_in old)) in (
      omega (arith, within, ap length all, length-append (attributes_in old) (a ∷ [])),
      ap (λ l. names_of (drop from l)) all ∙ ap names_of (drop-append-le from (attributes_in old) (a ∷ []) within)
          ∙ map-append (λ (x : Attribute). x.name) (drop from (attributes_in old)) (a ∷ []),
    )
