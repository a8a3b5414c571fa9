-- A printed tree spells what is read of it.
use Rattle.mpd_tree.specs.Trees as tree
use Rattle.mpd_tree.specs.Grammar as grammar
use Rattle.std.proofs.Common.{◌≡◌, ℕ, zero, suc, ◌-◌, ◌≤◌, Bool, true, false, not, cond, List, [], ◌∷◌, ◌++◌, length, take, drop, map}
use Rattle.std.proofs.{Common.{codes, refl, sym, ap, ◌∙◌, subst, arith, append_assoc}, lemmas.Bool.Decides.nat_tests}
use Rattle.std.proofs.{lemmas.List.{append-nil, map-append, length-append, take_at}, lemmas.List.Folds.list_any-append}
use Rattle.std.proofs.lemmas.List.Sums.{sum_by-append}
use Rattle.std.specs.{Prelude.{◌==◌, bytes_eq, nat_lt}, List.{flat_map, list_all}}
use Rattle.byte_scan.specs.ByteSet.{is_member}
use Rattle.bridge_io.specs.{declared.place.Place.Place, Texts.is_among}
use Rattle.bridge_io.proofs.Texts.{bytes_eq_sym, equals_itself}
use Rattle.mpd_tree.specs.{Characters.{is_white, starts_name, goes_on_name, is_name}, Marked.marked_in_content, Escapes.escape_all}
use Rattle.mpd_tree.specs.{Runs.{is_black, ends_name, up_to}, Trees.{names_of, Attribute, Forest, Element}, Positions.place_before}
use Rattle.mpd_tree.specs.Pieces.{Piece, ended, empty, begun, tag_piece, Inside, nothing_inside, followed_by, with_child}
use Rattle.mpd_tree.specs.Productions.{as_read, many, times, ◌>>◌}
use Rattle.mpd_tree.specs.Grammar.{new_name, equals, quote_mark, attribute, next_attribute, greater_than, tag_end, end_name, end_tag}
use Rattle.mpd_tree.specs.Grammar.{piece, added, text, marked, next_inside, inside, next_comment, misc, ending, root, behind_root_start}
use Rattle.mpd_tree.specs.Grammar.{beginning, declared, behind_two, IsDocument}
use Rattle.mpd_tree.specs.Markup.{Tag, Markup, nothing, element, attribute_text, opening, enclosed, printed, declaration, document}
use Rattle.mpd_tree.specs.Placed.{AllDiffer, past, first_place, attributes_at, line_feeds, text_round, head_at, placed, root_place}
use Rattle.mpd_tree.specs.Placed.{root_read, levels, IsLegalAttribute, AllLegal, IsLegalTag, AreLegal, IsLegal}
use Rattle.mpd_tree.proofs.{Cuts.{Stops, run_again}, ReadBack.reads_back}

-- ---- places

-- the bytes stand at the place, behind a front
abbrev IsAt : List ℕ → Place → List ℕ → Type 0
IsAt whole here bytes = (front : List ℕ) × (whole ≡ front ++ bytes) × (here ≡ past first_place front)

same_place : (p q : Place) → p.at ≡ q.at → p.line ≡ q.line → p ≡ q
same_place p q at line = λ i. record { at = at i; line = line i }

place_is : (whole : List ℕ) (here : Place) (bytes : List ℕ) → IsAt whole here bytes → place_before whole (length bytes) ≡ here
place_is whole here bytes (front, e, here_is) =
    let count : length whole - length bytes ≡ length front = omega (arith, ap length e, length-append front bytes) in
    let cut : take (length front) whole ≡ front = ap (λ (t : List ℕ). take (length front) t) e ∙ take_at front bytes (length front) refl in
    same_place _ _ (omega arith) (rw (count, cut) (omega arith)) ∙ sym here_is

further : (whole : List ℕ) (here : Place) (a b : List ℕ) → IsAt whole here (a ++ b) → IsAt whole (past here a) b
further whole here a b (front, e, here_is) =
    let lines = sum_by-append (λ x. cond (x == 10) 1 0) front a in
    let is = ap (λ (p : Place). past p a) here_is ∙ same_place _ _ (omega (arith, length-append front a)) (omega arith) in
    (front ++ a, e ∙ sym (append_assoc front a b), is)

-- ---- names

-- a name is cut behind it
cut : (name tail : List ℕ) → is_name name ≡ true → Stops ends_name tail
    → (take (up_to ends_name (name ++ tail)) (name ++ tail) ≡ name) × (drop (up_to ends_name (name ++ tail)) (name ++ tail) ≡ tail)
unfolding goes_on_name
cut [] tail is stops = absurd cc
cut (b ∷ bs) tail is stops =
    let not_not : (b : Bool) → not (not b) ≡ b = λ b. grind arith in
    let all : list_all (λ c. not (ends_name c)) bs ≡ list_all goes_on_name bs
    = ap (λ (f : ℕ → Bool). list_all f bs) (λ i c. not_not (goes_on_name c) i) in
    run_again ends_name (b ∷ bs) tail (rw all (grind arith)) stops

starts : (b : ℕ) (bs : List ℕ) → is_name (b ∷ bs) ≡ true → starts_name b ≡ true
starts b bs is = grind arith

other : (b c : ℕ) → starts_name b ≡ true → starts_name c ≡ false → ((b == c) ≡ false) × ((c == b) ≡ false)
other b c is not = (grind (arith, nat_tests), grind (arith, nat_tests))

differ_before : (before more : List (List ℕ)) (name : List ℕ) → AllDiffer (before ++ name ∷ more) → is_among name before ≡ false
differ_before [] more name h = refl
differ_before (b ∷ before) more name h =
    rw bytes_eq_sym (grind (arith, list_any-append (bytes_eq b) before (name ∷ more), h.0, differ_before before more name h.1))

-- ---- attributes

attribute_is : (whole : List ℕ) (here : Place) (before : List Attribute) (a : List ℕ × List ℕ) (rest : List ℕ) → IsLegalAttribute a
    → IsAt whole here (attribute_text a ++ rest) → is_among a.0 (names_of before) ≡ false
    → (next_attribute whole before (attribute_text a ++ rest)).spells (before ++ attributes_at here (a ∷ []), false, rest)
unfolding is_white goes_on_name starts_name next_attribute attribute new_name equals quote_mark
attribute_is whole here before ([], value) rest legal at new = absurd (let never = legal.name.named in cc)
attribute_is whole here before (b ∷ bs, value) rest legal at new =
    let name = b ∷ bs in
    let text = escape_all value ++ 34 ∷ rest in
    let tail = 61 ∷ 34 ∷ text in
    let is = starts b bs legal.name.named in
    let split : attribute_text (name, value) ++ rest ≡ 32 ∷ name ++ tail = simp append_assoc in
    let white = (run_again is_black (32 ∷ []) (name ++ tail) refl (grind (arith, nat_tests))).1 in
    let found = cut name tail legal.name.named refl in
    let at_name = further whole here (codes " ") (name ++ tail) (subst (IsAt whole here) split at) in
    let place = place_is whole (past here (codes " ")) (name ++ tail) at_name in
    let more : nat_lt (length (name ++ tail)) (length (32 ∷ name ++ tail)) ≡ true = grind (arith, nat_tests) in
    let y = before ++ attributes_at here ((name, value) ∷ []) in
    let equals : (equals tail).spells (34 ∷ text)
    = rw (run_again is_black [] tail refl refl).1 (sym (run_again is_black [] (34 ∷ text) refl refl).1) in
    let v = reads_back value legal.no_controls rest in
    subst (λ (bytes : List ℕ). (next_attribute whole before bytes).spells (y, false, rest)) (sym split)
    (rw (white, found.0, found.1, new, place, (other b 62 is refl).0, (other b 47 is refl).0, is, more)
    ((y, rest), ((name, tail), refl, (34 ∷ text, equals, ((34, text), refl, ((value, rest), v, refl)))), refl))

attributes_are : (whole : List ℕ) (here : Place) (before : List Attribute) (named : List (List ℕ × List ℕ)) (tail : List ℕ)
    → ((all : List Attribute) → (next_attribute whole all tail).spells (all, true, tail)) → AllLegal named
    → AllDiffer (names_of before ++ map (λ a. a.0) named) → IsAt whole here (flat_map attribute_text named ++ tail)
    → (many (next_attribute whole) before (flat_map attribute_text named ++ tail)).spells (before ++ attributes_at here named, tail)
unfolding times
attributes_are whole here before [] tail ends legal differ at = (1, ((before, true, tail), ends before, rw append-nil refl))
attributes_are whole here before (a ∷ more) tail ends legal differ at =
    let next = attributes_at here (a ∷ []) in
    let behind = flat_map attribute_text more ++ tail in
    let at_a = subst (IsAt whole here) (append_assoc (attribute_text a) (flat_map attribute_text more) tail) at in
    let rest = attributes_are whole (past here (attribute_text a)) (before ++ next) more tail ends legal.1
    (simp (map-append, append_assoc) differ) (further whole here (attribute_text a) behind at_a) in
    let new = differ_before (names_of before) (map (λ a. a.0) more) a.0 differ in
    let is_next = attribute_is whole here before a behind legal.0 at_a new in
    rw (append_assoc, ← append_assoc before next) (suc rest.0, ((before ++ next, false, behind), is_next, rest.1))

-- ---- tags

-- an element's content from a line feed on, and its end tag
abbrev content : List ℕ → Markup → List ℕ → List ℕ
content name m rest = 10 ∷ printed m ++ (60 ∷ 47 ∷ name ++ 62 ∷ rest)

-- behind the attributes of a tag
abbrev behind : Tag → Markup → List ℕ → List ℕ
behind tag nothing rest = 47 ∷ 62 ∷ rest
behind tag (element first within after) rest = 62 ∷ content tag.name (element first within after) rest

-- an element from its name on
abbrev from_name : Tag → Markup → List ℕ → List ℕ
from_name tag m rest = tag.name ++ (flat_map attribute_text tag.attributes ++ behind tag m rest)

abbrev piece_of : Place → Tag → Markup → List ℕ → Piece × List ℕ
piece_of here tag nothing rest = (empty (head_at here tag nothing), rest)
piece_of here tag (element first within after) rest = (begun (head_at here tag nothing), content tag.name (element first within after) rest)

ends : (whole : List ℕ) (here : Place) (tag : Tag) (m : Markup) (rest : List ℕ)
    → ((all : List Attribute) → (next_attribute whole all (behind tag m rest)).spells (all, true, behind tag m rest))
    × (as_read {B = Piece × List ℕ} (tag_end (behind tag m rest)) (λ end. (tag_piece end.0 (head_at here tag nothing), end.1))).spells
    (piece_of here tag m rest)
unfolding is_white next_attribute tag_end greater_than
ends whole here tag nothing rest =
    (λ all. rw (run_again is_black [] (47 ∷ 62 ∷ rest) refl refl).1 refl, ((true, rest), (rest, refl, refl), refl))
ends whole here tag (element first within after) rest =
    let inside = content tag.name (element first within after) rest in
    (λ all. rw (run_again is_black [] (62 ∷ inside) refl refl).1 refl, ((false, inside), (inside, refl, refl), refl))

stops : (attributes : List (List ℕ × List ℕ)) (tag : Tag) (m : Markup) (rest : List ℕ)
    → Stops ends_name (flat_map attribute_text attributes ++ behind tag m rest)
unfolding goes_on_name starts_name
stops [] tag nothing rest = refl
stops [] tag (element first within after) rest = refl
stops (a ∷ more) tag m rest = refl

tag_is : (whole : List ℕ) (here : Place) (tag : Tag) (m : Markup) (rest : List ℕ) → IsLegalTag tag
    → IsAt whole here (60 ∷ from_name tag m rest)
    → (grammar.tag whole (length (60 ∷ from_name tag m rest)) (from_name tag m rest)).spells (piece_of here tag m rest)
unfolding grammar.tag
tag_is whole here tag m rest legal at =
    let tail = flat_map attribute_text tag.attributes ++ behind tag m rest in
    let found = cut tag.name tail legal.name.named (stops tag.attributes tag m rest) in
    let from = past here (60 ∷ tag.name) in
    let end = ends whole here tag m rest in
    let attributes = attributes_are whole from [] tag.attributes (behind tag m rest) end.0 legal.attributes legal.differ
    (further whole here (60 ∷ tag.name) tail at) in
    rw (found.0, found.1, place_is whole here (60 ∷ tag.name ++ tail) at)
    ((attributes_at from tag.attributes, behind tag m rest), attributes, end.1)

end_tag_is : (name rest : List ℕ) (left : ℕ) → is_name name ≡ true → (end_tag name left (name ++ 62 ∷ rest)).spells rest
unfolding is_white goes_on_name starts_name end_tag end_name greater_than
end_tag_is [] rest left is = absurd cc
end_tag_is (b ∷ bs) rest left is =
    let found = cut (b ∷ bs) (62 ∷ rest) is refl in
    rw (found.0, found.1, starts b bs is, equals_itself (b ∷ bs))
    (62 ∷ rest, refl, rw (run_again is_black [] (62 ∷ rest) refl refl).1 refl)

-- ---- elements

regroup : (l n a g p c r : List ℕ) → (l ++ n ++ a ++ g ++ p ++ (c ++ n ++ g)) ++ r ≡ l ++ (n ++ (a ++ (g ++ (p ++ (c ++ (n ++ (g ++ r)))))))
regroup l n a g p c r = simp append_assoc

split : (tag : Tag) (m : Markup) (rest : List ℕ) → enclosed tag m (printed m) ++ rest ≡ 60 ∷ from_name tag m rest
split tag nothing rest = simp append_assoc
split tag (element first within after) rest =
    let inside = 10 ∷ printed (element first within after) in
    regroup (codes "<") tag.name (flat_map attribute_text tag.attributes) (codes ">") inside (codes "</") rest

abbrev inside_of : Place → Tag → Markup → Inside
inside_of here tag m = record { children = placed (past here (opening tag ++ codes ">")) m; text = text_round m }

abbrev Contains : Markup → Type 0
Contains m = (whole : List ℕ) (here : Place) (room : ℕ) (name : List ℕ) (before : Inside) (rest : List ℕ) → is_name name ≡ true
    → levels m ≤ room → IsAt whole here (content name m rest)
    → (many (next_inside (inside room whole) whole room name) before (content name m rest)).spells
    (record { children = followed_by before.children (placed here m); text = before.text ++ 10 ∷ line_feeds m }, rest)

filled : (whole : List ℕ) (here : Place) (tag : Tag) (m : Markup) (room : ℕ) (rest : List ℕ) (Next : Inside → Piece × List ℕ → Type 0)
    → IsLegalTag tag → suc (levels m) ≤ room → Contains m → IsAt whole here (60 ∷ from_name tag m rest)
    → Next nothing_inside (empty (head_at here tag nothing), rest)
    → ((i : Inside) (within : List ℕ) → (inside room whole tag.name within).spells (i, rest)
    → Next i (begun (head_at here tag nothing), within))
    → Next (inside_of here tag m) (piece_of here tag m rest)
unfolding inside
filled whole here tag nothing room rest Next legal less inside at if_empty if_begun = if_empty
filled whole here tag (element first within after) zero rest Next legal less inside at if_empty if_begun = absurd (omega arith)
filled whole here tag (element first within after) (suc room) rest Next legal less inside at if_empty if_begun =
    let m = element first within after in
    let bytes = content tag.name m rest in
    let e = append_assoc (opening tag) (codes ">") bytes
    ∙ append_assoc (60 ∷ tag.name) (flat_map attribute_text tag.attributes) (62 ∷ bytes) in
    if_begun (inside_of here tag m) bytes (inside whole (past here (opening tag ++ codes ">")) room tag.name nothing_inside rest
    legal.name.named (omega arith) (further whole here (opening tag ++ codes ">") bytes (subst (IsAt whole here) (sym e) at)))

-- ---- content

text_is : (read bs : List ℕ) → (text read marked_in_content 60 (10 ∷ 60 ∷ bs)).spells (read ++ 10 ∷ [], 60 ∷ bs)
unfolding times marked
text_is read bs =
    let plain = run_again (is_member marked_in_content) (10 ∷ []) (60 ∷ bs) refl refl in
    (1, ((read ++ 10 ∷ [], true, 60 ∷ bs), rw (plain.0, plain.1) refl, refl))

-- a tag begins a piece, the root's too, and no comment
begins : (whole name tail : List ℕ) (left : ℕ) → is_name name ≡ true
    → ((room : ℕ) (outer : List ℕ) (x : Piece × List ℕ) → (room == 0) ≡ false → (grammar.tag whole left (name ++ tail)).spells x
    → (piece whole room outer left (name ++ tail)).spells x)
    × ((y : Element × List ℕ) → (grammar.tag whole left (name ++ tail) >> grammar.element whole).spells y
    → (behind_root_start whole left (name ++ tail)).spells y)
    × (misc (10 ∷ 60 ∷ name ++ tail)).spells (60 ∷ name ++ tail)
unfolding is_white starts_name piece behind_root_start misc times next_comment
begins whole [] tail left is = absurd cc
begins whole (b ∷ bs) tail left is =
    let first = starts b bs is in
    let white = (run_again is_black (10 ∷ []) (60 ∷ b ∷ bs ++ tail) refl refl).1 in (
      λ room outer x some is_tag. rw ((other b 47 first refl).0, (other b 33 first refl).0, (other b 63 first refl).0, first, some) is_tag,
      λ y found. rw ((other b 63 first refl).0, first) found,
      rw white ((tt, 60 ∷ b ∷ bs ++ tail), (1, ((tt, true, 60 ∷ b ∷ bs ++ tail), rw (other b 33 first refl).1 refl, refl)), refl),
    )

followed_nothing : (f : Forest) → followed_by f tree.nothing ≡ f
followed_nothing tree.nothing = refl
followed_nothing (tree.element head children others) = ap (tree.element head children) (followed_nothing others)

followed_assoc : (f g h : Forest) → followed_by (followed_by f g) h ≡ followed_by f (followed_by g h)
followed_assoc tree.nothing g h = refl
followed_assoc (tree.element head children others) g h = ap (tree.element head children) (followed_assoc others g h)

contains : (m : Markup) → AreLegal m → Contains m
unfolding times next_inside piece
contains nothing legal whole here room name before rest is less at =
    let text = before.text ++ 10 ∷ [] in
    let tail = 47 ∷ name ++ 62 ∷ rest in
    let e = end_tag_is name rest _ is in
    (1, (_, ((text, 60 ∷ tail), text_is before.text tail, ((ended, rest), (rest, e, refl), refl)), rw followed_nothing refl))
contains (element tag children others) legal whole here room name before rest is less at =
    let from = past here (codes "\n") in
    let next = content name others rest in
    let bytes = enclosed tag children (printed children) in
    let read : Inside = record before { text = before.text ++ 10 ∷ [] } in
    let step : Inside = record read { children = with_child before.children (head_at from tag nothing) (inside_of from tag children) } in
    let e = append_assoc bytes (10 ∷ printed others) (60 ∷ 47 ∷ name ++ 62 ∷ rest) in
    let at_all = subst (λ (l : List ℕ). IsAt whole here (10 ∷ l)) e at in
    let at_tag = subst (IsAt whole from) (split tag children next) (further whole here (codes "\n") (bytes ++ next) at_all) in
    let added = filled whole from tag children room next (λ i x. (added (inside room whole) read x).spells
    (record read { children = with_child before.children (head_at from tag nothing) i }, false, next)) legal.0 (omega arith)
    (contains children legal.1) at_tag refl (λ i within is_inside. ((i, next), is_inside, refl)) in
    let tail = from_name tag children next in
    let its_tag = tag_is whole from tag children next legal.0 at_tag in
    let piece = (begins whole tag.name _ (length (60 ∷ tail)) legal.0.name.named).0 room name _ (grind (arith, nat_tests)) its_tag in
    let more = contains others legal.2 whole (past here (codes "\n" ++ bytes)) room name step rest is (omega arith)
    (further whole here (codes "\n" ++ bytes) next at_all) in
    let forest = tree.element (head_at from tag children) (placed (past from (opening tag ++ codes ">")) children) tree.nothing in
    rw (e, split tag children next, ← followed_assoc before.children forest, ← append_assoc before.text (10 ∷ []))
    (suc more.0, (_, ((read.text, 60 ∷ tail), text_is before.text tail, (_, piece, added)), more.1))

-- ---- the whole

pub document_is : (tag : Tag) (children : Markup) → IsLegal tag children → IsDocument (root_read tag children) (document tag children)
unfolding is_white grammar.document beginning grammar.declaration declared behind_two root ending misc times next_comment
document_is tag children legal =
    let whole = document tag children in
    let end : List ℕ = 10 ∷ [] in
    let e = split tag children end in
    let at = subst (IsAt whole root_place) e (declaration, refl, refl) in
    let Read : Inside → Element
    = λ (i : Inside). record { head = record (head_at root_place tag nothing) { text = i.text }; children = i.children } in
    let is_element = filled whole root_place tag children 32 end (λ i x. (grammar.element whole x).spells (Read i, end)) legal.root
    legal.shallow (contains children legal.inside) at refl (λ i within is. ((i, end), is, refl)) in
    let rest = 60 ∷ from_name tag children end in
    let first = begins whole tag.name _ (length rest) legal.root.name.named in
    let front = subst (λ (l : List ℕ). (misc (10 ∷ l)).spells rest) (sym e) first.2 in
    let root = first.1 _ (_, tag_is whole root_place tag children end legal.root at, is_element) in
    (_, refl, (rest, front, ((root_read tag children, end), root, (tt, ([], ((tt, []), (1, (_, refl, refl)), refl), refl), refl))))
