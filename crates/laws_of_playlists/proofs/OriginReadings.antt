-- What is read of bytes is of bytes.
use Rattle.mpd_tree.specs.Pieces as pieces
use Rattle.mpd_tree.specs.Grammar as grammar
use Rattle.std.proofs.Common.{◌≡◌, ℕ, zero, suc, ◌<◌, Bool, true, false, List, [], ◌∷◌, ◌++◌, length, take, drop, All, Some, None, sym}
use Rattle.std.proofs.{Common.{refl, inl, inr, subst, arith, nat_lt}, lemmas.Bool.{cases_Bool, cond_both}, lemmas.Bool.Decides.nat_tests}
use Rattle.std.proofs.{lemmas.List.drop_at, lemmas.List.Sums.AllPass-from_list_all}
use Rattle.std.proofs.lemmas.List.Elements.{All-append, All-cons, All-drop, All-nil, All-tail, All-take}
use Rattle.std.specs.{Prelude.{◌==◌, ◌&&◌, ◌||◌, codes, if◌then◌else◌, bytes_eq, nat_eq}, Char.encode_utf8, List.{list_all, starts_with}}
use Rattle.byte_scan.specs.ByteSet.{is_member}
use Rattle.bridge_io.specs.Texts.{is_among}
use Rattle.mpd_tree.specs.{Characters.{is_white, is_digit, starts_name}, Faults.ReadsAs, Meaning.{IsOneReading, reading_of}}
use Rattle.mpd_tree.specs.References.{is_hex_digit, named_by_digits, named_by_number, referred_to}
use Rattle.mpd_tree.specs.Runs.{up_to, is_black, ends_name, name_at, after_white, after_line_feed, after_mark, mark, common, begins}
use Rattle.mpd_tree.specs.{Marked.{marked_in_content, marked_in_value}, Trees.{names_of, Attribute, Head, Forest, nothing, element}}
use Rattle.mpd_tree.specs.{Positions.{Kind, Position}, Pieces.{Piece, tag_piece, Inside, nothing_inside, followed_by, with_child}}
use Rattle.mpd_tree.specs.Productions.{Production, just, refused, first, choose, ◌>>◌, as_read, times, many}
use Rattle.mpd_tree.specs.Grammar.{greater_than, word, behind_dashes, behind_two, second_dash, comment, declared, declaration, reference}
use Rattle.mpd_tree.specs.Grammar.{line_end, marked, part, closed, value, new_name, equals, quote_mark, attribute, behind_white, misc}
use Rattle.mpd_tree.specs.Grammar.{next_attribute, tag_end, tag, end_name, end_tag, piece, added, next_inside, inside, root, document}
use Rattle.mpd_tree.specs.Grammar.{behind_root_start, beginning, next_comment, Spells}
use Rattle.laws_of_playlists.specs.Origins.{AreOfBytes, IsByte, IsElementOfBytes, IsHeadOfBytes, IsOfBytes, ReadingsAreOfBytes}
use Rattle.mpd_rules.proofs.Ranges.{below_bound}

-- ---- characters

abbrev IsCharacter : ℕ → Type 0
IsCharacter c = c < 1114112

encode_pass : (c : ℕ) → IsCharacter c → list_all (λ b. nat_lt b 256) (encode_utf8 c) ≡ true
unfolding encode_utf8
encode_pass c small = grind (arith, nat_tests)

encode_bytes : (c : ℕ) → IsCharacter c → IsOfBytes (encode_utf8 c)
encode_bytes c small k d less =
    below_bound _ 256 (AllPass-from_list_all (λ b. nat_lt b 256) (encode_utf8 c) (encode_pass c small) k d less)

by_number : (base : ℕ) (test : ℕ → Bool) (digits : List ℕ) (c : ℕ) → named_by_number base test digits ≡ Some c → IsCharacter c
by_number base test [] c is = absurd cc
by_number base test (d ∷ ds) c is = grind (arith, nat_tests)

by_digits : (digits : List ℕ) (c : ℕ) → named_by_digits digits ≡ Some c → IsCharacter c
by_digits [] c is = absurd cc
by_digits (b ∷ bs) c is = grind (arith, nat_tests, by_number 16 is_hex_digit bs c, by_number 10 is_digit (b ∷ bs) c)

by_name : (p q r s t : Bool) (c : ℕ)
    → (if p then Some 38 else if q then Some 60 else if r then Some 62 else if s then Some 34 else if t then Some 39 else None) ≡ Some c
    → IsCharacter c
by_name p q r s t c is = grind (arith, nat_tests)

referred_is : (name : List ℕ) (c : ℕ) → referred_to name ≡ Some c → IsCharacter c
referred_is [] c is = absurd cc
referred_is (b ∷ bs) c is = elim (cases_Bool (b == 35)) [ inl t ↦ by_digits bs c (rw t at is) | inr f ↦ by_name _ _ _ _ _ c (rw f at is) ]

-- ---- productions

-- all that is read so is so
record Holds {A : Type 0} (c : Production A) (IsSo : A → Type 0) : Type 0 where
  all : (x : A) → c.spells x → IsSo x

nothing_holds : {A : Type 0} {IsSo : A → Type 0} {q : Position} → Holds (refused q) IsSo
nothing_holds = record { all = λ x never. absurd never }

just_holds : {A : Type 0} {IsSo : A → Type 0} {x : A} → IsSo x → Holds (just x) IsSo
just_holds {IsSo = IsSo} is = record { all = λ y e. subst IsSo (sym e) is }

-- at whatever positions it is open
also : {A : Type 0} {IsSo : A → Type 0} {IsOpen : Position → Type 0} {c : Production A} → Holds c IsSo
    → Holds (record c { is_open = IsOpen }) IsSo
also h = record { all = h.all }

chosen : {A : Type 0} {IsSo : A → Type 0} (t : Bool) {c d : Production A} → Holds c IsSo → Holds d IsSo → Holds (choose t c d) IsSo
chosen true on off = on
chosen false on off = off

next_holds : {A B : Type 0} {IsSo : A → Type 0} {IsThen : B → Type 0} {c : Production A} {d : A → Production B} → Holds c IsSo
    → ((x : A) → IsSo x → Holds (d x) IsThen) → Holds (c >> d) IsThen
next_holds h on = record { all = λ y s. (on s.0 (h.all s.0 s.1)).all y s.2 }

shown_holds : {A B : Type 0} {IsSo : A → Type 0} {IsThen : B → Type 0} {c : Production A} {f : A → B} → Holds c IsSo
    → ((x : A) → IsSo x → IsThen (f x)) → Holds (as_read c f) IsThen
shown_holds {IsThen = IsThen} h on = record { all = λ y s. subst IsThen (sym s.2) (on s.0 (h.all s.0 s.1)) }

abbrev Both : {A : Type 0} → (A → Type 0) → A × List ℕ → Type 0
Both IsSo x = IsSo x.0 × IsOfBytes x.1

abbrev Third : {A : Type 0} → (A → Type 0) → A × Bool × List ℕ → Type 0
Third IsSo x = IsSo x.0 × IsOfBytes x.2

abbrev Any : {A : Type 0} → A → Type 0
Any x = Unit {0}

many_hold : {A : Type 0} {IsSo : A → Type 0} {one : A → List ℕ → Production (A × Bool × List ℕ)}
    → ((a : A) (bytes : List ℕ) → IsSo a → IsOfBytes bytes → Holds (one a bytes) (Third IsSo))
    → (a : A) (bytes : List ℕ) → IsSo a → IsOfBytes bytes → Holds (many one a bytes) (Both IsSo)
unfolding times
many_hold {A = A} {IsSo = IsSo} {one = one} each a bytes is all = record { all = λ y s. repeated s.0 a bytes is all y s.1 }
  where
    repeated : (n : ℕ) (a : A) (bytes : List ℕ) → IsSo a → IsOfBytes bytes → (y : A × List ℕ) → (times one n a bytes).spells y → Both IsSo y
    repeated zero a bytes is all y never = absurd never
    repeated (suc n) a bytes is all y ((read, true, rest), s, e) = subst (Both IsSo) (sym e) ((each a bytes is all).all _ s)
    repeated (suc n) a bytes is all y ((read, false, rest), s, more) =
        let so = (each a bytes is all).all _ s in
        repeated n read rest so.0 so.1 y more

tail : (b : ℕ) (bs : List ℕ) → IsOfBytes (b ∷ bs) → IsOfBytes bs
tail b bs all = All-tail IsByte b bs all

dropped : (n : ℕ) (bytes : List ℕ) → IsOfBytes bytes → IsOfBytes (drop n bytes)
dropped n bytes all = All-drop IsByte n bytes all

-- by the first byte
first_holds : {A : Type 0} {IsSo : A → Type 0} (kind : Kind) (start : ℕ) (bytes : List ℕ) {c : ℕ → List ℕ → Production A → Production A}
    → IsOfBytes bytes → ((b : ℕ) (bs : List ℕ) → IsOfBytes bs → (d : Production A) → Holds d IsSo → Holds (c b bs d) IsSo)
    → Holds (first kind start bytes c) IsSo
first_holds kind start [] all on = nothing_holds
first_holds kind start (b ∷ bs) all on = also (on b bs (tail b bs all) _ nothing_holds)

greater_holds : (bytes : List ℕ) → IsOfBytes bytes → Holds (greater_than bytes) IsOfBytes
unfolding greater_than
greater_holds bytes all = first_holds _ _ bytes all (λ b bs of _ no. chosen (b == 62) (just_holds of) no)

-- ---- comments and declarations

dashes_hold : (bytes : List ℕ) → IsOfBytes bytes → Holds (behind_dashes bytes) IsOfBytes
unfolding behind_dashes
dashes_hold bytes all = first_holds _ _ bytes all (λ b bs of _ _. chosen (b == 45) (greater_holds bs of) (greater_holds bytes all))

two_hold : (one other : ℕ) (bytes : List ℕ) → IsOfBytes bytes → Holds (behind_two one other bytes) IsOfBytes
unfolding behind_two
two_hold one other [] all = nothing_holds
two_hold one other (b ∷ bs) all = also (chosen (b == one && begins other bs) (also (just_holds (dropped 2 (b ∷ bs) all)))
    (two_hold one other bs (tail b bs all)))

comment_holds : (left : ℕ) (bytes : List ℕ) → IsOfBytes bytes → Holds (comment left bytes) IsOfBytes
unfolding comment second_dash
comment_holds left bytes all = first_holds _ _ bytes all (λ b bs of _ no. chosen (b == 45)
    (first_holds _ _ bs of (λ c cs inner _ none. chosen (c == 45) (next_holds (two_hold 45 45 cs inner) dashes_hold) none)) no)

declaration_holds : (left : ℕ) (bytes : List ℕ) → IsOfBytes bytes → Holds (declaration left bytes) IsOfBytes
unfolding declaration declared
declaration_holds left bytes all = also (chosen (common word bytes == 3) (first_holds _ _ (drop 3 bytes) (dropped 3 bytes all)
    (λ b bs of _ no. chosen (is_white b) (two_hold 63 62 bs of) no)) nothing_holds)

beginning_holds : (bytes : List ℕ) → IsOfBytes bytes → Holds (beginning bytes) IsOfBytes
unfolding beginning
beginning_holds bytes all =
    let behind : IsOfBytes (after_mark bytes) = cond_both (starts_with nat_eq bytes mark) (drop 3 bytes) bytes IsOfBytes
    (λ _. dropped 3 bytes all) (λ _. all) in
    chosen (starts_with nat_eq (after_mark bytes) (codes "<?")) (declaration_holds _ _ (dropped 2 _ behind)) (just_holds behind)

white : (bytes : List ℕ) → IsOfBytes bytes → IsOfBytes (after_white bytes)
white bytes all = dropped (up_to is_black bytes) bytes all

comments_hold : (x : Unit {0}) (bytes : List ℕ) → Any x → IsOfBytes bytes → Holds (next_comment x bytes) (Third Any)
unfolding next_comment
comments_hold _ bytes _ all = chosen (starts_with nat_eq bytes (codes "<!"))
    (next_holds (comment_holds _ _ (dropped 2 bytes all)) (λ rest of. also (just_holds (tt, white rest of)))) (just_holds (tt, all))

misc_holds : (bytes : List ℕ) → IsOfBytes bytes → Holds (misc bytes) IsOfBytes
unfolding misc
misc_holds bytes all = also (shown_holds (many_hold comments_hold tt (after_white bytes) tt (white bytes all)) (λ x is. is.1))

-- ---- texts

fed : (bytes : List ℕ) → IsOfBytes bytes → IsOfBytes (after_line_feed bytes)
fed [] all = all
fed (b ∷ bs) all = cond_both (b == 10) bs (b ∷ bs) IsOfBytes (λ _. tail b bs all) (λ _. all)

one_more : {A : Type 0} (IsSo : A → Type 0) (before : List A) (x : A) → All IsSo before → IsSo x → All IsSo (before ++ x ∷ [])
one_more IsSo before x are is = All-append IsSo before (x ∷ []) are (All-cons IsSo x [] is (All-nil IsSo))

line_end_small : (stop : ℕ) → line_end stop < 256
line_end_small stop = cond_both (stop == 60) 10 32 (λ n. n < 256) (λ _. omega arith) (λ _. omega arith)

reference_holds : (left : ℕ) (bytes : List ℕ) → IsOfBytes bytes → Holds (reference left bytes) (λ x. IsCharacter x.0 × IsOfBytes x.1)
unfolding reference
reference_holds left bytes all = record {
  all = λ x is. (
    referred_is is.name x.0 is.refers,
    tail 59 x.1 (subst IsOfBytes (drop_at is.name (59 ∷ x.1) (length is.name) refl)
        (dropped (length is.name) (is.name ++ 59 ∷ x.1) (subst IsOfBytes is.bytes_are all))),
  );
}

marked_hold : (stop : ℕ) (read bytes : List ℕ) → IsOfBytes read → IsOfBytes bytes → Holds (marked stop read bytes) (Third IsOfBytes)
unfolding marked
marked_hold stop read [] of all = nothing_holds
marked_hold stop read (b ∷ bs) of all =
    let rest = tail b bs all in
    chosen (b == stop) (just_holds (of, all))
    (also (chosen (b == 38) (shown_holds (reference_holds (length (b ∷ bs)) bs rest)
    (λ x is. (All-append IsByte read (encode_utf8 x.0) of (encode_bytes x.0 is.0), is.1)))
    (chosen (b == 13) (also (just_holds (one_more IsByte read (line_end stop) of (line_end_small stop), fed bs rest)))
    (chosen (b == 60) nothing_holds (just_holds (one_more IsByte read 32 of (omega arith), rest))))))

parts_hold : (marks : List ℕ) (stop : ℕ) (read bytes : List ℕ) → IsOfBytes read → IsOfBytes bytes
    → Holds (part marks stop read bytes) (Third IsOfBytes)
parts_hold marks stop read bytes of all =
    let n = up_to (is_member marks) bytes in
    also (marked_hold stop _ _ (All-append IsByte read (take n bytes) of (All-take IsByte n bytes all)) (dropped n bytes all))

value_holds : (quote : ℕ) (bytes : List ℕ) → IsOfBytes bytes → Holds (value quote bytes) (Both IsOfBytes)
unfolding value
value_holds quote bytes all = next_holds (many_hold (parts_hold (marked_in_value quote) quote) [] bytes (All-nil IsByte) all) closed_holds
  where
    closed_holds : (x : List ℕ × List ℕ) → Both IsOfBytes x → Holds (closed x) (Both IsOfBytes)
    closed_holds (found, []) is = nothing_holds
    closed_holds (found, b ∷ bs) is = also (just_holds (is.0, tail b bs is.1))

-- ---- tags

abbrev AreValues : List Attribute → Type 0
AreValues attributes = All (λ (a : Attribute). IsOfBytes a.value) attributes

rest_of_name : (bytes : List ℕ) → IsOfBytes bytes → IsOfBytes (name_at bytes).1
rest_of_name bytes all = dropped (up_to ends_name bytes) bytes all

attribute_holds : (whole : List ℕ) (before : List Attribute) (bytes : List ℕ) → AreValues before → IsOfBytes bytes
    → Holds (attribute whole before bytes) (Both AreValues)
unfolding attribute new_name equals quote_mark
attribute_holds whole before bytes are all =
    next_holds (also (chosen (is_among (name_at bytes).0 (names_of before)) nothing_holds
    (just_holds {IsSo = λ x. IsOfBytes x.1} (rest_of_name bytes all)))) (λ name of.
    next_holds (also (first_holds _ _ (after_white name.1) (white name.1 of) (λ b bs all _ no.
    chosen (b == 61) (also (just_holds (white bs all))) no))) (λ behind of.
    next_holds (first_holds _ _ behind of (λ b bs all _ no.
    chosen (b == 34 || b == 39) (just_holds {IsSo = λ x. IsOfBytes x.1} all) no)) (λ quote of.
    shown_holds (value_holds quote.0 quote.1 of) (λ x is. (one_more (λ (a : Attribute). IsOfBytes a.value) before _ are is.0, is.1)))))

behind_white_holds : (whole : List ℕ) (before : List Attribute) (is_white : Bool) (bytes : List ℕ) → AreValues before → IsOfBytes bytes
    → Holds (behind_white whole before is_white bytes) (Third AreValues)
behind_white_holds whole before white [] are all = nothing_holds
behind_white_holds whole before white (b ∷ bs) are all = chosen (b == 62 || b == 47) (just_holds (are, all))
    (also (chosen (starts_name b && white) (shown_holds (attribute_holds whole before (b ∷ bs) are all) (λ x is. is)) nothing_holds))

tag_end_holds : (bytes : List ℕ) → IsOfBytes bytes → Holds (tag_end bytes) (Both Any)
unfolding tag_end
tag_end_holds bytes all = first_holds _ _ bytes all (λ b bs of _ _. chosen (b == 47)
    (shown_holds (greater_holds bs of) (λ x is. (tt, is))) (shown_holds (greater_holds bytes all) (λ x is. (tt, is))))

-- what a piece says itself
abbrev IsPieceOfBytes : Piece → Type 0
IsPieceOfBytes pieces.ended = Unit {0}
IsPieceOfBytes pieces.comment = Unit {0}
IsPieceOfBytes (pieces.empty head) = IsHeadOfBytes head
IsPieceOfBytes (pieces.begun head) = IsHeadOfBytes head

tag_holds : (whole : List ℕ) (left : ℕ) (bytes : List ℕ) → IsOfBytes bytes → Holds (tag whole left bytes) (Both IsPieceOfBytes)
unfolding tag next_attribute
tag_holds whole left bytes all =
    also (next_holds (many_hold (λ before bytes are of.
    also (behind_white_holds whole before _ (after_white bytes) are (white bytes of))) []
    (name_at bytes).1 (All-nil (λ (a : Attribute). IsOfBytes a.value)) (rest_of_name bytes all)) (λ found is.
    shown_holds (tag_end_holds found.1 is.1) (λ end of. (by_kind end.0 _ (record { values = is.0; text = All-nil IsByte }), of.1))))
  where
    by_kind : (is_empty : Bool) (head : Head) → IsHeadOfBytes head → IsPieceOfBytes (tag_piece is_empty head)
    by_kind true head is = is
    by_kind false head is = is

end_tag_holds : (name : List ℕ) (left : ℕ) (bytes : List ℕ) → IsOfBytes bytes → Holds (end_tag name left bytes) IsOfBytes
unfolding end_tag end_name
end_tag_holds name left bytes all = first_holds _ _ bytes all (λ b bs of _ no. chosen (starts_name b)
    (next_holds (also (chosen (bytes_eq (name_at bytes).0 name) (just_holds (rest_of_name bytes all)) nothing_holds))
    (λ rest of. also (greater_holds (after_white rest) (white rest of)))) no)

-- ---- elements

piece_holds : (whole : List ℕ) (room : ℕ) (name : List ℕ) (left : ℕ) (bytes : List ℕ) → IsOfBytes bytes
    → Holds (piece whole room name left bytes) (Both IsPieceOfBytes)
unfolding piece
piece_holds whole room name left bytes all = first_holds _ _ bytes all (λ b bs of _ no.
    chosen (b == 47) (shown_holds (end_tag_holds name left bs of) (λ x is. (tt, is)))
    (chosen (b == 33) (shown_holds (comment_holds left bs of) (λ x is. (tt, is)))
    (chosen (b == 63) no (chosen (starts_name b) (chosen (room == 0) no (tag_holds whole left bytes all)) no))))

record IsInsideOfBytes (i : Inside) : Type 0 where
  children : AreOfBytes i.children
  text : IsOfBytes i.text

followed : (before more : Forest) → AreOfBytes before → AreOfBytes more → AreOfBytes (followed_by before more)
followed nothing more is then_is = then_is
followed (element head children others) more is then_is = (is.0, is.1, followed others more is.2 then_is)

with_one : (before : Inside) (head : Head) (i : Inside) → IsInsideOfBytes before → IsHeadOfBytes head → IsInsideOfBytes i
    → IsInsideOfBytes (record before { children = with_child before.children head i })
with_one before head i is of inner = record {
  children = followed before.children _ is.children (record { values = of.values; text = inner.text }, inner.children, tt);
  text = is.text;
}

abbrev AreInner : (List ℕ → List ℕ → Production (Inside × List ℕ)) → Type 0
AreInner inner = (name bytes : List ℕ) → IsOfBytes bytes → Holds (inner name bytes) (Both IsInsideOfBytes)

added_holds : (inner : List ℕ → List ℕ → Production (Inside × List ℕ)) → AreInner inner → (before : Inside) → IsInsideOfBytes before
    → (x : Piece × List ℕ) → Both IsPieceOfBytes x → Holds (added inner before x) (Third IsInsideOfBytes)
added_holds inner h before is (pieces.ended, rest) of = just_holds (is, of.1)
added_holds inner h before is (pieces.comment, rest) of = just_holds (is, of.1)
added_holds inner h before is (pieces.empty head, rest) of =
    just_holds (with_one before head nothing_inside is of.0 (record { children = tt; text = All-nil IsByte }), of.1)
added_holds inner h before is (pieces.begun head, rest) of =
    shown_holds (h head.name rest of.1) (λ i inner_is. (with_one before head i.0 is of.0 inner_is.0, inner_is.1))

next_inside_holds : (inner : List ℕ → List ℕ → Production (Inside × List ℕ)) → AreInner inner → (whole : List ℕ) (room : ℕ) (name : List ℕ)
    (before : Inside) (bytes : List ℕ) → IsInsideOfBytes before → IsOfBytes bytes
    → Holds (next_inside inner whole room name before bytes) (Third IsInsideOfBytes)
unfolding next_inside
next_inside_holds inner h whole room name before bytes is all =
    next_holds (many_hold (parts_hold marked_in_content 60) before.text bytes is.text all) (λ found of.
    also (next_holds (piece_holds whole room name (length found.1) (drop 1 found.1) (dropped 1 found.1 of.1))
    (added_holds inner h (record before { text = found.0 }) (record { children = is.children; text = of.0 }))))

inside_holds : (room : ℕ) (whole : List ℕ) → AreInner (inside room whole)
unfolding inside
inside_holds zero whole name bytes all = nothing_holds
inside_holds (suc room) whole name bytes all =
    many_hold (next_inside_holds (inside room whole) (inside_holds room whole) whole room name) nothing_inside bytes
    (record { children = tt; text = All-nil IsByte }) all

element_holds : (whole : List ℕ) (x : Piece × List ℕ) → Both IsPieceOfBytes x → Holds (grammar.element whole x) (Both IsElementOfBytes)
element_holds whole (pieces.ended, rest) is = record { all = λ x never. absurd never }
element_holds whole (pieces.comment, rest) is = record { all = λ x never. absurd never }
element_holds whole (pieces.empty head, rest) is = just_holds (record { head = is.0; children = tt }, is.1)
element_holds whole (pieces.begun head, rest) is = shown_holds (inside_holds 32 whole head.name rest is.1)
    (λ i of. (record { head = record { values = is.0.values; text = of.0.text }; children = of.0.children }, of.1))

root_holds : (whole bytes : List ℕ) → IsOfBytes bytes → Holds (root whole bytes) (Both IsElementOfBytes)
unfolding root behind_root_start
root_holds whole bytes all = first_holds _ _ bytes all (λ b bs of _ no. chosen (b == 60)
    (first_holds _ _ bs of (λ c cs _ _ none. chosen (c == 63) none (chosen (starts_name c)
    (next_holds (tag_holds whole (length bytes) bs of) (element_holds whole)) none))) no)

document_holds : (bytes : List ℕ) → IsOfBytes bytes → Holds (document bytes) IsElementOfBytes
unfolding document
document_holds bytes all =
    next_holds (beginning_holds bytes all) (λ behind of.
    next_holds (misc_holds behind of) (λ front of.
    next_holds (root_holds bytes front of) (λ found is.
    shown_holds {IsSo = Any} (record { all = λ _ _. tt }) (λ _ _. is.0))))

pub readings_are_of_bytes : ((bytes : List ℕ) → IsOneReading bytes (reading_of bytes)) → ReadingsAreOfBytes
readings_are_of_bytes one bytes tree all is =
    let spells : Spells tree bytes = subst (ReadsAs bytes) is (one bytes).is_read in
    (document_holds bytes all).all tree spells.document
