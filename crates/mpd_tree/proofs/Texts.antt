-- References, values and character data are read as the grammar says.
use Rattle.std.proofs.Common.{◌≡◌, ℕ, suc, ◌-◌, ◌<◌, ◌≤◌, Bool, true, false, not, eqb, inl, inr, List, [], ◌∷◌, ◌++◌, length, take, drop}
use Rattle.std.proofs.Common.{Result, Ok, Err, Option, Some, None, refl, sym, ap, ◌∙◌, subst, arith, codes, length-append, length-drop}
use Rattle.std.proofs.{lemmas.Bool.{cases_Bool, eqb-true}, lemmas.Bool.Decides.nat_tests, lemmas.List.{take-append-drop, length-take}}
use Rattle.std.proofs.lemmas.List.Sums.{prefix_len-le-length}
use Rattle.std.specs.{Prelude.◌==◌, List.{position_or_len, prefix_len, list_all}}
use Rattle.mpd_tree.specs.{declared.stop.Fault.Fault, declared.stop.Wrong.TheVariants.Entity, Characters.{is_digit, has_byte}}
use Rattle.mpd_tree.specs.References.{is_hex_digit, referred_to, front_of_digits, front_len, entity, is_semicolon, character_or, named_in}
use Rattle.mpd_tree.specs.{References.reference_at, Runs.{up_to, after_line_feed, common}, Marked.marked_in_value}
use Rattle.mpd_tree.specs.Positions.{Position, here, in_reference, fault_by, fault_at}
use Rattle.mpd_tree.specs.Grammar.{IsReference, reference, line_end, behind_return, marked, part, text, closed, value}
use Rattle.byte_scan.specs.ByteSet.{is_member}
use Rattle.mpd_tree.proofs.Produced.{IsReading, IsRead, last_of, third_of, passed, done, decided_of, no, also, same, weaker, next_read}
use Rattle.mpd_tree.proofs.Produced.{shown, by_test, at_test, refuses, run_before, ReadsOn, many_read}
use Rattle.mpd_tree.proofs.Cuts.{Stops, up_to_is, run_again, run_passes, run_stops}

-- ---- no reference goes on with a `;`

common_stops : (word bytes : List ℕ) → has_byte 59 word ≡ false → common word bytes ≤ position_or_len is_semicolon bytes
common_stops [] bytes h = omega arith
common_stops (a ∷ more) [] h = omega arith
common_stops (a ∷ more) (b ∷ bs) h = grind (arith, nat_tests, common_stops more bs)

run_stops_at : (p : ℕ → Bool) → p 59 ≡ false → (bytes : List ℕ) → prefix_len p bytes ≤ position_or_len is_semicolon bytes
run_stops_at p h [] = omega arith
run_stops_at p h (b ∷ bs) = elim (cases_Bool (eqb b 59)) [
  | inl t ↦ rw (eqb-true b 59 t, h) (omega arith)
  | inr f ↦ elim (cases_Bool (p b)) [ inl t ↦ rw (t, f) (omega (arith, run_stops_at p h bs)) | inr g ↦ rw g (omega arith) ]
]

digits_stop : (bytes : List ℕ) → front_of_digits bytes ≤ position_or_len is_semicolon bytes
digits_stop [] = omega arith
digits_stop (b ∷ bs) = elim (cases_Bool (eqb b 120)) [
  | inl t ↦ rw (t, eqb-true b 120 t) (omega (arith, run_stops_at is_hex_digit refl bs))
  | inr f ↦ rw f (run_stops_at is_digit refl (b ∷ bs))
]

front_stops : (bytes : List ℕ) → front_len bytes ≤ up_to is_semicolon bytes
front_stops [] = omega arith
front_stops (b ∷ bs) = rw (up_to_is is_semicolon (b ∷ bs)) (elim (cases_Bool (eqb b 35)) [
  | inl t ↦ rw (t, eqb-true b 35 t) (omega (arith, digits_stop bs))
  | inr f ↦ rw f (omega (
    arith,
    common_stops (codes "amp") (b ∷ bs) refl,
    common_stops (codes "lt") (b ∷ bs) refl,
    common_stops (codes "gt") (b ∷ bs) refl,
    common_stops (codes "quot") (b ∷ bs) refl,
    common_stops (codes "apos") (b ∷ bs) refl,
  ))
])

-- ---- references

passes : (name : List ℕ) → not (has_byte 59 name) ≡ true → list_all (λ b. not (is_semicolon b)) name ≡ true
passes [] h = refl
passes (b ∷ bs) h = grind (arith, nat_tests, passes bs)

lacks : (name : List ℕ) → list_all (λ b. not (is_semicolon b)) name ≡ true → has_byte 59 name ≡ false
lacks [] h = refl
lacks (b ∷ bs) h = grind (arith, nat_tests, lacks bs)

abbrev Reference : ℕ → List ℕ → Result (ℕ × List ℕ) Fault → Type 0
Reference left bytes r = IsReading last_of (reference left bytes) (suc (length bytes)) r

no_entity : (left : ℕ) (bytes : List ℕ) → front_len bytes ≤ length bytes
    → ((x : ℕ × List ℕ) → IsReference bytes x → Err (entity left bytes) ≡ Ok x) → Reference left bytes (Err (entity left bytes))
unfolding reference
no_entity left bytes most never = record {
  reads = (_, record { count = front_len bytes; goes_on = omega arith; is_there = refl }, refl);
  again = never;
  meets = λ p is. elim (cases_Bool (eqb is.count (front_len bytes))) [
    | inl t ↦ inr (ap Err (ap (λ (k : ℕ). fault_by in_reference left (drop k bytes)) (sym (eqb-true _ _ t))
        ∙ ap fault_at (sym is.is_there)))
    | inr f ↦ let less : suc is.count ≤ front_len bytes = grind (arith, nat_tests, f, is.goes_on) in
        let long : length p.rest ≡ length bytes - is.count = ap (λ (q : Position). length q.rest) is.is_there
        ∙ length-drop is.count bytes in
        inl (omega (arith, less, most, long, decided_of Entity left (drop (front_len bytes) bytes), length-drop (front_len bytes) bytes))
  ];
  within = omega (arith, decided_of Entity left (drop (front_len bytes) bytes), length-drop (front_len bytes) bytes);
}

by_character : (left : ℕ) (bytes name rest : List ℕ) (o : Option ℕ) → bytes ≡ name ++ 59 ∷ rest → has_byte 59 name ≡ false
    → front_len bytes ≤ length name → referred_to name ≡ o
    → ((x : ℕ × List ℕ) → IsReference bytes x → character_or (entity left bytes) rest o ≡ Ok x)
    → Reference left bytes (character_or (entity left bytes) rest o)
unfolding reference
by_character left bytes name rest None e lack goes r again =
    no_entity left bytes (omega (arith, goes, ap length e, length-append name (59 ∷ rest))) again
by_character left bytes name rest (Some c) e lack goes r again = record {
  reads = record { name = name; bytes_are = e; is_first = ap not lack; refers = r };
  again = again;
  meets = λ p is. let long : length p.rest ≡ length bytes - is.count = ap (λ (q : Position). length q.rest) is.is_there
      ∙ length-drop is.count bytes in
      inl (omega (arith, goes, is.goes_on, long, ap length e, length-append name (59 ∷ rest)));
  within = omega (arith, ap length e, length-append name (59 ∷ rest));
}

by_name : (left : ℕ) (bytes name rest : List ℕ) → bytes ≡ name ++ rest → Stops is_semicolon rest → has_byte 59 name ≡ false
    → front_len bytes ≤ length name → ((x : ℕ × List ℕ) → IsReference bytes x → named_in (entity left bytes) name rest ≡ Ok x)
    → Reference left bytes (named_in (entity left bytes) name rest)
by_name left bytes name [] e stops lack goes again = no_entity left bytes (omega (arith, goes, ap length e, length-append name [])) again
by_name left bytes name (b ∷ bs) e stops lack goes again =
    by_character left bytes name bs (referred_to name) (e ∙ ap (λ (c : ℕ). name ++ c ∷ bs) (eqb-true b 59 stops)) lack goes refl again

pub reference_read : (left : ℕ) (bytes : List ℕ) → IsRead last_of (reference left bytes) (suc (length bytes))
unfolding reference reference_at
reference_read left bytes =
    let n = up_to is_semicolon bytes in
    by_name left bytes (take n bytes) (drop n bytes) (sym (take-append-drop n bytes)) (run_stops is_semicolon bytes)
    (lacks (take n bytes) (run_passes is_semicolon bytes))
    (omega (
      arith,
      front_stops bytes,
      length-take n bytes,
      up_to_is is_semicolon bytes,
      prefix_len-le-length (λ b. not (is_semicolon b)) bytes,
    )) read
  where
    read : (x : ℕ × List ℕ) → IsReference bytes x → named_in (entity left bytes) (take (up_to is_semicolon bytes) bytes)
        (drop (up_to is_semicolon bytes) bytes) ≡ Ok x
    read x is =
        let cut = run_again is_semicolon is.name (59 ∷ x.1) (passes is.name is.is_first) refl in
        let named : named_in (entity left bytes) (take (up_to is_semicolon (is.name ++ 59 ∷ x.1)) (is.name ++ 59 ∷ x.1))
        (drop (up_to is_semicolon (is.name ++ 59 ∷ x.1)) (is.name ++ 59 ∷ x.1)) ≡ Ok x
        = rw (cut.0, cut.1) (rw is.refers refl) in
        subst (λ (b : List ℕ). named_in (entity left bytes) (take (up_to is_semicolon b) b) (drop (up_to is_semicolon b) b) ≡ Ok x)
        (sym is.bytes_are) named

-- ---- parts of a text

feed_less : (bytes : List ℕ) → suc (length (after_line_feed bytes)) ≤ suc (length bytes)
feed_less [] = omega arith
feed_less (b ∷ bs) = elim (cases_Bool (eqb b 10)) [ inl t ↦ rw t (omega arith) | inr f ↦ rw f (omega arith) ]

feed_passed : (bytes : List ℕ) (p : Position) → (behind_return [] bytes).is_open p → suc (length (after_line_feed bytes)) ≤ length p.rest
feed_passed [] p is = absurd cc
feed_passed (b ∷ bs) p is =
    let first : b ≡ 10 = grind arith in
    rw first (omega (arith, ap (λ (q : Position). length q.rest) is.2))

line_end_read : (read bytes : List ℕ) → IsRead third_of (behind_return read bytes) (suc (length bytes))
line_end_read read bytes = weaker (feed_less bytes)
    (same (λ x is. is) (λ x is. is) (λ p never. absurd never) (λ p is. inr (inl (feed_passed bytes p is))) done)

pub marked_read : (stop : ℕ) (read bytes : List ℕ) → IsRead third_of (marked stop read bytes) (suc (length bytes))
unfolding marked
marked_read stop read [] = no
marked_read stop read (b ∷ bs) =
    by_test (b == stop) (λ t. done) (λ f.
    at_test (b == 38) (λ t. also (shown (λ x. refl) (reference_read (length (b ∷ bs)) bs))) (λ g.
    at_test (b == 13) (λ t. also (line_end_read (read ++ line_end stop ∷ []) bs)) (λ h.
    at_test (b == 60) (λ t. refuses) (λ k. also done))))

marked_fewer : (stop : ℕ) (read bytes : List ℕ) (x : List ℕ × Bool × List ℕ) → (marked stop read bytes).spells x → x.1 ≡ false
    → length x.2 < length bytes
unfolding marked
marked_fewer stop read [] x is e = absurd is
marked_fewer stop read (b ∷ bs) x is e = elim (cases_Bool (b == stop)) [
  | inl t ↦
      let at_stop : x ≡ (read, true, b ∷ bs) = rw t at is in
      let never : true ≡ false = sym (ap (λ (y : List ℕ × Bool × List ℕ). y.1) at_stop) ∙ e in
      absurd cc
  | inr f ↦ passed (marked_read stop read (b ∷ bs)) x is (here (b ∷ bs)) (rw f (inl refl))
]

parts_read : (marks : List ℕ) (stop : ℕ) → ReadsOn (part marks stop)
parts_read marks stop = record {
  reads = λ read bytes.
      let n = up_to (is_member marks) bytes in
      run_before (omega (arith, length-drop n bytes)) (marked_read stop (read ++ take n bytes) (drop n bytes));
  fewer = λ read bytes x is e.
      let n = up_to (is_member marks) bytes in
      omega (arith, length-drop n bytes, marked_fewer stop (read ++ take n bytes) (drop n bytes) x is e);
}

-- ---- texts and values

pub text_read : (read marks : List ℕ) (stop : ℕ) (bytes : List ℕ) → IsRead last_of (text read marks stop bytes) (suc (length bytes))
text_read read marks stop bytes = many_read (parts_read marks stop) read bytes

pub value_read : (quote : ℕ) (bytes : List ℕ) → IsRead last_of (value quote bytes) (suc (length bytes))
unfolding value
value_read quote bytes = next_read (text_read [] (marked_in_value quote) quote bytes) (λ x _. closed_read x)
  where
    closed_read : (x : List ℕ × List ℕ) → IsRead last_of (closed x) (last_of x)
    closed_read (value, []) = no
    closed_read (value, b ∷ bs) = also done
