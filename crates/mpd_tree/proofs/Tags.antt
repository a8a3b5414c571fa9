-- Tags and their attributes are read as the grammar says.
use Rattle.std.proofs.Common.{◌≡◌, ℕ, suc, ◌<◌, ◌≤◌, Bool, true, false, inl, inr, List, [], ◌∷◌, length, refl, sym, ap, ◌∙◌, arith}
use Rattle.std.proofs.{Common.length-drop, lemmas.Bool.cases_Bool}
use Rattle.std.specs.{Prelude.{◌==◌, ◌&&◌, ◌||◌, bytes_eq}, List.position_or_len}
use Rattle.bridge_io.specs.Texts.{is_among}
use Rattle.mpd_tree.specs.{Characters.{starts_name, goes_on_name}, Trees.{names_of, Attribute}, Positions.here}
use Rattle.mpd_tree.specs.Runs.{up_to, is_black, ends_name, after_white, name_at}
use Rattle.mpd_tree.specs.Grammar.{greater_than, new_name, equals_sign, equals, quote_mark, attribute, behind_white, next_attribute}
use Rattle.mpd_tree.specs.Grammar.{attributes, tag_end, tag, end_name, end_tag}
use Rattle.mpd_tree.proofs.Produced.{IsRead, rest_of, last_of, third_of, passed, done, no, refuses, also, open_too, next_read, shown}
use Rattle.mpd_tree.proofs.{Produced.{by_test, at_test, run_before, ReadsOn, many_read}, Comments.greater_read, Cuts.up_to_is}
use Rattle.mpd_tree.proofs.Texts.{value_read}

-- ---- attributes

name_shorter : (b : ℕ) (bs : List ℕ) → starts_name b ≡ true → suc (length (name_at (b ∷ bs)).1) ≤ suc (length bs)
unfolding goes_on_name
name_shorter b bs t =
    let on : goes_on_name b ≡ true = rw t refl in
    let some : up_to ends_name (b ∷ bs) ≡ suc (position_or_len ends_name bs) = up_to_is ends_name (b ∷ bs) ∙ rw on (omega arith) in
    omega (arith, length-drop (up_to ends_name (b ∷ bs)) (b ∷ bs), some)

new_name_read : (before : List (List ℕ)) (bytes : List ℕ) (bound : ℕ) → suc (length (name_at bytes).1) ≤ bound
    → IsRead last_of (new_name before bytes) bound
unfolding new_name
new_name_read before bytes bound less = run_before less (by_test (is_among (name_at bytes).0 before) (λ t. no) (λ f. done))

pub white_less : (bytes : List ℕ) → suc (length (after_white bytes)) ≤ suc (length bytes)
white_less bytes = omega (arith, length-drop (up_to is_black bytes) bytes)

sign_read : (bytes : List ℕ) → IsRead rest_of (equals_sign bytes) (suc (length bytes))
sign_read [] = no
sign_read (b ∷ bs) = at_test (b == 61) (λ t. also (run_before (white_less bs) done)) (λ f. refuses)

equals_read : (bytes : List ℕ) → IsRead rest_of (equals bytes) (suc (length bytes))
unfolding equals
equals_read bytes = run_before (white_less bytes) (sign_read (after_white bytes))

quote_read : (bytes : List ℕ) → IsRead last_of (quote_mark bytes) (suc (length bytes))
unfolding quote_mark
quote_read [] = no
quote_read (b ∷ bs) = at_test (b == 34 || b == 39) (λ t. also done) (λ f. refuses)

attribute_read : (whole : List ℕ) (before : List Attribute) (bytes : List ℕ) (bound : ℕ) → suc (length (name_at bytes).1) ≤ bound
    → IsRead last_of (attribute whole before bytes) bound
unfolding attribute
attribute_read whole before bytes bound less =
    next_read (new_name_read (names_of before) bytes bound less) (λ name _.
    next_read (equals_read name.1) (λ behind _.
    next_read (quote_read behind) (λ quote _.
    shown (λ x. refl) (value_read quote.0 quote.1))))

behind_white_read : (whole : List ℕ) (before : List Attribute) (white : Bool) (bytes : List ℕ)
    → IsRead third_of (behind_white whole before white bytes) (suc (length bytes))
behind_white_read whole before white [] = no
behind_white_read whole before white (b ∷ bs) =
    by_test (b == 62 || b == 47) (λ t. done) (λ f.
    at_test (starts_name b && white)
    (λ t. also (shown (λ x. refl) (attribute_read whole before (b ∷ bs) (length (b ∷ bs)) (name_shorter b bs (grind arith)))))
    (λ g. refuses))

behind_white_fewer : (whole : List ℕ) (before : List Attribute) (white : Bool) (bytes : List ℕ) (x : List Attribute × Bool × List ℕ)
    → (behind_white whole before white bytes).spells x → x.1 ≡ false → length x.2 < length bytes
behind_white_fewer whole before white [] x is e = absurd is
behind_white_fewer whole before white (b ∷ bs) x is e = elim (cases_Bool (b == 62 || b == 47)) [
  | inl t ↦
      let at_end : x ≡ (before, true, b ∷ bs) = rw t at is in
      let never : true ≡ false = sym (ap (λ (y : List Attribute × Bool × List ℕ). y.1) at_end) ∙ e in
      absurd cc
  | inr f ↦ passed (behind_white_read whole before white (b ∷ bs)) x is (here (b ∷ bs)) (rw f (inl refl))
]

next_read_on : (whole : List ℕ) → ReadsOn (next_attribute whole)
unfolding next_attribute
next_read_on whole = record {
  reads = λ before bytes. run_before (white_less bytes) (behind_white_read whole before _ (after_white bytes));
  fewer = λ before bytes x is e. omega (arith, white_less bytes, behind_white_fewer whole before _ (after_white bytes) x is e);
}

attributes_read : (whole bytes : List ℕ) → IsRead last_of (attributes whole bytes) (suc (length bytes))
attributes_read whole bytes = many_read (next_read_on whole) [] bytes

-- ---- tags

tag_end_read : (bytes : List ℕ) → IsRead last_of (tag_end bytes) (suc (length bytes))
unfolding tag_end greater_than
tag_end_read [] = no
tag_end_read (b ∷ bs) = at_test (b == 47) (λ t. also (shown (λ x. refl) (greater_read bs)))
    (λ f. open_too (inl refl) (shown (λ x. refl) (greater_read (b ∷ bs))))

pub tag_read : (whole : List ℕ) (left b : ℕ) (bs : List ℕ) → starts_name b ≡ true
    → IsRead last_of (tag whole left (b ∷ bs)) (suc (length bs))
unfolding tag
tag_read whole left b bs t =
    run_before (name_shorter b bs t) (next_read (attributes_read whole (name_at (b ∷ bs)).1) (λ found _.
    shown (λ x. refl) (tag_end_read found.1)))

end_name_read : (name : List ℕ) (left : ℕ) (bytes : List ℕ) (bound : ℕ) → suc (length (name_at bytes).1) ≤ bound
    → IsRead rest_of (end_name name left bytes) bound
unfolding end_name
end_name_read name left bytes bound less = run_before less (by_test (bytes_eq (name_at bytes).0 name) (λ t. done) (λ f. no))

pub end_tag_read : (name : List ℕ) (left : ℕ) (bytes : List ℕ) → IsRead rest_of (end_tag name left bytes) (suc (length bytes))
unfolding end_tag
end_tag_read name left [] = no
end_tag_read name left (b ∷ bs) = at_test (starts_name b)
    (λ t. also (next_read (end_name_read name left (b ∷ bs) (length (b ∷ bs)) (name_shorter b bs t))
    (λ rest _. run_before (white_less rest) (greater_read (after_white rest)))))
    (λ f. refuses)
