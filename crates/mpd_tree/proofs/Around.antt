-- What stands around the root, and the whole text, are read as the grammar says.
use Rattle.std.proofs.Common.{◌≡◌, ℕ, suc, ◌<◌, ◌≤◌, Bool, true, false, inl, inr, List, [], ◌∷◌, length, drop, refl, sym, ap, ◌∙◌, arith}
use Rattle.std.proofs.{Common.{codes, length-drop}, lemmas.Bool.cases_Bool}
use Rattle.std.specs.{Prelude.{◌==◌, nat_eq}, List.starts_with}
use Rattle.mpd_tree.specs.{Runs.{after_white, after_mark, mark}, Grammar.{comment, beginning, next_comment, misc, at_end, ending, document}}
use Rattle.mpd_tree.proofs.Produced.{IsRead, rest_of, bounded, done, no, refuses, met, weaker, also, next_read, shown, by_test, at_test}
use Rattle.mpd_tree.proofs.{Produced.{run_before, ReadsOn, many_read}, Comments.{comment_read, declaration_read}, Tags.white_less}
use Rattle.mpd_tree.proofs.Elements.{root_read}

-- ---- before the root

mark_less : (bytes : List ℕ) → length (after_mark bytes) ≤ length bytes
mark_less bytes = elim (cases_Bool (starts_with nat_eq bytes mark)) [
  | inl t ↦ rw t (omega (arith, length-drop 3 bytes))
  | inr f ↦ rw f (omega arith)
]

beginning_read : (bytes : List ℕ) → IsRead rest_of (beginning bytes) (suc (length bytes))
unfolding beginning
beginning_read bytes =
    let behind = after_mark bytes in
    by_test (starts_with nat_eq behind (codes "<?"))
    (λ t. weaker (omega (arith, mark_less bytes, length-drop 2 behind)) (declaration_read (length behind) (drop 2 behind)))
    (λ f. weaker (omega (arith, mark_less bytes)) done)

-- ---- comments and white space

comment_fewer : (bytes : List ℕ) (x : Unit {0} × Bool × List ℕ) → (next_comment tt bytes).spells x → x.1 ≡ false
    → length x.2 < length bytes
unfolding next_comment
comment_fewer bytes x is e = elim (cases_Bool (starts_with nat_eq bytes (codes "<!"))) [
  | inl t ↦ by_bytes bytes t (rw t at is)
  | inr f ↦
      let at_end : x ≡ (tt, true, bytes) = rw f at is in
      let never : true ≡ false = sym (ap (λ (y : Unit {0} × Bool × List ℕ). y.1) at_end) ∙ e in
      absurd cc
]
  where
    by_bytes : (bytes : List ℕ) → starts_with nat_eq bytes (codes "<!") ≡ true
        → (rest : List ℕ) × (comment (length bytes) (drop 2 bytes)).spells rest × (x ≡ (tt, false, after_white rest))
        → length x.2 < length bytes
    by_bytes [] t s = absurd cc
    by_bytes (b ∷ bs) t s =
        let read = comment_read (length (b ∷ bs)) (drop 1 bs) in
        let less = ap (λ (y : Unit {0} × Bool × List ℕ). length y.2) s.2 in
        omega (arith, bounded read s.0 s.1, white_less s.0, less, length-drop 1 bs)

comments_read : ReadsOn (λ (a : Unit {0}) (bytes : List ℕ). next_comment a bytes)
unfolding next_comment
comments_read = record {
  reads = λ _ bytes. by_test (starts_with nat_eq bytes (codes "<!"))
      (λ t. weaker (omega (arith, length-drop 2 bytes)) (next_read (comment_read (length bytes) (drop 2 bytes))
      (λ rest _. run_before (white_less rest) done)))
      (λ f. done);
  fewer = λ _ bytes x is e. comment_fewer bytes x is e;
}

misc_read : (bytes : List ℕ) → IsRead rest_of (misc bytes) (suc (length bytes))
unfolding misc
misc_read bytes = run_before (white_less bytes) (shown (λ x. refl) (many_read comments_read tt (after_white bytes)))

-- ---- the end, and the whole

abbrev no_more : Unit {0} → ℕ
no_more _ = 0

nothing_read : (bytes : List ℕ) → IsRead no_more (at_end bytes) (suc (length bytes))
nothing_read [] = weaker (omega arith) (met (λ p at. inl (omega arith)) done)
nothing_read (b ∷ bs) = at_test (b == 60) (λ t. also no) (λ f. refuses)

ending_read : (bytes : List ℕ) → IsRead no_more (ending bytes) (suc (length bytes))
unfolding ending
ending_read bytes = next_read (misc_read bytes) (λ rest _. nothing_read rest)

pub document_read : (whole : List ℕ) → IsRead (λ _. 0) (document whole) (suc (length whole))
unfolding document
document_read whole =
    next_read (beginning_read whole) (λ behind _.
    next_read (misc_read behind) (λ front _.
    next_read (root_read whole front) (λ found _.
    shown (λ x. refl) (ending_read found.1))))
