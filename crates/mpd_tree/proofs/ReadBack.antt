-- An escaped text reads back as a value in `"`.
use Rattle.std.proofs.Common.{◌≡◌, ◌≢◌, ℕ, zero, suc, ◌≤◌, Bool, true, false, nat_le, List, [], ◌∷◌, ◌++◌, Some, codes, encode_utf8, refl}
use Rattle.std.proofs.{Common.{sym, ◌∙◌, subst, arith, inl, inr, append_assoc, not}, lemmas.Bool.cases_eq, lemmas.List.append-nil}
use Rattle.std.specs.List.{list_all}
use Rattle.byte_scan.specs.ByteSet.{is_member}
use Rattle.mpd_tree.specs.{Characters.has_byte, Marked.marked_in_value, Escapes.{escape_of, escape_all, IsReadBack}, Runs.{up_to, plain_at}}
use Rattle.mpd_tree.specs.{References.referred_to, Grammar.{IsReference, reference, marked, text, value}, Productions.times}
use Rattle.mpd_tree.proofs.{Cuts.up_to_is, EscapeLemmas.byte_stays}
use lib.Utf8.{encode}

abbrev marks : List ℕ
marks = marked_in_value 34

abbrev IsText : List ℕ → List ℕ → List ℕ × List ℕ → Type 0
IsText read bytes y = (text read marks 34 bytes).spells y

-- a byte that reads as it stands
stands : (read : List ℕ) (b : ℕ) (bytes : List ℕ) (y : List ℕ × List ℕ) → is_member marks b ≡ false
    → IsText (read ++ b ∷ []) bytes y → IsText read (b ∷ bytes) y
unfolding times
stands read b bytes y plain (zero, never) = absurd never
stands read b bytes y plain (suc n, is) =
    let some : up_to (is_member marks) (b ∷ bytes) ≡ suc (up_to (is_member marks) bytes) =
    up_to_is (is_member marks) (b ∷ bytes) ∙ rw plain (omega (arith, up_to_is (is_member marks) bytes)) in (
      suc n,
      (
        is.0,
        rw some (subst (λ (l : List ℕ). (marked 34 l (plain_at marks bytes).1).spells is.0)
            (append_assoc read (b ∷ []) _) is.1),
        is.2,
      ),
    )

plain : (b : ℕ) → 32 ≤ b → b ≢ 38 → b ≢ 60 → b ≢ 34 → is_member marks b ≡ false
plain b high amp less quote = grind arith

-- a reference reads as the character that it names
named : (c : ℕ) (name : List ℕ) → referred_to name ≡ Some c → not (has_byte 59 name) ≡ true → encode_utf8 c ≡ c ∷ []
    → (read bytes : List ℕ) (y : List ℕ × List ℕ) → IsText (read ++ c ∷ []) bytes y → IsText read (38 ∷ name ++ 59 ∷ bytes) y
unfolding times marked reference
named c name refers first one read bytes y (n, is) =
    let none : up_to (is_member marks) (38 ∷ name ++ 59 ∷ bytes) ≡ 0 = up_to_is (is_member marks) (38 ∷ name ++ 59 ∷ bytes) in
    let x : List ℕ × Bool × List ℕ = (read ++ c ∷ [], false, bytes) in
    let is_reference : IsReference (name ++ 59 ∷ bytes) (c, bytes) = record {
      name = name;
      bytes_are = refl;
      is_first = first;
      refers = refers;
    } in
    (suc n, (x, rw (none, append-nil read) ((c, bytes), is_reference, rw one refl), is))

text_is : (text : List ℕ) → list_all (λ b. nat_le 32 b) text ≡ true → (read rest : List ℕ)
    → IsText read (escape_all text ++ 34 ∷ rest) (read ++ text, 34 ∷ rest)
unfolding escape_all encode times marked
text_is [] high read rest =
    let none : up_to (is_member marks) (34 ∷ rest) ≡ 0 = up_to_is (is_member marks) (34 ∷ rest) in
    (1, ((read ++ [], true, 34 ∷ rest), rw none refl, refl))
text_is (b ∷ bs) high read rest =
    let more = escape_all bs ++ 34 ∷ rest in
    let IsSo : ℕ → Type 0 = λ k. IsText read (escape_of k ++ more) (read ++ k ∷ bs, 34 ∷ rest) in
    let on : (k : ℕ) → IsText (read ++ k ∷ []) more (read ++ k ∷ bs, 34 ∷ rest) = λ k.
    subst (λ (l : List ℕ). IsText (read ++ k ∷ []) more (l, 34 ∷ rest)) (append_assoc read (k ∷ []) bs)
    (text_is bs (grind arith) (read ++ k ∷ []) rest) in
    subst (λ (l : List ℕ). IsText read l (read ++ b ∷ bs, 34 ∷ rest)) (sym (append_assoc (escape_of b) (escape_all bs) (34 ∷ rest)))
    (elim (cases_eq b 38) [
      | inl is ↦ subst IsSo (sym is) (named 38 (codes "amp") refl refl refl read more _ (on 38))
      | inr amp ↦ elim (cases_eq b 60) [
        | inl is ↦ subst IsSo (sym is) (named 60 (codes "lt") refl refl refl read more _ (on 60))
        | inr less ↦ elim (cases_eq b 62) [
          | inl is ↦ subst IsSo (sym is) (named 62 (codes "gt") refl refl refl read more _ (on 62))
          | inr greater ↦ elim (cases_eq b 34) [
            | inl is ↦ subst IsSo (sym is) (named 34 (codes "quot") refl refl refl read more _ (on 34))
            | inr quote ↦ rw (byte_stays b (grind arith) (grind arith) (grind arith) (grind arith))
                (stands read b more _ (plain b (grind arith) amp less quote) (on b))
          ]
        ]
      ]
    ])

pub reads_back : (text : List ℕ) → IsReadBack text
unfolding value
reads_back text high rest = ((text, 34 ∷ rest), text_is text high [] rest, refl)
