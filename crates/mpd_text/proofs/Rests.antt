-- Where what is left of a text stands: at its end, and mostly behind a byte of ASCII.
use Rattle.std.proofs.Common.{◌≡◌, ℕ, suc, ◌+◌, ◌-◌, ◌<◌, ◌≤◌, Bool, true, false, eqb, List, [], ◌∷◌, ◌++◌, length, take, drop, get_or}
use Rattle.std.proofs.Common.{Result, Ok, Err, IfOk, ◌&&◌, ◌||◌, ◌⊎◌, bytes_eq, codes, nat_eq, zero, inl, inr, refl, sym, ap, ◌∙◌, subst}
use Rattle.std.proofs.{Common.{arith, append_assoc, if◌then◌else◌}, lemmas.Bool.{cases_Bool, eqb-true}, lemmas.Bool.Decides.nat_tests}
use Rattle.std.proofs.lemmas.List.{take-append-drop, take_all, length-append, length-drop, drop_at, get_or-append-add}
use Rattle.std.proofs.lemmas.Str.{IsCharBoundary-after_ascii, IsCharBoundary-before_ascii, IsCharBoundary-end}
use Rattle.std.specs.{List.{position_or_len, starts_with}, Str.{IsUtf8, IsCharBoundary}}
use Rattle.mpd_text.specs.Rests.{IsBehind, IsEnd}
use Rattle.mpd_tree.specs.{declared.stop.Fault.Fault, Characters.{is_white, starts_name, goes_on_name}}
use Rattle.mpd_tree.specs.Runs.{is_black, after_white, ends_name, name_at, mark, after_mark, common, begins}
use Rattle.mpd_tree.specs.Productions.{◌>>=◌, further, times}
use Rattle.mpd_tree.specs.Grammar.{greater_than, behind_dashes, behind_two, second_dash, comment, declared, word, declaration}
use Rattle.mpd_tree.specs.Grammar.{equals_sign, equals, quote_mark, tag_end, end_name, end_tag, beginning, next_comment, misc}
use Rattle.mpd_tree.proofs.Cuts.{Stops, up_to_is}

pub ends_itself : (s : List ℕ) → IsEnd s s
ends_itself s = record { front = []; whole_is = refl }

pub ends_tail : (s : List ℕ) (b : ℕ) (bs : List ℕ) → IsEnd s (b ∷ bs) → IsEnd s bs
ends_tail s b bs e = record { front = e.front ++ b ∷ []; whole_is = e.whole_is ∙ sym (append_assoc e.front (b ∷ []) bs) }

pub ends_drop : (n : ℕ) (s bytes : List ℕ) → IsEnd s bytes → IsEnd s (drop n bytes)
ends_drop n s bytes e = record {
  front = e.front ++ take n bytes;
  whole_is = e.whole_is ∙ ap (λ (t : List ℕ). e.front ++ t) (sym (take-append-drop n bytes))
      ∙ sym (append_assoc e.front (take n bytes) (drop n bytes));
}

pub behind : (s : List ℕ) (b : ℕ) (bs : List ℕ) → b < 128 → IsEnd s (b ∷ bs) → IsBehind s bs
behind s b bs small e = record { front = e.front; byte = b; small = small; whole_is = e.whole_is }

pub ends : (s bytes : List ℕ) → IsBehind s bytes → IsEnd s bytes
ends s bytes r = ends_tail s r.byte bytes (record { front = r.front; whole_is = r.whole_is })

-- what stands behind the first byte
pub tail_is : (bytes : List ℕ) → take (length bytes - 1) (drop 1 bytes) ≡ drop 1 bytes
tail_is bytes = take_all (length bytes - 1) (drop 1 bytes) (omega (arith, length-drop 1 bytes))

pub ends_behind : (s bytes : List ℕ) → IsEnd s bytes → IsEnd s (take (length bytes - 1) (drop 1 bytes))
ends_behind s bytes e = rw (tail_is bytes) (ends_drop 1 s bytes e)

pub ends_dropped : (s bytes : List ℕ) → IsEnd s bytes → drop (length s - length bytes) s ≡ bytes
ends_dropped s bytes e =
    ap (λ (t : List ℕ). drop (length s - length bytes) t) e.whole_is ∙ drop_at e.front bytes (length s - length bytes) (omega (
      arith,
      ap length e.whole_is,
      length-append e.front bytes,
    ))

pub ends_within : (s bytes : List ℕ) → IsEnd s bytes → length bytes ≤ length s
ends_within s bytes e = omega (arith, ap length e.whole_is, length-append e.front bytes)

pub behind_within : (s bytes : List ℕ) → IsBehind s bytes → length bytes < length s
behind_within s bytes r = omega (arith, ap length r.whole_is, length-append r.front (r.byte ∷ bytes))

-- ---- where the whole may be cut

seam : (s front bytes : List ℕ) (b : ℕ) → s ≡ front ++ b ∷ bytes → b < 128 → get_or s (length front) 0 < 128
seam s front bytes b e small =
    let k : length front + 0 ≡ length front = omega arith in
    let got = get_or-append-add front (b ∷ bytes) 0 0 in
    rw (e, ← k) (rw got small)

pub cut_behind : (s bytes : List ℕ) → IsUtf8 s → IsBehind s bytes → IsCharBoundary s (length s - length bytes)
cut_behind s bytes u r =
    let lengths : length s ≡ length r.front + suc (length bytes) = ap length r.whole_is ∙ length-append r.front (r.byte ∷ bytes) in
    let at : length r.front + 1 ≡ length s - length bytes = omega arith in
    subst (IsCharBoundary s) at (IsCharBoundary-after_ascii s (length r.front) u (omega arith)
    (seam s r.front bytes r.byte r.whole_is r.small))

-- nothing, or a byte of ASCII first
abbrev pub BeginsAscii : List ℕ → Type 0
BeginsAscii [] = Unit {0}
BeginsAscii (b ∷ bs) = b < 128

pub cut_before : (s bytes : List ℕ) → IsEnd s bytes → BeginsAscii bytes → IsCharBoundary s (length s - length bytes)
cut_before s [] e a = subst (IsCharBoundary s) (omega arith) (IsCharBoundary-end s)
cut_before s (b ∷ bs) e a =
    let lengths : length s ≡ length e.front + suc (length bs) = ap length e.whole_is ∙ length-append e.front (b ∷ bs) in
    let at : length e.front ≡ length s - length (b ∷ bs) = omega arith in
    subst (IsCharBoundary s) at (IsCharBoundary-before_ascii s (length e.front) (omega arith) (seam s e.front bs b e.whole_is a))

-- ---- what is left by each reading

-- either answer is so
pub either : {A : Type 0} (P : A → Type 0) (t : Bool) {x y : A} → (t ≡ true → P x) → (t ≡ false → P y) → P (if t then x else y)
either P true f g = f refl
either P false f g = g refl

-- one reading behind another
pub then_so : {A B : Type 0} (P : A → Type 0) (Q : B → Type 0) (r : Result A Fault) (f : A → Result B Fault) → IfOk r P
    → ((x : A) → P x → IfOk (f x) Q) → IfOk (r >>= f) Q
then_so P Q (Ok x) f p h = h x p
then_so P Q (Err e) f p h = tt

abbrev pub Leaves : (List ℕ → Type 0) → Result (List ℕ) Fault → Type 0
Leaves P r = IfOk r P

white_ascii : (b : ℕ) → is_black b ≡ false → b < 128
unfolding is_white
white_ascii b w = grind (arith, nat_tests)

after_one : (b : ℕ) (bs : List ℕ) → is_black b ≡ false → after_white (b ∷ bs) ≡ after_white bs
after_one b bs w = rw (up_to_is is_black (b ∷ bs), up_to_is is_black bs, w) (ap (λ n. drop n (b ∷ bs))
    {y = suc (position_or_len is_black bs)} (omega arith))

white_rest : (s bytes : List ℕ) → IsEnd s bytes → (after_white bytes ≡ bytes) ⊎ IsBehind s (after_white bytes)
white_rest s [] e = inl refl
white_rest s (b ∷ bs) e = elim (cases_Bool (is_black b)) [
  | inl t ↦ inl (rw (up_to_is is_black (b ∷ bs), t) refl)
  | inr f ↦ rw (after_one b bs f) (inr (elim (white_rest s bs (ends_tail s b bs e)) [
    | inl same ↦ rw same (behind s b bs (white_ascii b f) e)
    | inr r ↦ r
  ]))
]

greater_rest : (s bytes : List ℕ) → IsEnd s bytes → IfOk (greater_than bytes).read (IsBehind s)
unfolding greater_than
greater_rest s [] e = tt
greater_rest s (b ∷ bs) e =
    either (Leaves (IsBehind s)) (eqb b 62) (λ t. behind s b bs (omega (arith, eqb-true b 62 t)) e) (λ f. tt)

abbrev pub Second : {A : Type 0} → List ℕ → Result (A × List ℕ) Fault → Type 0
Second {A} s r = IfOk r (λ (x : A × List ℕ). IsBehind s x.1)

closed_so : {A : Type 0} (a : A) (s bytes : List ℕ) → IsEnd s bytes → Second s ((greater_than bytes).read >>= λ rest. Ok (a, rest))
closed_so a s bytes e = then_so (IsBehind s) (λ x. IsBehind s x.1) (greater_than bytes).read (λ rest. Ok (a, rest)) (greater_rest s bytes e)
    (λ x r. r)

pub tag_end_rest : (s bytes : List ℕ) → IsEnd s bytes → Second s (tag_end bytes).read
unfolding tag_end
tag_end_rest s [] e = tt
tag_end_rest s (b ∷ bs) e =
    either (Second s) (eqb b 47) (λ t. closed_so true s bs (ends_tail s b bs e)) (λ f. closed_so false s (b ∷ bs) e)

named_rest : (name : List ℕ) (left : ℕ) (s bytes : List ℕ) → IsEnd s bytes → IfOk (end_name name left bytes).read (IsEnd s)
unfolding end_name
named_rest name left s bytes e = either (Leaves (IsEnd s)) (bytes_eq (name_at bytes).0 name) (λ same. ends_drop _ s bytes e) (λ f. tt)

pub end_tag_rest : (name : List ℕ) (left : ℕ) (s bytes : List ℕ) → IsEnd s bytes → IfOk (end_tag name left bytes).read (IsBehind s)
unfolding end_tag
end_tag_rest name left s [] e = tt
end_tag_rest name left s (b ∷ bs) e = either (Leaves (IsBehind s)) (starts_name b)
    (λ t. then_so (IsEnd s) (IsBehind s) (end_name name left (b ∷ bs)).read (λ rest. (greater_than (after_white rest)).read)
    (named_rest name left s (b ∷ bs) e) (λ rest r. greater_rest s (after_white rest) (ends_drop _ s rest r)))
    (λ f. tt)

dashes_rest : (s bytes : List ℕ) → IsEnd s bytes → IfOk (behind_dashes bytes).read (IsBehind s)
unfolding behind_dashes
dashes_rest s [] e = tt
dashes_rest s (b ∷ bs) e =
    either (Leaves (IsBehind s)) (eqb b 45) (λ t. greater_rest s bs (ends_tail s b bs e)) (λ f. greater_rest s (b ∷ bs) e)

two_rest : (one other : ℕ) (s bytes : List ℕ) → IsEnd s bytes → IfOk (behind_two one other bytes).read (IsEnd s)
unfolding behind_two
two_rest one other s [] e = tt
two_rest one other s (b ∷ bs) e =
    let more = ends_tail s b bs e in
    either (Leaves (IsEnd s)) (eqb b one && begins other bs) (λ t. ends_drop 1 s bs more) (λ f. two_rest one other s bs more)

dash_rest : (s bytes : List ℕ) → IsEnd s bytes → IfOk (second_dash bytes).read (IsBehind s)
unfolding second_dash
dash_rest s [] e = tt
dash_rest s (b ∷ bs) e = either (Leaves (IsBehind s)) (eqb b 45) (λ t. then_so (IsEnd s) (IsBehind s) (behind_two 45 45 bs).read
    (λ rest. (behind_dashes rest).read) (two_rest 45 45 s bs (ends_tail s b bs e)) (λ rest r. dashes_rest s rest r)) (λ f. tt)

pub comment_rest : (left : ℕ) (s bytes : List ℕ) → IsEnd s bytes → IfOk (comment left bytes).read (IsBehind s)
unfolding comment
comment_rest left s [] e = tt
comment_rest left s (b ∷ bs) e = either (Leaves (IsBehind s)) (eqb b 45) (λ t. dash_rest s bs (ends_tail s b bs e)) (λ f. tt)

equals_rest : (s bytes : List ℕ) → IsEnd s bytes → IfOk (equals_sign bytes).read (IsEnd s)
equals_rest s [] e = tt
equals_rest s (b ∷ bs) e = either (Leaves (IsEnd s)) (eqb b 61) (λ t. ends_drop _ s bs (ends_tail s b bs e)) (λ f. tt)

quote_rest : (s bytes : List ℕ) → IsEnd s bytes → Second s (quote_mark bytes).read
unfolding quote_mark
quote_rest s [] e = tt
quote_rest s (b ∷ bs) e = either (Second s) (eqb b 34 || eqb b 39) (λ t. behind s b bs (grind (arith, nat_tests)) e) (λ f. tt)

-- behind the quote of an attribute's value
pub quote_behind : (s bytes rest : List ℕ) (x : ℕ × List ℕ) → IsBehind s bytes → (equals (name_at bytes).1).read ≡ Ok rest
    → (quote_mark rest).read ≡ Ok x
    → IsBehind s x.1
unfolding equals
quote_behind s bytes rest x r is q =
    let e = ends_drop _ s (name_at bytes).1 (ends_drop _ s bytes (ends s bytes r)) in
    subst (Second s) q (quote_rest s rest (subst (Leaves (IsEnd s)) is (equals_rest s (after_white (name_at bytes).1) e)))

pub white_behind : (s bytes rest : List ℕ) → IsEnd s bytes → rest ≡ after_white bytes → length rest < length bytes → IsBehind s rest
white_behind s bytes rest e is less = elim (white_rest s bytes e) [
  | inl same ↦ absurd (omega (arith, less, ap length is, ap length same))
  | inr r ↦ subst (IsBehind s) (sym is) r
]

-- ---- as functions have it

pub white_left : (s bytes rest : List ℕ) → IsEnd s bytes → rest ≡ after_white bytes → IsEnd s rest
white_left s bytes rest e is = subst (IsEnd s) (sym is) (ends_drop _ s bytes e)

-- ---- around the root

mark_rest : (s bytes : List ℕ) → IsEnd s bytes → IsEnd s (after_mark bytes)
mark_rest s bytes e = either (IsEnd s) (starts_with nat_eq bytes mark) (λ t. ends_drop 3 s bytes e) (λ f. e)

declared_rest : (left : ℕ) (s bytes : List ℕ) → IsEnd s bytes → IfOk (declared left bytes).read (IsEnd s)
unfolding declared
declared_rest left s [] e = tt
declared_rest left s (b ∷ bs) e =
    either (Leaves (IsEnd s)) (is_white b) (λ t. two_rest 63 62 s bs (ends_tail s b bs e)) (λ f. tt)

pub beginning_rest : (s bytes : List ℕ) → IsEnd s bytes → IfOk (beginning bytes).read (IsEnd s)
unfolding beginning declaration
beginning_rest s bytes e =
    let marked : List ℕ = after_mark bytes in
    let m = mark_rest s bytes e in
    either (Leaves (IsEnd s)) (starts_with nat_eq marked (codes "<?"))
    (λ t. either (Leaves (IsEnd s)) (eqb (common word (drop 2 marked)) 3)
    (λ u. declared_rest (length marked) s (drop 3 (drop 2 marked)) (ends_drop 3 s (drop 2 marked) (ends_drop 2 s marked m))) (λ f. tt))
    (λ f. m)

one_rest : (s bytes : List ℕ) → IsEnd s bytes → IfOk (next_comment tt bytes).read (λ x. IsEnd s x.2)
unfolding next_comment
one_rest s bytes e = either (λ (r : Result (Unit {0} × Bool × List ℕ) Fault). IfOk r (λ x. IsEnd s x.2))
    (starts_with nat_eq bytes (codes "<!"))
    (λ t. then_so (IsBehind s) (λ x. IsEnd s x.2) (comment (length bytes) (drop 2 bytes)).read (λ rest. Ok (tt, false, after_white rest))
    (comment_rest (length bytes) s (drop 2 bytes) (ends_drop 2 s bytes e)) (λ rest r. ends_drop _ s rest (ends s rest r)))
    (λ f. e)

abbrev AreLeft : ℕ → List ℕ → Type 0
AreLeft n s = (bytes : List ℕ) → IsEnd s bytes → IfOk (times next_comment n tt bytes).read (λ x. IsEnd s x.1)

further_rest : (n : ℕ) (s : List ℕ) → AreLeft n s → (x : Unit {0} × Bool × List ℕ) → IsEnd s x.2
    → IfOk (further (times next_comment n) x).read (λ y. IsEnd s y.1)
further_rest n s more (tt, true, rest) e = e
further_rest n s more (tt, false, rest) e = more rest e

comments_rest : (n : ℕ) (s : List ℕ) → AreLeft n s
unfolding times
comments_rest zero s bytes e = tt
comments_rest (suc n) s bytes e = then_so (λ x. IsEnd s x.2) (λ x. IsEnd s x.1) (next_comment tt bytes).read
    (λ x. (further (times next_comment n) x).read) (one_rest s bytes e) (further_rest n s (comments_rest n s))

pub misc_rest : (s bytes : List ℕ) → IsEnd s bytes → IfOk (misc bytes).read (IsEnd s)
unfolding misc
misc_rest s bytes e =
    let white = after_white bytes in
    then_so (λ x. IsEnd s x.1) (IsEnd s) (times next_comment (length white + 1) tt white).read (λ x. Ok x.1)
    (comments_rest (length white + 1) s white (ends_drop _ s bytes e)) (λ x r. r)

-- ---- names

ends_ascii : (b : ℕ) → ends_name b ≡ true → b < 128
unfolding goes_on_name starts_name
ends_ascii b e = grind (arith, nat_tests)

pub name_ends : (rest : List ℕ) → Stops ends_name rest → BeginsAscii rest
name_ends [] s = tt
name_ends (b ∷ bs) s = ends_ascii b s
