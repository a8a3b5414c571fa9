-- What it is that bytes are read as a production says; and how this goes on from one production to the next.
use Rattle.std.proofs.Common.{◌≡◌, ℕ, zero, suc, ◌+◌, ◌<◌, ◌≤◌, Bool, true, false, ◌⊎◌, inl, inr, List, [], ◌∷◌, length, Result, Ok, Err}
use Rattle.std.proofs.{Common.{refl, sym, ap, ◌∙◌, subst, arith}, lemmas.Bool.Decides.nat_tests}
use Rattle.std.specs.Prelude.{if◌then◌else◌}
use Rattle.mpd_tree.specs.{declared.stop.Wrong.Wrong, declared.stop.Fault.Fault}
use Rattle.mpd_tree.specs.Positions.{Kind, Position, behind_less_than, behind_exclamation, fault, fault_by, fault_at}
use Rattle.mpd_tree.specs.Productions.{◌>>=◌, Production, just, refused, from, behind_run, choose, ◌>>◌, as_read, further, times, many}

-- one more than what is left behind what is read, or from the byte on that decides a fault
abbrev pub reached : {R : Type 0} → (R → ℕ) → Result R Fault → ℕ
reached left (Ok x) = left x
reached left (Err f) = suc f.decided

abbrev pub Reads : {R : Type 0} → Production R → Result R Fault → Type 0
Reads c (Ok x) = c.spells x
Reads c (Err f) = (p : Position) × c.is_open p × (f ≡ fault_at p)

-- What is read is spelled, and what is spelled is read; a fault is that of an open position, and each open position is passed
-- or decides the fault.
pub record IsReading {R : Type 0} (left : R → ℕ) (c : Production R) (bound : ℕ) (r : Result R Fault) : Type 0 where
  pub reads : Reads c r
  pub again : (x : R) → c.spells x → r ≡ Ok x
  pub meets : (p : Position) → c.is_open p → (reached left r ≤ length p.rest) ⊎ (r ≡ Err (fault_at p))
  pub within : reached left r ≤ bound

-- what a production says itself is so
abbrev pub IsRead : {R : Type 0} → (R → ℕ) → Production R → ℕ → Type 0
IsRead left c bound = IsReading left c bound c.read

abbrev pub rest_of : List ℕ → ℕ
rest_of x = suc (length x)

abbrev pub last_of : {A : Type 0} → A × List ℕ → ℕ
last_of x = suc (length x.1)

abbrev pub third_of : {A B : Type 0} → A × B × List ℕ → ℕ
third_of x = suc (length x.2)

-- what is read passes each open position
pub passed : {R : Type 0} {left : R → ℕ} {c : Production R} {bound : ℕ} {r : Result R Fault}
    → IsReading left c bound r → (x : R) → c.spells x → (p : Position) → c.is_open p → left x ≤ length p.rest
passed {R = R} {left = left} h x is p in_it = elim (h.meets p in_it) [
  | inl less ↦ subst (λ (s : Result R Fault). reached left s ≤ length p.rest) (h.again x is) less
  | inr e ↦ let never : Ok x ≡ Err (fault_at p) = sym (h.again x is) ∙ e in absurd cc
]

pub bounded : {R : Type 0} {left : R → ℕ} {c : Production R} {bound : ℕ} {r : Result R Fault}
    → IsReading left c bound r → (x : R) → c.spells x → left x ≤ bound
bounded {R = R} {left = left} {bound = bound} h x is = subst (λ (s : Result R Fault). reached left s ≤ bound) (h.again x is) h.within

-- ---- what is there at once

pub done : {R : Type 0} {left : R → ℕ} {x : R} → IsReading left (just x) (left x) (Ok x)
done = record { reads = refl; again = λ y e. ap Ok (sym e); meets = λ p never. absurd never; within = omega arith }

pub decided_of : (wrong : Wrong) (told : ℕ) (bytes : List ℕ) → (fault wrong told bytes).decided ≡ length bytes
decided_of wrong told [] = refl
decided_of wrong told (b ∷ bs) = refl

pub decided_at : (p : Position) → (fault_at p).decided ≡ length p.rest
decided_at p = by_kind p.kind p.start p.rest
  where
    by_kind : (kind : Kind) (start : ℕ) (rest : List ℕ) → (fault_by kind start rest).decided ≡ length rest
    by_kind (behind_less_than is_full) start [] = refl
    by_kind (behind_less_than is_full) start (b ∷ bs) = grind (arith, nat_tests)
    by_kind behind_exclamation start [] = refl
    by_kind behind_exclamation start (b ∷ bs) = grind (arith, nat_tests)
    by_kind kind start rest = decided_of _ _ rest

pub no : {R : Type 0} {left : R → ℕ} {q : Position} → IsRead left (refused {A = R} q) (suc (length q.rest))
no {q = q} = record {
  reads = (q, refl, refl);
  again = λ y never. absurd never;
  meets = λ p at. inr (ap Err (ap fault_at (sym at)));
  within = omega (arith, decided_at q);
}

pub weaker : {R : Type 0} {left : R → ℕ} {c : Production R} {less more : ℕ} {r : Result R Fault} → less ≤ more
    → IsReading left c less r → IsReading left c more r
weaker e h = record { reads = h.reads; again = h.again; meets = h.meets; within = omega (arith, e, h.within) }

-- the same in other words, but for positions that are passed or decide the fault
pub same : {R : Type 0} {left : R → ℕ} {c d : Production R} {bound : ℕ} {r : Result R Fault}
    → ((x : R) → c.spells x → d.spells x) → ((x : R) → d.spells x → c.spells x)
    → ((p : Position) → c.is_open p → d.is_open p)
    → ((p : Position) → d.is_open p → c.is_open p ⊎ (reached left r ≤ length p.rest) ⊎ (r ≡ Err (fault_at p)))
    → IsReading left c bound r → IsReading left d bound r
same {R = R} {c = c} {d = d} {r = r} to back open_to open_back h = record {
  reads = onward r h.reads;
  again = λ x is. h.again x (back x is);
  meets = λ p is. elim (open_back p is) [ inl in_it ↦ h.meets p in_it | inr (inl less) ↦ inl less | inr (inr e) ↦ inr e ];
  within = h.within;
}
  where
    onward : (s : Result R Fault) → Reads c s → Reads d s
    onward (Ok x) is = to x is
    onward (Err f) is = (is.0, open_to is.0 is.1, is.2)

abbrev also_open : {R : Type 0} → (Position → Type 0) → Production R → Production R
also_open InMore c = record c { is_open = λ p. InMore p ⊎ c.is_open p }

-- with more positions, each of which is passed or decides the fault
pub met : {R : Type 0} {left : R → ℕ} {InMore : Position → Type 0} {c : Production R} {bound : ℕ} {r : Result R Fault}
    → ((p : Position) → InMore p → (reached left r ≤ length p.rest) ⊎ (r ≡ Err (fault_at p)))
    → IsReading left c bound r → IsReading left (also_open InMore c) bound r
met more h = same (λ x is. is) (λ x is. is) (λ p is. inr is) (λ p is. elim is [
  | inl in_more ↦ inr (more p in_more)
  | inr in_it ↦
      inl in_it
]) h

pub beyond : {R : Type 0} {left : R → ℕ} {InMore : Position → Type 0} {c : Production R} {bound : ℕ} {r : Result R Fault}
    → ((p : Position) → InMore p → bound ≤ length p.rest) → IsReading left c bound r → IsReading left (also_open InMore c) bound r
beyond long h = met (λ p more. inl (omega (arith, long p more, h.within))) h

pub also : {R : Type 0} {left : R → ℕ} {q : Position} {c : Production R} {r : Result R Fault}
    → IsReading left c (length q.rest) r → IsReading left (from q c) (suc (length q.rest)) r
also h = weaker (omega arith) (beyond (λ p at. omega (arith, ap (λ (s : Position). length s.rest) at)) h)

-- open there and refused there
pub refuses : {R : Type 0} {left : R → ℕ} {q : Position} → IsRead left (from {A = R} q (refused q)) (suc (length q.rest))
refuses = met (λ p at. inr (ap Err (ap fault_at (sym at)))) no

-- open there already
pub open_too : {R : Type 0} {left : R → ℕ} {q : Position} {c : Production R} {bound : ℕ} {r : Result R Fault} → c.is_open q
    → IsReading left c bound r → IsReading left (from q c) bound r
open_too {R = R} {left = left} {q = q} {r = r} is h =
    met (λ p at. subst (λ (s : Position). (reached left r ≤ length s.rest) ⊎ (r ≡ Err (fault_at s))) (sym at) (h.meets q is)) h

-- behind a run
pub run_before : {R : Type 0} {left : R → ℕ} {bytes rest : List ℕ} {c : Production R} {bound : ℕ} {r : Result R Fault}
    → suc (length rest) ≤ bound → IsReading left c (suc (length rest)) r → IsReading left (behind_run bytes rest c) bound r
run_before less h = weaker less (beyond (λ p run. omega (arith, run.goes_on)) h)

-- ---- one after another

pub next_read : {X Y : Type 0} {left : X → ℕ} {end : Y → ℕ} {c : Production X} {d : X → Production Y} {bound : ℕ} {r : Result X Fault}
    {k : X → Result Y Fault} → IsReading left c bound r → ((x : X) → c.spells x → IsReading end (d x) (left x) (k x))
    → IsReading end (c >> d) bound (r >>= k)
next_read {X = X} {Y = Y} {left = left} {end = end} {c = c} {d = d} {r = Ok x} {k = k} h on = record {
  reads = both (k x) n.reads;
  again = λ y s. n.again y (subst (λ (z : X). (d z).spells y) (sym (one s.0 s.1)) s.2);
  meets = λ p is. elim is [
    | inl in_it ↦ elim (h.meets p in_it) [ inl less ↦ inl (omega (arith, less, n.within)) | inr never ↦ absurd cc ]
    | inr s ↦ n.meets p (subst (λ (z : X). (d z).is_open p) (sym (one s.0 s.1)) s.2)
  ];
  within = omega (arith, n.within, h.within);
}
  where
    n : IsReading end (d x) (left x) (k x)
    n = on x h.reads

    one : (z : X) → c.spells z → x ≡ z
    one z is = let e : Ok x ≡ Ok z = h.again z is in grind arith

    both : (s : Result Y Fault) → Reads (d x) s → Reads (c >> d) s
    both (Ok y) is = (x, h.reads, is)
    both (Err f) is = (is.0, inr (x, h.reads, is.1), is.2)
next_read {r = Err f} h on = record {
  reads = (h.reads.0, inl h.reads.1, h.reads.2);
  again = λ y s. let never : Err f ≡ Ok s.0 = h.again s.0 s.1 in absurd cc;
  meets = λ p is. elim is [
    | inl in_it ↦ elim (h.meets p in_it) [ inl less ↦ inl less | inr e ↦ let at : f ≡ fault_at p = grind arith in inr (ap Err at) ]
    | inr s ↦ let never : Err f ≡ Ok s.0 = h.again s.0 s.1 in absurd cc
  ];
  within = h.within;
}

-- read as something else, with as much left behind it
pub shown : {X Y : Type 0} {left : X → ℕ} {end : Y → ℕ} {c : Production X} {bound : ℕ} {r : Result X Fault} {f : X → Y}
    → ((x : X) → left x ≡ end (f x)) → IsReading left c bound r → IsReading end (as_read c f) bound (r >>= λ x. Ok (f x))
shown {end = end} {c = c} {f = f} e h =
    same {c = c >> λ x. just (f x)} (λ y is. is) (λ y is. is) (λ p is. elim is [ inl in_it ↦ in_it | inr s ↦ absurd s.2 ])
    (λ p is. inl (inl is))
    (next_read h (λ x _. subst (λ n. IsReading end (just (f x)) n (Ok (f x))) (sym (e x)) done))

-- as a test has it, alone and with one more position
pub by_test : {R : Type 0} {left : R → ℕ} {c d : Production R} {bound : ℕ} (t : Bool) {r s : Result R Fault}
    → (t ≡ true → IsReading left c bound r) → (t ≡ false → IsReading left d bound s)
    → IsReading left (choose t c d) bound (if t then r else s)
by_test true on off = on refl
by_test false on off = off refl

pub at_test : {R : Type 0} {left : R → ℕ} {q : Position} {c d : Production R} {bound : ℕ} (t : Bool) {r s : Result R Fault}
    → (t ≡ true → IsReading left (from q c) bound r) → (t ≡ false → IsReading left (from q d) bound s)
    → IsReading left (from q (choose t c d)) bound (if t then r else s)
at_test true on off = on refl
at_test false on off = off refl

-- ---- many

abbrev Each : Type 0 → Type 1
Each A = A → List ℕ → Production (A × Bool × List ℕ)

-- one is read, and goes on with fewer bytes
pub record ReadsOn {A : Type 0} (one : Each A) : Type 0 where
  pub reads : (a : A) (bytes : List ℕ) → IsRead third_of (one a bytes) (suc (length bytes))
  pub fewer : (a : A) (bytes : List ℕ) (x : A × Bool × List ℕ) → (one a bytes).spells x → x.1 ≡ false → length x.2 < length bytes

abbrev once : {A : Type 0} → Each A → A → List ℕ → Production (A × List ℕ)
once one a bytes = one a bytes >> further (many one)

module _ {A : Type 0} (one : Each A) (a : A) (bytes : List ℕ) where
  once_many : (y : A × List ℕ) → (once one a bytes).spells y → (many one a bytes).spells y
  unfolding times
  once_many y ((r, true, rest), is, e) = (1, ((r, true, rest), is, e))
  once_many y ((r, false, rest), is, m) = (suc m.0, ((r, false, rest), is, m.1))

  many_once : (y : A × List ℕ) → (many one a bytes).spells y → (once one a bytes).spells y
  unfolding times
  many_once y (zero, never) = absurd never
  many_once y (suc n, ((r, true, rest), is, e)) = ((r, true, rest), is, e)
  many_once y (suc n, ((r, false, rest), is, more)) = ((r, false, rest), is, (n, more))

  once_open : (p : Position) → (once one a bytes).is_open p → (many one a bytes).is_open p
  unfolding times
  once_open p (inl is) = (1, inl is)
  once_open p (inr ((r, true, rest), is, never)) = absurd never
  once_open p (inr ((r, false, rest), is, m)) = (suc m.0, inr ((r, false, rest), is, m.1))

  open_once : (p : Position) → (many one a bytes).is_open p → (once one a bytes).is_open p
  unfolding times
  open_once p (zero, never) = absurd never
  open_once p (suc n, inl is) = inl is
  open_once p (suc n, inr ((r, true, rest), is, never)) = absurd never
  open_once p (suc n, inr ((r, false, rest), is, more)) = inr ((r, false, rest), is, (n, more))

-- so many are enough
enough : {A : Type 0} {one : Each A} → ReadsOn one → (n : ℕ) (a : A) (bytes : List ℕ) → length bytes < n
    → IsReading last_of (many one a bytes) (suc (length bytes)) (times one n a bytes).read
unfolding times
enough h zero a bytes less = absurd (omega arith)
enough {A = A} {one = one} h (suc n) a bytes less =
    same (once_many one a bytes) (many_once one a bytes) (once_open one a bytes) (λ p is. inl (open_once one a bytes p is))
    (next_read (h.reads a bytes) (each (enough h n)))
  where
    each : ((r : A) (rest : List ℕ) → length rest < n
        → IsReading last_of (many one r rest) (suc (length rest)) (times one n r rest).read) → (x : A × Bool × List ℕ)
        → (one a bytes).spells x → IsReading last_of (further (many one) x) (third_of x) (further (times one n) x).read
    each on (r, true, rest) is = done
    each on (r, false, rest) is = on r rest (omega (arith, h.fewer a bytes (r, false, rest) is refl))

pub many_read : {A : Type 0} {one : Each A} → ReadsOn one → (a : A) (bytes : List ℕ)
    → IsRead last_of (many one a bytes) (suc (length bytes))
many_read h a bytes = enough h (length bytes + 1) a bytes (omega arith)
