-- A production of the grammar, at some bytes: which prefix of them matches it, up to where they are open in it, that is, can
-- still be continued to match, and what is read of them from left to right. This is how productions are put in sequence.
use Rattle.std.specs.Prelude.{◌≡◌, ◌<◌, ℕ, zero, suc, ◌+◌, Bool, true, false, ◌⊎◌, List, [], ◌∷◌, ◌++◌, length, Result, Ok, Err}
use Rattle.std.specs.Prelude.{if◌then◌else◌}
use Rattle.mpd_tree.specs.{declared.stop.Fault.Fault, Positions.{Kind, Position, here, syntax, fault_at}}

infixl 10 ◌>>=◌
abbrev pub ◌>>=◌ : {A B : Type 0} → Result A Fault → (A → Result B Fault) → Result B Fault
(Ok x) >>= f = f x
(Err e) >>= f = Err e

-- what is read is mostly a value and the bytes after it, or the first fault
pub record Production (A : Type 0) : Type 1 where
  pub spells : A → Type 0
  pub is_open : Position → Type 0
  pub read : Result A Fault

-- nothing matches, and no byte is consumed
abbrev pub none : {A : Type 0} → Production A
none = record { spells = λ x. ⊥; is_open = λ p. ⊥; read = Err (syntax []) }

-- the empty match, with this value
abbrev pub just : {A : Type 0} → A → Production A
just x = record { spells = λ y. y ≡ x; is_open = λ p. ⊥; read = Ok x }

-- open at a position, where nothing may follow
abbrev pub refused : {A : Type 0} → Position → Production A
refused q = record { spells = λ x. ⊥; is_open = λ p. p ≡ q; read = Err (fault_at q) }

-- open at a position as well
abbrev pub from : {A : Type 0} → Position → Production A → Production A
from q c = record c { is_open = λ p. (p ≡ q) ⊎ c.is_open p }

-- open before the first byte, on which the rest of the production depends, or where it is rejected
abbrev pub first : {A : Type 0} → Kind → ℕ → List ℕ → (ℕ → List ℕ → Production A → Production A) → Production A
first kind start [] c = refused (record { kind = kind; start = start; rest = [] })
first kind start (b ∷ bs) c =
    let q : Position = record { kind = kind; start = start; rest = b ∷ bs } in from q (c b bs (refused q))

-- within a run of bytes that ends at the rest
pub record IsInRun (bytes rest : List ℕ) (p : Position) : Type 0 where
  pub front : List ℕ
  pub bytes_are : bytes ≡ front ++ p.rest
  pub is_here : p ≡ here p.rest
  pub goes_on : length rest < length p.rest

-- after such a run
abbrev pub behind_run : {A : Type 0} → List ℕ → List ℕ → Production A → Production A
behind_run bytes rest c = record c { is_open = λ p. IsInRun bytes rest p ⊎ c.is_open p }

-- one or the other, by a test
abbrev pub of_two : {A : Type 0} → Bool → Production A → Production A → Production A
of_two true c d = c
of_two false c d = d

abbrev pub choose : {A : Type 0} → Bool → Production A → Production A → Production A
choose t c d = record (of_two t c d) { read = if t then c.read else d.read }

-- one after the other
infixr 20 ◌>>◌
abbrev pub ◌>>◌ : {A B : Type 0} → Production A → (A → Production B) → Production B
◌>>◌ {A = A} c d = record {
  spells = λ y. (x : A) × c.spells x × (d x).spells y;
  is_open = λ p. c.is_open p ⊎ ((x : A) × c.spells x × (d x).is_open p);
  read = c.read >>= λ x. (d x).read;
}

-- read as something else
abbrev pub as_read : {A B : Type 0} → Production A → (A → B) → Production B
as_read {A = A} c f = record {
  spells = λ y. (x : A) × c.spells x × (y ≡ f x);
  is_open = c.is_open;
  read = c.read >>= λ x. Ok (f x);
}

-- one more of a repetition: what is read so far, whether the repetition has ended, and the bytes after it
abbrev pub further : {A : Type 0} → (A → List ℕ → Production (A × List ℕ)) → A × Bool × List ℕ → Production (A × List ℕ)
further more (read, true, rest) = just (read, rest)
further more (read, false, rest) = more read rest

unfoldable pub times : {A : Type 0} → (A → List ℕ → Production (A × Bool × List ℕ)) → ℕ → A → List ℕ → Production (A × List ℕ)
times one zero read bytes = none
times one (suc n) read bytes = one read bytes >> further (times one n)

-- any number of repetitions, each of which except the last consumes a byte
abbrev pub many : {A : Type 0} → (A → List ℕ → Production (A × Bool × List ℕ)) → A → List ℕ → Production (A × List ℕ)
many one read bytes = record {
  spells = λ y. (n : ℕ) × (times one n read bytes).spells y;
  is_open = λ p. (n : ℕ) × (times one n read bytes).is_open p;
  read = (times one (length bytes + 1) read bytes).read;
}
